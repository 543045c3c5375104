-- What holds of all that was found, after each history: it is what one pass over a moment finds.
use Rattle.wt_promise.proofs.Statements.{ClassifiedRightly, DatagramsAsCame}
use Rattle.std.specs.Prelude.{[], ◌&&◌, ◌++◌, ◌∷◌, ◌||◌, ◌≡◌, Bool, List, None, Option, Some, drop, false, if◌then◌else◌, is_none, is_some, length, nat_lt, suc, true, zero, ℕ}
use Rattle.std.proofs.Common.{◌∙◌, ap, arith, refl, subst, sym}
use Rattle.std.proofs.lemmas.List.{append-nil}
use Rattle.wt_meaning.specs.Findings.{Finding, control_in, fault_of, first_of, settings_came}
use Rattle.wt_meaning.specs.History.{History, Pair, contents, events, is_open, with_event}
use Rattle.wt_meaning.specs.Lawful.{is_lawful}
use Rattle.wt_meaning.specs.Moments.{after_checks, after_moments, checks, control_walk, findings, unclassified_before}
use Rattle.wt_message.specs.declared.settings.Settings.{Settings}
use Rattle.wt_promise.proofs.AtRest.{Whole, none-left, rests}
use Rattle.wt_promise.proofs.DatagramReads.{AsCame, came-more, read-of}
use Rattle.wt_promise.proofs.Grows.{findings-add, first_of-stays, news}
use Rattle.wt_promise.proofs.OnePass.{Passed, pass}
use Rattle.wt_promise.proofs.Opened.{open-before}
use Rattle.wt_promise.proofs.OpenStays.{no-fault}
use Rattle.wt_promise.proofs.PassFaults.{late-fault, settings-there}
use Rattle.wt_promise.proofs.Passes.{stopped}
use Rattle.wt_promise.proofs.ReadPieces.{contents-add}
use Rattle.wt_promise.proofs.Ready.{ready-stays}
use Rattle.wt_promise.proofs.Settles.{KeptStreams}
use Rattle.wt_promise.proofs.Shown.{opened-more, shown-stays}
use Rattle.wt_promise.specs.Found.{FaultIsFirst, can_set_up, early_fault, first_fault, streams_fault}
use Rattle.wt_promise.specs.Promise.{IsHistory}
use Rattle.wt_proto.proofs.ControlLaws.{settings_stay}
use Rattle.wt_proto.specs.ControlWalk.{control_walk_of}
use Rattle.wt_turn.specs.Reports.{datagrams_of, end_of}
use Rattle.wt_turn.specs.Log.{Datagram, Event}
use Rattle.wt_turn.specs.Turns.{event_of}
use Rattle.wt_turn.specs.declared.reply.Reply.{Reply}
use Rattle.wt_wire.specs.declared.error.ErrorCode.{ErrorCode}
use Rattle.wt_wire.specs.declared.side.Side.{Side}
use Rattle.wt_turn.specs.declared.reply.Reply.TheVariants as replies

-- ---- what was found holds after the next turn

kept-on : (side : Side) (p : Pair) (h : History) (found : List Finding) → is_lawful side h p.turn ≡ true → KeptStreams side h found → KeptStreams side (p ∷ h) found
kept-on side p h found l g = record {
  shown = λ k v e. let r = g.shown k v e in (r.0, record { opened = opened-more side p h k r.1.opened; shown = shown-stays side p h k v l r.1.final r.1.shown; final = r.1.final });
  read = λ k e. let r = g.read k e in (both (can_set_up side h) (can_set_up side (p ∷ h)) (nat_lt (unclassified_before found k) 4) (ready-stays side p h l) r.0, opened-more side p h k r.1);
}
  where
    both : (a b c : Bool) → (a ≡ true → b ≡ true) → (a && c) ≡ true → (b && c) ≡ true
    both true b c f e = rw (f refl) e
    both false b c f e = absurd (cc e)

came-on : (p : Pair) (h : History) (found : List Finding) → AsCame (datagrams_of (events h)) found → AsCame (datagrams_of (events (p ∷ h))) found
came-on p h found g = by (is_open h) (event_of p.turn)
  where
    by : (b : Bool) (e : Option Event) → AsCame (datagrams_of (if b then with_event e (events h) else events h)) found
    by false e = g
    by true None = g
    by true (Some (Datagram piece)) = came-more (datagrams_of (events h)) (piece ∷ []) found g
    by true (Some x) = g

drop-more : (n : ℕ) (xs ys : List ℕ) → (zs : List ℕ) × (drop n (xs ++ ys) ≡ drop n xs ++ zs)
drop-more zero xs ys = (ys, refl)
drop-more (suc n) [] ys = (drop (suc n) ys, refl)
drop-more (suc n) (x ∷ xs) ys = drop-more n xs ys

-- SETTINGS that the control stream has stay there
there-on : (side : Side) (p : Pair) (h : History) (found new : List Finding) → settings-there side h found ≡ true → settings-there side (p ∷ h) (found ++ new) ≡ true
there-on side p h found new e = by (first_of control_in found) refl e
  where
    by : (o : Option (ℕ × ℕ)) → first_of control_in found ≡ o → is_some (control_walk h o).settings ≡ true → settings-there side (p ∷ h) (found ++ new) ≡ true
    by None q f = absurd (cc f)
    by (Some st) q f = rw (first_of-stays control_in found new st q) (of (control_walk h (Some st)).settings refl f)
      where
        of : (s : Option Settings) → (control_walk h (Some st)).settings ≡ s → is_some s ≡ true → is_some (control_walk (p ∷ h) (Some st)).settings ≡ true
        of None x y = absurd (cc y)
        of (Some s) x y =
            let c = contents-add p h st.0 in
            let d = drop-more st.1 (contents h st.0) c.0 in
            ap is_some (ap (λ (bytes : List ℕ). (control_walk_of bytes (end_of (events (p ∷ h)) st.0)).settings) (ap (drop st.1) c.1 ∙ d.1)
            ∙ settings_stay (drop st.1 (contents h st.0)) d.0 (end_of (events h) st.0) (end_of (events (p ∷ h)) st.0) s x)

-- ---- all that is known

pub record Facts (side : Side) (h : History) : Type 0 where
  pub kept : KeptStreams side h (findings side h)
  pub came : AsCame (datagrams_of (events h)) (findings side h)
  pub unread : can_set_up side h ≡ false → length (read-of (findings side h)) ≡ 0
  pub there : settings_came (findings side h) ≡ true → settings-there side h (findings side h) ≡ true
  pub whole : is_open h ≡ true → Whole side h (findings side h)

-- a pass without a fault finds all
whole-of : (side : Side) (h : History) (found later : List Finding) → Passed side h found later → fault_of later ≡ None → Whole side h later
whole-of side h found later q f = record {
  unis = q.unis_settled f;
  bis = q.bis_settled f;
  read = λ r. q.read f ∙ ap (λ (b : Bool). if b then length (datagrams_of (events h)) else length (read-of found)) r;
  quiet = q.quiet f;
  fault = none;
  settings = λ t. q.settings ∙ of (settings_came found) (early_fault side h later) (settings-there side h later) (none-left (early_fault side h later) (late-fault side h later) none) t;
}
  where
    none : first_fault side h later ≡ None
    none = sym q.fault ∙ f

    of : (b : Bool) (o : Option ErrorCode) (t : Bool) → o ≡ None → t ≡ true → (b || (is_none o && t)) ≡ true
    of true o t e x = refl
    of false None t e x = x
    of false (Some code) t e x = absurd (cc e)

-- what was found once the connection had ended
pub ended-found : (side : Side) (p : Pair) (h : History) → is_open h ≡ false → findings side (p ∷ h) ≡ findings side h
unfolding findings
ended-found side p h o = ap (λ (b : Bool). if b then after_moments side (p ∷ h) p.answer.reply (findings side h) else findings side h) o

-- what a moment of an open connection finds is what one pass finds
pub open-found : (side : Side) (p : Pair) (h : History) → is_open h ≡ true → Passed side (p ∷ h) (findings side h) (after_checks side (p ∷ h) (checks side (p ∷ h)) (findings side h))
    → findings side (p ∷ h) ≡ after_checks side (p ∷ h) (checks side (p ∷ h)) (findings side h)
unfolding findings
open-found side p h o q = ap (λ (b : Bool). if b then after_moments side (p ∷ h) p.answer.reply (findings side h) else findings side h) o ∙ by p.answer.reply
  where
    once : List Finding
    once = after_checks side (p ∷ h) (checks side (p ∷ h)) (findings side h)

    twice : (f : Option ErrorCode) → fault_of once ≡ f → after_checks side (p ∷ h) (checks side (p ∷ h)) once ≡ once
    twice (Some code) e = stopped side (p ∷ h) (checks side (p ∷ h)) once code e
    twice None e = rests side (p ∷ h) once (whole-of side (p ∷ h) (findings side h) once q e)

    by : (r : Reply) → after_moments side (p ∷ h) r (findings side h) ≡ once
    by (replies.Session id) = twice (fault_of once) refl
    by r = refl

-- the pass of the newest moment
pub open-pass : (side : Side) (p : Pair) (h : History) → IsHistory side (p ∷ h) → is_open h ≡ true → Facts side h
    → Passed side (p ∷ h) (findings side h) (after_checks side (p ∷ h) (checks side (p ∷ h)) (findings side h))
open-pass side p h i o f =
    pass side (p ∷ h) (findings side h) (kept-on side p h (findings side h) i.0 f.kept) (came-on p h (findings side h) f.came)
    (none ∙ sym (none-left (streams_fault (findings side h)) _ (none-left (early_fault side h (findings side h)) (late-fault side h (findings side h)) (f.whole o).fault))) none
  where
    none : fault_of (findings side h) ≡ None
    none = no-fault side h i.2 o

pub one-pass : (side : Side) (p : Pair) (h : History) → IsHistory side (p ∷ h) → is_open h ≡ true → Facts side h → Passed side (p ∷ h) (findings side h) (findings side (p ∷ h))
one-pass side p h i o f =
    subst (λ (later : List Finding). Passed side (p ∷ h) (findings side h) later) (sym (open-found side p h o (open-pass side p h i o f))) (open-pass side p h i o f)

facts-after : (side : Side) (p : Pair) (h : History) → IsHistory side (p ∷ h) → Facts side h → Facts side (p ∷ h)
facts-after side p h i f = by (is_open h) refl
  where
    not-before : can_set_up side (p ∷ h) ≡ false → can_set_up side h ≡ false
    not-before e = of (can_set_up side h) refl
      where
        of : (b : Bool) → can_set_up side h ≡ b → can_set_up side h ≡ false
        of false r = r
        of true r = absurd (let q = sym (ready-stays side p h i.0 r) ∙ e in cc q)

    ended : is_open h ≡ false → is_open (p ∷ h) ≡ true → ⊥
    ended o q = let r = sym (open-before p h q) ∙ o in cc r

    by : (b : Bool) → is_open h ≡ b → Facts side (p ∷ h)
    by false o =
        let same = ended-found side p h o in
        record {
          kept = rw same (kept-on side p h (findings side h) i.0 f.kept);
          came = rw same (came-on p h (findings side h) f.came);
          unread = λ e. rw same (f.unread (not-before e));
          there = λ e. ap (settings-there side (p ∷ h)) (same ∙ sym (append-nil (findings side h))) ∙ there-on side p h (findings side h) [] (f.there (sym (ap settings_came same) ∙ e));
          whole = λ q. absurd (ended o q);
        }
    by true o =
        let q = one-pass side p h i o f in
        record {
          kept = q.kept;
          came = q.came;
          unread = λ e. ap length (q.unread e) ∙ f.unread (not-before e);
          there = λ e. of (settings_came (findings side h)) (early_fault side (p ∷ h) (findings side (p ∷ h))) refl (sym q.settings ∙ e);
          whole = λ r. whole-of side (p ∷ h) (findings side h) (findings side (p ∷ h)) q (no-fault side (p ∷ h) i r);
        }
      where
        of : (b : Bool) (x : Option ErrorCode) → settings_came (findings side h) ≡ b → (b || (is_none x && settings-there side (p ∷ h) (findings side (p ∷ h)))) ≡ true → settings-there side (p ∷ h) (findings side (p ∷ h)) ≡ true
        of true x c e = ap (settings-there side (p ∷ h)) (findings-add side p h) ∙ there-on side p h (findings side h) (news side p h) (f.there c)
        of false None c e = e
        of false (Some code) c e = absurd (cc e)

facts-first : (side : Side) → Facts side []
unfolding findings
facts-first side = record {
  kept = record { shown = λ k v e. absurd (cc e); read = λ k e. absurd (cc e) };
  came = record { same = refl; few = omega arith };
  unread = λ e. refl;
  there = λ e. absurd (cc e);
  whole = λ o. record {
    unis = λ i b. absurd (omega (arith, b));
    bis = λ i b. absurd (omega (arith, b));
    read = λ r. absurd (cc r);
    quiet = λ t m l. absurd (cc l);
    fault = refl;
    settings = λ t. t;
  };
}

pub facts : (side : Side) (h : History) → IsHistory side h → Facts side h
facts side [] i = facts-first side
facts side (p ∷ h) i = facts-after side p h i (facts side h i.2)

-- ---- sentences

pub classified_rightly : (side : Side) (h : History) → IsHistory side h → ClassifiedRightly side h
classified_rightly side h i k v e = ((facts side h i).kept.shown k v e).1

pub datagrams_as_came : (side : Side) (h : History) → IsHistory side h → DatagramsAsCame side h
datagrams_as_came side h i = (facts side h i).came.same

pub fault_is_first : (side : Side) (p : Pair) (h : History) → IsHistory side (p ∷ h) → is_open h ≡ true → FaultIsFirst side p h
fault_is_first side p h i o = let q = one-pass side p h i o (facts side h i.2) in record { fault = q.fault; settings = q.settings }
