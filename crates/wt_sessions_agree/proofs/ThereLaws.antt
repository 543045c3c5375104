-- A stream that was dequeued is there; so is that of every established session, which is a bidirectional one that the client opened.
use Rattle.std.specs.Prelude.{[], ◌%◌, ◌&&◌, ◌*◌, ◌++◌, ◌+◌, ◌/◌, ◌<◌, ◌==◌, ◌||◌, ◌∷◌, ◌≡◌, ◌≤◌, Bool, List, None, Option, Some, false, if◌then◌else◌, is_some, map, nat_lt, not, suc, true, zero, ℕ}
use Rattle.std.specs.List.{cons_option, list_all, list_any}
use Rattle.std.proofs.Common.{◌∙◌, ap, arith, refl, sym}
use Rattle.std.proofs.lemmas.Bool.{eqb-true, lt-ltb, ltb-true}
use Rattle.std.proofs.lemmas.List.Folds.{list_all-append, list_any-append}
use Rattle.wt_meaning.specs.Findings.{Dequeued, Finding, dequeues, fault_of, is_dequeued}
use Rattle.wt_meaning.specs.History.{History, all_events, events, exists, is_open, stream_count, with_event}
use Rattle.wt_meaning.specs.Moments.{Check, Dequeue, WalkSession, after_checks, after_moments, checks, datagram_checks, findings, found_by, ids_from, is_ready, stream_checks, unclassified_before}
use Rattle.wt_meaning.specs.Windows.{is_established}
use Rattle.wt_promise.proofs.Accepted.{and-left, and-right}
use Rattle.wt_promise.proofs.Fresh.{established-opened, nth-of}
use Rattle.wt_promise.proofs.HandedOut.{only-peers}
use Rattle.wt_promise.proofs.Stays.{exists-stays}
use Rattle.wt_promise.specs.Promise.{IsHistory}
use Rattle.wt_proto.specs.declared.verdict.Verdict.{Verdict}
use Rattle.wt_turn.specs.Reports.{datagrams_of}
use Rattle.wt_turn.specs.Streams.{one_more_if, peer_bi, peer_count, peer_opens, peer_uni}
use Rattle.wt_sessions_agree.proofs.Few.{dequeues-none, is-other, none-dequeued, plain-other}
use Rattle.wt_sessions_agree.proofs.PartLaws.{ByRequest, ByResponse, Parted, parted}
use Rattle.wt_sessions_agree.proofs.StreamKinds.{bi-small, uni-small}
use Rattle.wt_turn.specs.Log.{Event}
use Rattle.wt_turn.specs.Turns.{event_of}
use Rattle.wt_turn.specs.declared.reply.Reply.{Reply}
use Rattle.wt_wire.specs.Ids.{is_bidirectional}
use Rattle.wt_wire.specs.declared.side.Side.{Side}
use Rattle.wt_wire.specs.declared.side.Side.TheVariants.{Client, Server}
use Rattle.wt_turn.specs.declared.reply.Reply.TheVariants as replies

-- ---- what counted came

peers-most : (side : Side) (h : History) (kind : ℕ) → peer_count side (events h) kind ≤ peer_count side (all_events h) kind
peers-most side [] kind = omega arith
peers-most side (p ∷ h) kind = by (is_open h) (event_of p.turn) (peers-most side h kind)
  where
    both : (b : Bool) (m n : ℕ) → m ≤ n → one_more_if b m ≤ one_more_if b n
    both true m n le = omega (arith, le)
    both false m n le = le

    later : (b : Bool) (m n : ℕ) → m ≤ n → m ≤ one_more_if b n
    later true m n le = omega (arith, le)
    later false m n le = le

    by : (b : Bool) (v : Option Event) → peer_count side (events h) kind ≤ peer_count side (all_events h) kind
        → peer_count side (if b then with_event v (events h) else events h) kind ≤ peer_count side (cons_option v (all_events h)) kind
    by true None le = le
    by false None le = le
    by true (Some e) le = both (peer_opens side kind e) (peer_count side (events h) kind) (peer_count side (all_events h) kind) le
    by false (Some e) le = later (peer_opens side kind e) (peer_count side (events h) kind) (peer_count side (all_events h) kind) le

-- ---- the checks ask of streams that are there

-- the check is of a stream that is there, or dequeues none
abbrev asks-there : Side → History → Check → Bool
asks-there side h (Dequeue k) = exists side h k
asks-there side h _ = true

module _ (side : Side) (h : History) where
  ids-there : (kind n c : ℕ) → kind < 4 → n + c ≤ stream_count side h kind → list_all (asks-there side h) (stream_checks (ids_from kind n c)) ≡ true
  ids-there kind n zero small le = refl
  ids-there kind n (suc c) small le =
      let o = nth-of n kind small in
      let e : exists side h (4 * n + kind) ≡ true = lt-ltb ((4 * n + kind) / 4) (stream_count side h ((4 * n + kind) % 4)) (rw (o.0, o.1) (omega (arith, le))) in
      rw (e, ids-there kind (suc n) c small (omega (arith, le))) refl

  pieces-there : (n : ℕ) (pieces : List (List ℕ)) → list_all (asks-there side h) (datagram_checks n pieces) ≡ true
  pieces-there n [] = refl
  pieces-there n (piece ∷ later) = pieces-there (suc n) later

  sessions-there : (ids : List ℕ) → list_all (asks-there side h) (map WalkSession ids) ≡ true
  sessions-there [] = refl
  sessions-there (s ∷ ids) = sessions-there ids

  all-append : (xs ys : List Check) → list_all (asks-there side h) xs ≡ true → list_all (asks-there side h) ys ≡ true → list_all (asks-there side h) (xs ++ ys) ≡ true
  all-append xs ys a b = list_all-append (asks-there side h) xs ys ∙ rw (a, b) refl

  within : (kind : ℕ) → 0 + peer_count side (events h) kind ≤ stream_count side h kind
  within kind = let m = peers-most side h kind in omega (arith, m)

  checks-there : list_all (asks-there side h) (checks side h) ≡ true
  checks-there =
      all-append (((unis ++ bis) ++ pieces) ++ sessions) _
      (all-append ((unis ++ bis) ++ pieces) sessions
      (all-append (unis ++ bis) pieces
      (all-append unis bis (ids-there (peer_uni side) 0 (peer_count side (events h) (peer_uni side)) (uni-small side) (within (peer_uni side)))
      (ids-there (peer_bi side) 0 (peer_count side (events h) (peer_bi side)) (bi-small side) (within (peer_bi side))))
      (pieces-there 0 (datagrams_of (events h)))) (sessions-there (ids_from 0 0 (stream_count side h 0)))) refl
    where
      unis : List Check
      unis = stream_checks (ids_from (peer_uni side) 0 (peer_count side (events h) (peer_uni side)))

      bis : List Check
      bis = stream_checks (ids_from (peer_bi side) 0 (peer_count side (events h) (peer_bi side)))

      pieces : List Check
      pieces = datagram_checks 0 (datagrams_of (events h))

      sessions : List Check
      sessions = map WalkSession (ids_from 0 0 (stream_count side h 0))

  -- every stream that was dequeued is there
  abbrev AllThere : List Finding → Type 0
  AllThere found = (k : ℕ) → is_dequeued found k ≡ true → exists side h k ≡ true

  plain-there : (new found : List Finding) → list_all dequeues-none new ≡ true → AllThere found → AllThere (found ++ new)
  plain-there new found e there k d = there k (old (is_dequeued found k) (list_any (dequeues k) new) (none new e) (sym (list_any-append (dequeues k) found new) ∙ d))
    where
      none : (fs : List Finding) → list_all dequeues-none fs ≡ true → list_any (dequeues k) fs ≡ false
      none [] q = refl
      none (f ∷ fs) q = rw (none-dequeued f (and-left (dequeues-none f) (list_all dequeues-none fs) q) k, none fs (and-right (dequeues-none f) (list_all dequeues-none fs) q)) refl

      old : (a b : Bool) → b ≡ false → (a || b) ≡ true → a ≡ true
      old true b q r = refl
      old false b q r = absurd (cc (sym q ∙ r))

  check-there : (c : Check) (found : List Finding) → asks-there side h c ≡ true → (o : Bool) → is-other c ≡ o → AllThere found → AllThere (found ++ found_by side h found c)
  check-there c found e true o there = plain-there (found_by side h found c) found (plain-other side h found c o) there
  check-there (Dequeue j) found e false o there = by (not (is_dequeued found j) && is_ready side h && nat_lt (unclassified_before found j) 4)
    where
      new : AllThere (found ++ Dequeued j ∷ [])
      new k d = at (is_dequeued found k) (j == k) refl refl (sym (list_any-append (dequeues k) found (Dequeued j ∷ [])) ∙ d)
        where
          at : (a b : Bool) → is_dequeued found k ≡ a → (j == k) ≡ b → (a || (b || false)) ≡ true → exists side h k ≡ true
          at true b q r s = there k q
          at false true q r s = ap (exists side h) (sym (eqb-true j k r)) ∙ e
          at false false q r s = absurd (cc s)

      by : (b : Bool) → AllThere (found ++ (if b then Dequeued j ∷ [] else []))
      by true = new
      by false = plain-there [] found refl there
  check-there c found e false o there = absurd (cc o)

  after-there : (cs : List Check) (found : List Finding) → list_all (asks-there side h) cs ≡ true → AllThere found → AllThere (after_checks side h cs found)
  after-there [] found a there = there
  after-there (c ∷ cs) found a there =
      by (is_some (fault_of found)) (after-there cs (found ++ found_by side h found c) (and-right (asks-there side h c) (list_all (asks-there side h) cs) a)
      (check-there c found (and-left (asks-there side h c) (list_all (asks-there side h) cs) a) (is-other c) refl there))
    where
      by : (b : Bool) → AllThere (after_checks side h cs (found ++ found_by side h found c)) → AllThere (if b then found else after_checks side h cs (found ++ found_by side h found c))
      by true again = there
      by false again = again

  moments-there : (r : Reply) (found : List Finding) → AllThere found → AllThere (after_moments side h r found)
  moments-there (replies.Session id) found there = after-there (checks side h) (after_checks side h (checks side h) found) checks-there (after-there (checks side h) found checks-there there)
  moments-there r found there = after-there (checks side h) found checks-there there

-- a stream that was dequeued is there
pub dequeued-there : (side : Side) (h : History) (k : ℕ) → is_dequeued (findings side h) k ≡ true → exists side h k ≡ true
unfolding findings
dequeued-there side [] k e = absurd (cc e)
dequeued-there side (p ∷ h) k e = by (is_open h) (λ j d. exists-stays side p h j (dequeued-there side h j d)) k e
  where
    by : (b : Bool) → AllThere side (p ∷ h) (findings side h) → AllThere side (p ∷ h) (if b then after_moments side (p ∷ h) p.answer.reply (findings side h) else findings side h)
    by true before = moments-there side (p ∷ h) p.answer.reply (findings side h) before
    by false before = before

-- ---- established sessions

-- the id of a bidirectional stream that the client opens
pub record IsFirstKind (side : Side) (h : History) (k : ℕ) : Type 0 where
  pub kind : k % 4 ≡ 0
  pub there : k / 4 < stream_count side h 0

by-exists : (side : Side) (h : History) (k : ℕ) → k % 4 ≡ 0 → exists side h k ≡ true → IsFirstKind side h k
by-exists side h k z e = record { kind = z; there = ltb-true (k / 4) (stream_count side h 0) (ap (λ (n : ℕ). nat_lt (k / 4) (stream_count side h n)) (sym z) ∙ e) }

pub server-kind : (k : ℕ) → ((k % 4 == 2) || (k % 4 == 0)) ≡ true → is_bidirectional k ≡ true → k % 4 ≡ 0
server-kind k p b = by (k % 4 == 2) (k % 4 == 0) refl refl p
  where
    by : (x y : Bool) → (k % 4 == 2) ≡ x → (k % 4 == 0) ≡ y → (x || y) ≡ true → k % 4 ≡ 0
    by x true e f q = eqb-true (k % 4) 0 f
    by true false e f q = let two = eqb-true (k % 4) 2 e in let bi = eqb-true (k / 2 % 2) 0 b in absurd (omega (arith, two, bi))
    by false false e f q = absurd (cc q)

pub established-there : (side : Side) (h : History) → IsHistory side h → (k : ℕ) → is_established h k ≡ true → IsFirstKind side h k
established-there side h i k e = by side i (parted side h i k e)
  where
    by : (s : Side) → IsHistory s h → Parted s h k → IsFirstKind s h k
    by Server j (ByRequest r c) =
        by-exists Server h k (server-kind k (only-peers Server h k (ap (λ (v : Option Verdict). is_some v) r.is_verdict)) r.is_bi) (dequeued-there Server h k r.came)
    by Client j (ByRequest r c) = absurd (cc c)
    by Server j (ByResponse fields at w z c) = absurd (cc c)
    by Client j (ByResponse fields at w z c) = record { kind = rw z refl; there = let o = established-opened h j k e in omega (arith, o, z) }

-- behind the streams none is
pub none-behind : (side : Side) (h : History) → IsHistory side h → (m : ℕ) → stream_count side h 0 ≤ m → is_established h (4 * m + 0) ≡ false
none-behind side h i m le = by (is_established h (4 * m + 0)) refl
  where
    by : (b : Bool) → is_established h (4 * m + 0) ≡ b → b ≡ false
    by false e = refl
    by true e = let t = (established-there side h i (4 * m + 0) e).there in absurd (omega (arith, t, le))
