-- What would wait on a stream still would after a turn that isn't about it.
use Rattle.std.specs.Prelude.{[], ◌%◌, ◌&&◌, ◌++◌, ◌==◌, ◌∷◌, ◌||◌, ◌≡◌, Bool, List, None, Option, Some, false, if◌then◌else◌, is_some, not, true, ℕ}
use Rattle.std.specs.List.{list_any}
use Rattle.std.specs.Option.{option_or}
use Rattle.std.proofs.Common.{◌∙◌, ap, refl, subst, sym}
use Rattle.std.proofs.lemmas.Bool.{eqb-true}
use Rattle.std.proofs.lemmas.List.{append-nil}
use Rattle.wt_meaning.specs.Calls.{opened_by}
use Rattle.wt_meaning.specs.Findings.{first_of, verdict_of}
use Rattle.wt_meaning.specs.Halves.{has_receiving, has_sending, is_done, read_by, unread, was_read}
use Rattle.wt_meaning.specs.History.{History, Pair, actions_out, answers_reset, answers_stop, contents, credit_left, events, hands_out, is_given_up, is_handed_out, is_open, is_reset, is_reset_of, out, was_finished, with_bytes, with_event}
use Rattle.wt_meaning.specs.Lawful.{is_lawful}
use Rattle.wt_meaning.specs.Meaning.{next}
use Rattle.wt_meaning.specs.Moments.{findings}
use Rattle.wt_promise.proofs.Accepted.{and-left, and-right, or-left, or-right, or-true}
use Rattle.wt_promise.proofs.BytesOut.{none-on, out-add, sends}
use Rattle.wt_promise.proofs.Polls.{call-waits}
use Rattle.wt_promise.proofs.Flow.{clash}
use Rattle.wt_promise.proofs.Grows.{is_peers}
use Rattle.wt_promise.proofs.HandedOut.{admitted-classified, only-peers, opened-local, verdict-stays}
use Rattle.wt_promise.proofs.Stays.{any-newest}
use Rattle.wt_promise.proofs.Verdicts.{ByAccept, ByOpening, HandedBy, handed-by}
use Rattle.wt_promise.specs.Promise.{IsHistory, acts_on}
use Rattle.wt_promise.specs.Sides.{StillWaits, is_about, waits_on}
use Rattle.wt_promise.proofs.Waits.{nothing_left}
use Rattle.wt_proto.specs.declared.verdict.Verdict.{Verdict}
use Rattle.wt_turn.specs.Reports.{credit, end_of, is_acknowledged, stop_of}
use Rattle.wt_turn.specs.Sent.{finishes}
use Rattle.wt_turn.specs.Streams.{local_uni, peer_uni}
use Rattle.wt_turn.specs.Log.{Event}
use Rattle.wt_turn.specs.Turns.{event_of}
use Rattle.wt_turn.specs.declared.action.Action.{Action}
use Rattle.wt_turn.specs.declared.call.Call.{Call}
use Rattle.wt_turn.specs.declared.reply.Reply.{Reply}
use Rattle.wt_turn.specs.declared.turn.Turn.{Turn}
use Rattle.wt_wire.specs.declared.side.Side.{Side}
use Rattle.wt_turn.specs.declared.action.Action.TheVariants as actions
use Rattle.wt_turn.specs.declared.call.Call.TheVariants as calls
use Rattle.wt_turn.specs.declared.reply.Reply.TheVariants as replies
use Rattle.wt_turn.specs.declared.turn.Turn.TheVariants as turns

-- ---- what the turn says of the stream

pub record EventsSame (k : ℕ) (now before : List Event) : Type 0 where
  pub end : end_of now k ≡ end_of before k
  pub stop : stop_of now k ≡ stop_of before k
  pub acknowledged : is_acknowledged now k ≡ is_acknowledged before k
  pub credits : credit now k ≡ credit before k

pub events-turn : (k : ℕ) (turn : Turn) (es : List Event) → is_about k turn ≡ false → EventsSame k (with_event (event_of turn) es) es
events-turn k (turns.Connected u b t f) es e = absurd (cc e)
events-turn k (turns.End id) es e = record { end = rw e refl; stop = refl; acknowledged = refl; credits = refl }
events-turn k (turns.Reset id code) es e = record { end = rw e refl; stop = refl; acknowledged = refl; credits = refl }
events-turn k (turns.Stop id code) es e = record { end = refl; stop = rw e refl; acknowledged = refl; credits = refl }
events-turn k (turns.Acked id) es e = record { end = refl; stop = refl; acknowledged = rw e refl; credits = refl }
events-turn k (turns.MaxData id total) es e = record { end = refl; stop = refl; acknowledged = refl; credits = rw e refl }
events-turn k turn es e = record { end = refl; stop = refl; acknowledged = refl; credits = refl }

pub bytes-turn : (k : ℕ) (turn : Turn) (bytes : List ℕ) → is_about k turn ≡ false → with_bytes k turn bytes ≡ bytes
bytes-turn k (turns.Bytes id piece) bytes e = rw e refl
bytes-turn k turn bytes e = refl

no-reset : (k : ℕ) (turn : Turn) (r : Reply) → is_about k turn ≡ false → answers_reset k turn r ≡ false
no-reset k (turns.Call (calls.ResetSend id code)) replies.Done e = e
no-reset k (turns.Call (calls.ResetSend id code)) r e = refl
no-reset k (turns.Call c) r e = refl
no-reset k turn r e = refl

no-stop : (k : ℕ) (turn : Turn) (r : Reply) → is_about k turn ≡ false → answers_stop k turn r ≡ false
no-stop k (turns.Call (calls.StopRecv id code)) replies.Done e = e
no-stop k (turns.Call (calls.StopRecv id code)) r e = refl
no-stop k (turns.Call c) r e = refl
no-stop k turn r e = refl

no-read : (k : ℕ) (turn : Turn) (r : Reply) → is_about k turn ≡ false → read_by k turn r ≡ []
no-read k (turns.Call (calls.Read id size)) (replies.Read (Some piece)) e = rw e refl
no-read k (turns.Call (calls.Read id size)) r e = refl
no-read k (turns.Call (calls.ReadExact id size)) (replies.Exact piece) e = rw e refl
no-read k (turns.Call (calls.ReadExact id size)) (replies.ExactFailed x piece) e = rw e refl
no-read k (turns.Call (calls.ReadExact id size)) r e = refl
no-read k (turns.Call c) r e = refl
no-read k turn r e = refl

-- ---- what goes out

any-less : (test other : Action → Bool) → ((x : Action) → test x ≡ false → other x ≡ false) → (as_ : List Action) → list_any test as_ ≡ false → list_any other as_ ≡ false
any-less test other f [] e = refl
any-less test other f (x ∷ as_) e = rw (f x (or-left (test x) (list_any test as_) e), any-less test other f as_ (or-right (test x) (list_any test as_) e)) refl

acts-finishes : (k : ℕ) (x : Action) → acts_on k x ≡ false → finishes k x ≡ false
acts-finishes k (actions.Finish id) e = or-left (id == k) false e
acts-finishes k x e = refl

acts-sends : (k : ℕ) (x : Action) → acts_on k x ≡ false → sends k x ≡ false
acts-sends k (actions.Send id piece) e = or-left (id == k) false e
acts-sends k x e = refl

acts-resets : (k : ℕ) (x : Action) → acts_on k x ≡ false → is_reset_of k x ≡ false
acts-resets k (actions.ResetOut id code) e = e
acts-resets k x e = refl

module _ (side : Side) (p : Pair) (h : History) (i : IsHistory side (p ∷ h)) (k : ℕ) (n : is_about k p.turn ≡ false) (q : list_any (acts_on k) p.answer.actions ≡ false) where
  events-same : EventsSame k (events (p ∷ h)) (events h)
  events-same = by (is_open h)
    where
      by : (b : Bool) → EventsSame k (if b then with_event (event_of p.turn) (events h) else events h) (events h)
      by true = events-turn k p.turn (events h) n
      by false = record { end = refl; stop = refl; acknowledged = refl; credits = refl }

  contents-same : contents (p ∷ h) k ≡ contents h k
  contents-same = by (is_open h)
    where
      by : (b : Bool) → (if b then with_bytes k p.turn (contents h k) else contents h k) ≡ contents h k
      by true = bytes-turn k p.turn (contents h k) n
      by false = refl

  finished-same : was_finished (p ∷ h) k ≡ was_finished h k
  finished-same = any-newest (finishes k) p.answer.actions (actions_out h) ∙ ap (λ (b : Bool). b || was_finished h k) (any-less (acts_on k) (finishes k) (acts-finishes k) p.answer.actions q)

  reset-same : is_reset (p ∷ h) k ≡ is_reset h k
  reset-same =
      rw (any-newest (is_reset_of k) p.answer.actions (actions_out h), any-less (acts_on k) (is_reset_of k) (acts-resets k) p.answer.actions q, no-reset k p.turn p.answer.reply n) refl

  given-same : is_given_up (p ∷ h) k ≡ is_given_up h k
  given-same = ap (λ (b : Bool). b || is_given_up h k) (no-stop k p.turn p.answer.reply n)

  read-same : was_read (p ∷ h) k ≡ was_read h k
  read-same = ap (λ (l : List ℕ). was_read h k ++ l) (no-read k p.turn p.answer.reply n) ∙ append-nil (was_read h k)

  out-same : out (p ∷ h) k ≡ out h k
  out-same = out-add p h k ∙ ap (λ (l : List ℕ). out h k ++ l) (none-on k p.answer.actions (any-less (acts_on k) (sends k) (acts-sends k) p.answer.actions q)) ∙ append-nil (out h k)

  handed-later : is_handed_out h k ≡ true → is_handed_out (p ∷ h) k ≡ true
  handed-later e = ap (λ (b : Bool). hands_out k p.answer.reply || b) e ∙ or-true (hands_out k p.answer.reply)

  verdict-same : is_handed_out h k ≡ true → verdict_of (findings side (p ∷ h)) k ≡ verdict_of (findings side h) k
  verdict-same e = by (handed-by side h i.2 k e)
    where
      some : (o : Option Verdict) → verdict_of (findings side h) k ≡ o → is_some o ≡ true → verdict_of (findings side (p ∷ h)) k ≡ verdict_of (findings side h) k
      some (Some v) x y = verdict-stays side p h k v x ∙ sym x
      some None x y = absurd (cc y)

      none : (g : History) → IsHistory side g → is_some (first_of (λ (x : Pair). opened_by k x.turn x.answer.reply) g) ≡ true → verdict_of (findings side g) k ≡ None
      none g j f = of (verdict_of (findings side g) k) refl
        where
          of : (o : Option Verdict) → verdict_of (findings side g) k ≡ o → verdict_of (findings side g) k ≡ None
          of None x = x
          of (Some v) x = absurd (clash (is_peers side k) (only-peers side g k (ap is_some x)) (opened-local side g j k f))

      by : HandedBy side h k → verdict_of (findings side (p ∷ h)) k ≡ verdict_of (findings side h) k
      by (ByAccept s a) = some (verdict_of (findings side h) k) refl (admitted-classified s k (findings side h) a)
      by (ByOpening o) = none (p ∷ h) i (later (opened_by k p.turn p.answer.reply)) ∙ sym (none h i.2 o)
        where
          later : (x : Option (Option ℕ)) → is_some (option_or x (first_of (λ (y : Pair). opened_by k y.turn y.answer.reply) h)) ≡ true
          later None = o
          later (Some name) = refl

  unread-same : is_handed_out h k ≡ true → unread side (p ∷ h) k ≡ unread side h k
  unread-same e = rw (verdict-same e, read-same, contents-same) refl

  -- ---- calls

  sending-later : has_sending side h k ≡ true → has_sending side (p ∷ h) k ≡ true
  sending-later e = by (is_handed_out h k) (k % 4 == peer_uni side) refl e
    where
      by : (a b : Bool) → is_handed_out h k ≡ a → (a && not b) ≡ true → (is_handed_out (p ∷ h) k && not b) ≡ true
      by true b x y = ap (λ (c : Bool). c && not b) (handed-later x) ∙ y
      by false b x y = absurd (cc y)

  receiving-later : has_receiving side h k ≡ true → has_receiving side (p ∷ h) k ≡ true
  receiving-later e = rw given-same (by (is_handed_out h k) (k % 4 == local_uni side) (is_given_up h k) refl e)
    where
      by : (a b c : Bool) → is_handed_out h k ≡ a → (a && not b && not c) ≡ true → (is_handed_out (p ∷ h) k && not b && not c) ≡ true
      by true b c x y = ap (λ (d : Bool). d && not b && not c) (handed-later x) ∙ y
      by false b c x y = absurd (cc y)

  both : (a b c d : Bool) → (a ≡ true → c ≡ true) → (a ≡ true → d ≡ b) → (a && b) ≡ true → (c && d) ≡ true
  both true b c d f g e = rw (f refl, g refl) e
  both false b c d f g e = absurd (cc e)

  handed-of : has_receiving side h k ≡ true → is_handed_out h k ≡ true
  handed-of e = and-left (is_handed_out h k) (not (k % 4 == local_uni side)) (and-left (is_handed_out h k && not (k % 4 == local_uni side)) (not (is_given_up h k)) e)

  done-same : is_done (p ∷ h) k ≡ is_done h k
  done-same = rw (reset-same, finished-same, events-same.acknowledged) refl

  credit-same : credit_left (p ∷ h) k ≡ credit_left h k
  credit-same = rw (events-same.credits, out-same) refl

  still : (call : Call) → waits_on k call ≡ true → nothing_left side h call ≡ true → nothing_left side (p ∷ h) call ≡ true
  still (calls.Write id bytes) w e = subst (λ (j : ℕ). nothing_left side (p ∷ h) (calls.Write j bytes) ≡ true) (sym (eqb-true id k w))
      (both _ _ _ _ sending-later (λ x. rw (finished-same, reset-same, events-same.stop, credit-same) refl) (subst (λ (j : ℕ). nothing_left side h (calls.Write j bytes) ≡ true) (eqb-true id k w) e))
  still (calls.Finish id) w e = subst (λ (j : ℕ). nothing_left side (p ∷ h) (calls.Finish j) ≡ true) (sym (eqb-true id k w))
      (both _ _ _ _ sending-later (λ x. rw (events-same.stop, done-same) refl) (subst (λ (j : ℕ). nothing_left side h (calls.Finish j) ≡ true) (eqb-true id k w) e))
  still (calls.Stopped id) w e = subst (λ (j : ℕ). nothing_left side (p ∷ h) (calls.Stopped j) ≡ true) (sym (eqb-true id k w))
      (both _ _ _ _ sending-later (λ x. rw (events-same.stop, done-same) refl) (subst (λ (j : ℕ). nothing_left side h (calls.Stopped j) ≡ true) (eqb-true id k w) e))
  still (calls.Read id size) w e = subst (λ (j : ℕ). nothing_left side (p ∷ h) (calls.Read j size) ≡ true) (sym (eqb-true id k w))
      (both _ _ _ _ receiving-later (λ x. rw (unread-same (handed-of x), events-same.end) refl) (subst (λ (j : ℕ). nothing_left side h (calls.Read j size) ≡ true) (eqb-true id k w) e))
  still (calls.ReadExact id size) w e = subst (λ (j : ℕ). nothing_left side (p ∷ h) (calls.ReadExact j size) ≡ true) (sym (eqb-true id k w))
      (both _ _ _ _ receiving-later (λ x. rw (unread-same (handed-of x), events-same.end) refl) (subst (λ (j : ℕ). nothing_left side h (calls.ReadExact j size) ≡ true) (eqb-true id k w) e))
  still call w e = absurd (cc w)

-- such a call may come after any turn
may-wait : (side : Side) (p : Pair) (h : History) (k : ℕ) (call : Call) → waits_on k call ≡ true → is_lawful side (p ∷ h) (turns.Call call) ≡ true
may-wait side p h k (calls.Write id bytes) w = refl
may-wait side p h k (calls.Finish id) w = refl
may-wait side p h k (calls.Stopped id) w = refl
may-wait side p h k (calls.Read id size) w = refl
may-wait side p h k (calls.ReadExact id size) w = refl
may-wait side p h k call w = absurd (cc w)

pub still_waits : (side : Side) (h : History) (turn : Turn) → IsHistory side h → is_lawful side h turn ≡ true → StillWaits side h turn (next side h turn)
still_waits side h turn i l k call w n q c o e =
    let p : Pair = record { turn = turn; answer = next side h turn } in
    let left = and-right (is_open h) (nothing_left side h call) (sym (call-waits side h call i c) ∙ e) in
    call-waits side (p ∷ h) call (l, refl, i) (may-wait side p h k call w) ∙ rw (o, still side p h (l, refl, i) k n q call w left) refl
