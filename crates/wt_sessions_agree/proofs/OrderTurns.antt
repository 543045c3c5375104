-- What holds of all that was found holds before the next moment, whatever turn leads to it.
use Rattle.std.specs.Prelude.{[], ◌&&◌, ◌==◌, ◌||◌, ◌∷◌, ◌≡◌, Bool, List, None, Option, Some, false, filter_map, if◌then◌else◌, map, not, suc, true, unwrap_or, ℕ}
use Rattle.std.specs.List.{cons_option, list_any}
use Rattle.std.proofs.Common.{◌∙◌, ap, refl, subst, sym}
use Rattle.std.proofs.lemmas.Bool.{eq-eqb, eqb-true}
use Rattle.wt_meaning.specs.Calls.{first_datagram}
use Rattle.wt_meaning.specs.Findings.{first_of, is_classified, verdict_of}
use Rattle.wt_meaning.specs.History.{History, Pair, contents, events}
use Rattle.wt_meaning.specs.Lawful.{is_lawful}
use Rattle.wt_meaning.specs.Meaning.{next, own_answer, step, with_pair}
use Rattle.wt_meaning.specs.Moments.{findings}
use Rattle.wt_meaning.specs.Rows.{answer}
use Rattle.wt_meaning.specs.Windows.{after_request, after_response, establishes, is_established, is_gone, is_number, named, received_count, receives, session_in, waiting_datagrams}
use Rattle.wt_promise.proofs.Accepted.{datagram-received}
use Rattle.wt_promise.proofs.Established.{established-rightly}
use Rattle.wt_promise.proofs.Flow.{swapped}
use Rattle.wt_promise.proofs.Phases.{same-established}
use Rattle.wt_promise.proofs.Stays.{established-stays}
use Rattle.wt_promise.proofs.Tables.{fits, fits-own, is_payload}
use Rattle.wt_promise.proofs.Waiting.{named-established}
use Rattle.wt_promise.specs.Promise.{IsHistory}
use Rattle.wt_proto.specs.ResponseWalk.{response_walk_of}
use Rattle.wt_turn.specs.Joined.{join_all}
use Rattle.wt_turn.specs.Reports.{end_of}
use Rattle.wt_sessions.specs.Driver.{accepts_stream, call_view, delivers, ends_session, members_of, sessions_of}
use Rattle.wt_sessions.specs.Driver as drivers
use Rattle.wt_sessions.specs.Moment.{is_peers}
use Rattle.wt_sessions.specs.StreamTable.{Admitted}
use Rattle.wt_sessions_agree.proofs.CameAgrees.{called-contents, called-events}
use Rattle.wt_sessions_agree.proofs.DatagramLaws.{pair-of}
use Rattle.wt_sessions_agree.proofs.PartLaws.{begins-stays, known-new, parted}
use Rattle.wt_sessions_agree.proofs.ReadyLaws.{none-early-after}
use Rattle.wt_sessions_agree.proofs.ReceivedLaws.{indexed, received-one, received-plain}
use Rattle.wt_sessions_agree.proofs.RecordLaws.{Passes, done-passes, failure-aside, pending-aside}
use Rattle.wt_sessions_agree.proofs.SessionTurns.{with-offset}
use Rattle.wt_sessions_agree.proofs.TurnKeeps.{view-of}
use Rattle.wt_sessions_agree.proofs.WaitLaws.{waiting-pairs}
use Rattle.wt_sessions_agree.specs.Orderly.{Orderly, Received, begins_at}
use Rattle.wt_sessions_agree.specs.Records.{left_datagrams, next_index, record_of}
use Rattle.wt_sessions_agree.specs.Stands.{Stands}
use Rattle.wt_turn.specs.Log.{CallRecord, Event, Log, calls_of}
use Rattle.wt_turn.specs.Turns.{is_call}
use Rattle.wt_turn.specs.declared.action.Action.{Action}
use Rattle.wt_turn.specs.declared.answer.Answer.{Answer}
use Rattle.wt_turn.specs.declared.call.Call.{Call}
use Rattle.wt_turn.specs.declared.reply.Reply.{Reply}
use Rattle.wt_turn.specs.declared.turn.Turn.{Turn}
use Rattle.wt_wire.specs.declared.side.Side.{Side}
use Rattle.wt_turn.specs.declared.call.Call.TheVariants as calls
use Rattle.wt_turn.specs.declared.reply.Reply.TheVariants as replies
use Rattle.wt_turn.specs.declared.stream_error.StreamReadExactError.TheVariants as exacts
use Rattle.wt_turn.specs.declared.turn.Turn.TheVariants as turns

no-receive : (h : History) (s : ℕ) (turn : Turn) → is_call turn ≡ false → receives h s turn replies.Done ≡ false
no-receive h s (turns.Call c) e = absurd (cc e)
no-receive h s turn e = refl

pub order-plain : (side : Side) (offset : ℕ → ℕ) (h : History) (log : Log) → IsHistory side h → Stands side offset h log → (turn : Turn) → is_call turn ≡ false → is_lawful side h turn ≡ true
    → (xs : List Action)
    → (log2 : Log) → calls_of log2 ≡ calls_of log → Orderly side (with_pair h turn (answer replies.Done (join_all [] xs))) (call_view log2) offset (findings side h)
order-plain side offset h log hist x turn plain lawful xs log2 called = record {
  few = x.orderly.few;
  none_early = none-early-after side h turn (answer replies.Done (join_all [] xs)) (findings side h) lawful x.orderly.none_early;
  received = subst (λ (rs : List CallRecord). Received after (view-of rs) (findings side h)) (sym called) (record {
    left = λ s. rw (count s) (x.orderly.received.left s);
    within = λ s. rw (count s) (x.orderly.received.within s);
    early = x.orderly.received.early;
    later = x.orderly.received.later;
  });
  begin = λ k e. begins-stays side (record { turn = turn; answer = answer replies.Done (join_all [] xs) }) h k (parted side h hist k e) ∙ x.orderly.begin k e;
  known = x.orderly.known;
}
  where
    after : History
    after = with_pair h turn (answer replies.Done (join_all [] xs))

    count : (s : ℕ) → received_count after s ≡ received_count h s
    count s = rw (no-receive h s turn plain) refl

-- ---- a call that receives no datagram

receive-passes : (n : ℕ) → Passes (drivers.receives n) false
receive-passes n = record {
  aside = record { polled = refl; started = λ r i. refl; response = λ a i. refl; over = refl; failed = refl };
  unsent = λ i c. refl;
  priority = λ i p. refl;
  given_up = λ i. refl;
  rejected = λ s. refl;
}

received-by : (side : Side) (h : History) (c : Call) (n : ℕ) (reply : Reply) → is_payload reply ≡ false → drivers.receives n (record_of side h c reply) ≡ false
received-by side h c n (replies.Datagram payload) e = absurd (cc e)
received-by side h c n replies.Done e = done-passes (drivers.receives n) false (receive-passes n) side h c
received-by side h c n replies.Pending e = pending-aside (drivers.receives n) false (receive-passes n).aside c
received-by side h c n (replies.Failed x) e = failure-aside (drivers.receives n) false (receive-passes n).aside c
received-by side h c n (replies.Read (Some (b ∷ bytes))) e = refl
received-by side h c n (replies.Read (Some [])) e = refl
received-by side h c n (replies.Read None) e = refl
received-by side h c n (replies.ExactFailed (exacts.FinishedEarly count) piece) e = refl
received-by side h c n (replies.ExactFailed (exacts.Read x) piece) e = refl
received-by side h c n reply e = refl

no-payload : (h : History) (s : ℕ) (c : Call) (reply : Reply) → is_payload reply ≡ false → receives h s (turns.Call c) reply ≡ false
no-payload h s (calls.ReceiveDatagram name) reply e = by reply e
  where
    by : (r : Reply) → is_payload r ≡ false → receives h s (turns.Call (calls.ReceiveDatagram name)) r ≡ false
    by (replies.Datagram payload) q = absurd (cc q)
    by r q = refl
no-payload h s c reply e = refl

-- ---- a call that receives one

a-payload : (reply : Reply) → is_payload reply ≡ true → (payload : List ℕ) × (reply ≡ replies.Datagram payload)
a-payload (replies.Datagram payload) e = (payload, refl)
a-payload reply e = absurd (cc e)

payload-call : (c : Call) (payload : List ℕ) → fits c (replies.Datagram payload) ≡ true → (name : Option ℕ) × (c ≡ calls.ReceiveDatagram name)
payload-call (calls.ReceiveDatagram name) payload f = (name, refl)
payload-call c payload f = absurd (cc f)

-- what of the call's moment is asked
abbrev Receives : Side → History → Log → Call → Type 0
Receives side h log c = Received (step side h (turns.Call c)) (view-of (record_of side h c (own_answer side h (turns.Call c)).reply ∷ calls_of log)) (findings side h)

received-of : (side : Side) (offset : ℕ → ℕ) (h : History) (log : Log) → Stands side offset h log → (name : Option ℕ) (payload : List ℕ)
    → (own_answer side h (turns.Call (calls.ReceiveDatagram name))).reply ≡ replies.Datagram payload
    → (s : ℕ) → named h name ≡ Some s → first_datagram side h s ≡ Some payload → Receives side h log (calls.ReceiveDatagram name)
received-of side offset h log x name payload e s named-is first = by (left_datagrams side h s) refl
  where
    by : (ds : List Admitted) → left_datagrams side h s ≡ ds → Receives side h log (calls.ReceiveDatagram name)
    by [] q = absurd (none (is_gone h (findings side h) s) first)
      where
        none : (b : Bool) → (if b then None else first_of (λ (d : ℕ × List ℕ). Some d.1) (waiting_datagrams h (findings side h) s)) ≡ Some payload → ⊥
        none true r = cc r
        none false r = let m = ap (first_of (λ (d : ℕ × List ℕ). Some d.1)) (waiting-pairs side h s ∙ ap (map pair-of) q) in cc (sym m ∙ r)
    by (d ∷ rest) q =
        received-one h (step side h (turns.Call (calls.ReceiveDatagram name))) (call_view log)
        (view-of (record_of side h (calls.ReceiveDatagram name) (own_answer side h (turns.Call (calls.ReceiveDatagram name))).reply ∷ calls_of log)) (findings side h) s d rest q
        (λ n. ap (λ (b : Bool). b || list_any (drivers.receives n) (calls_of log))
        (ap (λ (r : Reply). drivers.receives n (record_of side h (calls.ReceiveDatagram name) r)) e ∙ ap (λ (i : ℕ). i == n) index))
        (counted s ∙ ap (λ (b : Bool). if b then suc (received_count h s) else received_count h s) (eq-eqb s s refl))
        (λ t f. counted t ∙ ap (λ (b : Bool). if b then suc (received_count h t) else received_count h t) (swapped t s f))
        (λ t. same-established (record { turn = turns.Call (calls.ReceiveDatagram name); answer = next side h (turns.Call (calls.ReceiveDatagram name)) }) h t (ap session_in e))
        (named-established h name s named-is) (indexed side h) x.orderly.received
      where
        index : next_index side h (unwrap_or (named h name) 0) ≡ d.index
        index = ap (λ (o : Option ℕ). next_index side h (unwrap_or o 0)) named-is ∙ ap (λ (ds : List Admitted). unwrap_or (first_of (λ (y : Admitted). Some y.index) ds) 0) q

        counted : (t : ℕ) → received_count (step side h (turns.Call (calls.ReceiveDatagram name))) t ≡ (if s == t then suc (received_count h t) else received_count h t)
        counted t =
            ap (λ (r : Reply). if receives h t (turns.Call (calls.ReceiveDatagram name)) r then suc (received_count h t) else received_count h t) e
            ∙ ap (λ (o : Option ℕ). if is_number t o then suc (received_count h t) else received_count h t) named-is

received-now : (side : Side) (offset : ℕ → ℕ) (h : History) (log : Log) → Stands side offset h log → (name : Option ℕ) (payload : List ℕ)
    → (own_answer side h (turns.Call (calls.ReceiveDatagram name))).reply ≡ replies.Datagram payload
    → Receives side h log (calls.ReceiveDatagram name)
received-now side offset h log x name payload e = let got = datagram-received side h name payload e in received-of side offset h log x name payload e got.0 got.1 got.2

-- ---- calls

module _ (side : Side) (offset : ℕ → ℕ) (h : History) (log : Log) (x : Stands side offset h log) (hist : IsHistory side h) (c : Call) (lawful : is_lawful side h (turns.Call c) ≡ true) where
  abbrev own : Answer
  own = own_answer side h (turns.Call c)

  abbrev after : History
  after = step side h (turns.Call c)

  abbrev pair : Pair
  pair = record { turn = turns.Call c; answer = next side h (turns.Call c) }

  same-begins : (k : ℕ) → begins_at after (findings side h) k ≡ begins_at h (findings side h) k
  same-begins k =
      ap (λ (es : List Event). unwrap_or (after_request (verdict_of (findings side h) k)) (after_response (response_walk_of (contents after k) (end_of es k))))
      (called-events h c (next side h (turns.Call c)))
      ∙ ap (λ (bytes : List ℕ). unwrap_or (after_request (verdict_of (findings side h) k)) (after_response (response_walk_of bytes (end_of (events h) k))))
      (called-contents h c (next side h (turns.Call c)) k)

  received-call : Receives side h log c
  received-call = by (is_payload own.reply) refl
    where
      by : (b : Bool) → is_payload own.reply ≡ b → Receives side h log c
      by false e =
          received-plain h after (call_view log) (view-of (record_of side h c own.reply ∷ calls_of log)) (findings side h)
          (λ n. ap (λ (b : Bool). b || list_any (drivers.receives n) (calls_of log)) (received-by side h c n own.reply e))
          (λ s. ap (λ (b : Bool). if b then suc (received_count h s) else received_count h s) (no-payload h s c own.reply e))
          (λ s q. established-stays pair h s q) x.orderly.received
      by true e =
          let p = a-payload own.reply e in
          let n = payload-call c p.0 (ap (fits c) (sym p.1) ∙ fits-own side h c) in
          subst (λ (d : Call). (own_answer side h (turns.Call d)).reply ≡ replies.Datagram p.0 → Receives side h log d) (sym n.1) (received-now side offset h log x n.0 p.0) p.1

  module _ (log2 : Log) (called : calls_of log2 ≡ record_of side h c own.reply ∷ calls_of log) where
    received-after : Received after (call_view log2) (findings side h)
    received-after = subst (λ (rs : List CallRecord). Received after (view-of rs) (findings side h)) (sym called) received-call

    pub order-call : session_in own.reply ≡ None → Orderly side after (call_view log2) offset (findings side h)
    order-call e = record {
      few = x.orderly.few;
      none_early = none-early-after side h (turns.Call c) (next side h (turns.Call c)) (findings side h) lawful x.orderly.none_early;
      received = received-after;
      begin = λ k s. same-begins k ∙ x.orderly.begin k (sym (same-established pair h k e) ∙ s);
      known = λ k s. x.orderly.known k (sym (same-established pair h k e) ∙ s);
    }

    pub order-session : (id : ℕ) → own.reply ≡ replies.Session id → Orderly side after (call_view log2) (with-offset id (begins_at h (findings side h) id) offset) (findings side h)
    order-session id e = record {
      few = x.orderly.few;
      none_early = none-early-after side h (turns.Call c) (next side h (turns.Call c)) (findings side h) lawful x.orderly.none_early;
      received = received-after;
      begin = λ k s. begin-by k (k == id) refl s;
      known = λ k s. known-by k (k == id) refl s;
    }
      where
        now : (k : ℕ) → is_established after k ≡ ((id == k) || is_established h k)
        now k = ap (λ (r : Reply). list_any (λ (j : ℕ). j == k) (cons_option (session_in r) (filter_map establishes h))) e

        before : (k : ℕ) → (k == id) ≡ false → is_established after k ≡ true → is_established h k ≡ true
        before k q s = sym (now k ∙ ap (λ (b : Bool). b || is_established h k) (swapped k id q)) ∙ s

        begin-by : (k : ℕ) (b : Bool) → (k == id) ≡ b → is_established after k ≡ true → begins_at after (findings side h) k ≡ with-offset id (begins_at h (findings side h) id) offset k
        begin-by k true q s =
            same-begins k ∙ ap (begins_at h (findings side h)) (eqb-true k id q) ∙ sym (ap (λ (b : Bool). if b then begins_at h (findings side h) id else offset k) q)
        begin-by k false q s =
            same-begins k ∙ x.orderly.begin k (before k q s) ∙ sym (ap (λ (b : Bool). if b then begins_at h (findings side h) id else offset k) q)

        known-by : (k : ℕ) (b : Bool) → (k == id) ≡ b → is_established after k ≡ true → (is_peers side k && not (is_classified (findings side h) k)) ≡ false
        known-by k true q s =
            ap (λ (j : ℕ). is_peers side j && not (is_classified (findings side h) j)) (eqb-true k id q)
            ∙ known-new side h (turns.Call c) id (lawful, refl, hist) (established-rightly side h (turns.Call c) hist lawful id (ap session_in e))
        known-by k false q s = x.orderly.known k (before k q s)
