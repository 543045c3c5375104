-- What a history says of the response, the connect and its stream from which a session comes.
use Rattle.std.specs.Prelude.{[], ◌*◌, ◌+◌, ◌==◌, ◌∷◌, ◌≡◌, ◌≤◌, Bool, List, None, Option, Some, false, filter_map, if◌then◌else◌, is_some, length, not, suc, take, true, zero, ℕ}
use Rattle.std.specs.List.{list_any}
use Rattle.std.specs.Option.{option_or}
use Rattle.std.proofs.Common.{◌∙◌, ap, arith, refl, sym}
use Rattle.std.proofs.lemmas.Bool.{eqb-true}
use Rattle.wt_check.specs.Sessions.{accepting_frame, asking_frame, connect_stream, opened_in, response_begun}
use Rattle.wt_meaning.specs.Findings.{first_of}
use Rattle.wt_meaning.specs.Handshakes.{begun_by, last_begun}
use Rattle.wt_meaning.specs.History.{History, Pair, actions_out, is_open, was_finished}
use Rattle.wt_meaning.specs.Lawful.{gives_request, is_first, is_lawful, is_waiting, polls}
use Rattle.wt_meaning.specs.Meaning.{next, own_answer, with_pair}
use Rattle.wt_meaning.specs.Calls.{in_session}
use Rattle.wt_meaning.specs.Moments.{ids_from}
use Rattle.wt_meaning.specs.Rows.{Row, first_row}
use Rattle.wt_meaning.specs.Windows.{named, requests}
use Rattle.wt_promise.proofs.Actions.{none-sent, opened-next, opened-none, opened-out}
use Rattle.wt_promise.proofs.Asks.{Asks, Begins, Else, ForRequest, GoesOn, Responds, asks-of, of-connect, of-response}
use Rattle.wt_promise.proofs.Flow.{clash}
use Rattle.wt_promise.proofs.Fresh.{established-opened}
use Rattle.wt_promise.proofs.Opened.{at-least-one}
use Rattle.wt_promise.proofs.OwedCalls.{turn-owed}
use Rattle.wt_promise.proofs.Phases.{idle-of, none-request, phase}
use Rattle.wt_promise.proofs.Sessions.{is_connect}
use Rattle.wt_promise.proofs.OpensNext.{ids-count, opens_in_order}
use Rattle.wt_promise.proofs.Waiting.{named-established}
use Rattle.wt_promise.specs.Owed.{head_of, owed_by_call, owed_if}
use Rattle.wt_promise.specs.Promise.{IsHistory, is_acceptance}
use Rattle.wt_promise.specs.Sides.{opens_of}
use Rattle.wt_turn.specs.Joined.{newest_first, send_of}
use Rattle.wt_turn.specs.Streams.{local_count, opens}
use Rattle.wt_turn.specs.declared.action.Action.{Action}
use Rattle.wt_turn.specs.declared.answer.Answer.{Answer}
use Rattle.wt_turn.specs.declared.call.Call.{Call}
use Rattle.wt_turn.specs.declared.reply.Reply.{Reply}
use Rattle.wt_turn.specs.declared.turn.Turn.{Turn}
use Rattle.wt_wire.specs.declared.side.Side.TheVariants.{Client, Server}
use Rattle.wt_turn.specs.declared.action.Action.TheVariants as actions
use Rattle.wt_turn.specs.declared.call.Call.TheVariants as calls
use Rattle.wt_turn.specs.declared.reply.Reply.TheVariants as replies
use Rattle.wt_turn.specs.declared.turn.Turn.TheVariants as turns

-- ---- a server's response

-- while a response waits, no request was given since it began
waiting-response : (h : History) → IsHistory Server h → is_waiting h ≡ true → response_begun h ≡ last_begun h
waiting-response [] i w = refl
waiting-response (p ∷ h) i w = by (asks-of Server p h i) (waiting-response h i.2)
  where
    none : gives_request p.answer.reply ≡ false → is_some (requests p) ≡ false
    none g = rw (none-request p.answer.reply g) refl

    same : gives_request p.answer.reply ≡ false → response_begun h ≡ last_begun h → response_begun (p ∷ h) ≡ last_begun (p ∷ h)
    same g e = ap (λ (b : Bool). if b then None else option_or (begun_by p.turn) (response_begun h)) (none g) ∙ ap (λ (o : Option Call). option_or (begun_by p.turn) o) e

    new : (c : Call) → begun_by p.turn ≡ Some c → gives_request p.answer.reply ≡ false → response_begun (p ∷ h) ≡ last_begun (p ∷ h)
    new c b g = ap (λ (x : Bool). if x then None else option_or (begun_by p.turn) (response_begun h)) (none g) ∙ rw b refl

    by : Asks Server h p.turn p.answer.reply → (is_waiting h ≡ true → response_begun h ≡ last_begun h) → response_begun (p ∷ h) ≡ last_begun (p ∷ h)
    by (Begins c s t k f g n) again = absurd (cc s)
    by (ForRequest s t all n) again = absurd (clash (is_waiting h) (let m = rw t at w in m) (idle-of h (phase h i.2) all).1)
    by (Responds c s t k q n) again = new c (ap begun_by t ∙ (of-response c k).begun) n
    by (GoesOn t v n) again = same n (again v)
    by (Else a b m g n) again = same g (again (let q = rw a at w in q))

-- the frame of a response that accepts is all that it writes first
pub acceptance-frame : (o : Option Call) → is_acceptance o ≡ true → accepting_frame o ≡ Some (head_of o)
acceptance-frame (Some (calls.Accept headers)) e = refl
acceptance-frame (Some c) e = absurd (cc e)
acceptance-frame None e = absurd (cc e)

-- at a turn that goes on with it, or begins it
pub response-now : (h : History) (turn : Turn) → IsHistory Server h → polls turn ≡ true → is_lawful Server h turn ≡ true → option_or (begun_by turn) (response_begun h) ≡ option_or (begun_by turn) (last_begun h)
response-now h (turns.Call calls.Handshake) i p l = waiting-response h i l
response-now h (turns.Call (calls.Connect options lookup outcome)) i p l = refl
response-now h (turns.Call (calls.Accept headers)) i p l = refl
response-now h (turns.Call calls.Forbidden) i p l = refl
response-now h (turns.Call calls.NotFound) i p l = refl
response-now h (turns.Call calls.TooManyRequests) i p l = refl
response-now h turn i p l = absurd (cc p)

-- ---- a client's connect

-- the frame of the connect that was begun
abbrev pub ask : Option Call → Option (List ℕ)
ask None = None
ask (Some c) = asking_frame (turns.Call c)

pub asking-last : (h : History) → IsHistory Client h → first_of (λ (p : Pair). asking_frame p.turn) h ≡ ask (last_begun h)
asking-last [] i = refl
asking-last (p ∷ h) i = by (asks-of Client p h i) (asking-last h i.2)
  where
    no-polls : (turn : Turn) → polls turn ≡ false → asking_frame turn ≡ None
    no-polls (turns.Call (calls.Connect options lookup outcome)) e = absurd (cc e)
    no-polls turn e = refl

    alone : (g : History) → is_first g ≡ true → (o : Option (List ℕ)) → option_or o (first_of (λ (q : Pair). asking_frame q.turn) g) ≡ o
    alone [] e None = refl
    alone [] e (Some x) = refl
    alone (q ∷ g) e o = absurd (cc e)

    by : Asks Client h p.turn p.answer.reply → first_of (λ (q : Pair). asking_frame q.turn) h ≡ ask (last_begun h) → first_of (λ (q : Pair). asking_frame q.turn) (p ∷ h) ≡ ask (last_begun (p ∷ h))
    by (Begins c s t k f g n) again = alone h f (asking_frame p.turn) ∙ ap asking_frame t ∙ ap (λ (o : Option Call). ask (option_or o (last_begun h))) (sym (ap begun_by t ∙ (of-connect c k).1))
    by (ForRequest s t all n) again = absurd (cc s)
    by (Responds c s t k q n) again = absurd (cc s)
    by (GoesOn t v n) again = rw t again
    by (Else a b m g n) again = rw (no-polls p.turn a, m) again

-- ---- the stream that it opens

some-map : (xs : List Action) (y : ℕ) (ys : List ℕ) → filter_map (opens_of 0) xs ≡ y ∷ ys → first_of (opens_of 0) xs ≡ Some y
some-map [] y ys e = absurd (cc e)
some-map (x ∷ xs) y ys e = by (opens_of 0 x) refl (some-map xs y ys)
  where
    by : (o : Option ℕ) → opens_of 0 x ≡ o → (filter_map (opens_of 0) xs ≡ y ∷ ys → first_of (opens_of 0) xs ≡ Some y) → first_of (opens_of 0) (x ∷ xs) ≡ Some y
    by None q again = rw q (again (let r = rw q at e in r))
    by (Some z) q again = rw q (let r = rw q at e in let s : z ≡ y = cc r in ap (λ (n : ℕ). Some n) s)

none-map : (xs : List Action) → filter_map (opens_of 0) xs ≡ [] → first_of (opens_of 0) xs ≡ None
none-map [] e = refl
none-map (x ∷ xs) e = by (opens_of 0 x) refl (none-map xs)
  where
    by : (o : Option ℕ) → opens_of 0 x ≡ o → (filter_map (opens_of 0) xs ≡ [] → first_of (opens_of 0) xs ≡ None) → first_of (opens_of 0) (x ∷ xs) ≡ None
    by None q again = rw q (again (let r = rw q at e in r))
    by (Some z) q again = absurd (let r = rw q at e in cc r)

empty : (xs : List ℕ) → length xs ≡ 0 → xs ≡ []
empty [] e = refl
empty (x ∷ xs) e = absurd (omega (arith, e))

-- where no bidirectional stream was opened the connect has none
pub no-connect-stream : (h : History) → local_count (actions_out h) 0 ≡ 0 → connect_stream h ≡ None
no-connect-stream [] e = refl
no-connect-stream (p ∷ h) e =
    let a = opened-out 0 p.answer.actions (actions_out h) in let b = ids-count 0 p.answer.actions in
    rw (no-connect-stream h (omega (arith, a, e))) (none-in p.turn (none-map p.answer.actions (empty (filter_map (opens_of 0) p.answer.actions) (omega (arith, a, b, e)))))
  where
    none-in : (turn : Turn) → first_of (opens_of 0) p.answer.actions ≡ None → opened_in turn p.answer.actions ≡ None
    none-in (turns.Call (calls.Connect options lookup outcome)) q = q
    none-in (turns.Call calls.Handshake) q = q
    none-in turn q = refl

-- ---- which calls open one

abbrev OpensNone : List Action → Type 0
OpensNone as_ = list_any (opens 0) as_ ≡ false

none-owed : (b : Bool) (x : Action) → opens 0 x ≡ false → OpensNone (owed_if b (x ∷ []))
none-owed true x e = rw e refl
none-owed false x e = refl

none-rest : (k : ℕ) (bytes : List ℕ) → OpensNone (send_of k bytes)
none-rest k bytes = none-sent (opens 0) k bytes (λ p. refl)

module _ (h : History) (i : IsHistory Client h) (z : local_count (actions_out h) 0 ≡ 0) where
  -- no session is established before it
  none-named : (name : Option ℕ) (s : ℕ) → named h name ≡ Some s → ⊥
  none-named name s e = let n = established-opened h i s (named-established h name s e) in absurd (omega (arith, n, z))

  in-none : (name : Option ℕ) (rows : ℕ → List Row) → OpensNone (first_row (in_session (named h name) rows)).actions
  in-none name rows = by (named h name) refl
    where
      by : (o : Option ℕ) → named h name ≡ o → OpensNone (first_row (in_session o rows)).actions
      by None e = refl
      by (Some s) e = absurd (none-named name s e)

  of-write : (id : ℕ) (bytes : List ℕ) (r : Reply) → OpensNone (owed_by_call Client h (calls.Write id bytes) r)
  of-write id bytes (replies.Written n) = none-rest id (take n bytes)
  of-write id bytes r = refl

  of-write-all : (id : ℕ) (bytes : List ℕ) (r : Reply) → OpensNone (owed_by_call Client h (calls.WriteAll id bytes) r)
  of-write-all id bytes (replies.Count n) = none-rest id (take n bytes)
  of-write-all id bytes replies.AllWritten = none-rest id bytes
  of-write-all id bytes r = refl

  of-finish : (id : ℕ) (r : Reply) → OpensNone (owed_by_call Client h (calls.Finish id) r)
  of-finish id replies.Pending = none-owed (not (was_finished h id)) (actions.Finish id) refl
  of-finish id r = refl

  of-reset : (id code : ℕ) (r : Reply) → OpensNone (owed_by_call Client h (calls.ResetSend id code) r)
  of-reset id code replies.Done = none-owed (is_open h) (actions.ResetOut id code) refl
  of-reset id code r = refl

  of-stop : (id code : ℕ) (r : Reply) → OpensNone (owed_by_call Client h (calls.StopRecv id code) r)
  of-stop id code replies.Done = none-owed (is_open h) (actions.StopOut id code) refl
  of-stop id code r = refl

  -- each call but a connect, and what goes on with it
  own-none : (c : Call) → polls (turns.Call c) ≡ false → OpensNone (own_answer Client h (turns.Call c)).actions
  own-none (calls.OpenUni name) e = in-none name _
  own-none (calls.OpenBi name) e = in-none name _
  own-none (calls.AcceptUni name) e = in-none name _
  own-none (calls.AcceptBi name) e = in-none name _
  own-none (calls.ReceiveDatagram name) e = in-none name _
  own-none (calls.SendDatagram payload name) e = in-none name _
  own-none (calls.MaxDatagramSize name) e = in-none name _
  own-none (calls.SessionId name) e = in-none name _
  own-none (calls.EndSession name) e = in-none name _
  own-none (calls.PollOpening id) e = in-none None _
  own-none (calls.Close code reason) e = in-none None _
  own-none calls.Closed e = in-none None _
  own-none (calls.EndpointClose code reason) e = none-owed (is_open h) (actions.Close code reason) refl
  own-none (calls.Write id bytes) e = ap (list_any (opens 0)) (turn-owed Client h (turns.Call (calls.Write id bytes))) ∙ of-write id bytes _
  own-none (calls.WriteAll id bytes) e = ap (list_any (opens 0)) (turn-owed Client h (turns.Call (calls.WriteAll id bytes))) ∙ of-write-all id bytes _
  own-none (calls.Finish id) e = ap (list_any (opens 0)) (turn-owed Client h (turns.Call (calls.Finish id))) ∙ of-finish id _
  own-none (calls.ResetSend id code) e = ap (list_any (opens 0)) (turn-owed Client h (turns.Call (calls.ResetSend id code))) ∙ of-reset id code _
  own-none (calls.StopRecv id code) e = ap (list_any (opens 0)) (turn-owed Client h (turns.Call (calls.StopRecv id code))) ∙ of-stop id code _
  own-none calls.Handshake e = absurd (cc e)
  own-none (calls.Connect options lookup outcome) e = absurd (cc e)
  own-none (calls.Accept headers) e = absurd (cc e)
  own-none calls.Forbidden e = absurd (cc e)
  own-none calls.NotFound e = absurd (cc e)
  own-none calls.TooManyRequests e = absurd (cc e)
  own-none c e = ap (list_any (opens 0)) (turn-owed Client h (turns.Call c))

-- a client's first bidirectional stream is the one that its connect opened
pub bi-connect : (h : History) → IsHistory Client h → 1 ≤ local_count (actions_out h) 0 → connect_stream h ≡ Some 0
bi-connect [] i n = absurd (omega (arith, n))
bi-connect (p ∷ h) i n = by (local_count (actions_out h) 0 == 0) refl (bi-connect h i.2)
  where
    acts : List Action
    acts = p.answer.actions

    by : (b : Bool) → (local_count (actions_out h) 0 == 0) ≡ b → (1 ≤ local_count (actions_out h) 0 → connect_stream h ≡ Some 0) → connect_stream (p ∷ h) ≡ Some 0
    by false e again = ap (λ (o : Option ℕ). option_or o (opened_in p.turn acts)) (again (at-least-one (local_count (actions_out h) 0) e))
    by true e again = ap (λ (o : Option ℕ). option_or o (opened_in p.turn acts)) (no-connect-stream h z) ∙ new (asks-of Client p h i)
      where
        z : local_count (actions_out h) 0 ≡ 0
        z = eqb-true (local_count (actions_out h) 0) 0 e

        zero-of : (c len : ℕ) → c ≡ 0 → 1 ≤ len → filter_map (opens_of 0) acts ≡ ids_from 0 c len → first_of (opens_of 0) acts ≡ Some 0
        zero-of c zero x y q = absurd (omega (arith, y))
        zero-of c (suc len) x y q = some-map acts (4 * c + 0) (ids_from 0 (suc c) len) q ∙ ap (λ (m : ℕ). Some m) (omega (arith, x))

        first : first_of (opens_of 0) acts ≡ Some 0
        first =
            let a = opened-out 0 acts (actions_out h) in let b = ids-count 0 acts in
            zero-of (local_count (actions_out h) 0) (length (filter_map (opens_of 0) acts)) z (omega (arith, a, b, n, z)) (rw i.1 (opens_in_order Client h p.turn i.2 i.0 0).next)

        of-call : (c : Call) → is_connect c ≡ true → opened_in (turns.Call c) acts ≡ Some 0
        of-call (calls.Connect options lookup outcome) k = first
        of-call c k = absurd (cc k)

        own : (turn : Turn) → polls turn ≡ false → OpensNone (own_answer Client h turn).actions
        own (turns.Call c) q = own-none h i.2 z c q
        own turn q = refl

        none : polls p.turn ≡ false → ⊥
        none q =
            let a = opened-next Client h p.turn in let b = opened-out 0 (own_answer Client h p.turn).actions (actions_out h) in let c = opened-none 0 (own_answer Client h p.turn).actions (own p.turn q) in
            let d : local_count (actions_out (p ∷ h)) 0 ≡ local_count (actions_out (with_pair h p.turn (next Client h p.turn))) 0 = ap (λ (x : Answer). local_count (newest_first x.actions (actions_out h)) 0) i.1 in
            absurd (omega (arith, a, b, c, d, n, z))

        new : Asks Client h p.turn p.answer.reply → opened_in p.turn acts ≡ Some 0
        new (Begins c s t k f g m) = ap (λ (x : Turn). opened_in x acts) t ∙ of-call c k
        new (ForRequest s t all m) = absurd (cc s)
        new (Responds c s t k q m) = absurd (cc s)
        new (GoesOn t v m) = ap (λ (x : Turn). opened_in x acts) t ∙ first
        new (Else x b m g q) = absurd (none x)
