-- A connect or a response that still waits has sent as much of its head as credit allows.
use Rattle.std.specs.Prelude.{[], ◌&&◌, ◌++◌, ◌+◌, ◌==◌, ◌∷◌, ◌≡◌, ◌≤◌, Bool, Err, List, None, Ok, Option, Result, Some, codes, false, if◌then◌else◌, length, nat_le, not, suc, take, true, unwrap_or, zero, ℕ}
use Rattle.std.proofs.Common.{◌∙◌, ap, arith, length-append, refl, subst, sym}
use Rattle.std.proofs.lemmas.Bool.{eqb-true, not-false}
use Rattle.std.proofs.lemmas.List.{append-nil, length-drop, take_all}
use Rattle.url.specs.Parser.{parse_url}
use Rattle.wt_meaning.specs.Calls.{opened_by, stream_header}
use Rattle.wt_meaning.specs.Findings.{first_of, settings_came}
use Rattle.wt_meaning.specs.Handshakes.{acceptance_frame, connect_on, connect_rows, head_left, is_opened, is_refused, is_success, lacks_credit, last_begun, poll_rows, rejection, response_ended, response_fault, response_incomplete, response_rows, send}
use Rattle.wt_meaning.specs.History.{History, Pair, all_events, actions_out, contents, credit_left, events, hands_out, is_handed_out, is_open, may_open, out, was_finished}
use Rattle.wt_meaning.specs.Lawful.{is_first, is_lawful, is_pending, is_response, polls}
use Rattle.wt_meaning.specs.Meaning.{next, own_answer, with_pair}
use Rattle.wt_meaning.specs.Moments.{findings}
use Rattle.wt_meaning.specs.Rows.{first_row}
use Rattle.wt_meaning.specs.Sends.{action_if, close_if_open}
use Rattle.wt_meaning.specs.Targets.{Target, target_of}
use Rattle.wt_meaning.specs.Windows.{is_established, last_request}
use Rattle.wt_message.specs.FixedBytes.{response_bytes}
use Rattle.wt_promise.proofs.OwnForms.{HeadByFrame, frame_of, frame_or, head_of, head_on}
use Rattle.wt_promise.proofs.Accepted.{and-left, and-right, not-true, or-right}
use Rattle.wt_promise.proofs.Begun.{BegunFor, begun-for, begun-stays, last_stream, polled-stream}
use Rattle.wt_promise.proofs.BytesOut.{bytes-append, bytes-sent, bytes_on, out-add}
use Rattle.wt_promise.proofs.ControlKept.{begun-not-control, own-bytes, polled-k}
use Rattle.wt_promise.proofs.Flow.{clash}
use Rattle.wt_promise.proofs.Flows.{polled-begun, polled-last}
use Rattle.wt_promise.proofs.HeadFinish.{ByHand, OfSession, WasFinished, Whole, polled-own, was-finished}
use Rattle.wt_promise.proofs.Heads.{accepted-before, begun-kept, head-other}
use Rattle.wt_promise.proofs.InOrder.{sends-in-order}
use Rattle.wt_promise.proofs.Polls.{call-waits}
use Rattle.wt_promise.proofs.Sent.{Given, Opening, Polled, Quiet, Sent, Wrote, front-bytes, if-bytes, sent-own}
use Rattle.wt_promise.proofs.Sessions.{is_connect}
use Rattle.wt_promise.proofs.SettingsOut.{credit-grows, take-short}
use Rattle.wt_promise.proofs.Shakes.{head_stream}
use Rattle.wt_promise.proofs.Shapes.{going}
use Rattle.wt_promise.proofs.Silent.{polled-new}
use Rattle.wt_promise.proofs.Tables.{OfRows, by-row, by-value, no-row}
use Rattle.wt_promise.specs.Owed.{header_on}
use Rattle.wt_promise.specs.Promise.{IsHistory, accepted, begun_on, head_may_go}
use Rattle.wt_promise.proofs.Waits.{connect_waits, handshake_waits, on_target}
use Rattle.wt_proto.specs.ResponseWalk.{response_walk_of}
use Rattle.wt_proto.specs.declared.response_walk.ResponseWalk.{ResponseWalk}
use Rattle.wt_turn.specs.Reports.{bis_allowed, credit, end_of, is_connected}
use Rattle.wt_turn.specs.Streams.{local_count, local_uni, one_more_if, peer_count, peer_opens}
use Rattle.wt_turn.specs.Log.{Event}
use Rattle.wt_turn.specs.declared.action.Action.{Action}
use Rattle.wt_turn.specs.declared.answer.Answer.{Answer}
use Rattle.wt_turn.specs.declared.call.Call.{Call}
use Rattle.wt_turn.specs.declared.connecting_error.ConnectingError.{ConnectingError}
use Rattle.wt_turn.specs.declared.turn.Turn.{Turn}
use Rattle.wt_wire.specs.HeaderList.{Fields}
use Rattle.wt_wire.specs.declared.side.Side.{Side}
use Rattle.wt_wire.specs.declared.side.Side.TheVariants.{Client, Server}
use Rattle.wt_turn.specs.Log as log
use Rattle.wt_turn.specs.declared.action.Action.TheVariants as actions
use Rattle.wt_turn.specs.declared.call.Call.TheVariants as calls
use Rattle.wt_turn.specs.declared.reply.Reply.TheVariants as replies
use Rattle.wt_turn.specs.declared.turn.Turn.TheVariants as turns

-- ---- the rows

-- an answer that isn't Pending; what is left goes out as far as credit goes; or the stream was finished before
data Goes (h : History) (k : ℕ) (frame : List ℕ) (a : Answer) : Type 0 where
  Answered : is_pending a.reply ≡ false → Goes h k frame a
  Sends : bytes_on k a.actions ≡ take (credit_left h k) (head_left h k frame) → Goes h k frame a
  Ended : was_finished h k ≡ true → Goes h k frame a

rejected : (side : Side) (h : History) (digits : List ℕ) → OfRows (Goes h (unwrap_or (last_request h) 0) (response_bytes digits)) (rejection side h digits)
rejected side h digits =
    by-row P (not (is_open h)) replies.Rejected [] _ (λ q. Answered refl)
    (λ q. by-row P (is_refused h s left) replies.Rejected _ _ (λ x. Answered refl)
    (λ x. by-row P (lacks_credit h s left) replies.Pending (send h s left) _ (λ y. Sends (bytes-sent s (take (credit_left h s) left)))
    (λ y. by-row P (not (was_finished h s)) replies.Pending (send h s left ++ actions.Finish s ∷ []) _
    (λ z. Sends (front-bytes s (send h s left) (actions.Finish s ∷ []) refl ∙ bytes-sent s (take (credit_left h s) left)))
    (λ z. by-row P _ replies.Rejected _ [] (λ w. Answered refl) (λ w. no-row P (Ended (not-false (was_finished h s) z)))))))
  where
    s : ℕ
    s = unwrap_or (last_request h) 0

    left : List ℕ
    left = head_left h s (response_bytes digits)

    P : Answer → Type 0
    P = Goes h s (response_bytes digits)

accepted-goes : (side : Side) (h : History) (headers : Fields) → OfRows (Goes h (unwrap_or (last_request h) 0) (acceptance_frame headers)) (poll_rows side h (Some (calls.Accept headers)))
accepted-goes side h headers =
    by-row P (not (is_open h)) _ [] _ (λ q. Answered refl)
    (λ q. by-row P (is_refused h s left) _ (close_if_open h 0x104) _ (λ x. Answered refl)
    (λ x. by-row P (lacks_credit h s left) replies.Pending (send h s left) _ (λ y. Sends (bytes-sent s (take (credit_left h s) left)))
    (λ y. by-row P true (replies.Session s) (send h s left) [] (λ z. Answered refl) (λ z. absurd (cc z)))))
  where
    s : ℕ
    s = unwrap_or (last_request h) 0

    left : List ℕ
    left = head_left h s (acceptance_frame headers)

    P : Answer → Type 0
    P = Goes h s (acceptance_frame headers)

response-goes : (side : Side) (h : History) (c : Call) → is_response c ≡ true → Goes h (head_stream h c) (head_of (Some c)) (first_row (poll_rows side h (Some c)))
response-goes side h (calls.Accept headers) r = (accepted-goes side h headers).first
response-goes side h calls.Forbidden r = (rejected side h (codes "403")).first
response-goes side h calls.NotFound r = (rejected side h (codes "404")).first
response-goes side h calls.TooManyRequests r = (rejected side h (codes "429")).first
response-goes side h c r = absurd (cc r)

-- ---- a connect

-- a server opens no stream of a client's kind
none-opened : (es : List Event) → peer_count Client es 0 ≡ 0
none-opened [] = refl
none-opened (e ∷ es) = ap (λ (b : Bool). one_more_if b (peer_count Client es 0)) (by e) ∙ none-opened es
  where
    by : (x : Event) → peer_opens Client 0 x ≡ false
    by log.PeerUni = refl
    by log.PeerBi = refl
    by x = refl

may-open : (h : History) → is_open h ≡ true → nat_le 1 (bis_allowed (events h)) ≡ true → is_opened h ≡ false → may_open Client h 0 ≡ true
may-open h o b n = rw (o, none-opened (all_events h), eqb-true (local_count (actions_out h) 0) 0 (not-false (local_count (actions_out h) 0 == 0) n)) b

connected : (h : History) (t : Target) → is_open h ≡ true → is_connected (events h) ≡ true → settings_came (findings Client h) ≡ true → nat_le 1 (bis_allowed (events h)) ≡ true → OfRows (Goes h 0 t.frame) (connect_rows Client h t)
connected h t o c s b =
    by-row P _ _ [] _ (λ q. Answered refl) (λ q. by-row P (not (is_connected (events h))) _ [] _ (λ x. absurd (clash (is_connected (events h)) c (not-true (is_connected (events h)) x)))
    (λ q. by-row P _ _ [] _ (λ q. Answered refl) (λ q. by-row P (not (settings_came (findings Client h))) _ [] _ (λ x. absurd (clash (settings_came (findings Client h)) s (not-true (settings_came (findings Client h)) x)))
    (λ q. by-value P t.reserved _ (close_if_open h 0) _ (λ y x. Answered refl)
    (λ q. by-row P _ _ [] _ (λ q. Answered refl)
    (λ q. by-row P (not (is_opened h) && not (may_open Client h 0)) _ [] _
    (λ x. absurd (clash (may_open Client h 0) (may-open h o b (not-true (is_opened h) (and-left (not (is_opened h)) _ x))) (not-true (may_open Client h 0) (and-right (not (is_opened h)) _ x))))
    (λ q. by-row P _ _ [] _ (λ q. Answered refl)
    (λ q. by-row P (is_refused h 0 left) _ (close_if_open h 0) _ (λ x. Answered refl) (λ x. by-row P (lacks_credit h 0 left) replies.Pending own _ (λ y. Sends sent) (λ y. response))))))))))
  where
    left : List ℕ
    left = head_left h 0 t.frame

    P : Answer → Type 0
    P = Goes h 0 t.frame

    own : List Action
    own = action_if (not (is_opened h)) (actions.Opened 0) ++ send h 0 left

    walk : ResponseWalk
    walk = response_walk_of (contents h 0) (end_of (events h) 0)

    sent : bytes_on 0 own ≡ take (credit_left h 0) left
    sent = bytes-append 0 (action_if (not (is_opened h)) (actions.Opened 0)) (send h 0 left) ∙ ap (λ (xs : List ℕ). xs ++ bytes_on 0 (send h 0 left)) (if-bytes 0 (not (is_opened h)) (actions.Opened 0) refl) ∙ bytes-sent 0 (take (credit_left h 0) left)

    response : OfRows P (response_rows Client h own walk)
    response =
        by-value P (response_fault walk) _ _ _ (λ y x. Answered refl)
        (λ q. by-row P (response_ended walk) _ (own ++ close_if_open h 0) _ (λ x. Answered refl)
        (λ x. by-row P _ _ own _ (λ y. Answered refl)
        (λ y. by-row P (response_incomplete walk) replies.Pending own _ (λ z. Sends sent)
        (λ z. by-row P (not (is_success walk)) _ (own ++ close_if_open h 0) _ (λ w. Answered refl)
        (λ w. by-row P (not (is_open h)) _ own _ (λ v. Answered refl)
        (λ v. by-row P true (replies.Session 0) own [] (λ u. Answered refl) (λ u. absurd (cc u))))))))

-- one that goes on, and is Pending
connect-goes : (h : History) (c : Call) → IsHistory Client h → is_lawful Client h (turns.Call calls.Handshake) ≡ true → last_begun h ≡ Some c → is_connect c ≡ true → is_pending (next Client h (turns.Call calls.Handshake)).reply ≡ true
    → head_may_go Client h ≡ true → Goes h 0 (head_of (Some c)) (first_row (poll_rows Client h (Some c)))
connect-goes h (calls.Connect options lookup outcome) i l e k w m = by (target_of (parse_url None options.0) options.1 lookup outcome) (and-right (is_open h) (handshake_waits Client h (Some (calls.Connect options lookup outcome))) waits)
  where
    waits : (is_open h && handshake_waits Client h (Some (calls.Connect options lookup outcome))) ≡ true
    waits = ap (λ (o : Option Call). is_open h && handshake_waits Client h o) (sym e) ∙ sym (call-waits Client h calls.Handshake i l) ∙ w

    by : (t : Result Target ConnectingError) → on_target t (connect_waits Client h) ≡ true → Goes h 0 (frame_of t) (first_row (connect_on Client h t))
    by (Err x) q = absurd (cc q)
    by (Ok t) q =
        let f = and-left (is_connected (events h) && settings_came (findings Client h)) (nat_le 1 (bis_allowed (events h))) m in
        (connected h t (and-left (is_open h) _ waits) (and-left (is_connected (events h)) _ f) (and-right (is_connected (events h)) _ f) (and-right (is_connected (events h) && settings_came (findings Client h)) _ m)).first
connect-goes h c i l e k w m = absurd (cc k)

-- ---- the poll

polled-goes : (side : Side) (h : History) (turn : Turn) (c : Call) → IsHistory side h → is_lawful side h turn ≡ true → polls turn ≡ true → going h turn ≡ Some c → is_pending (next side h turn).reply ≡ true → head_may_go side h ≡ true
    → Goes h (head_stream h c) (head_of (Some c)) (own_answer side h turn)
polled-goes Server h turn c i l p g w m =
    let r = (polled-stream Server h turn c i l p g).0 in subst (Goes h (head_stream h c) (head_of (Some c))) (sym (polled-own Server h turn c p g r)) (response-goes Server h c r)
polled-goes Client h turn c i l p g w m = by turn l p g w (polled-stream Client h turn c i l p g)
  where
    first : (x : History) → is_first x ≡ true → head_may_go Client x ≡ true → ⊥
    first [] a b = cc b
    first (y ∷ x) a b = cc a

    zero-stream : (d : Call) → is_connect d ≡ true → 0 ≡ head_stream h d
    zero-stream (calls.Connect options lookup outcome) k = refl
    zero-stream d k = absurd (cc k)

    by : (t : Turn) → is_lawful Client h t ≡ true → polls t ≡ true → going h t ≡ Some c → is_pending (next Client h t).reply ≡ true → is_connect c ≡ true → Goes h (head_stream h c) (head_of (Some c)) (own_answer Client h t)
    by (turns.Call calls.Handshake) a b d e k =
        subst (λ (o : Option Call). Goes h (head_stream h c) (head_of (Some c)) (first_row (poll_rows Client h o))) (sym d)
        (subst (λ (j : ℕ). Goes h j (head_of (Some c)) (first_row (poll_rows Client h (Some c)))) (zero-stream c k) (connect-goes h c i a d k e m))
    by (turns.Call (calls.Connect options lookup outcome)) a b d e k = absurd (first h a m)
    by (turns.Call (calls.Accept headers)) a b d e k = absurd (let z = and-right (not (is_first h)) false a in cc z)
    by (turns.Call calls.Forbidden) a b d e k = absurd (let z = and-right (not (is_first h)) false a in cc z)
    by (turns.Call calls.NotFound) a b d e k = absurd (let z = and-right (not (is_first h)) false a in cc z)
    by (turns.Call calls.TooManyRequests) a b d e k = absurd (let z = and-right (not (is_first h)) false a in cc z)
    by (turns.Call x) a b d e k = absurd (cc b)
    by t a b d e k = absurd (cc b)

-- ---- no more than credit goes out on a stream that wasn't handed out

pub below : (side : Side) (h : History) → IsHistory side h → (k : ℕ) → (k == local_uni side) ≡ false → is_handed_out h k ≡ false → length (out h k) ≤ credit (events h) k
below side [] i k n f = omega arith
below side (p ∷ h) i k n f = by (sent-own side h k p.turn) (below side h i.2 k n before)
  where
    before : is_handed_out h k ≡ false
    before = or-right (hands_out k p.answer.reply) (is_handed_out h k) f

    grows : credit (events h) k ≤ credit (events (p ∷ h)) k
    grows = credit-grows side h p.turn p.answer i.2 k i.0

    went : (bytes : List ℕ) → bytes_on k (own_answer side h p.turn).actions ≡ bytes → length (out (p ∷ h) k) ≡ length (out h k) + length bytes
    went bytes e = ap length (out-add p h k ∙ ap (λ (a : Answer). out h k ++ bytes_on k a.actions) i.1 ∙ ap (λ (xs : List ℕ). out h k ++ xs) (own-bytes side h p.turn k n ∙ e)) ∙ length-append (out h k) bytes

    quiet : bytes_on k (own_answer side h p.turn).actions ≡ [] → length (out h k) ≤ credit (events h) k → length (out (p ∷ h) k) ≤ credit (events (p ∷ h)) k
    quiet e q = let w : length (out (p ∷ h) k) ≡ length (out h k) + 0 = went [] e in omega (arith, q, grows, w)

    part : (left : List ℕ) → bytes_on k (own_answer side h p.turn).actions ≡ take (credit_left h k) left → length (out h k) ≤ credit (events h) k → length (out (p ∷ h) k) ≤ credit (events (p ∷ h)) k
    part left e q = let w = went (take (credit_left h k) left) e in let s = take-short (credit_left h k) left in omega (arith, q, grows, w, s)

    by : Sent side h k p.turn (own_answer side h p.turn) → length (out h k) ≤ credit (events h) k → length (out (p ∷ h) k) ≤ credit (events (p ∷ h)) k
    by (Quiet b a x) q = quiet b q
    by (Given b a x) q = quiet b q
    by (Wrote g b w) q = absurd (clash (is_handed_out h k) g before)
    by (Polled c x g s b a z) q = part (head_left h k (head_of (Some c))) b q
    by (Opening name s o m b a r t) q = part (head_left h k (stream_header k s)) b q

-- ---- lists

-- a piece is as long as it may be, or all of the list
data Taken (m : ℕ) (xs : List ℕ) : Type 0 where
  Enough : m ≤ length (take m xs) → Taken m xs
  Everything : length xs ≤ length (take m xs) → Taken m xs

taken : (m : ℕ) (xs : List ℕ) → Taken m xs
taken zero xs = Enough (omega arith)
taken (suc m) [] = Everything (omega arith)
taken (suc m) (x ∷ xs) = by (taken m xs)
  where
    by : Taken m xs → Taken (suc m) (x ∷ xs)
    by (Enough e) = Enough (omega (arith, e))
    by (Everything e) = Everything (omega (arith, e))

-- ---- the whole sentence

same-credit : (h : History) (turn : Turn) (a : Answer) (k : ℕ) → polls turn ≡ true → credit (events (with_pair h turn a)) k ≡ credit (events h) k
same-credit h (turns.Call c) a k p = by (is_open h)
  where
    by : (b : Bool) → credit (if b then events h else events h) k ≡ credit (events h) k
    by true = refl
    by false = refl
same-credit h turn a k p = absurd (cc p)

as-credit : (side : Side) (h : History) (turn : Turn) (c : Call) (s : ℕ) → IsHistory side h → is_lawful side h turn ≡ true → polls turn ≡ true → going h turn ≡ Some c → head_stream h c ≡ s → is_pending (next side h turn).reply ≡ true
    → Goes h s (head_of (Some c)) (own_answer side h turn) → out (with_pair h turn (next side h turn)) s ≡ take (credit (events (with_pair h turn (next side h turn))) s) (head_of (Some c))
as-credit side h turn c s i l q g e w x = by x
  where
    p : Pair
    p = record { turn = turn; answer = next side h turn }

    all : IsHistory side (p ∷ h)
    all = (l, refl, i)

    frame : List ℕ
    frame = head_of (Some c)

    mine : BegunFor side h s
    mine = polled-k side h i c s (polled-stream side h turn c i l q g) e

    other : (s == local_uni side) ≡ false
    other = of (s == local_uni side) refl
      where
        of : (y : Bool) → (s == local_uni side) ≡ y → y ≡ false
        of false z = refl
        of true z = absurd (begun-not-control side h i (rw (sym (eqb-true s (local_uni side) z)) mine))

    begun : begun_on (p ∷ h) s ≡ Some c
    begun = ap (begun_on (p ∷ h)) (sym (polled-last side h i c s (polled-stream side h turn c i l q g) e)) ∙ polled-begun side p h all c q g

    head : head_on side (p ∷ h) s ≡ frame
    head = head-other side (p ∷ h) s other ∙ ap (λ (o : Option Call). frame_or o (header_on (p ∷ h) s (first_of (λ (y : Pair). opened_by s y.turn y.answer.reply) (p ∷ h)))) begun

    kept : is_handed_out (p ∷ h) s ≡ false
    kept = begun-kept side (p ∷ h) all s (begun-for side (p ∷ h) all s c begun)

    unwritten : accepted (p ∷ h) s ≡ []
    unwritten = accepted-before side (p ∷ h) all s kept

    within : length (out (p ∷ h) s) ≤ credit (events (p ∷ h)) s
    within = below side (p ∷ h) all s other kept

    -- all of the head
    whole : length frame ≤ length (out (p ∷ h) s) → out (p ∷ h) s ≡ take (credit (events (p ∷ h)) s) frame
    whole long =
        (sends-in-order side (p ∷ h) all s).all (subst (λ (xs : List ℕ). length xs ≤ length (out (p ∷ h) s)) (sym head) long)
        ∙ ap (λ (xs : List ℕ). xs ++ accepted (p ∷ h) s) head ∙ ap (λ (xs : List ℕ). frame ++ xs) unwritten ∙ append-nil frame ∙ sym (take_all (credit (events (p ∷ h)) s) frame (omega (arith, long, within)))

    -- all of the credit
    spent : credit (events (p ∷ h)) s ≤ length (out (p ∷ h) s) → out (p ∷ h) s ≡ take (credit (events (p ∷ h)) s) frame
    spent most =
        let same : length (out (p ∷ h) s) ≡ credit (events (p ∷ h)) s = omega (arith, most, within) in
        sym (sends-in-order side (p ∷ h) all s).front ∙ ap (λ (xs : List ℕ). take (length (out (p ∷ h) s)) (xs ++ accepted (p ∷ h) s)) head
        ∙ ap (λ (xs : List ℕ). take (length (out (p ∷ h) s)) (frame ++ xs)) unwritten ∙ ap (take (length (out (p ∷ h) s))) (append-nil frame) ∙ ap (λ (n : ℕ). take n frame) same

    sent : bytes_on s (own_answer side h turn).actions ≡ take (credit_left h s) (head_left h s frame) → out (p ∷ h) s ≡ take (credit (events (p ∷ h)) s) frame
    sent b = of (taken (credit_left h s) (head_left h s frame))
      where
        went : length (out (p ∷ h) s) ≡ length (out h s) + length (take (credit_left h s) (head_left h s frame))
        went = ap length (out-add p h s ∙ ap (λ (xs : List ℕ). out h s ++ xs) (own-bytes side h turn s other ∙ b)) ∙ length-append (out h s) (take (credit_left h s) (head_left h s frame))

        of : Taken (credit_left h s) (head_left h s frame) → out (p ∷ h) s ≡ take (credit (events (p ∷ h)) s) frame
        of (Enough y) = spent (omega (arith, y, went, same-credit h turn (next side h turn) s q))
        of (Everything y) = whole (omega (arith, y, went, length-drop (length (out h s)) frame))

    ended : WasFinished side h s → out (p ∷ h) s ≡ take (credit (events (p ∷ h)) s) frame
    ended (ByHand y) = absurd (clash (is_handed_out h s) y (or-right (hands_out s (next side h turn).reply) (is_handed_out h s) kept))
    ended (OfSession y z) = absurd (clash (is_established h s) y (polled-new side h turn c s i l q g e))
    ended (Whole d x y z long) =
        let same : Some d ≡ Some c = sym (begun-stays p h s d y) ∙ begun in
        let one : d ≡ c = cc same in
        whole (omega (arith, long, ap (λ (b : Call). length (head_of (Some b))) one, ap length (out-add p h s), length-append (out h s) (bytes_on s (next side h turn).actions)))

    by : Goes h s frame (own_answer side h turn) → out (p ∷ h) s ≡ take (credit (events (p ∷ h)) s) frame
    by (Answered y) = absurd (clash (is_pending (next side h turn).reply) w y)
    by (Sends y) = sent y
    by (Ended y) = ended (was-finished side h i s other y)

-- a poll that is Pending has something to poll
going-on : (side : Side) (h : History) (turn : Turn) → IsHistory side h → is_lawful side h turn ≡ true → polls turn ≡ true → is_pending (next side h turn).reply ≡ true → going h turn ≡ None → ⊥
going-on side h (turns.Call calls.Handshake) i l p w g =
    let a : (is_open h && false) ≡ true = ap (λ (o : Option Call). is_open h && handshake_waits side h o) (sym g) ∙ sym (call-waits side h calls.Handshake i l) ∙ w in let b = and-right (is_open h) false a in cc b
going-on side h (turns.Call (calls.Connect options lookup outcome)) i l p w g = cc g
going-on side h (turns.Call (calls.Accept headers)) i l p w g = cc g
going-on side h (turns.Call calls.Forbidden) i l p w g = cc g
going-on side h (turns.Call calls.NotFound) i l p w g = cc g
going-on side h (turns.Call calls.TooManyRequests) i l p w g = cc g
going-on side h (turns.Call c) i l p w g = cc p
going-on side h turn i l p w g = cc p

pub head-goes-out : (side : Side) (h : History) (turn : Turn) → IsHistory side h → is_lawful side h turn ≡ true → HeadByFrame side h turn (next side h turn)
head-goes-out side h turn i l e = by (going h turn) refl
  where
    front : (polls turn && is_pending (next side h turn).reply) ≡ true
    front = and-left (polls turn && is_pending (next side h turn).reply) (head_may_go side h) e

    q : polls turn ≡ true
    q = and-left (polls turn) (is_pending (next side h turn).reply) front

    w : is_pending (next side h turn).reply ≡ true
    w = and-right (polls turn) (is_pending (next side h turn).reply) front

    m : head_may_go side h ≡ true
    m = and-right (polls turn && is_pending (next side h turn).reply) (head_may_go side h) e

    by : (o : Option Call) → going h turn ≡ o → out (with_pair h turn (next side h turn)) (last_stream h) ≡ take (credit (events (with_pair h turn (next side h turn))) (last_stream h)) (head_of (going h turn))
    by None g = absurd (going-on side h turn i l q w g)
    by (Some c) g =
        let s = polled-last side h i c (head_stream h c) (polled-stream side h turn c i l q g) refl in
        rw (s, g) (as-credit side h turn c (head_stream h c) i l q g refl w (polled-goes side h turn c i l q g w m))
