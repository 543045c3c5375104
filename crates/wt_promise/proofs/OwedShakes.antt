-- The own actions of a connect or a response are those that it owes.
use Rattle.std.specs.Prelude.{[], ◌&&◌, ◌++◌, ◌==◌, ◌∷◌, ◌||◌, ◌≡◌, Bool, List, None, Option, Result, Some, false, if◌then◌else◌, not, true, ℕ}
use Rattle.std.proofs.Common.{◌∙◌, ap, refl, sym}
use Rattle.std.proofs.lemmas.Bool.{not-false}
use Rattle.std.proofs.lemmas.List.{append-nil}
use Rattle.url.specs.Parser.{parse_url}
use Rattle.url.specs.Parts.{Parts}
use Rattle.url.specs.declared.error.ParseError.{ParseError}
use Rattle.wt_wire.specs.HeaderList.{Fields}
use Rattle.wt_wire.specs.declared.lookup.ConnectOutcome.{ConnectOutcome}
use Rattle.wt_wire.specs.declared.lookup.Lookup.{Lookup}
use Rattle.wt_meaning.specs.Findings.{settings_came}
use Rattle.wt_meaning.specs.Handshakes.{acceptance_rows, close_by, connect_ended, connect_fault, connect_lost, connect_on, connect_rows, loss_error, head_left, is_nothing, is_opened, is_refused, is_success, lacks_credit, poll_rows, rejection_rows, response_ended, response_fault, response_incomplete, response_rows, send, transport_error}
use Rattle.wt_meaning.specs.History.{History, actions_out, contents, credit_left, events, is_open, may_open, was_finished}
use Rattle.wt_meaning.specs.Moments.{findings}
use Rattle.wt_meaning.specs.Rows.{answer}
use Rattle.wt_meaning.specs.Sends.{action_if, close_if_open}
use Rattle.wt_meaning.specs.Targets.{Target, target_of}
use Rattle.wt_promise.specs.Owed.{fits_credit, handshake_stream, head_of, owed_by_acceptance, owed_by_connect, owed_by_failure, owed_by_handshake, owed_by_rejection, request_goes}
use Rattle.wt_promise.proofs.Accepted.{and-right, not-true}
use Rattle.wt_promise.proofs.Aims.{Aim, Aimed, Refused, aim, of-aimed, of-refused}
use Rattle.wt_promise.proofs.Shakes.{map-rows}
use Rattle.wt_promise.specs.Connects.{of_url, request_head, reserved}
use Rattle.wt_promise.proofs.HeadTests.{early, lacking, none-living, none-taken}
use Rattle.wt_promise.proofs.Tables.{OfRows, by-row, by-value, no-row}
use Rattle.wt_proto.specs.ResponseWalk.{response_walk_of}
use Rattle.wt_proto.specs.declared.response_walk.ResponseWalk.{ResponseWalk}
use Rattle.wt_turn.specs.Reports.{end_of, is_connected, loss_of}
use Rattle.wt_turn.specs.declared.action.Action.{Action}
use Rattle.wt_turn.specs.declared.answer.Answer.{Answer}
use Rattle.wt_turn.specs.declared.call.Call.{Call}
use Rattle.wt_turn.specs.declared.loss.LossReason.{LossReason}
use Rattle.wt_turn.specs.declared.reply.Reply.{Reply}
use Rattle.wt_wire.specs.declared.side.Side.{Side}
use Rattle.wt_turn.specs.declared.action.Action.TheVariants as actions
use Rattle.wt_turn.specs.declared.call.Call.TheVariants as calls
use Rattle.wt_turn.specs.Joined.{send_of}
use Rattle.wt_turn.specs.Streams.{local_count}
use Rattle.wt_turn.specs.declared.connecting_error.ConnectingError.TheVariants as connects
use Rattle.wt_turn.specs.declared.loss.LossReason.TheVariants as losses
use Rattle.wt_wire.specs.Codes.{code_of}
use Rattle.wt_turn.specs.declared.reply.Reply.TheVariants as replies

-- ---- an acceptance

accepts : (side : Side) (h : History) (s : ℕ) (head : List ℕ) → OfRows (λ (a : Answer). a.actions ≡ owed_by_acceptance h s head a.reply) (acceptance_rows h s (head_left h s head))
accepts side h s head =
    by-row P (not (is_open h)) (replies.Failed (transport_error h)) [] _ (λ q. rw (not-true (is_open h) q) refl)
    (λ q. by-row P (is_refused h s (head_left h s head)) _ _ _ (λ x. refl)
    (λ x. by-row P (lacks_credit h s (head_left h s head)) _ _ _ (λ y. rw (not-false (is_open h) q) refl)
    (λ y. by-row P true _ _ [] (λ z. rw (not-false (is_open h) q) refl) (λ z. no-row P (absurd (cc z))))))
  where
    P : Answer → Type 0
    P a = a.actions ≡ owed_by_acceptance h s head a.reply

-- ---- a rejection

rejects : (side : Side) (h : History) (s : ℕ) (head : List ℕ) → OfRows (λ (a : Answer). a.actions ≡ owed_by_rejection side h s head a.reply) (rejection_rows side h s (head_left h s head))
rejects side h s head =
    by-row P (not (is_open h)) replies.Rejected [] _ (λ q. rw (not-true (is_open h) q) refl)
    (λ q. by-row P (is_refused h s (head_left h s head)) _ _ _ (λ x. rw (sym (early h s head), x, not-false (is_open h) q) refl)
    (λ x. by-row P (lacks_credit h s (head_left h s head)) _ _ _ (λ y. lacks (fits_credit h s head) (sym (lacking h s head) ∙ y))
    (λ y. by-row P (not (was_finished h s)) _ _ _ (λ z. ends (fits_credit h s head) (was_finished h s) (sym (lacking h s head) ∙ y) z)
    (λ z. by-row P _ _ _ [] (λ w. rw (sym (early h s head), x, sym (none-living side h), not-false (is_open h) q) refl)
    (λ w. no-row P (over (fits_credit h s head) (was_finished h s) (sym (lacking h s head) ∙ y) z))))))
  where
    P : Answer → Type 0
    P a = a.actions ≡ owed_by_rejection side h s head a.reply

    sent : List Action
    sent = send h s (head_left h s head)

    lacks : (f : Bool) → not f ≡ true → sent ≡ (if f && was_finished h s then [] else sent ++ (if f then actions.Finish s ∷ [] else []))
    lacks true e = absurd (cc e)
    lacks false e = sym (append-nil sent)

    ends : (f w : Bool) → not f ≡ false → not w ≡ true → sent ++ actions.Finish s ∷ [] ≡ (if f && w then [] else sent ++ (if f then actions.Finish s ∷ [] else []))
    ends false w e q = absurd (cc e)
    ends true true e q = absurd (cc q)
    ends true false e q = refl

    over : (f w : Bool) → not f ≡ false → not w ≡ false → [] ≡ (if f && w then [] else sent ++ (if f then actions.Finish s ∷ [] else []))
    over false w e q = absurd (cc e)
    over true false e q = absurd (cc q)
    over true true e q = refl

-- ---- a connect

-- how a loss is answered names no code of HTTP/3
lost-plain : (o : Option LossReason) → owed_by_failure (replies.ConnectFailed (connects.ConnectionError (loss_error o))) ≡ actions.Close 0 [] ∷ []
lost-plain None = refl
lost-plain (Some losses.VersionMismatch) = refl
lost-plain (Some (losses.TransportError code reason)) = refl
lost-plain (Some (losses.ConnectionClosed close)) = refl
lost-plain (Some (losses.ApplicationClosed close)) = refl
lost-plain (Some losses.Reset) = refl
lost-plain (Some losses.TimedOut) = refl
lost-plain (Some losses.CidsExhausted) = refl

pub either-none : (o : Bool) → ◌≡◌ {A = List Action} [] (if o then [] else [])
either-none true = refl
either-none false = refl

shut-by : (a o : Bool) → (not a && not o) ≡ true → o ≡ false
shut-by a false e = refl
shut-by true true e = absurd (cc e)
shut-by false true e = absurd (cc e)

open-by : (a o : Bool) → (not a && not o) ≡ false → a ≡ false → o ≡ true
open-by a true e q = refl
open-by true false e q = absurd (cc q)
open-by false false e q = absurd (cc e)

module _ (side : Side) (h : History) (t : Target) (headers : Fields) (kept : t.reserved ≡ reserved headers) where
  abbrev left : List ℕ
  left = head_left h 0 t.frame

  abbrev own : List Action
  own = action_if (not (is_opened h)) (actions.Opened 0) ++ send h 0 left

  abbrev new : Bool
  new = local_count (actions_out h) 0 == 0

  abbrev due : List Action
  due = (if new then actions.Opened 0 ∷ [] else []) ++ send h 0 left

  abbrev P : Answer → Type 0
  P a = a.actions ≡ owed_by_connect side h headers t.frame a.reply

  own-due : own ≡ due
  own-due = by new
    where
      by : (b : Bool) → action_if (not (not b)) (actions.Opened 0) ++ send h 0 left ≡ (if b then actions.Opened 0 ∷ [] else []) ++ send h 0 left
      by true = refl
      by false = refl

  -- what holds once the request may go out
  record Going : Type 0 where
    pub goes : request_goes side h headers t.frame ≡ true
    pub there : (not (is_opened h) && not (is_open h)) ≡ false
    pub whole : (not (is_nothing left) && not (is_open h)) ≡ false

  none-out : Going → is_open h ≡ false → own ≡ []
  none-out g o = by new left (ap (λ (b : Bool). not (is_opened h) && not b) (sym o) ∙ g.there) (ap (λ (b : Bool). not (is_nothing left) && not b) (sym o) ∙ g.whole)
    where
      by : (b : Bool) (xs : List ℕ) → (not (not b) && not false) ≡ false → (not (is_nothing xs) && not false) ≡ false → action_if (not (not b)) (actions.Opened 0) ++ send h 0 xs ≡ []
      by true xs e f = absurd (cc e)
      by false [] e f = ap (send_of 0) (none-taken (credit_left h 0))
      by false (x ∷ xs) e f = absurd (cc f)

  -- an answer that goes on, and one that fails
  plain : Going → (r : Reply) → owed_by_failure r ≡ [] → P (answer r own)
  plain g r f = by (is_open h) refl
    where
      by : (o : Bool) → is_open h ≡ o → own ≡ (if o then (if request_goes side h headers t.frame then due else []) ++ owed_by_failure r else [])
      by true e = rw (g.goes, f) (own-due ∙ sym (append-nil due))
      by false e = none-out g e

  fails : Going → (r : Reply) (code : ℕ) → owed_by_failure r ≡ actions.Close code [] ∷ [] → P (answer r (own ++ close_if_open h code))
  fails g r code f = by (is_open h) refl
    where
      by : (o : Bool) → is_open h ≡ o → own ++ (if o then actions.Close code [] ∷ [] else []) ≡ (if o then (if request_goes side h headers t.frame then due else []) ++ owed_by_failure r else [])
      by true e = rw (g.goes, f) (ap (λ (xs : List Action). xs ++ actions.Close code [] ∷ []) own-due)
      by false e = append-nil own ∙ none-out g e

  response : Going → (walk : ResponseWalk) → OfRows P (response_rows side h own walk)
  response g walk =
      by-value P (response_fault walk) connect_fault (own ++ close_by h (response_fault walk)) _ (λ code q. rw q (fails g (connect_fault code) (code_of code) refl))
      (λ q. by-row P (response_ended walk) _ _ _ (λ x. fails g (connect_lost h) 0 (lost-plain (loss_of (events h))))
      (λ x. by-row P (response_incomplete walk && not (is_open h)) _ own _ (λ y. ended (connect_lost h) (and-right (response_incomplete walk) (not (is_open h)) y))
      (λ y. by-row P (response_incomplete walk) replies.Pending own _ (λ z. plain g replies.Pending refl)
      (λ z. by-row P (not (is_success walk)) _ _ _ (λ w. fails g (replies.ConnectFailed connects.SessionRejected) 0 refl)
      (λ w. by-row P (not (is_open h)) _ own _ (λ v. ended (connect_ended side h) v)
      (λ v. by-row P true (replies.Session 0) own [] (λ u. plain g (replies.Session 0) refl) (λ u. no-row P (absurd (cc u)))))))))
    where
      ended : (r : Reply) → not (is_open h) ≡ true → P (answer r own)
      ended r e = let o = not-true (is_open h) e in rw o (none-out g o)

  connect : OfRows P (connect_rows side h t)
  connect =
      by-row P _ _ [] _ (λ q. rw (shut-by c o q) refl)
      (λ q1. by-row P _ _ [] _ (λ q. rw (not-true c q) (either-none o))
      (λ q2. by-row P _ _ [] _ (λ q. rw (shut-by s o q) refl)
      (λ q3. by-row P _ _ [] _ (λ q. rw (not-false c q2, not-true s q) (either-none o))
      (λ q4. by-value P t.reserved _ (close_if_open h 0) _ (λ y q. rw (not-false c q2, not-false s q4, sym kept, q) refl)
      (λ q5. by-row P _ _ [] _ (λ q. rw (shut-by (is_opened h) o q) refl)
      (λ q6. by-row P _ _ [] _ (λ q. rw (not-false c q2, not-false s q4, sym kept, q5, closed-off new (may_open side h 0) q) (either-none o))
      (λ q7. by-row P _ _ [] _ (λ q. rw (shut-by (is_nothing left) o q) refl)
      (λ q8. by-row P (is_refused h 0 left) _ (close_if_open h 0) _
      (λ x. rw (not-false c q2, not-false s q4, sym kept, q5, let-in new (may_open side h 0) q7, sym (early h 0 t.frame), x) refl)
      (λ x. by-row P (lacks_credit h 0 left) replies.Pending own _ (λ y. plain (going q2 q4 q5 q6 q7 q8 x) replies.Pending refl)
      (λ y. response (going q2 q4 q5 q6 q7 q8 x) (response_walk_of (contents h 0) (end_of (events h) 0))))))))))))
    where
      o : Bool
      o = is_open h

      c : Bool
      c = is_connected (events h)

      s : Bool
      s = settings_came (findings side h)

      closed-off : (n m : Bool) → (not (not n) && not m) ≡ true → (not n || m) ≡ false
      closed-off true false e = refl
      closed-off true true e = absurd (cc e)
      closed-off false m e = absurd (cc e)

      let-in : (n m : Bool) → (not (not n) && not m) ≡ false → (not n || m) ≡ true
      let-in true true e = refl
      let-in true false e = absurd (cc e)
      let-in false m e = refl

      going : not c ≡ false → not s ≡ false → t.reserved ≡ None → (not (is_opened h) && not o) ≡ false → (not (is_opened h) && not (may_open side h 0)) ≡ false
          → (not (is_nothing left) && not o) ≡ false → is_refused h 0 left ≡ false → Going
      going q2 q4 q5 q6 q7 q8 x = record {
        goes = rw (not-false c q2, not-false s q4, sym kept, q5, let-in new (may_open side h 0) q7, sym (early h 0 t.frame), x) refl;
        there = q6;
        whole = q8;
      }

-- ---- each of them

connects-owed : (side : Side) (h : History) (parsed : Result Parts ParseError) (headers : Fields) (lookup : Lookup) (outcome : ConnectOutcome) → Aim parsed headers lookup outcome
    → OfRows (λ (a : Answer). a.actions ≡ of_url parsed lookup outcome (λ (url : Parts). owed_by_connect side h headers (request_head url headers) a.reply)) (connect_on side h (target_of parsed headers lookup outcome))
connects-owed side h parsed headers lookup outcome (Refused e p q) =
    rw p (no-row (λ (a : Answer). a.actions ≡ of_url parsed lookup outcome (λ (url : Parts). owed_by_connect side h headers (request_head url headers) a.reply)) (sym (of-refused parsed lookup outcome e (λ (url : Parts). owed_by_connect side h headers (request_head url headers) replies.Pending) q)))
connects-owed side h parsed headers lookup outcome (Aimed url x p u q r f d) =
    rw p (map-rows (λ a e. e ∙ ap (λ (frame : List ℕ). owed_by_connect side h headers frame a.reply) f ∙ sym (of-aimed parsed lookup outcome url (λ (url : Parts). owed_by_connect side h headers (request_head url headers) a.reply) u q)) (connect side h x headers r))

pub shakes-owed : (side : Side) (h : History) (c : Option Call) → OfRows (λ (a : Answer). a.actions ≡ owed_by_handshake side h c a.reply) (poll_rows side h c)
shakes-owed side h None = no-row (λ (a : Answer). a.actions ≡ owed_by_handshake side h None a.reply) refl
shakes-owed side h (Some (calls.Connect options lookup outcome)) = connects-owed side h (parse_url None options.0) options.1 lookup outcome (aim (parse_url None options.0) options.1 lookup outcome)
shakes-owed side h (Some (calls.Accept headers)) = accepts side h (handshake_stream h) (head_of (Some (calls.Accept headers)))
shakes-owed side h (Some calls.Forbidden) = rejects side h (handshake_stream h) (head_of (Some calls.Forbidden))
shakes-owed side h (Some calls.NotFound) = rejects side h (handshake_stream h) (head_of (Some calls.NotFound))
shakes-owed side h (Some calls.TooManyRequests) = rejects side h (handshake_stream h) (head_of (Some calls.TooManyRequests))
shakes-owed side h (Some c) = no-row (λ (a : Answer). a.actions ≡ owed_by_handshake side h (Some c) a.reply) refl
