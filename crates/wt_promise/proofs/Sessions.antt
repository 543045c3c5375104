-- What stands where a reply gives a session: the rows of an acceptance and of a connect.
use Rattle.std.specs.Prelude.{[], ◌&&◌, ◌++◌, ◌≡◌, Bool, Err, List, None, Ok, Option, Result, Some, codes, false, is_some, not, true, unwrap_or, ℕ}
use Rattle.std.proofs.Common.{refl, sym}
use Rattle.std.proofs.lemmas.Bool.{not-false}
use Rattle.url.specs.Parser.{parse_url}
use Rattle.wt_meaning.specs.Findings.{settings_came}
use Rattle.wt_meaning.specs.Handshakes.{acceptance_frame, connect_on, head_left, is_opened, is_refused, is_success, lacks_credit, poll_rows, rejection, response_ended, response_fault, response_incomplete, response_rows, response_to, send}
use Rattle.wt_meaning.specs.History.{History, contents, events, is_open}
use Rattle.wt_meaning.specs.Moments.{findings}
use Rattle.wt_meaning.specs.Rows.{first_row}
use Rattle.wt_meaning.specs.Sends.{action_if}
use Rattle.wt_meaning.specs.Targets.{Target, target_of}
use Rattle.wt_meaning.specs.Windows.{last_request, session_in}
use Rattle.wt_promise.proofs.OwnForms.{frame_of, head_of}
use Rattle.wt_promise.proofs.Tables.{OfRows, by-row, by-value, no-row, rejects-pass}
use Rattle.wt_proto.specs.ResponseWalk.{response_walk_of}
use Rattle.wt_proto.specs.declared.response_walk.ResponseWalk.{ResponseWalk}
use Rattle.wt_turn.specs.Reports.{end_of}
use Rattle.wt_turn.specs.declared.action.Action.{Action}
use Rattle.wt_turn.specs.declared.answer.Answer.{Answer}
use Rattle.wt_turn.specs.declared.call.Call.{Call}
use Rattle.wt_turn.specs.declared.connecting_error.ConnectingError.{ConnectingError}
use Rattle.wt_turn.specs.declared.reply.Reply.{Reply}
use Rattle.wt_wire.specs.HeaderList.{Fields}
use Rattle.wt_wire.specs.declared.side.Side.{Side}
use Rattle.wt_turn.specs.declared.action.Action.TheVariants as actions
use Rattle.wt_turn.specs.declared.call.Call.TheVariants as calls
use Rattle.wt_turn.specs.declared.reply.Reply.TheVariants as replies

-- ---- an acceptance

pub record AcceptGives (h : History) (headers : Fields) (s : ℕ) (a : Answer) : Type 0 where
  pub is_last : s ≡ unwrap_or (last_request h) 0
  pub open_then : is_open h ≡ true
  pub full : lacks_credit h (unwrap_or (last_request h) 0) (head_left h (unwrap_or (last_request h) 0) (acceptance_frame headers)) ≡ false
  pub acts : a.actions ≡ send h (unwrap_or (last_request h) 0) (head_left h (unwrap_or (last_request h) 0) (acceptance_frame headers))

abbrev AcceptIf : History → Fields → Answer → Type 0
AcceptIf h headers a = (s : ℕ) → session_in a.reply ≡ Some s → AcceptGives h headers s a

pub accept-gives : (side : Side) (h : History) (headers : Fields) → AcceptIf h headers (first_row (response_to side h (calls.Accept headers)))
accept-gives side h headers =
    (by-row (AcceptIf h headers) (not (is_open h)) _ [] _ (λ c s e. absurd (cc e))
    (λ o. by-row (AcceptIf h headers) (is_refused h r left) _ _ _ (λ d s e. absurd (cc e))
    (λ d. by-row (AcceptIf h headers) (lacks_credit h r left) replies.Pending _ _ (λ f s e. absurd (cc e))
    (λ f. by-row (AcceptIf h headers) true (replies.Session r) (send h r left) [] (λ g s e. record { is_last = cc e; open_then = not-false (is_open h) o; full = f; acts = refl })
    (λ g. no-row (AcceptIf h headers) (λ s e. absurd (cc e))))))).first
  where
    r : ℕ
    r = unwrap_or (last_request h) 0

    left : List ℕ
    left = head_left h r (acceptance_frame headers)

-- ---- a connect

pub record ConnectGives (side : Side) (h : History) (frame : List ℕ) (s : ℕ) (a : Answer) : Type 0 where
  pub is_zero : s ≡ 0
  pub open_then : is_open h ≡ true
  pub settings : settings_came (findings side h) ≡ true
  pub full : lacks_credit h 0 (head_left h 0 frame) ≡ false
  pub success : is_success (response_walk_of (contents h 0) (end_of (events h) 0)) ≡ true
  pub acts : a.actions ≡ action_if (not (is_opened h)) (actions.Opened 0) ++ send h 0 (head_left h 0 frame)

abbrev ConnectIf : Side → History → List ℕ → Answer → Type 0
ConnectIf side h frame a = (s : ℕ) → session_in a.reply ≡ Some s → ConnectGives side h frame s a

response-gives : (side : Side) (h : History) (frame : List ℕ) (own : List Action) (walk : ResponseWalk) → walk ≡ response_walk_of (contents h 0) (end_of (events h) 0) → settings_came (findings side h) ≡ true
    → lacks_credit h 0 (head_left h 0 frame) ≡ false → own ≡ action_if (not (is_opened h)) (actions.Opened 0) ++ send h 0 (head_left h 0 frame)
    → OfRows (ConnectIf side h frame) (response_rows side h own walk)
response-gives side h frame own walk w settled full acts =
    by-value P (response_fault walk) _ _ _ (λ y q s e. absurd (cc e))
    (λ q. by-row P (response_ended walk) _ _ _ (λ x s e. absurd (cc e))
    (λ x. by-row P (response_incomplete walk && not (is_open h)) _ own _ (λ y s e. absurd (cc e))
    (λ y. by-row P (response_incomplete walk) replies.Pending own _ (λ z s e. absurd (cc e))
    (λ z. by-row P (not (is_success walk)) _ _ _ (λ u s e. absurd (cc e))
    (λ u. by-row P (not (is_open h)) _ own _ (λ v s e. absurd (cc e))
    (λ v. by-row P true (replies.Session 0) own [] (λ t s e. record { is_zero = cc e; open_then = not-false (is_open h) v; settings = settled; full = full; success = rw (sym w) (not-false (is_success walk) u); acts = acts })
    (λ t. no-row P (λ s e. absurd (cc e)))))))))
  where
    P : Answer → Type 0
    P = ConnectIf side h frame

connect-gives : (side : Side) (h : History) (t : Result Target ConnectingError) → OfRows (ConnectIf side h (frame_of t)) (connect_on side h t)
connect-gives side h (Err x) = no-row (ConnectIf side h []) (λ s e. absurd (cc e))
connect-gives side h (Ok t) =
    by-row P _ _ [] _ (λ c s e. absurd (cc e)) (λ c. by-row P _ replies.Pending [] _ (λ d s e. absurd (cc e)) (λ d. by-row P _ _ [] _ (λ f s e. absurd (cc e))
    (λ f. by-row P (not (settings_came (findings side h))) replies.Pending [] _ (λ g s e. absurd (cc e))
    (λ g. by-value P t.reserved _ _ _ (λ y q s e. absurd (cc e)) (λ q. by-row P _ _ [] _ (λ i s e. absurd (cc e)) (λ i. by-row P _ replies.Pending [] _ (λ j s e. absurd (cc e)) (λ j. by-row P _ _ [] _ (λ k s e. absurd (cc e))
    (λ k. by-row P (is_refused h 0 (head_left h 0 t.frame)) _ _ _ (λ m s e. absurd (cc e))
    (λ m. by-row P (lacks_credit h 0 (head_left h 0 t.frame)) replies.Pending _ _ (λ n s e. absurd (cc e))
    (λ n. response-gives side h t.frame _ (response_walk_of (contents h 0) (end_of (events h) 0)) refl (not-false (settings_came (findings side h)) g) n refl))))))))))
  where
    P : Answer → Type 0
    P = ConnectIf side h t.frame

-- ---- a poll

-- the call is a connect
abbrev pub is_connect : Call → Bool
is_connect (calls.Connect options lookup outcome) = true
is_connect _ = false

-- the session that a poll gives
pub data PollGives (side : Side) (h : History) (s : ℕ) (a : Answer) (o : Option Call) : Type 0 where
  Accepted : (headers : Fields) → o ≡ Some (calls.Accept headers) → AcceptGives h headers s a → PollGives side h s a o
  Connected : (c : Call) → o ≡ Some c → is_connect c ≡ true → ConnectGives side h (head_of (Some c)) s a → PollGives side h s a o

abbrev no-session : Reply → Bool
no-session r = not (is_some (session_in r))

no-gift : (side : Side) (h : History) (s : ℕ) (a : Answer) (o : Option Call) → no-session a.reply ≡ true → session_in a.reply ≡ Some s → PollGives side h s a o
no-gift side h s a o n e = absurd (let r = rw e at n in cc r)

pub poll-gives : (side : Side) (h : History) (o : Option Call) (s : ℕ) → session_in (first_row (poll_rows side h o)).reply ≡ Some s → PollGives side h s (first_row (poll_rows side h o)) o
poll-gives side h None s e = absurd (cc e)
poll-gives side h (Some (calls.Connect options lookup outcome)) s e =
    Connected (calls.Connect options lookup outcome) refl refl ((connect-gives side h (target_of (parse_url None options.0) options.1 lookup outcome)).first s e)
poll-gives side h (Some (calls.Accept headers)) s e = Accepted headers refl (accept-gives side h headers s e)
poll-gives side h (Some calls.Forbidden) s e = no-gift side h s (first_row (rejection side h (codes "403"))) _ (rejects-pass no-session refl refl side h (codes "403")).first e
poll-gives side h (Some calls.NotFound) s e = no-gift side h s (first_row (rejection side h (codes "404"))) _ (rejects-pass no-session refl refl side h (codes "404")).first e
poll-gives side h (Some calls.TooManyRequests) s e = no-gift side h s (first_row (rejection side h (codes "429"))) _ (rejects-pass no-session refl refl side h (codes "429")).first e
poll-gives side h (Some c) s e = absurd (cc e)
