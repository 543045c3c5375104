-- What the own answer of a connect or a response that goes on may be.
use Rattle.std.specs.Prelude.{[], ◌++◌, ◌||◌, ◌∷◌, ◌≡◌, Bool, Contains, Err, List, None, Ok, Option, Result, Some, codes, false, if◌then◌else◌, not, true, unwrap_or, ℕ}
use Rattle.std.proofs.Common.{arith, refl, subst, sym}
use Rattle.url.specs.Parser.{parse_url}
use Rattle.wt_meaning.specs.Handshakes.{acceptance_frame, close_by, connect_fault, connect_on, head_left, is_opened, is_refused, is_success, lacks_credit, none_lives, poll_rows, rejection, response_ended, response_fault, response_incomplete, response_rows, send}
use Rattle.wt_meaning.specs.History.{History, contents, events, is_open, was_finished}
use Rattle.wt_meaning.specs.Lawful.{is_response}
use Rattle.wt_meaning.specs.Moments.{findings}
use Rattle.wt_meaning.specs.Rows.{Row, answer}
use Rattle.wt_meaning.specs.Sends.{action_if, close_if_open, session_gone_actions}
use Rattle.wt_meaning.specs.Targets.{Target, target_of}
use Rattle.wt_meaning.specs.Windows.{last_request}
use Rattle.wt_message.specs.FixedBytes.{response_bytes}
use Rattle.wt_promise.proofs.Accepted.{not-true}
use Rattle.wt_promise.proofs.Tables.{OfRows, by-row, by-value, is_plain, is_session, no-row}
use Rattle.wt_promise.proofs.OwnForms.{fault_closes, frame_of, handshake_ends, head_of, rejection_ends}
use Rattle.wt_proto.specs.ResponseWalk.{response_walk_of}
use Rattle.wt_proto.specs.declared.response_walk.ResponseWalk.{ResponseWalk}
use Rattle.wt_turn.specs.Reports.{end_of}
use Rattle.wt_turn.specs.declared.action.Action.{Action}
use Rattle.wt_turn.specs.declared.answer.Answer.{Answer}
use Rattle.wt_turn.specs.declared.call.Call.{Call}
use Rattle.wt_turn.specs.declared.connecting_error.ConnectingError.{ConnectingError}
use Rattle.wt_turn.specs.declared.reply.Reply.{Reply}
use Rattle.wt_wire.specs.Codes.{code_of}
use Rattle.wt_wire.specs.HeaderList.{Fields}
use Rattle.wt_wire.specs.declared.error.ErrorCode.{ErrorCode}
use Rattle.wt_wire.specs.declared.side.Side.{Side}
use Rattle.wt_turn.specs.declared.action.Action.TheVariants as actions
use Rattle.wt_turn.specs.declared.call.Call.TheVariants as calls
use Rattle.wt_turn.specs.declared.reply.Reply.TheVariants as replies

-- the stream on which a connect or a response writes its frame
abbrev pub head_stream : History → Call → ℕ
head_stream h (calls.Connect options lookup outcome) = 0
head_stream h c = unwrap_or (last_request h) 0

-- what a connect opens in front of it
abbrev pub opening : History → Call → List Action
opening h (calls.Connect options lookup outcome) = action_if (not (is_opened h)) (actions.Opened 0)
opening h c = []

-- that, and the rest of the frame as far as credit goes
abbrev pub rest : History → Call → List ℕ → List Action
rest h c frame = opening h c ++ send h (head_stream h c) (head_left h (head_stream h c) frame)

-- it may end so
abbrev pub MayEnd : History → Call → Action → Type 0
MayEnd h c x = Contains (handshake_ends h (Some c)) x

-- it is no rejection
abbrev pub gives_on : Reply → Bool
gives_on r = is_plain r || is_session r

pub data Shake (side : Side) (h : History) (c : Call) (frame : List ℕ) : Answer → Type 0 where
  Shut : is_response c ≡ true → is_open h ≡ false → Shake side h c frame (answer replies.Rejected [])
  Still : (r : Reply) → gives_on r ≡ true → Shake side h c frame (answer r [])
  Shuts : (r : Reply) (code : ℕ) → gives_on r ≡ true → MayEnd h c (actions.Close code []) → Shake side h c frame (answer r (close_if_open h code))
  Goes : (r : Reply) → gives_on r ≡ true → Shake side h c frame (answer r (rest h c frame))
  GoesShuts : (r : Reply) (code : ℕ) → gives_on r ≡ true → MayEnd h c (actions.Close code []) → Shake side h c frame (answer r (rest h c frame ++ close_if_open h code))
  Finishes : is_response c ≡ true → ((s : ℕ) → last_request h ≡ Some s → MayEnd h c (actions.Finish s)) → Shake side h c frame (answer replies.Pending (rest h c frame ++ actions.Finish (head_stream h c) ∷ []))
  Rejects : is_response c ≡ true → (b : Bool) (code : ℕ) → MayEnd h c (actions.Close code [])
      → Shake side h c frame (answer replies.Rejected (session_gone_actions side h (findings side h) (head_stream h c) ++ (if b then close_if_open h code else [])))

-- what holds of each answer that rows may give holds of theirs
pub map-rows : {P Q : Answer → Type 0} → ((a : Answer) → P a → Q a) → {rows : List Row} → OfRows P rows → OfRows Q rows
map-rows f o = record { first = f _ o.first }

pub first-of : (x : Action) (xs : List Action) → Contains (x ∷ xs) x
first-of x xs = (0, omega arith, refl)

pub second-of : (x y : Action) (xs : List Action) → Contains (x ∷ y ∷ xs) y
second-of x y xs = (1, omega arith, refl)

-- ---- responses

finish-in : (request : Option ℕ) (s : ℕ) → request ≡ Some s → Contains (rejection_ends request) (actions.Finish s)
finish-in None s e = absurd (cc e)
finish-in (Some k) s e = subst (λ (n : ℕ). Contains (rejection_ends (Some k)) (actions.Finish n)) (let q : k ≡ s = cc e in q) (first-of (actions.Finish k) (actions.Close 0x104 [] ∷ actions.Close 0 [] ∷ []))

refused-in : (request : Option ℕ) → Contains (rejection_ends request) (actions.Close 0x104 [])
refused-in None = (0, omega arith, refl)
refused-in (Some k) = (1, omega arith, refl)

over-in : (request : Option ℕ) → Contains (rejection_ends request) (actions.Close 0 [])
over-in None = (1, omega arith, refl)
over-in (Some k) = (2, omega arith, refl)

-- a rejection, from what holds of what it may be
rejected : (P : Answer → Type 0) (side : Side) (h : History) (digits : List ℕ) → (is_open h ≡ false → P (answer replies.Rejected [])) → P (answer replies.Pending [])
    → P (answer replies.Pending (send h (unwrap_or (last_request h) 0) (head_left h (unwrap_or (last_request h) 0) (response_bytes digits))))
    → P (answer replies.Pending (send h (unwrap_or (last_request h) 0) (head_left h (unwrap_or (last_request h) 0) (response_bytes digits)) ++ actions.Finish (unwrap_or (last_request h) 0) ∷ []))
    → ((b : Bool) (code : ℕ) → Contains (rejection_ends (last_request h)) (actions.Close code [])
    → P (answer replies.Rejected (session_gone_actions side h (findings side h) (unwrap_or (last_request h) 0) ++ (if b then close_if_open h code else []))))
    → OfRows P (rejection side h digits)
rejected P side h digits shut still goes finishes rejects =
    by-row P (not (is_open h)) replies.Rejected [] _ (λ q. shut (not-true (is_open h) q))
    (λ q. by-row P (is_refused h s left) replies.Rejected _ _ (λ x. rejects true 0x104 (refused-in (last_request h)))
    (λ x. by-row P (lacks_credit h s left) replies.Pending (send h s left) _ (λ y. goes)
    (λ y. by-row P (not (was_finished h s)) replies.Pending (send h s left ++ actions.Finish s ∷ []) _ (λ z. finishes)
    (λ z. by-row P _ replies.Rejected _ [] (λ w. rejects (none_lives side h) 0 (over-in (last_request h))) (λ w. no-row P still)))))
  where
    s : ℕ
    s = unwrap_or (last_request h) 0

    left : List ℕ
    left = head_left h s (response_bytes digits)

accepted : (side : Side) (h : History) (headers : Fields) → OfRows (Shake side h (calls.Accept headers) (acceptance_frame headers)) (poll_rows side h (Some (calls.Accept headers)))
accepted side h headers =
    by-row P (not (is_open h)) _ [] _ (λ q. Still _ refl)
    (λ q. by-row P (is_refused h s left) _ (close_if_open h 0x104) _ (λ x. Shuts _ 0x104 refl (first-of (actions.Close 0x104 []) []))
    (λ x. by-row P (lacks_credit h s left) replies.Pending (send h s left) _ (λ y. Goes _ refl)
    (λ y. by-row P true (replies.Session s) (send h s left) [] (λ z. Goes _ refl) (λ z. no-row P (Still _ refl)))))
  where
    P : Answer → Type 0
    P = Shake side h (calls.Accept headers) (acceptance_frame headers)

    s : ℕ
    s = unwrap_or (last_request h) 0

    left : List ℕ
    left = head_left h s (acceptance_frame headers)

-- ---- a connect

-- what it may end
abbrev connect_ends : History → List Action
connect_ends h = actions.Close 0 [] ∷ fault_closes (response_fault (response_walk_of (contents h 0) (end_of (events h) 0)))

-- one that goes on, from what holds of what it may be
connected : (P : Answer → Type 0) (side : Side) (h : History) (t : Result Target ConnectingError) → ((r : Reply) → gives_on r ≡ true → P (answer r []))
    → ((r : Reply) (code : ℕ) → gives_on r ≡ true → Contains (connect_ends h) (actions.Close code []) → P (answer r (close_if_open h code)))
    → ((r : Reply) → gives_on r ≡ true → P (answer r (action_if (not (is_opened h)) (actions.Opened 0) ++ send h 0 (head_left h 0 (frame_of t)))))
    → ((r : Reply) (code : ℕ) → gives_on r ≡ true → Contains (connect_ends h) (actions.Close code [])
    → P (answer r ((action_if (not (is_opened h)) (actions.Opened 0) ++ send h 0 (head_left h 0 (frame_of t))) ++ close_if_open h code)))
    → OfRows P (connect_on side h t)
connected P side h (Err e) still shuts goes both = no-row P (still replies.Pending refl)
connected P side h (Ok t) still shuts goes both =
    by-row P _ _ [] _ (λ q. still _ refl) (λ q. by-row P _ _ [] _ (λ q. still _ refl) (λ q. by-row P _ _ [] _ (λ q. still _ refl) (λ q. by-row P _ _ [] _ (λ q. still _ refl)
    (λ q. by-value P t.reserved _ (close_if_open h 0) _ (λ y q. shuts _ 0 refl shut)
    (λ q. by-row P _ _ [] _ (λ q. still _ refl) (λ q. by-row P _ _ [] _ (λ q. still _ refl) (λ q. by-row P _ _ [] _ (λ q. still _ refl)
    (λ q. by-row P (is_refused h 0 left) _ (close_if_open h 0) _ (λ x. shuts _ 0 refl shut) (λ x. by-row P (lacks_credit h 0 left) replies.Pending own _ (λ y. goes _ refl) (λ y. response))))))))))
  where
    left : List ℕ
    left = head_left h 0 t.frame

    own : List Action
    own = action_if (not (is_opened h)) (actions.Opened 0) ++ send h 0 left

    walk : ResponseWalk
    walk = response_walk_of (contents h 0) (end_of (events h) 0)

    shut : Contains (connect_ends h) (actions.Close 0 [])
    shut = first-of (actions.Close 0 []) (fault_closes (response_fault walk))

    fault : (code : ErrorCode) → response_fault walk ≡ Some code → P (answer (connect_fault code) (own ++ close_by h (response_fault walk)))
    fault code q =
        subst (λ (o : Option ErrorCode). P (answer (connect_fault code) (own ++ close_by h o))) (sym q)
        (both (connect_fault code) (code_of code) refl (subst (λ (o : Option ErrorCode). Contains (actions.Close 0 [] ∷ fault_closes o) (actions.Close (code_of code) [])) (sym q) (second-of (actions.Close 0 []) (actions.Close (code_of code) []) [])))

    response : OfRows P (response_rows side h own walk)
    response =
        by-value P (response_fault walk) connect_fault (own ++ close_by h (response_fault walk)) _ fault
        (λ q. by-row P (response_ended walk) _ (own ++ close_if_open h 0) _ (λ x. both _ 0 refl shut)
        (λ x. by-row P _ _ own _ (λ y. goes _ refl)
        (λ y. by-row P (response_incomplete walk) replies.Pending own _ (λ z. goes _ refl)
        (λ z. by-row P (not (is_success walk)) _ (own ++ close_if_open h 0) _ (λ w. both _ 0 refl shut)
        (λ w. by-row P (not (is_open h)) _ own _ (λ v. goes _ refl)
        (λ v. by-row P true (replies.Session 0) own [] (λ u. goes _ refl) (λ u. no-row P (still replies.Pending refl))))))))

-- ---- each of them

pub shakes : (side : Side) (h : History) (c : Call) → OfRows (Shake side h c (head_of (Some c))) (poll_rows side h (Some c))
shakes side h (calls.Connect options lookup outcome) =
    connected (Shake side h (calls.Connect options lookup outcome) (head_of (Some (calls.Connect options lookup outcome)))) side h (target_of (parse_url None options.0) options.1 lookup outcome)
    (λ r f. Still r f) (λ r code f m. Shuts r code f m) (λ r f. Goes r f) (λ r code f m. GoesShuts r code f m)
shakes side h (calls.Accept headers) = accepted side h headers
shakes side h calls.Forbidden =
    rejected (Shake side h calls.Forbidden (response_bytes (codes "403"))) side h (codes "403") (Shut refl) (Still replies.Pending refl) (Goes replies.Pending refl) (Finishes refl (finish-in (last_request h))) (λ b code m. Rejects refl b code m)
shakes side h calls.NotFound =
    rejected (Shake side h calls.NotFound (response_bytes (codes "404"))) side h (codes "404") (Shut refl) (Still replies.Pending refl) (Goes replies.Pending refl) (Finishes refl (finish-in (last_request h))) (λ b code m. Rejects refl b code m)
shakes side h calls.TooManyRequests =
    rejected (Shake side h calls.TooManyRequests (response_bytes (codes "429"))) side h (codes "429") (Shut refl) (Still replies.Pending refl) (Goes replies.Pending refl) (Finishes refl (finish-in (last_request h))) (λ b code m. Rejects refl b code m)
shakes side h c = no-row (Shake side h c []) (Still replies.Pending refl)
