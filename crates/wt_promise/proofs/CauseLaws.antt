-- Rows and causes, one beside the other; how a session ended and what is left for it, said of findings.
use Rattle.std.specs.Prelude.{[], ◌%◌, ◌&&◌, ◌==◌, ◌∷◌, ◌||◌, ◌≡◌, Bool, List, None, Option, Some, false, filter, filter_map, if◌then◌else◌, not, true, unwrap_or, ℕ}
use Rattle.std.specs.List.{list_any}
use Rattle.std.specs.Option.{option_or}
use Rattle.std.proofs.Common.{◌∙◌, ap, refl, subst, sym}
use Rattle.std.proofs.lemmas.Bool.{eqb-true}
use Rattle.wt_meaning.specs.Calls.{closed_by, first_waiting, session_error, session_error_with}
use Rattle.wt_meaning.specs.Findings.{Classified, Finding, SessionClosed, fault_of, first_of, settings_came}
use Rattle.wt_meaning.specs.Handshakes.{driver_error, fault_error, loss_error, next_request, transport_error, was_given}
use Rattle.wt_meaning.specs.History.{History, Pair, events, is_handed_out}
use Rattle.wt_meaning.specs.Moments.{findings}
use Rattle.wt_meaning.specs.Rows.{Row, first_row, row, row_for}
use Rattle.wt_meaning.specs.Windows.{admitted_stream, is_gone, is_number, queued_request, requests}
use Rattle.wt_promise.specs.Causes.{Cause, closed_with, driver_answer, first_cause, left_for, left_request, session_answer, transport_answer, when, from}
use Rattle.wt_turn.specs.Reports.{loss_of}
use Rattle.wt_turn.specs.ProtoError.{error_of_loss}
use Rattle.wt_turn.specs.declared.action.Action.{Action}
use Rattle.wt_turn.specs.declared.connection_error.ConnectionError.{ConnectionError}
use Rattle.wt_turn.specs.declared.loss.LossReason.{LossReason}
use Rattle.wt_turn.specs.declared.reply.Reply.{Reply}
use Rattle.wt_wire.specs.HeaderList.{Fields}
use Rattle.wt_wire.specs.declared.error.ErrorCode.{ErrorCode}
use Rattle.wt_wire.specs.declared.side.Side.{Side}
use Rattle.wt_proto.specs.declared.verdict.Verdict.TheVariants as verdicts
use Rattle.wt_turn.specs.declared.connection_error.ConnectionError.TheVariants as errors

-- ---- rows and causes

-- the rows' reply is that of the first cause
pub record Caused (rows : List Row) (causes : List Cause) : Type 0 where
  pub first : (first_row rows).reply ≡ first_cause causes

pub both-wait : Caused [] []
both-wait = record { first = refl }

pub both-rows : {b c : Bool} (r : Reply) (own : List Action) {rows : List Row} {causes : List Cause} → b ≡ c → Caused rows causes → Caused (row b r own ∷ rows) (when c r ∷ causes)
both-rows {b = b} {c = c} r own {rows = rows} {causes = causes} e later = by b c e
  where
    by : (x y : Bool) → x ≡ y → Caused (row x r own ∷ rows) (when y r ∷ causes)
    by true true q = record { first = refl }
    by false false q = record { first = later.first }
    by true false q = absurd (cc q)
    by false true q = absurd (cc q)

pub both-some : {T : Type 0} (x : Option T) (gives : T → Reply) (own : List Action) {rows : List Row} {causes : List Cause} → (x ≡ None → Caused rows causes) → Caused (row_for x gives own ∷ rows) (from x gives ∷ causes)
both-some None gives own later = record { first = (later refl).first }
both-some (Some x) gives own later = record { first = refl }

pub both-last : (r : Reply) (own : List Action) {rows : List Row} {causes : List Cause} → Caused (row true r own ∷ rows) (Some r ∷ causes)
both-last r own = record { first = refl }

-- the causes may be written otherwise
pub caused-as : {rows : List Row} {causes others : List Cause} → causes ≡ others → Caused rows causes → Caused rows others
caused-as {rows = rows} e c = subst (λ (cs : List Cause). Caused rows cs) e c

-- ---- how a session ended

pub same-transport : (h : History) → transport_error h ≡ transport_answer h
same-transport h = by (loss_of (events h))
  where
    by : (o : Option LossReason) → loss_error o ≡ elim o [ Some reason ↦ error_of_loss reason | None ↦ errors.LocallyClosed ]
    by None = refl
    by (Some reason) = refl

pub same-driver : (side : Side) (h : History) → driver_error side h ≡ driver_answer side h
same-driver side h = by (fault_of (findings side h))
  where
    by : (o : Option ErrorCode) → fault_error h o ≡ elim o [ Some code ↦ errors.LocalH3Error code | None ↦ transport_answer h ]
    by None = same-transport h
    by (Some code) = refl

pub first-same : {S T : Type 0} (f g : S → Option T) → ((x : S) → f x ≡ g x) → (xs : List S) → first_of f xs ≡ first_of g xs
first-same f g e [] = refl
first-same f g e (x ∷ xs) = rw (e x, first-same f g e xs) refl

same-closing : (s : ℕ) (f : Finding) → closed_by s f ≡ closed_with s f
same-closing s (SessionClosed session code reason by_capsule) = refl
same-closing s f = refl

pub same-session : (side : Side) (h : History) (s : ℕ) → session_error side h s ≡ session_answer side h s
same-session side h s =
    by (first_of (closed_by s) (findings side h))
    ∙ ap (λ (o : Option ConnectionError). unwrap_or o (if is_gone h (findings side h) s then errors.LocallyClosed else driver_answer side h)) (first-same (closed_by s) (closed_with s) (same-closing s) (findings side h))
  where
    by : (o : Option ConnectionError) → session_error_with side h s o ≡ unwrap_or o (if is_gone h (findings side h) s then errors.LocallyClosed else driver_answer side h)
    by None = ap (λ (e : ConnectionError). if is_gone h (findings side h) s then errors.LocallyClosed else e) (same-driver side h)
    by (Some e) = refl

-- ---- what is left

-- of what a list says, what passes a test and says more
first-through : {S T U : Type 0} (says : S → Option T) (test : T → Bool) (more : T → Option U) (all : S → Option U) → ((x : S) → elim (says x) [ Some y ↦ (if test y then more y else None) | None ↦ None ] ≡ all x)
    → (xs : List S) → first_of more (filter test (filter_map says xs)) ≡ first_of all xs
first-through says test more all e [] = refl
first-through {S = S} {T = T} {U = U} says test more all e (x ∷ xs) = by (says x) refl (first-through says test more all e xs)
  where
    kept : (y : T) (b : Bool) → test y ≡ b → first_of more (filter test (filter_map says xs)) ≡ first_of all xs
        → first_of more (if b then y ∷ filter test (filter_map says xs) else filter test (filter_map says xs)) ≡ option_or (if b then more y else None) (first_of all xs)
    kept y true q later = ap (option_or (more y)) later
    kept y false q later = later

    by : (o : Option T) → says x ≡ o → first_of more (filter test (filter_map says xs)) ≡ first_of all xs
        → first_of more (filter test (filter_map says (x ∷ xs))) ≡ option_or (all x) (first_of all xs)
    by None q later = rw (sym (e x), q) later
    by (Some y) q later = rw (sym (e x), q) (kept y (test y) refl later)

first-mapped : {S T U : Type 0} (says : S → Option T) (more : T → Option U) (all : S → Option U) → ((x : S) → elim (says x) [ Some y ↦ more y | None ↦ None ] ≡ all x)
    → (xs : List S) → first_of more (filter_map says xs) ≡ first_of all xs
first-mapped says more all e [] = refl
first-mapped {S = S} {T = T} {U = U} says more all e (x ∷ xs) = by (says x) refl (first-mapped says more all e xs)
  where
    by : (o : Option T) → says x ≡ o → first_of more (filter_map says xs) ≡ first_of all xs → first_of more (filter_map says (x ∷ xs)) ≡ option_or (all x) (first_of all xs)
    by None q later = rw (sym (e x), q) later
    by (Some y) q later = rw (sym (e x), q) (ap (option_or (more y)) later)

if-none : {T : Type 0} (b : Bool) → ◌≡◌ {A = Option T} (if b then None else None) None
if-none true = refl
if-none false = refl

none-first : {S T : Type 0} (xs : List S) → ◌≡◌ {A = Option T} (first_of (λ (x : S). None) xs) None
none-first [] = refl
none-first (x ∷ xs) = none-first xs

-- the first stream that waits is the first that a finding admits and no reply handed out
pub left-stream : (side : Side) (h : History) (kind s : ℕ) → first_waiting side h kind s ≡ (if is_gone h (findings side h) s then None else first_of (left_for h kind s) (findings side h))
left-stream side h kind s =
    first-through admitted_stream (λ (w : ℕ × ℕ). not (is_handed_out h w.0) && not (is_gone h (findings side h) w.1)) (λ (w : ℕ × ℕ). if w.0 % 4 == kind && w.1 == s then Some w.0 else None)
    (λ (f : Finding). if is_gone h (findings side h) s then None else left_for h kind s f) each (findings side h)
    ∙ split (is_gone h (findings side h) s)
  where
    split : (g : Bool) → first_of (λ (f : Finding). if g then None else left_for h kind s f) (findings side h) ≡ (if g then None else first_of (left_for h kind s) (findings side h))
    split true = none-first (findings side h)
    split false = refl

    one : (id : ℕ) (a b d x g : Bool) → (b ≡ true → x ≡ g) → ◌≡◌ {A = Option ℕ} (if not d && not x then (if a && b then Some id else None) else None) (if g then None else (if a && b && not d then Some id else None))
    one id false b d x g q = if-none (not d && not x) ∙ sym (if-none g)
    one id true false d x g q = if-none (not d && not x) ∙ sym (if-none g)
    one id true true true true true q = refl
    one id true true false true true q = refl
    one id true true true false false q = refl
    one id true true false false false q = refl
    one id true true d true false q = absurd (let e : true ≡ false = q refl in cc e)
    one id true true d false true q = absurd (let e : false ≡ true = q refl in cc e)

    each : (f : Finding) → elim (admitted_stream f) [ Some w ↦ (if not (is_handed_out h w.0) && not (is_gone h (findings side h) w.1) then (if w.0 % 4 == kind && w.1 == s then Some w.0 else None) else None) | None ↦ None ]
        ≡ (if is_gone h (findings side h) s then None else left_for h kind s f)
    each (Classified id (verdicts.WebTransport session offset) true) =
        one id (id % 4 == kind) (session == s) (is_handed_out h id) (is_gone h (findings side h) session) (is_gone h (findings side h) s)
        (λ e. ap (is_gone h (findings side h)) (eqb-true session s e))
    each f = sym (if-none (is_gone h (findings side h) s))

given-same : (h : History) (k : ℕ) → was_given h k ≡ list_any (λ (p : Pair). is_number k (requests p)) h
given-same [] k = refl
given-same (p ∷ h) k = by (requests p) refl (given-same h k)
  where
    by : (o : Option ℕ) → requests p ≡ o → was_given h k ≡ list_any (λ (q : Pair). is_number k (requests q)) h → was_given (p ∷ h) k ≡ (is_number k (requests p) || list_any (λ (q : Pair). is_number k (requests q)) h)
    by None q later = rw q later
    by (Some m) q later = rw q (ap (λ (b : Bool). (m == k) || b) later)

-- so is the first request
pub left-first : (side : Side) (h : History) → next_request side h ≡ (if settings_came (findings side h) then first_of (left_request h) (findings side h) else None)
left-first side h =
    ap (λ (o : Option (ℕ × Fields)). if settings_came (findings side h) then o else None)
    (first-mapped queued_request (λ (q : ℕ × Fields). if was_given h q.0 then None else Some q) (left_request h) each (findings side h))
  where
    each : (f : Finding) → elim (queued_request f) [ Some q ↦ (if was_given h q.0 then None else Some q) | None ↦ None ] ≡ left_request h f
    each (Classified id (verdicts.Request headers offset) true) = ap (λ (b : Bool). if b then None else Some (id, headers)) (given-same h id)
    each f = refl
