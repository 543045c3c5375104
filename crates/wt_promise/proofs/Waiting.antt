-- A call is answered Pending exactly where the connection is open and nothing is left that it could give.
use Rattle.std.specs.Prelude.{[], ◌&&◌, ◌==◌, ◌∷◌, ◌||◌, ◌≡◌, Bool, Err, List, None, Ok, Option, Result, Some, false, if◌then◌else◌, is_none, is_some, length, not, true, ℕ}
use Rattle.std.specs.List.{list_any}
use Rattle.std.specs.Option.{option_or}
use Rattle.std.proofs.Common.{◌∙◌, refl, sym}
use Rattle.std.proofs.lemmas.Bool.{eq-eqb}
use Rattle.wt_turn.specs.Reports.{is_running}
use Rattle.wt_turn.specs.declared.action.Action.{Action}
use Rattle.wt_turn.specs.declared.connecting_error.ConnectingError.{ConnectingError}
use Rattle.wt_turn.specs.declared.connection_error.ConnectionError.{ConnectionError}
use Rattle.wt_turn.specs.declared.reply.Reply.{Reply}
use Rattle.wt_turn.specs.declared.stream_error.SendDatagramError.{SendDatagramError}
use Rattle.wt_wire.specs.declared.side.StreamEnd.{StreamEnd}
use Rattle.wt_meaning.specs.Calls.{in_session}
use Rattle.wt_meaning.specs.Findings.{first_of}
use Rattle.wt_meaning.specs.Halves.{is_fin, reset_code, where_has}
use Rattle.wt_meaning.specs.Handshakes.{begin_rows}
use Rattle.wt_meaning.specs.History.{History}
use Rattle.wt_meaning.specs.Lawful.{is_pending}
use Rattle.wt_meaning.specs.Rows.{Row, first_row, row, row_for}
use Rattle.wt_meaning.specs.Targets.{Target}
use Rattle.wt_meaning.specs.Windows.{establishes, first_session, is_established, named}
use Rattle.wt_promise.proofs.Waits.{on_named, on_target}
use Rattle.wt_turn.specs.declared.reply.Reply.TheVariants as replies
use Rattle.wt_turn.specs.declared.stream_error.SendDatagramError.TheVariants as datagrams
use Rattle.wt_turn.specs.declared.stream_error.StreamOpeningError.TheVariants as openings
use Rattle.wt_turn.specs.declared.stream_error.StreamReadError.TheVariants as reads
use Rattle.wt_turn.specs.declared.stream_error.StreamReadExactError.TheVariants as exacts
use Rattle.wt_turn.specs.declared.stream_error.StreamWriteError.TheVariants as writes
use Rattle.wt_wire.specs.declared.side.StreamEnd.TheVariants as ends

-- the reply of these rows is Pending
abbrev pub waits : List Row → Bool
waits rows = is_pending (first_row rows).reply

-- ---- tests

pub and-false : (b : Bool) → false ≡ (b && false)
and-false true = refl
and-false false = refl

-- of a half that isn't there nothing is awaited
pub half-waits : (o has x : Bool) (rows : List Row) → waits rows ≡ (o && x) → waits (where_has has rows) ≡ (o && (has && x))
half-waits o true x rows e = e
half-waits o false x rows e = and-false o

-- nor of a session that wasn't established
pub session-waits : (o : Bool) (name : Option ℕ) (rows : ℕ → List Row) (test : ℕ → Bool) → ((s : ℕ) → name ≡ Some s → waits (rows s) ≡ (o && test s)) → waits (in_session name rows) ≡ (o && on_named name test)
session-waits o None rows test e = and-false o
session-waits o (Some s) rows test e = e s refl

-- a call that is never Pending
pub session-never : (o : Bool) (name : Option ℕ) (rows : ℕ → List Row) → ((s : ℕ) → waits (rows s) ≡ false) → waits (in_session name rows) ≡ (o && false)
session-never o None rows e = and-false o
session-never o (Some s) rows e = e s ∙ and-false o

-- ---- the first of a list

pub first-waits : {X Y : Type 0} (test : X → Bool) (says : X → Y) (xs : List X) → is_none (first_of (λ (x : X). if test x then Some (says x) else None) xs) ≡ not (list_any test xs)
first-waits test says [] = refl
first-waits {X = X} {Y = Y} test says (x ∷ xs) = by (test x) (first-waits test says xs)
  where
    by : (b : Bool) → is_none (first_of (λ (x : X). if test x then Some (says x) else None) xs) ≡ not (list_any test xs)
        → is_none (option_or (if b then Some (says x) else None) (first_of (λ (x : X). if test x then Some (says x) else None) xs)) ≡ not (b || list_any test xs)
    by true e = refl
    by false e = e

-- (the test the other way round)
pub first-unless : {X : Type 0} (test : X → Bool) (xs : List X) → is_none (first_of (λ (x : X). if test x then None else Some x) xs) ≡ not (list_any (λ (x : X). not (test x)) xs)
first-unless test [] = refl
first-unless {X = X} test (x ∷ xs) = by (test x) (first-unless test xs)
  where
    by : (b : Bool) → is_none (first_of (λ (x : X). if test x then None else Some x) xs) ≡ not (list_any (λ (x : X). not (test x)) xs)
        → is_none (option_or (if b then None else Some x) (first_of (λ (x : X). if test x then None else Some x) xs)) ≡ not (not b || list_any (λ (x : X). not (test x)) xs)
    by true e = e
    by false e = refl

-- ---- rows

-- a value is given where it is there, and the call fails where the test doesn't hold
pub given-waits : {X : Type 0} (o l w : Bool) (x : Option X) (gives : X → Reply) (e : ConnectionError) → ((y : X) → is_pending (gives y) ≡ false) → is_none x ≡ not w
    → waits (row_for x gives [] ∷ row (not (l && o)) (replies.Failed e) [] ∷ []) ≡ (o && (l && not w))
given-waits true true true (Some y) gives e never n = never y
given-waits true true false None gives e never n = refl
given-waits true true true None gives e never n = n
given-waits true true false (Some y) gives e never n = never y ∙ n
given-waits true false w (Some y) gives e never n = never y
given-waits true false w None gives e never n = refl
given-waits false true w (Some y) gives e never n = never y
given-waits false true w None gives e never n = refl
given-waits false false w (Some y) gives e never n = never y
given-waits false false w None gives e never n = refl

-- (of a connection alone)
pub asked-waits : {X : Type 0} (o w : Bool) (x : Option X) (gives : X → Reply) (e : ConnectionError) → ((y : X) → is_pending (gives y) ≡ false) → is_none x ≡ w
    → waits (row_for x gives [] ∷ row (not o) (replies.Failed e) [] ∷ []) ≡ (o && w)
asked-waits true w (Some y) gives e never n = never y ∙ n
asked-waits true w None gives e never n = n
asked-waits false w (Some y) gives e never n = never y
asked-waits false w None gives e never n = refl

-- opening a stream
pub open-waits : (o gone may : Bool) (e f : ConnectionError) (id : ℕ) (own : List Action)
    → waits (row gone (replies.Failed e) [] ∷ row (not o) (replies.Failed f) [] ∷ row may (replies.Opening id) own ∷ []) ≡ (o && ((true && not gone) && not may))
open-waits true true may e f id own = refl
open-waits true false true e f id own = refl
open-waits true false false e f id own = refl
open-waits false true may e f id own = refl
open-waits false false may e f id own = refl

-- going on with its header
pub opening-waits : (o l refused lacks b : Bool) (k : ℕ) (own more : List Action)
    → waits (row (not (o && l)) (replies.OpeningFailed openings.NotConnected) [] ∷ row refused (replies.OpeningFailed openings.Refused) []
    ∷ row lacks replies.Pending own ∷ row true (if b then replies.BiReady k else replies.SendReady k) more ∷ []) ≡ (o && (l && (not refused && lacks)))
opening-waits true true true lacks b k own more = refl
opening-waits true true false true b k own more = refl
opening-waits true true false false true k own more = refl
opening-waits true true false false false k own more = refl
opening-waits true false refused lacks b k own more = refl
opening-waits false true refused lacks b k own more = refl
opening-waits false false refused lacks b k own more = refl

-- an acceptance
pub acceptance-waits : (o refused lacks : Bool) (e f : ConnectionError) (s : ℕ) (close own : List Action)
    → waits (row (not o) (replies.Failed e) [] ∷ row refused (replies.Failed f) close ∷ row lacks replies.Pending own ∷ row true (replies.Session s) own ∷ []) ≡ (o && (not refused && lacks))
acceptance-waits true true lacks e f s close own = refl
acceptance-waits true false true e f s close own = refl
acceptance-waits true false false e f s close own = refl
acceptance-waits false refused lacks e f s close own = refl

-- a rejection
pub rejection-waits : (o refused lacks finished done : Bool) (a b c d : List Action)
    → waits (row (not o) replies.Rejected [] ∷ row refused replies.Rejected a ∷ row lacks replies.Pending b ∷ row (not finished) replies.Pending c ∷ row done replies.Rejected d ∷ [])
    ≡ (o && (not refused && (lacks || not finished || not done)))
rejection-waits true true lacks finished done a b c d = refl
rejection-waits true false true finished done a b c d = refl
rejection-waits true false false false done a b c d = refl
rejection-waits true false false true true a b c d = refl
rejection-waits true false false true false a b c d = refl
rejection-waits false refused lacks finished done a b c d = refl

-- a write
pub write-waits : (o closed : Bool) (stop : Option ℕ) (nothing none : Bool) (n : ℕ) (own : List Action)
    → waits (row (not o) (replies.WriteFailed writes.NotConnected) [] ∷ row closed (replies.WriteFailed writes.Closed) []
    ∷ row_for stop (λ (code : ℕ). replies.WriteFailed (writes.Stopped code)) [] ∷ row nothing (replies.Written 0) [] ∷ row (not none) (replies.Written n) own ∷ [])
    ≡ (o && (not closed && not (is_some stop) && not nothing && none))
write-waits true true stop nothing none n own = refl
write-waits true false (Some c) nothing none n own = refl
write-waits true false None true none n own = refl
write-waits true false None false true n own = refl
write-waits true false None false false n own = refl
write-waits false closed stop nothing none n own = refl

-- a whole write never waits
pub write_all-waits : (o closed : Bool) (stop : Option ℕ) (all : Bool) (n : ℕ) (own : List Action)
    → waits (row (not o) (replies.WriteFailed writes.NotConnected) [] ∷ row closed (replies.WriteFailed writes.Closed) []
    ∷ row_for stop (λ (code : ℕ). replies.WriteFailed (writes.Stopped code)) [] ∷ row all replies.AllWritten own ∷ row true (replies.Count n) own ∷ []) ≡ false
write_all-waits true true stop all n own = refl
write_all-waits true false (Some c) all n own = refl
write_all-waits true false None true n own = refl
write_all-waits true false None false n own = refl
write_all-waits false closed stop all n own = refl

-- how a half ended
pub stopped-waits : (o : Bool) (stop : Option ℕ) (done : Bool)
    → waits (row_for stop (λ (code : ℕ). replies.StoppedBy (writes.Stopped code)) [] ∷ row done (replies.StoppedBy writes.Closed) [] ∷ row (not o) (replies.StoppedBy writes.NotConnected) [] ∷ [])
    ≡ (o && (not (is_some stop) && not done))
stopped-waits true (Some c) done = refl
stopped-waits true None true = refl
stopped-waits true None false = refl
stopped-waits false (Some c) done = refl
stopped-waits false None true = refl
stopped-waits false None false = refl

-- a finish: a half that is done is closed
pub finish-waits : (o closed : Bool) (stop : Option ℕ) (done : Bool) (own : List Action) → (done ≡ true → closed ≡ true)
    → waits (row (o && not closed && not (is_some stop)) replies.Pending own ∷ row_for stop (λ (code : ℕ). replies.WriteFailed (writes.Stopped code)) []
    ∷ row done replies.Finished [] ∷ row (not o) (replies.WriteFailed writes.NotConnected) [] ∷ []) ≡ (o && (not (is_some stop) && not done))
finish-waits true true (Some c) done own e = refl
finish-waits true false (Some c) done own e = refl
finish-waits true true None true own e = refl
finish-waits true true None false own e = refl
finish-waits true false None true own e = sym (e refl)
finish-waits true false None false own e = refl
finish-waits false closed (Some c) done own e = refl
finish-waits false closed None true own e = refl
finish-waits false closed None false own e = refl

-- a reset, and a priority, never wait
pub closed-waits : (done : Bool) (r : Reply) (own : List Action) → is_pending r ≡ false → waits (row done replies.ClosedStream [] ∷ row true r own ∷ []) ≡ false
closed-waits true r own e = refl
closed-waits false r own e = e

-- a read
pub read-waits : (o none nothing : Bool) (front : List ℕ) (end : StreamEnd)
    → waits (row none (replies.Read (Some [])) [] ∷ row (not nothing) (replies.Read (Some front)) [] ∷ row (is_fin end) (replies.Read None) []
    ∷ row_for (reset_code end) (λ (code : ℕ). replies.ReadFailed (reads.Reset code)) [] ∷ row (not o) (replies.ReadFailed reads.NotConnected) [] ∷ [])
    ≡ (o && (not none && nothing && is_running end))
read-waits true true nothing front end = refl
read-waits true false false front end = refl
read-waits true false true front ends.Running = refl
read-waits true false true front ends.Fin = refl
read-waits true false true front (ends.Reset c) = refl
read-waits false true nothing front end = refl
read-waits false false false front end = refl
read-waits false false true front ends.Running = refl
read-waits false false true front ends.Fin = refl
read-waits false false true front (ends.Reset c) = refl

-- a read of n bytes
pub exact-waits : (o enough : Bool) (front left : List ℕ) (end : StreamEnd)
    → waits (row enough (replies.Exact front) [] ∷ row (is_fin end) (replies.ExactFailed (exacts.FinishedEarly (length left)) left) []
    ∷ row_for (reset_code end) (λ (code : ℕ). replies.ExactFailed (exacts.Read (reads.Reset code)) []) [] ∷ row (not o) (replies.ExactFailed (exacts.Read reads.NotConnected) []) [] ∷ [])
    ≡ (o && (not enough && is_running end))
exact-waits true true front left end = refl
exact-waits true false front left ends.Running = refl
exact-waits true false front left ends.Fin = refl
exact-waits true false front left (ends.Reset c) = refl
exact-waits false true front left end = refl
exact-waits false false front left ends.Running = refl
exact-waits false false front left ends.Fin = refl
exact-waits false false front left (ends.Reset c) = refl

-- a datagram that is sent never waits
pub send_datagram-waits : (dead : Bool) (refused : Option SendDatagramError) (own : List Action)
    → waits (row dead (replies.DatagramFailed datagrams.NotConnected) [] ∷ row_for refused (λ e. replies.DatagramFailed e) [] ∷ row true replies.Done own ∷ []) ≡ false
send_datagram-waits true refused own = refl
send_datagram-waits false (Some e) own = refl
send_datagram-waits false None own = refl

-- a connect that begins
pub begin-waits : (t : Result Target ConnectingError) → waits (begin_rows t) ≡ on_target t (λ (t : Target). true)
begin-waits (Err e) = refl
begin-waits (Ok t) = refl

-- the session that was established first is established
first-established : (h : History) (s : ℕ) → first_session h ≡ Some s → is_established h s ≡ true
first-established [] s e = absurd (cc e)
first-established (p ∷ h) s e = by (first_session h) (establishes p) refl refl (first-established h s) e
  where
    or-true : (b : Bool) → (b || true) ≡ true
    or-true true = refl
    or-true false = refl

    by : (f n : Option ℕ) → first_session h ≡ f → establishes p ≡ n → (first_session h ≡ Some s → is_established h s ≡ true) → option_or f n ≡ Some s → is_established (p ∷ h) s ≡ true
    by (Some t) None i j before q = rw j (before (i ∙ q))
    by (Some t) (Some n) i j before q = rw (j, before (i ∙ q)) (or-true (n == s))
    by None (Some n) i j before q = let same : n ≡ s = cc q in rw (j, eq-eqb n s same) refl
    by None None i j before q = absurd (cc q)

-- a session that is named was established
pub named-established : (h : History) (name : Option ℕ) (s : ℕ) → named h name ≡ Some s → is_established h s ≡ true
named-established h None s e = first-established h s e
named-established h (Some t) s e = by (is_established h t) refl e
  where
    by : (b : Bool) → is_established h t ≡ b → (if b then Some t else None) ≡ Some s → is_established h s ≡ true
    by true i q = let same : t ≡ s = cc q in rw (sym same) i
    by false i q = absurd (cc q)
