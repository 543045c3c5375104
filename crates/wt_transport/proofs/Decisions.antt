-- The answer of each call that moves bytes on a half is that of its decision.
use Rattle.std.proofs.Common.{arith, ◌≡◌, ◌<◌, ◌≤◌, ℕ, zero, suc, Bool, true, false, List, [], ◌∷◌, length, take, min, Option, Some, None, refl, sym, ap, ◌∙◌}
use Rattle.std.specs.Prelude.{IsTrue, Result, Ok, nat_lt, is_some, option_map, ◌==◌, ◌&&◌, ◌||◌, not, if◌then◌else◌}
use Rattle.std.proofs.lemmas.Bool.Decides.{nat_tests}
use Rattle.std.proofs.Common.{length-take}
use Rattle.wt_wire.specs.declared.side.StreamEnd.{StreamEnd}
use Rattle.wt_wire.specs.declared.side.StreamEnd.TheVariants as ends
use Rattle.wt_turn.specs.declared.poll.Poll.TheVariants.{Ready, Pending}
use Rattle.wt_turn.specs.declared.stream_error.StreamWriteError.{StreamWriteError}
use Rattle.wt_turn.specs.declared.stream_error.StreamWriteError.TheVariants as write_errors
use Rattle.wt_turn.specs.declared.stream_error.WriteAll.{WriteAll}
use Rattle.wt_turn.specs.declared.stream_error.WriteAll.TheVariants as all
use Rattle.wt_transport.specs.declared.decision.Decision.TheVariants.{Wait, Take}
use Rattle.wt_transport.specs.Deciding.{exact_read_of, few_decision, read_decision, read_of, taken, unless_refused, write_all_of, write_decision, write_of}
use Rattle.wt_transport.specs.HalfRules.{ReceivingHalf, SendingHalf, all_unless, count_of_few, nothing_unread, read_answer, read_count, read_exact_answer, read_exact_count, too_few, write_all_answer, write_answer, write_refusal, written_unless}
use Rattle.wt_transport.specs.StreamState.{stream_at}
use Rattle.wt_transport.specs.State.{TransportState}
use Rattle.wt_transport.specs.Step.{can_send_now, may_send_now, with_send}
use Rattle.wt_transport.specs.Rules.{after_write, sending_half_now}

-- ---- writes

take-min : (n : ℕ) (xs : List ℕ) → length (take n xs) ≡ min (length xs) n
take-min n xs = omega (arith, length-take n xs)

write-some : (b : Bool) (left : ℕ) (byte : ℕ) (later : List ℕ) → (left == 0) ≡ b
    → (if b then Pending else Ready (Ok (length (take left (byte ∷ later))))) ≡ write_of (if b then Wait else Take (min (length (byte ∷ later)) left))
write-some true left byte later e = refl
write-some false left byte later e = ap (λ n. Ready (Ok n)) (take-min left (byte ∷ later))

some-there : (n : ℕ) → (suc n == 0) ≡ false
some-there n = grind (arith, nat_tests)

written-is : (refusal : Option StreamWriteError) (left : ℕ) (bytes : List ℕ) → written_unless refusal left bytes ≡ write_of (unless_refused refusal left (length bytes))
written-is (Some error) left bytes = refl
written-is None left [] = ap (λ n. Ready (Ok n)) (omega arith)
written-is None left (byte ∷ later) = rw (some-there (length later)) (write-some (left == 0) left byte later refl)

pub write_is : (open_ : Bool) (half : SendingHalf) (bytes : List ℕ) → write_answer open_ half bytes ≡ write_of (write_decision open_ half (length bytes))
write_is open_ half bytes = written-is (write_refusal open_ half) half.left bytes

all-wait : (left size : ℕ) → (not (size == 0) && left == 0) ≡ true → (left ≡ 0) × (0 < size)
all-wait left size e = (grind (arith, nat_tests), grind (arith, nat_tests))

all-is : (b c : Bool) (left size : ℕ) → nat_lt left size ≡ b → (not (size == 0) && left == 0) ≡ c
    → (if b then Ok (all.Count left) else Ok all.Done) ≡ write_all_of size (if c then Wait else Take (min size left))
all-is true true left size e f = ap (λ n. Ok (all.Count n)) (all-wait left size f).0
all-is false true left size e f = absurd (grind (arith, nat_tests, all-wait left size f))
all-is true false left size e f =
    let few : min size left ≡ left = grind (arith, nat_tests) in
    rw few (rw e refl)
all-is false false left size e f =
    let all-of : min size left ≡ size = grind (arith, nat_tests) in
    let none : nat_lt size size ≡ false = grind (arith, nat_tests) in
    rw all-of (rw none refl)

-- a write that doesn't fail
abbrev through : WriteAll → Result WriteAll StreamWriteError
through progress = Ok progress

all-of : (refusal : Option StreamWriteError) (left : ℕ) (bytes : List ℕ) → all_unless refusal left bytes ≡ write_all_of (length bytes) (unless_refused refusal left (length bytes))
all-of (Some error) left bytes = refl
all-of None left bytes = ok-if (nat_lt left (length bytes)) left ∙ all-is (nat_lt left (length bytes)) (not (length bytes == 0) && left == 0) left (length bytes) refl refl
  where
    ok-if : (b : Bool) (left : ℕ) → through (if b then all.Count left else all.Done) ≡ (if b then Ok (all.Count left) else Ok all.Done)
    ok-if true left = refl
    ok-if false left = refl

pub write_all_is : (open_ : Bool) (half : SendingHalf) (bytes : List ℕ) → write_all_answer open_ half bytes ≡ write_all_of (length bytes) (write_decision open_ half (length bytes))
write_all_is open_ half bytes = all-of (write_refusal open_ half) half.left bytes

-- ---- reads

read-none : (open_ : Bool) (end : StreamEnd) (unread size : ℕ) → unread ≡ 0 → 0 < size → nothing_unread open_ end ≡ read_of size (few_decision open_ end unread)
read-none open_ ends.Fin unread size z l =
    let t : ((unread == 0) && nat_lt 0 size) ≡ true = grind (arith, nat_tests) in
    rw t refl
read-none open_ (ends.Reset code) unread size z l = refl
read-none true ends.Running unread size z l = refl
read-none false ends.Running unread size z l = refl

read-some : (unread size : ℕ) → 0 < unread → 0 < size → Ready (Ok (Some (min size unread))) ≡ read_of size (Take (min size unread))
read-some unread size u l =
    let t : ((min size unread == 0) && nat_lt 0 size) ≡ false = grind (arith, nat_tests) in
    rw t refl

read-if : (a b c : Bool) (open_ : Bool) (half : ReceivingHalf) (size : ℕ) → (size == 0) ≡ a → (half.unread == 0) ≡ b → nat_lt half.unread (min size 1) ≡ c
    → (if a then Ready (Ok (Some 0)) else (if b then nothing_unread open_ half.end else Ready (Ok (Some (read_count half size))))) ≡ read_of size (if c then few_decision open_ half.end half.unread else Take (min size half.unread))
read-if true b true open_ half size e f g = absurd (grind (arith, nat_tests))
read-if true b false open_ half size e f g =
    let z : size ≡ 0 = grind (arith, nat_tests) in
    let m : min size half.unread ≡ 0 = omega arith in
    let t : nat_lt 0 size ≡ false = grind (arith, nat_tests) in
    rw (m, t) refl
read-if false true true open_ half size e f g = read-none open_ half.end half.unread size (grind (arith, nat_tests)) (grind (arith, nat_tests))
read-if false true false open_ half size e f g = absurd (grind (arith, nat_tests))
read-if false false true open_ half size e f g = absurd (grind (arith, nat_tests))
read-if false false false open_ half size e f g = read-some half.unread size (grind (arith, nat_tests)) (grind (arith, nat_tests))

pub read_is : (open_ : Bool) (half : ReceivingHalf) (size : ℕ) → read_answer open_ half size ≡ read_of size (read_decision open_ half (min size 1) size)
read_is open_ half size = read-if (size == 0) (half.unread == 0) (nat_lt half.unread (min size 1)) open_ half size refl refl refl

exact-few : (open_ : Bool) (end : StreamEnd) (unread size : ℕ) → nat_lt unread size ≡ true → too_few open_ end unread ≡ exact_read_of size (few_decision open_ end unread)
exact-few open_ ends.Fin unread size e = rw e refl
exact-few open_ (ends.Reset code) unread size e = refl
exact-few true ends.Running unread size e = refl
exact-few false ends.Running unread size e = refl

exact-if : (b : Bool) (open_ : Bool) (half : ReceivingHalf) (size : ℕ) → nat_lt half.unread size ≡ b
    → (if b then too_few open_ half.end half.unread else Ready (Ok tt)) ≡ exact_read_of size (if b then few_decision open_ half.end half.unread else Take (min size half.unread))
exact-if true open_ half size e = exact-few open_ half.end half.unread size e
exact-if false open_ half size e =
    let m : min size half.unread ≡ size = grind (arith, nat_tests) in
    let t : nat_lt size size ≡ false = grind (arith, nat_tests) in
    rw (m, t) refl

pub read_exact_is : (open_ : Bool) (half : ReceivingHalf) (size : ℕ) → read_exact_answer open_ half size ≡ exact_read_of size (read_decision open_ half size size)
read_exact_is open_ half size = exact-if (nat_lt half.unread size) open_ half size refl

few-taken : (open_ : Bool) (end : StreamEnd) (unread : ℕ) → taken (few_decision open_ end unread) ≡ count_of_few end unread
few-taken open_ ends.Fin unread = refl
few-taken open_ (ends.Reset code) unread = refl
few-taken true ends.Running unread = refl
few-taken false ends.Running unread = refl

none-of-few : (end : StreamEnd) (unread : ℕ) → unread ≡ 0 → count_of_few end unread ≡ 0
none-of-few ends.Fin unread e = e
none-of-few (ends.Reset code) unread e = refl
none-of-few ends.Running unread e = refl

read-taken-if : (b : Bool) (open_ : Bool) (half : ReceivingHalf) (size : ℕ) → nat_lt half.unread (min size 1) ≡ b
    → taken (if b then few_decision open_ half.end half.unread else Take (min size half.unread)) ≡ min size half.unread
read-taken-if true open_ half size e =
    let z : half.unread ≡ 0 = grind (arith, nat_tests) in
    let n = none-of-few half.end half.unread z in
    few-taken open_ half.end half.unread ∙ omega arith
read-taken-if false open_ half size e = refl

pub read_taken : (open_ : Bool) (half : ReceivingHalf) (size : ℕ) → taken (read_decision open_ half (min size 1) size) ≡ read_count half size
read_taken open_ half size = read-taken-if (nat_lt half.unread (min size 1)) open_ half size refl

exact-taken-if : (b : Bool) (open_ : Bool) (half : ReceivingHalf) (size : ℕ) → nat_lt half.unread size ≡ b
    → taken (if b then few_decision open_ half.end half.unread else Take (min size half.unread)) ≡ (if b then count_of_few half.end half.unread else size)
exact-taken-if true open_ half size e = few-taken open_ half.end half.unread
exact-taken-if false open_ half size e = grind (arith, nat_tests)

pub read_exact_taken : (open_ : Bool) (half : ReceivingHalf) (size : ℕ) → taken (read_decision open_ half size size) ≡ read_exact_count half size
read_exact_taken open_ half size = exact-taken-if (nat_lt half.unread size) open_ half size refl

-- no more is taken than is unread, and than was asked for
few-within : (end : StreamEnd) (unread : ℕ) → count_of_few end unread ≤ unread
few-within ends.Fin unread = omega arith
few-within (ends.Reset code) unread = omega arith
few-within ends.Running unread = omega arith

within-if : (b : Bool) (open_ : Bool) (half : ReceivingHalf) (least size : ℕ) → nat_lt half.unread least ≡ b → least ≤ size
    → (taken (if b then few_decision open_ half.end half.unread else Take (min size half.unread)) ≤ half.unread)
    × (taken (if b then few_decision open_ half.end half.unread else Take (min size half.unread)) ≤ size)
within-if true open_ half least size e l =
    let t = few-taken open_ half.end half.unread in
    let w = few-within half.end half.unread in
    let few : half.unread < least = grind (arith, nat_tests) in
    (omega arith, omega arith)
within-if false open_ half least size e l = (omega arith, omega arith)

pub read_within : (open_ : Bool) (half : ReceivingHalf) (least size : ℕ) → least ≤ size → (taken (read_decision open_ half least size) ≤ half.unread) × (taken (read_decision open_ half least size) ≤ size)
read_within open_ half least size l = within-if (nat_lt half.unread least) open_ half least size refl l

-- ---- what a write leaves

take-none : (n : ℕ) → take {A = ℕ} n [] ≡ []
take-none zero = refl
take-none (suc n) = refl

-- of n bytes within the credit all are taken
take-within : (n : ℕ) (bytes : List ℕ) → take (min (length bytes) n) bytes ≡ take n bytes
take-within n [] = take-none (min 0 n) ∙ sym (take-none n)
take-within zero (byte ∷ later) =
    let e : min (suc (length later)) 0 ≡ 0 = omega arith in
    ap (λ k. take k (byte ∷ later)) e
take-within (suc n) (byte ∷ later) =
    let e : min (suc (length later)) (suc n) ≡ suc (min (length later) n) = omega arith in
    ap (λ k. take k (byte ∷ later)) e ∙ ap (λ xs. byte ∷ xs) (take-within n later)

sent-if : (c : Bool) (t : TransportState) (id left : ℕ) (bytes : List ℕ) → (not (length bytes == 0) && left == 0) ≡ c
    → with_send t id (take left bytes) ≡ with_send t id (take (taken {E = StreamWriteError} (if c then Wait else Take (min (length bytes) left))) bytes)
sent-if true t id left bytes e = ap (λ n. with_send t id (take n bytes)) (all-wait left (length bytes) e).0
sent-if false t id left bytes e = ap (with_send t id) (sym (take-within left bytes))

none-sent : (t : TransportState) (id : ℕ) (bytes : List ℕ) → t ≡ with_send t id (take 0 bytes)
none-sent t id bytes = refl

sent-is : (o c f r : Bool) (s : Option ℕ) (t : TransportState) (id left : ℕ) (bytes : List ℕ) → c ≡ true
    → (if o && c && not f && not r && not (is_some s) then with_send t id (take left bytes) else t)
    ≡ with_send t id (take (taken (unless_refused (if not o then Some write_errors.NotConnected else (if f || r then Some write_errors.Closed else option_map write_errors.Stopped s)) left (length bytes))) bytes)
sent-is o false f r s t id left bytes e = absurd (cc)
sent-is false true f r s t id left bytes e = refl
sent-is true true true r s t id left bytes e = refl
sent-is true true false true s t id left bytes e = refl
sent-is true true false false (Some code) t id left bytes e = refl
sent-is true true false false None t id left bytes e = sent-if (not (length bytes == 0) && left == 0) t id left bytes refl

-- after a write the bytes of its decision went out
pub after_write_is : (t : TransportState) (id : ℕ) (bytes : List ℕ) → IsTrue (can_send_now t id)
    → after_write t id bytes ≡ with_send t id (take (taken (write_decision t.is_open (sending_half_now t id) (length bytes))) bytes)
after_write_is t id bytes can = sent-is t.is_open (can_send_now t id) (stream_at t.streams id).finished (stream_at t.streams id).reset (stream_at t.streams id).signals.stop t id (sending_half_now t id).left bytes can

bounded-if : (c : Bool) (left size : ℕ) → (taken {E = StreamWriteError} (if c then Wait else Take (min size left)) ≤ left) × (taken {E = StreamWriteError} (if c then Wait else Take (min size left)) ≤ size)
bounded-if true left size = (omega arith, omega arith)
bounded-if false left size = (omega arith, omega arith)

bounded : (refusal : Option StreamWriteError) (left size : ℕ) → (taken (unless_refused refusal left size) ≤ left) × (taken (unless_refused refusal left size) ≤ size)
bounded (Some error) left size = (omega arith, omega arith)
bounded None left size = bounded-if (not (size == 0) && left == 0) left size

-- no more is taken than credit is left for, and than there is
pub write_within : (open_ : Bool) (half : SendingHalf) (size : ℕ) → (taken (write_decision open_ half size) ≤ half.left) × (taken (write_decision open_ half size) ≤ size)
write_within open_ half size = bounded (write_refusal open_ half) half.left size

-- ---- whether something may be sent

may-if : (o c f r : Bool) (s : Option ℕ)
    → (o && c && not f && not r && not (is_some s)) ≡ (c && not (is_some (if not o then Some write_errors.NotConnected else (if f || r then Some write_errors.Closed else option_map write_errors.Stopped s))))
may-if false false f r s = refl
may-if false true f r s = refl
may-if true false f r s = refl
may-if true true true r s = refl
may-if true true false true s = refl
may-if true true false false (Some code) = refl
may-if true true false false None = refl

-- a half can still send where a write on it isn't refused
pub may_send_is : (t : TransportState) (id : ℕ) → may_send_now t id ≡ (can_send_now t id && not (is_some (write_refusal t.is_open (sending_half_now t id))))
may_send_is t id = may-if t.is_open (can_send_now t id) (stream_at t.streams id).finished (stream_at t.streams id).reset (stream_at t.streams id).signals.stop
