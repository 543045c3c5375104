-- Streams that are opened and polled, and datagrams, from what the parts of the driver did.
use Rattle.std.proofs.Common.{[], ◌==◌, ◌+◌, ◌-◌, ◌<◌, ◌≤◌, ◌∙◌, ◌≡◌, ◌∷◌, Bool, Err, IfOk, List, None, Ok, Option, Result, Some, ap, arith, drop, false, if◌then◌else◌, length, refl, subst, sym, take, true, ℕ}
use Rattle.std.proofs.lemmas.List.{drop-drop, length-drop, length-take, take_rest}
use Rattle.wt_driver_laws.proofs.OpenRequest.{open_session_law}
use Rattle.wt_driver_laws.specs.Answering.{is_ended_now, session_result_now}
use Rattle.wt_driver_laws.specs.Calling.{Always}
use Rattle.wt_driver_laws.specs.Given.{request_stream}
use Rattle.wt_driver_laws.specs.Handing.{IsDialling}
use Rattle.wt_driver_laws.specs.Having.{OpeningStream}
use Rattle.wt_driver_laws.specs.Opening.{OpensBy, PolledNow, fails_to_open, given_if_out, header_written, opening_error_now, polled_now, session_opened_now}
use Rattle.wt_driver_laws.specs.Passing.{on_transport, then_write, write_said}
use Rattle.wt_kept.specs.Kept.{DriverNow}
use Rattle.wt_kept.specs.Windows.{lives_now}
use Rattle.wt_meaning.specs.Lawful.{is_client}
use Rattle.wt_driver.specs.Opening.{OpensFor, stream_opened}
use Rattle.wt_driver.specs.declared.driver.OpenSession.{OpenSession}
use Rattle.wt_driver.specs.declared.driver.OpenSession.TheVariants as opens
use Rattle.wt_transport.specs.HalfRules.{write_refusal, written_count, written_unless}
use Rattle.wt_transport.specs.State.{TransportState}
use Rattle.wt_transport.specs.Rules.{sending_half_now}
use Rattle.wt_transport.specs.Step.{can_send_now}
use Rattle.wt_turn.specs.Streams.{local_bi, local_count}
use Rattle.wt_turn.specs.Log.{Log, actions_of}
use Rattle.wt_wire.specs.HeaderList.{Fields}
use Rattle.wt_wire.specs.declared.side.Side.{Side}
use Rattle.wt_turn.specs.declared.driver_error.DriverError.{DriverError}
use Rattle.wt_turn.specs.declared.driver_error.DriverError.TheVariants as errors
use Rattle.wt_turn.specs.declared.poll.Poll.{Poll}
use Rattle.wt_turn.specs.declared.poll.Poll.TheVariants.{Pending, Ready}
use Rattle.wt_turn.specs.declared.stream_error.StreamOpeningError.{StreamOpeningError}
use Rattle.wt_turn.specs.declared.stream_error.StreamWriteError.{StreamWriteError}
use Rattle.wt_turn.specs.declared.stream_error.StreamWriteError.TheVariants as writes

-- ---- why a session opens no stream

abbrev pub error_by : Bool → Bool → ℕ → DriverNow → Option DriverError
error_by gone open_ s d = if gone then session_result_now s d else (if open_ then None else Some errors.NotConnected)

pub error-gone : (s : ℕ) (d : DriverNow) (e : Option DriverError) → is_ended_now s d ≡ true → e ≡ session_result_now s d → e ≡ opening_error_now s d
error-gone s d e gone so = so ∙ sym (ap (λ (b : Bool). error_by b d.work.transport.is_open s d) gone)

pub error-goes : (s : ℕ) (d : DriverNow) → is_ended_now s d ≡ false → d.work.transport.is_open ≡ true → None ≡ opening_error_now s d
error-goes s d gone open_ = sym (λ i. error_by (gone i) (open_ i) s d)

pub error-over : (s : ℕ) (d : DriverNow) → is_ended_now s d ≡ false → d.work.transport.is_open ≡ false → Some errors.NotConnected ≡ opening_error_now s d
error-over s d gone over = sym (λ i. error_by (gone i) (over i) s d)

-- ---- a write of what is left of a header

-- no more is written than there is
pub counted-within : (left n : ℕ) (bytes : List ℕ) → Ready (Ok n) ≡ written_count left bytes → n ≤ length bytes
counted-within left n [] e = let z : n ≡ 0 = cc in omega (arith, z)
counted-within left n (byte ∷ later) e = by (left == 0) e
  where
    by : (b : Bool) → ◌≡◌ {A = Poll (Result ℕ StreamWriteError)} (Ready (Ok n)) (if b then Pending else Ready (Ok (length (take left (byte ∷ later))))) → n ≤ length (byte ∷ later)
    by true e = absurd cc
    by false e = let z : n ≡ length (take left (byte ∷ later)) = cc in omega (arith, z, length-take left (byte ∷ later))

pub written-within : (id : ℕ) (bytes : List ℕ) (t : TransportState) (n : ℕ) → Ready (Ok n) ≡ write_said id bytes t → n ≤ length bytes
written-within id bytes t n e = by (can_send_now t id) e
  where
    unless : (r : Option StreamWriteError) → Ready (Ok n) ≡ written_unless r (sending_half_now t id).left bytes → n ≤ length bytes
    unless (Some error) e = absurd cc
    unless None e = counted-within (sending_half_now t id).left n bytes e

    by : (b : Bool) → ◌≡◌ {A = Poll (Result ℕ StreamWriteError)} (Ready (Ok n)) (if b then written_unless (write_refusal t.is_open (sending_half_now t id)) (sending_half_now t id).left bytes else Ready (Err writes.NotConnected)) → n ≤ length bytes
    by true e = unless (write_refusal t.is_open (sending_half_now t id)) e
    by false e = absurd cc

-- what was answered
pub ready-ok : {T E : Type 0} (a : Poll (Result T E)) (r : Result T E) (n : T) → a ≡ Ready r → r ≡ Ok n → Ready (Ok n) ≡ a
ready-ok {T} {E} a r n is ok = sym (is ∙ ap (λ (q : Result T E). Ready q) ok)

-- bytes are left of the header
pub some-left : {T : Type 0} (given : T) (bytes : List ℕ) (n : ℕ) → n < length bytes → ◌≡◌ {A = Poll (Result T StreamOpeningError)} Pending (given_if_out given (drop n bytes))
some-left {T} given bytes n more = by (drop n bytes) (let z = length-drop n bytes in omega (arith, z, more))
  where
    by : (xs : List ℕ) → 0 < length xs → ◌≡◌ {A = Poll (Result T StreamOpeningError)} Pending (given_if_out given xs)
    by [] some = absurd (omega (arith, some))
    by (x ∷ xs) some = refl

-- some of the header went out, and a rest lacks credit
pub send-waits : {o now : OpeningStream} → o ≡ now → (d later : DriverNow) (bytes left : List ℕ) (n : ℕ) → bytes ≡ o.left → left ≡ drop n bytes → lives_now d.work.dispatched.sessions o.session ≡ true
    → Ready (Ok n) ≡ write_said o.id bytes d.work.transport → later ≡ on_transport (then_write o.id bytes) d → n < length bytes
    → ◌≡◌ {A = PolledNow (Unit {0})} (record { answer = Pending; left = left; driver = later }) (polled_now tt now d)
send-waits {o} at d later bytes left n is rest lives said step more =
    (λ i. record { answer = some-left {T = Unit {0}} tt bytes n more i; left = rest i; driver = step i })
    ∙ (ap (λ (a : Poll (Result ℕ StreamWriteError)). header_written {T = Unit {0}} tt bytes a (on_transport (then_write o.id bytes) d)) said
    ∙ (ap (λ (xs : List ℕ). header_written {T = Unit {0}} tt xs (write_said o.id xs d.work.transport) (on_transport (then_write o.id xs) d)) is
    ∙ (sym (ap (λ (b : Bool). if b then header_written {T = Unit {0}} tt o.left (write_said o.id o.left d.work.transport) (on_transport (then_write o.id o.left) d) else fails_to_open o d) lives)
    ∙ ap (λ (x : OpeningStream). polled_now {T = Unit {0}} tt x d) at)))

-- the slice of the header that is left
pub slice-rest : (header piece : List ℕ) (out : ℕ) → piece ≡ header → take (length piece - out) (drop out piece) ≡ drop out header
slice-rest header piece out is = take_rest piece out ∙ ap (drop out) is

pub slice-drop : (header piece : List ℕ) (out n : ℕ) → piece ≡ header → drop (out + n) header ≡ drop n (take (length piece - out) (drop out piece))
slice-drop header piece out n is = sym (ap (drop n) (slice-rest header piece out is) ∙ drop-drop n out header)

pub slice-more : (header piece : List ℕ) (out n : ℕ) → piece ≡ header → out + n < length header → n < length (take (length piece - out) (drop out piece))
slice-more header piece out n is more = let z = ap length (slice-rest header piece out is) in let y = length-drop out header in omega (arith, z, y, more)

pub slice-within : (header piece : List ℕ) (out n : ℕ) → piece ≡ header → out ≤ length header → n ≤ length (take (length piece - out) (drop out piece)) → out + n ≤ length header
slice-within header piece out n is within few = let z = ap length (slice-rest header piece out is) in let y = length-drop out header in omega (arith, z, y, within, few)

-- ---- what a poll gives

-- a poll that gives this where it gave nothing
abbrev pub giving : {T : Type 0} → T → Poll (Result (Unit {0}) StreamOpeningError) → Poll (Result T StreamOpeningError)
giving given (Ready (Ok u)) = Ready (Ok given)
giving given (Ready (Err e)) = Ready (Err e)
giving given Pending = Pending

abbrev pub giving_polled : {T : Type 0} → T → PolledNow (Unit {0}) → PolledNow T
giving_polled given p = record { answer = giving given p.answer; left = p.left; driver = p.driver }

pub polled-gives : {T : Type 0} (given : T) (o : OpeningStream) (d : DriverNow) → giving_polled given (polled_now tt o d) ≡ polled_now given o d
polled-gives given o d = by (lives_now d.work.dispatched.sessions o.session)
  where
    out : (xs : List ℕ) → giving given (given_if_out tt xs) ≡ given_if_out given xs
    out [] = refl
    out (x ∷ xs) = refl

    written : (a : Poll (Result ℕ StreamWriteError)) (later : DriverNow) → giving_polled given (header_written tt o.left a later) ≡ header_written given o.left a later
    written (Ready (Ok count)) later = ap (λ a. record { answer = a; left = drop count o.left; driver = later }) (out (drop count o.left))
    written (Ready (Err e)) later = refl
    written Pending later = refl

    by : (b : Bool) → giving_polled given (if b then header_written tt o.left (write_said o.id o.left d.work.transport) (on_transport (then_write o.id o.left) d) else fails_to_open o d)
        ≡ (if b then header_written given o.left (write_said o.id o.left d.work.transport) (on_transport (then_write o.id o.left) d) else fails_to_open o d)
    by true = written (write_said o.id o.left d.work.transport) (on_transport (then_write o.id o.left) d)
    by false = refl

-- the poll of an opening, from what was sent of its header
pub polled-so : {T : Type 0} (given : T) {o now : OpeningStream} → o ≡ now → (d later : DriverNow) (a : Poll (Result (Unit {0}) StreamOpeningError)) (left : List ℕ)
    → record { answer = a; left = left; driver = later } ≡ polled_now tt o d → record { answer = giving given a; left = left; driver = later } ≡ polled_now given now d
polled-so given {o} at d later a left so = ap (giving_polled given) so ∙ (polled-gives given o d ∙ ap (λ (x : OpeningStream). polled_now given x d) at)

-- what follows from what was sent, by what was answered
pub gave-out : {T : Type 0} (x given : T) {o now : OpeningStream} → o ≡ now → (d later : DriverNow) (a : Poll (Result (Unit {0}) StreamOpeningError)) (left : List ℕ) (r : Result (Unit {0}) StreamOpeningError) (u : Unit {0})
    → record { answer = a; left = left; driver = later } ≡ polled_now tt o d → a ≡ Ready r → r ≡ Ok u → x ≡ given → record { answer = Ready (Ok x); left = left; driver = later } ≡ polled_now given now d
gave-out {T} x given at d later a left r u so is ok same =
    (λ i. record { answer = Ready (Ok (same i)); left = left; driver = later })
    ∙ (sym (ap (λ (b : Poll (Result (Unit {0}) StreamOpeningError)). record { answer = giving given b; left = left; driver = later }) (is ∙ ap (λ (q : Result (Unit {0}) StreamOpeningError). Ready q) ok)) ∙ polled-so given at d later a left so)

pub gave-up : {T : Type 0} (given : T) {o now : OpeningStream} → o ≡ now → (d later : DriverNow) (a : Poll (Result (Unit {0}) StreamOpeningError)) (left : List ℕ) (r : Result (Unit {0}) StreamOpeningError) (e : StreamOpeningError)
    → record { answer = a; left = left; driver = later } ≡ polled_now tt o d → a ≡ Ready r → r ≡ Err e → record { answer = Ready (Err e); left = left; driver = later } ≡ polled_now given now d
gave-up given at d later a left r e so is err =
    sym (ap (λ (b : Poll (Result (Unit {0}) StreamOpeningError)). record { answer = giving given b; left = left; driver = later }) (is ∙ ap (λ (q : Result (Unit {0}) StreamOpeningError). Ready q) err)) ∙ polled-so given at d later a left so

pub gave-none : {T : Type 0} (given : T) {o now : OpeningStream} → o ≡ now → (d later : DriverNow) (a : Poll (Result (Unit {0}) StreamOpeningError)) (left : List ℕ)
    → record { answer = a; left = left; driver = later } ≡ polled_now tt o d → a ≡ Pending → record { answer = Pending; left = left; driver = later } ≡ polled_now given now d
gave-none given at d later a left so is =
    sym (ap (λ (b : Poll (Result (Unit {0}) StreamOpeningError)). record { answer = giving given b; left = left; driver = later }) is) ∙ polled-so given at d later a left so

-- what holds of an answer holds where it is the answer
pub if-ok-is : {T E : Type 0} (P : T → Type 0) (r : Result T E) (x : T) → r ≡ Ok x → P x → IfOk r P
if-ok-is {T} {E} P r x is p = subst (λ (q : Result T E). IfOk q P) (sym is) p

-- ---- the stream for a client's request

-- a client's is a session's
pub opens-for : (side : Side) (log : Log) (collected : ℕ) (d later : DriverNow) (request : Fields) (a : Result (Option ℕ) DriverError) → is_client side ≡ true → OpensBy side log collected d later request a
    → OpensFor side log collected d later request (stream_opened request a)
opens-for side log collected d later request (Ok (Some id)) client h =
    subst (λ (b : Bool). OpensFor side log collected d later request (if b then Ok (opens.Ready (request_stream (id, request))) else Ok (opens.NotYet request))) (sym (h.0 client))
    (h.1 (request_stream (id, request)) (record { halves = refl; session = refl; request = refl; writing = refl }))
opens-for side log collected d later request (Ok None) client h = h
opens-for side log collected d later request (Err e) client h = h

pub request-opens : (request : Fields) (x : Result OpenSession DriverError) (d later : DriverNow) → x ≡ stream_opened request (session_opened_now d).answer → later ≡ (session_opened_now d).driver
    → Always d (λ side log collected. is_client side ≡ true → IsDialling log → local_count (actions_of log) (local_bi side) ≡ 0 → OpensFor side log collected d later request x)
request-opens request x d later says step side log collected f reached client dialling first =
    subst (λ (y : Result OpenSession DriverError). OpensFor side log collected d later request y) (sym says)
    (opens-for side log collected d later request (session_opened_now d).answer client
    (open_session_law request (session_opened_now d).answer d later (λ i. record { answer = (session_opened_now d).answer; driver = step i }) side log collected f reached))
