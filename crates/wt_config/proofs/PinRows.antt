-- The pinned check on single facts: each row is computed by the definitions alone.
use Rattle.std.proofs.Common.{◌≡◌, ℕ, ℤ, pos, List, true, Some, None, refl}
use Rattle.std.specs.FinSet as set
use Rattle.sha2.specs.Sha256.{sha256}
use Rattle.wt_config.specs.declared.certificate.CertFacts.{CertFacts}
use Rattle.wt_config.specs.declared.certificate.Curve.TheVariants.{P256}
use Rattle.wt_config.specs.declared.certificate.KeyKind.TheVariants.{Ec}
use Rattle.wt_config.specs.declared.verification.PinRefusal.TheVariants.{MomentOutOfRange, BadEncoding, NotValidYet, Expired, UnknownIssuer}
use Rattle.wt_config.specs.Pin.{Pins, refusal_of}

-- facts of a certificate that is valid from the second 1000 on
abbrev until : ℤ → CertFacts
until not_after = record { not_before = pos 1000; not_after = not_after; key = Ec; curve = P256 }

after_the_year_9999 : (pins : Pins) (der : List ℕ) → refusal_of pins der None 253402300800 ≡ Some MomentOutOfRange
after_the_year_9999 pins der = refl

without_facts : (pins : Pins) (der : List ℕ) → refusal_of pins der None 253402300799 ≡ Some BadEncoding
without_facts pins der = refl

a_second_early : (pins : Pins) (der : List ℕ) → refusal_of pins der (Some (until (pos 1210600))) 999 ≡ Some NotValidYet
a_second_early pins der = refl

a_second_late : (pins : Pins) (der : List ℕ) → refusal_of pins der (Some (until (pos 1210600))) 1210601 ≡ Some Expired
a_second_late pins der = refl

two_weeks_and_a_second : (pins : Pins) (der : List ℕ) → refusal_of pins der (Some (until (pos 1210601))) 1000 ≡ Some UnknownIssuer
two_weeks_and_a_second pins der = refl

pinned_at_its_ends : (pins : Pins) (der : List ℕ) → set.contains pins (sha256 der) ≡ true → refusal_of pins der (Some (until (pos 1210600))) 1210600 ≡ None
pinned_at_its_ends pins der h = rw h
