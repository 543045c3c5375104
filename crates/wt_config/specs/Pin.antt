-- The check of a certificate against pinned digests, as in W3C WebTransport, "verify a certificate
-- hash" and "custom certificate requirements": at most two weeks of validity, and a P-256 key.
use Rattle.std.specs.FinSet as set
use Rattle.std.specs.Cmp.Lexicographic.{slice_cmp}
use Rattle.std.specs.Ordering.{nat_cmp}
use Rattle.std.specs.Prelude.{ℕ, ℤ, pos, ◌-ℤ◌, Bool, true, false, not, ◌&&◌, nat_lt, int_lt, if◌then◌else◌, List, Option, Some, None}
use Rattle.sha2.specs.Sha256.{sha256}
use Rattle.wt_config.specs.declared.certificate.CertFacts.{CertFacts}
use Rattle.wt_config.specs.declared.certificate.Curve.{Curve}
use Rattle.wt_config.specs.declared.certificate.Curve.TheVariants as curve
use Rattle.wt_config.specs.declared.certificate.KeyKind.{KeyKind}
use Rattle.wt_config.specs.declared.certificate.KeyKind.TheVariants as key
use Rattle.wt_config.specs.declared.verification.PinRefusal.{PinRefusal}
use Rattle.wt_config.specs.declared.verification.PinRefusal.TheVariants.{MomentOutOfRange, BadEncoding, NotValidYet, Expired, UnknownIssuer}

-- a set of pinned digests
abbrev pub Pins : Type 0
Pins = set.FinSet (slice_cmp nat_cmp)

-- the last second of the year 9999, counted from 1970-01-01 00:00:00 UTC
abbrev pub last_moment : ℕ
last_moment = 253402300799

-- two weeks, in seconds
abbrev pub two_weeks : ℤ
two_weeks = pos 1209600

-- a key on an elliptic curve
abbrev pub is_ec : KeyKind → Bool
is_ec key.Ec = true
is_ec key.Other = false

-- the curve P-256
abbrev pub is_p256 : Curve → Bool
is_p256 curve.P256 = true
is_p256 curve.Other = false

-- whether it is valid for two weeks at most
abbrev pub has_short_validity : CertFacts → Bool
has_short_validity facts = not (int_lt two_weeks (facts.not_after -ℤ facts.not_before))

-- whether a certificate may be pinned: it is valid for two weeks at most, and its key is one on P-256
abbrev pub is_pinnable : CertFacts → Bool
is_pinnable facts = has_short_validity facts && is_ec facts.key && is_p256 facts.curve

-- whether it is pinned: the SHA-256 digest of its DER bytes is in the set
abbrev pub is_pinned : Pins → List ℕ → CertFacts → Bool
is_pinned pins der facts = is_pinnable facts && set.contains pins (sha256 der)

-- why a decoded certificate is refused at a moment of the years up to 9999, if it is
abbrev pub refusal_within : Pins → List ℕ → Option CertFacts → ℤ → Option PinRefusal
refusal_within pins der None seconds = Some BadEncoding
refusal_within pins der (Some facts) seconds =
    if int_lt seconds facts.not_before then Some NotValidYet
    else if int_lt facts.not_after seconds then Some Expired
    else if is_pinned pins der facts then None
    else Some UnknownIssuer

-- why a certificate is refused, if it is: the first of these causes
abbrev pub refusal_of : Pins → List ℕ → Option CertFacts → ℕ → Option PinRefusal
refusal_of pins der facts now = if nat_lt last_moment now then Some MomentOutOfRange else refusal_within pins der facts (pos now)
