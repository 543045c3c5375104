-- The parser leaves the port 443 out of an https URL.
use Rattle.std.proofs.Common.{◌≡◌, ◌≢◌, List, Some, codes, refl, subst, ℕ}
use Rattle.url.specs.Parts.{IsPortOf, IsValid, Parts}
use Rattle.url.specs.Scheme as scheme

-- the default port of https
https_port : scheme.default_port (codes "https") ≡ Some 443
unfolding scheme.default_port
https_port = refl

-- the port of a valid https URL is another than 443
pub port_is_not_default : (url : Parts) → IsValid url → url.scheme ≡ codes "https" → url.port ≢ Some 443
port_is_not_default url valid is_https = λ has.
    let P : List ℕ → Type 0 = λ s. IsPortOf s url.port in
    let at_https = subst P is_https valid.head.port in
    let at_port = subst (λ p. IsPortOf (codes "https") p) has at_https in
    at_port.1 https_port
