-- Addresses, lookups and outcomes in a script.
use Rattle.std.specs.Prelude.{ℕ, List, [], ◌∷◌, codes, Option, Some, None, if◌then◌else◌}
use Rattle.std.specs.Char.{is_ascii_graphic}
use Rattle.std.specs.Int.{from_be_bytes, w32, w128}
use Rattle.std.specs.List.{list_all}
use Rattle.std.specs.Option.{option_map, option_zip}
use Rattle.std.specs.Result.{result_ok}
use Rattle.hex.specs.Hex.{decode_sized}
use Rattle.wt_wire.specs.declared.addr.Addr.{Addr}
use Rattle.wt_wire.specs.declared.addr.Addr.TheVariants as addresses
use Rattle.wt_wire.specs.declared.lookup.Lookup.{Lookup}
use Rattle.wt_wire.specs.declared.lookup.Lookup.TheVariants as lookups
use Rattle.wt_wire.specs.declared.lookup.ConnectOutcome.{ConnectOutcome}
use Rattle.wt_wire.specs.declared.lookup.ConnectOutcome.TheVariants as outcomes
use Rattle.wt_script.specs.Numbers.{port_of_word, text_of_word}
use Rattle.wt_script.specs.Words.{is_word, parts, alone, one}

-- eight hexadecimal digits: the four bytes of an address, the highest first
abbrev pub ipv4_of : List ℕ → Option ℕ
ipv4_of digits = option_map (from_be_bytes w32) (result_ok (decode_sized digits 4))

-- thirty-two hexadecimal digits: the sixteen bytes of an address, the highest first
abbrev pub ipv6_of : List ℕ → Option ℕ
ipv6_of digits = option_map (from_be_bytes w128) (result_ok (decode_sized digits 16))

-- an address of this version, with these bytes and this port
abbrev pub address_with : List ℕ → List ℕ → List ℕ → Option Addr
address_with version ip port =
    if is_word version (codes "v4") then option_map (λ p. addresses.V4 p.0 p.1) (option_zip (ipv4_of ip) (port_of_word port)) else
    (if is_word version (codes "v6") then option_map (λ p. addresses.V6 p.0 p.1) (option_zip (ipv6_of ip) (port_of_word port)) else None)

-- an address by its version, its bytes and its port
abbrev pub address_of_words : List (List ℕ) → Option Addr
address_of_words (version ∷ ip ∷ port ∷ []) = address_with version ip port
address_of_words ps = None

-- what a resolver answers, by the first part and the others
abbrev pub lookup_with : List ℕ → List (List ℕ) → Option Lookup
lookup_with kind fields =
    if is_word kind (codes "none") then alone lookups.NotFound fields else
    (if is_word kind (codes "fault") then option_map lookups.Fault (one text_of_word fields) else option_map lookups.Found (address_of_words (kind ∷ fields)))

-- what a resolver answers, by its parts
abbrev pub lookup_of_parts : List (List ℕ) → Option Lookup
lookup_of_parts [] = None
lookup_of_parts (kind ∷ fields) = lookup_with kind fields

-- what a resolver answers: 'none', a fault with its text, or an address; the parts stand between colons
abbrev pub lookup_of : List ℕ → Option Lookup
lookup_of word = lookup_of_parts (parts 58 word)

-- what QUIC answers, by the first part and the others
abbrev pub outcome_with : List ℕ → List (List ℕ) → Option ConnectOutcome
outcome_with kind fields =
    if is_word kind (codes "proceed") then alone outcomes.Proceed fields else
    (if is_word kind (codes "stopping") then alone outcomes.EndpointStopping fields else
    (if is_word kind (codes "cids") then alone outcomes.CidsExhausted fields else
    (if is_word kind (codes "name") then option_map outcomes.InvalidServerName (one text_of_word fields) else
    (if is_word kind (codes "address") then option_map outcomes.InvalidRemoteAddress (address_of_words fields) else None))))

-- what QUIC answers, by its parts
abbrev pub outcome_of_parts : List (List ℕ) → Option ConnectOutcome
outcome_of_parts [] = None
outcome_of_parts (kind ∷ fields) = outcome_with kind fields

-- what QUIC answers where an address is known
abbrev pub outcome_of : List ℕ → Option ConnectOutcome
outcome_of word = outcome_of_parts (parts 58 word)

-- a URL: visible characters of ASCII, at least one
abbrev pub url_of : List ℕ → Option (List ℕ)
url_of [] = None
url_of (c ∷ word) = if list_all is_ascii_graphic (c ∷ word) then Some (c ∷ word) else None
