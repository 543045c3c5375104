-- An error of the QUIC protocol, and how it is shown.
use Rattle.std.specs.Prelude.{ℕ, List, ◌++◌, codes, Bool, ◌&&◌, nat_eq, Option, Some, None}
use Rattle.std.specs.Option.{option_eq}
use Rattle.std.specs.Cmp.{IsEquivalence, and_equiv, on_equiv, nat_eq_equiv}
use Rattle.std.specs.Cmp.Lexicographic.{pointwise, nat_list_eq_equiv, options_equiv}
use Rattle.std.specs.Fmt.{decimal}
use Rattle.wt_turn.specs.declared.connection_error.Reason.{Reason}
use Rattle.wt_turn.specs.declared.connection_error.Reason.TheVariants.{VersionMismatched, HasBeenReset, Described}

-- a code where there is one, and the text of a reason
pub record ProtoError : Type 0 where
  pub code : Option ℕ
  pub reason : List ℕ

-- the text of a reason
abbrev pub reason_text : Reason → List ℕ
reason_text VersionMismatched = codes "QUIC protocol version mismatched"
reason_text HasBeenReset = codes "connection has been reset"
reason_text (Described reason) = reason

-- the reason, and the code where there is one
abbrev pub proto_error_text : Option ℕ → List ℕ → List ℕ
proto_error_text None reason = reason
proto_error_text (Some code) reason = reason ++ codes " (code: " ++ decimal code ++ codes ")"

-- the same code and the same reason
abbrev pub proto_error_eq : ProtoError → ProtoError → Bool
proto_error_eq a b = option_eq nat_eq a.code b.code && pointwise nat_eq a.reason b.reason

-- that equality is an equivalence
pub proto_error_equiv : IsEquivalence proto_error_eq
proto_error_equiv = and_equiv (on_equiv (λ e. e.code) (options_equiv nat_eq_equiv)) (on_equiv (λ e. e.reason) nat_list_eq_equiv)
