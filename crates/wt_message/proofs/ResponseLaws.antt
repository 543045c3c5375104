-- What holds of responses.
use Rattle.std.proofs.Common.{◌≡◌, ℕ, true, false, List, Option, Some, None, Ok, refl, ap, ◌∙◌}
use Rattle.std.specs.Prelude.{codes, is_some}
use Rattle.std.specs.Cmp.Lexicographic.{nat_list_eq_equiv}
use Rattle.std.specs.Str.{bytes_eq}
use Rattle.wt_wire.specs.HeaderList.{Fields, with_field, value_of}
use Rattle.wt_wire.specs.OptionBind.{◌>>=◌}
use Rattle.wt_wire.specs.Status.{status_code}
use Rattle.wt_message.specs.Responses.{status_of, response_with, response_of, status_fields}
use Rattle.wt_wire.proofs.ValueLaws.{value_of_other}

response_with_code : (fields : Fields) (o : Option ℕ) → is_some o ≡ true → response_with fields o ≡ Ok fields
response_with_code fields None h = absurd cc
response_with_code fields (Some code) h = refl

code_of_response : (fields : Fields) (o : Option ℕ) → response_with fields o ≡ Ok fields → is_some o ≡ true
code_of_response fields None h = absurd cc
code_of_response fields (Some code) h = refl

pub status_is_response : (fields : Fields) (digits : List ℕ) → fields ≡ status_fields digits → is_some (status_code digits) ≡ true → response_of fields ≡ Ok fields
unfolding response_of
status_is_response fields digits e h = response_with_code fields (status_of fields) (ap (λ fs. is_some (status_of fs)) e ∙ h)

pub has_status : (fields : Fields) → response_of fields ≡ Ok fields → is_some (status_of fields) ≡ true
unfolding response_of
has_status fields h = code_of_response fields (status_of fields) h

pub response_kept : (name value : List ℕ) (fields : Fields) → response_of fields ≡ Ok fields → bytes_eq name (codes ":status") ≡ false → response_of (with_field name value fields) ≡ Ok (with_field name value fields)
unfolding response_of
response_kept name value fields h other =
    let same : value_of (codes ":status") (with_field name value fields) ≡ value_of (codes ":status") fields = value_of_other (codes ":status") name value fields (nat_list_eq_equiv.symm (codes ":status") name ∙ other) in
    response_with_code (with_field name value fields) (status_of (with_field name value fields)) (ap (λ v. is_some (v >>= status_code)) same ∙ code_of_response fields (status_of fields) h)
