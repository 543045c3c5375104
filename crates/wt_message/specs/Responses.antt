-- Responses: a list of fields with a status code (RFC 9114 section 4.3.2, RFC 9110 section 15).
use Rattle.std.specs.Prelude.{ℕ, [], ◌∷◌, List, Option, Some, None, Result, Ok, Err, codes, if◌then◌else◌}
use Rattle.wt_message.specs.declared.session.BadStatus.{BadStatus}
use Rattle.wt_wire.specs.HeaderList.{Fields, value_of, with_field}
use Rattle.wt_wire.specs.OptionBind.{◌>>=◌}
use Rattle.wt_wire.specs.Status.{status_code}
use Rattle.std.specs.Str.{bytes_eq}

-- the status code of a response
abbrev pub status_of : Fields → Option ℕ
status_of fields = do
  text ← value_of (codes ":status") fields
  status_code text

-- fields with no `:status` or with one that is no status code aren't a response
abbrev pub response_with : Fields → Option ℕ → Result Fields BadStatus
response_with fields None = Err (record {})
response_with fields (Some code) = Ok fields

-- the fields as a response
unfoldable pub response_of : Fields → Result Fields BadStatus
response_of fields = response_with fields (status_of fields)

-- a response with this status code alone
abbrev pub status_fields : List ℕ → Fields
status_fields digits = (codes ":status", digits) ∷ []

-- a field is added; a `:status` changes nothing
abbrev pub with_added : List ℕ → List ℕ → Fields → Fields
with_added name value fields = if bytes_eq name (codes ":status") then fields else with_field name value fields
