-- Status codes of HTTP (RFC 9110 section 15).
use Rattle.std.specs.Prelude.{ℕ, ◌==◌, ◌&&◌, Bool, nat_lt, List, length, Option, Some, None, if◌then◌else◌}
use Rattle.std.specs.Char.{is_ascii_digit}
use Rattle.std.specs.List.{list_all}
use Rattle.std.specs.Str.Parse.{digits_value}

-- three decimal digits (RFC 9110, section 15)
abbrev pub is_three_digits : List ℕ → Bool
is_three_digits text = length text == 3 && list_all is_ascii_digit text

-- a number of one of the five classes of status codes
abbrev pub is_status : ℕ → Bool
is_status code = nat_lt 99 code && nat_lt code 600

-- the status code that a text writes: the number of three decimal digits, from 100 to 599
abbrev pub status_code : List ℕ → Option ℕ
status_code text = if is_three_digits text && is_status (digits_value 10 text) then Some (digits_value 10 text) else None

-- the class of codes that a request succeeded with (RFC 9110, section 15.3)
abbrev pub is_successful : ℕ → Bool
is_successful code = nat_lt 199 code && nat_lt code 300
