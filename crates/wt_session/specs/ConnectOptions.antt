-- What a client is asked to connect to (this repository's own).
use Rattle.std.specs.Prelude.{ℕ, List, []}

-- the text of a URL, and the names and values of the additional header fields, in order
pub record Options : Type 0 where
  pub url : List ℕ
  pub headers : List (List ℕ × List ℕ)

-- the options with this URL and no additional header field
abbrev pub bare_options : List ℕ → Options
bare_options url = record { url = url; headers = [] }
