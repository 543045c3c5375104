-- A step after a step: the error of the first is the error of both.
use Rattle.std.specs.Prelude.{Result, Ok, Err}

infixl 10 ◌>>=◌
-- goes on with the value; a refusal is passed on
abbrev pub ◌>>=◌ : {A B E : Type 0} → Result A E → (A → Result B E) → Result B E
(Ok x) >>= further = further x
(Err e) >>= further = Err e
