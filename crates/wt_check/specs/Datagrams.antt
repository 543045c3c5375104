-- Rule 5: the payloads that were received for a session are some of those that came for it while the connection was open, in their order
-- (RFC 9297, section 2.1; RFC 9221, section 5: datagrams may be lost).
-- A reply counts for the session that its call names, whichever call that is.
use Rattle.std.specs.Prelude.{[], ◌++◌, ◌∷◌, Bool, List, None, Option, Some, bytes_eq, false, if◌then◌else◌, true, ℕ}
use Rattle.wt_check.specs.Records.{names}
use Rattle.wt_meaning.specs.History.{History, Pair}
use Rattle.wt_meaning.specs.Windows.{is_number}
use Rattle.wt_promise.specs.Promise.{payload_in}
use Rattle.wt_promise.specs.Sides.{arrived}
use Rattle.wt_wire.specs.declared.side.Side.{Side}

-- the payloads that were received for the session, in order
abbrev pub received : History → ℕ → List (List ℕ)
received [] s = []
received (p ∷ h) s = received h s ++ (if is_number s (names h p.turn) then payload_in p.answer.reply else [])

-- the first are some of the second, in their order: each is found at the earliest place that is left
abbrev pub is_subsequence : List (List ℕ) → List (List ℕ) → Bool
is_subsequence [] ys = true
is_subsequence (x ∷ xs) [] = false
is_subsequence (x ∷ xs) (y ∷ ys) = if bytes_eq x y then is_subsequence xs ys else is_subsequence (x ∷ xs) ys

-- the rule on one session
abbrev pub datagrams_hold : History → Option ℕ → Bool
datagrams_hold h None = true
datagrams_hold h (Some s) = is_subsequence (received h s) (arrived h s)

-- rule 5: of the session that the turn names; for the others nothing was received
abbrev pub receives_rightly : Side → History → Pair → Bool
receives_rightly side h p = datagrams_hold (p ∷ h) (names h p.turn)
