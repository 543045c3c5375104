-- Values by the streams that have them: a row a kind, and in it a place a stream, by how many of the kind were opened before.
use Rattle.std.specs.Prelude.{[], ◌%◌, ◌/◌, ◌==◌, ◌≡◌, List, None, Option, false, get_or, if◌then◌else◌, ℕ}

-- the value at this place of a row
abbrev pub in_row : {T : Type 0} → List (Option T) → ℕ → Option T
in_row row n = get_or row n None

-- the value of this stream
abbrev pub value_at : {T : Type 0} → List (List (Option T)) → ℕ → Option T
value_at rows k = in_row (get_or rows (k % 4) []) (k / 4)

-- the place has this now, and each other what it had
pub record IsPut {T : Type 0} (old new : List (Option T)) (index : ℕ) (to : Option T) : Type 0 where
  pub there : in_row new index ≡ to
  pub others : (n : ℕ) → (index == n) ≡ false → in_row new n ≡ in_row old n

-- the stream has this now, and each other what it had
abbrev pub HasPut : {T : Type 0} → List (List (Option T)) → List (List (Option T)) → ℕ → Option T → Type 0
HasPut old new id to = (k : ℕ) → value_at new k ≡ (if id == k then to else value_at old k)
