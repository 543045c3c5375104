-- The walk over the lines of a field section.
use Rattle.std.proofs.Common.{◌≡◌, ◌≤◌, ◌<◌, ◌+◌, ◌-◌, ℕ, zero, suc, List, [], ◌∷◌, length, take, drop, Some, None, refl, sym, ap, ◌∙◌, arith, length-drop}
use Rattle.std.proofs.lemmas.List.{drop_all, drop-drop, take_rest}
use Rattle.wt_wire.specs.OptionBind.{◌>>=◌}
use Rattle.wt_wire.specs.HeaderList.{Fields, with_field}
use Rattle.wt_wire.specs.FieldSection.{FieldLine, line_at, field_lines_from}

lines_skip : (fields : Fields) (k : ℕ) (bytes : List ℕ) → k ≤ length bytes → field_lines_from fields k bytes ≡ field_lines_from fields 0 (drop k bytes)
unfolding field_lines_from
lines_skip fields zero bytes h = refl
lines_skip fields (suc k) [] h = absurd (omega arith)
lines_skip fields (suc k) (b ∷ bytes) h = lines_skip fields k bytes (omega arith)

pub lines_end : (fields : Fields) (offset : ℕ) (bytes : List ℕ) → length bytes ≤ offset → field_lines_from fields 0 (drop offset bytes) ≡ Some fields
unfolding field_lines_from
lines_end fields offset bytes h = ap (λ bs. field_lines_from fields 0 bs) (drop_all offset bytes h)

none_in_front : (fields : Fields) (bytes : List ℕ) → 0 < length bytes → None ≡ line_at bytes → field_lines_from fields 0 bytes ≡ None
unfolding field_lines_from
none_in_front fields [] l h = absurd (omega arith)
none_in_front fields (b ∷ bytes) l h = ap (λ o. o >>= (λ l. field_lines_from (with_field l.name l.value fields) (l.len - 1) bytes)) (sym h)

pub line_in_front : (fields : Fields) (bytes : List ℕ) (l : FieldLine) → Some l ≡ line_at bytes → 1 ≤ l.len → l.len ≤ length bytes →
    field_lines_from fields 0 bytes ≡ field_lines_from (with_field l.name l.value fields) 0 (drop l.len bytes)
unfolding field_lines_from
line_in_front fields [] l h some fits = absurd (omega arith)
line_in_front fields (b ∷ bytes) l h some fits =
    let shorter : l.len - 1 ≤ length bytes = omega arith in
    let same : suc (l.len - 1) ≡ l.len = omega arith in
    ap (λ o. o >>= (λ l. field_lines_from (with_field l.name l.value fields) (l.len - 1) bytes)) (sym h)
    ∙ lines_skip (with_field l.name l.value fields) (l.len - 1) bytes shorter
    ∙ ap (λ n. field_lines_from (with_field l.name l.value fields) 0 (drop n (b ∷ bytes))) same

-- the same where the code looks at a slice from an offset on
pub lines_none : (fields : Fields) (offset : ℕ) (bytes : List ℕ) → offset < length bytes → None ≡ line_at (take (length bytes - offset) (drop offset bytes)) → field_lines_from fields 0 (drop offset bytes) ≡ None
lines_none fields offset bytes l h = none_in_front fields (drop offset bytes) (omega (arith, length-drop offset bytes)) (h ∙ ap line_at (take_rest bytes offset))

pub lines_step : (fields : Fields) (offset : ℕ) (bytes : List ℕ) (l : FieldLine) → Some l ≡ line_at (take (length bytes - offset) (drop offset bytes)) → 1 ≤ l.len → offset + l.len ≤ length bytes →
    field_lines_from fields 0 (drop offset bytes) ≡ field_lines_from (with_field l.name l.value fields) 0 (drop (offset + l.len) bytes)
lines_step fields offset bytes l h some fits =
    line_in_front fields (drop offset bytes) l (h ∙ ap line_at (take_rest bytes offset)) some (omega (arith, length-drop offset bytes))
    ∙ ap (λ bs. field_lines_from (with_field l.name l.value fields) 0 bs) (drop-drop l.len offset bytes)
