-- The walk over the pairs of a SETTINGS payload.
use Rattle.std.proofs.Common.{◌≡◌, ◌≤◌, ◌<◌, ◌+◌, ◌-◌, ℕ, zero, suc, List, [], ◌∷◌, length, take, drop, Some, None, Result, Ok, Err, ok_or, refl, sym, ap, ◌∙◌, arith, length-drop}
use Rattle.std.proofs.lemmas.List.{drop_all, drop-drop, take_rest}
use Rattle.wt_message.specs.declared.settings.Settings.{Settings}
use Rattle.wt_wire.specs.declared.error.ErrorCode.{ErrorCode}
use Rattle.wt_wire.specs.declared.error.ErrorCode.TheVariants as errors
use Rattle.wt_message.specs.SettingPair.{ParsedPair, pair_at}
use Rattle.wt_message.specs.Settings.{pairs_from, with_pair}
use Rattle.wt_wire.specs.ResultBind.{◌>>=◌}

pairs_skip : (s : Settings) (k : ℕ) (bytes : List ℕ) → k ≤ length bytes → pairs_from s k bytes ≡ pairs_from s 0 (drop k bytes)
unfolding pairs_from
pairs_skip s zero bytes h = refl
pairs_skip s (suc k) [] h = absurd (omega arith)
pairs_skip s (suc k) (b ∷ bytes) h = pairs_skip s k bytes (omega arith)

pub pairs_end : (s : Settings) (offset : ℕ) (bytes : List ℕ) → length bytes ≤ offset → pairs_from s 0 (drop offset bytes) ≡ Ok s
unfolding pairs_from
pairs_end s offset bytes h = ap (λ bs. pairs_from s 0 bs) (drop_all offset bytes h)

cut_in_front : (s : Settings) (bytes : List ℕ) → 0 < length bytes → None ≡ pair_at bytes → pairs_from s 0 bytes ≡ Err errors.Frame
unfolding pairs_from
cut_in_front s [] l h = absurd (omega arith)
cut_in_front s (b ∷ bytes) l h = ap (λ o. ok_or o errors.Frame >>= (λ p. with_pair s p.id p.value >>= (λ t. pairs_from t (p.len - 1) bytes))) (sym h)

pub pair_in_front : (s : Settings) (bytes : List ℕ) (p : ParsedPair) → Some p ≡ pair_at bytes → 1 ≤ p.len → p.len ≤ length bytes →
    pairs_from s 0 bytes ≡ (with_pair s p.id p.value >>= (λ t. pairs_from t 0 (drop p.len bytes)))
unfolding pairs_from
pair_in_front s [] p h some fits = absurd (omega arith)
pair_in_front s (b ∷ bytes) p h some fits =
    let same : suc (p.len - 1) ≡ p.len = omega arith in
    let short : p.len - 1 ≤ length bytes = omega arith in
    ap (λ o. ok_or o errors.Frame >>= (λ p. with_pair s p.id p.value >>= (λ t. pairs_from t (p.len - 1) bytes))) (sym h)
    ∙ by (with_pair s p.id p.value) (λ t. pairs_skip t (p.len - 1) bytes short ∙ ap (λ n. pairs_from t 0 (drop n (b ∷ bytes))) same)
  where
    by : (r : Result Settings ErrorCode) → ((t : Settings) → pairs_from t (p.len - 1) bytes ≡ pairs_from t 0 (drop p.len (b ∷ bytes))) →
        (r >>= (λ t. pairs_from t (p.len - 1) bytes)) ≡ (r >>= (λ t. pairs_from t 0 (drop p.len (b ∷ bytes))))
    by (Ok t) f = f t
    by (Err e) f = refl

-- the same where the code looks at a slice from an offset on
pub pairs_cut : (s : Settings) (offset : ℕ) (bytes : List ℕ) → offset < length bytes → None ≡ pair_at (take (length bytes - offset) (drop offset bytes)) → pairs_from s 0 (drop offset bytes) ≡ Err errors.Frame
pairs_cut s offset bytes l h = cut_in_front s (drop offset bytes) (omega (arith, length-drop offset bytes)) (h ∙ ap pair_at (take_rest bytes offset))

pub pairs_step : (s : Settings) (offset : ℕ) (bytes : List ℕ) (p : ParsedPair) → Some p ≡ pair_at (take (length bytes - offset) (drop offset bytes)) → 1 ≤ p.len → offset + p.len ≤ length bytes →
    (r : Result Settings ErrorCode) → r ≡ with_pair s p.id p.value → pairs_from s 0 (drop offset bytes) ≡ (r >>= (λ t. pairs_from t 0 (drop (offset + p.len) bytes)))
pairs_step s offset bytes p h some fits r e =
    pair_in_front s (drop offset bytes) p (h ∙ ap pair_at (take_rest bytes offset)) some (omega (arith, length-drop offset bytes))
    ∙ ap (λ q. q >>= (λ t. pairs_from t 0 (drop p.len (drop offset bytes)))) (sym e)
    ∙ ap (λ (bs : List ℕ). r >>= (λ t. pairs_from t 0 bs)) (drop-drop p.len offset bytes)
