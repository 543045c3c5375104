-- What a datagram says is the end of its bytes.
use Rattle.std.proofs.Common.{◌-◌, ◌≡◌, ◌≤◌, ◌∙◌, ◌∷◌, [], Bool, List, None, Option, Some, ap, arith, drop, false, length, refl, suc, sym, true, zero, ℕ}
use Rattle.std.specs.Prelude.{◌^◌, Err, Ok, Result, if◌then◌else◌, nat_lt, ok_or}
use Rattle.wt_message.specs.Datagram.{datagram_of}
use Rattle.wt_wire.specs.OptionBind.{◌>>=◌}
use Rattle.wt_wire.specs.Varint.{varint_at}
use Rattle.wt_wire.specs.declared.error.ErrorCode.TheVariants.{Datagram}
use Rattle.wt_wire.specs.declared.error.ErrorCode.{ErrorCode}

-- what comes after n bytes is the end of the list, and its bytes are those behind the rest of it
rest-within : (xs : List ℕ) (n : ℕ) → length (drop n xs) ≤ length xs
rest-within [] zero = omega arith
rest-within [] (suc n) = omega arith
rest-within (x ∷ xs) zero = omega arith
rest-within (x ∷ xs) (suc n) = let le = rest-within xs n in omega arith

drop-all : (xs : List ℕ) → drop (length xs) xs ≡ []
drop-all [] = refl
drop-all (x ∷ xs) = drop-all xs

rest-back : (xs : List ℕ) (n : ℕ) → drop (length xs - length (drop n xs)) xs ≡ drop n xs
rest-back [] zero = refl
rest-back [] (suc n) = refl
rest-back (x ∷ xs) zero = let e : suc (length xs) - suc (length xs) ≡ 0 = omega arith in ap (λ k. drop k (x ∷ xs)) e
rest-back (x ∷ xs) (suc n) =
    let le = rest-within xs n in
    let e : suc (length xs) - length (drop n xs) ≡ suc (length xs - length (drop n xs)) = omega arith in
    ap (λ k. drop k (x ∷ xs)) e ∙ rest-back xs n

pub record IsEnd (bytes payload : List ℕ) : Type 0 where
  pub within : length payload ≤ length bytes
  pub back : drop (length bytes - length payload) bytes ≡ payload

abbrev second : Result (ℕ × List ℕ) ErrorCode → List ℕ
second (Ok y) = y.1
second (Err code) = []

of-quarter : (bytes : List ℕ) (q : ℕ × ℕ) (x : ℕ × List ℕ) (b : Bool) → Ok x ≡ ok_or (if b then Some (q.0, drop q.1 bytes) else None) Datagram → IsEnd bytes x.1
of-quarter bytes q x false e = absurd (cc)
of-quarter bytes q x true e =
    let same : x.1 ≡ drop q.1 bytes = ap second e in
    record { within = let le = rest-within bytes q.1 in let l = ap length same in omega arith; back = ap (λ ys. drop (length bytes - length ys) bytes) same ∙ (rest-back bytes q.1 ∙ sym same) }

-- the payload is the end of the bytes
pub payload-end : (bytes : List ℕ) (x : ℕ × List ℕ) → Ok x ≡ datagram_of bytes → IsEnd bytes x.1
unfolding datagram_of
payload-end bytes x e = by (varint_at bytes) e
  where
    by : (o : Option (ℕ × ℕ)) → Ok x ≡ ok_or (o >>= (λ (q : ℕ × ℕ). if nat_lt q.0 (2 ^ 60) then Some (q.0, drop q.1 bytes) else None)) Datagram → IsEnd bytes x.1
    by None e = absurd (cc)
    by (Some q) e = of-quarter bytes q x (nat_lt q.0 (2 ^ 60)) e
