-- The head of this end's control stream, byte by byte.
use Rattle.std.proofs.Common.{[], ◌+◌, ◌-◌, ◌∙◌, ◌∷◌, ◌≡◌, List, Some, ap, arith, drop, length, refl, suc, sym, take, true, zero, ℕ}
use Rattle.wt_kept.specs.Kept.{OwnControlNow}
use Rattle.wt_kept.specs.Moment.{OwnFlushed, head_sent, own_sent}
use Rattle.wt_message.specs.FixedBytes.{local_control_bytes}
use Rattle.wt_transport.specs.State.{TransportState}
use Rattle.wt_transport.specs.Step.{after_send, covered_now, may_send_now}
use Rattle.wt_wire.specs.Varint.{varint_bytes}

abbrev pub head : List ℕ
head = 0 ∷ 4 ∷ 22 ∷ 1 ∷ 0 ∷ 7 ∷ 0 ∷ 8 ∷ 1 ∷ 51 ∷ 1 ∷ 171 ∷ 96 ∷ 55 ∷ 66 ∷ 1 ∷ 192 ∷ 0 ∷ 0 ∷ 0 ∷ 198 ∷ 113 ∷ 112 ∷ 106 ∷ 4 ∷ []

pub head-bytes : head ≡ local_control_bytes
unfolding varint_bytes
head-bytes = refl

take-none : (n : ℕ) → take {A = ℕ} n [] ≡ []
take-none zero = refl
take-none (suc n) = refl

-- what is left of it, as code takes it
take-rest : (xs : List ℕ) (s : ℕ) → take (length xs - s) (drop s xs) ≡ drop s xs
take-rest [] zero = refl
take-rest [] (suc s) = take-none (0 - suc s)
take-rest (x ∷ xs) zero =
    let e : suc (length xs) - 0 ≡ suc (length xs) = omega arith in
    ap (λ n. take n (x ∷ xs)) e ∙ ap (λ ys. x ∷ ys) (take-whole xs)
  where
    take-whole : (ys : List ℕ) → take (length ys) ys ≡ ys
    take-whole [] = refl
    take-whole (y ∷ ys) = ap (λ zs. y ∷ zs) (take-whole ys)
take-rest (x ∷ xs) (suc s) = let e : suc (length xs) - suc s ≡ length xs - s = omega arith in ap (λ n. take n (drop s xs)) e ∙ take-rest xs s

pub head-rest : (s : ℕ) → take (25 - s) (drop s head) ≡ drop s head
head-rest s = take-rest head s

-- its rest goes out as far as credit goes
pub sent-so : (c : OwnControlNow) (t : TransportState) (k n : ℕ) (now : TransportState) → c.stream ≡ Some k → may_send_now t k ≡ true → n ≡ length (covered_now t k (drop c.sent head)) → now ≡ after_send t k (drop c.sent head)
    → ◌≡◌ {A = OwnFlushed} (record { own = record { stream = c.stream; sent = c.sent + n }; transport = now }) (own_sent c.stream c t)
sent-so c t k n now there may count state =
    (λ i. record { own = record { stream = c.stream; sent = c.sent + (count ∙ ap (λ bytes. length (covered_now t k (drop c.sent bytes))) head-bytes) i }; transport = (state ∙ ap (λ bytes. after_send t k (drop c.sent bytes)) head-bytes) i })
    ∙ (sym (ap (λ b. head_sent b k c t) may) ∙ ap (λ o. own_sent o c t) (sym there))
