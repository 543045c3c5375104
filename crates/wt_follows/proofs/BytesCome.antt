-- Bytes of one stream came: all else that the log says stays, and what the stream's header said stays said.
use Rattle.std.proofs.Common.{◌+◌, ◌∙◌, ◌≡◌, ◌≤◌, ◌++◌, ◌∷◌, Bool, List, [], ap, append_assoc, append-nil, arith, false, length, refl, sym, take, drop, true, zero, suc, ℕ}
use Rattle.std.proofs.lemmas.List.{length-append}
use Rattle.std.specs.Prelude.{◌==◌, if◌then◌else◌}
use Rattle.wt_follows.specs.Tie.{ReaderAt}
use Rattle.wt_kept.specs.Readers.{ReaderRules}
use Rattle.wt_turn.specs.Arrivals.{log_bytes}
use Rattle.wt_turn.specs.Sent.{is_reset}
use Rattle.wt_turn.specs.Streams.{contents}
use Rattle.wt_turn.specs.Unread.{ReadPosition}
use Rattle.wt_turn.specs.Log.{Log, Received, actions_of, all_events_of, calls_of, events_of, is_open}

-- bytes of a stream leave all else as it was
pub record OnlyBytes (log g : Log) : Type 0 where
  pub events : events_of g ≡ events_of log
  pub all_events : all_events_of g ≡ all_events_of log
  pub actions : actions_of g ≡ actions_of log
  pub calls : calls_of g ≡ calls_of log
  pub open_same : is_open g ≡ is_open log
  pub resets : (k : ℕ) → is_reset g k ≡ is_reset log k

pub only-bytes : (log : Log) (id : ℕ) (piece : List ℕ) → OnlyBytes log (log_bytes log id piece)
only-bytes log id [] = record { events = refl; all_events = refl; actions = refl; calls = refl; open_same = refl; resets = λ k. refl }
only-bytes log id (b ∷ piece) = let o = only-bytes (Received id b ∷ log) id piece in
    record { events = o.events; all_events = o.all_events; actions = o.actions; calls = o.calls; open_same = o.open_same; resets = o.resets }

contents-with : (b : Bool) (bytes piece : List ℕ) (byte : ℕ)
    → (if b then (if b then bytes ++ byte ∷ [] else bytes) ++ piece else (if b then bytes ++ byte ∷ [] else bytes)) ≡ (if b then bytes ++ (byte ∷ piece) else bytes)
contents-with true bytes piece byte = append_assoc bytes (byte ∷ []) piece
contents-with false bytes piece byte = refl

contents-none : (b : Bool) (bytes : List ℕ) → bytes ≡ (if b then bytes ++ [] else bytes)
contents-none true bytes = sym (append-nil bytes)
contents-none false bytes = refl

pub contents-on : (log : Log) (id : ℕ) (piece : List ℕ) (k : ℕ) → contents (log_bytes log id piece) k ≡ (if id == k then contents log k ++ piece else contents log k)
contents-on log id [] k = contents-none (id == k) (contents log k)
contents-on log id (b ∷ piece) k = contents-on (Received id b ∷ log) id piece k ∙ contents-with (id == k) (contents log k) piece b

pub contents-apart : (log : Log) (id : ℕ) (piece : List ℕ) (k : ℕ) → (id == k) ≡ false → contents (log_bytes log id piece) k ≡ contents log k
contents-apart log id piece k e = contents-on log id piece k ∙ ap (λ b. if b then contents log k ++ piece else contents log k) e

-- ---- readers

pub take-front : (n : ℕ) (xs ys : List ℕ) → n ≤ length xs → take n (xs ++ ys) ≡ take n xs
take-front zero xs ys l = refl
take-front (suc n) [] ys l = absurd (omega (arith, l))
take-front (suc n) (x ∷ xs) ys l = ap (λ zs. x ∷ zs) (take-front n xs ys (omega (arith, l)))

pub drop-front : (n : ℕ) (xs ys : List ℕ) → n ≤ length xs → drop n (xs ++ ys) ≡ drop n xs ++ ys
drop-front zero xs ys l = refl
drop-front (suc n) [] ys l = absurd (omega (arith, l))
drop-front (suc n) (x ∷ xs) ys l = drop-front n xs ys (omega (arith, l))

pub length-drop : (n : ℕ) (xs : List ℕ) → n ≤ length xs → length (drop n xs) + n ≡ length xs
length-drop zero xs l = omega arith
length-drop (suc n) [] l = absurd (omega (arith, l))
length-drop (suc n) (x ∷ xs) l = let e = length-drop n xs (omega (arith, l)) in omega (arith, e)

-- a reader that has more before it stands as it did
pub reader-behind : {V O : Type 0} (w : ReaderRules V O) (r : V) (offset : ℕ) (bytes more : List ℕ) (position : ReadPosition) → ReaderAt w r offset bytes position → ReaderAt w r offset (bytes ++ more) position
reader-behind w r offset bytes more position at = record {
  count = at.count;
  at_offset = at.at_offset;
  within = let l = at.within in let e = length-append bytes more in omega (arith, l, e);
  taken = at.taken ∙ ap (λ xs. w.fed w.start xs) (sym (ap (take at.count) (drop-front offset bytes more short) ∙ take-front at.count (drop offset bytes) more enough));
  least = λ k lt. ap (λ xs. w.has_said (w.fed w.start xs)) (ap (take k) (drop-front offset bytes more short) ∙ take-front k (drop offset bytes) more (omega (arith, lt, enough))) ∙ at.least k lt;
}
  where
    short : offset ≤ length bytes
    short = let l = at.within in omega (arith, l)

    enough : at.count ≤ length (drop offset bytes)
    enough = let l = at.within in let e = length-drop offset bytes short in omega (arith, l, e)
