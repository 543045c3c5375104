-- What the handles were told stands in the history at its places.
use Rattle.std.proofs.Common.{◌≡◌, ◌+◌, ◌∷◌, ◌++◌, Bool, List, [], append_assoc, false, length, length-append, refl, subst, true}
use Rattle.std.proofs.lemmas.List.Elements.{All-cons, All-head, All-nil, All-tail}
use Rattle.std.proofs.lemmas.List.Sorted.{All-permutation, IsPermutation-sym}
use Rattle.std.specs.Prelude.{All, Err, IfOk, Ok, OnOk, Result}
use Rattle.wt_turn.specs.Turns.{is_call}
use Rattle.wt_turn.specs.declared.answer.Answer.{Answer}
use Rattle.wt_turn.specs.declared.turn.Turn.{Turn}
use Rattle.wt_wire.specs.declared.error.OutOfMemory.{OutOfMemory}
use Rattle.wt_shared.proofs.ClosingLaws.{get-after}
use Rattle.wt_shared.specs.Closing.{IsClosed, StandsIn, calls_from, calls_in, entries_of}
use Rattle.wt_shared.specs.History.{Pairs}
use Rattle.wt_shared.specs.Stored.{told_at}
use Rattle.wt_shared.specs.declared.close.CloseError.{CloseError}
use Rattle.wt_shared.specs.declared.told.Told.{Told}

-- a turn that is a call stands at its place, one that isn't is left out, and those after it stand too
stands-one : (before later : Pairs) (x : Turn × Answer) (b : Bool) → is_call x.0 ≡ b → All (StandsIn (before ++ x ∷ later)) (calls_from (length before + 1) later)
    → All (StandsIn (before ++ x ∷ later)) (calls_from (length before) (x ∷ later))
stands-one before later x true e h = rw e (All-cons (StandsIn (before ++ x ∷ later)) (told_at (length before) x.0 x.1) (calls_from (length before + 1) later) (get-after before x later) h)
stands-one before later x false e h = rw e h

-- the calls of the pairs after the first ones stand in the whole history
stands-after : (before rest : Pairs) → All (StandsIn (before ++ rest)) (calls_from (length before) rest)
stands-after before [] = All-nil (StandsIn (before ++ []))
stands-after before (x ∷ later) =
    let history = before ++ x ∷ later in
    let place : length (before ++ x ∷ []) ≡ length before + 1 = length-append before (x ∷ []) in
    let others : All (StandsIn history) (calls_from (length (before ++ x ∷ [])) later) =
    subst (λ (h : Pairs). All (StandsIn h) (calls_from (length (before ++ x ∷ [])) later)) (append_assoc before (x ∷ []) later) (stands-after (before ++ x ∷ []) later) in
    stands-one before later x (is_call x.0) refl (subst (λ n. All (StandsIn history) (calls_from n later)) place others)

-- so do all calls after the first turn
stands-in : (history : Pairs) → All (StandsIn history) (calls_in history)
stands-in [] = All-nil (StandsIn [])
stands-in (x ∷ later) = stands-after (x ∷ []) later

first-part : (P : Told → Type 0) (xs ys : List Told) → All P (xs ++ ys) → All P xs
first-part P [] ys h = All-nil P
first-part P (x ∷ xs) ys h = All-cons P x xs (All-head P x (xs ++ ys) h) (first-part P xs ys (All-tail P x (xs ++ ys) h))

second-part : (P : Told → Type 0) (xs ys : List Told) → All P (xs ++ ys) → All P ys
second-part P [] ys h = h
second-part P (x ∷ xs) ys h = second-part P xs ys (All-tail P x (xs ++ ys) h)

-- what holds of all entries holds of those of each handle
of-each : (P : Told → Type 0) (handles : List (List Told)) → All P (entries_of handles) → All (All P) handles
of-each P [] h = All-nil (All P)
of-each P (entries ∷ others) h = All-cons (All P) entries others (first-part P entries (entries_of others) h) (of-each P others (second-part P entries (entries_of others) h))

closed-one : (history : Pairs) (handles : List (List Told)) (closed : Result Pairs CloseError) → IsClosed history handles closed → OnOk closed (All (All (StandsIn history)) handles)
closed-one history handles (Ok pairs) c =
    of-each (StandsIn history) handles (All-permutation (StandsIn history) (calls_in history) (entries_of handles) (IsPermutation-sym (entries_of handles) (calls_in history) c.1) (stands-in history))
closed-one history handles (Err error) c = tt

-- where the handles' entries are the history's calls, each stands in it at its place
pub closed_stands : (history : Pairs) (handles : List (List Told)) (result : Result (Result Pairs CloseError) OutOfMemory) → IfOk result (IsClosed history handles)
    → IfOk result (λ closed. OnOk closed (All (All (StandsIn history)) handles))
closed_stands history handles (Ok closed) c = closed-one history handles closed c
closed_stands history handles (Err error) c = tt
