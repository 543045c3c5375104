-- A history with one turn more.
use Rattle.std.proofs.Common.{◌≡◌, ◌+◌, ◌<◌, ◌≤◌, ◌∷◌, ◌++◌, Bool, List, [], ap, arith, false, length, length-append, refl, subst, sym, true, ◌∙◌, ℕ}
use Rattle.std.proofs.lemmas.Grind.{common_steps}
use Rattle.std.proofs.lemmas.List.{map-append}
use Rattle.std.specs.Prelude.{if◌then◌else◌}
use Rattle.wt_meaning.specs.History.{History}
use Rattle.wt_meaning.specs.Lawful.{is_first, is_lawful, is_pending}
use Rattle.wt_meaning.specs.Meaning.{after_bytes, answer_to, history_after, meaning, step}
use Rattle.wt_core.specs.CoreState.{CoreState, KeepsHistory}
use Rattle.wt_promise.proofs.Clauses.{answers_of_parts}
use Rattle.wt_promise.specs.Lists.{history_of}
use Rattle.wt_promise.specs.Promise.{AllLawful}
use Rattle.wt_turn.specs.declared.answer.Answer.{Answer}
use Rattle.wt_turn.specs.declared.turn.Turn.{Turn}
use Rattle.wt_turn.specs.declared.turn.Turn.TheVariants as turns
use Rattle.wt_wire.specs.declared.side.Side.{Side}
use Rattle.wt_shared.specs.History.{Pairs, Replays, answers_in, changes_in, past_of, turns_in}
use Rattle.wt_shared.specs.Stored.{ReplaysTo}

-- ---- lists

turns-more : (h : Pairs) (t : Turn) (a : Answer) → turns_in (h ++ (t, a) ∷ []) ≡ turns_in h ++ t ∷ []
turns-more h t a = map-append (λ (x : Turn × Answer). x.0) h ((t, a) ∷ [])

answers-more : (h : Pairs) (t : Turn) (a : Answer) → answers_in (h ++ (t, a) ∷ []) ≡ answers_in h ++ a ∷ []
answers-more h t a = map-append (λ (x : Turn × Answer). x.1) h ((t, a) ∷ [])

history-more : (side : Side) (h : History) (ts : List Turn) (t : Turn) → history_of side h (ts ++ t ∷ []) ≡ history_after side (history_of side h ts) t
history-more side h [] t = refl
history-more side h (u ∷ ts) t = history-more side (history_after side h u) ts t

lawful-more : (side : Side) (h : History) (ts : List Turn) (t : Turn) → AllLawful side h ts → is_lawful side (history_of side h ts) t ≡ true → AllLawful side h (ts ++ t ∷ [])
lawful-more side h [] t a l = (l, tt)
lawful-more side h (u ∷ ts) t a l = (a.0, lawful-more side (history_after side h u) ts t a.1 l)

-- ---- one turn more

past-more : (side : Side) (h : Pairs) (t : Turn) (a : Answer) → past_of side (h ++ (t, a) ∷ []) ≡ history_after side (past_of side h) t
past-more side h t a = ap (history_of side []) (turns-more h t a) ∙ history-more side [] (turns_in h) t

replays-more : (side : Side) (h : Pairs) (t : Turn) → Replays side h → is_lawful side (past_of side h) t ≡ true → Replays side (h ++ (t, answer_to side (past_of side h) t) ∷ [])
replays-more side h t r l =
    let a = answer_to side (past_of side h) t in
    let lawful = lawful-more side [] (turns_in h) t r.lawful l in
    record {
      lawful = subst (AllLawful side []) (sym (turns-more h t a)) lawful;
      answered = answers-more h t a
          ∙ ap (λ (as_ : List Answer). as_ ++ a ∷ []) r.answered
          ∙ sym (answers_of_parts side (turns_in h) (t ∷ []) lawful)
          ∙ ap (meaning side) (sym (turns-more h t a));
    }

-- ---- after the first turn

still-begun : (side : Side) (h : History) (k : ℕ) (bytes : List ℕ) → is_first h ≡ false → is_first (after_bytes side h k bytes) ≡ false
still-begun side h k [] f = f
still-begun side h k (b ∷ bytes) f = still-begun side (step side h (turns.Bytes k (b ∷ []))) k bytes refl

-- nothing of a stream may come first
begun-by : (side : Side) (h : History) (t : Turn) → is_lawful side h t ≡ true → is_first (history_after side h t) ≡ false
begun-by side [] (turns.Bytes k bytes) l = absurd (cc l)
begun-by side (p ∷ h) (turns.Bytes k bytes) l = still-begun side (p ∷ h) k bytes refl
begun-by side h t l = refl

begun-after : (side : Side) (h : History) (ts : List Turn) → is_first h ≡ false → AllLawful side h ts → is_first (history_of side h ts) ≡ false
begun-after side h [] f l = f
begun-after side h (t ∷ ts) f l = begun-after side (history_after side h t) ts (begun-by side h t l.0) l.1

-- a history with a first turn has begun
pub begun : (side : Side) (h : Pairs) → 0 < length h → Replays side h → is_first (past_of side h) ≡ false
begun side [] some r = absurd (omega (arith, some))
begun side (x ∷ h) some r = begun-after side (history_after side [] x.0) (turns_in h) (begun-by side [] x.0 r.lawful.0) r.lawful.1

-- ---- how many turns have a reply other than Pending

count-more : (h : Pairs) (x : Turn × Answer) → changes_in (h ++ x ∷ []) ≡ changes_in h + changes_in (x ∷ [])
count-more h x = grind (arith, common_steps)

one-by : (t : Turn) (a : Answer) (b : Bool) → is_pending a.reply ≡ b → (if is_pending a.reply then 0 else 1) ≡ changes_in ((t, a) ∷ [])
one-by t a true e = rw e refl
one-by t a false e = rw e refl

changes-more : (h : Pairs) (t : Turn) (a : Answer) → changes_in h + (if is_pending a.reply then 0 else 1) ≡ changes_in (h ++ (t, a) ∷ [])
changes-more h t a = ap (λ n. changes_in h + n) (one-by t a (is_pending a.reply) refl) ∙ sym (count-more h (t, a))

pub one_most : (b : Bool) → (if b then 0 else 1) ≤ 1
one_most true = omega arith
one_most false = omega arith

-- ---- what is stored

-- after a turn that was made, by the clauses of the call that made it
pub replays_step : (side : Side) (new : CoreState) (before now : Pairs) (changes count : ℕ) (failed : Bool) (t : Turn) (a : Answer) → Replays side before → changes ≡ changes_in before
    → is_lawful side (past_of side before) t ≡ true → now ≡ before ++ (t, a) ∷ [] → a ≡ answer_to side (past_of side before) t → count ≡ (if is_pending a.reply then 0 else 1)
    → KeepsHistory side new (history_after side (past_of side before) t) → ReplaysTo side new now (changes + count) failed
replays_step side new before now changes count failed t a r c l now_is a_is count_is k =
    subst (λ (p : Pairs). ReplaysTo side new p (changes + count) failed) (sym now_is)
    (record {
      some = omega (arith, length-append before ((t, a) ∷ []));
      replays = subst (λ (x : Answer). Replays side (before ++ (t, x) ∷ [])) (sym a_is) (replays-more side before t r l);
      keeps = λ works. subst (KeepsHistory side new) (sym (past-more side before t a)) k;
      counted = ap (λ n. n + count) c ∙ ap (λ n. changes_in before + n) count_is ∙ changes-more before t a;
    })

-- after the first turn
pub first_replays : (side : Side) (new : CoreState) (before now : Pairs) (count : ℕ) (t : Turn) (a : Answer) → before ≡ [] → is_lawful side [] t ≡ true
    → now ≡ before ++ (t, a) ∷ [] → a ≡ answer_to side [] t → count ≡ (if is_pending a.reply then 0 else 1) → KeepsHistory side new (history_after side [] t) → ReplaysTo side new now count false
first_replays side new before now count t a before_is l now_is a_is count_is k =
    let stored : now ≡ [] ++ (t, a) ∷ [] = now_is ∙ ap (λ (p : Pairs). p ++ (t, a) ∷ []) before_is in
    let sum : 0 + count ≡ count = omega arith in
    subst (λ n. ReplaysTo side new now n false) sum (replays_step side new [] now 0 count false t a (record { lawful = tt; answered = refl }) refl l stored a_is count_is k)
