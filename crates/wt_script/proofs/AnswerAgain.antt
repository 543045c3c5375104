-- The line of an answer is read back.
use Rattle.std.proofs.Common.{arith, ◌≡◌, ◌+◌, ◌-◌, ℕ, zero, suc, Bool, true, false, List, [], ◌∷◌, ◌++◌, length, take, refl, sym, ap, ◌∙◌, append_assoc, append-nil, length-append}
use Rattle.std.proofs.Math.Seq.{take-append_seam}
use Rattle.std.proofs.lemmas.Bool.{true≢false}
use Rattle.std.proofs.lemmas.Slice.Eq.{bytes_eq-Decides}
use Rattle.std.specs.Prelude.{◌==◌, None, Option, Some, bytes_eq, if◌then◌else◌, unwrap_or}
use Rattle.std.specs.List.{AllByRecursion, flat_map}
use Rattle.std.specs.Option.{option_map, option_zip}
use Rattle.hex.specs.Hex.{IsBytes}
use Rattle.wt_turn.specs.declared.action.Action.{Action}
use Rattle.wt_turn.specs.declared.action.Action.TheVariants as actions
use Rattle.wt_turn.specs.declared.answer.Answer.{Answer}
use Rattle.wt_turn.specs.declared.reply.Reply.{Reply}
use Rattle.wt_turn.specs.declared.reply.Reply.TheVariants as replies
use Rattle.wt_turn.specs.declared.stream_error.StreamReadExactError.TheVariants as exacts
use Rattle.wt_script.specs.Answers.{action_of_words, actions_from, answer_of, answer_of_parts, front, reply_of_words}
use Rattle.wt_script.specs.Fits.{IsAction, IsAnswer, IsReply}
use Rattle.wt_script.specs.Print.{action_text, answer_text, joined, next_action_text, normal, normal_reply, reply_text, send_before}
use Rattle.wt_script.specs.Words.{parts, words}
use Rattle.wt_script.proofs.JoinedLaws.{joined_again}
use Rattle.wt_script.proofs.Separators.{lacks, lacks_both, part_alone, part_first, spaced, spaced_lacks, spaced_words}
use Rattle.wt_script.proofs.Spelled.{ArePlain, Spelled, without_blanks, without_semicolons}
use Rattle.wt_script.proofs.SpelledAnswers.{action_named, action_spelled, reply_spelled}

-- ---- parts

-- what is spelled has no semicolon, and is split into its words
spelled_lacks : {A : Type 0} {read : List (List ℕ) → Option A} {text : List ℕ} {a : A} → Spelled read text a → lacks 59 text ≡ true
spelled_lacks s = ap (lacks 59) s.spells ∙ spaced_lacks 59 refl (s.first ∷ s.rest) (without_semicolons (s.first ∷ s.rest) s.plain)

spelled_words : {A : Type 0} {read : List (List ℕ) → Option A} {text : List ℕ} {a : A} (s : Spelled read text a) → words text ≡ s.first ∷ s.rest
spelled_words s = ap words s.spells ∙ spaced_words s.first s.rest (without_blanks (s.first ∷ s.rest) s.plain)

-- the parts of actions, the first of which stands behind a semicolon
abbrev action_parts : Action → List Action → List (List ℕ)
action_parts a [] = (32 ∷ action_text a) ∷ []
action_parts a (b ∷ later) = ((32 ∷ action_text a) ++ 32 ∷ []) ∷ action_parts b later

parts_of_actions : (a : Action) (later : List Action) → AllByRecursion IsAction (a ∷ later)
    → parts 59 ((32 ∷ action_text a) ++ flat_map next_action_text later) ≡ action_parts a later
parts_of_actions a [] h = ap (parts 59) (append-nil (32 ∷ action_text a)) ∙ part_alone 59 (32 ∷ action_text a) (spelled_lacks (action_spelled a h.0))
parts_of_actions a (b ∷ later) h =
    let front : List ℕ = (32 ∷ action_text a) ++ 32 ∷ [] in
    let rest : List ℕ = (32 ∷ action_text b) ++ flat_map next_action_text later in
    ap (parts 59) (sym (append_assoc (32 ∷ action_text a) (32 ∷ []) (59 ∷ rest)))
    ∙ part_first 59 front rest (lacks_both 59 (32 ∷ action_text a) (32 ∷ []) (spelled_lacks (action_spelled a h.0)) refl)
    ∙ ap (λ l. front ∷ l) (parts_of_actions b later h.1)

-- without the byte that ends it
cut : (xs : List ℕ) (b : ℕ) → take (length (xs ++ b ∷ []) - 1) (xs ++ b ∷ []) ≡ xs
cut xs b = ap (λ n. take n (xs ++ b ∷ [])) (omega (arith, length-append xs (b ∷ []))) ∙ take-append_seam xs (b ∷ [])

front_is : (xs : List ℕ) (a : Action) (later : List Action) → front (xs ++ 32 ∷ []) (action_parts a later) ≡ xs
front_is xs a [] = cut xs 32
front_is xs a (b ∷ later) = cut xs 32

-- ---- actions

action_again : (a : Action) → IsAction a → action_of_words (words (32 ∷ action_text a)) ≡ Some a
action_again a h = let s = action_spelled a h in ap action_of_words (part_first 32 [] (action_text a) refl ∙ ap (λ l. [] ∷ l) (spelled_words s)) ∙ s.again

actions_again : (done : List Action) (a : Action) (later : List Action) → AllByRecursion IsAction (a ∷ later)
    → actions_from done (action_parts a later) ≡ Some (done ++ a ∷ later)
actions_again done a [] h =
    ap (λ (o : Option Action). elim o [ Some x ↦ actions_from (done ++ x ∷ []) [] | None ↦ None ]) (action_again a h.0)
actions_again done a (b ∷ later) h =
    ap (λ p. elim (action_of_words (words p)) [ Some x ↦ actions_from (done ++ x ∷ []) (action_parts b later) | None ↦ None ]) (front_is (32 ∷ action_text a) b later)
    ∙ ap (λ (o : Option Action). elim o [ Some x ↦ actions_from (done ++ x ∷ []) (action_parts b later) | None ↦ None ]) (action_again a h.0)
    ∙ actions_again (done ++ a ∷ []) b later h.1
    ∙ ap Some (append_assoc done (a ∷ []) (b ∷ later))

-- ---- answers

reply_again : (r : Reply) → IsReply r → reply_of_words (words (reply_text r)) ≡ Some (normal_reply r)
reply_again r h = let s = reply_spelled r h in ap reply_of_words (spelled_words s) ∙ s.again

abbrev made : Reply × List Action → Answer
made p = record { reply = p.0; actions = p.1 }

line_again : (r : Reply) → IsReply r → (all : List Action) → AllByRecursion IsAction all
    → answer_of (reply_text r ++ flat_map next_action_text all) ≡ Some (record { reply = normal_reply r; actions = all })
line_again r h [] i =
    ap (λ t. answer_of t) (append-nil (reply_text r))
    ∙ ap answer_of_parts (part_alone 59 (reply_text r) (spelled_lacks (reply_spelled r h)))
    ∙ ap (λ o. option_map made (option_zip o (Some []))) (reply_again r h)
line_again r h (a ∷ later) i =
    let rest : List ℕ = (32 ∷ action_text a) ++ flat_map next_action_text later in
    ap (λ t. answer_of t) (sym (append_assoc (reply_text r) (32 ∷ []) (59 ∷ rest)))
    ∙ ap answer_of_parts (part_first 59 (reply_text r ++ 32 ∷ []) rest (lacks_both 59 (reply_text r) (32 ∷ []) (spelled_lacks (reply_spelled r h)) refl)
    ∙ ap (λ l. (reply_text r ++ 32 ∷ []) ∷ l) (parts_of_actions a later i))
    ∙ ap (λ p. option_map made (option_zip (reply_of_words (words p)) (actions_from [] (action_parts a later)))) (front_is (reply_text r) a later)
    ∙ ap (λ o. option_map made (option_zip o (actions_from [] (action_parts a later)))) (reply_again r h)
    ∙ ap (λ o. option_map made (option_zip (Some (normal_reply r)) o)) (actions_again [] a later i)

-- ---- joined actions

bytes_joined : (xs ys : List ℕ) → IsBytes xs → IsBytes ys → IsBytes (xs ++ ys)
bytes_joined [] ys h i n = i n
bytes_joined (x ∷ xs) ys h i zero = h 0
bytes_joined (x ∷ xs) ys h i (suc n) = bytes_joined xs ys (λ k. h (suc k)) i n

send_fits : (id : ℕ) (bytes : List ℕ) → IsAction (actions.Send id bytes) → (later : List Action) → AllByRecursion IsAction later
    → AllByRecursion IsAction (send_before id bytes later)
send_fits id bytes h [] l = (h, tt)
send_fits id bytes h (actions.Send k more ∷ later) l = at (k == id) where
  at : (t : Bool) → AllByRecursion IsAction (if t then actions.Send id (bytes ++ more) ∷ later else actions.Send id bytes ∷ actions.Send k more ∷ later)
  at true = ((h.0, bytes_joined bytes more h.1 l.0.1), l.1)
  at false = (h, l)
send_fits id bytes h (actions.Dial address name ∷ later) l = (h, l)
send_fits id bytes h (actions.Opened k ∷ later) l = (h, l)
send_fits id bytes h (actions.Finish k ∷ later) l = (h, l)
send_fits id bytes h (actions.ResetOut k code ∷ later) l = (h, l)
send_fits id bytes h (actions.StopOut k code ∷ later) l = (h, l)
send_fits id bytes h (actions.DatagramOut piece ∷ later) l = (h, l)
send_fits id bytes h (actions.Close code reason ∷ later) l = (h, l)

joined_fits : (all : List Action) → AllByRecursion IsAction all → AllByRecursion IsAction (joined all)
joined_fits [] h = tt
joined_fits (actions.Send id [] ∷ later) h = joined_fits later h.1
joined_fits (actions.Send id (b ∷ bytes) ∷ later) h = send_fits id (b ∷ bytes) h.0 (joined later) (joined_fits later h.1)
joined_fits (actions.Dial address name ∷ later) h = (h.0, joined_fits later h.1)
joined_fits (actions.Opened k ∷ later) h = (h.0, joined_fits later h.1)
joined_fits (actions.Finish k ∷ later) h = (h.0, joined_fits later h.1)
joined_fits (actions.ResetOut k code ∷ later) h = (h.0, joined_fits later h.1)
joined_fits (actions.StopOut k code ∷ later) h = (h.0, joined_fits later h.1)
joined_fits (actions.DatagramOut piece ∷ later) h = (h.0, joined_fits later h.1)
joined_fits (actions.Close code reason ∷ later) h = (h.0, joined_fits later h.1)

pub answer_again : (a : Answer) → IsAnswer a → answer_of (answer_text a) ≡ Some (normal a)
answer_again a h = line_again a.reply h.0 (joined a.actions) (joined_fits a.actions h.1)

-- ---- an answer without what isn't printed has the same line

reply_normal : (r : Reply) → reply_text (normal_reply r) ≡ reply_text r
reply_normal (replies.ExactFailed (exacts.Read error) piece) = refl
reply_normal (replies.ExactFailed (exacts.FinishedEarly count) piece) = refl
reply_normal _ = refl

pub normal_text : (a : Answer) → answer_text (normal a) ≡ answer_text a
normal_text a =
    ap (λ t. t ++ flat_map next_action_text (joined (joined a.actions))) (reply_normal a.reply)
    ∙ ap (λ all. reply_text a.reply ++ flat_map next_action_text all) (joined_again a.actions)

-- ---- a line that an answer spells in another way is the line of none

pub other_line : (answer : Answer) (line : List ℕ) → answer_of line ≡ Some answer → bytes_eq (answer_text answer) line ≡ false
    → (a : Answer) → IsAnswer a → answer_text a ≡ line → None ≡ Some (normal a)
other_line answer line spelled differs a fits printed =
    let same : normal a ≡ answer = ap (λ (o : Option Answer). unwrap_or o answer) (sym (answer_again a fits) ∙ ap (λ l. answer_of l) printed ∙ spelled) in
    let text : answer_text answer ≡ line = ap answer_text (sym same) ∙ normal_text a ∙ printed in
    absurd (true≢false (sym ((bytes_eq-Decides (answer_text answer) line).1 text) ∙ differs))
