-- Clauses of contracts, each a part of a statement that is proved whole.
use Rattle.std.proofs.Common.{◌∙◌, sym}
use Rattle.wt_promise.proofs.Came.{resets_rightly}
use Rattle.wt_promise.proofs.ReadLaws.{same-left}
use Rattle.wt_promise.specs.Causes.{left_of}
use Rattle.wt_promise.proofs.FinishBehind.{silent_after_finish}
use Rattle.wt_promise.proofs.LateAnswers.{of_transport}
use Rattle.wt_promise.proofs.OpensNext.{opens_in_order}
use Rattle.wt_promise.proofs.Prefixes.{leads_to_history}
use Rattle.wt_promise.proofs.SilentBehind.{silent-after-reset}
use Rattle.std.specs.List.{list_any}
use Rattle.std.specs.Prelude.{List, [], false, filter_map, length, true, ℕ, ◌++◌, ◌==◌, ◌||◌, ◌≡◌}
use Rattle.wt_meaning.specs.History.{History, actions_out, events, is_open, is_reset_of, was_finished}
use Rattle.wt_meaning.specs.Lawful.{is_lawful}
use Rattle.wt_meaning.specs.Meaning.{answer_to, history_after, meaning, meaning_from, next}
use Rattle.wt_meaning.specs.Moments.{ids_from}
use Rattle.wt_promise.specs.Lists.{history_of}
use Rattle.wt_promise.specs.Promise.{AllLawful, IsHistory, NoneBehind, acts_on, sends_on}
use Rattle.wt_promise.specs.Sides.{opens_of}
use Rattle.wt_turn.specs.Reports.{end_of}
use Rattle.wt_turn.specs.Sent.{finishes}
use Rattle.wt_turn.specs.Streams.{local_bi, local_count, local_uni}
use Rattle.wt_turn.specs.Turns.{is_call}
use Rattle.wt_turn.specs.declared.call.Call.TheVariants as calls
use Rattle.wt_turn.specs.declared.reply.Reply.TheVariants as replies
use Rattle.wt_turn.specs.declared.stream_error.StreamReadError.TheVariants as reads
use Rattle.wt_turn.specs.declared.stream_error.StreamReadExactError.TheVariants as exacts
use Rattle.wt_turn.specs.declared.turn.Turn.TheVariants as turns
use Rattle.wt_turn.specs.declared.turn.Turn.{Turn}
use Rattle.wt_wire.specs.declared.side.Side.{Side}
use Rattle.wt_wire.specs.declared.side.StreamEnd.TheVariants as ends

pub later_reset : (side : Side) (h : History) (turn : Turn) → IsHistory side h → is_lawful side h turn ≡ true → (k : ℕ) → list_any (is_reset_of k) (actions_out h) ≡ true → list_any (acts_on k) (next side h turn).actions ≡ false
later_reset side h turn i l k = (silent-after-reset side h turn i l k).later

pub behind_reset : (side : Side) (h : History) (turn : Turn) → IsHistory side h → is_lawful side h turn ≡ true → (k : ℕ) → NoneBehind (is_reset_of k) (acts_on k) (next side h turn).actions
behind_reset side h turn i l k = (silent-after-reset side h turn i l k).behind

pub later_finish : (side : Side) (h : History) (turn : Turn) → IsHistory side h → is_lawful side h turn ≡ true → (k : ℕ) → was_finished h k ≡ true → list_any (sends_on k) (next side h turn).actions ≡ false
later_finish side h turn i l k = (silent_after_finish side h turn i l k).later

pub behind_finish : (side : Side) (h : History) (turn : Turn) → IsHistory side h → is_lawful side h turn ≡ true → (k : ℕ) → NoneBehind (finishes k) (sends_on k) (next side h turn).actions
behind_finish side h turn i l k = (silent_after_finish side h turn i l k).behind

pub opened_next : (side : Side) (h : History) (turn : Turn) → IsHistory side h → is_lawful side h turn ≡ true → (kind : ℕ) → filter_map (opens_of kind) (next side h turn).actions
    ≡ ids_from kind (local_count (actions_out h) kind) (length (filter_map (opens_of kind) (next side h turn).actions))
opened_next side h turn i l kind = (opens_in_order side h turn i l kind).next

pub opened_own : (side : Side) (h : History) (turn : Turn) → IsHistory side h → is_lawful side h turn ≡ true → (kind : ℕ) → (local_uni side == kind || local_bi side == kind) ≡ false → filter_map (opens_of kind) (next side h turn).actions ≡ []
opened_own side h turn i l kind = (opens_in_order side h turn i l kind).own

pub reset_read : (side : Side) (h : History) (id size code : ℕ) → (next side h (turns.Call (calls.Read id size))).reply ≡ replies.ReadFailed (reads.Reset code)
    → (end_of (events h) id ≡ ends.Reset code) × (left_of side h id ≡ [])
reset_read side h id size code e = let r = (resets_rightly side h id size code).read e in (r.0, sym (same-left side h id) ∙ r.1)

pub reset_exact : (side : Side) (h : History) (id size code : ℕ) (piece : List ℕ) → (next side h (turns.Call (calls.ReadExact id size))).reply ≡ replies.ExactFailed (exacts.Read (reads.Reset code)) piece
    → end_of (events h) id ≡ ends.Reset code
reset_exact side h id size code = (resets_rightly side h id size code).exact

pub history_of_prefix : (side : Side) (first later : List Turn) → AllLawful side [] (first ++ later) → IsHistory side (history_of side [] first)
history_of_prefix side first later l = (leads_to_history side first later l).history

pub answers_of_parts : (side : Side) (first later : List Turn) → AllLawful side [] (first ++ later) → meaning side (first ++ later) ≡ meaning side first ++ meaning_from side (history_of side [] first) later
answers_of_parts side first later l = (leads_to_history side first later l).answers

pub transport_done : (side : Side) (h : History) (turn : Turn) → is_call turn ≡ false → (answer_to side h turn).reply ≡ replies.Done
transport_done side h turn c = (of_transport side h turn c).done

pub transport_silent : (side : Side) (h : History) (turn : Turn) → is_call turn ≡ false → is_open h ≡ false → (answer_to side h turn).actions ≡ []
transport_silent side h turn c = (of_transport side h turn c).silent

pub transport_alike : (side : Side) (h : History) (turn : Turn) → is_call turn ≡ false → is_open h ≡ false → (later : List Turn) → meaning_from side (history_after side h turn) later ≡ meaning_from side h later
transport_alike side h turn c = (of_transport side h turn c).alike
