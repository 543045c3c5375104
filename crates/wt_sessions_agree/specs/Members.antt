-- The streams of a session, in both: those that calls accepted or began to open; and which halves of a stream still run.
use Rattle.std.specs.Prelude.{[], ◌&&◌, ◌==◌, ◌∷◌, ◌||◌, ◌≡◌, ◌<◌, Bool, List, not, true, ℕ}
use Rattle.std.specs.List.{list_any}
use Rattle.wt_meaning.specs.Findings.{Finding}
use Rattle.wt_meaning.specs.History.{History, Pair, can_receive, can_send, events, exists, is_given_up, is_handed_out, is_reset, was_finished}
use Rattle.wt_meaning.specs.Sends.{admits, is_of_session, opens_for}
use Rattle.wt_turn.specs.Reports.{end_of, is_running}
use Rattle.wt_sessions.specs.StreamTable.{CallView, TransportView}
use Rattle.wt_wire.specs.declared.side.Side.{Side}

-- the id is among these
abbrev pub has_id : ℕ → List ℕ → Bool
has_id k ids = list_any (λ (id : ℕ). id == k) ids

-- these ids are all greater than k
abbrev pub AllAbove : ℕ → List ℕ → Type 0
AllAbove k [] = Unit {0}
AllAbove k (x ∷ xs) = (k < x) × AllAbove k xs

-- each id is less than those behind it
abbrev pub Ascends : List ℕ → Type 0
Ascends [] = Unit {0}
Ascends (x ∷ xs) = AllAbove x xs × Ascends xs

-- this end began to open the stream for the session
abbrev pub is_opened_for : History → ℕ → ℕ → Bool
is_opened_for h s k = list_any (λ (p : Pair). opens_for h s k p.turn p.answer.reply) h

-- a session's members are its streams that calls gave and those that this end began to open for it, by id; its streams are all there
pub record MembersIn (side : Side) (h : History) (calls : CallView) (found : List Finding) : Type 0 where
  pub same : (s k : ℕ) → has_id k (calls.members s) ≡ ((is_handed_out h k && list_any (admits s k) found) || is_opened_for h s k)
  pub ascends : (s : ℕ) → Ascends (calls.members s)
  pub there : (s k : ℕ) → is_of_session h found s k ≡ true → exists side h k ≡ true

-- of each stream the same halves still run
pub record HalvesSeen (side : Side) (h : History) (t : TransportView) : Type 0 where
  pub receives : (k : ℕ) → t.still_receives k ≡ (can_receive side h k && is_running (end_of (events h) k) && not (is_given_up h k))
  pub sends : (k : ℕ) → t.still_sends k ≡ (can_send side h k && not (was_finished h k) && not (is_reset h k))
