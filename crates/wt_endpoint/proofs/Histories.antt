-- After a lawful turn something happened, and what has begun may be closed.
use Rattle.std.proofs.Common.{◌≡◌, ◌∷◌, Bool, List, [], ap, false, refl, true, ℕ}
use Rattle.std.proofs.lemmas.Bool.{and_parts}
use Rattle.std.specs.Prelude.{◌&&◌, not}
use Rattle.wt_endpoint.specs.Endpoints.{closing, turned_if_open}
use Rattle.wt_meaning.specs.History.{History, all_events, is_open}
use Rattle.wt_meaning.specs.Lawful.{is_first, is_lawful, is_lost, may_receive}
use Rattle.wt_meaning.specs.Meaning.{after_bytes, history_after, step}
use Rattle.wt_turn.specs.Reports.{is_connected}
use Rattle.wt_turn.specs.declared.turn.Turn.{Turn}
use Rattle.wt_turn.specs.declared.turn.Turn.TheVariants as turns
use Rattle.wt_wire.specs.declared.side.Side.{Side}

bytes-begun : (side : Side) (piece : List ℕ) (h : History) (k : ℕ) → is_first h ≡ false → is_first (after_bytes side h k piece) ≡ false
bytes-begun side [] h k f = f
bytes-begun side (b ∷ piece) h k f = bytes-begun side piece (step side h (turns.Bytes k (b ∷ []))) k refl

connected-begun : (h : History) → is_connected (all_events h) ≡ true → is_first h ≡ false
connected-begun [] c = absurd (cc)
connected-begun (p ∷ h) c = refl

received-begun : (side : Side) (h : History) (k : ℕ) (piece : List ℕ) → is_lawful side h (turns.Bytes k piece) ≡ true → is_first h ≡ false
received-begun side h k piece l =
    let up = and_parts (is_connected (all_events h) && not (is_lost h)) (may_receive side h k) l in
    connected-begun h (and_parts (is_connected (all_events h)) (not (is_lost h)) up.0).0

pub begun-after : (side : Side) (h : History) (turn : Turn) → is_lawful side h turn ≡ true → is_first (history_after side h turn) ≡ false
begun-after side h (turns.Bytes k piece) l = bytes-begun side piece h k (received-begun side h k piece l)
begun-after side h turn l = refl

turned-by : (side : Side) (turn : Turn) (h : History) → is_first h ≡ false → is_lawful side h turn ≡ true → (b : Bool) → is_open h ≡ b → is_first (turned_if_open side turn h) ≡ false
turned-by side turn h f l true o = rw o (begun-after side h turn l)
turned-by side turn h f l false o = rw o f

pub turned-begun : (side : Side) (turn : Turn) (h : History) → is_first h ≡ false → is_lawful side h turn ≡ true → is_first (turned_if_open side turn h) ≡ false
turned-begun side turn h f l = turned-by side turn h f l (is_open h) refl

-- a connection that has begun may be closed
pub close-lawful : (side : Side) (h : History) (code : ℕ) (reason : List ℕ) → is_first h ≡ false → is_lawful side h (closing code reason) ≡ true
close-lawful side h code reason f = ap (λ (b : Bool). not b && true) f
