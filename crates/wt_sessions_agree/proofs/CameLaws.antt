-- Nothing came for a stream that isn't there, so that a stream with a verdict is there.
use Rattle.std.specs.Prelude.{[], ◌%◌, ◌&&◌, ◌==◌, ◌∷◌, ◌≡◌, Bool, false, if◌then◌else◌, not, true, ℕ}
use Rattle.std.proofs.Common.{◌∙◌, ap, refl, sym}
use Rattle.std.proofs.lemmas.Bool.{eqb-true}
use Rattle.wt_meaning.specs.History.{History, Pair, all_events, contents, events, exists, is_open, with_bytes, with_event}
use Rattle.wt_meaning.specs.Lawful.{is_lawful, is_lost}
use Rattle.wt_meaning.specs.Moments.{verdict}
use Rattle.wt_promise.proofs.Stays.{exists-stays}
use Rattle.wt_promise.specs.Promise.{IsHistory}
use Rattle.wt_proto.specs.Bi.{bi_verdict_of}
use Rattle.wt_proto.specs.Uni.{uni_verdict_of}
use Rattle.wt_turn.specs.Reports.{end_of, is_connected, is_running}
use Rattle.wt_turn.specs.Streams.{local_uni}
use Rattle.wt_turn.specs.Turns.{event_of}
use Rattle.wt_turn.specs.declared.turn.Turn.{Turn}
use Rattle.wt_wire.specs.Ids.{is_bidirectional}
use Rattle.wt_wire.specs.Varint.{varint_at}
use Rattle.wt_wire.specs.declared.side.Side.{Side}
use Rattle.wt_proto.specs.declared.verdict.Verdict.TheVariants as verdicts
use Rattle.wt_turn.specs.declared.turn.Turn.TheVariants as turns
use Rattle.wt_wire.specs.declared.side.StreamEnd.TheVariants as ends

-- of a stream that isn't there no byte and no end came
pub record NothingCame (side : Side) (h : History) (k : ℕ) : Type 0 where
  pub contents : contents h k ≡ []
  pub end : end_of (events h) k ≡ ends.Running

abbrev pub Came : Side → History → Type 0
Came side h = (k : ℕ) → exists side h k ≡ false → NothingCame side h k

-- a turn that brings bytes or an end is of a stream that is there
was-there : (a l x r d : Bool) → (a && l && ((x && r) && d)) ≡ true → x ≡ true
was-there true true true r d e = refl
was-there true true false r d e = absurd (cc e)
was-there true false x r d e = absurd (cc e)
was-there false l x r d e = absurd (cc e)

module _ (side : Side) (h : History) (k : ℕ) (none : exists side h k ≡ false) where
  other : (id : ℕ) → exists side h id ≡ true → (id == k) ≡ false
  other id e = by (id == k) refl
    where
      by : (b : Bool) → (id == k) ≡ b → b ≡ false
      by false q = refl
      by true q = absurd (let i : id ≡ k = eqb-true id k q in let r : exists side h k ≡ true = ap (exists side h) (sym i) ∙ e in cc (sym r ∙ none))

  receiving : (id : ℕ) → (is_connected (all_events h) && not (is_lost h) && ((exists side h id && not (id % 4 == local_uni side)) && is_running (end_of (all_events h) id))) ≡ true → (id == k) ≡ false
  receiving id l = other id (was-there (is_connected (all_events h)) (not (is_lost h)) (exists side h id) (not (id % 4 == local_uni side)) (is_running (end_of (all_events h) id)) l)

  no-bytes : (turn : Turn) → is_lawful side h turn ≡ true → (before : _) → with_bytes k turn before ≡ before
  no-bytes (turns.Bytes id piece) l before = rw (receiving id l) refl
  no-bytes turn l before = refl

  no-end : (turn : Turn) → is_lawful side h turn ≡ true → end_of (with_event (event_of turn) (events h)) k ≡ end_of (events h) k
  no-end (turns.End id) l = rw (receiving id l) refl
  no-end (turns.Reset id code) l = rw (receiving id l) refl
  no-end turn l = refl

pub came-more : (side : Side) (p : Pair) (h : History) → is_lawful side h p.turn ≡ true → Came side h → Came side (p ∷ h)
came-more side p h l came k e = record { contents = bytes (is_open h); end = ended (is_open h) }
  where
    before : exists side h k ≡ false
    before = by (exists side h k) refl
      where
        by : (b : Bool) → exists side h k ≡ b → b ≡ false
        by false q = refl
        by true q = absurd (let s = exists-stays side p h k q in cc (sym s ∙ e))

    bytes : (b : Bool) → (if b then with_bytes k p.turn (contents h k) else contents h k) ≡ []
    bytes true = no-bytes side h k before p.turn l (contents h k) ∙ (came k before).contents
    bytes false = (came k before).contents

    ended : (b : Bool) → end_of (if b then with_event (event_of p.turn) (events h) else events h) k ≡ ends.Running
    ended true = no-end side h k before p.turn l ∙ (came k before).end
    ended false = (came k before).end

pub came : (side : Side) (h : History) → IsHistory side h → Came side h
came side [] x = λ k e. record { contents = refl; end = refl }
came side (p ∷ h) x = came-more side p h x.0 (came side h x.2)

-- ---- a stream with a verdict is there

none-of : (b : Bool) → (if b then bi_verdict_of [] ends.Running else uni_verdict_of [] ends.Running) ≡ verdicts.Incomplete
unfolding uni_verdict_of bi_verdict_of varint_at
none-of true = refl
none-of false = refl

pub verdict-there : (side : Side) (h : History) → Came side h → (k : ℕ) → (verdict h k ≡ verdicts.Incomplete → ⊥) → exists side h k ≡ true
verdict-there side h c k some = by (exists side h k) refl
  where
    none : NothingCame side h k → verdict h k ≡ verdicts.Incomplete
    none n = rw (n.contents, n.end) (none-of (is_bidirectional k))

    by : (b : Bool) → exists side h k ≡ b → b ≡ true
    by true e = refl
    by false e = absurd (some (none (c k e)))
