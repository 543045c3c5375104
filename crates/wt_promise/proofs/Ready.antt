-- Once this end can set up it stays so, on lawful turns.
use Rattle.std.specs.Prelude.{◌&&◌, ◌==◌, ◌∷◌, ◌≡◌, ◌^◌, Bool, List, false, if◌then◌else◌, nat_le, nat_lt, not, true, ℕ}
use Rattle.std.proofs.Common.{◌∙◌, ap, arith, refl, sym}
use Rattle.std.proofs.lemmas.Bool.{eqb-true}
use Rattle.wt_meaning.specs.History.{History, Pair, all_events, can_send, events, is_open, with_event}
use Rattle.wt_meaning.specs.Lawful.{has_begun, is_lawful, is_lost}
use Rattle.wt_turn.specs.Reports.{credit, is_connected, unis_allowed}
use Rattle.wt_turn.specs.Streams.{local_uni}
use Rattle.wt_promise.proofs.SettingsOut.{open-events}
use Rattle.wt_promise.specs.Found.{can_set_up}
use Rattle.wt_turn.specs.Log.{Event, MaxData}
use Rattle.wt_turn.specs.Turns.{event_of}
use Rattle.wt_turn.specs.declared.turn.Turn.{Turn}
use Rattle.wt_wire.specs.declared.side.Side.{Side}
use Rattle.wt_turn.specs.declared.turn.Turn.TheVariants as turns

-- this end is ready after these events
abbrev ready-of : Side → List Event → Bool
ready-of side es = is_connected es && nat_le 1 (unis_allowed es) && nat_le 25 (credit es (local_uni side))

le-more : (n a b : ℕ) → nat_le n a ≡ true → nat_le a b ≡ true → nat_le n b ≡ true
le-more n a b e f = grind (arith, e, f)

three : (a b c : Bool) → a ≡ true → b ≡ true → c ≡ true → (a && b && c) ≡ true
three a b c e f g = rw (e, f, g) refl

module _ (side : Side) (h : History) (o : is_open h ≡ true) (r : ready-of side (events h) ≡ true) where
  connected : is_connected (events h) ≡ true
  connected = by (is_connected (events h)) (nat_le 1 (unis_allowed (events h))) (nat_le 25 (credit (events h) (local_uni side))) r
    where
      by : (a b c : Bool) → (a && b && c) ≡ true → a ≡ true
      by true b c e = refl
      by false b c e = absurd (cc e)

  allowed : nat_le 1 (unis_allowed (events h)) ≡ true
  allowed = by (is_connected (events h)) (nat_le 1 (unis_allowed (events h))) (nat_le 25 (credit (events h) (local_uni side))) r
    where
      by : (a b c : Bool) → (a && b && c) ≡ true → b ≡ true
      by true true c e = refl
      by true false c e = absurd (cc e)
      by false b c e = absurd (cc e)

  covered : nat_le 25 (credit (events h) (local_uni side)) ≡ true
  covered = by (is_connected (events h)) (nat_le 1 (unis_allowed (events h))) (nat_le 25 (credit (events h) (local_uni side))) r
    where
      by : (a b c : Bool) → (a && b && c) ≡ true → c ≡ true
      by true true true e = refl
      by true true false e = absurd (cc e)
      by true false c e = absurd (cc e)
      by false b c e = absurd (cc e)

  all-same : events h ≡ all_events h
  all-same = open-events h o

  grows : (turn : Turn) → is_lawful side h turn ≡ true → ready-of side (with_event (event_of turn) (events h)) ≡ true
  grows (turns.Connected u b c f) l =
      let q : is_connected (all_events h) ≡ true = ap is_connected (sym all-same) ∙ connected in
      absurd (clash (has_begun side h) (is_connected (all_events h)) (not (is_lost h)) (nat_le u (2 ^ 60)) (nat_le b (2 ^ 60)) (nat_lt c (2 ^ 62)) l q)
    where
      clash : (a c l u b d : Bool) → (a && not c && l && u && b && d) ≡ true → c ≡ true → ⊥
      clash true true l u b d e q = absurd (cc e)
      clash false true l u b d e q = absurd (cc e)
      clash a false l u b d e q = absurd (cc q)
  grows (turns.MaxUni total) l =
      three (is_connected (events h)) (nat_le 1 total) (nat_le 25 (credit (events h) (local_uni side))) connected
      (le-more 1 (unis_allowed (events h)) total allowed
      (ap (λ (es : List Event). nat_le (unis_allowed es) total) all-same
      ∙ rises (is_connected (all_events h)) (not (is_lost h)) (nat_le (unis_allowed (all_events h)) total) (nat_le total (2 ^ 60)) l)) covered
    where
      rises : (a b c d : Bool) → (a && b && (c && d)) ≡ true → c ≡ true
      rises a b true d e = refl
      rises true true false d e = absurd (cc e)
      rises true false false d e = absurd (cc e)
      rises false b false d e = absurd (cc e)
  grows (turns.MaxData id total) l = by (id == local_uni side) refl
    where
      rises : (a b c d f : Bool) → (a && b && (c && d && f)) ≡ true → d ≡ true
      rises a b c true f e = refl
      rises true true true false f e = absurd (cc e)
      rises true true false false f e = absurd (cc e)
      rises true false c false f e = absurd (cc e)
      rises false b c false f e = absurd (cc e)

      by : (b : Bool) → (id == local_uni side) ≡ b → ready-of side (MaxData id total ∷ events h) ≡ true
      by false e = rw e r
      by true e =
          let i : id ≡ local_uni side = eqb-true id (local_uni side) e in
          let c : nat_le (credit (events h) (local_uni side)) total ≡ true
          = ap (λ (es : List Event). nat_le (credit es (local_uni side)) total) all-same ∙ ap (λ (k : ℕ). nat_le (credit (all_events h) k) total) (sym i)
          ∙ rises (is_connected (all_events h)) (not (is_lost h)) (can_send side h id) (nat_le (credit (all_events h) id) total) (nat_lt total (2 ^ 62)) l in
          rw e (three (is_connected (events h)) (nat_le 1 (unis_allowed (events h))) (nat_le 25 total) connected allowed (le-more 25 (credit (events h) (local_uni side)) total covered c))
  grows _ l = r

pub ready-stays : (side : Side) (p : Pair) (h : History) → is_lawful side h p.turn ≡ true → can_set_up side h ≡ true → can_set_up side (p ∷ h) ≡ true
ready-stays side p h l r = by (is_open h) refl
  where
    by : (b : Bool) → is_open h ≡ b → ready-of side (if b then with_event (event_of p.turn) (events h) else events h) ≡ true
    by true o = grows side h o r p.turn l
    by false o = r
