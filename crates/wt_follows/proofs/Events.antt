-- An event of the open connection leaves what is said of streams that were there.
use Rattle.std.proofs.Common.{◌+◌, ◌^◌, ◌≤◌, ◌∷◌, Bool, arith, false, refl, true, ℕ}
use Rattle.std.proofs.lemmas.Bool.{lt-ltb, ltb-true}
use Rattle.std.specs.Prelude.{◌%◌, ◌/◌}
use Rattle.wt_follows.proofs.QuietEntry.{Quiet}
use Rattle.wt_turn.specs.Streams.{local_count, one_more_if, peer_bi, peer_count, peer_opens, peer_uni, stream_count}
use Rattle.wt_turn.specs.Log.{Event, Log, Reported, actions_of, all_events_of}
use Rattle.wt_wire.specs.declared.side.Side.{Side}

one-more-le : (b : Bool) (n m : ℕ) → n + m ≤ one_more_if b n + m
one-more-le true n m = omega arith
one-more-le false n m = omega arith

-- no kind of the peer's has more streams than there are numbers (RFC 9000, section 2.1)
abbrev pub AreFew : Side → Log → Type 0
AreFew side log = (stream_count side log (peer_uni side) ≤ 2 ^ 60) × (stream_count side log (peer_bi side) ≤ 2 ^ 60)

pub event-quiet : (side : Side) (log : Log) (e : Event) → AreFew side (Reported e ∷ log) → Quiet side log (Reported e ∷ log)
event-quiet side log e few = record {
  contents_same = refl;
  there = λ k x. lt-ltb (k / 4) (stream_count side (Reported e ∷ log) (k % 4))
      (let a = ltb-true (k / 4) (stream_count side log (k % 4)) x in
      let b = one-more-le (peer_opens side (k % 4) e) (peer_count side (all_events_of log) (k % 4)) (local_count (actions_of log) (k % 4)) in omega (arith, a, b));
  given_same = λ k. refl;
  read_same = λ k. refl;
  actions_same = refl;
  resets_same = λ k. refl;
  few = few;
}
