-- The halves of streams that still run are the same in both.
use Rattle.std.specs.Prelude.{◌%◌, ◌&&◌, ◌==◌, ◌≡◌, Bool, not, ℕ}
use Rattle.std.specs.List.{list_any}
use Rattle.std.proofs.Common.{◌∙◌, ap, refl, sym}
use Rattle.wt_meaning.specs.History.{History, actions_out, all_events, events, exists, is_given_up, is_reset}
use Rattle.wt_turn.specs.Reports.{end_of, is_running}
use Rattle.wt_turn.specs.Sent as sends
use Rattle.wt_turn.specs.Streams.{local_uni, peer_uni}
use Rattle.wt_turn.specs.Streams as streams
use Rattle.wt_sessions.specs.Driver.{gives_up, transport_view}
use Rattle.wt_sessions_agree.proofs.Basics.{eqb-sym}
use Rattle.wt_sessions_agree.specs.Members.{HalvesSeen}
use Rattle.wt_sessions_agree.specs.Stands.{SameOut}
use Rattle.wt_turn.specs.Log.{Log, actions_of, all_events_of, calls_of, events_of}
use Rattle.wt_wire.specs.declared.side.Side.{Side}

pub halves-seen : (side : Side) (h : History) (log : Log) → events h ≡ events_of log → all_events h ≡ all_events_of log → SameOut (actions_out h) (actions_of log)
    → ((k : ℕ) → is_given_up h k ≡ list_any (gives_up k) (calls_of log))
    → ((k : ℕ) → is_reset h k ≡ sends.is_reset log k) → HalvesSeen side h (transport_view side log)
halves-seen side h log e all out given reset = record {
  receives =
      λ k. sym (ap (λ (b : Bool). (b && not (k % 4 == local_uni side)) && is_running (end_of (events h) k) && not (is_given_up h k)) (there k)
      ∙ rw (e, given k, eqb-sym (k % 4) (local_uni side)) refl);
  sends =
      λ k. sym (ap (λ (b : Bool). (b && not (k % 4 == peer_uni side)) && not (sends.is_finished (actions_out h) k) && not (is_reset h k)) (there k)
      ∙ rw (out.finished k, reset k, eqb-sym (k % 4) (peer_uni side)) refl);
}
  where
    there : (k : ℕ) → exists side h k ≡ streams.exists side log k
    there k = rw (all, out.opened (k % 4)) refl
