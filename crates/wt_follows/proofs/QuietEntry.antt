-- What an entry of the log leaves that is no byte and no action, and that reads from no stream and gives none up: all that is said of
-- streams that were there.
use Rattle.std.proofs.Common.{◌+◌, ◌^◌, ◌≤◌, ◌∙◌, ◌≡◌, Bool, ap, false, refl, sym, true, ℕ}
use Rattle.std.proofs.lemmas.Bool.{true≢false}
use Rattle.std.specs.List.{list_any}
use Rattle.std.specs.Prelude.{◌&&◌, ◌%◌, ◌==◌, if◌then◌else◌, is_some, not, unwrap_or}
use Rattle.wt_follows.proofs.Headers.{header-goes}
use Rattle.wt_follows.proofs.Lists.{refuted}
use Rattle.wt_follows.specs.Tie.{AtHeader, IsUntouched, Placed, Sends, There, goes_on_at, header_verdict, member_position}
use Rattle.wt_turn.specs.Sent.{is_finished, is_reset}
use Rattle.wt_turn.specs.Streams.{can_receive, can_send, contents, exists, local_count, local_uni, peer_bi, peer_uni, stream_count}
use Rattle.wt_turn.specs.Unread.{AtOffset, GivenUp, ReadPosition}
use Rattle.wt_sessions.specs.Driver.{gives_up, still_sends}
use Rattle.wt_sessions.specs.DriverState.{DriverState}
use Rattle.wt_sessions.specs.Halves.{total_read}
use Rattle.wt_sessions.specs.Moment.{is_peers}
use Rattle.wt_turn.specs.Log.{Log, actions_of, calls_of}
use Rattle.wt_wire.specs.declared.side.Side.{Side}

-- the longer log has no further byte or action, nothing more was read, given up or reset, and each stream is still there
pub record Quiet (side : Side) (log g : Log) : Type 0 where
  pub contents_same : contents g ≡ contents log
  pub there : (k : ℕ) → exists side log k ≡ true → exists side g k ≡ true
  pub given_same : (k : ℕ) → list_any (gives_up k) (calls_of g) ≡ list_any (gives_up k) (calls_of log)
  pub read_same : (k : ℕ) → total_read k (calls_of g) ≡ total_read k (calls_of log)
  pub actions_same : actions_of g ≡ actions_of log
  pub resets_same : (k : ℕ) → is_reset g k ≡ is_reset log k
  pub few : (stream_count side g (peer_uni side) ≤ 2 ^ 60) × (stream_count side g (peer_bi side) ≤ 2 ^ 60)

pub and-first : (a b : Bool) → (a && b) ≡ true → a ≡ true
and-first true b e = refl
and-first false b e = absurd cc

pub and-more : (a b c : Bool) → (a ≡ true → c ≡ true) → (a && b) ≡ true → (c && b) ≡ true
and-more true b c f e = (λ i. f refl i && b) ∙ e
and-more false b c f e = absurd cc

module _ (side : Side) (log g : Log) (q : Quiet side log g) where
  pub receives-stays : (k : ℕ) → can_receive side log k ≡ true → can_receive side g k ≡ true
  receives-stays k e = and-more (exists side log k) (not (local_uni side == k % 4)) (exists side g k) (q.there k) e

  pub can-send-stays : (k : ℕ) → can_send side log k ≡ true → can_send side g k ≡ true
  can-send-stays k e = and-more (exists side log k) (not (peer_uni side == k % 4)) (exists side g k) (q.there k) e

  pub sends-stays : (k : ℕ) → still_sends side log k ≡ true → still_sends side g k ≡ true
  sends-stays k e =
      (λ i. can_send side g k && not (is_finished (q.actions_same i) k) && not (q.resets_same k i))
      ∙ and-more (can_send side log k && not (is_finished (actions_of log) k)) (not (is_reset log k)) (can_send side g k && not (is_finished (actions_of log) k))
      (and-more (can_send side log k) (not (is_finished (actions_of log) k)) (can_send side g k) (can-send-stays k)) e

  pub header-stays : (k : ℕ) → goes_on_at (header_verdict g k) ≡ goes_on_at (header_verdict log k)
  header-stays k = header-goes log g k q.contents_same

  pub member-stays : (k : ℕ) → member_position side g k ≡ member_position side log k
  member-stays k = λ i. if q.given_same k i then GivenUp
      else AtOffset ((if is_peers side k then unwrap_or (header-stays k i) 0 else 0) + q.read_same k i)

  pub untouched-stays : (k : ℕ) → IsUntouched log k → IsUntouched g k
  untouched-stays k u = (q.given_same k ∙ u.0, q.read_same k ∙ u.1)

  pub at-header-stays : (k : ℕ) (position : ReadPosition) → AtHeader log position k → AtHeader g position k
  at-header-stays k position h = record { offset = h.offset; verdict = header-stays k ∙ h.verdict; at_offset = h.at_offset }

  pub placed-stays : (s : DriverState) (position : ℕ → ReadPosition) → Placed side s log position → Placed side s g position
  placed-stays s position p = record {
    headers = λ k e. at-header-stays k (position k) (p.headers k e);
    members = λ k session e. p.members k session e ∙ sym (member-stays k);
    heads = λ k session e f. ap is_some (header-stays k) ∙ p.heads k session e f;
    untouched = λ k e. untouched-stays k (p.untouched k e);
    arriving = λ k e. untouched-stays k (p.arriving k e);
    unopened = λ k e. let u = p.unopened k (refuted (exists side log k) (λ x. true≢false (sym (q.there k x) ∙ e))) in (u.0, untouched-stays k u.1);
  }

  pub there-stays : (s : DriverState) → There side s log → There side s g
  there-stays s t = record {
    unis = t.unis;
    bis = t.bis;
    arriving = λ k e. receives-stays k (t.arriving k e);
    waiting = λ k e. receives-stays k (t.waiting k e);
    living = λ k e. receives-stays k (t.living k e);
    held = λ k e. receives-stays k (t.held k e);
    members = λ k session e. q.there k (t.members k session e);
    critical = λ k e. receives-stays k (t.critical k e);
    gone = λ k e. q.there k (t.gone k e);
    own = t.own;
    kinds = (ap (λ as_. local_count as_ (peer_uni side)) q.actions_same ∙ t.kinds.0, ap (λ as_. local_count as_ (peer_bi side)) q.actions_same ∙ t.kinds.1);
    few = q.few;
    peers = t.peers;
  }

  pub sending-stays : (s : DriverState) → Sends side s log log → Sends side s g g
  sending-stays s x = record {
    arriving = λ k e. refl;
    waiting = λ k e. refl;
    members = λ k session e f. refl;
    living = λ k e. sends-stays k (x.living k e);
    own = (ap (λ as_. is_finished as_ (local_uni side)) q.actions_same ∙ x.own.0, q.resets_same (local_uni side) ∙ x.own.1);
  }
