-- A reader takes bytes as they come, and nothing else rests on how far their stream is read: what is kept follows the log with them, with
-- the stream read up to their end.
use Rattle.std.proofs.Common.{◌+◌, ◌∙◌, ◌≡◌, ◌≤◌, List, [], ap, drop, false, length, subst, sym, true, ℕ}
use Rattle.std.specs.Prelude.{◌&&◌, ◌==◌, if◌then◌else◌, is_none, not, nat_lt}
use Rattle.wt_follows.proofs.BytesCome.{OnlyBytes, contents-apart, only-bytes}
use Rattle.wt_follows.proofs.BytesKept.{exists-same, placed-more, sending-more, there-more}
use Rattle.wt_follows.proofs.FedDirectly.{fed-directly}
use Rattle.wt_follows.proofs.Gains.{next}
use Rattle.wt_follows.proofs.Logs.{differs, same-id}
use Rattle.wt_follows.proofs.Moved.{Elsewhere}
use Rattle.wt_follows.proofs.OwnRequest.{response-same}
use Rattle.wt_follows.proofs.Progress.{placed-progress, roles-progress, sends-progress, there-progress}
use Rattle.wt_follows.specs.Roles.{is_member}
use Rattle.wt_follows.specs.Tie.{Amid, ArrivingFollows, AtHeader, ControlFollows, Keeps, NoneEstablished, OwnFollows, Placed, SessionsFollow, goes, rests_at_header}
use Rattle.wt_kept.specs.Kept.{ArrivingNow, DispatchedNow, DriverNow}
use Rattle.wt_kept.specs.Readers.{BiReading, UniReading, bi_rules, uni_rules}
use Rattle.wt_meaning.specs.Lawful.{is_client}
use Rattle.wt_turn.specs.Arrivals.{log_bytes}
use Rattle.wt_turn.specs.Reports.{datagrams_of, end_of, unis_allowed}
use Rattle.wt_turn.specs.Sent.{sent_on}
use Rattle.wt_turn.specs.Streams.{contents, exists, local_bi, local_count, local_uni}
use Rattle.wt_turn.specs.Unread.{AtOffset, ReadPosition, advance, position_after}
use Rattle.wt_sessions.specs.Driver.{ControlSent, control_sent}
use Rattle.wt_sessions.specs.DriverState.{DriverState}
use Rattle.wt_sessions.specs.StreamTable.{DriverProgress}
use Rattle.wt_turn.specs.Log.{Log, events_of}
use Rattle.wt_turn.specs.declared.action.Action.{Action}
use Rattle.wt_wire.specs.declared.side.Side.{Side}

-- the stream is there, and has no place that tells how far it is read
pub record ReadsAlone (side : Side) (log : Log) (s : DriverState) (id : ℕ) : Type 0 where
  pub there : exists side log id ≡ true
  pub rests : rests_at_header s id ≡ false
  pub member : (session : ℕ) → is_member s session id ≡ false
  pub request : is_client side ≡ true → NoneEstablished s → (id == local_bi side) ≡ false

-- it is read up to the end of these bytes
pub put-at : (log : Log) (position : ℕ → ReadPosition) (id : ℕ) (piece : List ℕ) → position id ≡ AtOffset (length (contents log id)) → position_after position id (length piece) id ≡ AtOffset (length (contents log id) + length piece)
put-at log position id piece at = ap (λ b. if b then advance (length piece) (position id) else position id) (same-id id) ∙ ap (advance (length piece)) at

module _ (side : Side) (d : DriverNow) (log : Log) (s : DriverState) (position : ℕ → ReadPosition) (uncollected : List Action) (id : ℕ) (piece : List ℕ) (a : Amid side d log s [] position uncollected)
    (alone : ReadsAlone side log s id) (at : position id ≡ AtOffset (length (contents log id))) where
  abbrev g : Log
  g = log_bytes log id piece

  abbrev after : ℕ → ReadPosition
  after = position_after position id (length piece)

  only : OnlyBytes log g
  only = only-bytes log id piece

  pub elsewhere : Elsewhere id position after
  elsewhere j e = ap (λ b. if b then advance (length piece) (position j) else position j) e

  before-them : (j : ℕ) → exists side g j ≡ exists side log j
  before-them j = exists-same side log id piece j

  -- of streams that have a place
  placed-put : Placed side s g after
  placed-put = let p = placed-more side log id piece s position a.work.placed in record {
    headers = λ j e. subst (λ q. AtHeader g q j) (sym (elsewhere j (differs (rests_at_header s) id alone.rests j e))) (p.headers j e);
    members = λ j session e. elsewhere j (differs (is_member s session) id (alone.member session) j e) ∙ p.members j session e;
    untouched = p.untouched;
    arriving = p.arriving;
    unopened = λ j e. let h = p.unopened j e in (elsewhere j (differs (λ i. not (exists side g i)) id (ap not (before-them id ∙ alone.there)) j (ap not e)) ∙ h.0, h.1);
    heads = p.heads;
  }

  sent-same : control_sent side g ≡ control_sent side log
  sent-same = λ i. record { opened = not (local_count (only.actions i) (local_uni side) == 0); sent = length (sent_on (only.actions i) (local_uni side)) }

  module _ (unis : ArrivingNow UniReading) (bis : ArrivingNow BiReading) (kept : DispatchedNow) (p : DriverProgress) (fault : p.fault ≡ s.progress.fault) (datagrams : p.datagrams ≡ s.progress.datagrams) where
    abbrev z : DriverState
    z = next s s.dispatched p

    abbrev e : DriverNow
    e = record d { unis = unis; bis = bis; work = record d.work { dispatched = kept } }

    back : goes z ≡ true → goes s ≡ true
    back x = (λ i. s.is_open && is_none (sym fault i)) ∙ x

    pub put-amid : Keeps kept z → (unis.bidirectional ≡ false) × (bis.bidirectional ≡ true) → (length unis.reading ≤ 4) × (length bis.reading ≤ 4)
        → (goes s ≡ true → ControlFollows kept.critical.control s.dispatched.control (contents g) after) → (goes s ≡ true → SessionsFollow kept.sessions.living s.sessions (contents g) after)
        → (goes s ≡ true → ArrivingFollows uni_rules d.work.transport unis s.unis (contents g) after) → (goes s ≡ true → ArrivingFollows bi_rules d.work.transport bis s.bis (contents g) after) → Amid side e g z [] after uncollected
    put-amid keeps kinds few control sessions reads_unis reads_bis = record {
      work = record {
        transport = fed-directly side d.work.transport piece log position uncollected id a.work.transport at;
        is_open_same = a.work.is_open_same ∙ sym only.open_same;
        keeps = keeps;
        roles = roles-progress s p a.work.roles;
        placed = placed-progress s p side g after placed-put;
        there = there-progress s p side g (there-more side log id piece s a.work.there);
        sends = sends-progress s p side g g (sending-more side log id piece s a.work.sends);
        control = λ x. control (back x);
        sessions = λ x. sessions (back x);
      };
      kinds = kinds;
      few = few;
      own = subst (OwnFollows side d.own_control) (sym sent-same) a.own;
      allowed = λ x. ap (λ es. nat_lt 0 (unis_allowed es)) only.events ∙ a.allowed (ap (λ (c : ControlSent). c.opened) (sym sent-same) ∙ x);
      unis = λ x. reads_unis (back x);
      bis = λ x. reads_bis (back x);
      datagrams = λ x. a.datagrams (back x) ∙ (λ i. drop (sym datagrams i) (datagrams_of (sym only.events i)));
      response = λ c n. response-same side d.response (contents log) (contents g) (events_of log) (events_of g) position after (contents-apart log id piece (local_bi side) (alone.request c n))
          (ap (λ es. end_of es (local_bi side)) only.events) (elsewhere (local_bi side) (alone.request c n)) (a.response c n);
    }
