-- A step on the work of a driver leaves the streams whose headers are read.
use Rattle.std.proofs.Common.{◌∙◌, ◌≡◌, ◌≤◌, ◌^◌, ◌-◌, ◌++◌, ◌∷◌, Bool, List, [], ap, drop, false, map, min, refl, subst, sym, true, ℕ}
use Rattle.std.specs.Prelude.{◌==◌, ◌||◌}
use Rattle.wt_follows.proofs.Counts.{SameCounts, consumed-counts}
use Rattle.wt_follows.proofs.Lists.{or-true, same}
use Rattle.wt_follows.proofs.OwnRequest.{LeavesRequest, response-moved}
use Rattle.wt_follows.specs.Roles.{is_arriving, is_in}
use Rattle.wt_follows.specs.Tie.{Amid, ArrivingFollows, OwnFollows, ReaderAt, SlotsAt, WorkAmid, goes}
use Rattle.wt_kept.specs.Arriving.{arrived_count, fresh_slots, peer_kind, slots_of}
use Rattle.wt_kept.specs.Kept.{ArrivingNow, DriverNow, WorkNow}
use Rattle.wt_kept.specs.Readers.{ReaderRules, Slot, bi_rules, read_on, reads_on_if, taken_by, uni_rules}
use Rattle.wt_transport.proofs.Refining.{refined_side}
use Rattle.wt_transport.specs.State.{TransportState}
use Rattle.wt_transport.specs.Step.{count_now, unread_now}
use Rattle.wt_turn.specs.Reports.{datagrams_of}
use Rattle.wt_turn.specs.Streams.{contents}
use Rattle.wt_turn.specs.Unread.{ReadPosition}
use Rattle.wt_sessions.specs.Driver.{control_sent}
use Rattle.wt_sessions.specs.DriverState.{DriverState}
use Rattle.wt_turn.specs.Log.{Log, events_of, with_actions}
use Rattle.wt_turn.specs.declared.action.Action.{Action}
use Rattle.wt_wire.specs.declared.side.Side.{Side}

module _ {V O : Type 0} (w : ReaderRules V O) (bytes : ℕ → List ℕ) (old new : ℕ → ReadPosition) where
  slots-moved : (xs : List (Slot V)) → ((j : ℕ) → is_in j (map (λ (x : Slot V). x.id) xs) ≡ true → new j ≡ old j) → SlotsAt w bytes old xs → SlotsAt w bytes new xs
  slots-moved [] e f = tt
  slots-moved (x ∷ xs) e f = (
    subst (λ q. ReaderAt w x.reader 0 (bytes x.id) q) (sym (e x.id (ap (λ b. b || is_in x.id (map (λ (y : Slot V). y.id) xs)) (same x.id)))) f.0,
    slots-moved xs (λ j g. e j (ap (λ b. (x.id == j) || b) g ∙ or-true (x.id == j))) f.1,
  )

  module _ (t u : TransportState) (sides : u.side ≡ t.side) (counts : SameCounts t u) (a : ArrivingNow V) where
    same-kind : peer_kind u.side a.bidirectional ≡ peer_kind t.side a.bidirectional
    same-kind = ap (λ (n : Side). peer_kind n a.bidirectional) sides

    same-arrived : arrived_count u a ≡ arrived_count t a
    same-arrived = ap (λ k. min (count_now u k) (2 ^ 60)) same-kind ∙ ap (λ n. min n (2 ^ 60)) (counts (peer_kind t.side a.bidirectional))

    same-slots : slots_of w u a ≡ slots_of w t a
    same-slots = λ i. a.reading ++ fresh_slots w (same-kind i) a.next (same-arrived i - a.next)

    pub arriving-stays : (ids : List ℕ) → ((j : ℕ) → is_in j ids ≡ true → new j ≡ old j) → ArrivingFollows w t a ids bytes old → ArrivingFollows w u a ids bytes new
    arriving-stays ids e f = record {
      ordered = subst (λ n. a.next ≤ n) (sym same-arrived) f.ordered;
      few = f.few;
      same_ids = ap (map (λ (x : Slot V). x.id)) same-slots ∙ f.same_ids;
      read = subst (λ xs. SlotsAt w bytes new xs) (sym same-slots) (slots-moved (slots_of w t a) (λ j g. e j (sym (ap (is_in j) f.same_ids) ∙ g)) f.read);
    }

-- reading on changes no number of streams
pub read-counts : {V O : Type 0} (w : ReaderRules V O) (k : ℕ) (r : V) (t : TransportState) → SameCounts t (read_on w k r t).transport
read-counts w k r t = by (w.has_said r)
  where
    by : (b : Bool) → SameCounts t (reads_on_if w.has_said w.fed w.ended b k r t).transport
    by true kind = refl
    by false kind = consumed-counts t k (taken_by w.has_said w.fed r (unread_now t k)) kind

-- what the steps on sessions and critical streams leave
module _ (side : Side) (d : DriverNow) (log : Log) (s : DriverState) (sent : List Action) (position : ℕ → ReadPosition) (uncollected : List Action) (a : Amid side d log s sent position uncollected) where
  pub lifted : (w : WorkNow) (z : DriverState) (more : List Action) (new : ℕ → ReadPosition) (later : List Action) → WorkAmid side w log z more new later
      → SameCounts d.work.transport w.transport → z.unis ≡ s.unis → z.bis ≡ s.bis → z.progress.datagrams ≡ s.progress.datagrams → (goes z ≡ true → goes s ≡ true)
      → ((j : ℕ) → is_arriving s j ≡ true → new j ≡ position j) → control_sent side (with_actions more log) ≡ control_sent side (with_actions sent log)
      → LeavesRequest side s z position new → Amid side (record d { work = w }) log z more new later
  lifted w z more new later b counts unis bis datagrams back moved own leaves = record {
    work = b;
    kinds = a.kinds;
    few = a.few;
    own = subst (λ c. OwnFollows side d.own_control c) (sym own) a.own;
    allowed = λ e. a.allowed (sym (ap (λ c. c.opened) own) ∙ e);
    unis = λ g. subst (λ ids. ArrivingFollows uni_rules w.transport d.unis ids (contents log) new) (sym unis)
        (arriving-stays uni_rules (contents log) position new d.work.transport w.transport sides counts d.unis s.unis (λ j e. moved j (ap (λ x. x || is_in j s.bis) e)) (a.unis (back g)));
    bis = λ g. subst (λ ids. ArrivingFollows bi_rules w.transport d.bis ids (contents log) new) (sym bis)
        (arriving-stays bi_rules (contents log) position new d.work.transport w.transport sides counts d.bis s.bis (λ j e. moved j (ap (λ x. is_in j s.unis || x) e ∙ or-true (is_in j s.unis))) (a.bis (back g)));
    datagrams = λ g. a.datagrams (back g) ∙ ap (λ n. drop n (datagrams_of (events_of log))) (sym datagrams);
    response = λ c n. let l = leaves c n in response-moved side d.response (contents log) (events_of log) position new l.1 (a.response c l.0);
  }
    where
      sides : w.transport.side ≡ d.work.transport.side
      sides = refined_side side w.transport (with_actions more log) new later b.transport ∙ sym (refined_side side d.work.transport (with_actions sent log) position uncollected a.work.transport)
