-- A piece of a stream, of a driver at rest, is put before the control stream's reader or a session's.
use Rattle.std.proofs.Common.{◌∙◌, ◌≡◌, ◌∷◌, Bool, List, None, Option, Some, [], ap, false, refl, subst, sym, true, ℕ}
use Rattle.std.proofs.lemmas.Bool.{eqb-true}
use Rattle.std.specs.Prelude.{◌==◌, if◌then◌else◌, option_map, unwrap_or}
use Rattle.wt_follows.proofs.ControlPut.{control-put}
use Rattle.wt_follows.proofs.Puts.{Put}
use Rattle.wt_follows.proofs.SessionPut.{session-put}
use Rattle.wt_follows.specs.Rests.{Resting}
use Rattle.wt_follows.specs.Tie.{Amid}
use Rattle.wt_kept.specs.Classifying.{with_dispatched}
use Rattle.wt_kept.specs.Kept.{DriverNow, LiveNow}
use Rattle.wt_kept.specs.Moment.{with_work}
use Rattle.wt_kept.specs.Pieces.{FedNow, body_fed, body_fed_by, body_feed, body_feed_by, control_slot}
use Rattle.wt_kept.specs.Readers.{ControlReading, Slot}
use Rattle.wt_kept.specs.Windows.{live_in}
use Rattle.wt_turn.specs.Reports.{end_of}
use Rattle.wt_turn.specs.Unread.{ReadPosition}
use Rattle.wt_sessions.specs.DriverState.{state_of}
use Rattle.wt_turn.specs.Log.{Log, events_of, is_open}
use Rattle.wt_turn.specs.declared.action.Action.{Action}
use Rattle.wt_wire.specs.declared.side.Side.{Side}
use Rattle.wt_wire.specs.declared.side.StreamEnd.TheVariants.{Running}

-- the control stream is this one
pub slot-is : (id : ℕ) (c : Option (Slot ControlReading)) (x : Slot ControlReading) → control_slot id c ≡ Some x → (c ≡ Some x) × (x.id ≡ id)
slot-is id None x e = absurd cc
slot-is id (Some y) x e = by (y.id == id) refl e
  where
    by : (b : Bool) → (y.id == id) ≡ b → (if b then Some y else None) ≡ Some x → (Some y ≡ Some x) × (x.id ≡ id)
    by true f g = (g, ap (λ (z : Slot ControlReading). z.id) (sym (ap (λ o. unwrap_or o y) g)) ∙ eqb-true y.id id f)
    by false f g = absurd cc

module _ (side : Side) (d : DriverNow) (log : Log) (position : ℕ → ReadPosition) (uncollected : List Action) (amid : Amid side d log (state_of side log) [] position uncollected) (opened : is_open log ≡ true) (resting : Resting side d log position)
    (id byte : ℕ) (later : List ℕ) (running : end_of (events_of log) id ≡ Running) where
  abbrev whole : List ℕ
  whole = byte ∷ later

  pub body-put : (feed : FedNow) → body_feed id whole d.work.dispatched ≡ Some feed → Put side log position uncollected id whole feed (with_work (with_dispatched (body_fed id whole)) d)
  body-put feed e = by (control_slot id d.work.dispatched.critical.control) refl (live_in d.work.dispatched.sessions id) refl e
    where
      some-is : (x y : FedNow) → Some x ≡ Some y → x ≡ y
      some-is x y f = ap (λ o. unwrap_or o x) f

      control-by : (x : Slot ControlReading) → control_slot id d.work.dispatched.critical.control ≡ Some x → (l : Option LiveNow) → (o : Option (ℕ × ℕ)) → (state_of side log).dispatched.control ≡ o
          → option_map (λ (y : Slot ControlReading). y.id) (Some x) ≡ option_map (λ (y : ℕ × ℕ). y.0) o → body_feed_by whole (Some x) l ≡ Some feed
          → Put side log position uncollected id whole feed (record d { work = record d.work { dispatched = body_fed_by id whole (Some x) l d.work.dispatched } })
      control-by x f l None g same h = absurd cc
      control-by x f l (Some c) g same h =
          let its = slot-is id d.work.dispatched.critical.control x f in
          subst (λ (y : FedNow). Put side log position uncollected id whole y (record d { work = record d.work { dispatched = body_fed_by id whole (Some x) l d.work.dispatched } })) (some-is _ feed h)
          (control-put side d log position uncollected amid opened resting id whole running x c its.0 g its.1 byte later refl)

      by : (c : Option (Slot ControlReading)) → control_slot id d.work.dispatched.critical.control ≡ c → (l : Option LiveNow) → live_in d.work.dispatched.sessions id ≡ l → body_feed_by whole c l ≡ Some feed
          → Put side log position uncollected id whole feed (record d { work = record d.work { dispatched = body_fed_by id whole c l d.work.dispatched } })
      by (Some x) f l g h =
          control-by x f l (state_of side log).dispatched.control refl
          (ap (λ o. option_map (λ (y : Slot ControlReading). y.id) o) (sym (slot-is id d.work.dispatched.critical.control x f).0) ∙ amid.work.keeps.control) h
      by None f (Some x) g h =
          subst (λ (y : FedNow). Put side log position uncollected id whole y (record d { work = record d.work { dispatched = body_fed_by id whole None (Some x) d.work.dispatched } })) (some-is _ feed h)
          (session-put side d log position uncollected amid opened resting id whole running x g byte later refl)
      by None f None g h = absurd cc
