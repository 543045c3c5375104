-- A call registers a session: what is kept follows the log with the call's record and its moment.
use Rattle.std.proofs.Common.{◌∙◌, ◌∷◌, ◌≡◌, Bool, List, None, Option, ℕ, [], ap, false, refl, subst, sym, true}
use Rattle.std.proofs.lemmas.Bool.{true≢false}
use Rattle.std.specs.Prelude.{◌%◌, ◌&&◌, ◌==◌, ◌||◌, if◌then◌else◌, not}
use Rattle.wt_follows.proofs.Begins.{RequestBegins, ResponseBegins, SessionBegins, read_on_follows, request-may-live, request-registers, response-may-live, response-registers}
use Rattle.wt_follows.proofs.Known.{known-there}
use Rattle.wt_follows.proofs.Lists.{same}
use Rattle.wt_follows.proofs.MomentEnds.{rested-moment-follows}
use Rattle.wt_follows.proofs.NewSession.{MayLive, established-amid}
use Rattle.wt_follows.proofs.QuietEntry.{and-first}
use Rattle.wt_follows.proofs.RecordTold.{told-amid}
use Rattle.wt_follows.specs.Tie.{Amid, Follows, NoneEstablished}
use Rattle.wt_kept.specs.Calling.{may_register, on_sessions, register_now, response_over, response_read}
use Rattle.wt_kept.specs.Kept.{DriverNow}
use Rattle.wt_kept.specs.Moment.{moment_now}
use Rattle.wt_kept.specs.Readers.{ResponseReading, Slot}
use Rattle.wt_kept.specs.Windows.{establish_now}
use Rattle.wt_meaning.specs.Lawful.{is_client}
use Rattle.wt_transport.proofs.Refining.{refined_open, refined_side}
use Rattle.wt_turn.specs.Joined.{newest_first}
use Rattle.wt_turn.specs.Streams.{exists, local_uni}
use Rattle.wt_sessions.specs.Driver.{call_view, transport_view}
use Rattle.wt_sessions.specs.DriverState.{DriverState, state_of}
use Rattle.wt_sessions.specs.Effect.{log_call}
use Rattle.wt_sessions.specs.Moment.{Fits, MayRecord, moment_actions}
use Rattle.wt_sessions.specs.Step.{after_entry, established_now}
use Rattle.wt_sessions.specs.StreamTable.{was_established}
use Rattle.wt_turn.specs.Log.{Called, Log, SessionEstablished, is_open}
use Rattle.wt_turn.specs.declared.action.Action.{Action}
use Rattle.wt_wire.specs.declared.side.Side.{Side}
use Rattle.wt_wire.specs.declared.side.Side.TheVariants.{Client, Server}

-- a session of the log is one of the state
established-is : (side : Side) (log : Log) (k : ℕ) → (state_of side log).dispatched.is_established k ≡ was_established (call_view log) k
unfolding state_of
established-is side log k = refl

-- A driver that follows the log, of whose response nothing more is kept.
module _ (side : Side) (d : DriverNow) (log : Log) (uncollected : List Action) (f : Follows side d log uncollected) (fits : Fits side log) (opened : is_open log ≡ true) (k offset : ℕ)
    (may : MayLive side log (state_of side log) f.position k offset) (o : Option (Slot ResponseReading)) where
  abbrev s : DriverState
  s = state_of side log

  abbrev established : DriverNow
  established = on_sessions (establish_now k) d

  abbrev e : DriverNow
  e = record established { response = o }

  -- what goes out at its moment
  abbrev sent : List Action
  sent = moment_actions (transport_view side log) (transport_view side (Called (SessionEstablished k offset) ∷ log)) (Called (SessionEstablished k offset)) s

  recorded : MayRecord side log (SessionEstablished k offset)
  recorded = (
    known-there side log f.amid.work.there (f.amid.work.transport.facts.open_same opened) k (and-first (exists side log k) (not (local_uni side == k % 4)) may.there) may.arriving,
    sym (established-is side log k) ∙ may.unestablished,
  )

  begun : NoneEstablished (established_now (record { id = k; offset = offset }) s) → ⊥
  begun n = true≢false (sym (ap (λ b. b || s.dispatched.is_established k) (same k)) ∙ n k)

  lives : Amid side e log (established_now (record { id = k; offset = offset }) s) [] f.position uncollected
  lives = let a = established-amid side d log s f.position uncollected f.amid k offset may in record {
    work = a.work;
    kinds = a.kinds;
    few = a.few;
    own = a.own;
    allowed = a.allowed;
    unis = a.unis;
    bis = a.bis;
    datagrams = a.datagrams;
    response = λ c n. absurd (begun n);
  }

  established-told : Amid side e (Called (SessionEstablished k offset) ∷ log) (after_entry (transport_view side log) (Called (SessionEstablished k offset)) s) [] f.position uncollected
  established-told = told-amid side log (SessionEstablished k offset) (record { gives = λ j. refl; reads = λ j. refl; resets = λ j. refl; priorities = λ j. refl }) e (established_now (record { id = k; offset = offset }) s) f.position uncollected lives

  worked : Follows side (moment_now e) (log_call side log [] (SessionEstablished k offset)) (newest_first sent uncollected)
  worked = rested-moment-follows side log (Called (SessionEstablished k offset)) (recorded, fits) refl opened s.progress.settings (f.rests opened).finds e f.position uncollected established-told (f.rests opened).unready

module _ (side : Side) (d : DriverNow) (log : Log) (uncollected : List Action) (f : Follows side d log uncollected) (fits : Fits side log) (opened : is_open log ≡ true) (k offset : ℕ) where
  -- what goes out at the moment of the record
  abbrev pub register_sends : List Action
  register_sends = moment_actions (transport_view side log) (transport_view side (Called (SessionEstablished k offset) ∷ log)) (Called (SessionEstablished k offset)) (state_of side log)

  abbrev After : DriverNow → Type 0
  After x = Follows side x (log_call side log [] (SessionEstablished k offset)) (newest_first register_sends uncollected)

  registered : (one : Side) → d.work.transport.side ≡ one → may_register k d ≡ true → register_now k d ≡ moment_now (on_sessions (establish_now k) (response_over one d))
  unfolding register_now
  registered one is allowed = λ i. if (refined_open side d.work.transport log f.position uncollected f.amid.work.transport ∙ opened) i && allowed i then moment_now (on_sessions (establish_now k) (response_over (is i) d)) else d

  -- by the side
  registers-so : (one : Side) → is_client side ≡ is_client one → d.work.transport.side ≡ one → SessionBegins (is_client one) side log k offset → After (register_now k d)
  registers-so Server same is b = subst After (sym (registered Server is (request-registers side d log uncollected f k offset b same)))
      (worked side d log uncollected f fits opened k offset (request-may-live side d log uncollected f k offset b) d.response)
  registers-so Client same is b = subst After (sym (registered Client is (response-registers side d log uncollected f k offset same b)))
      (worked side (response_read d) log uncollected (read_on_follows side d log uncollected f k offset same b) fits opened k offset (response-may-live side d log uncollected f k offset same b) None)

  -- the driver follows the log with the call, and rests
  pub register-follows : SessionBegins (is_client side) side log k offset → Follows side (register_now k d) (log_call side log [] (SessionEstablished k offset)) (newest_first register_sends uncollected)
  register-follows b = registers-so side refl (refined_side side d.work.transport log f.position uncollected f.amid.work.transport) b
