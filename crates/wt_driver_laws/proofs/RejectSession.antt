-- The rejection of a request is over: its session is gone, its streams end, and the connection is closed where a code is given.
use Rattle.std.proofs.Common.{◌∙◌, ◌≡◌, ◌++◌, ◌∷◌, Bool, List, None, Option, Some, [], ap, false, refl, subst, sym, true, ℕ}
use Rattle.std.proofs.lemmas.Bool.{true≢false}
use Rattle.std.specs.Prelude.{if◌then◌else◌}
use Rattle.wt_driver_laws.proofs.Reach.{reached_holds}
use Rattle.wt_driver_laws.proofs.RejectClosed.{closed-refused}
use Rattle.wt_driver_laws.proofs.RejectRequest.{awaiting, known, may-retire}
use Rattle.wt_driver_laws.proofs.SessionEnds.{open-same}
use Rattle.wt_driver_laws.proofs.TurnCollected.{follows-more}
use Rattle.wt_driver_laws.specs.Calling.{Always, log_record}
use Rattle.wt_driver_laws.specs.Driving.{Follows, IsReachable, uncollected_since}
use Rattle.wt_driver_laws.specs.Handing.{IsAnswering, rejecting_actions}
use Rattle.wt_driver_laws.specs.Sessions.{reject_session_now}
use Rattle.wt_follows.proofs.CloseCall.{close-follows}
use Rattle.wt_follows.proofs.CloseStep.{loud}
use Rattle.wt_follows.proofs.EndSession.{alone, awaits-apart, refuse-session-follows}
use Rattle.wt_follows.proofs.Ends.{gone-ends}
use Rattle.wt_follows.proofs.EntryAtRest.{closed-alone, closed-state}
use Rattle.wt_follows.proofs.GoneRoles.{MayRetire, gone_position}
use Rattle.wt_follows.proofs.MomentEnds.{ends-count, state-sent}
use Rattle.wt_follows.proofs.PutFollows.{actions-with}
use Rattle.wt_follows.proofs.SameStreams.{told}
use Rattle.wt_follows.proofs.SessionCalls.{record-taken, rejected-amid, rejected_driver}
use Rattle.wt_follows.proofs.Settled.{settles}
use Rattle.wt_follows.proofs.StreamEnds.{actions-append}
use Rattle.wt_follows.specs.Tie as tie
use Rattle.wt_follows.specs.Tie.{Amid}
use Rattle.wt_kept.specs.Calling.{close_now, refuse_session_now, refused_by}
use Rattle.wt_kept.specs.Ending.{retire_now}
use Rattle.wt_kept.specs.Kept.{DriverNow, Refused}
use Rattle.wt_kept.specs.Moment.{with_work}
use Rattle.wt_transport.specs.Step.{after_close}
use Rattle.wt_turn.specs.Joined.{newest_first}
use Rattle.wt_turn.specs.Streams.{local_count, peer_bi, peer_uni}
use Rattle.wt_sessions.proofs.LogFollows.{sent-fits}
use Rattle.wt_sessions.proofs.Turns.{Holds}
use Rattle.wt_sessions.specs.Driver.{control_sent, ending_actions, transport_view}
use Rattle.wt_sessions.specs.DriverState.{DriverState, state_of}
use Rattle.wt_sessions.specs.Effect.{log_call}
use Rattle.wt_sessions.specs.Moment.{Fits}
use Rattle.wt_sessions.specs.Step.{after_entry, gone_now}
use Rattle.wt_sessions.specs.StreamTable.{gone_actions}
use Rattle.wt_turn.specs.Log.{Called, Log, RequestRejected, actions_of, is_open, with_actions}
use Rattle.wt_turn.specs.declared.action.Action.{Action}
use Rattle.wt_turn.specs.declared.action.Action.TheVariants as actions
use Rattle.wt_wire.specs.declared.side.Side.{Side}

-- a close of a connection that has ended
closes-nothing : (side : Side) (d : DriverNow) (log : Log) (collected : ℕ) → Follows side d log collected → Fits side log → is_open log ≡ false → (code : ℕ) → Follows side (close_now code [] d) log collected
closes-nothing side d log collected f fits shut code = record {
  kept = subst (λ (b : Bool). tie.Follows side (close_now code [] d) (with_actions (if b then actions.Close code [] ∷ [] else []) log) (newest_first (if b then actions.Close code [] ∷ [] else []) (uncollected_since collected log)))
      shut (close-follows side d log (uncollected_since collected log) f.kept fits code []);
  within = f.within;
}

module _ (side : Side) (d : DriverNow) (log : Log) (collected : ℕ) (f : Follows side d log collected) (reached : IsReachable side log) (k : ℕ) (answering : IsAnswering log k) where
  abbrev s : DriverState
  s = state_of side log

  abbrev uncollected : List Action
  uncollected = uncollected_since collected log

  held : Holds side log
  held = reached_holds side log reached

  -- ---- after the connection's end

  module _ (shut : is_open log ≡ false) where
    abbrev after : Log
    after = Called (RequestRejected k) ∷ log

    refused-late : Follows side (refuse_session_now k d) (log_call side log [] (RequestRejected k)) collected
    refused-late = closed-refused side d log collected f reached k answering shut

    late-alone : log_call side log [] (RequestRejected k) ≡ after
    late-alone = closed-alone side log (Called (RequestRejected k)) (known side d log collected f reached k answering [], held.fits) refl (f.kept.amid.work.is_open_same ∙ shut)

    late : (close : Option ℕ) → Follows side (reject_session_now k close d) (log_call side log [] (RequestRejected k)) collected
    late None = refused-late
    late (Some code) = subst (λ (l : Log). Follows side (close_now code [] (refuse_session_now k d)) l collected) (sym late-alone)
        (closes-nothing side (refuse_session_now k d) after collected (subst (λ (l : Log). Follows side (refuse_session_now k d) l collected) late-alone refused-late)
        (known side d log collected f reached k answering [], held.fits) shut code)

  -- ---- before it

  module _ (opened : is_open log ≡ true) where
    open-state : s.is_open ≡ true
    open-state = f.kept.amid.work.is_open_same ∙ opened

    may : MayRetire side log s k
    may = may-retire side d log collected f reached k answering open-state

    abbrev rejecting : List Action
    rejecting = gone_actions (transport_view side log) s.dispatched k

    ending-is : rejecting ≡ ending_actions side log k
    unfolding state_of
    ending-is = refl

    gone-amid : Amid side (rejected_driver side d log s f.kept.position uncollected f.kept.amid k) log (gone_now k s) rejecting (gone_position s k f.kept.position) (newest_first rejecting uncollected)
    gone-amid = rejected-amid side d log s f.kept.position uncollected f.kept.amid k may
        (λ c n. awaits-apart side d log uncollected f.kept held.fits opened k may (awaiting side d log collected f reached k answering))

    -- without a code
    refused-alone : log_call side log rejecting (RequestRejected k) ≡ Called (RequestRejected k) ∷ with_actions rejecting log
    refused-alone = alone side d log uncollected f.kept held.fits opened k may rejecting (gone-ends (transport_view side log) s.dispatched k) (retire_now k Refused d.work) refl gone-amid
        (known side d log collected f reached k answering rejecting)

    refused : Follows side (refuse_session_now k d) (log_call side log rejecting (RequestRejected k)) collected
    refused = follows-more side d (refuse_session_now k d) log (log_call side log rejecting (RequestRejected k)) collected rejecting f (ap actions_of refused-alone ∙ actions-with rejecting log)
        (refuse-session-follows side d log uncollected f.kept held.fits opened k may (awaiting side d log collected f reached k answering) (known side d log collected f reached k answering rejecting))

    -- with one
    module _ (code : ℕ) where
      abbrev close : Action
      close = actions.Close code []

      abbrev own : List Action
      own = rejecting ++ close ∷ []

      abbrev before : Log
      before = with_actions own log

      abbrev closed_driver : DriverNow
      closed_driver = record d { work = record (retire_now k Refused d.work) { transport = after_close (retire_now k Refused d.work).transport code [] }; datagrams = [] }

      abbrev closed : DriverState
      closed = told s.control_sent false (gone_now k s)

      closed-amid : Amid side closed_driver log closed own (gone_position s k f.kept.position) (close ∷ newest_first rejecting uncollected)
      closed-amid = loud side (rejected_driver side d log s f.kept.position uncollected f.kept.amid k) log (gone_now k s) rejecting (gone_position s k f.kept.position) (newest_first rejecting uncollected) gone-amid open-state s.control_sent code

      count-same : (kind : ℕ) → local_count (actions_of before) kind ≡ local_count (actions_of log) kind
      count-same kind = ap (λ (l : Log). local_count (actions_of l) kind) (actions-append rejecting (close ∷ []) log) ∙ ends-count kind rejecting log (gone-ends (transport_view side log) s.dispatched k)

      shut : is_open before ≡ false
      shut = ap is_open (actions-append rejecting (close ∷ []) log)

      settled : Amid side closed_driver before (told (control_sent side before) (is_open before) closed) [] (gone_position s k f.kept.position) (close ∷ newest_first rejecting uncollected)
      settled = settles side closed_driver log closed own (gone_position s k f.kept.position) (close ∷ newest_first rejecting uncollected) closed-amid (count-same (peer_uni side)) (count-same (peer_bi side))

      abbrev whole : Log
      whole = Called (RequestRejected k) ∷ before

      taken : Amid side closed_driver whole (told (control_sent side before) (is_open before) closed) [] (gone_position s k f.kept.position) (close ∷ newest_first rejecting uncollected)
      taken = record-taken side closed_driver before (told (control_sent side before) (is_open before) closed) (gone_position s k f.kept.position) (close ∷ newest_first rejecting uncollected) settled k

      fits-whole : Fits side whole
      fits-whole = (known side d log collected f reached k answering own, sent-fits side own log held.fits)

      entry-is : after_entry (transport_view side before) (Called (RequestRejected k)) (state_of side before) ≡ told (control_sent side before) (is_open before) closed
      entry-is = ap (λ (x : DriverState). after_entry (transport_view side before) (Called (RequestRejected k)) x) (state-sent side own log)

      entry-shut : (after_entry (transport_view side before) (Called (RequestRejected k)) (state_of side before)).is_open ≡ false
      entry-shut = ap (λ (x : DriverState). x.is_open) entry-is ∙ shut

      whole-alone : log_call side log own (RequestRejected k) ≡ whole
      whole-alone = closed-alone side before (Called (RequestRejected k)) fits-whole refl entry-shut

      state-is : state_of side whole ≡ told (control_sent side before) (is_open before) closed
      state-is = closed-state side before (Called (RequestRejected k)) fits-whole refl entry-shut ∙ entry-is

      whole-follows : tie.Follows side closed_driver whole (close ∷ newest_first rejecting uncollected)
      whole-follows = record {
        position = gone_position s k f.kept.position;
        amid = subst (λ (x : DriverState). Amid side closed_driver whole x [] (gone_position s k f.kept.position) (close ∷ newest_first rejecting uncollected)) (sym state-is) taken;
        rests = λ e. absurd (true≢false (sym e ∙ shut));
      }

      newest-is : (xs ys : List Action) → close ∷ newest_first xs ys ≡ newest_first (xs ++ close ∷ []) ys
      newest-is [] ys = refl
      newest-is (x ∷ xs) ys = newest-is xs (x ∷ ys)

      driver-is : closed_driver ≡ close_now code [] (refuse_session_now k d)
      unfolding close_now refuse_session_now
      driver-is = ap (close_now code []) (sym (λ i. if awaiting side d log collected f reached k answering i then with_work (refused_by ((open-same side d log collected f ∙ opened) i) k) d else d))

      closing : Follows side (close_now code [] (refuse_session_now k d)) (log_call side log own (RequestRejected k)) collected
      closing = follows-more side d (close_now code [] (refuse_session_now k d)) log (log_call side log own (RequestRejected k)) collected own f (ap actions_of whole-alone ∙ actions-with own log)
          (subst (λ (l : Log). tie.Follows side (close_now code [] (refuse_session_now k d)) l (newest_first own uncollected)) (sym whole-alone)
          (subst (λ (xs : List Action). tie.Follows side (close_now code [] (refuse_session_now k d)) whole xs) (newest-is rejecting uncollected)
          (subst (λ (x : DriverNow). tie.Follows side x whole (close ∷ newest_first rejecting uncollected)) driver-is whole-follows)))

    refused-ends : Follows side (refuse_session_now k d) (log_call side log (ending_actions side log k) (RequestRejected k)) collected
    refused-ends = subst (λ (xs : List Action). Follows side (refuse_session_now k d) (log_call side log xs (RequestRejected k)) collected) ending-is refused

    closing-ends : (code : ℕ) → Follows side (close_now code [] (refuse_session_now k d)) (log_call side log (ending_actions side log k ++ actions.Close code [] ∷ []) (RequestRejected k)) collected
    closing-ends code =
        subst (λ (xs : List Action). Follows side (close_now code [] (refuse_session_now k d)) (log_call side log (xs ++ actions.Close code [] ∷ []) (RequestRejected k)) collected) ending-is (closing code)

  pub rejected : (close : Option ℕ) → Follows side (reject_session_now k close d) (log_call side log (rejecting_actions side log k close) (RequestRejected k)) collected
  rejected None = by (is_open log) refl
    where
      by : (b : Bool) → is_open log ≡ b → Follows side (refuse_session_now k d) (log_call side log (if b then ending_actions side log k else []) (RequestRejected k)) collected
      by true e = refused-ends e
      by false e = late e None
  rejected (Some code) = by (is_open log) refl
    where
      by : (b : Bool) → is_open log ≡ b
          → Follows side (close_now code [] (refuse_session_now k d)) (log_call side log (if b then ending_actions side log k ++ actions.Close code [] ∷ [] else []) (RequestRejected k)) collected
      by true e = closing-ends e code
      by false e = late e (Some code)

-- ---- the call

pub reject_session_law : (s : ℕ) (close : Option ℕ) (d later : DriverNow) → later ≡ reject_session_now s close d
    → Always d (λ side log collected. IsAnswering log s → Follows side later (log_record side log (rejecting_actions side log s close) (RequestRejected s)) collected)
reject_session_law s close d later step side log collected f reached answering =
    subst (λ (x : DriverNow). Follows side x (log_record side log (rejecting_actions side log s close) (RequestRejected s)) collected) (sym step) (rejected side d log collected f reached s answering close)
