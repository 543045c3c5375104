-- A call whose record's moment finds nothing, of which what is kept follows the log before that moment: the driver follows the log with the
-- call, nothing goes out, and the driver rests.
use Rattle.std.proofs.Common.{◌∙◌, ◌≡◌, ◌∷◌, Bool, List, None, Option, Some, [], ap, drop, false, refl, subst, subst₂, sym, take, true, ℕ}
use Rattle.std.proofs.lemmas.Bool.{true≢false}
use Rattle.wt_follows.proofs.AtOnce.{noted-finds}
use Rattle.wt_follows.proofs.EntryAtRest.{closed-alone, closed-state, open-alone, open-state}
use Rattle.wt_follows.proofs.KeepsLaws.{keeps-progress}
use Rattle.wt_follows.proofs.Lifted.{lifted}
use Rattle.wt_follows.proofs.SameStreams.{dated-amid}
use Rattle.wt_follows.specs.Pieces.{AllRun, AreIncomplete, ControlGoes, FindsNothing, QpackRuns, noted}
use Rattle.wt_follows.specs.Rests.{ControlRead, Resting, SessionsRead}
use Rattle.wt_follows.specs.Tie.{Amid, Follows}
use Rattle.wt_kept.specs.Kept.{CriticalNow, DriverNow, WorkNow}
use Rattle.wt_proto.specs.Bi.{bi_verdict_of}
use Rattle.wt_proto.specs.Uni.{uni_verdict_of}
use Rattle.wt_turn.specs.Streams.{contents, local_uni}
use Rattle.wt_sessions.specs.Driver.{control_actions, transport_view}
use Rattle.wt_sessions.specs.DriverState.{DriverState, state_of}
use Rattle.wt_sessions.specs.Effect.{log_call}
use Rattle.wt_sessions.specs.Moment.{Fits, MayRecord}
use Rattle.wt_sessions.specs.Step.{after_entry}
use Rattle.wt_sessions.specs.StreamTable.{DriverProgress, Session}
use Rattle.wt_turn.specs.Log.{CallRecord, Called, Log, is_open}
use Rattle.wt_turn.specs.declared.action.Action.{Action}
use Rattle.wt_wire.specs.declared.side.Side.{Side}

-- the streams without a verdict, the sessions that live and the critical streams are the same
pub record SameSources (s z : DriverState) : Type 0 where
  pub unis : z.unis ≡ s.unis
  pub bis : z.bis ≡ s.bis
  pub sessions : z.sessions ≡ s.sessions
  pub control : z.dispatched.control ≡ s.dispatched.control
  pub encoder : z.dispatched.encoder ≡ s.dispatched.encoder
  pub decoder : z.dispatched.decoder ≡ s.dispatched.decoder
  pub progress : z.progress ≡ s.progress
  pub sent : z.control_sent ≡ s.control_sent
  pub is_open : z.is_open ≡ s.is_open

module _ (side : Side) (log : Log) (r : CallRecord) where
  abbrev g : Log
  g = Called r ∷ log

  -- a record changes nothing that a moment looks at but what is kept
  finds-same : (s z : DriverState) (came : Bool) → SameSources s z → FindsNothing (transport_view side log) s came → FindsNothing (transport_view side g) z came
  finds-same s z came same q = record {
    unis = λ e. subst (λ (ks : List ℕ). AreIncomplete (λ k. uni_verdict_of ((transport_view side log).contents k) ((transport_view side log).end k)) 4 ks) (sym same.unis) (q.unis e);
    bis = λ e. subst (λ (ks : List ℕ). AreIncomplete (λ k. bi_verdict_of ((transport_view side log).contents k) ((transport_view side log).end k)) 4 ks) (sym same.bis) (q.bis e);
    datagrams = λ e. ap (λ (p : DriverProgress). drop p.datagrams (transport_view side log).datagrams) same.progress ∙ q.datagrams e;
    sessions = subst (AllRun (transport_view side g)) (sym same.sessions) (runs-same s.sessions q.sessions);
    unstopped = q.unstopped;
    control = subst₂ (λ (o : Option (ℕ × ℕ)) (p : DriverProgress). ControlGoes (transport_view side g) o p.settings came) (sym same.control) (sym same.progress) (control-same s.dispatched.control q.control);
    encoder = subst (QpackRuns (transport_view side g)) (sym same.encoder) (qpack-same s.dispatched.encoder q.encoder);
    decoder = subst (QpackRuns (transport_view side g)) (sym same.decoder) (qpack-same s.dispatched.decoder q.decoder);
    going = ap (λ (p : DriverProgress). p.fault) same.progress ∙ q.going;
    idle = ap (control_actions (transport_view side log).may_open (local_uni side) (transport_view side log).credit) same.sent ∙ q.idle;
  }
    where
      runs-same : (xs : List Session) → AllRun (transport_view side log) xs → AllRun (transport_view side g) xs
      runs-same [] h = tt
      runs-same (x ∷ xs) h = (h.0, runs-same xs h.1)

      control-same : (o : Option (ℕ × ℕ)) → ControlGoes (transport_view side log) o s.progress.settings came → ControlGoes (transport_view side g) o s.progress.settings came
      control-same None h = h
      control-same (Some c) h = h

      qpack-same : (o : Option (ℕ × ℕ)) → QpackRuns (transport_view side log) o → QpackRuns (transport_view side g) o
      qpack-same None h = h
      qpack-same (Some c) h = h

  module _ (fits : Fits side log) (recorded : MayRecord side log r) (d : DriverNow) (uncollected : List Action) (f : Follows side d log uncollected) (w : WorkNow) (critical : w.dispatched.critical ≡ d.work.dispatched.critical)
      (read : SessionsRead f.position (contents log) d.work.dispatched.sessions.living → SessionsRead f.position (contents log) w.dispatched.sessions.living)
      (z : DriverState) (z-is : after_entry (transport_view side log) (Called r) (state_of side log) ≡ z) (same : SameSources (state_of side log) z) (a : Amid side (record d { work = w }) g z [] f.position uncollected) where
    abbrev s : DriverState
    s = state_of side log

    abbrev e : DriverNow
    e = record d { work = w }

    whole-fits : Fits side g
    whole-fits = (recorded, fits)

    module _ (opened : is_open log ≡ true) where
      abbrev came : Bool
      came = s.progress.settings

      finds : FindsNothing (transport_view side g) z came
      finds = finds-same s z came same (f.rests opened).finds

      finds-then : FindsNothing (transport_view side g) (after_entry (transport_view side log) (Called r) s) came
      finds-then = subst (λ (y : DriverState). FindsNothing (transport_view side g) y came) (sym z-is) finds

      open-then : (after_entry (transport_view side log) (Called r) s).is_open ≡ true
      open-then = ap (λ (y : DriverState). y.is_open) z-is ∙ (same.is_open ∙ (f.amid.work.is_open_same ∙ opened))

      state-is : state_of side g ≡ noted came z
      state-is = open-state side log (Called r) whole-fits refl came open-then finds-then ∙ ap (noted came) z-is

      settings-same : came ≡ z.progress.settings
      settings-same = ap (λ (p : DriverProgress). p.settings) (sym same.progress)

      noted-amid : Amid side e g (noted came z) [] f.position uncollected
      noted-amid =
          lifted side e g z [] f.position uncollected a w (noted came z) [] f.position uncollected
          (dated-amid side w g z [] f.position uncollected a.work z.dispatched.datagrams (noted came z).progress w.dispatched
          (keeps-progress w.dispatched z a.work.keeps w.dispatched.fault (noted came z).progress settings-same a.work.keeps.fault) (λ x. a.work.control x) (λ x. a.work.sessions x))
          (λ kind. refl) refl refl refl (λ x. x) (λ j x. refl) refl (λ c n. (n, refl))

      resting : Resting side e g f.position
      resting = let x = f.rests opened in record {
        finds = subst (λ (y : DriverState). FindsNothing (transport_view side g) y y.progress.settings) (sym state-is) (noted-finds (transport_view side g) z came came finds (λ q. settings-same ∙ q) (λ q. q));
        unis = x.unis;
        bis = x.bis;
        control = subst (λ (c : CriticalNow). ControlRead f.position (contents log) c.control) (sym critical) x.control;
        sessions = read x.sessions;
        unready = x.unready;
        first_unis = λ q. ap (λ (y : DriverState). take 4 y.unis) state-is ∙ (ap (take 4) same.unis ∙ x.first_unis q);
        first_bis = λ q. ap (λ (y : DriverState). take 4 y.bis) state-is ∙ (ap (take 4) same.bis ∙ x.first_bis q);
      }

      open-follows : Follows side e (log_call side log [] r) uncollected
      open-follows = subst (λ (l : Log). Follows side e l uncollected) (sym (open-alone side log (Called r) whole-fits refl came open-then finds-then)) (record {
        position = f.position;
        amid = subst (λ (y : DriverState). Amid side e g y [] f.position uncollected) (sym state-is) noted-amid;
        rests = λ q. resting;
      })

    closed-follows : is_open log ≡ false → Follows side e (log_call side log [] r) uncollected
    closed-follows closed =
        let shut : (after_entry (transport_view side log) (Called r) s).is_open ≡ false = ap (λ (y : DriverState). y.is_open) z-is ∙ (same.is_open ∙ (f.amid.work.is_open_same ∙ closed)) in
        subst (λ (l : Log). Follows side e l uncollected) (sym (closed-alone side log (Called r) whole-fits refl shut)) (record {
          position = f.position;
          amid = subst (λ (y : DriverState). Amid side e g y [] f.position uncollected) (sym (closed-state side log (Called r) whole-fits refl shut ∙ z-is)) a;
          rests = λ q. absurd (true≢false (sym q ∙ closed));
        })

    -- the driver follows the log with the call
    pub resting-call-follows : Follows side (record d { work = w }) (log_call side log [] r) uncollected
    resting-call-follows = by (is_open log) refl
      where
        by : (b : Bool) → is_open log ≡ b → Follows side e (log_call side log [] r) uncollected
        by true q = open-follows q
        by false q = closed-follows q

-- nothing goes out at the moment of a record that changes nothing that a moment looks at
pub record-alone : (side : Side) (log : Log) (r : CallRecord) (d : DriverNow) (uncollected : List Action) → Follows side d log uncollected → Fits side (Called r ∷ log)
    → SameSources (state_of side log) (after_entry (transport_view side log) (Called r) (state_of side log)) → log_call side log [] r ≡ Called r ∷ log
record-alone side log r d uncollected f fits same = by (is_open log) refl
  where
    z : DriverState
    z = after_entry (transport_view side log) (Called r) (state_of side log)

    as-open : (b : Bool) → is_open log ≡ b → z.is_open ≡ b
    as-open b e = same.is_open ∙ (f.amid.work.is_open_same ∙ e)

    by : (b : Bool) → is_open log ≡ b → log_call side log [] r ≡ Called r ∷ log
    by true e = open-alone side log (Called r) fits refl (state_of side log).progress.settings (as-open true e)
        (finds-same side log r (state_of side log) z (state_of side log).progress.settings same (f.rests e).finds)
    by false e = closed-alone side log (Called r) fits refl (as-open false e)
