-- The work of a moment, step by step: after it what is kept follows the log with what went out, and the driver rests.
use Rattle.std.proofs.Common.{append-nil, append_assoc, ◌∙◌, ◌≡◌, ◌++◌, ◌∷◌, Bool, List, None, Option, Some, [], ap, drop, false, is_none, is_some, length, refl, subst, subst₂, suc, sym, take, true, zero, ℕ}
use Rattle.std.proofs.lemmas.Bool.{true≢false}
use Rattle.std.specs.List.{list_any}
use Rattle.std.specs.Prelude.{◌==◌, ◌||◌, if◌then◌else◌, map}
use Rattle.wt_follows.proofs.CloseStep.{close_follows}
use Rattle.wt_follows.proofs.ControlStep.{ControlStepped, SettingsStay, control_step_follows, last-back, last-leaves, last-sessions, last_state}
use Rattle.wt_follows.proofs.Datagrams.{LeavesStreams, datagrams-back, datagrams_follow, datagrams_state}
use Rattle.wt_follows.proofs.Ends.{AreEnds, ends-both, is_end}
use Rattle.wt_follows.proofs.KeepsLaws.{keeps-progress}
use Rattle.wt_follows.proofs.Lifted.{lifted}
use Rattle.wt_follows.proofs.Lists.{or-true}
use Rattle.wt_follows.proofs.OwnStep.{head_actions, head_rest, own-lead, own-ready}
use Rattle.wt_follows.proofs.OwnStop.{looked-back, looked-leaves, own_stop_follows}
use Rattle.wt_follows.proofs.OwnStop as critical
use Rattle.wt_follows.proofs.ReadLaws.{reads-control, reads-sessions, settings-stay}
use Rattle.wt_follows.proofs.SameStreams.{dated-amid, told}
use Rattle.wt_follows.proofs.ScanStep.{FirstBis, FirstUnis, StepLeads, bis-lead, reading-kept, unis-lead}
use Rattle.wt_follows.proofs.SessionsStep.{SessionsStepped, sessions_follow, sessions_state}
use Rattle.wt_follows.proofs.StreamEnds.{actions-append, newest-append}
use Rattle.wt_follows.specs.Rests.{ControlRead, SlotsRead}
use Rattle.wt_follows.specs.Roles.{is_arriving, is_in, is_living}
use Rattle.wt_follows.specs.Tie.{Amid, ReaderAt, goes}
use Rattle.wt_kept.specs.Kept.{DriverNow}
use Rattle.wt_kept.specs.Moment.{closed_with, with_work, without_datagrams, arrivals_step, bis_step, close_step, control_step, datagrams_step, is_ready_now, own_step, own_stop_step, sessions_step, unis_step, work_of_moment}
use Rattle.wt_kept.specs.Readers.{BiReading, ControlReading, Slot, UniReading, bi_rules, control_rules, uni_rules}
use Rattle.wt_proto.specs.Bi.{bi_verdict_of}
use Rattle.wt_proto.specs.Uni.{uni_verdict_of}
use Rattle.wt_proto.specs.declared.verdict.Verdict.{Verdict}
use Rattle.wt_turn.specs.Joined.{newest_first}
use Rattle.wt_turn.specs.Reports.{stop_of}
use Rattle.wt_turn.specs.Streams.{contents, local_uni}
use Rattle.wt_turn.specs.Unread.{AtOffset, ReadPosition}
use Rattle.wt_sessions.specs.Driver.{close_actions, control_sent, transport_view}
use Rattle.wt_sessions.specs.DriverState.{DriverState}
use Rattle.wt_sessions.specs.Scan.{places_after, unless_ended, with_no_actions}
use Rattle.wt_sessions.specs.Step.{Scanned, classify_now, stays_if, unless_faulty, on_progress_now, scan_bis_now, scan_ids, scan_state, scan_unis_now, take_datagrams_now, take_each_now}
use Rattle.wt_sessions.specs.StreamTable.{Session, TransportView}
use Rattle.wt_turn.specs.Log.{Log, Sent, events_of, is_open, with_actions}
use Rattle.wt_turn.specs.declared.action.Action.{Action}
use Rattle.wt_turn.specs.declared.action.Action.TheVariants as actions
use Rattle.wt_wire.specs.declared.error.ErrorCode.{ErrorCode}
use Rattle.wt_wire.specs.declared.side.Side.{Side}

-- ---- steps that a fault stops anyhow

unless-id : (o : Option ErrorCode) (f : DriverState → DriverState) (s : DriverState) → f s ≡ s → unless_ended o f s ≡ s
unless-id None f s e = e
unless-id (Some code) f s e = refl

unless-same : (f : DriverState → DriverState) (s : DriverState) → ((code : ErrorCode) → s.progress.fault ≡ Some code → f s ≡ s) → f s ≡ unless_ended s.progress.fault f s
unless-same f s e = by s.progress.fault refl
  where
    by : (o : Option ErrorCode) → s.progress.fault ≡ o → f s ≡ unless_ended o f s
    by None g = refl
    by (Some code) g = e code g

scan-ended : (t : TransportView) (verdict : ℕ → Verdict) (n : ℕ) (ks : List ℕ) (s : DriverState) (code : ErrorCode) → s.progress.fault ≡ Some code → scan_ids t verdict n ks s ≡ record { left = ks; state = s }
scan-ended t verdict n [] s code e = refl
scan-ended t verdict zero (k ∷ ks) s code e = refl
scan-ended t verdict (suc n) (k ∷ ks) s code e =
    ap (λ (o : Option ErrorCode). unless_faulty o (λ u. stays_if (verdict k) k (scan_ids t verdict (places_after (verdict k) n) ks (classify_now t k (verdict k) u))) (k ∷ ks) s) e

module _ (side : Side) (log : Log) (d : DriverNow) (s : DriverState) (position : ℕ → ReadPosition) (uncollected : List Action) (amid : Amid side d log s [] position uncollected) (opened : s.is_open ≡ true)
    (unstopped : is_some (stop_of (events_of log) (local_uni side)) ≡ true → head_rest side log ≡ [])
    (unready : (transport_view side log).ready ≡ false → (d.unis.reading ≡ []) × (d.bis.reading ≡ [])) where
  abbrev u : TransportView
  u = transport_view side log

  -- what goes out on this end's control stream
  abbrev own : List Action
  own = head_actions side log

  -- the first streams of either kind that have no verdict are those that are read
  abbrev FirstRead : DriverState → DriverNow → Type 0
  FirstRead z e = FirstUnis z e × FirstBis z e

  first-kept : (z y : DriverState) (e f : DriverNow) → y.unis ≡ z.unis → y.bis ≡ z.bis → f.unis ≡ e.unis → f.bis ≡ e.bis → FirstRead z e → FirstRead y f
  first-kept z y e f a b g h r = (ap (take 4) a ∙ (r.0 ∙ ap (λ x. map (λ (s : Slot UniReading). s.id) x.reading) (sym g)), ap (take 4) b ∙ (r.1 ∙ ap (λ x. map (λ (s : Slot BiReading). s.id) x.reading) (sym h)))

  -- In the midst of the moment, after its control stream: this went out for streams, and these are read.
  record Amidst (e : DriverNow) (z : DriverState) : Type 0 where
    position_then : ℕ → ReadPosition
    out : List Action
    amid_then : Amid side e log z (own ++ out) position_then (newest_first (own ++ out) uncollected)
    actions : z.progress.actions ≡ out
    is_open : z.is_open ≡ true
    ends : AreEnds out
    read_unis : goes z ≡ true → SlotsRead position_then (contents log) e.unis.reading
    read_bis : goes z ≡ true → SlotsRead position_then (contents log) e.bis.reading
    first : goes z ≡ true → u.ready ≡ true → FirstRead z e
    unready_then : u.ready ≡ false → (e.unis.reading ≡ []) × (e.bis.reading ≡ [])

  -- ---- this end's control stream

  -- a moment begins with nothing to send
  abbrev begun : DriverState
  begun = on_progress_now with_no_actions s

  begun-amid : Amid side d log begun [] position uncollected
  begun-amid = lifted side d log s [] position uncollected amid d.work begun [] position uncollected
      (dated-amid side d.work log s [] position uncollected amid.work s.dispatched.datagrams (with_no_actions s.progress) d.work.dispatched
      (keeps-progress d.work.dispatched s amid.work.keeps d.work.dispatched.fault (with_no_actions s.progress) refl amid.work.keeps.fault) (λ g. amid.work.control g) (λ g. amid.work.sessions g))
      (λ kind. refl) refl refl refl (λ g. g) (λ j e. refl) refl (λ c n. (n, refl))

  own-amid : Amid side (own_step d) log begun own position (newest_first own uncollected)
  own-amid = own-lead side log d begun position uncollected begun-amid opened unstopped

  ready-is : is_ready_now (own_step d).own_control ≡ u.ready
  ready-is = own-ready side log d begun position uncollected begun-amid opened unstopped

  open-own : is_open (with_actions own log) ≡ true
  open-own = sym own-amid.work.is_open_same ∙ opened

  -- what ends halves of streams leaves the connection open
  ends-open : (xs : List Action) (g : Log) → AreEnds xs → is_open (with_actions xs g) ≡ is_open g
  ends-open [] g e = refl
  ends-open (x ∷ xs) g e = ends-open xs (Sent x ∷ g) e.1 ∙ one x e.0
    where
      one : (x : Action) → is_end x ≡ true → is_open (Sent x ∷ g) ≡ is_open g
      one (actions.StopOut id code) f = refl
      one (actions.ResetOut id code) f = refl
      one (actions.Finish id) f = refl
      one (actions.Dial address name) f = absurd cc
      one (actions.Opened id) f = absurd cc
      one (actions.Send id piece) f = absurd cc
      one (actions.DatagramOut piece) f = absurd cc
      one (actions.Close code reason) f = absurd cc

  still-open : (e : DriverNow) (z : DriverState) (out : List Action) (new : ℕ → ReadPosition) (left : List Action) → Amid side e log z (own ++ out) new left → AreEnds out → z.is_open ≡ true
  still-open e z out new left a ends = a.work.is_open_same ∙ (ap is_open (actions-append own out log) ∙ (ends-open out (with_actions own log) ends ∙ open-own))

  -- ---- what arrived

  abbrev after_unis : DriverState
  after_unis = unless_ended begun.progress.fault (scan_unis_now u) begun

  abbrev after_bis : DriverState
  after_bis = unless_ended after_unis.progress.fault (scan_bis_now u) after_unis

  -- the state once the datagrams were looked at
  abbrev arrived : DriverState
  arrived = unless_ended after_bis.progress.fault (take_datagrams_now u) after_bis

  none-read : {V : Type 0} (xs : List (Slot V)) (new : ℕ → ReadPosition) → xs ≡ [] → SlotsRead new (contents log) xs
  none-read xs new e = subst (λ ys. SlotsRead new (contents log) ys) (sym e) tt

  own-unis : (own_step d).unis ≡ d.unis
  unfolding own_step
  own-unis = refl

  own-bis : (own_step d).bis ≡ d.bis
  unfolding own_step
  own-bis = refl

  module _ (not_ready : u.ready ≡ false) where
    unis-wait : after_unis ≡ begun
    unis-wait = unless-id begun.progress.fault (scan_unis_now u) begun
        (ap (λ (b : Bool). if b then (let x = scan_ids u (λ k. uni_verdict_of (u.contents k) (u.end k)) 4 begun.unis begun in record x.state { unis = x.left }) else begun) not_ready)

    bis-wait : after_bis ≡ after_unis
    bis-wait = unless-id after_unis.progress.fault (scan_bis_now u) after_unis
        (ap (λ (b : Bool). if b then (let x = scan_ids u (λ k. bi_verdict_of (u.contents k) (u.end k)) 4 after_unis.bis after_unis in record x.state { bis = x.left }) else after_unis) not_ready)

    datagrams-wait : arrived ≡ after_bis
    datagrams-wait = unless-id after_bis.progress.fault (take_datagrams_now u) after_bis
        (ap (λ (b : Bool). if b then take_each_now (drop after_bis.progress.datagrams u.datagrams) after_bis else after_bis) not_ready)

    all-wait : begun ≡ arrived
    all-wait = sym (datagrams-wait ∙ (bis-wait ∙ unis-wait))

    own-empty : ((own_step d).unis.reading ≡ []) × ((own_step d).bis.reading ≡ [])
    own-empty = (ap (λ x. x.reading) own-unis ∙ (unready not_ready).0, ap (λ x. x.reading) own-bis ∙ (unready not_ready).1)

    waiting : Amidst (own_step d) begun
    waiting = record {
      position_then = position;
      out = [];
      amid_then = subst (λ (xs : List Action). Amid side (own_step d) log begun xs position (newest_first xs uncollected)) (sym (append-nil own)) own-amid;
      actions = refl;
      is_open = opened;
      ends = tt;
      read_unis = λ g. none-read (own_step d).unis.reading position own-empty.0;
      read_bis = λ g. none-read (own_step d).bis.reading position own-empty.1;
      first = λ g r. absurd (true≢false (sym r ∙ not_ready));
      unready_then = λ e. own-empty;
    }

  module _ (ready : u.ready ≡ true) where
    abbrev scanned_unis : DriverState
    scanned_unis = scan_unis_now u begun

    abbrev scanned_bis : DriverState
    scanned_bis = scan_bis_now u scanned_unis

    unis-led : StepLeads side log (own_step d) begun own position (newest_first own uncollected) (unis_step (own_step d)) scanned_unis false
    unis-led = unis-lead side log (own_step d) begun own position (newest_first own uncollected) own-amid opened ready

    bis-led : StepLeads side log (unis_step (own_step d)) scanned_unis (own ++ unis-led.out) unis-led.position_then (newest_first unis-led.out (newest_first own uncollected)) (bis_step (unis_step (own_step d))) scanned_bis true
    bis-led = bis-lead side log (unis_step (own_step d)) scanned_unis (own ++ unis-led.out) unis-led.position_then (newest_first unis-led.out (newest_first own uncollected)) unis-led.amid_then
        (still-open (unis_step (own_step d)) scanned_unis unis-led.out unis-led.position_then (newest_first unis-led.out (newest_first own uncollected)) unis-led.amid_then unis-led.ends) ready

    abbrev both_out : List Action
    both_out = unis-led.out ++ bis-led.out

    both-ends : AreEnds both_out
    both-ends = ends-both unis-led.out bis-led.out unis-led.ends bis-led.ends

    left-is : newest_first bis-led.out (newest_first unis-led.out (newest_first own uncollected)) ≡ newest_first (own ++ both_out) uncollected
    left-is = sym (newest-append own both_out uncollected ∙ newest-append unis-led.out bis-led.out (newest_first own uncollected))

    bis-amid : Amid side (bis_step (unis_step (own_step d))) log scanned_bis (own ++ both_out) bis-led.position_then (newest_first (own ++ both_out) uncollected)
    bis-amid = subst₂ (λ (xs ys : List Action). Amid side (bis_step (unis_step (own_step d))) log scanned_bis xs bis-led.position_then ys) (append_assoc own unis-led.out bis-led.out) left-is bis-led.amid_then

    bis-open : scanned_bis.is_open ≡ true
    bis-open = still-open (bis_step (unis_step (own_step d))) scanned_bis both_out bis-led.position_then (newest_first (own ++ both_out) uncollected) bis-amid both-ends

    abbrev looked_at : DriverState
    looked_at = datagrams_state side (bis_step (unis_step (own_step d))) log scanned_bis (own ++ both_out) bis-led.position_then (newest_first (own ++ both_out) uncollected) bis-amid bis-open

    looked : Amid side (datagrams_step (bis_step (unis_step (own_step d)))) log looked_at (own ++ both_out) bis-led.position_then (newest_first (own ++ both_out) uncollected) × LeavesStreams scanned_bis looked_at
    looked = datagrams_follow side (bis_step (unis_step (own_step d))) log scanned_bis (own ++ both_out) bis-led.position_then (newest_first (own ++ both_out) uncollected) bis-amid bis-open ready

    looked-goes : goes looked_at ≡ true → goes scanned_bis ≡ true
    looked-goes = datagrams-back side (bis_step (unis_step (own_step d))) log scanned_bis (own ++ both_out) bis-led.position_then (newest_first (own ++ both_out) uncollected) bis-amid bis-open ready

    datagrams-unis : (datagrams_step (bis_step (unis_step (own_step d)))).unis ≡ (bis_step (unis_step (own_step d))).unis
    unfolding datagrams_step
    datagrams-unis = refl

    datagrams-bis : (datagrams_step (bis_step (unis_step (own_step d)))).bis ≡ (bis_step (unis_step (own_step d))).bis
    unfolding datagrams_step
    datagrams-bis = refl

    taken : Amidst (datagrams_step (bis_step (unis_step (own_step d)))) looked_at
    taken = record {
      position_then = bis-led.position_then;
      out = both_out;
      amid_then = looked.0;
      actions = looked.1.actions ∙ (bis-led.actions ∙ ap (λ xs. xs ++ bis-led.out) unis-led.actions);
      is_open = looked.1.is_open ∙ bis-open;
      ends = both-ends;
      read_unis = λ g. subst (λ x. SlotsRead bis-led.position_then (contents log) x.reading) (sym datagrams-unis)
          (bis-led.read_unis (looked-goes g) (λ e. unis-led.read_unis (bis-led.back (looked-goes g)) (λ f. absurd (true≢false (sym f)))));
      read_bis = λ g. subst (λ x. SlotsRead bis-led.position_then (contents log) x.reading) (sym datagrams-bis) (bis-led.read_bis (looked-goes g) (λ f. absurd (true≢false f)));
      first = λ g r. first-kept scanned_bis looked_at (bis_step (unis_step (own_step d))) (datagrams_step (bis_step (unis_step (own_step d)))) looked.1.unis looked.1.bis datagrams-unis datagrams-bis (
        bis-led.first_unis (looked-goes g) (λ e. unis-led.first_unis (bis-led.back (looked-goes g)) (λ f. absurd (true≢false (sym f)))),
        bis-led.first_bis (looked-goes g) (λ f. absurd (true≢false f)),
      );
      unready_then = λ e. absurd (true≢false (sym ready ∙ e));
    }

    -- after a fault nothing is scanned
    unis-ended : (code : ErrorCode) (z : DriverState) → z.progress.fault ≡ Some code → scan_unis_now u z ≡ z
    unis-ended code z e = by u.ready
      where
        by : (b : Bool) → (if b then (let x = scan_ids u (λ k. uni_verdict_of (u.contents k) (u.end k)) 4 z.unis z in record x.state { unis = x.left }) else z) ≡ z
        by true = ap (λ (x : Scanned). record x.state { unis = x.left }) (scan-ended u (λ k. uni_verdict_of (u.contents k) (u.end k)) 4 z.unis z code e)
        by false = refl

    bis-ended : (code : ErrorCode) (z : DriverState) → z.progress.fault ≡ Some code → scan_bis_now u z ≡ z
    bis-ended code z e = by u.ready
      where
        by : (b : Bool) → (if b then (let x = scan_ids u (λ k. bi_verdict_of (u.contents k) (u.end k)) 4 z.bis z in record x.state { bis = x.left }) else z) ≡ z
        by true = ap (λ (x : Scanned). record x.state { bis = x.left }) (scan-ended u (λ k. bi_verdict_of (u.contents k) (u.end k)) 4 z.bis z code e)
        by false = refl

    scanned-is : looked_at ≡ arrived
    scanned-is =
        let one : scanned_unis ≡ after_unis = unless-same (scan_unis_now u) begun (λ code e. unis-ended code begun e) in
        let two : scanned_bis ≡ after_bis = ap (scan_bis_now u) one ∙ unless-same (scan_bis_now u) after_unis (λ code e. bis-ended code after_unis e) in
        ap (λ (z : DriverState). unless_ended z.progress.fault (take_datagrams_now u) z) two

  -- both ways
  arrivals : Amidst (arrivals_step (own_step d)) arrived
  unfolding arrivals_step
  arrivals = subst (λ (b : Bool). Amidst (if b then datagrams_step (bis_step (unis_step (own_step d))) else own_step d) arrived) (sym ready-is) (by u.ready refl)
    where
      by : (b : Bool) → u.ready ≡ b → Amidst (if b then datagrams_step (bis_step (unis_step (own_step d))) else own_step d) arrived
      by true e = subst (λ (z : DriverState). Amidst (datagrams_step (bis_step (unis_step (own_step d)))) z) (scanned-is e) (taken e)
      by false e = subst (λ (z : DriverState). Amidst (own_step d) z) (all-wait e) (waiting e)

  -- ---- the streams of sessions

  -- of each session that lives all that came is read
  abbrev LiveRead : DriverState → (ℕ → ReadPosition) → Type 0
  LiveRead z new = goes z ≡ true → (k : ℕ) → is_living z k ≡ true → new k ≡ AtOffset (length (contents log k))

  -- streams whose headers are read stay so
  still-unis : (e : DriverNow) (z : DriverState) (sent left : List Action) (old new : ℕ → ReadPosition) → Amid side e log z sent old left → ((j : ℕ) → is_arriving z j ≡ true → new j ≡ old j) → goes z ≡ true
      → SlotsRead old (contents log) e.unis.reading → SlotsRead new (contents log) e.unis.reading
  still-unis e z sent left old new a moved g = reading-kept uni_rules e.work.transport e.unis z.unis (contents log) old new (a.unis g) (λ j f. moved j (ap (λ b. b || is_in j z.bis) f))

  still-bis : (e : DriverNow) (z : DriverState) (sent left : List Action) (old new : ℕ → ReadPosition) → Amid side e log z sent old left → ((j : ℕ) → is_arriving z j ≡ true → new j ≡ old j) → goes z ≡ true
      → SlotsRead old (contents log) e.bis.reading → SlotsRead new (contents log) e.bis.reading
  still-bis e z sent left old new a moved g = reading-kept bi_rules e.work.transport e.bis z.bis (contents log) old new (a.bis g) (λ j f. moved j (ap (λ b. is_in j z.unis || b) f ∙ or-true (is_in j z.unis)))

  abbrev before_sessions : DriverNow
  before_sessions = arrivals_step (own_step d)

  abbrev after_sessions : DriverState
  after_sessions = sessions_state side log (reads-sessions side log) arrived

  sessions-unis : (sessions_step before_sessions).unis ≡ before_sessions.unis
  unfolding sessions_step
  sessions-unis = refl

  sessions-bis : (sessions_step before_sessions).bis ≡ before_sessions.bis
  unfolding sessions_step
  sessions-bis = refl

  abbrev went : SessionsStepped side log (reads-sessions side log) before_sessions arrived (own ++ arrivals.out) arrivals.position_then (newest_first (own ++ arrivals.out) uncollected) arrivals.amid_then arrivals.is_open
  went = sessions_follow side log (reads-sessions side log) before_sessions arrived (own ++ arrivals.out) arrivals.position_then (newest_first (own ++ arrivals.out) uncollected) arrivals.amid_then arrivals.is_open

  -- the same where of each session that lives all that came is read
  record AmidstLive (e : DriverNow) (z : DriverState) : Type 0 where
    base : Amidst e z
    live : LiveRead z base.position_then

  looked-sessions : AmidstLive (sessions_step before_sessions) after_sessions
  looked-sessions = record {
    base = record {
      position_then = went.position_then;
      out = arrivals.out ++ went.more;
      amid_then = subst₂ (λ (xs ys : List Action). Amid side (sessions_step before_sessions) log after_sessions xs went.position_then ys) (append_assoc own arrivals.out went.more)
          (sym (ap (λ xs. newest_first xs uncollected) (sym (append_assoc own arrivals.out went.more)) ∙ newest-append (own ++ arrivals.out) went.more uncollected)) went.amid;
      actions = went.actions ∙ ap (λ xs. xs ++ went.more) arrivals.actions;
      is_open = went.is_open;
      ends = ends-both arrivals.out went.more arrivals.ends went.ends;
      read_unis = λ g. subst (λ x. SlotsRead went.position_then (contents log) x.reading) (sym sessions-unis)
          (still-unis before_sessions arrived (own ++ arrivals.out) (newest_first (own ++ arrivals.out) uncollected) arrivals.position_then went.position_then arrivals.amid_then went.elsewhere (went.back g) (arrivals.read_unis (went.back g)));
      read_bis = λ g. subst (λ x. SlotsRead went.position_then (contents log) x.reading) (sym sessions-bis)
          (still-bis before_sessions arrived (own ++ arrivals.out) (newest_first (own ++ arrivals.out) uncollected) arrivals.position_then went.position_then arrivals.amid_then went.elsewhere (went.back g) (arrivals.read_bis (went.back g)));
      first = λ g r. first-kept arrived after_sessions before_sessions (sessions_step before_sessions) went.unis went.bis sessions-unis sessions-bis (arrivals.first (went.back g) r);
      unready_then = λ e. (ap (λ x. x.reading) sessions-unis ∙ (arrivals.unready_then e).0, ap (λ x. x.reading) sessions-bis ∙ (arrivals.unready_then e).1);
    };
    live = went.read;
  }

  -- ---- this end's control stream may be stopped

  abbrev unstopped_driver : DriverNow
  unstopped_driver = own_stop_step (sessions_step before_sessions)

  abbrev after_stop : DriverState
  after_stop = critical.looked (u.is_stopped (local_uni side)) after_sessions

  stop-unis : unstopped_driver.unis ≡ (sessions_step before_sessions).unis
  unfolding own_stop_step
  stop-unis = refl

  stop-bis : unstopped_driver.bis ≡ (sessions_step before_sessions).bis
  unfolding own_stop_step
  stop-bis = refl

  looked-stop : AmidstLive unstopped_driver after_stop
  looked-stop = record {
    base = record {
      position_then = b.position_then;
      out = b.out;
      amid_then = own_stop_follows side (sessions_step before_sessions) log after_sessions (own ++ b.out) b.position_then (newest_first (own ++ b.out) uncollected) b.amid_then;
      actions = l.0.actions ∙ b.actions;
      is_open = l.0.is_open ∙ b.is_open;
      ends = b.ends;
      read_unis = λ g. subst (λ x. SlotsRead b.position_then (contents log) x.reading) (sym stop-unis) (b.read_unis (back g));
      read_bis = λ g. subst (λ x. SlotsRead b.position_then (contents log) x.reading) (sym stop-bis) (b.read_bis (back g));
      first = λ g r. first-kept after_sessions after_stop (sessions_step before_sessions) unstopped_driver l.0.unis l.0.bis stop-unis stop-bis (b.first (back g) r);
      unready_then = λ e. (ap (λ x. x.reading) stop-unis ∙ (b.unready_then e).0, ap (λ x. x.reading) stop-bis ∙ (b.unready_then e).1);
    };
    live = λ g k e. looked-sessions.live (back g) k (ap (λ (xs : List Session). list_any (λ (x : Session). x.id == k) xs) (sym l.3) ∙ e);
  }
    where
      b : Amidst (sessions_step before_sessions) after_sessions
      b = looked-sessions.base

      l : LeavesStreams after_sessions after_stop × (after_stop.progress.datagrams ≡ after_sessions.progress.datagrams) × (after_stop.dispatched ≡ after_sessions.dispatched) × (after_stop.sessions ≡ after_sessions.sessions)
      l = looked-leaves (u.is_stopped (local_uni side)) after_sessions

      back : goes after_stop ≡ true → goes after_sessions ≡ true
      back = looked-back (u.is_stopped (local_uni side)) after_sessions

  -- ---- the peer's control stream

  -- the same where of the control stream all that came is read
  record AmidstAll (e : DriverNow) (z : DriverState) : Type 0 where
    base : Amidst e z
    live : LiveRead z base.position_then
    control : goes z ≡ true → ControlRead base.position_then (contents log) e.work.dispatched.critical.control

  abbrev last_driver : DriverNow
  last_driver = control_step unstopped_driver

  -- the state after the steps of the moment
  abbrev last : DriverState
  last = last_state u after_stop

  control-unis : last_driver.unis ≡ unstopped_driver.unis
  unfolding control_step
  control-unis = refl

  control-bis : last_driver.bis ≡ unstopped_driver.bis
  unfolding control_step
  control-bis = refl

  looked-control : AmidstAll last_driver last
  looked-control = record {
    base = record {
      position_then = c.position_then;
      out = b.out;
      amid_then = c.amid;
      actions = l.0.actions ∙ b.actions;
      is_open = l.0.is_open ∙ b.is_open;
      ends = b.ends;
      read_unis = λ g. subst (λ x. SlotsRead c.position_then (contents log) x.reading) (sym control-unis)
          (still-unis unstopped_driver after_stop (own ++ b.out) (newest_first (own ++ b.out) uncollected) b.position_then c.position_then b.amid_then moved (back g) (b.read_unis (back g)));
      read_bis = λ g. subst (λ x. SlotsRead c.position_then (contents log) x.reading) (sym control-bis)
          (still-bis unstopped_driver after_stop (own ++ b.out) (newest_first (own ++ b.out) uncollected) b.position_then c.position_then b.amid_then moved (back g) (b.read_bis (back g)));
      first = λ g r. first-kept after_stop last unstopped_driver last_driver l.0.unis l.0.bis control-unis control-bis (b.first (back g) r);
      unready_then = λ e. (ap (λ x. x.reading) control-unis ∙ (b.unready_then e).0, ap (λ x. x.reading) control-bis ∙ (b.unready_then e).1);
    };
    live = λ g k e.
        let lives = ap (λ (xs : List Session). list_any (λ (x : Session). x.id == k) xs) (sym (last-sessions u after_stop)) ∙ e in
        c.elsewhere k (b.amid_then.work.roles.living_alone k lives) ∙ looked-stop.live (back g) k lives;
    control = c.read;
  }
    where
      b : Amidst unstopped_driver after_stop
      b = looked-stop.base

      settings : (k : ℕ) (r : ControlReading) (offset : ℕ) → ReaderAt control_rules r offset (contents log k) (looked-stop.base.position_then k) → SettingsStay log r offset k
      settings k r offset at = settings-stay log r offset k (looked-stop.base.position_then k) at

      c : ControlStepped side unstopped_driver log after_stop (own ++ looked-stop.base.out) looked-stop.base.position_then (newest_first (own ++ looked-stop.base.out) uncollected) looked-stop.base.amid_then looked-stop.base.is_open
          (reads-control side log (own ++ looked-stop.base.out) looked-stop.base.position_then (newest_first (own ++ looked-stop.base.out) uncollected) unstopped_driver.work.transport)
          (λ k r offset at. settings-stay log r offset k (looked-stop.base.position_then k) at)
      c = control_step_follows side unstopped_driver log after_stop (own ++ looked-stop.base.out) looked-stop.base.position_then (newest_first (own ++ looked-stop.base.out) uncollected) looked-stop.base.amid_then looked-stop.base.is_open
          (reads-control side log (own ++ looked-stop.base.out) looked-stop.base.position_then (newest_first (own ++ looked-stop.base.out) uncollected) unstopped_driver.work.transport)
          (λ k r offset at. settings-stay log r offset k (looked-stop.base.position_then k) at)

      l : LeavesStreams after_stop last × (last.progress.datagrams ≡ after_stop.progress.datagrams)
      l = last-leaves u after_stop

      back : goes last ≡ true → goes after_stop ≡ true
      back = last-back u after_stop looked-stop.base.is_open

      moved : (j : ℕ) → is_arriving after_stop j ≡ true → c.position_then j ≡ looked-stop.base.position_then j
      moved j f = c.elsewhere j (looked-stop.base.amid_then.work.roles.arriving j f).critical

  -- ---- the close

  -- the state after the steps is that of the log's table
  steps-are : scan_state u s ≡ last
  steps-are = refl

  -- what goes out at the moment
  abbrev pub out_then : List Action
  out_then = own ++ ((scan_state u s).progress.actions ++ close_actions (scan_state u s).progress.fault)

  close-same : ((work_of_moment d).unis ≡ last_driver.unis) × ((work_of_moment d).bis ≡ last_driver.bis) × ((work_of_moment d).work.dispatched ≡ last_driver.work.dispatched)
  unfolding work_of_moment close_step
  close-same = by (closed_with last_driver.work.dispatched.fault last_driver.work.transport).is_open
    where
      x : DriverNow
      x = with_work (λ w. record w { transport = closed_with last_driver.work.dispatched.fault last_driver.work.transport }) last_driver

      by : (b : Bool) → ((without_datagrams b (with_work (λ w. record w { transport = closed_with last_driver.work.dispatched.fault last_driver.work.transport }) last_driver)).unis ≡ last_driver.unis)
          × ((without_datagrams b (with_work (λ w. record w { transport = closed_with last_driver.work.dispatched.fault last_driver.work.transport }) last_driver)).bis ≡ last_driver.bis)
          × ((without_datagrams b (with_work (λ w. record w { transport = closed_with last_driver.work.dispatched.fault last_driver.work.transport }) last_driver)).work.dispatched ≡ last_driver.work.dispatched)
      by true = (refl, refl, refl)
      by false = (refl, refl, refl)

  -- after the moment's work: where it goes on, all that came is read
  pub record Worked : Type 0 where
    pub position_then : ℕ → ReadPosition
    pub out : List Action
    pub ends : AreEnds out
    pub actions : (scan_state u s).progress.actions ≡ out
    pub amid_then : Amid side (work_of_moment d) log (told (control_sent side log) (is_none (scan_state u s).progress.fault) (scan_state u s)) out_then position_then (newest_first out_then uncollected)
    pub read_unis : goes (scan_state u s) ≡ true → SlotsRead position_then (contents log) (work_of_moment d).unis.reading
    pub read_bis : goes (scan_state u s) ≡ true → SlotsRead position_then (contents log) (work_of_moment d).bis.reading
    pub first : goes (scan_state u s) ≡ true → u.ready ≡ true → FirstRead (scan_state u s) (work_of_moment d)
    pub unready_then : u.ready ≡ false → ((work_of_moment d).unis.reading ≡ []) × ((work_of_moment d).bis.reading ≡ [])
    pub live : goes (scan_state u s) ≡ true → (k : ℕ) → is_living (scan_state u s) k ≡ true → position_then k ≡ AtOffset (length (contents log k))
    pub control : goes (scan_state u s) ≡ true → ControlRead position_then (contents log) (work_of_moment d).work.dispatched.critical.control
    pub is_open : (scan_state u s).is_open ≡ true

  closed-amid : Amid side (work_of_moment d) log (told (control_sent side log) (is_none last.progress.fault) last) ((own ++ looked-control.base.out) ++ close_actions last.progress.fault) looked-control.base.position_then
      (newest_first (close_actions last.progress.fault) (newest_first (own ++ looked-control.base.out) uncollected))
  unfolding work_of_moment
  closed-amid = close_follows side last_driver log last (own ++ looked-control.base.out) looked-control.base.position_then (newest_first (own ++ looked-control.base.out) uncollected) looked-control.base.amid_then looked-control.base.is_open (control_sent side log)

  pub worked : Worked
  worked = record {
    position_then = looked-control.base.position_then;
    out = looked-control.base.out;
    ends = looked-control.base.ends;
    actions = looked-control.base.actions;
    amid_then = subst₂ (λ (xs ys : List Action). Amid side (work_of_moment d) log (told (control_sent side log) (is_none last.progress.fault) last) xs looked-control.base.position_then ys) sent-is
        (sym (newest-append (own ++ looked-control.base.out) (close_actions last.progress.fault) uncollected) ∙ ap (λ xs. newest_first xs uncollected) sent-is) closed-amid;
    read_unis = λ g. subst (λ x. SlotsRead looked-control.base.position_then (contents log) x.reading) (sym close-same.0) (looked-control.base.read_unis g);
    read_bis = λ g. subst (λ x. SlotsRead looked-control.base.position_then (contents log) x.reading) (sym close-same.1) (looked-control.base.read_bis g);
    first = λ g r. first-kept last last last_driver (work_of_moment d) refl refl close-same.0 close-same.1 (looked-control.base.first g r);
    unready_then = λ e. (ap (λ x. x.reading) close-same.0 ∙ (looked-control.base.unready_then e).0, ap (λ x. x.reading) close-same.1 ∙ (looked-control.base.unready_then e).1);
    live = looked-control.live;
    control = λ g. subst (λ x. ControlRead looked-control.base.position_then (contents log) x.critical.control) (sym close-same.2) (looked-control.control g);
    is_open = looked-control.base.is_open;
  }
    where
      sent-is : (own ++ looked-control.base.out) ++ close_actions last.progress.fault ≡ own ++ (last.progress.actions ++ close_actions last.progress.fault)
      sent-is = append_assoc own looked-control.base.out (close_actions last.progress.fault) ∙ ap (λ xs. own ++ (xs ++ close_actions last.progress.fault)) (sym looked-control.base.actions)
