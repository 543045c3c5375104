-- The datagrams that came are looked at as the log's table does.
use Rattle.std.proofs.Common.{arith, drop_of_length-le, length-drop, ◌%◌, ◌*◌, ◌+◌, ◌∙◌, ◌≡◌, ◌∷◌, Bool, Err, List, None, Ok, Option, Result, Some, [], ap, drop, false, is_none, length, map, refl, subst, subst₂, suc, sym, true, ℕ}
use Rattle.std.proofs.lemmas.Bool.{true≢false}
use Rattle.std.specs.Prelude.{◌&&◌, ◌++◌, if◌then◌else◌}
use Rattle.wt_follows.proofs.KeepsLaws.{keeps-progress}
use Rattle.wt_follows.proofs.OwnRequest.{none-before}
use Rattle.wt_follows.proofs.SameStreams.{dated-amid}
use Rattle.wt_follows.proofs.TakesDatagrams.{Placed, admits}
use Rattle.wt_follows.specs.Roles.{AreDistinct}
use Rattle.wt_follows.specs.Tie.{Amid, ArrivingFollows, WorkAmid, goes}
use Rattle.wt_kept.specs.Classifying.{with_dispatched, with_sessions}
use Rattle.wt_kept.specs.Kept.{DriverNow, LiveNow, SessionsNow, WorkNow}
use Rattle.wt_kept.specs.Looking.{admit_each, admit_parsed, unless_fault}
use Rattle.wt_kept.specs.Moment.{datagrams_step}
use Rattle.wt_kept.specs.Readers.{bi_rules, uni_rules}
use Rattle.wt_kept.specs.Windows.{admit_datagram_now}
use Rattle.wt_message.specs.Datagram.{datagram_of}
use Rattle.wt_turn.specs.Reports.{datagrams_of}
use Rattle.wt_turn.specs.Streams.{contents}
use Rattle.wt_turn.specs.Unread.{ReadPosition}
use Rattle.wt_sessions.specs.Driver.{transport_view}
use Rattle.wt_sessions.specs.DriverState.{DriverState}
use Rattle.wt_sessions.specs.Scan.{is_admitted, unless_ended, with_fault, with_looked_at}
use Rattle.wt_sessions.specs.Step.{parsed_now, place_now, take_datagrams_now, take_each_now}
use Rattle.wt_turn.specs.Log.{Log, events_of}
use Rattle.wt_turn.specs.declared.action.Action.{Action}
use Rattle.wt_wire.specs.declared.error.ErrorCode.{ErrorCode}
use Rattle.wt_wire.specs.declared.side.Side.{Side}

-- ---- what stays

-- the streams, the sessions and what goes out are the same
pub record LeavesStreams (s z : DriverState) : Type 0 where
  pub unis : z.unis ≡ s.unis
  pub bis : z.bis ≡ s.bis
  pub is_open : z.is_open ≡ s.is_open
  pub actions : z.progress.actions ≡ s.progress.actions
  pub control_sent : z.control_sent ≡ s.control_sent
  pub established : (k : ℕ) → z.dispatched.is_established k ≡ s.dispatched.is_established k

pub leaves-itself : (s : DriverState) → LeavesStreams s s
leaves-itself s = record { unis = refl; bis = refl; is_open = refl; actions = refl; control_sent = refl; established = λ k. refl }

pub leaves-both : (s t z : DriverState) → LeavesStreams s t → LeavesStreams t z → LeavesStreams s z
leaves-both s t z a b = record { unis = b.unis ∙ a.unis; bis = b.bis ∙ a.bis; is_open = b.is_open ∙ a.is_open; actions = b.actions ∙ a.actions; control_sent = b.control_sent ∙ a.control_sent; established = λ k. b.established k ∙ a.established k }

place-leaves : (b : Bool) (session : ℕ) (payload : List ℕ) (s : DriverState) → LeavesStreams s (place_now b session payload s)
place-leaves true session payload s = record { unis = refl; bis = refl; is_open = refl; actions = refl; control_sent = refl; established = λ k. refl }
place-leaves false session payload s = record { unis = refl; bis = refl; is_open = refl; actions = refl; control_sent = refl; established = λ k. refl }

parsed-leaves : (r : Result (ℕ × List ℕ) ErrorCode) (s : DriverState) → LeavesStreams s (parsed_now r s)
parsed-leaves (Ok x) s = place-leaves (is_admitted s.dispatched (4 * x.0)) (4 * x.0) x.1 s
parsed-leaves (Err code) s = record { unis = refl; bis = refl; is_open = refl; actions = refl; control_sent = refl; established = λ k. refl }

each-leaves : (pieces : List (List ℕ)) (s : DriverState) → LeavesStreams s (take_each_now pieces s)
each-leaves [] s = leaves-itself s
each-leaves (piece ∷ later) s = by s.progress.fault (each-leaves later (parsed_now (datagram_of piece) s))
  where
    by : (o : Option ErrorCode) → LeavesStreams (parsed_now (datagram_of piece) s) (take_each_now later (parsed_now (datagram_of piece) s))
        → LeavesStreams s (unless_ended o (λ u. take_each_now later (parsed_now (datagram_of piece) u)) s)
    by None again = leaves-both s (parsed_now (datagram_of piece) s) (take_each_now later (parsed_now (datagram_of piece) s)) (parsed-leaves (datagram_of piece) s) again
    by (Some code) again = leaves-itself s

-- ---- how many were looked at, where no fault came

parsed-count : (r : Result (ℕ × List ℕ) ErrorCode) (s : DriverState) → is_none (parsed_now r s).progress.fault ≡ true → (parsed_now r s).progress.datagrams ≡ suc s.progress.datagrams
parsed-count (Ok x) s e = by (is_admitted s.dispatched (4 * x.0))
  where
    by : (b : Bool) → (place_now b (4 * x.0) x.1 s).progress.datagrams ≡ suc s.progress.datagrams
    by true = refl
    by false = refl
parsed-count (Err code) s e = absurd (true≢false (sym e))

each-count : (pieces : List (List ℕ)) (s : DriverState) → is_none (take_each_now pieces s).progress.fault ≡ true
    → (is_none s.progress.fault ≡ true) × ((take_each_now pieces s).progress.datagrams ≡ s.progress.datagrams + length pieces)
each-count [] s e = (e, omega arith)
each-count (piece ∷ later) s e = by s.progress.fault refl e (each-count later (parsed_now (datagram_of piece) s))
  where
    by : (o : Option ErrorCode) → s.progress.fault ≡ o → is_none (unless_ended o (λ u. take_each_now later (parsed_now (datagram_of piece) u)) s).progress.fault ≡ true
        → (is_none (take_each_now later (parsed_now (datagram_of piece) s)).progress.fault ≡ true
        → (is_none (parsed_now (datagram_of piece) s).progress.fault ≡ true) × ((take_each_now later (parsed_now (datagram_of piece) s)).progress.datagrams ≡ (parsed_now (datagram_of piece) s).progress.datagrams + length later))
        → (is_none o ≡ true) × ((unless_ended o (λ u. take_each_now later (parsed_now (datagram_of piece) u)) s).progress.datagrams ≡ s.progress.datagrams + suc (length later))
    by None same f again = let more = again f in let one = parsed-count (datagram_of piece) s more.0 in (refl, omega (arith, more.1, one))
    by (Some code) same f again = absurd (true≢false (sym f ∙ ap is_none same))

-- ---- one after another

times-four : (q : ℕ) → ((4 * q) % 4) ≡ 0
times-four q = omega arith

module _ (side : Side) (log : Log) (sent : List Action) (position : ℕ → ReadPosition) (uncollected : List Action) where
  module _ (w : WorkNow) (s : DriverState) (a : WorkAmid side w log s sent position uncollected) (g : goes s ≡ true) where
    apart : AreDistinct (map (λ (x : LiveNow). x.id) w.dispatched.sessions.living)
    apart = subst AreDistinct (sym a.keeps.living) a.roles.living

    placed : (q : ℕ) (payload : List ℕ) (x : SessionsNow) (b : Bool) → Placed w.dispatched s a.keeps apart (4 * q) payload (times-four q) x (place_now b (4 * q) payload s)
        → WorkAmid side (with_dispatched (with_sessions x) w) log (place_now b (4 * q) payload s) sent position uncollected
    placed q payload x true p = dated-amid side w log s sent position uncollected a (s.dispatched.datagrams ++ record { index = s.progress.datagrams; session = 4 * q; payload = payload } ∷ []) (with_looked_at s.progress)
        (with_sessions x w.dispatched) p.keeps (λ e. a.control g) (λ e. p.read s.sessions (contents log) position (a.sessions g))
    placed q payload x false p = dated-amid side w log s sent position uncollected a s.dispatched.datagrams (with_looked_at s.progress)
        (with_sessions x w.dispatched) p.keeps (λ e. a.control g) (λ e. p.read s.sessions (contents log) position (a.sessions g))

    one : (r : Result (ℕ × List ℕ) ErrorCode) → WorkAmid side (with_dispatched (admit_parsed r) w) log (parsed_now r s) sent position uncollected
    one (Ok x) = placed x.0 x.1 (admit_datagram_now (4 * x.0) x.1 w.dispatched.sessions).sessions (is_admitted s.dispatched (4 * x.0))
        (admits w.dispatched s a.keeps apart (4 * x.0) x.1 (times-four x.0))
    one (Err code) = dated-amid side w log s sent position uncollected a s.dispatched.datagrams (with_fault (Some code) s.progress) (record w.dispatched { fault = Some code })
        (keeps-progress w.dispatched s a.keeps (Some code) (with_fault (Some code) s.progress) refl refl) (λ e. a.control g) (λ e. a.sessions g)

  goes-on : (s : DriverState) → s.is_open ≡ true → s.progress.fault ≡ None → goes s ≡ true
  goes-on s o f = λ i. o i && is_none (f i)

  each : (pieces : List (List ℕ)) (w : WorkNow) (s : DriverState) → WorkAmid side w log s sent position uncollected → s.is_open ≡ true
      → WorkAmid side (with_dispatched (admit_each pieces) w) log (take_each_now pieces s) sent position uncollected
  each [] w s a o = a
  each (piece ∷ later) w s a o = by s.progress.fault refl a.keeps.fault
      (λ f. each later (with_dispatched (admit_parsed (datagram_of piece)) w) (parsed_now (datagram_of piece) s) (one w s a (goes-on s o f) (datagram_of piece)) ((parsed-leaves (datagram_of piece) s).is_open ∙ o))
    where
      by : (e : Option ErrorCode) → s.progress.fault ≡ e → w.dispatched.fault ≡ e
          → (s.progress.fault ≡ None → WorkAmid side (with_dispatched (admit_each later) (with_dispatched (admit_parsed (datagram_of piece)) w)) log (take_each_now later (parsed_now (datagram_of piece) s)) sent position uncollected)
          → WorkAmid side (with_dispatched (admit_each (piece ∷ later)) w) log (take_each_now (piece ∷ later) s) sent position uncollected
      by None f h again = subst₂ (λ (x y : Option ErrorCode). WorkAmid side (record w { dispatched = unless_fault x (admit_each later (admit_parsed (datagram_of piece) w.dispatched)) w.dispatched }) log
          (unless_ended y (λ u. take_each_now later (parsed_now (datagram_of piece) u)) s) sent position uncollected) (sym h) (sym f) (again f)
      by (Some code) f h again = subst₂ (λ (x y : Option ErrorCode). WorkAmid side (record w { dispatched = unless_fault x (admit_each later (admit_parsed (datagram_of piece) w.dispatched)) w.dispatched }) log
          (unless_ended y (λ u. take_each_now later (parsed_now (datagram_of piece) u)) s) sent position uncollected) (sym h) (sym f) a

-- after a fault nothing is looked at
ended : (pieces : List (List ℕ)) (s : DriverState) (code : ErrorCode) → s.progress.fault ≡ Some code → take_each_now pieces s ≡ s
ended [] s code e = refl
ended (piece ∷ later) s code e = ap (λ (f : Option ErrorCode). unless_ended f (λ u. take_each_now later (parsed_now (datagram_of piece) u)) s) e

-- ---- the step

module _ (side : Side) (d : DriverNow) (log : Log) (s : DriverState) (sent : List Action) (position : ℕ → ReadPosition) (uncollected : List Action) (a : Amid side d log s sent position uncollected) (o : s.is_open ≡ true) where
  -- those that weren't looked at
  abbrev new : List (List ℕ)
  new = drop s.progress.datagrams (datagrams_of (events_of log))

  -- those that the driver keeps, or none after a fault
  abbrev looked : DriverState
  looked = take_each_now d.datagrams s

  none-left : goes looked ≡ true → [] ≡ drop looked.progress.datagrams (datagrams_of (events_of log))
  none-left g =
      let c = each-count d.datagrams s (second-of looked.is_open (is_none looked.progress.fault) g) in
      let same = a.datagrams (ap (λ b. b && is_none s.progress.fault) o ∙ c.0) in
      sym (drop_of_length-le (datagrams_of (events_of log))
      (let n = c.1 in let m = ap length same in let k = length-drop s.progress.datagrams (datagrams_of (events_of log)) in omega (arith, n, m, k)))
    where
      second-of : (b c : Bool) → (b && c) ≡ true → c ≡ true
      second-of true c e = e
      second-of false c e = absurd (true≢false (sym e))

  back : goes looked ≡ true → goes s ≡ true
  back g = ap (λ b. b && is_none s.progress.fault) o ∙ (each-count d.datagrams s (second looked.is_open (is_none looked.progress.fault) g)).0
    where
      second : (b c : Bool) → (b && c) ≡ true → c ≡ true
      second true c e = e
      second false c e = absurd (true≢false (sym e))

  took : Amid side (datagrams_step d) log looked sent position uncollected
  unfolding datagrams_step
  took = record {
    work = each side log sent position uncollected d.datagrams d.work s a.work o;
    kinds = a.kinds;
    few = a.few;
    own = a.own;
    allowed = a.allowed;
    unis = λ g. subst (λ ids. ArrivingFollows uni_rules d.work.transport d.unis ids (contents log) position) (sym (each-leaves d.datagrams s).unis) (a.unis (back g));
    bis = λ g. subst (λ ids. ArrivingFollows bi_rules d.work.transport d.bis ids (contents log) position) (sym (each-leaves d.datagrams s).bis) (a.bis (back g));
    datagrams = none-left;
    response = λ c n. a.response c (none-before s looked (each-leaves d.datagrams s).established n);
  }

  -- the state after the step
  abbrev pub datagrams_state : DriverState
  datagrams_state = unless_ended s.progress.fault (take_datagrams_now (transport_view side log)) s

  looked-is : (transport_view side log).ready ≡ true → looked ≡ datagrams_state
  looked-is ready = by s.progress.fault refl
    where
      by : (e : Option ErrorCode) → s.progress.fault ≡ e → looked ≡ unless_ended e (take_datagrams_now (transport_view side log)) s
      by None f = ap (λ (pieces : List (List ℕ)). take_each_now pieces s) (a.datagrams (λ i. o i && is_none (f i))) ∙ sym (ap (λ (b : Bool). if b then take_each_now new s else s) ready)
      by (Some code) f = ended d.datagrams s code f

  -- the driver looks at them as the table does
  pub datagrams_follow : (transport_view side log).ready ≡ true → Amid side (datagrams_step d) log datagrams_state sent position uncollected × LeavesStreams s datagrams_state
  datagrams_follow ready = (
    subst (λ (z : DriverState). Amid side (datagrams_step d) log z sent position uncollected) (looked-is ready) took,
    subst (λ (z : DriverState). LeavesStreams s z) (looked-is ready) (each-leaves d.datagrams s),
  )

  pub datagrams-back : (transport_view side log).ready ≡ true → goes datagrams_state ≡ true → goes s ≡ true
  datagrams-back ready g = back (ap goes (looked-is ready) ∙ g)
