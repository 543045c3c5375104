-- A fault closes the connection with its code.
use Rattle.std.proofs.Common.{◌∙◌, ◌≡◌, ◌++◌, ◌∷◌, Bool, List, None, Option, Some, [], ap, false, is_none, nat_lt, refl, subst, sym, true, ℕ}
use Rattle.std.proofs.lemmas.Bool.{true≢false}
use Rattle.std.specs.Prelude.{◌&&◌, if◌then◌else◌}
use Rattle.wt_follows.proofs.SameStreams.{told, told-placed, told-roles, told-sends, told-there}
use Rattle.wt_follows.proofs.StreamEnds.{actions-append}
use Rattle.wt_follows.specs.Tie.{Amid, Keeps, OwnFollows, Sends, WorkAmid, goes}
use Rattle.wt_kept.specs.Kept.{DriverNow}
use Rattle.wt_kept.specs.Moment.{close_step, closed_with, with_work, without_datagrams}
use Rattle.wt_transport.proofs.Refining.{close_refines, refined_open}
use Rattle.wt_transport.specs.State.{Refines, TransportState}
use Rattle.wt_transport.specs.Step.{after_close}
use Rattle.wt_turn.specs.Joined.{newest_first}
use Rattle.wt_turn.specs.Reports.{unis_allowed}
use Rattle.wt_turn.specs.Unread.{ReadPosition}
use Rattle.wt_sessions.specs.Driver.{ControlSent, close_actions, control_sent}
use Rattle.wt_sessions.specs.DriverState.{DriverState}
use Rattle.wt_turn.specs.Log.{Log, Sent, events_of, is_open, with_actions}
use Rattle.wt_turn.specs.declared.action.Action.{Action}
use Rattle.wt_wire.specs.Codes.{code_of}
use Rattle.wt_wire.specs.declared.error.ErrorCode.{ErrorCode}
use Rattle.wt_wire.specs.declared.side.Side.{Side}
use Rattle.wt_turn.specs.declared.action.Action.TheVariants as actions

module _ (side : Side) (d : DriverNow) (log : Log) (s : DriverState) (sent : List Action) (position : ℕ → ReadPosition) (uncollected : List Action) (a : Amid side d log s sent position uncollected)
    (open_ : s.is_open ≡ true) (c : ControlSent) where
  -- the state after it: the connection is open where no fault came
  abbrev pub closed_state : DriverState
  closed_state = told c (is_none s.progress.fault) s

  abbrev state_by : Bool → DriverState
  state_by o = told c o s

  abbrev sending : Log
  sending = with_actions sent log

  -- the driver whose connection this fault closes
  abbrev close_by : Option ErrorCode → DriverNow
  close_by o = let t = closed_with o d.work.transport in without_datagrams t.is_open (with_work (λ w. record w { transport = t }) d)

  keeps-then : (o : Bool) → Keeps d.work.dispatched (state_by o)
  keeps-then o = let h = a.work.keeps in record {
    control = h.control;
    encoder = h.encoder;
    decoder = h.decoder;
    settings = h.settings;
    queued = h.queued;
    held = h.held;
    living = h.living;
    windows = h.windows;
    early = h.early;
    gone = h.gone;
    gone_named = h.gone_named;
    closed = h.closed;
    established = h.established;
    alive = h.alive;
    named = h.named;
    named_streams = h.named_streams;
    named_datagrams = h.named_datagrams;
    unjoined = h.unjoined;
    fault = h.fault;
  }

  -- the work with this transport, after a log of which it says the same of streams
  work-then : (o : Bool) (t : TransportState) (more : List Action) → Refines side t (with_actions (sent ++ more) log) position (newest_first more uncollected) → o ≡ is_open (with_actions (sent ++ more) log)
      → Sends side s log (with_actions (sent ++ more) log) → (goes (state_by o) ≡ true → goes s ≡ true)
      → WorkAmid side (record d.work { transport = t }) log (state_by o) (sent ++ more) position (newest_first more uncollected)
  work-then o t more r e sends back = record {
    transport = r;
    is_open_same = e;
    keeps = keeps-then o;
    roles = told-roles s s.dispatched.datagrams s.progress c o a.work.roles;
    placed = told-placed s s.dispatched.datagrams s.progress c o side log position a.work.placed;
    there = told-there s s.dispatched.datagrams s.progress c o side log a.work.there;
    sends = told-sends s s.dispatched.datagrams s.progress c o side log (with_actions (sent ++ more) log) sends;
    control = λ g. a.work.control (back g);
    sessions = λ g. a.work.sessions (back g);
  }

  -- nothing goes out
  none-sent : with_actions (sent ++ []) log ≡ sending
  none-sent = actions-append sent [] log

  quiet : s.progress.fault ≡ None → Amid side (with_work (λ w. record w { transport = w.transport }) d) log (state_by true) (sent ++ []) position uncollected
  quiet f = record {
    work = work-then true d.work.transport [] (subst (λ (g : Log). Refines side d.work.transport g position uncollected) (sym none-sent) a.work.transport)
        (sym open_ ∙ (a.work.is_open_same ∙ ap is_open (sym none-sent))) (subst (λ (g : Log). Sends side s log g) (sym none-sent) a.work.sends) back;
    kinds = a.kinds;
    few = a.few;
    own = subst (λ (g : Log). OwnFollows side d.own_control (control_sent side g)) (sym none-sent) a.own;
    allowed = subst (λ (g : Log). (control_sent side g).opened ≡ true → nat_lt 0 (unis_allowed (events_of log)) ≡ true) (sym none-sent) a.allowed;
    unis = λ g. a.unis (back g);
    bis = λ g. a.bis (back g);
    datagrams = λ g. a.datagrams (back g);
    response = a.response;
  }
    where
      back : goes (state_by true) ≡ true → goes s ≡ true
      back g = λ i. open_ i && is_none (f i)

  -- a close goes out
  module _ (code : ℕ) where
    abbrev close : Action
    close = actions.Close code []

    one-sent : with_actions (sent ++ close ∷ []) log ≡ Sent close ∷ sending
    one-sent = actions-append sent (close ∷ []) log

    shut : (goes (state_by false) ≡ true) → ⊥
    shut g = true≢false (sym g)

    refines : Refines side (after_close d.work.transport code []) (Sent close ∷ sending) position (close ∷ uncollected)
    refines = subst (λ (b : Bool). Refines side (after_close d.work.transport code []) (with_actions (if b then close ∷ [] else []) sending) position (newest_first (if b then close ∷ [] else []) uncollected))
        (sym a.work.is_open_same ∙ open_) (close_refines side d.work.transport sending position uncollected a.work.transport code [])

    pub loud : Amid side (record d { work = record d.work { transport = after_close d.work.transport code [] }; datagrams = [] }) log (state_by false) (sent ++ close ∷ []) position (close ∷ uncollected)
    loud = record {
      work = work-then false (after_close d.work.transport code []) (close ∷ [])
          (subst (λ (g : Log). Refines side (after_close d.work.transport code []) g position (close ∷ uncollected)) (sym one-sent) refines)
          (ap is_open (sym one-sent))
          (subst (λ (g : Log). Sends side s log g) (sym one-sent) (record { arriving = a.work.sends.arriving; waiting = a.work.sends.waiting; members = a.work.sends.members; living = a.work.sends.living; own = a.work.sends.own }))
          (λ g. absurd (shut g));
      kinds = a.kinds;
      few = a.few;
      own = subst (λ (g : Log). OwnFollows side d.own_control (control_sent side g)) (sym one-sent) (record { stream = a.own.stream; sent_same = a.own.sent_same; within = a.own.within });
      allowed = subst (λ (g : Log). (control_sent side g).opened ≡ true → nat_lt 0 (unis_allowed (events_of log)) ≡ true) (sym one-sent) a.allowed;
      unis = λ g. absurd (shut g);
      bis = λ g. absurd (shut g);
      datagrams = λ g. absurd (shut g);
      response = a.response;
    }

  close-if : (o : Option ErrorCode) → s.progress.fault ≡ o → Amid side (close_by o) log (state_by (is_none o)) (sent ++ close_actions o) position (newest_first (close_actions o) uncollected)
  close-if None f = subst (λ (b : Bool). Amid side (without_datagrams b (with_work (λ w. record w { transport = w.transport }) d)) log (state_by true) (sent ++ []) position uncollected)
      (sym (refined_open side d.work.transport sending position uncollected a.work.transport ∙ (sym a.work.is_open_same ∙ open_))) (quiet f)
  close-if (Some code) f = subst (λ (b : Bool). Amid side (without_datagrams b (with_work (λ w. record w { transport = after_close d.work.transport (code_of code) [] }) d)) log (state_by false) (sent ++ close (code_of code) ∷ []) position (close (code_of code) ∷ uncollected))
      (sym (refined_open side (after_close d.work.transport (code_of code) []) (Sent (close (code_of code)) ∷ sending) position (close (code_of code) ∷ uncollected) (refines (code_of code)))) (loud (code_of code))

  pub close_follows : Amid side (close_step d) log closed_state (sent ++ close_actions s.progress.fault) position (newest_first (close_actions s.progress.fault) uncollected)
  unfolding close_step
  close_follows = subst (λ (o : Option ErrorCode). Amid side (close_by o) log closed_state (sent ++ close_actions s.progress.fault) position (newest_first (close_actions s.progress.fault) uncollected))
      (sym a.work.keeps.fault) (close-if s.progress.fault refl)
