-- Calls that change the transport alone: the application asks for a connection, and what goes out is collected.
use Rattle.std.proofs.Common.{◌∷◌, List, [], refl, ℕ}
use Rattle.wt_follows.proofs.SentFollows.{Harmless, sent-follows}
use Rattle.wt_follows.specs.Tie.{Follows}
use Rattle.wt_kept.specs.Kept.{DriverNow}
use Rattle.wt_kept.specs.Moment.{with_work}
use Rattle.wt_transport.proofs.Refining.{collected_refines, dial_refines}
use Rattle.wt_transport.specs.Step.{after_dial}
use Rattle.wt_turn.specs.Joined.{newest_first}
use Rattle.wt_sessions.specs.DriverState.{DriverState, state_of}
use Rattle.wt_sessions.specs.Moment.{Fits}
use Rattle.wt_turn.specs.Log.{Log, with_actions}
use Rattle.wt_turn.specs.declared.action.Action.{Action}
use Rattle.wt_turn.specs.declared.action.Action.TheVariants as actions
use Rattle.wt_wire.specs.declared.addr.Addr.{Addr}
use Rattle.wt_wire.specs.declared.side.Side.{Side}

module _ (side : Side) (d : DriverNow) (log : Log) (uncollected : List Action) (f : Follows side d log uncollected) where
  abbrev s : DriverState
  s = state_of side log

  -- ---- a connection is asked for

  module _ (fits : Fits side log) (address : Addr) (name : List ℕ) where
    dial-harms : Harmless side log (actions.Dial address name ∷ [])
    dial-harms = let w = f.amid.work in record {
      there = λ k e. e;
      peers = (refl, refl);
      kinds = w.there.kinds;
      control = refl;
      living = w.sends.living;
      unfinished = w.sends.own.0;
      unreset = w.sends.own.1;
    }

    pub dial-follows : Follows side (with_work (λ w. record w { transport = after_dial w.transport address name }) d) (with_actions (actions.Dial address name ∷ []) log) (newest_first (actions.Dial address name ∷ []) uncollected)
    dial-follows = sent-follows side d log uncollected f fits (actions.Dial address name ∷ []) dial-harms (after_dial d.work.transport address name) (dial_refines side d.work.transport log f.position uncollected f.amid.work.transport address name)

  -- ---- what went out is collected

  pub collected-follows : Follows side (with_work (λ w. record w { transport = record w.transport { actions = [] } }) d) log []
  collected-follows = record {
    position = f.position;
    amid = let a = f.amid in record {
      work = let w = a.work in record {
        transport = collected_refines side d.work.transport log f.position uncollected w.transport;
        is_open_same = w.is_open_same;
        keeps = w.keeps;
        roles = w.roles;
        placed = w.placed;
        there = w.there;
        sends = w.sends;
        control = w.control;
        sessions = w.sessions;
      };
      kinds = a.kinds;
      few = a.few;
      own = a.own;
      allowed = a.allowed;
      unis = λ g. let x = a.unis g in record { ordered = x.ordered; few = x.few; same_ids = x.same_ids; read = x.read };
      bis = λ g. let x = a.bis g in record { ordered = x.ordered; few = x.few; same_ids = x.same_ids; read = x.read };
      datagrams = a.datagrams;
      response = a.response;
    };
    rests = λ e. let r = f.rests e in record { finds = r.finds; unis = r.unis; bis = r.bis; control = r.control; sessions = r.sessions; unready = r.unready; first_unis = r.first_unis; first_bis = r.first_bis };
  }
