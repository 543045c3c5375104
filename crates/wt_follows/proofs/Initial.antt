-- A driver that begins follows the empty log, and rests.
use Rattle.std.proofs.Common.{◌≡◌, [], arith, false, refl, subst, sym, true}
use Rattle.wt_follows.specs.Pieces.{FindsNothing}
use Rattle.wt_follows.specs.Rests.{Resting}
use Rattle.wt_follows.specs.Roles.{Roles}
use Rattle.wt_follows.specs.Tie.{Amid, ArrivingFollows, Follows, Keeps, Placed, Sends, There, WorkAmid}
use Rattle.wt_kept.specs.Arriving.{none_arriving}
use Rattle.wt_kept.specs.Calling.{driver_at_first}
use Rattle.wt_kept.specs.Kept.{DriverNow}
use Rattle.wt_kept.specs.Readers.{bi_rules, uni_rules}
use Rattle.wt_transport.proofs.Refining.{new_refines}
use Rattle.wt_transport.specs.Step.{nothing_connected}
use Rattle.wt_turn.specs.Streams.{contents}
use Rattle.wt_turn.specs.Unread.{at_start}
use Rattle.wt_sessions.specs.Driver.{call_view, control_sent, stream_table, transport_view}
use Rattle.wt_sessions.specs.DriverState.{DriverState, state_by, state_of}
use Rattle.wt_sessions.specs.StreamTable.{no_streams}
use Rattle.wt_wire.specs.declared.side.Side.{Side}
use Rattle.wt_wire.specs.declared.side.Side.TheVariants.{Client, Server}

-- what is kept of the empty log
abbrev first_state : Side → DriverState
first_state side = state_by (transport_view side []) (call_view []) (control_sent side []) true no_streams

state-first : (side : Side) → state_of side [] ≡ first_state side
unfolding state_of stream_table
state-first side = refl

-- no stream of the peer's kinds came
unis-first : (side : Side) → ArrivingFollows uni_rules (nothing_connected side) (none_arriving false) [] (contents []) at_start
unis-first Client = record { ordered = omega arith; few = omega arith; same_ids = refl; read = tt }
unis-first Server = record { ordered = omega arith; few = omega arith; same_ids = refl; read = tt }

bis-first : (side : Side) → ArrivingFollows bi_rules (nothing_connected side) (none_arriving true) [] (contents []) at_start
bis-first Client = record { ordered = omega arith; few = omega arith; same_ids = refl; read = tt }
bis-first Server = record { ordered = omega arith; few = omega arith; same_ids = refl; read = tt }

module _ (side : Side) where
  abbrev d : DriverNow
  d = driver_at_first side

  abbrev s : DriverState
  s = first_state side

  keeps : Keeps d.work.dispatched s
  keeps = record {
    control = refl;
    encoder = refl;
    decoder = refl;
    settings = refl;
    queued = refl;
    held = refl;
    living = refl;
    windows = tt;
    early = record { streams = refl; datagrams = refl };
    gone = λ k e. refl;
    closed = λ k e. refl;
    established = λ k e. refl;
    alive = λ k e. absurd cc;
    named = λ k e. absurd cc;
    named_streams = λ k e. absurd cc;
    gone_named = λ k e. absurd cc;
    named_datagrams = λ k e. absurd cc;
    unjoined = λ k e. refl;
    fault = refl;
  }

  roles : Roles s
  roles = record {
    unis = tt;
    bis = tt;
    kinds = λ k e. absurd cc;
    arriving = λ k e. absurd cc;
    living = tt;
    living_alone = λ k e. absurd cc;
    requests_alone = λ k e. absurd cc;
    waiting = tt;
    waiting_alone = λ k e. absurd cc;
    waiting_unjoined = λ k session e. absurd cc;
    members_alone = λ k session e. absurd cc;
    members_once = λ k one other e f. absurd cc;
    members_distinct = λ session. tt;
    held = tt;
  }

  placed : Placed side s [] at_start
  placed = record { headers = λ k e. absurd cc; members = λ k session e. absurd cc; heads = λ k session e f. absurd cc; untouched = λ k e. absurd cc; arriving = λ k e. absurd cc; unopened = λ k e. (refl, (refl, refl)) }

  there : There side s []
  there = record {
    unis = λ k e. absurd cc;
    bis = λ k e. absurd cc;
    arriving = λ k e. absurd cc;
    waiting = λ k e. absurd cc;
    living = λ k e. absurd cc;
    held = λ k e. absurd cc;
    members = λ k session e. absurd cc;
    critical = λ k e. absurd cc;
    gone = λ k e. absurd cc;
    own = λ session. refl;
    kinds = (refl, refl);
    few = (omega arith, omega arith);
    peers = record { arriving = λ k e. absurd cc; critical = λ k e. absurd cc; held = λ k e. absurd cc; waiting = λ k e. absurd cc };
  }

  sends : Sends side s [] []
  sends = record { arriving = λ k e. refl; waiting = λ k e. refl; members = λ k session e f. refl; living = λ k e. absurd cc; own = (refl, refl) }

  work-first : WorkAmid side d.work [] s [] at_start []
  work-first = record {
    transport = new_refines side;
    is_open_same = refl;
    keeps = keeps;
    roles = roles;
    placed = placed;
    there = there;
    sends = sends;
    control = λ e. tt;
    sessions = λ e. tt;
  }

  amid-first : Amid side d [] s [] at_start []
  amid-first = record {
    work = work-first;
    kinds = (refl, refl);
    few = (omega arith, omega arith);
    own = record { stream = refl; sent_same = refl; within = omega arith };
    allowed = λ e. absurd cc;
    unis = λ e. unis-first side;
    bis = λ e. bis-first side;
    datagrams = λ e. refl;
    response = λ c n. refl;
  }

  finds : FindsNothing (transport_view side []) s s.progress.settings
  finds = record { unis = λ e. tt; bis = λ e. tt; datagrams = λ e. refl; sessions = tt; unstopped = refl; control = refl; encoder = tt; decoder = tt; going = refl; idle = refl }

  rests-first : Resting side d [] at_start
  rests-first = record {
    finds = subst (λ (z : DriverState). FindsNothing (transport_view side []) z z.progress.settings) (sym (state-first side)) finds;
    unis = tt;
    bis = tt;
    control = tt;
    sessions = tt;
    unready = λ e. (refl, refl);
    first_unis = λ e. absurd cc;
    first_bis = λ e. absurd cc;
  }

  -- a driver that begins follows the empty log
  pub first-follows : Follows side (driver_at_first side) [] []
  first-follows = record {
    position = at_start;
    amid = subst (λ (z : DriverState). Amid side d [] z [] at_start []) (sym (state-first side)) amid-first;
    rests = λ e. rests-first;
  }
