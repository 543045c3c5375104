-- At first the empty history stands for the empty log.
use Rattle.std.specs.Prelude.{[], ℕ}
use Rattle.std.proofs.Common.{arith, refl}
use Rattle.wt_meaning.specs.Moments.{findings}
use Rattle.wt_sessions.specs.Driver.{call_view, stream_table}
use Rattle.wt_sessions_agree.specs.Members.{MembersIn}
use Rattle.wt_sessions_agree.specs.Stands.{NotOpening, Stands}
use Rattle.wt_wire.specs.declared.side.Side.{Side}

pub stands-first : (side : Side) (offset : ℕ → ℕ) → Stands side offset [] []
unfolding findings stream_table
stands-first side offset = record {
  first = refl;
  came = record { events = refl; all_events = refl; openness = refl; contents = λ k. refl };
  out = record { sent = λ k. refl; finished = λ k. refl; reset = λ k. refl; opened = λ kind. refl; dialled = refl };
  table = record { classified = refl; datagrams = refl; closed = refl; looked_at = refl; settings = refl; fault = refl };
  calls = record { accepted = λ k. refl; ended = λ s. refl; established = λ s. refl };
  sessions = refl;
  named = refl;
  orderly = record {
    few = λ kind small i x y. absurd (cc x);
    none_early = λ e k. refl;
    received = record { left = λ s. refl; within = λ s. omega arith; early = refl; later = λ n le. refl };
    begin = λ k e. absurd (cc e);
    known = λ k e. absurd (cc e);
  };
  halves = record { given_up = λ k. refl; reset = λ k. refl; read = λ k. refl; priority = λ k e. refl };
  openings = λ k. NotOpening refl refl;
  unfailed = λ k e. refl;
  delivered = λ k. refl;
  request = refl;
  handshake = record { waiting = refl; requested = λ c. refl; awaits = λ c. refl; begun = tt };
}

-- and no session has a stream
pub members-first : (side : Side) → MembersIn side [] (call_view []) (findings side [])
unfolding findings
members-first side = record {
  same = λ s k. refl;
  ascends = λ s. tt;
  there = λ s k e. absurd (cc e);
}
