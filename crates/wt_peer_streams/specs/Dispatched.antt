-- Where streams, requests and datagrams went, step by step.
use Rattle.std.specs.Prelude.{[], None, Option, ℕ}
use Rattle.wt_kept.specs.Calling.{RequestTaken, take_request_now}
use Rattle.wt_kept.specs.Kept.{DispatchedNow}
use Rattle.wt_kept.specs.Windows.{empty_window}
use Rattle.wt_wire.specs.HeaderList.{Fields}

-- nothing came
abbrev pub nothing_dispatched : DispatchedNow
nothing_dispatched = record {
  critical = record { control = None; encoder = None; decoder = None };
  requests = record { queued = []; held = [] };
  sessions = record { living = []; gone = []; early = empty_window };
  fault = None;
}

-- the next request is taken
pub record RequestGiven : Type 0 where
  pub request : Option (ℕ × Fields)
  pub dispatched : DispatchedNow

abbrev pub request_given_so : RequestTaken → DispatchedNow → RequestGiven
request_given_so x d = record { request = x.request; dispatched = record d { requests = x.requests } }

abbrev pub request_taken : DispatchedNow → RequestGiven
request_taken d = request_given_so (take_request_now d.requests) d
