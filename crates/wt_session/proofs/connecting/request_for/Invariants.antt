use Rattle.std.proofs.Common.{◌≡◌, drop}
use Rattle.wt_meaning.specs.Targets.{reserved_name, with_fields}
use Rattle.wt_message.specs.Requests.{request_fields}
use Rattle.wt_session.proofs.connecting.request_for.Given as goal

-- the fields so far were put in, and none of their names is reserved
abbrev pub invariant-loop-index : goal.invariant-loop-index
invariant-loop-index l =
    (with_fields (request_fields l.target.authority l.target.path) l.headers ≡ with_fields l.request (drop l.index l.headers))
    × (reserved_name l.headers ≡ reserved_name (drop l.index l.headers))
