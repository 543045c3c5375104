-- What a loan of the state behind a handle leaves.
use base.Fml.{Fml}
use denote.Ref.{MutBor}
use denote.Follow.{follows}
use Rattle.wt_handle.specs.declared.Handle.{Handle}
use Rattle.wt_handle.specs.declared.State.{State}
use Rattle.wt_handle.specs.contracts.Handle.{the_row as handle-row}
use Rattle.wt_handle.specs.contracts.State.{the_row as state-row}

-- h with another state
abbrev pub with_value : Handle → State → Handle
with_value h w = record { at = h.at; value = w }

-- once the loan r ends, the `Handle` behind p has the last state written through r
abbrev pub handle_follows : MutBor Handle → MutBor State → Fml
handle_follows p r = follows handle-row state-row p.ghost_name r.ghost_name (with_value p.now)
