-- How a session became gone, as it is kept.
use Rattle.wt_kept.specs.Kept as kept
use Rattle.wt_peer_streams.specs.declared.gone.SessionEnd.{SessionEnd}
use Rattle.wt_peer_streams.specs.declared.gone.SessionEnd.TheVariants as ends

-- the same as data
abbrev pub end_now : SessionEnd → kept.SessionEndNow
end_now ends.Refused = kept.Refused
end_now ends.Ended = kept.Ended
end_now (ends.Closed close) = kept.Closed close.code close.reason
