-- How far a client's connect is, as a value.
use Rattle.wt_message.specs.FixedBytes.{headers_frame_bytes}
use Rattle.wt_session.specs.Handshakes.{Asking, Connect, Dialled, Reserved}
use Rattle.wt_session.specs.declared.stage.Stage.{Stage}
use Rattle.wt_session.specs.declared.stage.Stage.TheVariants as stages

-- how far the connect is
abbrev pub connect_as : Stage → Connect
connect_as (stages.Dialled request) = Dialled (headers_frame_bytes request)
connect_as (stages.Reserved name) = Reserved name
connect_as (stages.Asking a) = Asking a.id a.head a.left a.is_sent
