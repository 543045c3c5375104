use Rattle.std.proofs.Common.{◌∙◌, ap}
use Rattle.wt_kept.specs.Ending.{waiting_ids}
use Rattle.wt_kept.specs.Kept.{WindowNow}
use Rattle.wt_peer_streams.proofs.EndLaws.{ended-live, ended-other, left-of-live, left-of-other, on-any}
use Rattle.wt_peer_streams.proofs.SessionsLaws.{asked, if-ok}
use Rattle.wt_peer_streams.specs.Gone.{end_now}
use Rattle.wt_peer_streams.specs.contracts.sessions.Sessions.{the_view}
use Rattle.wt_peer_streams.proofs.sessions.Sessions.end.Goals as goal

pub returns-in_ok-into_streams-in-Some-clause-remains : goal.returns-in_ok-into_streams-in-Some-clause-remains
returns-in_ok-into_streams-in-Some-clause-remains c =
    if-ok c.of.result
    (λ r e. e ∙ left-of-live c.args.session (the_view c.self.inside) c.args.self.now c.self.view_is c.in-Some.index c.remove.result (asked (the_view c.self.inside) c.in-Some.ensures c.session_stream.ensures.stream) c.remove.ensures.value
    c.in_ok-into_streams-in-Some.field-0.items c.into_parts-window.result.1 (c.in_ok-into_streams-in-Some.ensures ∙ ap (λ (w : WindowNow). waiting_ids w.streams) c.into_parts-window.ensures.window) c.into_parts-window.ensures.members) c.of.ensures

pub returns-in_ok-into_streams-in-Some-clause-sessions : goal.returns-in_ok-into_streams-in-Some-clause-sessions
returns-in_ok-into_streams-in-Some-clause-sessions c =
    on-any c.of.result
    (ended-live c.args.session (the_view c.self.inside) c.args.self.now c.self.view_is c.in-Some.index c.remove.result (asked (the_view c.self.inside) c.in-Some.ensures c.session_stream.ensures.stream) c.remove.ensures.value
    (end_now c.args.end) c.remove.new.self.items c.add.new.self c.remove.ensures.items c.in_ok-add.ensures)

pub returns-in_ok-into_streams-in-None-clause-remains : goal.returns-in_ok-into_streams-in-None-clause-remains
returns-in_ok-into_streams-in-None-clause-remains c =
    if-ok c.of-in-None.result
    (λ r e. e ∙ left-of-other c.args.session (the_view c.self.inside) c.args.self.now c.self.view_is (asked (the_view c.self.inside) c.in-None.ensures c.session_stream.ensures.stream)
    c.in_ok-part-in-None.part c.in_ok-into_streams-in-None.field-0.items c.new.result c.in_ok-part-in-None.ensures.part c.in_ok-into_streams-in-None.ensures c.new.ensures) c.of-in-None.ensures

pub returns-in_ok-into_streams-in-None-clause-sessions : goal.returns-in_ok-into_streams-in-None-clause-sessions
returns-in_ok-into_streams-in-None-clause-sessions c =
    on-any c.of-in-None.result
    (ended-other c.args.session (the_view c.self.inside) c.args.self.now c.self.view_is (asked (the_view c.self.inside) c.in-None.ensures c.session_stream.ensures.stream)
    (end_now c.args.end) c.part_of.new.self c.add.new.self c.in_ok-part-in-None.ensures.rest c.in_ok-add.ensures)
