use Rattle.std.proofs.Common.{◌∙◌, sym}
use Rattle.wt_kept.specs.Windows.{with_stream}
use Rattle.wt_peer_streams.proofs.SessionsLaws.{admits-in, asked, early-by, gone-at, if-ok}
use Rattle.wt_peer_streams.specs.Admitting.{admission_now}
use Rattle.wt_peer_streams.specs.contracts.live.LiveSession as live
use Rattle.wt_peer_streams.specs.contracts.sessions.Sessions.{the_view}
use Rattle.wt_peer_streams.specs.declared.window.Admission.{Admission}
use Rattle.wt_peer_streams.proofs.sessions.Sessions.admit_stream.Goals as goal

pub returns-in-Some : goal.returns-in-Some
returns-in-Some c =
    if-ok c.admit_stream.result
    (λ (a : Admission) e. admits-in c.args.session (the_view c.self.inside) c.args.self.now c.in-Some.index c.index_mut-live.result.now c.self.view_is (asked c.args.self.now c.in-Some.ensures c.session_stream.ensures.stream) c.index_mut-live.ensures.value
    (live.the_view c.live.inside) c.live.view_is (with_stream (record { id = c.args.id; session = c.args.session })) (record { admission = admission_now a; window = c.admit_stream.new.self }) e) c.admit_stream.ensures

pub returns-in-None : goal.returns-in-None
returns-in-None c =
    gone-at (with_stream (record { id = c.args.id; session = c.args.session })) c.args.session c.args.self.now (asked c.args.self.now c.in-None.ensures c.session_stream.ensures.stream) (sym c.is_gone.ensures ∙ c.if-is_gone.true)

pub returns-in-None-2 : goal.returns-in-None-2
returns-in-None-2 c =
    if-ok c.admit_stream-in-None-2.result
    (λ (a : Admission) e. early-by (with_stream (record { id = c.args.id; session = c.args.session })) c.args.session (the_view c.self.inside) c.args.self.now c.self.view_is
    (asked c.args.self.now c.in-None-2.ensures c.session_stream.ensures.stream) (sym c.is_gone.ensures ∙ c.if-is_gone.false) (record { admission = admission_now a; window = c.admit_stream-in-None-2.new.self }) e)
    c.admit_stream-in-None-2.ensures
