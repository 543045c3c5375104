use Rattle.wt_seam.proofs.Runs.{session-goes-on, session-now, session-reading, session-reported}
use Rattle.wt_seam.proofs.connect.ConnectStream.run.Goals as goal

pub returns-clause-answer : goal.returns-clause-answer
returns-clause-answer c =
    session-reported c.args.self.now c.self.inside.stream c.in-Some.stream c.self.inside.reader c.args.t.now c.self.view_is c.in-Some.is
    c.id-id.result c.id-id.ensures c.is_open-is_open.result c.is_open-is_open.ensures.now
    c.in_ok-shown.shown c.in_ok-shown.ensures.shown c.shown_or_ended.result c.shown_or_ended.ensures

pub returns-clause-read : goal.returns-clause-read
returns-clause-read c =
    session-goes-on c.args.self.now c.self.inside.stream c.in-Some.stream c.self.inside.reader c.args.t.now c.self.view_is c.in-Some.is
    c.id-id.result c.id-id.ensures c.read_session.new.reader c.in_ok-shown.ensures.reading

pub returns-clause-now : goal.returns-clause-now
returns-clause-now c =
    session-now c.args.self.now c.self.inside.stream c.in-Some.stream c.self.inside.reader c.args.t.now c.self.view_is c.in-Some.is
    c.id-id.result c.id-id.ensures c.is_open-is_open.result c.is_open-is_open.ensures.now
    c.in_ok-shown.shown c.in_ok-shown.ensures.shown c.shown_or_ended.result c.shown_or_ended.ensures

pub returns-clause-reading : goal.returns-clause-reading
returns-clause-reading c =
    session-reading c.args.self.now c.self.inside.stream c.in-Some.stream c.self.inside.reader c.args.t.now c.self.view_is c.in-Some.is
    c.id-id.result c.id-id.ensures c.read_session.new.reader c.in_ok-shown.ensures.reading
