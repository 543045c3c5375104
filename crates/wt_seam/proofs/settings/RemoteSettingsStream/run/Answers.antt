use Rattle.wt_seam.proofs.Runs.{control-goes-on, control-now, control-reading, control-reported}
use Rattle.wt_seam.proofs.settings.RemoteSettingsStream.run.Goals as goal

pub returns-clause-answer : goal.returns-clause-answer
returns-clause-answer c =
    control-reported c.args.self.now c.self.inside.stream c.in-Some.stream c.self.inside.reader c.args.t.now c.self.view_is c.in-Some.is
    c.id_of-id.result c.id_of-id.ensures.id c.is_open-is_open.result c.is_open-is_open.ensures.now
    c.in_ok-shown.shown c.in_ok-shown.ensures.shown c.shown_or_ended.result c.shown_or_ended.ensures

pub returns-clause-read : goal.returns-clause-read
returns-clause-read c =
    control-goes-on c.args.self.now c.self.inside.stream c.in-Some.stream c.self.inside.reader c.args.t.now c.self.view_is c.in-Some.is
    c.id_of-id.result c.id_of-id.ensures.id c.read_control.new.reader c.in_ok-shown.ensures.reading

pub returns-clause-now : goal.returns-clause-now
returns-clause-now c =
    control-now c.args.self.now c.self.inside.stream c.in-Some.stream c.self.inside.reader c.args.t.now c.self.view_is c.in-Some.is
    c.id_of-id.result c.id_of-id.ensures.id c.is_open-is_open.result c.is_open-is_open.ensures.now
    c.in_ok-shown.shown c.in_ok-shown.ensures.shown c.shown_or_ended.result c.shown_or_ended.ensures

pub returns-clause-reading : goal.returns-clause-reading
returns-clause-reading c =
    control-reading c.args.self.now c.self.inside.stream c.in-Some.stream c.self.inside.reader c.args.t.now c.self.view_is c.in-Some.is
    c.id_of-id.result c.id_of-id.ensures.id c.read_control.new.reader c.in_ok-shown.ensures.reading
