use Rattle.std.proofs.Common.{◌≡◌, ◌++◌, List, ap, arith, drop, length, subst, sym, take, ◌∙◌}
use Rattle.wt_core.specs.CoreState.{CoreState}
use Rattle.wt_endpoint.proofs.Closing.{close_refines, closings_given, take-whole}
use Rattle.wt_endpoint.proofs.connections.Connections.close.Goals as goal
use Rattle.wt_endpoint.specs.Connections.{AllKeep, ConnectionsState}
use Rattle.wt_endpoint.specs.Endpoints.{closing}

pub returns-clause-answer : goal.returns-clause-answer
returns-clause-answer c = λ e r.
    let old = c.self.inside.cores in
    let cores_are : old.items ≡ c.args.self.now.cores = ap (λ (x : ConnectionsState). x.cores) c.self.view_is in
    let keeps : AllKeep c.args.side c.as_mut_slice.result.now e.histories = subst (λ (cs : List CoreState). AllKeep c.args.side cs e.histories) (sym (c.as_mut_slice.ensures.value ∙ cores_are)) r.each in
    let turn_is = ap (closing c.args.code) c.in_ok-reason.ensures in
    closings_given c.args.side e c.args.code c.args.reason.now (closing c.args.code c.in_ok-reason.reason) c.close_all.result turn_is
    (c.close_all.ensures.answer c.args.side e.histories c.args.code c.args.reason.now turn_is keeps)

pub returns-clause-history : goal.returns-clause-history
returns-clause-history c = λ e r.
    let old = c.self.inside.cores in
    let cores_are : old.items ≡ c.args.self.now.cores = ap (λ (x : ConnectionsState). x.cores) c.self.view_is in
    let keeps : AllKeep c.args.side c.as_mut_slice.result.now e.histories = subst (λ (cs : List CoreState). AllKeep c.args.side cs e.histories) (sym (c.as_mut_slice.ensures.value ∙ cores_are)) r.each in
    let same_length : length c.close_all.new.cores ≡ old.len = omega (arith, c.close_all.auto.cores, ap length c.as_mut_slice.ensures.value, old.ok.0) in
    let whole : take old.len (c.close_all.new.cores ++ drop (length c.close_all.new.cores) old.items) ≡ c.close_all.new.cores =
    take-whole old.len c.close_all.new.cores (drop (length c.close_all.new.cores) old.items) same_length in
    close_refines c.args.side c.args.self.now e c.args.code c.args.reason.now (closing c.args.code c.in_ok-reason.reason) c.self.inside.accepted _ c.close_all.new.cores c.close_all.result (ap (closing c.args.code) c.in_ok-reason.ensures)
    (ap (λ (x : ConnectionsState). x.accepted) c.self.view_is) r whole (c.close_all.ensures.history c.args.side e.histories c.args.code c.args.reason.now (ap (closing c.args.code) c.in_ok-reason.ensures) keeps)
