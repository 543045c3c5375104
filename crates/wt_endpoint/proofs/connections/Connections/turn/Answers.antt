use Rattle.std.proofs.Common.{◌≡◌, ◌<◌, ◌≤◌, List, ap, arith, length, subst, sym}
use Rattle.std.specs.Prelude.{IfOk, IsTrue}
use Rattle.wt_endpoint.proofs.Keeping.{begin_refines, next_history, next_is, next_lawful, turn_answer, turn_refines}
use Rattle.wt_endpoint.proofs.connections.Connections.turn.Goals as goal
use Rattle.wt_endpoint.specs.Connections.{ConnectionsState, Refines, may_take}
use Rattle.wt_meaning.specs.History.{History}
use Rattle.wt_meaning.specs.Meaning.{answer_to}
use Rattle.wt_core.specs.CoreState.{CoreState}

pub returns-then-index-len-clause-answer : goal.returns-then-index-len-clause-answer
returns-then-index-len-clause-answer c = λ e r.
    let k : ConnectionsState = record { cores = c.self.inside.cores.items; accepted = c.self.inside.accepted; closed = c.self.inside.closed } in
    let within : c.args.number < length c.self.inside.cores.items = omega (arith, c.len.ensures, c.if-index-len.true, c.self.inside.cores.ok.0) in
    turn_answer c.args.side k e c.args.number c.args.turn.now c.index_mut-core.result.now _ (subst (λ (x : ConnectionsState). Refines c.args.side x e) (sym c.self.view_is) r) within c.index_mut-core.ensures.value
    (subst (λ (x : ConnectionsState). IsTrue (may_take c.args.side x c.args.number c.args.turn.now)) (sym c.self.view_is) c.requires) c.turn.ensures.answer

pub returns-then-index-len-clause-history : goal.returns-then-index-len-clause-history
returns-then-index-len-clause-history c = λ e r.
    let k : ConnectionsState = record { cores = c.self.inside.cores.items; accepted = c.self.inside.accepted; closed = c.self.inside.closed } in
    let within : c.args.number < length c.self.inside.cores.items = omega (arith, c.len.ensures, c.if-index-len.true, c.self.inside.cores.ok.0) in
    turn_refines c.args.side k e c.args.number c.args.turn.now c.index_mut-core.result.now c.turn.new.self _ (subst (λ (x : ConnectionsState). Refines c.args.side x e) (sym c.self.view_is) r) within c.index_mut-core.ensures.value
    (subst (λ (x : ConnectionsState). IsTrue (may_take c.args.side x c.args.number c.args.turn.now)) (sym c.self.view_is) c.requires) c.turn.ensures.history

pub begin-requires-clause-lawful : goal.begin-requires-clause-lawful
begin-requires-clause-lawful c =
    let cores_are : c.self.inside.cores.items ≡ c.args.self.now.cores = ap (λ (x : ConnectionsState). x.cores) c.self.view_is in
    let past : length c.self.inside.cores.items ≤ c.args.number = omega (arith, c.len.ensures, c.if-index-len.false, c.self.inside.cores.ok.0) in
    next_lawful c.args.side c.args.self.now c.args.number c.args.turn.now c.requires (subst (λ (cs : List CoreState). length cs ≤ c.args.number) cores_are past)

pub returns-clause-answer : goal.returns-clause-answer
returns-clause-answer c = λ e r.
    let cores_are : c.self.inside.cores.items ≡ c.args.self.now.cores = ap (λ (x : ConnectionsState). x.cores) c.self.view_is in
    let past : length c.self.inside.cores.items ≤ c.args.number = omega (arith, c.len.ensures, c.if-index-len.false, c.self.inside.cores.ok.0) in
    subst (λ (h : History). IfOk c.begin.result (λ a. a ≡ answer_to c.args.side h c.args.turn.now))
    (sym (next_history c.args.side c.args.self.now e c.args.number r (subst (λ (cs : List CoreState). length cs ≤ c.args.number) cores_are past))) c.begin.ensures.answer

pub returns-clause-history : goal.returns-clause-history
returns-clause-history c = λ e r.
    let cores_are : c.self.inside.cores.items ≡ c.args.self.now.cores = ap (λ (x : ConnectionsState). x.cores) c.self.view_is in
    let past : length c.self.inside.cores.items ≤ c.args.number = omega (arith, c.len.ensures, c.if-index-len.false, c.self.inside.cores.ok.0) in
    let here = subst (λ (cs : List CoreState). length cs ≤ c.args.number) cores_are past in
    begin_refines c.args.side c.args.self.now c.begin.new.self e c.args.number c.args.turn.now _ r here (next_is c.args.side c.args.self.now c.args.number c.args.turn.now c.requires here)
    c.begin.ensures.history c.begin.ensures.same
