use Rattle.std.proofs.Common.{◌≡◌, ◌++◌, ◌∷◌, [], List, refl, subst, ℕ}
use Rattle.std.specs.Prelude.{Ok}
use Rattle.wt_endpoint.proofs.Standing.{connect_apart, connect_may, pair_is, taken_stands, turn_may}
use Rattle.wt_endpoint.proofs.endpoint.Endpoint+Client.connect.Goals as goal
use Rattle.wt_endpoint.specs.Connections.{StandsFor}
use Rattle.wt_endpoint.specs.declared.turn.EndpointTurn.TheVariants as events
use Rattle.wt_meaning.specs.Meaning.{answer_to}
use Rattle.wt_turn.specs.declared.call.Call.TheVariants as calls
use Rattle.wt_turn.specs.declared.turn.Turn.TheVariants as turns
use Rattle.wt_wire.specs.declared.side.Side.TheVariants.{Client}

pub turn-requires : goal.turn-requires
turn-requires c = connect_may c.self.inside.connections c.count-number.result c.into_parts-options.result c.args.lookup c.args.outcome c.count-number.ensures.count (rw (← c.self.view_is) at c.requires)

pub returns-clause-apart : goal.returns-clause-apart
returns-clause-apart c = λ all s.
    let options_are = pair_is c.into_parts-options.result _ _ c.into_parts-options.ensures.url c.into_parts-options.ensures.headers in
    subst (λ (o : List ℕ × List (List ℕ × List ℕ)). c.in_ok-answer.answer ≡ answer_to Client [] (turns.Call (calls.Connect o c.args.lookup c.args.outcome))) options_are
    (connect_apart c.self.inside.connections all c.count-number.result (turns.Call (calls.Connect c.into_parts-options.result c.args.lookup c.args.outcome)) (Ok c.in_ok-answer.answer) c.count-number.ensures.count (rw (← c.self.view_is) at s) c.in_ok-answer.ensures.answer)

pub returns-clause-turns : goal.returns-clause-turns
returns-clause-turns c = λ all s.
    let n = c.count-number.result in
    let options_are = pair_is c.into_parts-options.result _ _ c.into_parts-options.ensures.url c.into_parts-options.ensures.headers in
    let may = connect_may c.self.inside.connections n c.into_parts-options.result c.args.lookup c.args.outcome c.count-number.ensures.count (rw (← c.self.view_is) at c.requires) in
    subst (λ (o : List ℕ × List (List ℕ × List ℕ)). StandsFor Client c.turn.new.self (all ++ events.Connection n (turns.Call (calls.Connect o c.args.lookup c.args.outcome)) ∷ [])) options_are
    (taken_stands Client Client c.self.inside.connections c.turn.new.self all (events.Connection n (turns.Call (calls.Connect c.into_parts-options.result c.args.lookup c.args.outcome))) (Ok c.in_ok-answer.answer) refl (rw (← c.self.view_is) at s)
    (turn_may Client c.self.inside.connections all n (turns.Call (calls.Connect c.into_parts-options.result c.args.lookup c.args.outcome)) (rw (← c.self.view_is) at s) may) c.in_ok-answer.ensures.history)
