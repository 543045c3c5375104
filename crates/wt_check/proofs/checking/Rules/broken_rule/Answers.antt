use Rattle.std.proofs.Common.{arith, rules, ◌≡◌, ap, true}
use Rattle.wt_turn.specs.declared.answer.Answer.{Answer}
use Rattle.wt_check.proofs.FactLaws.{same_facts}
use Rattle.wt_check.proofs.checking.Rules.broken_rule.Goals as goal

pub returns-clause-kept : goal.returns-clause-kept
returns-clause-kept c = λ side h p of_turn of_answer follow none.
    let say = same_facts side h c.args.self.now.facts c.take_turn.new.self c.take_turn.ensures follow.facts in
    let stands : c.in_ok-holds-4.field-0 ≡ true = search rules in
    record {
      facts = c.take_answer.ensures side h p of_turn of_answer say;
      datagrams = c.in_ok-holds-4.ensures.kept side h p of_turn (ap (λ (a : Answer). a.reply) of_answer) say follow.datagrams stands;
    }
