use Rattle.std.proofs.Common.{◌≡◌, ◌∷◌, [], ℕ, List, refl, subst, sym, take}
use Rattle.std.specs.Prelude.{None, Option}
use Rattle.wt_check.specs.Datagrams.{receives_rightly}
use Rattle.wt_check.specs.Exact.{so_far}
use Rattle.wt_check.specs.Keeps.{RulesFollow, TellsOf}
use Rattle.wt_check.specs.Records.{pairs_of}
use Rattle.wt_meaning.specs.History.{History}
use Rattle.wt_check.proofs.CheckLaws.{holds_next, judged_broken, pair_of, so_far_next}
use Rattle.wt_check.proofs.checking.check.Goals as goal

pub returns-in-Some : goal.returns-in-Some
returns-in-Some c =
    let h : History = so_far (pairs_of (take c.loop-index.index c.args.pairs.now)) [] in
    let x = c.index-pairs-index.result in
    judged_broken c.args.side c.args.pairs.now c.loop-index.index c.in-Some.rule x c.loop-index-test.true c.index-pairs-index.is c.loop-index.invariant.kept
    (subst (λ (broken : Option ℕ). TellsOf 5 (receives_rightly c.args.side h (pair_of x)) broken) c.in-Some.is
    (c.in_ok-broken.ensures.datagrams c.args.side h (pair_of x) refl refl c.loop-index.invariant.follow))

pub loop-index-preserved : goal.loop-index-preserved
loop-index-preserved c =
    let h : History = so_far (pairs_of (take c.loop-index.index c.args.pairs.now)) [] in
    let x = c.index-pairs-index.result in
    let none : c.in_ok-broken.broken ≡ None = c.in-None.is in
    record {
      follow = subst (λ (after : History). RulesFollow c.args.side c.broken_rule.new.self after)
          (sym (so_far_next c.args.pairs.now c.loop-index.index x c.loop-index-test.true c.index-pairs-index.is))
          (c.in_ok-broken.ensures.kept c.args.side h (pair_of x) refl refl c.loop-index.invariant.follow none);
      kept = holds_next receives_rightly c.args.side c.args.pairs.now c.loop-index.index x c.loop-index-test.true c.index-pairs-index.is c.loop-index.invariant.kept
          ((c.in_ok-broken.ensures.datagrams c.args.side h (pair_of x) refl refl c.loop-index.invariant.follow).kept none);
    }
