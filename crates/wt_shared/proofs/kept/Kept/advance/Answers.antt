use Rattle.std.proofs.Common.{◌≡◌, ◌+◌, ◌<◌, ◌≤◌, ◌∷◌, ◌++◌, ◌^◌, [], ap, arith, false, length, length-append, rules, subst, sym, true, ◌∙◌}
use Rattle.std.proofs.lemmas.List.Sums.{count_by-le-length}
use Rattle.wt_meaning.specs.Lawful.{is_lawful}
use Rattle.wt_shared.proofs.HistoryLaws.{one_most, replays_step}
use Rattle.wt_shared.proofs.kept.Kept.advance.Goals as goal
use Rattle.wt_shared.specs.History.{Pairs, is_change, past_of}
use Rattle.wt_shared.specs.Stored.{Stored, may_come, told_at}
use Rattle.wt_turn.specs.declared.answer.Answer.{Answer}

-- the answer is the one after the stored history, which the core keeps
pub returns-in-Ok-clause-told : goal.returns-in-Ok-clause-told
returns-in-Ok-clause-told c =
    let works : c.self.inside.failed ≡ false = ap (λ (s : Stored). s.failed) c.self.view_is ∙ c.requires.working in
    let lawful : is_lawful c.self.inside.side (past_of c.self.inside.side c.self.inside.history) c.args.turn.now ≡ true =
    subst (λ (s : Stored). may_come s c.args.turn.now ≡ true) (sym c.self.view_is) c.requires.lawful in
    let same = c.in-Ok.ensures.answer _ _ (c.self.invariant.keeps works) lawful in
    rw (← c.self.view_is) (c.in-Ok.ensures.told ∙ ap (told_at (length c.self.inside.history) c.args.turn.now) same)

pub returns-in-Ok-clause-stored : goal.returns-in-Ok-clause-stored
returns-in-Ok-clause-stored c =
    let works : c.self.inside.failed ≡ false = ap (λ (s : Stored). s.failed) c.self.view_is ∙ c.requires.working in
    let lawful : is_lawful c.self.inside.side (past_of c.self.inside.side c.self.inside.history) c.args.turn.now ≡ true =
    subst (λ (s : Stored). may_come s c.args.turn.now ≡ true) (sym c.self.view_is) c.requires.lawful in
    let same = c.in-Ok.ensures.answer _ _ (c.self.invariant.keeps works) lawful in
    let now = c.in-Ok.ensures.stored ∙ ap (λ (a : Answer). c.self.inside.history ++ (c.args.turn.now, a) ∷ []) same in
    rw (← c.self.view_is) (ap (λ (h : Pairs). record { side = c.self.inside.side; history = h; failed = c.self.inside.failed }) now)

-- there are no more changes than turns
pub overflow_add-self : goal.overflow_add-self
overflow_add-self c =
    let longer : length c.advance.new.history ≡ length c.self.inside.history + 1 = ap length c.in-Ok.ensures.stored ∙ length-append c.self.inside.history _ in
    let most : c.changes_by.result ≤ 1 = rw c.changes_by.ensures (one_most _) in
    let few = count_by-le-length is_change c.self.inside.history in
    let room : length c.advance.new.history < 2 ^ 64 = c.in-Ok.ensures.room in
    let total : c.self.inside.changes + c.changes_by.result < 2 ^ 64 = omega (arith, c.self.invariant.counted, few, room, longer, most) in
    search rules

pub invariant_of-self : goal.invariant_of-self
invariant_of-self c =
    let works : c.self.inside.failed ≡ false = ap (λ (s : Stored). s.failed) c.self.view_is ∙ c.requires.working in
    let keeps = c.self.invariant.keeps works in
    let lawful : is_lawful c.self.inside.side (past_of c.self.inside.side c.self.inside.history) c.args.turn.now ≡ true =
    subst (λ (s : Stored). may_come s c.args.turn.now ≡ true) (sym c.self.view_is) c.requires.lawful in
    replays_step _ _ _ _ _ _ _ c.args.turn.now c.in-Ok.told.answer c.self.invariant.replays c.self.invariant.counted lawful c.in-Ok.ensures.stored
    (c.in-Ok.ensures.answer _ _ keeps lawful) c.changes_by.ensures (c.in-Ok.ensures.core _ _ keeps lawful)
