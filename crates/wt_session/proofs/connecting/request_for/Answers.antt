use Rattle.std.proofs.Common.{◌+◌, ap, drop, sym, ◌∙◌}
use Rattle.std.specs.Prelude.{Bool, Some, if◌then◌else◌}
use Rattle.wt_meaning.specs.Targets.{reserved_name, with_fields}
use Rattle.wt_session.proofs.RequestLaws.{first_is_free, first_is_reserved, from_here}
use Rattle.wt_wire.specs.HeaderList.{Fields, with_field}
use Rattle.wt_session.proofs.connecting.request_for.Goals as goal

pub returns-then-is_err : goal.returns-then-is_err
returns-then-is_err c =
    let taken = sym c.in_ok-insert.ensures.answer ∙ sym c.is_err.ensures.value ∙ c.if-is_err.true in
    c.loop-index.invariant.1
    ∙ ap reserved_name (from_here c.args.headers.now c.loop-index.index _ c.at.ensures)
    ∙ first_is_reserved (c.at.result.0.now, c.at.result.1.now) (drop (c.loop-index.index + 1) c.args.headers.now) taken
    ∙ ap Some (sym c.in_ok-from_text.ensures)

pub loop-index-preserved : goal.loop-index-preserved
loop-index-preserved c =
    let free = sym c.in_ok-insert.ensures.answer ∙ sym c.is_err.ensures.value ∙ c.if-is_err.false in
    let state = c.in_ok-insert.ensures.state ∙ ap (λ (b : Bool). if b then c.loop-index.request else with_field c.at.result.0.now c.at.result.1.now c.loop-index.request) free in (
      c.loop-index.invariant.0
          ∙ ap (λ (more : Fields). with_fields c.loop-index.request more) (from_here c.args.headers.now c.loop-index.index _ c.at.ensures)
          ∙ ap (λ (fields : Fields). with_fields fields (drop (c.loop-index.index + 1) c.args.headers.now)) (sym state),
      c.loop-index.invariant.1
          ∙ ap reserved_name (from_here c.args.headers.now c.loop-index.index _ c.at.ensures)
          ∙ first_is_free (c.at.result.0.now, c.at.result.1.now) (drop (c.loop-index.index + 1) c.args.headers.now) free,
    )
