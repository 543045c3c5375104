use Rattle.std.proofs.Common.{◌∙◌, ap, subst, sym, ℕ}
use Rattle.std.specs.Prelude.{Err, List, Ok}
use Rattle.wt_session.proofs.Dials.{begin-dials, begin-fails, begin-goes-on, first-of-client, new-connect, target-by, whole-target}
use Rattle.wt_session.specs.ConnectTarget.{target_of}
use Rattle.wt_session.specs.Connects.{IsNewConnect, IsRequestFor}
use Rattle.wt_wire.specs.HeaderList.{Fields}
use Rattle.wt_session.proofs.connecting.Connecting.begin.Goals as goal

pub returns-in-Err-clause-does : goal.returns-in-Err-clause-does
returns-in-Err-clause-does c side log collected f r may =
    let e = sym c.in-Err.is ∙ c.in_ok-target.ensures.target ∙ ap (λ (u : List ℕ). target_of u c.args.lookup c.args.outcome) c.url.ensures in
    begin-fails c.args.options.url c.args.options.headers c.args.lookup c.args.outcome side log collected c.args.d.now c.rests.ensures r c.in-Err.error
    (target-by c.args.options.url c.args.options.headers c.args.lookup c.args.outcome (Err c.in-Err.error) e) f

pub returns-clause-does : goal.returns-clause-does
returns-clause-does c side log collected f r may =
    let e = sym c.in-Ok.is ∙ c.in_ok-target.ensures.target ∙ ap (λ (u : List ℕ). target_of u c.args.lookup c.args.outcome) c.url.ensures in
    let p = first-of-client side log may in
    begin-dials c.args.options.url c.args.options.headers c.args.lookup c.args.outcome side log collected c.dial_where_open.new.d c.rests-2.ensures r (whole-target c.in-Ok.target c.args.options.headers)
    (target-by c.args.options.url c.args.options.headers c.args.lookup c.args.outcome (Ok c.in-Ok.target) e) (c.in_ok-dial_where_open.ensures.log side log collected f r p.0 p.1)

pub returns-clause-connect : goal.returns-clause-connect
returns-clause-connect c =
    let e = sym c.in-Ok.is ∙ c.in_ok-target.ensures.target ∙ ap (λ (u : List ℕ). target_of u c.args.lookup c.args.outcome) c.url.ensures in
    let asked = subst (λ (h : Fields). IsRequestFor c.in-Ok.target.authority c.in-Ok.target.path h c.in_ok-request.request) c.additional_headers.ensures c.in_ok-request.ensures in (
      whole-target c.in-Ok.target c.args.options.headers,
      target-by c.args.options.url c.args.options.headers c.args.lookup c.args.outcome (Ok c.in-Ok.target) e,
      subst (IsNewConnect (whole-target c.in-Ok.target c.args.options.headers)) (sym c.stage_of-stage.ensures) (new-connect c.in-Ok.target c.args.options.headers c.in_ok-request.request asked),
    )

pub returns-clause-goes_on : goal.returns-clause-goes_on
returns-clause-goes_on c side log collected f r may =
    let e = sym c.in-Ok.is ∙ c.in_ok-target.ensures.target ∙ ap (λ (u : List ℕ). target_of u c.args.lookup c.args.outcome) c.url.ensures in
    let asked = subst (λ (h : Fields). IsRequestFor c.in-Ok.target.authority c.in-Ok.target.path h c.in_ok-request.request) c.additional_headers.ensures c.in_ok-request.ensures in
    let p = first-of-client side log may in
    begin-goes-on c.args.options.url c.args.options.headers c.args.lookup c.args.outcome side log collected c.dial_where_open.new.d c.rests-2.ensures r (whole-target c.in-Ok.target c.args.options.headers)
    (target-by c.args.options.url c.args.options.headers c.args.lookup c.args.outcome (Ok c.in-Ok.target) e) (c.in_ok-dial_where_open.ensures.log side log collected f r p.0 p.1) _
    (subst (IsNewConnect (whole-target c.in-Ok.target c.args.options.headers)) (sym c.stage_of-stage.ensures) (new-connect c.in-Ok.target c.args.options.headers c.in_ok-request.request asked)) p.0 p.1
