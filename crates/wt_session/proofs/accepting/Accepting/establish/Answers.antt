use Rattle.std.proofs.Common.{◌∙◌, ap, subst, sym, ℕ}
use Rattle.wt_meaning.specs.Lawful.{is_client}
use Rattle.wt_driver_laws.specs.Handing.{BeginsSession, MayBegin}
use Rattle.wt_session.specs.Handshakes.{Response}
use Rattle.wt_session.proofs.accepting.Accepting.establish.Goals as goal

pub returns-in-Ok-clause-begins : goal.returns-in-Ok-clause-begins
returns-in-Ok-clause-begins c side log collected f w offset may =
    let s = c.session_id-session.ensures ∙ c.self.invariant.0 ∙ ap (λ (r : Response). r.id) c.self.view_is in
    let b = c.in_ok-register.ensures.begins side log collected f w offset (subst (λ (n : ℕ). MayBegin (is_client side) side log n offset) (sym s) may) in
    let g = rw c.in-Ok.is at b in
    (c.new.ensures ∙ s, subst (λ (n : ℕ). BeginsSession side log collected n offset c.register.new.self) s g)

pub returns-in_ok-not_begun-in-Err-clause-begins : goal.returns-in_ok-not_begun-in-Err-clause-begins
returns-in_ok-not_begun-in-Err-clause-begins c side log collected f w offset may =
    let s = c.session_id-session.ensures ∙ c.self.invariant.0 ∙ ap (λ (r : Response). r.id) c.self.view_is in
    let b = c.in_ok-register.ensures.begins side log collected f w offset (subst (λ (n : ℕ). MayBegin (is_client side) side log n offset) (sym s) may) in
    let g = rw c.in-Err.is at b in
    g.0
