-- A run of an endpoint's turns.
use Rattle.std.proofs.Common.{◌≡◌, ◌+◌, ◌<◌, ◌∷◌, ◌++◌, List, [], add-one, ap, arith, false, get_or, length, refl, subst, suc, sym, take, true, zero, ◌∙◌, ℕ}
use Rattle.std.specs.Prelude.{Err, IfErr, None, Ok, Option, Result, Some, slice_get}
use Rattle.wt_endpoint.proofs.Apart.{apart_theorem}
use Rattle.wt_endpoint.proofs.Keeping.{stands_more}
use Rattle.wt_endpoint.specs.Connections.{ConnectionsState, Refines, StandsFor}
use Rattle.wt_endpoint.specs.Endpoints.{AllMayCome, EndpointHistory, endpoint_after, endpoint_from, endpoint_history, endpoint_replies, endpoint_reply, may_come_next, no_connections}
use Rattle.wt_endpoint.specs.Isolation.{AreApart}
use Rattle.wt_endpoint.specs.Run.{IsEndpointTrace, OfAnswered}
use Rattle.wt_endpoint.specs.declared.run.EndpointError.{EndpointError}
use Rattle.wt_endpoint.specs.declared.run.EndpointError.TheVariants as errors
use Rattle.wt_endpoint.specs.declared.turn.EndpointReply.{EndpointReply}
use Rattle.wt_endpoint.specs.declared.turn.EndpointTurn.{EndpointTurn}
use Rattle.wt_wire.specs.declared.side.Side.{Side}

pub take-more : (all : List EndpointTurn) (n : ℕ) (t : EndpointTurn) → n < length all → t ≡ get_or all n t → take (suc n) all ≡ take n all ++ t ∷ []
take-more [] n t l e = absurd (omega (arith, l))
take-more (x ∷ all) zero t l e = ap (λ (y : EndpointTurn). y ∷ []) (sym e)
take-more (x ∷ all) (suc n) t l e = ap (λ (ys : List EndpointTurn). x ∷ ys) (take-more all n t (omega (arith, l)) e)

pub there-at : (all : List EndpointTurn) (n : ℕ) (t : EndpointTurn) → n < length all → t ≡ get_or all n t → slice_get all n ≡ Some t
there-at [] n t l e = absurd (omega (arith, l))
there-at (x ∷ all) zero t l e = ap Some (sym e)
there-at (x ∷ all) (suc n) t l e = there-at all n t (omega (arith, l)) e

replies-more : (side : Side) (e : EndpointHistory) (all : List EndpointTurn) (t : EndpointTurn)
    → endpoint_replies side e (all ++ t ∷ []) ≡ endpoint_replies side e all ++ endpoint_reply side (endpoint_from side e all) t ∷ []
replies-more side e [] t = refl
replies-more side e (x ∷ all) t = ap (λ (rs : List EndpointReply). endpoint_reply side e x ∷ rs) (replies-more side (endpoint_after side e x) all t)

pub run_stands : (side : Side) (k m : ConnectionsState) (all : List EndpointTurn) (n : ℕ) (t : EndpointTurn) → n < length all → t ≡ get_or all n t → StandsFor side k (take n all)
    → may_come_next side (endpoint_history side (take n all)) t ≡ true → Refines side m (endpoint_after side (endpoint_history side (take n all)) t) → StandsFor side m (take (n + 1) all)
run_stands side k m all n t l e st may r =
    subst (StandsFor side m) (sym (take-more all n t l e) ∙ ap (λ i. take i all) (sym (add-one n))) (stands_more side k m (take n all) t st may r)

pub run_replies : (side : Side) (all : List EndpointTurn) (n : ℕ) (t : EndpointTurn) (given later : List EndpointReply) (reply : EndpointReply) → n < length all → t ≡ get_or all n t
    → given ≡ endpoint_replies side no_connections (take n all) → reply ≡ endpoint_reply side (endpoint_history side (take n all)) t → later ≡ given ++ reply ∷ []
    → later ≡ endpoint_replies side no_connections (take (n + 1) all)
run_replies side all n t given later reply l e g r p =
    p ∙ ap (λ (rs : List EndpointReply). rs ++ reply ∷ []) g ∙ ap (λ (x : EndpointReply). endpoint_replies side no_connections (take n all) ++ x ∷ []) r
    ∙ sym (replies-more side no_connections (take n all) t) ∙ ap (endpoint_replies side no_connections) (sym (take-more all n t l e) ∙ ap (λ i. take i all) (sym (add-one n)))

some-turn : (x t : EndpointTurn) → Some x ≡ Some t → x ≡ t
some-turn x t e = ap (λ (o : Option EndpointTurn). elim o [ Some y ↦ y | None ↦ x ]) e

may-at : (side : Side) (e : EndpointHistory) (all : List EndpointTurn) (n : ℕ) (t : EndpointTurn) → AllMayCome side e all → slice_get all n ≡ Some t → may_come_next side (endpoint_from side e (take n all)) t ≡ true
may-at side e [] n t c i = absurd (cc)
may-at side e (x ∷ all) zero t c i = subst (λ (y : EndpointTurn). may_come_next side e y ≡ true) (some-turn x t i) c.0
may-at side e (x ∷ all) (suc n) t c i = may-at side (endpoint_after side e x) all n t c.1 i

pub run_complete : (side : Side) (all : List EndpointTurn) (given : Result (List EndpointReply) EndpointError) → IsEndpointTrace side all given → AllMayCome side no_connections all
    → IfErr given (λ error. error ≡ errors.OutOfMemory)
run_complete side all (Ok given) r c = tt
run_complete side all (Err (errors.Unlawful index given)) r c =
    let both : false ≡ true = sym r.may_not ∙ may-at side no_connections all index r.turn c r.is_there in absurd (cc)
run_complete side all (Err errors.OutOfMemory) r c = refl

pub run_apart : (side : Side) (all : List EndpointTurn) (given : Result (List EndpointReply) EndpointError) → IsEndpointTrace side all given → OfAnswered (AreApart side) all given
run_apart side all (Ok given) r = subst (AreApart side all) (sym r.replies) (apart_theorem side all r.may_come)
run_apart side all (Err (errors.Unlawful index given)) r = subst (AreApart side (take index all)) (sym r.before.replies) (apart_theorem side (take index all) r.before.may_come)
run_apart side all (Err errors.OutOfMemory) r = tt
