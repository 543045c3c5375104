-- What holds of requests for a session.
use Rattle.std.proofs.Common.{◌≡◌, ℕ, Bool, true, false, cond, List, Option, Some, None, Ok, Err, refl, sym, ap, ◌∙◌, subst}
use Rattle.std.specs.Prelude.{codes, is_some, ◌&&◌, ◌||◌}
use Rattle.std.specs.Cmp.{first_so, second_so}
use Rattle.std.specs.Cmp.Lexicographic.{nat_list_eq_equiv}
use Rattle.std.specs.Str.{bytes_eq}
use Rattle.wt_message.specs.declared.session.HeadersParseError.TheVariants.{MethodNotConnect, Other}
use Rattle.wt_wire.specs.HeaderList.{Fields, with_field, value_of}
use Rattle.wt_message.specs.Requests.{is_value, is_session_request, is_reserved, request_with, request_of, request_fields}
use Rattle.wt_wire.proofs.ValueLaws.{value_of_other}

pub five_are_request : (fields : Fields) (authority path : List ℕ) → fields ≡ request_fields authority path → request_of fields ≡ Ok fields
unfolding request_of
five_are_request fields authority path e = subst (λ (fs : Fields). request_of fs ≡ Ok fs) (sym e) refl

-- what was judged: the method, and the rest
for_session_with : (fields : Fields) (o : Option (List ℕ)) → request_with fields o ≡ Ok fields → is_session_request fields ≡ true
for_session_with fields None h = absurd cc
for_session_with fields (Some method) h = by (bytes_eq method (codes "CONNECT")) (is_session_request fields) h
  where
    by : (t u : Bool) → cond t (cond u (Ok fields) (Err Other)) (Err MethodNotConnect) ≡ Ok fields → u ≡ true
    by true true e = refl
    by true false e = absurd cc
    by false u e = absurd cc

for_session : (fields : Fields) → request_of fields ≡ Ok fields → is_session_request fields ≡ true
unfolding request_of
for_session fields h = for_session_with fields (value_of (codes ":method") fields) h

-- the four parts of what is judged beside the method
abbrev scheme : Fields → Bool
scheme fields = is_value (codes "https") (value_of (codes ":scheme") fields)

abbrev protocol : Fields → Bool
protocol fields = is_value (codes "webtransport") (value_of (codes ":protocol") fields)

abbrev authority : Fields → Bool
authority fields = is_some (value_of (codes ":authority") fields)

abbrev path : Fields → Bool
path fields = is_some (value_of (codes ":path") fields)

pub has_authority : (fields : Fields) → request_of fields ≡ Ok fields → is_some (value_of (codes ":authority") fields) ≡ true
has_authority fields h = second_so (scheme fields && protocol fields) (authority fields) (first_so (scheme fields && protocol fields && authority fields) (path fields) (for_session fields h))

pub has_path : (fields : Fields) → request_of fields ≡ Ok fields → is_some (value_of (codes ":path") fields) ≡ true
has_path fields h = second_so (scheme fields && protocol fields && authority fields) (path fields) (for_session fields h)

-- the name is none of the five
record NotReserved (name : List ℕ) : Type 0 where
  method : bytes_eq name (codes ":method") ≡ false
  scheme : bytes_eq name (codes ":scheme") ≡ false
  protocol : bytes_eq name (codes ":protocol") ≡ false
  authority : bytes_eq name (codes ":authority") ≡ false
  path : bytes_eq name (codes ":path") ≡ false

not_reserved : (name : List ℕ) → is_reserved name ≡ false → NotReserved name
not_reserved name h = by (bytes_eq name (codes ":method")) (bytes_eq name (codes ":scheme")) (bytes_eq name (codes ":protocol")) (bytes_eq name (codes ":authority")) (bytes_eq name (codes ":path")) refl refl refl refl refl h
  where
    by : (t u v w x : Bool) → bytes_eq name (codes ":method") ≡ t → bytes_eq name (codes ":scheme") ≡ u → bytes_eq name (codes ":protocol") ≡ v → bytes_eq name (codes ":authority") ≡ w → bytes_eq name (codes ":path") ≡ x →
        (t || u || v || w || x) ≡ false → NotReserved name
    by false false false false false e f g k l n = record { method = e; scheme = f; protocol = g; authority = k; path = l }
    by false false false false true e f g k l n = absurd cc
    by false false false true x e f g k l n = absurd cc
    by false false true w x e f g k l n = absurd cc
    by false true v w x e f g k l n = absurd cc
    by true u v w x e f g k l n = absurd cc

-- a value at another name
kept : (wanted name value : List ℕ) (fields : Fields) → bytes_eq name wanted ≡ false → value_of wanted (with_field name value fields) ≡ value_of wanted fields
kept wanted name value fields h = value_of_other wanted name value fields (nat_list_eq_equiv.symm wanted name ∙ h)

same_judgement : (name value : List ℕ) (fields : Fields) → NotReserved name → is_session_request (with_field name value fields) ≡ is_session_request fields
same_judgement name value fields n = λ i.
    is_value (codes "https") (kept (codes ":scheme") name value fields n.scheme i) && is_value (codes "webtransport") (kept (codes ":protocol") name value fields n.protocol i)
    && is_some (kept (codes ":authority") name value fields n.authority i) && is_some (kept (codes ":path") name value fields n.path i)

request_with_same : (f g : Fields) (o : Option (List ℕ)) → is_session_request g ≡ is_session_request f → request_with f o ≡ Ok f → request_with g o ≡ Ok g
request_with_same f g None e h = absurd cc
request_with_same f g (Some method) e h = by (bytes_eq method (codes "CONNECT")) (is_session_request f) e h
  where
    by : (t u : Bool) → is_session_request g ≡ u → cond t (cond u (Ok f) (Err Other)) (Err MethodNotConnect) ≡ Ok f → cond t (cond (is_session_request g) (Ok g) (Err Other)) (Err MethodNotConnect) ≡ Ok g
    by true true k r = rw k refl
    by true false k r = absurd cc
    by false u k r = absurd cc

pub request_kept : (name value : List ℕ) (fields : Fields) → request_of fields ≡ Ok fields → is_reserved name ≡ false → request_of (with_field name value fields) ≡ Ok (with_field name value fields)
unfolding request_of
request_kept name value fields h other =
    let n = not_reserved name other in
    ap (request_with (with_field name value fields)) (kept (codes ":method") name value fields n.method)
    ∙ request_with_same fields (with_field name value fields) (value_of (codes ":method") fields) (same_judgement name value fields n) h
