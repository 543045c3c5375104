-- No session lives in both or in none.
use Rattle.std.specs.Prelude.{[], ◌&&◌, ◌==◌, ◌∷◌, ◌||◌, ◌≡◌, Bool, List, false, filter_map, map, not, true, ℕ}
use Rattle.std.specs.List.{list_any}
use Rattle.std.proofs.Common.{◌∙◌, ap, refl, sym}
use Rattle.std.proofs.lemmas.Bool.{eq-eqb, eqb-true}
use Rattle.wt_meaning.specs.Handshakes.{none_lives}
use Rattle.wt_meaning.specs.History.{History}
use Rattle.wt_meaning.specs.Moments.{findings}
use Rattle.wt_meaning.specs.Windows.{establishes, is_established, is_gone}
use Rattle.wt_sessions.specs.Driver.{call_view, has_no_session, is_session_gone}
use Rattle.wt_sessions.specs.StreamTable.{Session}
use Rattle.wt_sessions_agree.proofs.WaitLaws.{gone-is}
use Rattle.wt_sessions_agree.specs.Members.{has_id}
use Rattle.wt_sessions_agree.specs.Stands.{Stands}
use Rattle.wt_turn.specs.Log.{Log}
use Rattle.wt_wire.specs.declared.side.Side.{Side}

back : (a b : Bool) → b ≡ true → (a || b) ≡ true
back true b e = refl
back false b e = e

member-any : (p : ℕ → Bool) (k : ℕ) (ids : List ℕ) → has_id k ids ≡ true → p k ≡ true → list_any p ids ≡ true
member-any p k [] e q = absurd (cc e)
member-any p k (x ∷ ids) e q = by (x == k) refl e (member-any p k ids)
  where
    by : (b : Bool) → (x == k) ≡ b → (b || has_id k ids) ≡ true → (has_id k ids ≡ true → p k ≡ true → list_any p ids ≡ true) → (p x || list_any p ids) ≡ true
    by true f e again = let i : x ≡ k = eqb-true x k f in ap (λ (b : Bool). b || list_any p ids) (ap p i ∙ q)
    by false f e again = back (p x) (list_any p ids) (again e q)

any-into : (p : ℕ → Bool) (xs ys : List ℕ) → ((k : ℕ) → has_id k xs ≡ true → has_id k ys ≡ true) → list_any p xs ≡ true → list_any p ys ≡ true
any-into p [] ys m e = absurd (cc e)
any-into p (x ∷ xs) ys m e = by (p x) refl e (any-into p xs ys (λ k q. m k (back (x == k) (has_id k xs) q)))
  where
    by : (b : Bool) → p x ≡ b → (b || list_any p xs) ≡ true → (list_any p xs ≡ true → list_any p ys ≡ true) → list_any p ys ≡ true
    by true f e again = member-any p x ys (m x (ap (λ (b : Bool). b || has_id x xs) (eq-eqb x x refl))) f
    by false f e again = again e

-- lists of the same ids pass the same tests
any-same : (p : ℕ → Bool) (xs ys : List ℕ) → ((k : ℕ) → has_id k xs ≡ has_id k ys) → list_any p xs ≡ list_any p ys
any-same p xs ys m = by (list_any p xs) (list_any p ys) refl refl
  where
    by : (a b : Bool) → list_any p xs ≡ a → list_any p ys ≡ b → a ≡ b
    by true true e f = refl
    by false false e f = refl
    by true false e f = let q = any-into p xs ys (λ k r. sym (m k) ∙ r) e in absurd (cc (sym q ∙ f))
    by false true e f = let q = any-into p ys xs (λ k r. m k ∙ r) f in absurd (cc (sym q ∙ e))

any-map : (p : ℕ → Bool) (ss : List Session) → list_any (λ (s : Session). p s.id) ss ≡ list_any p (map (λ (s : Session). s.id) ss)
any-map p [] = refl
any-map p (s ∷ ss) = ap (λ (b : Bool). p s.id || b) (any-map p ss)

-- a test that all of them pass may be left out
any-less : (e q : ℕ → Bool) (xs : List ℕ) → ((k : ℕ) → has_id k xs ≡ true → e k ≡ true) → list_any (λ (k : ℕ). e k && q k) xs ≡ list_any q xs
any-less e q [] m = refl
any-less e q (x ∷ xs) m =
    let f : e x ≡ true = m x (ap (λ (b : Bool). b || has_id x xs) (eq-eqb x x refl)) in
    ap (λ (b : Bool). (b && q x) || list_any (λ (k : ℕ). e k && q k) xs) f
    ∙ ap (λ (b : Bool). q x || b) (any-less e q xs (λ k r. m k (back (x == k) (has_id k xs) r)))

pub none-agrees : (side : Side) (offset : ℕ → ℕ) (h : History) (log : Log) → Stands side offset h log → none_lives side h ≡ has_no_session side log
none-agrees side offset h log x =
    ap not (any-less (is_established h) (λ (s : ℕ). not (is_gone h (findings side h) s)) (filter_map establishes h) (λ k e. e)
    ∙ any-same (λ (s : ℕ). not (is_gone h (findings side h) s)) (filter_map establishes h) (map (λ (s : Session). s.id) (call_view log).sessions)
    (λ k. sym (x.calls.established k) ∙ any-map (λ (id : ℕ). id == k) (call_view log).sessions)
    ∙ same (map (λ (s : Session). s.id) (call_view log).sessions)
    ∙ sym (any-map (λ (s : ℕ). not (is_session_gone side log s)) (call_view log).sessions))
  where
    same : (ids : List ℕ) → list_any (λ (s : ℕ). not (is_gone h (findings side h) s)) ids ≡ list_any (λ (s : ℕ). not (is_session_gone side log s)) ids
    same [] = refl
    same (k ∷ ids) =
        ap (λ (b : Bool). not b || list_any (λ (s : ℕ). not (is_gone h (findings side h) s)) ids) (gone-is side offset h log k x) ∙ ap (λ (b : Bool). not (is_session_gone side log k) || b) (same ids)
