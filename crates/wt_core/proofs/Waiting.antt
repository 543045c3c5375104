-- A stream that waits is of the kind that is asked for, and no call gave it.
use Rattle.std.proofs.Common.{◌≡◌, ℕ, Bool, true, false, cond, List, [], ◌∷◌, filter, filter_map, find, refl, subst}
use Rattle.std.specs.Prelude.{Option, Some, None, ◌%◌, ◌==◌, ◌&&◌, if◌then◌else◌, not}
use Rattle.std.specs.List.{cons_option, list_any}
use Rattle.std.proofs.lemmas.Bool.{eqb-true}
use Rattle.wt_proto.specs.declared.verdict.Verdict.{Verdict}
use Rattle.wt_proto.specs.declared.verdict.Verdict.TheVariants as verdicts
use Rattle.wt_sessions.specs.Connection.{next_stream, waits_for}
use Rattle.wt_sessions.specs.Driver.{accepts_stream, call_view, stream_table}
use Rattle.wt_sessions.specs.StreamTable.{CallView, Classified, Waiting, is_gone, waiting_streams, waits_by, waits_in}
use Rattle.wt_turn.specs.Log.{Log, calls_of}
use Rattle.wt_wire.specs.declared.side.Side.{Side}

abbrev AllOf : {X : Type 0} → (X → Type 0) → List X → Type 0
AllOf P [] = Unit {0}
AllOf P (x ∷ xs) = P x × AllOf P xs

all-filter : {X : Type 0} (P : X → Type 0) (p : X → Bool) (xs : List X) → AllOf P xs → AllOf P (filter p xs)
all-filter P p [] all = tt
all-filter P p (x ∷ xs) all = by (p x) (all-filter P p xs all.1)
  where
    by : (b : Bool) → AllOf P (filter p xs) → AllOf P (cond b (x ∷ filter p xs) (filter p xs))
    by true again = (all.0, again)
    by false again = again

all-found : {X : Type 0} (P : X → Type 0) (p : X → Bool) (x : X) (xs : List X) → AllOf P xs → find p xs ≡ Some x → P x
all-found P p x [] all e = absurd cc
all-found {X = X} P p x (y ∷ ys) all e = by (p y) e (all-found P p x ys all.1)
  where
    by : (b : Bool) → cond b (Some y) (find p ys) ≡ Some x → (find p ys ≡ Some x → P x) → P x
    by true f again = let same : y ≡ x = cc in subst (λ (z : X). P z) same all.0
    by false f again = again f

passes : {X : Type 0} (p : X → Bool) (x : X) (xs : List X) → find p xs ≡ Some x → p x ≡ true
passes p x [] e = absurd cc
passes {X = X} p x (y ∷ ys) e = by (p y) refl e (passes p x ys)
  where
    by : (b : Bool) → p y ≡ b → cond b (Some y) (find p ys) ≡ Some x → (find p ys ≡ Some x → p x ≡ true) → p x ≡ true
    by true q f again = let same : y ≡ x = cc in subst (λ (z : X). p z ≡ true) same q
    by false q f again = again f

-- what waits wasn't given
abbrev IsUngiven : CallView → Waiting → Type 0
IsUngiven calls w = calls.accepted w.id ≡ false

abbrev Given : CallView → Option Waiting → Type 0
Given calls None = Unit {0}
Given calls (Some w) = IsUngiven calls w

waits-ungiven : (calls : CallView) (c : Classified) (v : Verdict) → Given calls (waits_by v c.id (c.admitted && not (calls.accepted c.id)))
waits-ungiven calls c (verdicts.WebTransport session offset) = by c.admitted (calls.accepted c.id) refl
  where
    by : (a b : Bool) → calls.accepted c.id ≡ b → Given calls (if a && not b then Some (record { id = c.id; session = session }) else None)
    by false b e = tt
    by true true e = tt
    by true false e = e
waits-ungiven calls c _ = tt

consed : (calls : CallView) (o : Option Waiting) (ws : List Waiting) → Given calls o → AllOf (IsUngiven calls) ws → AllOf (IsUngiven calls) (cons_option o ws)
consed calls None ws g again = again
consed calls (Some w) ws g again = (g, again)

all-ungiven : (calls : CallView) (cs : List Classified) → AllOf (IsUngiven calls) (filter_map (waits_in calls) cs)
all-ungiven calls [] = tt
all-ungiven calls (c ∷ cs) = consed calls (waits_in calls c) (filter_map (waits_in calls) cs) (waits-ungiven calls c c.verdict) (all-ungiven calls cs)

both : (a b : Bool) → (a && b) ≡ true → a ≡ true
both true b e = refl
both false b e = absurd cc

pub stream_waits : (side : Side) (log : Log) (kind s : ℕ) (w : Waiting) → next_stream side log kind s ≡ Some w → (w.id % 4 ≡ kind) × (list_any (accepts_stream w.id) (calls_of log) ≡ false)
stream_waits side log kind s w e =
    let calls = call_view log in
    let table = stream_table side log in (
      eqb-true (w.id % 4) kind (both (w.id % 4 == kind) (w.session == s) (passes (waits_for kind s) w (waiting_streams calls table) e)),
      all-found (IsUngiven calls) (waits_for kind s) w (waiting_streams calls table) (all-filter (IsUngiven calls) (λ (v : Waiting). not (is_gone calls table v.session)) (filter_map (waits_in calls) table.classified) (all-ungiven calls table.classified)) e,
    )
