-- Of a history: what went out on the stream of a request or a connect, and on one that is being opened, while its session lives or may begin.
use Rattle.std.proofs.Common.{◌∙◌, ◌*◌, ◌<◌, ap, arith, refl, subst, sym}
use Rattle.std.proofs.lemmas.Bool.{eqb-true, lt-ltb, not-false}
use Rattle.std.specs.List.{cons_option, list_any}
use Rattle.std.specs.Option.{option_or}
use Rattle.std.specs.Prelude.{[], ◌%◌, ◌&&◌, ◌++◌, ◌+◌, ◌/◌, ◌==◌, ◌∷◌, ◌||◌, ◌≡◌, Bool, List, None, Option, Some, false, filter_map, if◌then◌else◌, is_some, length, not, suc, take, true, zero, ℕ}
use Rattle.wt_meaning.specs.Calls.{being_opened, is_living, opened_by, opening_ends}
use Rattle.wt_meaning.specs.Findings.{first_of}
use Rattle.wt_meaning.specs.Halves.{has_sending, reset}
use Rattle.wt_meaning.specs.Handshakes.{was_given}
use Rattle.wt_meaning.specs.History.{History, Pair, actions_out, all_events, answers_reset, exists, hands_out, is_handed_out, is_reset, is_reset_of, out, stream_count, was_finished}
use Rattle.wt_meaning.specs.Meaning.{next, own_answer}
use Rattle.wt_meaning.specs.Moments.{ids_from}
use Rattle.wt_meaning.specs.Windows.{is_established, is_number, last_request, named, requests}
use Rattle.wt_promise.proofs.Accepted.{and-left, and-right, not-true, or-last, or-left, or-right, or-true}
use Rattle.wt_promise.proofs.Actions.{opened-out}
use Rattle.wt_promise.proofs.Begun.{BegunFor, begun-for, no-requests}
use Rattle.wt_promise.proofs.BytesOut.{bytes_on, out-add, piece_on}
use Rattle.wt_promise.proofs.ControlKept.{begun-not-control, begun-opening}
use Rattle.wt_promise.proofs.Flow.{clash}
use Rattle.wt_promise.proofs.Fresh.{was-opened}
use Rattle.wt_promise.proofs.HandedOut.{opened-local}
use Rattle.wt_promise.proofs.HeadFinish.{ByHand, OfSession, WasFinished, Whole, is-rejection, was-finished}
use Rattle.wt_promise.proofs.Heads.{accepted-before, begun-kept, begun-not-opened, head-other}
use Rattle.wt_promise.proofs.InOrder.{sends-in-order}
use Rattle.wt_promise.proofs.MomentActs.{or-either}
use Rattle.wt_promise.proofs.OpensFirst.{opens_first}
use Rattle.wt_promise.proofs.OpensNext.{ids-count, opens_in_order}
use Rattle.wt_promise.proofs.OwnForms.{frame_or, head_on}
use Rattle.wt_promise.proofs.Silent.{established-begun, opening-over, silent-opening, unreset-now}
use Rattle.wt_promise.proofs.Stays.{exists-stays}
use Rattle.wt_promise.proofs.Tables.{by-row}
use Rattle.wt_promise.proofs.WasReset.{WasReset, was-reset}
use Rattle.wt_promise.proofs.WasReset as resets
use Rattle.wt_promise.specs.Owed.{header_on}
use Rattle.wt_promise.specs.Promise.{IsHistory, accepted, acts_on, begun_on}
use Rattle.wt_promise.specs.Sides.{opened_first, opens_of}
use Rattle.wt_turn.specs.Streams.{local_bi, local_count, local_uni}
use Rattle.wt_sessions_agree.proofs.ConnectRows.{no-peers}
use Rattle.wt_turn.specs.declared.action.Action.{Action}
use Rattle.wt_turn.specs.declared.answer.Answer.{Answer}
use Rattle.wt_turn.specs.declared.call.Call.{Call}
use Rattle.wt_turn.specs.declared.reply.Reply.{Reply}
use Rattle.wt_turn.specs.declared.turn.Turn.{Turn}
use Rattle.wt_wire.specs.declared.side.Side.{Side}
use Rattle.wt_wire.specs.declared.side.Side.TheVariants.{Client, Server}
use Rattle.wt_turn.specs.declared.action.Action.TheVariants as actions
use Rattle.wt_turn.specs.declared.call.Call.TheVariants as calls
use Rattle.wt_turn.specs.declared.reply.Reply.TheVariants as replies
use Rattle.wt_turn.specs.declared.turn.Turn.TheVariants as turns

-- ---- resets

-- a reset that is answered Done is of a stream that was handed out
reset-has : (side : Side) (h : History) (k id code : ℕ) → answers_reset k (turns.Call (calls.ResetSend id code)) (own_answer side h (turns.Call (calls.ResetSend id code))).reply ≡ true → is_handed_out h id ≡ true
reset-has side h k id code e =
    (by-row P (not (has_sending side h id)) replies.NoStream [] (reset h id code) (λ q f. absurd (cc f))
    (λ q. record { first = λ f. and-left (is_handed_out h id) _ (not-false (has_sending side h id) q) })).first e
  where
    P : Answer → Type 0
    P a = answers_reset k (turns.Call (calls.ResetSend id code)) a.reply ≡ true → is_handed_out h id ≡ true

resets-this : (k id code : ℕ) (r : Reply) → answers_reset k (turns.Call (calls.ResetSend id code)) r ≡ true → (id == k) ≡ true
resets-this k id code replies.Done e = e
resets-this k id code r e = absurd (cc e)

reset-handed : (side : Side) (h : History) (k : ℕ) (turn : Turn) → answers_reset k turn (next side h turn).reply ≡ true → is_handed_out h k ≡ true
reset-handed side h k (turns.Call (calls.ResetSend id code)) e =
    ap (is_handed_out h) (sym (eqb-true id k (resets-this k id code (own_answer side h (turns.Call (calls.ResetSend id code))).reply e))) ∙ reset-has side h k id code e
reset-handed side h k turn e = absurd (cc e)

resets-handed : (side : Side) (h : History) → IsHistory side h → (k : ℕ) → list_any (λ (p : Pair). answers_reset k p.turn p.answer.reply) h ≡ true → is_handed_out h k ≡ true
resets-handed side [] i k e = absurd (cc e)
resets-handed side (p ∷ h) i k e =
    or-either {P = is_handed_out (p ∷ h) k ≡ true} (answers_reset k p.turn p.answer.reply) (list_any (λ (q : Pair). answers_reset k q.turn q.answer.reply) h) e
    (λ x. later (reset-handed side h k p.turn (ap (λ (a : Answer). answers_reset k p.turn a.reply) (sym i.1) ∙ x))) (λ x. later (resets-handed side h i.2 k x))
  where
    later : is_handed_out h k ≡ true → is_handed_out (p ∷ h) k ≡ true
    later x = ap (λ (b : Bool). hands_out k p.answer.reply || b) x ∙ or-true (hands_out k p.answer.reply)

-- why a stream was reset, also where nothing went out
pub reset-why : (side : Side) (h : History) → IsHistory side h → (k : ℕ) → is_reset h k ≡ true → WasReset side h k
reset-why side h i k e =
    or-either {P = WasReset side h k} (list_any (is_reset_of k) (actions_out h)) (list_any (λ (p : Pair). answers_reset k p.turn p.answer.reply) h) e
    (λ x. was-reset side h i k x) (λ x. resets.ByHand (resets-handed side h i k x))

-- what never holds is false
pub never : (b : Bool) → (b ≡ true → ⊥) → b ≡ false
never true f = absurd (f refl)
never false f = refl

-- ---- the stream of a request or a connect

module _ (side : Side) (h : History) (i : IsHistory side h) (k : ℕ) (b : BegunFor side h k) where
  pub head-not-control : (k == local_uni side) ≡ false
  head-not-control = never (k == local_uni side) (λ e. begun-not-control side h i (subst (BegunFor side h) (eqb-true k (local_uni side) e) b))

  -- it isn't reset before its session begins
  pub head-unreset : is_established h k ≡ false → is_reset h k ≡ false
  head-unreset n = never (is_reset h k) (λ e. unreset-now side h i k b (λ a g. clash (is_established h k) a n) (reset-why side h i k e))

  -- where it is finished by then, a rejection was begun for it
  pub record Rejects : Type 0 where
    pub call : Call
    pub server : side ≡ Server
    pub begun : begun_on h k ≡ Some call
    pub rejects : is-rejection call ≡ true

  pub head-rejects : is_established h k ≡ false → was_finished h k ≡ true → Rejects
  head-rejects n e = by (was-finished side h i k head-not-control e)
    where
      by : WasFinished side h k → Rejects
      by (ByHand x) = absurd (clash (is_handed_out h k) x (begun-kept side h i k b))
      by (OfSession x g) = absurd (clash (is_established h k) x n)
      by (Whole c s x r l) = record { call = c; server = s; begun = x; rejects = r }

  unopened : (o : Option (Option ℕ)) → first_of (λ (p : Pair). opened_by k p.turn p.answer.reply) h ≡ o → o ≡ None
  unopened None e = refl
  unopened (Some name) e = absurd (begun-not-opened side h i k b name e)

  -- nothing went out on it before that began
  pub head-unsent : begun_on h k ≡ None → out h k ≡ []
  head-unsent n =
      sym (sends-in-order side h i k).front
      ∙ ap (λ (xs : List ℕ). take (length (out h k)) (xs ++ accepted h k)) none
      ∙ ap (take (length (out h k))) (accepted-before side h i k (begun-kept side h i k b)) ∙ take-none (length (out h k))
    where
      none : head_on side h k ≡ []
      none =
          head-other side h k head-not-control ∙ ap (λ (o : Option Call). frame_or o (header_on h k (first_of (λ (p : Pair). opened_by k p.turn p.answer.reply) h))) n
          ∙ ap (header_on h k) (unopened (first_of (λ (p : Pair). opened_by k p.turn p.answer.reply) h) refl)

      take-none : (n : ℕ) → take {A = ℕ} n [] ≡ []
      take-none zero = refl
      take-none (suc n) = refl

-- ---- a stream that is being opened

module _ (side : Side) (h : History) (i : IsHistory side h) (k : ℕ) (name : Option ℕ) (o : being_opened h k ≡ Some name) where
  abbrev opens-it : first_of (λ (p : Pair). opened_by k p.turn p.answer.reply) h ≡ Some name
  opens-it = begun-opening h k name o

  pub opening-not-control : (k == local_uni side) ≡ false
  opening-not-control = (was-opened side h i k name opens-it).not_control

  -- it wasn't handed out
  pub unhanded : is_handed_out h k ≡ true → ⊥
  unhanded e = none (list_any (λ (p : Pair). opening_ends k p.turn p.answer.reply) h) (opening-over side h i k (opened-local side h i k (ap is_some opens-it)) e) o
    where
      none : (b : Bool) → b ≡ true → (if b then None else first_of (λ (p : Pair). opened_by k p.turn p.answer.reply) h) ≡ Some name → ⊥
      none true q x = cc x
      none false q x = cc q

  -- nor was it finished
  pub opening-unfinished : was_finished h k ≡ false
  opening-unfinished = never (was_finished h k) (λ e. by (was-finished side h i k opening-not-control e))
    where
      by : WasFinished side h k → ⊥
      by (ByHand x) = unhanded x
      by (OfSession x g) = begun-not-opened side h i k (established-begun side h i k x) name opens-it
      by (Whole c s x r l) = begun-not-opened side h i k (begun-for side h i k c x) name opens-it

  -- nor reset while its session lives
  pub opening-unreset : (s : ℕ) → named h name ≡ Some s → is_living side h s ≡ true → is_reset h k ≡ false
  opening-unreset s m l = never (is_reset h k) (λ e. silent-opening side h i k name s o m l (reset-why side h i k e))

-- ---- a stream of this end that isn't there yet

-- the action opens the stream
abbrev opens-it-now : ℕ → Action → Bool
opens-it-now k a = is_number k (opens_of (k % 4) a)

quiet-piece : (k : ℕ) (a : Action) → acts_on k a ≡ false → piece_on k a ≡ []
quiet-piece k (actions.Send id piece) e = ap (λ (b : Bool). if b then piece else []) (or-left (id == k) false e)
quiet-piece k a e = refl

-- where the actions don't open the stream they send nothing on it
first-acts : (k : ℕ) (xs : List Action) → opened_first k xs ≡ true → list_any (opens-it-now k) xs ≡ false → bytes_on k xs ≡ []
first-acts k [] f n = refl
first-acts k (a ∷ xs) f n =
    let g = or-last (opens-it-now k a) (not (acts_on k a) && opened_first k xs) f (or-left (opens-it-now k a) (list_any (opens-it-now k) xs) n) in
    ap (λ (bytes : List ℕ). bytes ++ bytes_on k xs) (quiet-piece k a (not-true (acts_on k a) (and-left (not (acts_on k a)) (opened_first k xs) g)))
    ∙ first-acts k xs (and-right (not (acts_on k a)) (opened_first k xs) g) (or-right (opens-it-now k a) (list_any (opens-it-now k) xs) n)

any-ids : (k : ℕ) (xs : List Action) → list_any (opens-it-now k) xs ≡ list_any (λ (i : ℕ). i == k) (filter_map (opens_of (k % 4)) xs)
any-ids k [] = refl
any-ids k (a ∷ xs) = by (opens_of (k % 4) a) (any-ids k xs)
  where
    by : (o : Option ℕ) → list_any (opens-it-now k) xs ≡ list_any (λ (i : ℕ). i == k) (filter_map (opens_of (k % 4)) xs)
        → (is_number k o || list_any (opens-it-now k) xs) ≡ list_any (λ (i : ℕ). i == k) (cons_option o (filter_map (opens_of (k % 4)) xs))
    by None again = again
    by (Some i) again = ap (λ (b : Bool). (i == k) || b) again

in-ids : (k kind n count : ℕ) → list_any (λ (i : ℕ). i == k) (ids_from kind n count) ≡ true → (j : ℕ) × (j < n + count) × (k ≡ 4 * j + kind)
in-ids k kind n zero e = absurd (cc e)
in-ids k kind n (suc count) e = by ((4 * n + kind) == k) refl e (in-ids k kind (suc n) count)
  where
    by : (b : Bool) → ((4 * n + kind) == k) ≡ b → (b || list_any (λ (i : ℕ). i == k) (ids_from kind (suc n) count)) ≡ true
        → (list_any (λ (i : ℕ). i == k) (ids_from kind (suc n) count) ≡ true → (j : ℕ) × (j < suc n + count) × (k ≡ 4 * j + kind)) → (j : ℕ) × (j < n + suc count) × (k ≡ 4 * j + kind)
    by true q f again = (n, omega arith, sym (eqb-true (4 * n + kind) k q))
    by false q f again = let x = again f in (x.0, let l = x.1 in omega (arith, l), x.2)

-- a stream that an answer opens is there after it
opened-there : (side : Side) (p : Pair) (h : History) → IsHistory side (p ∷ h) → (k : ℕ) → list_any (opens-it-now k) p.answer.actions ≡ true → exists side (p ∷ h) k ≡ true
opened-there side p h i k e =
    let order = (opens_in_order side h p.turn i.2 i.0 (k % 4)).next in
    let listed : list_any (λ (x : ℕ). x == k) (filter_map (opens_of (k % 4)) (next side h p.turn).actions) ≡ true = ap (λ (a : Answer). list_any (λ (x : ℕ). x == k) (filter_map (opens_of (k % 4)) a.actions)) (sym i.1) ∙ sym (any-ids k p.answer.actions) ∙ e in
    let x = in-ids k (k % 4) (local_count (actions_out h) (k % 4)) (length (filter_map (opens_of (k % 4)) (next side h p.turn).actions)) (ap (list_any (λ (x : ℕ). x == k)) (sym order) ∙ listed) in
    let a = opened-out (k % 4) p.answer.actions (actions_out h) in
    let b = ids-count (k % 4) p.answer.actions in
    let c : length (filter_map (opens_of (k % 4)) (next side h p.turn).actions) ≡ length (filter_map (opens_of (k % 4)) p.answer.actions) = ap (λ (y : Answer). length (filter_map (opens_of (k % 4)) y.actions)) (sym i.1) in
    let l = x.1 in
    let m = x.2 in
    lt-ltb (k / 4) (stream_count side (p ∷ h) (k % 4)) (omega (arith, a, b, c, l, m))

-- nothing goes out on a stream of this end before it is opened
pub absent-unsent : (side : Side) (h : History) → IsHistory side h → (k : ℕ) → ((local_uni side == k % 4) || (local_bi side == k % 4)) ≡ true → exists side h k ≡ false → out h k ≡ []
absent-unsent side [] i k o n = refl
absent-unsent side (p ∷ h) i k o n =
    let before : exists side h k ≡ false = never (exists side h k) (λ e. clash (exists side (p ∷ h) k) (exists-stays side p h k e) n) in
    let unopened-now : list_any (opens-it-now k) p.answer.actions ≡ false = never (list_any (opens-it-now k) p.answer.actions) (λ e. clash (exists side (p ∷ h) k) (opened-there side p h i k e) n) in
    out-add p h k ∙ ap (λ (xs : List ℕ). xs ++ bytes_on k p.answer.actions) (absent-unsent side h i.2 k o before)
    ∙ first-acts k p.answer.actions (ap (λ (x : Answer). opened_first k x.actions) i.1 ∙ opens_first side h p.turn i.2 i.0 k o before) unopened-now

-- nor on a client's request before its stream is
pub unopened-unsent : (h : History) → IsHistory Client h → local_count (actions_out h) 0 ≡ 0 → out h 0 ≡ []
unopened-unsent h i z = absent-unsent Client h i 0 refl (rw (no-peers (all_events h), z) refl)

-- a client was given no request
pub client-not-given : (h : History) → IsHistory Client h → (k : ℕ) → was_given h k ≡ false
client-not-given h i k = none h (no-requests h i)
  where
    none : (x : History) → last_request x ≡ None → was_given x k ≡ false
    none [] e = refl
    none (p ∷ x) e = by (requests p) refl e (none x)
      where
        by : (o : Option ℕ) → requests p ≡ o → option_or o (last_request x) ≡ None → (last_request x ≡ None → was_given x k ≡ false) → was_given (p ∷ x) k ≡ false
        by None q r again = rw q (again r)
        by (Some t) q r again = absurd (cc r)
