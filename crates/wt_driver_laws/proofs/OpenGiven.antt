-- A stream that was opened for a session is given once its header is out: it has joined the session before, so what is kept stays as it is.
use Rattle.std.proofs.Common.{◌<◌, ◌∙◌, ◌≡◌, ◌∷◌, Bool, List, None, Option, Some, [], ap, arith, false, filter, nat_lt, refl, subst, sym, true, ℕ}
use Rattle.std.proofs.lemmas.Bool.Decides.{nat_tests}
use Rattle.std.proofs.lemmas.Bool.{eqb-true, ltb-true, true≢false}
use Rattle.std.specs.List.{list_any}
use Rattle.std.specs.Option.{option_or}
use Rattle.std.specs.Prelude.{◌==◌, ◌||◌, if◌then◌else◌, not}
use Rattle.wt_follows.proofs.Lists.{all-pass, flip, in-with, or-true, refuted, same}
use Rattle.wt_follows.proofs.RecordTold.{told-amid}
use Rattle.wt_follows.proofs.RestingCall.{record-alone, resting-call-follows}
use Rattle.wt_follows.specs.Roles.{is_in, is_member, waits}
use Rattle.wt_follows.specs.Tie.{Follows}
use Rattle.wt_kept.specs.Kept.{DriverNow}
use Rattle.wt_turn.specs.Reports.{if_same}
use Rattle.wt_sessions.specs.Connection.{is_opening, opened_for, opening_session, starts_opening}
use Rattle.wt_sessions.specs.Driver.{member_by, members_of, stream_table, transport_view, with_member}
use Rattle.wt_sessions.specs.DriverState.{DriverState, state_of}
use Rattle.wt_sessions.specs.Effect.{log_call}
use Rattle.wt_sessions.specs.Moment.{Fits, is_known, is_peers}
use Rattle.wt_sessions.specs.Scan.{is_unclassified}
use Rattle.wt_sessions.specs.Step.{after_entry}
use Rattle.wt_sessions.specs.StreamTable.{Waiting, with_id}
use Rattle.wt_turn.specs.Log.{CallRecord, Called, Log, OpeningStarted, StreamAccepted, calls_of, newest}
use Rattle.wt_turn.specs.declared.action.Action.{Action}
use Rattle.wt_wire.specs.declared.side.Side.{Side}

-- ---- ids in order

abbrev AllAbove : ℕ → List ℕ → Type 0
AllAbove n [] = Unit {0}
AllAbove n (x ∷ xs) = (n < x) × AllAbove n xs

-- each is above those before it
abbrev Ascend : List ℕ → Type 0
Ascend [] = Unit {0}
Ascend (x ∷ xs) = AllAbove x xs × Ascend xs

above-more : (m n : ℕ) (xs : List ℕ) → m < n → AllAbove n xs → AllAbove m xs
above-more m n [] l a = tt
above-more m n (x ∷ xs) l a = ((let o = a.0 in omega (arith, l, o)), above-more m n xs l a.1)

above-with : (n k : ℕ) (xs : List ℕ) → n < k → AllAbove n xs → AllAbove n (with_id k xs)
above-with n k [] l a = (l, tt)
above-with n k (x ∷ xs) l a = by (k == x) (nat_lt k x) (above-with n k xs l a.1)
  where
    by : (b c : Bool) → AllAbove n (with_id k xs) → AllAbove n (if b then x ∷ xs else (if c then k ∷ x ∷ xs else x ∷ with_id k xs))
    by true c again = a
    by false true again = (l, a)
    by false false again = (a.0, again)

ascend-with : (k : ℕ) (xs : List ℕ) → Ascend xs → Ascend (with_id k xs)
ascend-with k [] a = (tt, tt)
ascend-with k (x ∷ xs) a = by (k == x) refl (nat_lt k x) refl (ascend-with k xs a.1)
  where
    by : (b : Bool) → (k == x) ≡ b → (c : Bool) → nat_lt k x ≡ c → Ascend (with_id k xs) → Ascend (if b then x ∷ xs else (if c then k ∷ x ∷ xs else x ∷ with_id k xs))
    by true e c l again = a
    by false e true l again = let less : k < x = ltb-true k x l in ((less, above-more k x xs less a.0), a)
    by false e false l again = (above-with x k xs (grind (arith, nat_tests)) a.0, again)

not-above : (k n : ℕ) (xs : List ℕ) → k < n → AllAbove n xs → is_in k xs ≡ false
not-above k n [] l a = refl
not-above k n (x ∷ xs) l a = by (x == k) (let o = a.0 in grind (arith, nat_tests)) (not-above k n xs l a.1)
  where
    by : (b : Bool) → b ≡ false → is_in k xs ≡ false → (b || is_in k xs) ≡ false
    by true e again = absurd (true≢false e)
    by false e again = again

-- an id that is there isn't added
with-again : (k : ℕ) (xs : List ℕ) → Ascend xs → is_in k xs ≡ true → with_id k xs ≡ xs
with-again k [] a e = absurd cc
with-again k (x ∷ xs) a e = by (k == x) refl (nat_lt k x) refl (with-again k xs a.1)
  where
    by : (b : Bool) → (k == x) ≡ b → (c : Bool) → nat_lt k x ≡ c → (is_in k xs ≡ true → with_id k xs ≡ xs) → (if b then x ∷ xs else (if c then k ∷ x ∷ xs else x ∷ with_id k xs)) ≡ x ∷ xs
    by true f c l again = refl
    by false f true l again = absurd (true≢false (sym e ∙ ((λ i. (flip x k ∙ f) i || is_in k xs) ∙ not-above k x xs (ltb-true k x l) a.0)))
    by false f false l again = ap (λ (ys : List ℕ). x ∷ ys) (again ((λ i. sym (flip x k ∙ f) i || is_in k xs) ∙ e))

-- ---- the streams of a session

members-ascend : (rs : List CallRecord) (s : ℕ) → Ascend (members_of rs s)
members-ascend [] s = tt
members-ascend (r ∷ rs) s = by (member_by s r) (members-ascend rs s)
  where
    by : (o : Option ℕ) → Ascend (members_of rs s) → Ascend (with_member o (members_of rs s))
    by None again = again
    by (Some k) again = ascend-with k (members_of rs s) again

-- one that was is
still-in : (o : Option ℕ) (k : ℕ) (ids : List ℕ) → is_in k ids ≡ true → is_in k (with_member o ids) ≡ true
still-in None k ids e = e
still-in (Some j) k ids e = in-with k j ids ∙ (ap (λ (b : Bool). (j == k) || b) e ∙ or-true (j == k))

-- a stream that is being opened joined its session
opened-joined : (rs : List CallRecord) (k s : ℕ) → newest (opened_for k) rs ≡ Some s → (list_any (starts_opening k) rs ≡ true) × (is_in k (members_of rs s) ≡ true)
opened-joined [] k s e = absurd cc
opened-joined (OpeningStarted id session ∷ rs) k s e = by (id == k) refl e (opened-joined rs k s)
  where
    by : (b : Bool) → (id == k) ≡ b → option_or (if b then Some session else None) (newest (opened_for k) rs) ≡ Some s → (newest (opened_for k) rs ≡ Some s → (list_any (starts_opening k) rs ≡ true) × (is_in k (members_of rs s) ≡ true))
        → ((b || list_any (starts_opening k) rs) ≡ true) × (is_in k (with_member (if_same session s id) (members_of rs s)) ≡ true)
    by false f g again = let x = again g in (x.0, still-in (if_same session s id) k (members_of rs s) x.1)
    by true f g again = (refl, here (session == s) refl)
      where
        its : session ≡ s
        its = some-same session s g
          where
            some-same : (a b : ℕ) → Some a ≡ Some b → a ≡ b
            some-same a b h = ap (λ (o : Option ℕ). elim o [ Some n ↦ n | None ↦ a ]) h

        here : (c : Bool) → (session == s) ≡ c → is_in k (with_member (if c then Some id else None) (members_of rs s)) ≡ true
        here true h = in-with k id (members_of rs s) ∙ ap (λ (c : Bool). c || is_in k (members_of rs s)) f
        here false h = absurd (true≢false (sym (ap (λ (n : ℕ). n == s) its ∙ same s) ∙ h))
opened-joined (r ∷ rs) k s e = let x = opened-joined rs k s e in (x.0, still-in (member_by s r) k (members_of rs s) x.1)

members-of : (side : Side) (log : Log) → (state_of side log).dispatched.members ≡ members_of (calls_of log)
unfolding state_of
members-of side log = refl

-- a stream that is being opened was begun to be opened, and is one of its session's
pub opening-member : (side : Side) (log : Log) (id s : ℕ) → opening_session log id ≡ Some s → (list_any (starts_opening id) (calls_of log) ≡ true) × (is_member (state_of side log) s id ≡ true)
opening-member side log id s e =
    let x = opened-joined (calls_of log) id s (newest-of (is_opening log id) (newest (opened_for id) (calls_of log)) e) in
    (x.0, ap (λ (m : ℕ → List ℕ). is_in id (m s)) (members-of side log) ∙ x.1)
  where
    newest-of : (b : Bool) (o : Option ℕ) → (if b then o else None) ≡ Some s → o ≡ Some s
    newest-of true o f = f
    newest-of false o f = absurd cc

-- ---- the call's record

module _ (side : Side) (d : DriverNow) (log : Log) (uncollected : List Action) (f : Follows side d log uncollected) (fits : Fits side log) (id session : ℕ)
    (joined : is_member (state_of side log) session id ≡ true) (local : is_peers side id ≡ false) where
  abbrev s : DriverState
  s = state_of side log

  abbrev r : CallRecord
  r = StreamAccepted id session

  not-waiting : waits s id ≡ false
  not-waiting = refuted (waits s id) (λ e. true≢false (sym joined ∙ f.amid.work.roles.waiting_unjoined id session e))

  streams-same : filter (λ (w : Waiting). not (id == w.id)) s.dispatched.streams ≡ s.dispatched.streams
  streams-same = all-pass (λ (w : Waiting). not (id == w.id)) s.dispatched.streams ((λ i. list_any (λ (w : Waiting). back (id == w.id) i) s.dispatched.streams)
      ∙ ((λ i. list_any (λ (w : Waiting). flip id w.id i) s.dispatched.streams) ∙ not-waiting))
    where
      back : (b : Bool) → not (not b) ≡ b
      back true = refl
      back false = refl

  members-same : (j : ℕ) → (if session == j then with_id id (s.dispatched.members j) else s.dispatched.members j) ≡ s.dispatched.members j
  members-same j = by (session == j) refl
    where
      ascend : Ascend (s.dispatched.members session)
      ascend = subst (λ (m : ℕ → List ℕ). Ascend (m session)) (sym (members-of side log)) (members-ascend (calls_of log) session)

      by : (b : Bool) → (session == j) ≡ b → (if b then with_id id (s.dispatched.members j) else s.dispatched.members j) ≡ s.dispatched.members j
      by false e = refl
      by true e = subst (λ (n : ℕ). with_id id (s.dispatched.members n) ≡ s.dispatched.members n) (eqb-true session j e) (with-again id (s.dispatched.members session) ascend joined)

  state-same : after_entry (transport_view side log) (Called (StreamAccepted id session)) (state_of side log) ≡ state_of side log
  state-same = λ i. record s { dispatched = record s.dispatched { streams = streams-same i; members = λ j. members-same j i } }

  known : is_known side log id ≡ true
  known = ap (λ (b : Bool). not b || not (is_unclassified (stream_table side log) id)) local

  -- nothing more goes out
  pub given-alone : log_call side log [] (StreamAccepted id session) ≡ Called (StreamAccepted id session) ∷ log
  given-alone = record-alone side log (StreamAccepted id session) d uncollected f (known, fits)
      (record { unis = refl; bis = refl; sessions = refl; control = refl; encoder = refl; decoder = refl; progress = refl; sent = refl; is_open = refl })

  -- the driver follows the log with the call
  pub given-follows : Follows side d (log_call side log [] (StreamAccepted id session)) uncollected
  given-follows =
      resting-call-follows side log (StreamAccepted id session) fits known d uncollected f d.work refl (λ x. x) (state_of side log) state-same
      (record { unis = refl; bis = refl; sessions = refl; control = refl; encoder = refl; decoder = refl; progress = refl; sent = refl; is_open = refl })
      (told-amid side log (StreamAccepted id session) (record { gives = λ k. refl; reads = λ k. refl; resets = λ k. refl; priorities = λ k. refl }) d (state_of side log) f.position uncollected f.amid)
