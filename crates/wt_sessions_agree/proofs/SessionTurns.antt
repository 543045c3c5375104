-- The established sessions after a call are the same in both, by id.
use Rattle.std.specs.Prelude.{[], ◌*◌, ◌+◌, ◌/◌, ◌<◌, ◌==◌, ◌∷◌, ◌||◌, ◌≡◌, ◌≤◌, Bool, List, None, Option, Some, false, filter_map, if◌then◌else◌, nat_lt, suc, true, zero, ℕ}
use Rattle.std.specs.List.{cons_option, list_any}
use Rattle.std.proofs.Common.{◌∙◌, ap, arith, refl, sym}
use Rattle.std.proofs.lemmas.Bool.{eq-eqb, eqb-true, lt-ltb, ltb-true}
use Rattle.wt_meaning.specs.History.{History, Pair, stream_count}
use Rattle.wt_meaning.specs.Lawful.{is_lawful}
use Rattle.wt_meaning.specs.Meaning.{next, own_answer, step}
use Rattle.wt_meaning.specs.Moments.{findings, ids_from}
use Rattle.wt_meaning.specs.Windows.{establishes, is_established, session_in}
use Rattle.wt_promise.proofs.Few.{new-session}
use Rattle.wt_promise.proofs.Flow.{swapped}
use Rattle.wt_promise.proofs.Phases.{same-established}
use Rattle.wt_promise.proofs.Stays.{count-stays}
use Rattle.wt_promise.specs.Promise.{IsHistory}
use Rattle.wt_sessions.specs.Driver.{call_view, sessions_after, sessions_of, with_session}
use Rattle.wt_sessions.specs.Driver as drivers
use Rattle.wt_sessions.specs.StreamTable.{Session, is_session, was_established}
use Rattle.wt_sessions_agree.proofs.Basics.{or-turned}
use Rattle.wt_sessions_agree.proofs.RecordLaws.{established-by}
use Rattle.wt_sessions_agree.proofs.ThereLaws.{IsFirstKind, established-there, none-behind}
use Rattle.wt_sessions_agree.proofs.TurnKeeps.{more-ids}
use Rattle.wt_sessions_agree.specs.Orderly.{begins_at, session_at}
use Rattle.wt_sessions_agree.specs.Records.{record_of}
use Rattle.wt_sessions_agree.specs.Stands.{Stands}
use Rattle.wt_turn.specs.Log.{CallRecord, Log, SessionEstablished, calls_of}
use Rattle.wt_turn.specs.declared.answer.Answer.{Answer}
use Rattle.wt_turn.specs.declared.call.Call.{Call}
use Rattle.wt_turn.specs.declared.reply.Reply.{Reply}
use Rattle.wt_wire.specs.declared.side.Side.{Side}
use Rattle.wt_turn.specs.declared.reply.Reply.TheVariants as replies
use Rattle.wt_turn.specs.declared.turn.Turn.TheVariants as turns

-- ---- one record more

-- a record that establishes none
none-more : (r : CallRecord) (before : List Session) → drivers.establishes r ≡ None → sessions_after r before ≡ before
none-more (SessionEstablished id offset) before e = absurd (cc e)
none-more r before e = refl

-- the reply that gives a session
pub session-reply : (r : Reply) (id : ℕ) → session_in r ≡ Some id → r ≡ replies.Session id
session-reply (replies.Session n) id e = ap (λ (k : ℕ). replies.Session k) (cc e)
session-reply r id e = absurd (cc e)

any-with : (s : ℕ) (y : Session) (xs : List Session) → list_any (is_session s) (with_session y xs) ≡ (is_session s y || list_any (is_session s) xs)
any-with s y [] = refl
any-with s y (x ∷ xs) = by (nat_lt y.id x.id) (any-with s y xs)
  where
    by : (b : Bool) → list_any (is_session s) (with_session y xs) ≡ (is_session s y || list_any (is_session s) xs)
        → list_any (is_session s) (if b then y ∷ x ∷ xs else x ∷ with_session y xs) ≡ (is_session s y || (is_session s x || list_any (is_session s) xs))
    by true e = refl
    by false e = ap (λ (b : Bool). is_session s x || b) e ∙ or-turned (is_session s x) (is_session s y) (list_any (is_session s) xs)

-- ---- a session more, by id

-- offsets with one more
abbrev pub with-offset : ℕ → ℕ → (ℕ → ℕ) → ℕ → ℕ
with-offset id start offset k = if k == id then start else offset k

module _ (h : History) (offset : ℕ → ℕ) (y : Session) (m : ℕ) (is : y.id ≡ 4 * m + 0) where
  -- in front of greater ones
  in-front : (i c : ℕ) → m < i → with_session y (filter_map (session_at h offset) (ids_from 0 i c)) ≡ y ∷ filter_map (session_at h offset) (ids_from 0 i c)
  in-front i zero lt = refl
  in-front i (suc c) lt = by (is_established h (4 * i + 0)) (in-front (suc i) c (omega (arith, lt)))
    where
      below : nat_lt y.id (4 * i + 0) ≡ true
      below = lt-ltb y.id (4 * i + 0) (omega (arith, lt, is))

      by : (b : Bool) → with_session y (filter_map (session_at h offset) (ids_from 0 (suc i) c)) ≡ y ∷ filter_map (session_at h offset) (ids_from 0 (suc i) c)
          → with_session y (cons_option (if b then Some (record { id = 4 * i + 0; offset = offset (4 * i + 0) }) else None) (filter_map (session_at h offset) (ids_from 0 (suc i) c)))
          ≡ y ∷ cons_option (if b then Some (record { id = 4 * i + 0; offset = offset (4 * i + 0) }) else None) (filter_map (session_at h offset) (ids_from 0 (suc i) c))
      by true again = rw below refl
      by false again = again

  module _ (after : History) (offset2 : ℕ → ℕ) (others : (k : ℕ) → (k == y.id) ≡ false → session_at after offset2 k ≡ session_at h offset k)
      (old : is_established h y.id ≡ false) (new : session_at after offset2 y.id ≡ Some y) where
    apart : (i : ℕ) → (i ≡ m → ⊥) → (4 * i + 0 == y.id) ≡ false
    apart i f = by (4 * i + 0 == y.id) refl
      where
        by : (b : Bool) → (4 * i + 0 == y.id) ≡ b → b ≡ false
        by false e = refl
        by true e = absurd (let q = eqb-true (4 * i + 0) y.id e in f (omega (arith, q, is)))

    behind-same : (i c : ℕ) → m < i → filter_map (session_at after offset2) (ids_from 0 i c) ≡ filter_map (session_at h offset) (ids_from 0 i c)
    behind-same i zero lt = refl
    behind-same i (suc c) lt =
        ap (λ (o : Option Session). cons_option o (filter_map (session_at after offset2) (ids_from 0 (suc i) c))) (others (4 * i + 0) (apart i (λ q. omega (arith, q, lt))))
        ∙ ap (cons_option (session_at h offset (4 * i + 0))) (behind-same (suc i) c (omega (arith, lt)))

    inserted : (i c : ℕ) → i ≤ m → m < i + c → with_session y (filter_map (session_at h offset) (ids_from 0 i c)) ≡ filter_map (session_at after offset2) (ids_from 0 i c)
    inserted i zero le lt = absurd (omega (arith, le, lt))
    inserted i (suc c) le lt = by (i == m) refl (inserted (suc i) c)
      where
        rest : List Session
        rest = filter_map (session_at h offset) (ids_from 0 (suc i) c)

        past : (b : Bool) → is_established h (4 * i + 0) ≡ b → (i ≡ m → ⊥) → with_session y rest ≡ filter_map (session_at after offset2) (ids_from 0 (suc i) c)
            → with_session y (cons_option (session_at h offset (4 * i + 0)) rest) ≡ cons_option (session_at after offset2 (4 * i + 0)) (filter_map (session_at after offset2) (ids_from 0 (suc i) c))
        past b e f again =
            ap (λ (o : Option Session). with_session y (cons_option o rest)) (here b e) ∙ on b
            ∙ ap (λ (o : Option Session). cons_option o (filter_map (session_at after offset2) (ids_from 0 (suc i) c))) (sym (here b e) ∙ sym (others (4 * i + 0) (apart i f)))
          where
            here : (b : Bool) → is_established h (4 * i + 0) ≡ b → session_at h offset (4 * i + 0) ≡ (if b then Some (record { id = 4 * i + 0; offset = offset (4 * i + 0) }) else None)
            here b e = rw e refl

            above : nat_lt y.id (4 * i + 0) ≡ false
            above = not-below (nat_lt y.id (4 * i + 0)) refl
              where
                not-below : (b : Bool) → nat_lt y.id (4 * i + 0) ≡ b → b ≡ false
                not-below false q = refl
                not-below true q = absurd (let l = ltb-true y.id (4 * i + 0) q in omega (arith, l, is, le))

            on : (b : Bool) → with_session y (cons_option (if b then Some (record { id = 4 * i + 0; offset = offset (4 * i + 0) }) else None) rest)
                ≡ cons_option (if b then Some (record { id = 4 * i + 0; offset = offset (4 * i + 0) }) else None) (filter_map (session_at after offset2) (ids_from 0 (suc i) c))
            on true = rw above (ap (λ (xs : List Session). record { id = 4 * i + 0; offset = offset (4 * i + 0) } ∷ xs) again)
            on false = again

        by : (b : Bool) → (i == m) ≡ b → (suc i ≤ m → m < suc i + c → with_session y rest ≡ filter_map (session_at after offset2) (ids_from 0 (suc i) c))
            → with_session y (filter_map (session_at h offset) (ids_from 0 i (suc c))) ≡ filter_map (session_at after offset2) (ids_from 0 i (suc c))
        by false e again =
            let f : i ≡ m → ⊥ = λ q. absurd (let t = eq-eqb i m q in cc (sym t ∙ e)) in
            past (is_established h (4 * i + 0)) refl f (again (omega (arith, le, f)) (omega (arith, lt)))
        by true e again =
            let at : 4 * i + 0 ≡ y.id = let q = eqb-true i m e in omega (arith, q, is) in
            let none : session_at h offset (4 * i + 0) ≡ None = rw (at, old) refl in
            ap (λ (o : Option Session). with_session y (cons_option o rest)) none
            ∙ in-front (suc i) c (let q = eqb-true i m e in omega (arith, q))
            ∙ ap (λ (xs : List Session). y ∷ xs) (sym (behind-same (suc i) c (let q = eqb-true i m e in omega (arith, q))))
            ∙ ap (λ (o : Option Session). cons_option o (filter_map (session_at after offset2) (ids_from 0 (suc i) c))) (sym new ∙ ap (session_at after offset2) (sym at))

-- ---- calls

same-ats : (h after : History) (offset : ℕ → ℕ) → ((k : ℕ) → is_established after k ≡ is_established h k) → (ids : List ℕ)
    → filter_map (session_at after offset) ids ≡ filter_map (session_at h offset) ids
same-ats h after offset e [] = refl
same-ats h after offset e (k ∷ ids) =
    ap (λ (b : Bool). cons_option (if b then Some (record { id = k; offset = offset k }) else None) (filter_map (session_at after offset) ids)) (e k)
    ∙ ap (cons_option (session_at h offset k)) (same-ats h after offset e ids)

module _ (side : Side) (offset : ℕ → ℕ) (h : History) (log : Log) (x : Stands side offset h log) (hist : IsHistory side h) (c : Call) (lawful : is_lawful side h (turns.Call c) ≡ true) where
  abbrev own : Answer
  own = own_answer side h (turns.Call c)

  abbrev after : History
  after = step side h (turns.Call c)

  abbrev pair : Pair
  pair = record { turn = turns.Call c; answer = next side h (turns.Call c) }

  -- more streams are no sessions yet
  more-streams : filter_map (session_at h offset) (ids_from 0 0 (stream_count side after 0)) ≡ filter_map (session_at h offset) (ids_from 0 0 (stream_count side h 0))
  more-streams = more-ids h offset 0 (stream_count side h 0) (stream_count side after 0) (count-stays side pair h 0) (λ m l. none-behind side h hist m (omega (arith, l)))

  module _ (log2 : Log) (called : calls_of log2 ≡ record_of side h c own.reply ∷ calls_of log) where
    -- a call that establishes none
    none-now : session_in own.reply ≡ None → (call_view log2).sessions ≡ (call_view log).sessions
    none-now e = ap sessions_of called ∙ none-more (record_of side h c own.reply) (sessions_of (calls_of log)) (established-by side h c own.reply ∙ e)

    pub sessions-call : session_in own.reply ≡ None → (call_view log2).sessions ≡ filter_map (session_at after offset) (ids_from 0 0 (stream_count side after 0))
    sessions-call e =
        none-now e ∙ x.sessions ∙ sym more-streams
        ∙ sym (same-ats h after offset (λ k. same-established pair h k e) (ids_from 0 0 (stream_count side after 0)))

    -- one that does
    one-now : (id : ℕ) → own.reply ≡ replies.Session id → (call_view log2).sessions ≡ with_session (record { id = id; offset = begins_at h (findings side h) id }) (call_view log).sessions
    one-now id e = ap sessions_of called ∙ ap (λ (r : Reply). sessions_after (record_of side h c r) (sessions_of (calls_of log))) e

    pub sessions-session : (id : ℕ) → own.reply ≡ replies.Session id
        → (call_view log2).sessions ≡ filter_map (session_at after (with-offset id (begins_at h (findings side h) id) offset)) (ids_from 0 0 (stream_count side after 0))
    sessions-session id e =
        one-now id e ∙ ap (with_session y) (x.sessions ∙ sym more-streams)
        ∙ inserted h offset y (id / 4) is after (with-offset id (begins_at h (findings side h) id) offset) others (new-session side h (turns.Call c) hist lawful id (ap session_in e)) new 0
        (stream_count side after 0) (omega arith) (omega (arith, there.there))
      where
        y : Session
        y = record { id = id; offset = begins_at h (findings side h) id }

        now : (k : ℕ) → is_established after k ≡ ((id == k) || is_established h k)
        now k = ap (λ (r : Reply). list_any (λ (j : ℕ). j == k) (cons_option (session_in r) (filter_map establishes h))) e

        same : (id == id) ≡ true
        same = eq-eqb id id refl

        there : IsFirstKind side after id
        there = established-there side after (lawful, refl, hist) id (now id ∙ ap (λ (b : Bool). b || is_established h id) same)

        is : id ≡ 4 * (id / 4) + 0
        is = let z = there.kind in omega (arith, z)

        others : (k : ℕ) → (k == id) ≡ false → session_at after (with-offset id (begins_at h (findings side h) id) offset) k ≡ session_at h offset k
        others k q =
            ap (λ (b : Bool). if b then Some (record { id = k; offset = if k == id then begins_at h (findings side h) id else offset k }) else None)
            (now k ∙ ap (λ (b : Bool). b || is_established h k) (swapped k id q))
            ∙ ap (λ (b : Bool). if is_established h k then Some (record { id = k; offset = if b then begins_at h (findings side h) id else offset k }) else None) q

        new : session_at after (with-offset id (begins_at h (findings side h) id) offset) id ≡ Some y
        new =
            let e1 : is_established after id ≡ true = now id ∙ ap (λ (b : Bool). b || is_established h id) same in
            ap (λ (b : Bool). if b then Some (record { id = id; offset = if id == id then begins_at h (findings side h) id else offset id }) else None) e1
            ∙ ap (λ (b : Bool). Some (record { id = id; offset = if b then begins_at h (findings side h) id else offset id })) same

    -- both say the same of each session
    pub calls-established : (s : ℕ) → was_established (call_view log2) s ≡ is_established after s
    calls-established s = by (session_in own.reply) refl
      where
        by : (o : Option ℕ) → session_in own.reply ≡ o → was_established (call_view log2) s ≡ is_established after s
        by None e = ap (list_any (is_session s)) (none-now e) ∙ x.calls.established s ∙ sym (same-established pair h s e)
        by (Some id) e =
            ap (list_any (is_session s)) (one-now id (session-reply own.reply id e)) ∙ any-with s (record { id = id; offset = begins_at h (findings side h) id }) (call_view log).sessions
            ∙ ap (λ (b : Bool). (id == s) || b) (x.calls.established s)
            ∙ sym (ap (λ (o : Option ℕ). list_any (λ (j : ℕ). j == s) (cons_option o (filter_map establishes h))) e)
