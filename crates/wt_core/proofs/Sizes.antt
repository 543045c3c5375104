-- A read that asks for no more than is unread does what one of the whole size does, and so does an exact read that asks for one byte more.
use Rattle.std.proofs.Common.{◌∙◌, ap, arith, refl, subst, sym}
use Rattle.std.proofs.Math.Dec.{eqb-suc-zero}
use Rattle.std.proofs.lemmas.Bool.{lt-ltb, ltb-false, ltb-true}
use Rattle.std.proofs.lemmas.List.{take_min}
use Rattle.std.specs.Prelude.{[], ◌<◌, ◌==◌, ◌∷◌, ◌≡◌, ◌≤◌, Bool, List, Some, false, if◌then◌else◌, length, min, nat_lt, suc, take, true, zero, ◌-◌, ℕ}
use Rattle.wt_driver_laws.specs.Calling.{Always, Did, Does}
use Rattle.wt_driver_laws.specs.Having.{HasReceiving}
use Rattle.wt_kept.specs.Kept.{DriverNow}
use Rattle.wt_sessions.specs.Answers.{call_effect}
use Rattle.wt_sessions.specs.Effect.{Effect, poll_only}
use Rattle.wt_sessions.specs.Halves.{exact_at_end, has_receiving_half, on_half, read, read_exact, read_reply, take_bytes, unread_body}
use Rattle.wt_turn.specs.Log.{Log, events_of}
use Rattle.wt_turn.specs.declared.call.Call.TheVariants as calls
use Rattle.wt_turn.specs.declared.reply.Reply.{Reply}
use Rattle.wt_turn.specs.declared.reply.Reply.TheVariants as replies
use Rattle.wt_turn.specs.Reports.{end_of}
use Rattle.wt_wire.specs.declared.side.Side.{Side}

-- ---- sizes

-- the lesser of a size and a number that isn't 0 is 0 where the size is
none-alike : (size n : ℕ) → 0 < n → (min size n == 0) ≡ (size == 0)
none-alike zero n some = let e : min zero n ≡ 0 = omega arith in ap (λ (k : ℕ). k == 0) e
none-alike (suc s) n some =
    let e : min (suc s) n ≡ suc (min s (n - 1)) = omega (arith, some) in
    ap (λ (k : ℕ). k == 0) e ∙ (eqb-suc-zero (min s (n - 1)) ∙ sym (eqb-suc-zero s))

-- of a list that is no longer than n, as many bytes are there
take-alike : (size n : ℕ) (bytes : List ℕ) → length bytes ≤ n → take (min size n) bytes ≡ take size bytes
take-alike size n bytes few =
    let e : min (min size n) (length bytes) ≡ min size (length bytes) = omega (arith, few) in
    sym (take_min (min size n) bytes) ∙ (ap (λ (k : ℕ). take k bytes) e ∙ take_min size bytes)

-- ---- the effects

on-half-so : (b : Bool) (side : Side) (log : Log) (call other : ℕ → Effect) (id : ℕ) → call id ≡ other id → on_half b side log call id ≡ on_half b side log other id
on-half-so true side log call other id e = e
on-half-so false side log call other id e = refl

module _ (side : Side) (log : Log) (id size n : ℕ) where
  abbrev unread : List ℕ
  unread = unread_body side log id

  replies-alike : (bytes : List ℕ) → take (min size n) bytes ≡ take size bytes → read_reply side log id (min size n) bytes ≡ read_reply side log id size bytes
  replies-alike [] e = refl
  replies-alike (b ∷ bytes) e = ap (λ (bs : List ℕ). take_bytes side log id bs (replies.Read (Some bs))) e

  reads-alike : length unread ≤ n → 0 < n → read side log id (min size n) ≡ read side log id size
  reads-alike few some =
      ap (λ (b : Bool). if b then poll_only side log (replies.Read (Some [])) else read_reply side log id (min size n) unread) (none-alike size n some)
      ∙ ap (λ (e : Effect). if size == 0 then poll_only side log (replies.Read (Some [])) else e) (replies-alike unread (take-alike size n unread few))

  -- an exact read of more than is unread
  exact-of-few : (count : ℕ) → length unread < count → read_exact side log id count ≡ exact_at_end side log id unread (end_of (events_of log) id)
  exact-of-few count more =
      ap (λ (b : Bool). if b then exact_at_end side log id unread (end_of (events_of log) id) else take_bytes side log id (take count unread) (replies.Exact (take count unread)))
      (lt-ltb (length unread) count more)

  exacts-alike : (n < size → length unread < n) → read_exact side log id (min size n) ≡ read_exact side log id size
  exacts-alike more = by (nat_lt n size) refl
    where
      by : (b : Bool) → nat_lt n size ≡ b → read_exact side log id (min size n) ≡ read_exact side log id size
      by false e =
          let le = ltb-false n size e in
          let same : min size n ≡ size = omega (arith, le) in ap (λ (k : ℕ). read_exact side log id k) same
      by true e =
          let lt = ltb-true n size e in
          let enough = more lt in
          let least : length unread < min size n = omega (arith, lt, enough) in
          let most : length unread < size = omega (arith, lt, enough) in exact-of-few (min size n) least ∙ sym (exact-of-few size most)

  pub read-effect : length unread ≤ n → 0 < n → call_effect side log (calls.Read id (min size n)) ≡ call_effect side log (calls.Read id size)
  unfolding call_effect
  read-effect few some = on-half-so (has_receiving_half side log id) side log (λ k. read side log k (min size n)) (λ k. read side log k size) id (reads-alike few some)

  pub exact-effect : (n < size → length unread < n) → call_effect side log (calls.ReadExact id (min size n)) ≡ call_effect side log (calls.ReadExact id size)
  unfolding call_effect
  exact-effect more = on-half-so (has_receiving_half side log id) side log (λ k. read_exact side log k (min size n)) (λ k. read_exact side log k size) id (exacts-alike more)

-- ---- the calls

-- so many bytes are unread on the half by the log
abbrev pub TellsUnread : DriverNow → ℕ → ℕ → Type 0
TellsUnread d id count = Always d (λ side log collected. HasReceiving id side log → count ≡ length (unread_body side log id))

-- a read of this size did what the definitions say, with this reply
abbrev pub DoesRead : DriverNow → DriverNow → ℕ → ℕ → Reply → Type 0
DoesRead d later id size answer = Does d later (HasReceiving id) (calls.Read id size) (λ (reply : Reply). reply) answer

-- an exact one did
abbrev pub DoesExact : DriverNow → DriverNow → ℕ → ℕ → Reply → Type 0
DoesExact d later id size answer = Does d later (HasReceiving id) (calls.ReadExact id size) (λ (reply : Reply). reply) answer

module _ (d later : DriverNow) (at id count : ℕ) (is : at ≡ id) (tells : TellsUnread d at count) (m size n : ℕ) (least : m ≡ min size n) (answer : Reply) where
  told : TellsUnread d id count
  told = subst (λ (k : ℕ). TellsUnread d k count) is tells

  pub reads-as : count ≤ n → 0 < n → DoesRead d later id m answer → DoesRead d later id size answer
  reads-as few some does side log collected f r has =
      let e = told side log collected f r has in
      subst (λ (x : Effect). Did side later collected answer x)
      (ap (λ (k : ℕ). call_effect side log (calls.Read id k)) least ∙ read-effect side log id size n (subst (λ (k : ℕ). k ≤ n) e few) some) (does side log collected f r has)

  pub exacts-as : (n < size → count < n) → DoesExact d later id m answer → DoesExact d later id size answer
  exacts-as more does side log collected f r has =
      let e = told side log collected f r has in
      subst (λ (x : Effect). Did side later collected answer x)
      (ap (λ (k : ℕ). call_effect side log (calls.ReadExact id k)) least ∙ exact-effect side log id size n (λ l. subst (λ (k : ℕ). k < n) e (more l))) (does side log collected f r has)
