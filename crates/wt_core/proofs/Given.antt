-- Calls on what the application has, by what the calls of the public types do.
use Rattle.std.proofs.Common.{ap, inl, refl, subst, sym, ◌∙◌}
use Rattle.std.specs.Prelude.{Bool, Err, IfOk, List, None, Ok, Option, Result, Some, false, true, ℕ, ◌≡◌}
use Rattle.wt_driver_laws.specs.Calling.{Did, Does, Within}
use Rattle.wt_driver_laws.specs.Driving.{Follows, IsReachable}
use Rattle.wt_driver_laws.specs.Replies.{done_reply}
use Rattle.wt_kept.specs.Kept.{DriverNow}
use Rattle.wt_core.proofs.Kept.{half-none, half-out, half-there, none-out, put-back, streams-after, streams-stay}
use Rattle.wt_core.specs.Answering.{Answered}
use Rattle.wt_core.specs.Calls.{receiving_id, sending_id}
use Rattle.wt_core.specs.Held.{Held, held_after}
use Rattle.wt_core.specs.HeldNow.{FindsStreams, HoldsStreams, OpeningNow, StreamsNow, held_by, session_of}
use Rattle.wt_core.specs.Rows.{HasPut, value_at}
use Rattle.wt_session.proofs.Sessions.{Rests, within}
use Rattle.wt_sessions.specs.Answers.{call_effect, may_call}
use Rattle.wt_turn.specs.Outgoing.{if_open}
use Rattle.wt_sessions.specs.Effect.{Effect, poll_only}
use Rattle.wt_sessions.specs.Halves.{finish, has_receiving_half, has_sending_half, on_half, priority, read, read_exact, reset, set_priority, stop_receiving, stopped, write, write_all}
use Rattle.wt_driver_laws.specs.Having.{HasReceiving, HasSending}
use Rattle.wt_turn.specs.Log.{Log, Polled, with_actions}
use Rattle.wt_turn.specs.declared.action.Action.TheVariants as actions
use Rattle.wt_turn.specs.declared.call.Call.{Call}
use Rattle.wt_turn.specs.declared.call.Call.TheVariants as calls
use Rattle.wt_turn.specs.declared.reply.Reply.{Reply}
use Rattle.wt_turn.specs.declared.reply.Reply.TheVariants as replies
use Rattle.wt_wire.specs.declared.side.Side.{Side}

-- ---- results

pub ok-both : {T E : Type 0} (r : Result T E) {P Q R : T → Type 0} → ((t : T) → P t → Q t → R t) → IfOk r P → IfOk r Q → IfOk r R
ok-both (Ok t) f p q = f t p q
ok-both (Err e) f p q = tt

pub ok-one : {T E : Type 0} (r : Result T E) {P R : T → Type 0} → ((t : T) → P t → R t) → IfOk r P → IfOk r R
ok-one (Ok t) f p = f t p
ok-one (Err e) f p = tt

pub no-some : {T : Type 0} (v : Option T) → ((t : T) → v ≡ Some t → ⊥) → v ≡ None
no-some None n = refl
no-some (Some t) n = absurd (n t refl)

-- ---- which call finds no half

pub no-sending : (side : Side) (log : Log) (call : Call) (k : ℕ) → sending_id call ≡ Some k → has_sending_half side log k ≡ false → poll_only side log replies.NoStream ≡ call_effect side log call
unfolding call_effect
no-sending side log (calls.Write id bytes) k e f = let same : id ≡ k = cc in ap (λ (b : Bool). on_half b side log (λ (j : ℕ). write side log j bytes) id) (sym (ap (has_sending_half side log) same ∙ f))
no-sending side log (calls.WriteAll id bytes) k e f = let same : id ≡ k = cc in ap (λ (b : Bool). on_half b side log (λ (j : ℕ). write_all side log j bytes) id) (sym (ap (has_sending_half side log) same ∙ f))
no-sending side log (calls.Finish id) k e f = let same : id ≡ k = cc in ap (λ (b : Bool). on_half b side log (λ (j : ℕ). finish side log j) id) (sym (ap (has_sending_half side log) same ∙ f))
no-sending side log (calls.Stopped id) k e f = let same : id ≡ k = cc in ap (λ (b : Bool). on_half b side log (λ (j : ℕ). stopped side log j) id) (sym (ap (has_sending_half side log) same ∙ f))
no-sending side log (calls.Priority id) k e f = let same : id ≡ k = cc in ap (λ (b : Bool). on_half b side log (λ (j : ℕ). priority side log j) id) (sym (ap (has_sending_half side log) same ∙ f))
no-sending side log (calls.SetPriority id p) k e f = let same : id ≡ k = cc in ap (λ (b : Bool). on_half b side log (λ (j : ℕ). set_priority side log j p) id) (sym (ap (has_sending_half side log) same ∙ f))
no-sending side log (calls.ResetSend id code) k e f = let same : id ≡ k = cc in ap (λ (b : Bool). on_half b side log (λ (j : ℕ). reset side log j code) id) (sym (ap (has_sending_half side log) same ∙ f))
no-sending side log _ k e f = absurd cc

pub no-receiving : (side : Side) (log : Log) (call : Call) (k : ℕ) → receiving_id call ≡ Some k → has_receiving_half side log k ≡ false → poll_only side log replies.NoStream ≡ call_effect side log call
unfolding call_effect
no-receiving side log (calls.Read id size) k e f = let same : id ≡ k = cc in ap (λ (b : Bool). on_half b side log (λ (j : ℕ). read side log j size) id) (sym (ap (has_receiving_half side log) same ∙ f))
no-receiving side log (calls.ReadExact id size) k e f = let same : id ≡ k = cc in ap (λ (b : Bool). on_half b side log (λ (j : ℕ). read_exact side log j size) id) (sym (ap (has_receiving_half side log) same ∙ f))
no-receiving side log _ k e f = absurd cc

pub sending-quiet : (call : Call) (k : ℕ) → sending_id call ≡ Some k → (a : Reply) (h : Held) → held_after call a h ≡ h
sending-quiet (calls.Write id bytes) k e a h = refl
sending-quiet (calls.WriteAll id bytes) k e a h = refl
sending-quiet (calls.Finish id) k e a h = refl
sending-quiet (calls.Stopped id) k e a h = refl
sending-quiet (calls.Priority id) k e a h = refl
sending-quiet (calls.SetPriority id p) k e a h = refl
sending-quiet (calls.ResetSend id code) k e a h = refl
sending-quiet _ k e a h = absurd cc

pub receiving-quiet : (call : Call) (k : ℕ) → receiving_id call ≡ Some k → (a : Reply) (h : Held) → held_after call a h ≡ h
receiving-quiet (calls.Read id size) k e a h = refl
receiving-quiet (calls.ReadExact id size) k e a h = refl
receiving-quiet _ k e a h = absurd cc

pub sending-other : (call : Call) (k : ℕ) → sending_id call ≡ Some k → (j : ℕ) → call ≡ calls.PollOpening j → ⊥
sending-other call k e j p = let q : sending_id (calls.PollOpening j) ≡ Some k = ap sending_id (sym p) ∙ e in cc

pub receiving-other : (call : Call) (k : ℕ) → receiving_id call ≡ Some k → (j : ℕ) → call ≡ calls.PollOpening j → ⊥
receiving-other call k e j p = let q : receiving_id (calls.PollOpening j) ≡ Some k = ap receiving_id (sym p) ∙ e in cc

-- ---- the same call, written otherwise

pub sending-same : (call x : Call) (id half : ℕ) → call ≡ x → sending_id call ≡ Some half → sending_id x ≡ Some id → id ≡ half
sending-same call x id half e f g = let q : Some id ≡ Some half = sym g ∙ ap sending_id (sym e) ∙ f in cc

pub receiving-same : (call x : Call) (id half : ℕ) → call ≡ x → receiving_id call ≡ Some half → receiving_id x ≡ Some id → id ≡ half
receiving-same call x id half e f g = let q : Some id ≡ Some half = sym g ∙ ap receiving_id (sym e) ∙ f in cc

-- what was done for a call was done for it in this form, with this reply
pub as-call : (side : Side) (log : Log) (collected : ℕ) (d : DriverNow) (answer reply : Reply) (x call : Call) → reply ≡ answer → x ≡ call → Did side d collected answer (call_effect side log x) → Did side d collected reply (call_effect side log call)
as-call side log collected d answer reply x call e f did = subst (λ (y : Call). Did side d collected reply (call_effect side log y)) f (record { reply = e ∙ did.reply; log = did.log })

-- ---- a call that leaves the streams

-- a look-up finds in both the same
pub record SameStreams (old new : StreamsNow) : Type 0 where
  pub sends : (k : ℕ) → value_at new.sends k ≡ value_at old.sends k
  pub recvs : (k : ℕ) → value_at new.recvs k ≡ value_at old.recvs k
  pub openings : (k : ℕ) → value_at new.openings k ≡ value_at old.openings k

module _ (side : Side) (log : Log) (collected : ℕ) (r : IsReachable side log) (call : Call) (may : may_call side log call ≡ true) (d : DriverNow) (old new : StreamsNow) (x : HoldsStreams side old log)
    (quiet : (a : Reply) → held_after call a (held_by side log) ≡ held_by side log) (other : (j : ℕ) → call ≡ calls.PollOpening j → ⊥) (same : SameStreams old new) where
  -- it did what the definitions say
  pub did-so : (answer : Reply) → Did side d collected answer (call_effect side log call) → Answered side log collected call answer d new
  did-so answer did = record { did = did; holds = streams-stay side log r call may old new x answer did.reply quiet other same.sends same.recvs same.openings }

  -- it found nothing to be called on
  pub did-nothing : (answer : Reply) → poll_only side log answer ≡ call_effect side log call → Follows side d log collected → Rests d → Answered side log collected call answer d new
  did-nothing answer e f rests = did-so answer (subst (λ (y : Effect). Did side d collected answer y) e (record { reply = refl; log = rests Polled refl side log collected f (within side log r) }))

-- ---- a half that is taken and put back

module _ (side : Side) (log : Log) (collected : ℕ) (d later : DriverNow) (old new : StreamsNow) (call : Call) (id : ℕ) (f : Follows side d log collected) (r : IsReachable side log) (x : HoldsStreams side old log) (may : may_call side log call ≡ true) where
  pub sending-nothing : (v : Option ℕ) → sending_id call ≡ Some id → v ≡ value_at old.sends id → v ≡ None → HasPut old.sends new.sends id None → new.recvs ≡ old.recvs → new.openings ≡ old.openings → Rests d
      → Answered side log collected call replies.NoStream d new
  sending-nothing v s is none put rs os rests = did-nothing side log collected r call may d old new x (λ a. sending-quiet call id s a (held_by side log)) (sending-other call id s)
      (record { sends = none-out old.sends new.sends id (sym is ∙ none) put; recvs = λ k. ap (λ (rows : List (List (Option ℕ))). value_at rows k) rs; openings = λ k. ap (λ (rows : List (List (Option OpeningNow))). value_at rows k) os })
      replies.NoStream (no-sending side log call id s (half-none (has_sending_half side log id) id (sym none ∙ is ∙ x.finds.sends id))) f rests

  pub sending-did : (v : Option ℕ) (half after : ℕ) (mid : List (List (Option ℕ))) (answer : Reply) → sending_id call ≡ Some id → v ≡ value_at old.sends id → v ≡ Some half → HasPut old.sends mid id None → HasPut mid new.sends id (Some after) → after ≡ half
      → new.recvs ≡ old.recvs → new.openings ≡ old.openings → (sending_id call ≡ Some half → Does d later (HasSending half) call (λ (y : Reply). y) answer) → Answered side log collected call answer later new
  sending-did v half after mid answer s is some out put same rs os does =
      let there : (has_sending_half side log id ≡ true) × (half ≡ id) = half-there (has_sending_half side log id) id half (sym some ∙ is ∙ x.finds.sends id) in
      did-so side log collected r call may later old new x (λ a. sending-quiet call id s a (held_by side log)) (sending-other call id s)
      (record {
        sends = put-back old.sends mid new.sends id half (sym is ∙ some) out (subst (λ (n : ℕ). HasPut mid new.sends id (Some n)) same put);
        recvs = λ k. ap (λ (rows : List (List (Option ℕ))). value_at rows k) rs;
        openings = λ k. ap (λ (rows : List (List (Option OpeningNow))). value_at rows k) os;
      })
      answer (does (s ∙ ap (λ (n : ℕ). Some n) (sym there.1)) side log collected f r (ap (has_sending_half side log) there.1 ∙ there.0))

  pub receiving-nothing : (v : Option ℕ) → receiving_id call ≡ Some id → v ≡ value_at old.recvs id → v ≡ None → HasPut old.recvs new.recvs id None → new.sends ≡ old.sends → new.openings ≡ old.openings → Rests d
      → Answered side log collected call replies.NoStream d new
  receiving-nothing v s is none put rs os rests = did-nothing side log collected r call may d old new x (λ a. receiving-quiet call id s a (held_by side log)) (receiving-other call id s)
      (record { recvs = none-out old.recvs new.recvs id (sym is ∙ none) put; sends = λ k. ap (λ (rows : List (List (Option ℕ))). value_at rows k) rs; openings = λ k. ap (λ (rows : List (List (Option OpeningNow))). value_at rows k) os })
      replies.NoStream (no-receiving side log call id s (half-none (has_receiving_half side log id) id (sym none ∙ is ∙ x.finds.recvs id))) f rests

  pub receiving-did : (v : Option ℕ) (half after : ℕ) (mid : List (List (Option ℕ))) (answer : Reply) → receiving_id call ≡ Some id → v ≡ value_at old.recvs id → v ≡ Some half → HasPut old.recvs mid id None → HasPut mid new.recvs id (Some after) → after ≡ half
      → new.sends ≡ old.sends → new.openings ≡ old.openings → (receiving_id call ≡ Some half → Does d later (HasReceiving half) call (λ (y : Reply). y) answer) → Answered side log collected call answer later new
  receiving-did v half after mid answer s is some out put same rs os does =
      let there : (has_receiving_half side log id ≡ true) × (half ≡ id) = half-there (has_receiving_half side log id) id half (sym some ∙ is ∙ x.finds.recvs id) in
      did-so side log collected r call may later old new x (λ a. receiving-quiet call id s a (held_by side log)) (receiving-other call id s)
      (record {
        recvs = put-back old.recvs mid new.recvs id half (sym is ∙ some) out (subst (λ (n : ℕ). HasPut mid new.recvs id (Some n)) same put);
        sends = λ k. ap (λ (rows : List (List (Option ℕ))). value_at rows k) rs;
        openings = λ k. ap (λ (rows : List (List (Option OpeningNow))). value_at rows k) os;
      })
      answer (does (s ∙ ap (λ (n : ℕ). Some n) (sym there.1)) side log collected f r (ap (has_receiving_half side log) there.1 ∙ there.0))

-- ---- a half that is given up

module _ (side : Side) (log : Log) (collected : ℕ) (d later : DriverNow) (old new : StreamsNow) (id code : ℕ) (f : Follows side d log collected) (r : IsReachable side log) (x : HoldsStreams side old log) (may : may_call side log (calls.StopRecv id code) ≡ true)
    (ss : new.sends ≡ old.sends) (os : new.openings ≡ old.openings) where
  holds-stopped : (answer : Reply) → answer ≡ (call_effect side log (calls.StopRecv id code)).reply → FindsStreams new (held_after (calls.StopRecv id code) answer (held_by side log)) → HoldsStreams side new (call_effect side log (calls.StopRecv id code)).log
  holds-stopped answer e finds = streams-after side log r (calls.StopRecv id code) may old new x answer e finds
      (λ k o is. inl (ap (λ (rows : List (List (Option OpeningNow))). value_at rows k) (sym os) ∙ is, λ t. let q : true ≡ false = ap is_poll (sym t) in cc))
    where
      is_poll : Call → Bool
      is_poll (calls.PollOpening id) = true
      is_poll _ = false

  pub stop-nothing : (v : Option ℕ) → v ≡ value_at old.recvs id → v ≡ None → HasPut old.recvs new.recvs id None → Rests d → Answered side log collected (calls.StopRecv id code) replies.NoStream d new
  unfolding call_effect
  stop-nothing v is none put rests =
      let e : poll_only side log replies.NoStream ≡ call_effect side log (calls.StopRecv id code)
      = ap (λ (b : Bool). on_half b side log (λ (j : ℕ). stop_receiving side log j code) id) (sym (half-none (has_receiving_half side log id) id (sym none ∙ is ∙ x.finds.recvs id))) in
      let did : Did side d collected replies.NoStream (call_effect side log (calls.StopRecv id code)) = subst (λ (y : Effect). Did side d collected replies.NoStream y) e (record { reply = refl; log = rests Polled refl side log collected f (within side log r) }) in
      record {
        did = did;
        holds = holds-stopped replies.NoStream did.reply (record {
          sends = λ k. ap (λ (rows : List (List (Option ℕ))). value_at rows k) ss ∙ x.finds.sends k;
          recvs = λ k. none-out old.recvs new.recvs id (sym is ∙ none) put k ∙ x.finds.recvs k;
          openings = λ k. ap (λ (rows : List (List (Option OpeningNow))). session_of (value_at rows k)) os ∙ x.finds.openings k;
        });
      }

  pub stop-did : (v : Option ℕ) (half : ℕ) → v ≡ value_at old.recvs id → v ≡ Some half → HasPut old.recvs new.recvs id None → Does d later (HasReceiving half) (calls.StopRecv half code) done_reply tt
      → Answered side log collected (calls.StopRecv id code) replies.Done later new
  stop-did v half is some put does =
      let there : (has_receiving_half side log id ≡ true) × (half ≡ id) = half-there (has_receiving_half side log id) id half (sym some ∙ is ∙ x.finds.recvs id) in
      let did : Did side later collected replies.Done (call_effect side log (calls.StopRecv id code))
      = subst (λ (k : ℕ). Did side later collected replies.Done (call_effect side log (calls.StopRecv k code))) there.1 (does side log collected f r (ap (has_receiving_half side log) there.1 ∙ there.0)) in
      record {
        did = did;
        holds = holds-stopped replies.Done did.reply (record {
          sends = λ k. ap (λ (rows : List (List (Option ℕ))). value_at rows k) ss ∙ x.finds.sends k;
          recvs = half-out old.recvs new.recvs (has_receiving_half side log) id x.finds.recvs put;
          openings = λ k. ap (λ (rows : List (List (Option OpeningNow))). session_of (value_at rows k)) os ∙ x.finds.openings k;
        });
      }

-- ---- the connection is closed

pub closes : (side : Side) (log : Log) (collected code : ℕ) (reason copied : List ℕ) (d later : DriverNow) (streams : StreamsNow) → copied ≡ reason → Within d (λ side log collected. Follows side later (with_actions (if_open log (actions.Close code copied)) log) collected) → Rests later
    → Follows side d log collected → IsReachable side log → HoldsStreams side streams log → may_call side log (calls.EndpointClose code reason) ≡ true → Answered side log collected (calls.EndpointClose code reason) replies.Done later streams
unfolding call_effect
closes side log collected code reason copied d later streams same close rests f r x may =
    did-so side log collected r (calls.EndpointClose code reason) may later streams streams x (λ a. refl) (λ j e. let q : true ≡ false = ap is_close e in cc) (record { sends = λ k. refl; recvs = λ k. refl; openings = λ k. refl }) replies.Done
    (subst (λ (xs : List ℕ). Did side later collected replies.Done (call_effect side log (calls.EndpointClose code xs))) same
    (record { reply = refl; log = rests Polled refl side (with_actions (if_open log (actions.Close code copied)) log) collected (close side log collected f (within side log r)) (record { before = log; own = if_open log (actions.Close code copied); reached = r; is = refl }) }))
  where
    is_close : Call → Bool
    is_close (calls.EndpointClose code reason) = true
    is_close _ = false
