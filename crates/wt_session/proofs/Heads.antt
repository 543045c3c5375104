-- What is left of a head once bytes of it went out.
use Rattle.std.proofs.Common.{◌∙◌, ap, arith, refl, sym, zero-add}
use Rattle.std.proofs.Math.Seq.{drop-nil}
use Rattle.std.proofs.lemmas.Bool.{eq-eqb}
use Rattle.std.proofs.lemmas.List.{length-append}
use Rattle.std.specs.Prelude.{[], ◌&&◌, ◌++◌, ◌+◌, ◌∷◌, ◌||◌, ◌≡◌, Bool, Err, List, Ok, Result, drop, false, if◌then◌else◌, is_some, length, not, suc, true, zero, ℕ}
use Rattle.wt_driver_laws.specs.Handing.{write_actions, write_answer, write_leaves}
use Rattle.wt_meaning.specs.Handshakes.{is_nothing}
use Rattle.wt_session.specs.Handshakes.{is_all_out}
use Rattle.wt_turn.specs.Joined.{send_of}
use Rattle.wt_turn.specs.Outgoing.{bytes_within_credit}
use Rattle.wt_turn.specs.Reports.{stop_of}
use Rattle.wt_turn.specs.Sent.{is_finished, sent_on}
use Rattle.wt_sessions.specs.Effect.{head_left, is_covered}
use Rattle.wt_turn.specs.Log.{Log, actions_of, events_of, is_open, with_actions}
use Rattle.wt_turn.specs.declared.action.Action.TheVariants as actions
use Rattle.wt_turn.specs.declared.poll.Poll.{Poll}
use Rattle.wt_turn.specs.declared.poll.Poll.TheVariants.{Pending, Ready}
use Rattle.wt_turn.specs.declared.proto_error.ProtoWriteError.{ProtoWriteError}
use Rattle.wt_turn.specs.declared.proto_error.ProtoWriteError.TheVariants as writes

suc-add : (m n : ℕ) → suc m + n ≡ suc (m + n)
suc-add m n = omega arith

drop-more : (m n : ℕ) (xs : List ℕ) → drop (m + n) xs ≡ drop n (drop m xs)
drop-more zero n xs = ap (λ (k : ℕ). drop k xs) (zero-add n)
drop-more (suc m) n [] = ap (λ (k : ℕ). drop {A = ℕ} k []) (suc-add m n) ∙ sym (drop-nil {A = ℕ} n)
drop-more (suc m) n (x ∷ xs) = ap (λ (k : ℕ). drop k (x ∷ xs)) (suc-add m n) ∙ drop-more m n xs

module _ (log : Log) (id : ℕ) (head left : List ℕ) (is : head_left log id head ≡ left) where
  pub sent-more-is : (bs : List ℕ) → head_left (with_actions (send_of id bs) log) id head ≡ drop (length bs) left
  sent-more-is [] = is
  sent-more-is (b ∷ bs) =
      ap (λ (c : Bool). drop (length (if c then sent_on (actions_of log) id ++ b ∷ bs else sent_on (actions_of log) id)) head) (eq-eqb id id refl)
      ∙ ap (λ (n : ℕ). drop n head) (length-append (sent_on (actions_of log) id) (b ∷ bs))
      ∙ drop-more (length (sent_on (actions_of log) id)) (length (b ∷ bs)) head ∙ ap (drop (length (b ∷ bs))) is

  -- after a write of what is left
  pub left-after : head_left (with_actions (write_actions log id left) log) id head ≡ write_leaves log id left
  left-after = by (is_open log && not (is_some (stop_of (events_of log) id)))
    where
      by : (b : Bool) → head_left (with_actions (if b then send_of id (bytes_within_credit log id left) else []) log) id head
          ≡ (if b then drop (length (bytes_within_credit log id left)) left else left)
      by true = sent-more-is (bytes_within_credit log id left)
      by false = is

module _ (log : Log) (id : ℕ) (left : List ℕ) where
  abbrev said : Bool → Bool → Bool → Poll (Result (Unit {0}) ProtoWriteError)
  said o s c = if not o then Ready (Err writes.NotConnected) else (if s then Ready (Err writes.Stopped) else (if c then Ready (Ok tt) else Pending))

  abbrev leaves : Bool → Bool → List ℕ
  leaves o s = if o && not s then drop (length (bytes_within_credit log id left)) left else left

  pub some-left : Pending ≡ write_answer log id left → is_nothing (write_leaves log id left) ≡ false
  some-left e = by (is_open log) (is_some (stop_of (events_of log) id)) (is_covered log id left) refl e
    where
      by : (o s c : Bool) → is_covered log id left ≡ c → Pending ≡ said o s c → is_nothing (leaves o s) ≡ false
      by false s c ec h = absurd cc
      by true true c ec h = absurd cc
      by true false true ec h = absurd cc
      by true false false ec h = ec

  pub none-left : Ready (Ok tt) ≡ write_answer log id left → write_leaves log id left ≡ []
  none-left e = by (is_open log) (is_some (stop_of (events_of log) id)) (is_covered log id left) refl e
    where
      empty : (xs : List ℕ) → is_nothing xs ≡ true → xs ≡ []
      empty [] h = refl
      empty (x ∷ xs) h = absurd cc

      by : (o s c : Bool) → is_covered log id left ≡ c → Ready (Ok tt) ≡ said o s c → leaves o s ≡ []
      by false s c ec h = absurd cc
      by true true c ec h = absurd cc
      by true false true ec h = empty (drop (length (bytes_within_credit log id left)) left) ec
      by true false false ec h = absurd cc

-- an answer that says that all is out
pub all-out : (w : Poll (Result (Unit {0}) ProtoWriteError)) → is_all_out w ≡ true → w ≡ Ready (Ok tt)
all-out (Ready (Ok u)) e = refl
all-out (Ready (Err x)) e = absurd cc
all-out Pending e = absurd cc

-- ---- a whole head, and its finish

-- all of what was left went out, and the stream was finished
pub all-sent : (log : Log) (id : ℕ) (head left : List ℕ) → head_left log id head ≡ left → head_left (with_actions (send_of id left ++ actions.Finish id ∷ []) log) id head ≡ []
all-sent log id head [] is = is
all-sent log id head (b ∷ bs) is = sent-more-is log id head (b ∷ bs) is (b ∷ bs) ∙ drop-all (b ∷ bs)
  where
    drop-all : (xs : List ℕ) → drop (length xs) xs ≡ []
    drop-all [] = refl
    drop-all (x ∷ xs) = drop-all xs

pub finished-after : (log : Log) (id : ℕ) (left : List ℕ) → is_finished (actions_of (with_actions (send_of id left ++ actions.Finish id ∷ []) log)) id ≡ true
finished-after log id [] = ap (λ (b : Bool). b || is_finished (actions_of log) id) (eq-eqb id id refl)
finished-after log id (b ∷ bs) = ap (λ (c : Bool). c || is_finished (actions_of log) id) (eq-eqb id id refl)

-- bytes finish nothing
pub unfinished-after : (log : Log) (id : ℕ) (left : List ℕ) → is_finished (actions_of (with_actions (write_actions log id left) log)) id ≡ is_finished (actions_of log) id
unfinished-after log id left = by (is_open log && not (is_some (stop_of (events_of log) id))) (bytes_within_credit log id left)
  where
    by : (b : Bool) (bs : List ℕ) → is_finished (actions_of (with_actions (if b then send_of id bs else []) log)) id ≡ is_finished (actions_of log) id
    by true [] = refl
    by true (b ∷ bs) = refl
    by false bs = refl
