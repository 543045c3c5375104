-- Where each lawful turn agrees, each lawful list does: pieces are their bytes, one after another.
use Rattle.std.specs.Prelude.{[], ◌%◌, ◌&&◌, ◌++◌, ◌==◌, ◌∷◌, ◌≡◌, Bool, List, false, if◌then◌else◌, not, true, ℕ}
use Rattle.std.proofs.Common.{◌∙◌, ap, arith, refl, subst, sym}
use Rattle.wt_meaning.specs.History.{History, actions_out, all_events, exists}
use Rattle.wt_meaning.specs.Lawful.{is_lawful, is_lost}
use Rattle.wt_meaning.specs.Meaning.{after_bytes, answer_to, bytes_actions, history_after, meaning_from, next, run_from, step}
use Rattle.wt_meaning.specs.Rows.{answer}
use Rattle.wt_promise.proofs.Actions.{opened-out}
use Rattle.wt_promise.proofs.Joins.{join_all-assoc}
use Rattle.wt_promise.specs.Promise.{AllLawful}
use Rattle.wt_turn.specs.Joined.{join_all, join_one, newest_first}
use Rattle.wt_turn.specs.Reports.{end_of, is_connected, is_running}
use Rattle.wt_turn.specs.Streams.{local_uni}
use Rattle.wt_sessions.specs.Answers.{AtUnlawful, actions_since, answers_from, log_after, receive}
use Rattle.wt_sessions.specs.Answers as answers
use Rattle.wt_sessions.specs.Driver.{apply_if, flush, is_moment, pending_actions}
use Rattle.wt_sessions_agree.proofs.AnswerLaws.{newest-append}
use Rattle.wt_sessions_agree.proofs.LawfulLaws.{lawful-agrees}
use Rattle.wt_sessions_agree.proofs.OutLaws.{acted, since-is}
use Rattle.wt_sessions_agree.proofs.StartLaws.{members-first, stands-first}
use Rattle.wt_sessions_agree.specs.Agreement.{Agree, EachTurnAgrees, ListsAgree, RunAgrees, RunsAgree, TurnAgrees, is_whole}
use Rattle.wt_turn.specs.Log.{Entry, Log, Received, actions_of, with_actions}
use Rattle.wt_turn.specs.Log as logs
use Rattle.wt_turn.specs.declared.action.Action.{Action}
use Rattle.wt_turn.specs.declared.answer.Answer.{Answer}
use Rattle.wt_turn.specs.declared.turn.Turn.{Turn}
use Rattle.wt_wire.specs.declared.side.Side.{Side}
use Rattle.wt_turn.specs.declared.reply.Reply.TheVariants as replies
use Rattle.wt_turn.specs.declared.turn.Turn.TheVariants as turns

-- ---- what a byte sends

-- the actions that a byte leads to in the log
byte-sends : (side : Side) (log : Log) (k b : ℕ) → (xs : List Action) × (actions_of (log_after side log (turns.Bytes k (b ∷ []))) ≡ newest_first xs (actions_of log))
unfolding flush
byte-sends side log k b = by (logs.is_open log) (is_moment (Received k b) && logs.is_open (Received k b ∷ log))
  where
    by : (o m : Bool) → (xs : List Action) × (actions_of (if o then apply_if m (with_actions (pending_actions side (Received k b ∷ log))) (Received k b ∷ log) else log)
        ≡ newest_first xs (actions_of log))
    by true true = (pending_actions side (Received k b ∷ log), acted (pending_actions side (Received k b ∷ log)) (Received k b ∷ log))
    by true false = ([], refl)
    by false m = ([], refl)

-- those of a piece
piece-sends : (side : Side) (log : Log) (k : ℕ) (piece : List ℕ) → (xs : List Action) × (actions_of (receive side log k piece) ≡ newest_first xs (actions_of log))
piece-sends side log k [] = ([], refl)
piece-sends side log k (b ∷ piece) =
    let one = byte-sends side log k b in
    let more = piece-sends side (log_after side log (turns.Bytes k (b ∷ []))) k piece in
    (one.0 ++ more.0, more.1 ∙ ap (newest_first more.0) one.1 ∙ sym (newest-append one.0 more.0 (actions_of log)))

-- what a piece sends is what its first byte sends, then what the others send
piece-since : (side : Side) (log : Log) (k b : ℕ) (piece : List ℕ)
    → actions_since log (receive side log k (b ∷ piece))
    ≡ join_all (actions_since log (log_after side log (turns.Bytes k (b ∷ []))))
    (actions_since (log_after side log (turns.Bytes k (b ∷ []))) (receive side (log_after side log (turns.Bytes k (b ∷ []))) k piece))
piece-since side log k b piece =
    let one = byte-sends side log k b in
    let more = piece-sends side (log_after side log (turns.Bytes k (b ∷ []))) k piece in
    since-is log (receive side log k (b ∷ piece)) (one.0 ++ more.0) (more.1 ∙ ap (newest_first more.0) one.1 ∙ sym (newest-append one.0 more.0 (actions_of log)))
    ∙ join-append [] one.0 more.0
    ∙ join_all-assoc (join_all [] one.0) [] more.0
    ∙ ap (λ (as_ : List Action). join_all as_ (join_all [] more.0)) (sym (since-is log (log_after side log (turns.Bytes k (b ∷ []))) one.0 one.1))
    ∙ ap (join_all (actions_since log (log_after side log (turns.Bytes k (b ∷ [])))))
    (sym (since-is (log_after side log (turns.Bytes k (b ∷ []))) (receive side (log_after side log (turns.Bytes k (b ∷ []))) k piece) more.0 more.1))
  where
    join-append : (before xs ys : List Action) → join_all before (xs ++ ys) ≡ join_all (join_all before xs) ys
    join-append before [] ys = refl
    join-append before (x ∷ xs) ys = join-append (join_one before x) xs ys

-- ---- a byte leaves the next lawful

still-there : (side : Side) (h : History) (k b : ℕ) → exists side h k ≡ true → exists side (step side h (turns.Bytes k (b ∷ []))) k ≡ true
still-there side h k b e =
    let l = opened-out (k % 4) (next side h (turns.Bytes k (b ∷ []))).actions (actions_out h) in grind (arith, e, l)

lawful-byte : (side : Side) (h : History) (k b c : ℕ) (piece later : List ℕ) → is_lawful side h (turns.Bytes k (b ∷ piece)) ≡ true
    → is_lawful side (step side h (turns.Bytes k (b ∷ []))) (turns.Bytes k (c ∷ later)) ≡ true
lawful-byte side h k b c piece later e = by (is_connected (all_events h)) (not (is_lost h)) (exists side h k) refl (not (k % 4 == local_uni side)) (is_running (end_of (all_events h) k)) e
  where
    by : (a l x : Bool) → exists side h k ≡ x → (r d : Bool) → (a && l && ((x && r) && d)) ≡ true → (a && l && ((exists side (step side h (turns.Bytes k (b ∷ []))) k && r) && d)) ≡ true
    by true true true q true true f = rw (still-there side h k b q) refl
    by false l x q r d f = absurd (cc f)
    by true false x q r d f = absurd (cc f)
    by true true false q r d f = absurd (cc f)
    by true true true q false d f = absurd (cc f)
    by true true true q true false f = absurd (cc f)

module _ (side : Side) (each : EachTurnAgrees side) where
  -- a piece, byte by byte
  record PieceAgrees (h : History) (log : Log) (k : ℕ) (piece : List ℕ) : Type 0 where
    same : actions_since log (receive side log k piece) ≡ bytes_actions side h k piece
    after : Agree side (after_bytes side h k piece) (receive side log k piece)

  no-actions : (log : Log) → actions_since log log ≡ []
  no-actions log = since-is log log [] refl

  piece-agrees : (piece : List ℕ) (h : History) (log : Log) (k : ℕ) → Agree side h log → is_lawful side h (turns.Bytes k piece) ≡ true → PieceAgrees h log k piece
  piece-agrees [] h log k x l = record { same = no-actions log; after = x }
  piece-agrees (b ∷ []) h log k x l =
      let one = each h log (turns.Bytes k (b ∷ [])) x refl l in
      record { same = ap (λ (a : Answer). a.actions) one.same; after = one.after }
  piece-agrees (b ∷ c ∷ piece) h log k x l =
      let one = each h log (turns.Bytes k (b ∷ [])) x refl l in
      let more = piece-agrees (c ∷ piece) (step side h (turns.Bytes k (b ∷ []))) (log_after side log (turns.Bytes k (b ∷ []))) k one.after (lawful-byte side h k b c (c ∷ piece) piece l) in
      record {
        same =
            piece-since side log k b (c ∷ piece) ∙ ap (λ (a : Answer). join_all a.actions
            (actions_since (log_after side log (turns.Bytes k (b ∷ []))) (receive side (log_after side log (turns.Bytes k (b ∷ []))) k (c ∷ piece)))) one.same
            ∙ ap (join_all (next side h (turns.Bytes k (b ∷ []))).actions) more.same;
        after = more.after;
      }

  -- any turn
  pub record AnyAgrees (h : History) (log : Log) (turn : Turn) : Type 0 where
    pub same : answer_to side h turn ≡ answers.answer_to side log turn
    pub after : Agree side (history_after side h turn) (log_after side log turn)

  plain : (h : History) (log : Log) (turn : Turn) → answer_to side h turn ≡ next side h turn → history_after side h turn ≡ step side h turn → TurnAgrees side h log turn → AnyAgrees h log turn
  plain h log turn a b t = record { same = a ∙ sym t.same; after = subst (λ (g : History). Agree side g (log_after side log turn)) (sym b) t.after }

  pub any-agrees : (h : History) (log : Log) (turn : Turn) → Agree side h log → is_lawful side h turn ≡ true → AnyAgrees h log turn
  any-agrees h log (turns.Bytes id piece) x l =
      let p = piece-agrees piece h log id x l in
      record { same = ap (answer replies.Done) (sym p.same); after = p.after }
  any-agrees h log turn x l = plain h log turn refl refl (each h log turn x refl l)

  -- ---- lists

  list-agrees : (all : List Turn) (h : History) (log : Log) → Agree side h log → AllLawful side h all → meaning_from side h all ≡ answers_from side log all
  list-agrees [] h log x l = refl
  list-agrees (turn ∷ all) h log x l =
      let t = any-agrees h log turn x l.0 in
      ap (λ (a : Answer). a ∷ meaning_from side (history_after side h turn) all) t.same
      ∙ ap (λ (as_ : List Answer). answers.answer_to side log turn ∷ as_) (list-agrees all (history_after side h turn) (log_after side log turn) t.after l.1)

  pub lists-agree : ListsAgree side
  lists-agree all l = list-agrees all [] [] ((λ k. 0), tt, members-first side, stands-first side (λ k. 0)) l

  -- a list of any turns: the first that isn't lawful is the same
  run-agrees : (all : List Turn) (h : History) (log : Log) → Agree side h log → RunAgrees side h log all
  run-agrees [] h log x = record { same = refl; as_far = refl }
  run-agrees (turn ∷ all) h log x = by (is_lawful side h turn) refl (λ g l y. run-agrees all g l y)
    where
      code : answers.is_lawful side log turn ≡ is_lawful side h turn
      code = sym (lawful-agrees side x.0 h log x.3 turn)

      -- the run in the code's form, where the turn is lawful and where it isn't
      pick : Bool → answers.Run
      pick b = elim b [
        | true ↦ answers.with_answer (answers.answer_to side log turn) (answers.run_from side (log_after side log turn) all)
        | false ↦ record { answers = []; stop = AtUnlawful }
      ]

      by : (b : Bool) → is_lawful side h turn ≡ b → ((g : History) (l : Log) → Agree side g l → RunAgrees side g l all) → RunAgrees side h log (turn ∷ all)
      by false e again =
          let f : answers.is_lawful side log turn ≡ false = code ∙ e in
          record { same = rw e (ap (λ (b : Bool). (pick b).answers) (sym f)); as_far = rw e (ap (λ (b : Bool). is_whole (pick b).stop) (sym f)) }
      by true e again =
          let f : answers.is_lawful side log turn ≡ true = code ∙ e in
          let t = any-agrees h log turn x e in
          let later = again (history_after side h turn) (log_after side log turn) t.after in
          record {
            same =
                rw e (ap (λ (a : Answer). a ∷ (run_from side (history_after side h turn) all).answers) t.same ∙ ap (λ (as_ : List Answer). answers.answer_to side log turn ∷ as_) later.same
                ∙ ap (λ (b : Bool). (pick b).answers) (sym f));
            as_far = rw e (later.as_far ∙ ap (λ (b : Bool). is_whole (pick b).stop) (sym f));
          }

  pub runs-agree : RunsAgree side
  runs-agree all = run-agrees all [] [] ((λ k. 0), tt, members-first side, stands-first side (λ k. 0))
