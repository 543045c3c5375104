-- A driver whose actions are collected after each turn of the transport gives the answers that the turns have.
use Rattle.std.proofs.Common.{◌-◌, ◌∙◌, ◌≡◌, ◌++◌, ◌∷◌, List, [], ap, arith, length, length-append, refl, sym, take, true, ℕ}
use Rattle.wt_follows.proofs.PutFollows.{Came}
use Rattle.wt_follows.proofs.TurnFollows.{Pieces, first-came, turn-follows}
use Rattle.wt_follows.specs.Answering.{AllCome, answers_now, collected_now}
use Rattle.wt_follows.specs.Tie.{Amid}
use Rattle.wt_kept.specs.Calling.{driver_at_first, turn_now}
use Rattle.wt_kept.specs.Kept.{DriverNow}
use Rattle.wt_transport.proofs.Refining.{collected_refines, refined_actions}
use Rattle.wt_turn.specs.Arrivals.{fits}
use Rattle.wt_turn.specs.Joined.{joined_actions}
use Rattle.wt_sessions.specs.Answers.{actions_since, answers_from, answers_to, log_after, turn_effect}
use Rattle.wt_sessions.specs.DriverState.{state_of}
use Rattle.wt_turn.specs.Log.{Log, actions_of}
use Rattle.wt_turn.specs.declared.action.Action.{Action}
use Rattle.wt_turn.specs.declared.reply.Reply.TheVariants as replies
use Rattle.wt_turn.specs.declared.turn.Turn.{Turn}
use Rattle.wt_turn.specs.declared.turn.Turn.TheVariants as turns
use Rattle.wt_wire.specs.declared.side.Side.{Side}

-- ---- what is collected

-- of the actions in front of others as many are left as there are
front-left : (xs ys : List Action) → take (length xs) (xs ++ ys) ≡ xs
front-left [] ys = refl
front-left (x ∷ xs) ys = ap (λ zs. x ∷ zs) (front-left xs ys)

since-left : (xs ys : List Action) → take (length (xs ++ ys) - length ys) (xs ++ ys) ≡ xs
since-left xs ys = ap (λ (n : ℕ). take n (xs ++ ys)) (let e = length-append xs ys in omega (arith, e)) ∙ front-left xs ys

module _ (side : Side) (d : DriverNow) (log : Log) where
  -- what a driver has to collect is what went out since
  pub to-collect : (before : Log) → Came side (actions_of before) d log → d.work.transport.actions ≡ actions_since before log
  to-collect before c =
      refined_actions side d.work.transport log c.follows.position c.uncollected c.follows.amid.work.transport
      ∙ ap joined_actions (sym (ap (λ (xs : List Action). take (length xs - length (actions_of before)) xs) c.all ∙ since-left c.uncollected (actions_of before)))

  module _ (old : List Action) (c : Came side old d log) where
    abbrev a : Amid side d log (state_of side log) [] c.follows.position c.uncollected
    a = c.follows.amid

    -- collected, it follows the log still
    pub collected-comes : Came side (actions_of log) (collected_now d) log
    collected-comes = record {
      uncollected = [];
      follows = record {
        position = c.follows.position;
        amid = record {
          work = record {
            transport = collected_refines side d.work.transport log c.follows.position c.uncollected a.work.transport;
            is_open_same = a.work.is_open_same;
            keeps = a.work.keeps;
            roles = a.work.roles;
            placed = a.work.placed;
            there = a.work.there;
            sends = a.work.sends;
            control = a.work.control;
            sessions = a.work.sessions;
          };
          kinds = a.kinds;
          few = a.few;
          own = a.own;
          allowed = a.allowed;
          unis = λ x. let r = a.unis x in record { ordered = r.ordered; few = r.few; same_ids = r.same_ids; read = r.read };
          bis = λ x. let r = a.bis x in record { ordered = r.ordered; few = r.few; same_ids = r.same_ids; read = r.read };
          datagrams = a.datagrams;
          response = a.response;
        };
        rests = λ x. let r = c.follows.rests x in record {
          finds = r.finds;
          unis = r.unis;
          bis = r.bis;
          control = r.control;
          sessions = r.sessions;
          unready = r.unready;
          first_unis = r.first_unis;
          first_bis = r.first_bis;
        };
      };
      all = refl;
      fits = c.fits;
    }

-- ---- the answers

-- a turn of the transport is done
done : (side : Side) (log : Log) (turn : Turn) → fits side log turn ≡ true → (turn_effect side log turn).reply ≡ replies.Done
done side log (turns.Call call) lawful = absurd cc
done side log turn lawful = refl

module _ (side : Side) (pieces : (old : List Action) → Pieces side old) where
  -- the answers are those of the turns
  pub answers-same : (all : List Turn) (d : DriverNow) (log : Log) → Came side (actions_of log) d log → AllCome side log all → answers_now all d ≡ answers_from side log all
  answers-same [] d log c come = refl
  answers-same (turn ∷ later) d log c come =
      let after : Came side (actions_of log) (turn_now turn d) (log_after side log turn) = turn-follows side (actions_of log) (pieces (actions_of log)) d log turn c come.0 in
      both come.0 (to-collect side (turn_now turn d) (log_after side log turn) log after)
      (answers-same later (collected_now (turn_now turn d)) (log_after side log turn) (collected-comes side (turn_now turn d) (log_after side log turn) (actions_of log) after) come.1)
    where
      both : fits side log turn ≡ true → (turn_now turn d).work.transport.actions ≡ actions_since log (log_after side log turn)
          → answers_now later (collected_now (turn_now turn d)) ≡ answers_from side (log_after side log turn) later → answers_now (turn ∷ later) d ≡ answers_from side log (turn ∷ later)
      both lawful one others = λ i. record { reply = sym (done side log turn lawful) i; actions = one i } ∷ others i

  -- from the start too
  pub answers-reached : (all : List Turn) → AllCome side [] all → answers_now all (driver_at_first side) ≡ answers_to side all
  answers-reached all come = answers-same all (driver_at_first side) [] (first-came side) come
