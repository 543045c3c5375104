-- The application, an endpoint or a handshake closes the connection: the driver follows the log with what goes out.
use Rattle.std.proofs.Common.{◌∙◌, ◌≡◌, ◌∷◌, Bool, List, [], false, refl, sym, true, true≢false, ℕ}
use Rattle.std.specs.Prelude.{◌&&◌, if◌then◌else◌, is_none}
use Rattle.wt_follows.proofs.SentFollows.{Harmless, sent-follows}
use Rattle.wt_follows.specs.Tie.{Follows}
use Rattle.wt_kept.specs.Calling.{close_now}
use Rattle.wt_kept.specs.Kept.{DriverNow}
use Rattle.wt_transport.proofs.Refining.{close_refines}
use Rattle.wt_transport.specs.Step.{after_close}
use Rattle.wt_turn.specs.Joined.{newest_first}
use Rattle.wt_turn.specs.Outgoing.{if_open}
use Rattle.wt_sessions.specs.DriverState.{state_of}
use Rattle.wt_sessions.specs.Moment.{Fits}
use Rattle.wt_turn.specs.Log.{Log, is_open, with_actions}
use Rattle.wt_turn.specs.declared.action.Action.{Action}
use Rattle.wt_turn.specs.declared.action.Action.TheVariants as actions
use Rattle.wt_wire.specs.declared.side.Side.{Side}

module _ (side : Side) (d : DriverNow) (log : Log) (uncollected : List Action) (f : Follows side d log uncollected) (fits : Fits side log) (code : ℕ) (reason : List ℕ) where
  abbrev own : List Action
  own = if_open log (actions.Close code reason)

  abbrev g : Log
  g = with_actions own log

  safe-if : (b : Bool) → Harmless side log (if b then actions.Close code reason ∷ [] else [])
  safe-if true = record { there = λ k x. x; peers = (refl, refl); kinds = f.amid.work.there.kinds; control = refl; living = f.amid.work.sends.living; unfinished = f.amid.work.sends.own.0; unreset = f.amid.work.sends.own.1 }
  safe-if false = record { there = λ k x. x; peers = (refl, refl); kinds = f.amid.work.there.kinds; control = refl; living = f.amid.work.sends.living; unfinished = f.amid.work.sends.own.0; unreset = f.amid.work.sends.own.1 }

  closed-if : (b : Bool) → is_open log ≡ b → is_open (with_actions (if b then actions.Close code reason ∷ [] else []) log) ≡ false
  closed-if true e = refl
  closed-if false e = e

  closed : is_open g ≡ false
  closed = closed-if (is_open log) refl

  open-is : (l : Log) → (state_of side l).is_open ≡ is_open l
  unfolding state_of
  open-is l = refl

  pub close-follows : Follows side (close_now code reason d) g (newest_first own uncollected)
  unfolding close_now
  close-follows =
      let s = sent-follows side d log uncollected f fits own (safe-if (is_open log)) (after_close d.work.transport code reason) (close_refines side d.work.transport log f.position uncollected f.amid.work.transport code reason) in
      record {
        position = s.position;
        amid = record {
          work = s.amid.work;
          kinds = s.amid.kinds;
          few = s.amid.few;
          own = s.amid.own;
          allowed = s.amid.allowed;
          unis = s.amid.unis;
          bis = s.amid.bis;
          datagrams = λ e. absurd (true≢false (sym (first (state_of side g).is_open (is_none (state_of side g).progress.fault) e) ∙ (open-is g ∙ closed)));
          response = s.amid.response;
        };
        rests = λ e. absurd (true≢false (sym e ∙ closed));
      }
    where
      first : (a b : Bool) → (a && b) ≡ true → a ≡ true
      first true b h = refl
      first false b h = absurd (true≢false (sym h))
