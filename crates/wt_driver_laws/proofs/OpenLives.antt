-- A session lives, or is gone, by what a driver keeps where it does by the log.
use Rattle.std.proofs.Common.{◌∙◌, ◌≡◌, Bool, List, ap, false, refl, sym, true, ℕ}
use Rattle.std.specs.Prelude.{◌&&◌, not}
use Rattle.wt_driver_laws.specs.Answering.{is_ended_now}
use Rattle.wt_follows.proofs.Lists.{any-map}
use Rattle.wt_follows.specs.Roles as roles
use Rattle.wt_follows.specs.Tie.{Follows, Keeps}
use Rattle.wt_kept.specs.Kept.{DriverNow, LiveNow}
use Rattle.wt_kept.specs.Windows.{lives_now}
use Rattle.wt_sessions.specs.Driver.{call_view, is_living, is_session_gone}
use Rattle.wt_sessions.specs.DriverState.{DriverState, state_of}
use Rattle.wt_sessions.specs.StreamTable.{Session, was_established}
use Rattle.wt_turn.specs.Log.{Log}
use Rattle.wt_turn.specs.declared.action.Action.{Action}
use Rattle.wt_wire.specs.declared.side.Side.{Side}

gone-of-state : (side : Side) (log : Log) (s : ℕ) → (state_of side log).dispatched.is_gone s ≡ is_session_gone side log s
unfolding state_of
gone-of-state side log s = refl

established-of-state : (side : Side) (log : Log) (s : ℕ) → (state_of side log).dispatched.is_established s ≡ was_established (call_view log) s
unfolding state_of
established-of-state side log s = refl

module _ (side : Side) (d : DriverNow) (log : Log) (uncollected : List Action) (f : Follows side d log uncollected) (s : ℕ) where
  abbrev state : DriverState
  state = state_of side log

  keeps : Keeps d.work.dispatched state
  keeps = f.amid.work.keeps

  -- by the state of the log
  pub state-lives : roles.is_living (state_of side log) s ≡ is_living side log s
  state-lives = by (is_session_gone side log s) refl (roles.is_living state s) refl
    where
      by : (g : Bool) → is_session_gone side log s ≡ g → (l : Bool) → roles.is_living state s ≡ l → l ≡ (was_established (call_view log) s && not g)
      by false gone l lives = sym lives ∙ (sym (keeps.established s (gone-of-state side log s ∙ gone)) ∙ (established-of-state side log s ∙ kept (was_established (call_view log) s)))
        where
          kept : (b : Bool) → b ≡ (b && true)
          kept true = refl
          kept false = refl
      by true gone true lives = absurd (let both : true ≡ false = sym gone ∙ (sym (gone-of-state side log s) ∙ keeps.alive s lives) in cc)
      by true gone false lives = none (was_established (call_view log) s)
        where
          none : (b : Bool) → false ≡ (b && false)
          none true = refl
          none false = refl

  -- by what the driver keeps
  pub lives-now : lives_now d.work.dispatched.sessions s ≡ is_living side log s
  lives-now = sym (any-map (λ (x : LiveNow). x.id) s d.work.dispatched.sessions.living)
      ∙ (ap (roles.is_in s) keeps.living ∙ (any-map (λ (x : Session). x.id) s state.sessions ∙ state-lives))

  -- a session that was established is gone by what the driver keeps
  pub gone-now : was_established (call_view log) s ≡ true → is_ended_now s d ≡ is_session_gone side log s
  gone-now established = sym (sym (gone-of-state side log s) ∙ keeps.gone s (keeps.named s (established-of-state side log s ∙ established)))
