-- What a core keeps tells which turn may come, and whether the connection is open and established.
use Rattle.std.proofs.Common.{refl}
use Rattle.std.specs.Prelude.{◌≡◌, true, ℕ}
use Rattle.wt_driver_laws.proofs.OpenLives.{lives-now}
use Rattle.wt_driver_laws.proofs.QuestionLaws.{fits_law, is_connected_law, is_open_law}
use Rattle.wt_core.proofs.MayLaws.{may-is}
use Rattle.wt_core.specs.CoreState.{CoreState, Refines, connected_now, living_now, may_come_next, open_now}
use Rattle.wt_turn.specs.Reports.{is_connected}
use Rattle.wt_sessions.specs.Answers.{is_lawful}
use Rattle.wt_sessions.specs.Driver.{is_living}
use Rattle.wt_turn.specs.Log.{Log, events_of, is_open}
use Rattle.wt_turn.specs.declared.turn.Turn.{Turn}
use Rattle.wt_turn.specs.declared.turn.Turn.TheVariants as turns
use Rattle.wt_wire.specs.declared.side.Side.{Side}

-- a turn may come where it is lawful
pub may_lawful : (side : Side) (k : CoreState) (log : Log) (turn : Turn) → Refines side k log → may_come_next k turn ≡ is_lawful side log turn
may_lawful side k log (turns.Call call) r = may-is side log _ r.first _ r.kept.shake call
may_lawful side k log turn r = fits_law turn _ k.driver refl side log _ r.kept.driver

pub kept_open : (side : Side) (k : CoreState) (log : Log) → Refines side k log → open_now k ≡ is_open log
kept_open side k log r = is_open_law _ k.driver refl side log _ r.kept.driver

pub kept_connected : (side : Side) (k : CoreState) (log : Log) → Refines side k log → is_open log ≡ true → connected_now k ≡ is_connected (events_of log)
kept_connected side k log r o = is_connected_law _ k.driver refl side log _ r.kept.driver o

pub kept_lives : (side : Side) (k : CoreState) (log : Log) (s : ℕ) → Refines side k log → living_now k s ≡ is_living side log s
kept_lives side k log s r = lives-now side k.driver log _ r.kept.driver.kept s
