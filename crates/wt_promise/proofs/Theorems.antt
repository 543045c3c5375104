-- The lemmas that the contracts name.
use Rattle.wt_promise.proofs.Statements.{AllOwedGoesOut, DatagramsInOrder, EstablishedRightly, FewLive, NothingAfterEnd, OpenExactly, ReadsInOrder, ResultStays, SettingsGoOut}
use Rattle.std.specs.Prelude.{[], ◌≡◌, List, true, ℕ, false}
use Rattle.wt_turn.specs.declared.turn.Turn.{Turn}
use Rattle.wt_wire.specs.declared.side.Side.{Side}
use Rattle.wt_meaning.specs.History.{History, is_open}
use Rattle.wt_meaning.specs.Lawful.{is_lawful, is_pending}
use Rattle.wt_meaning.specs.Meaning.{meaning, next, run}
use Rattle.wt_meaning.specs.Windows.{is_established}
use Rattle.wt_turn.specs.declared.connecting_error.ConnectingError.{ConnectingError}
use Rattle.wt_promise.proofs.FailsAlone.{fails-alone}
use Rattle.wt_promise.specs.Causes.{reply_to}
use Rattle.wt_promise.specs.Promise.{AllLawful, CutsFreely, GoneIsTold, HeadGoesOut, HeaderGoesOut, IsHistory, SendsInOrder}
use Rattle.wt_promise.proofs.Ended.{nothing-after-end}
use Rattle.wt_promise.proofs.AsOwed.{gone-as-owed, headers-as-owed, heads-as-owed, open-as-owed, sends-as-owed, result-as-owed, settings-as-owed}
use Rattle.wt_promise.proofs.CauseRows.{replies-caused}
use Rattle.wt_promise.proofs.OwedAll.{all-owed}
use Rattle.wt_promise.proofs.Lists.{cuts-freely, run_from-lawful}
use Rattle.wt_promise.proofs.Polls.{waits-while-open}
use Rattle.wt_promise.proofs.Datagrams.{datagrams-in-order}
use Rattle.wt_promise.proofs.ReadLaws.{pieces-in-order}
use Rattle.wt_promise.proofs.Few.{few-live}
use Rattle.wt_promise.proofs.Established.{established-rightly}
use Rattle.wt_turn.specs.declared.call.Call.TheVariants as calls
use Rattle.wt_turn.specs.declared.reply.Reply.TheVariants as replies
use Rattle.wt_turn.specs.declared.turn.Turn.TheVariants as turns

pub whole_theorem : (side : Side) (all : List Turn) → AllLawful side [] all → run side all ≡ record { answers = meaning side all; is_all = true }
whole_theorem side all lawful = run_from-lawful side [] all lawful

pub cut_theorem : (side : Side) (h : History) (k : ℕ) (first second : List ℕ) → CutsFreely side h k first second
cut_theorem = cuts-freely

pub after_end_theorem : (side : Side) (h : History) (turn : Turn) → is_lawful side h turn ≡ true → NothingAfterEnd h (next side h turn)
after_end_theorem = nothing-after-end

pub open_theorem : (side : Side) (h : History) (turn : Turn) → IsHistory side h → OpenExactly side h turn (next side h turn)
open_theorem = open-as-owed

pub owed_theorem : (side : Side) (h : History) (turn : Turn) → AllOwedGoesOut side h turn (next side h turn)
owed_theorem = all-owed

pub cause_theorem : (side : Side) (h : History) (turn : Turn) → (next side h turn).reply ≡ reply_to side h turn
cause_theorem = replies-caused

pub reads_theorem : (side : Side) (h : History) → IsHistory side h → ReadsInOrder side h
reads_theorem = pieces-in-order

pub datagrams_theorem : (side : Side) (h : History) → IsHistory side h → DatagramsInOrder side h
datagrams_theorem = datagrams-in-order

pub few_theorem : (side : Side) (h : History) → IsHistory side h → FewLive side h
few_theorem = few-live

pub result_theorem : (side : Side) (h : History) (turn : Turn) → IsHistory side h → is_lawful side h turn ≡ true → ResultStays side h turn (next side h turn)
result_theorem = result-as-owed

pub settings_theorem : (side : Side) (h : History) (turn : Turn) → IsHistory side h → is_lawful side h turn ≡ true → SettingsGoOut side h turn (next side h turn)
settings_theorem = settings-as-owed

pub sends_theorem : (side : Side) (h : History) → IsHistory side h → (k : ℕ) → SendsInOrder side h k
sends_theorem = sends-as-owed

pub heads_theorem : (side : Side) (h : History) (turn : Turn) → IsHistory side h → is_lawful side h turn ≡ true → HeadGoesOut side h turn (next side h turn)
heads_theorem = heads-as-owed

pub established_theorem : (side : Side) (h : History) (turn : Turn) → IsHistory side h → is_lawful side h turn ≡ true → EstablishedRightly side h turn (next side h turn)
established_theorem = established-rightly

pub gone_theorem : (side : Side) (h : History) (turn : Turn) → GoneIsTold side h turn (next side h turn)
gone_theorem = gone-as-owed

pub waits_theorem : (side : Side) (h : History) (turn : Turn) → IsHistory side h → is_lawful side h turn ≡ true → is_pending (next side h turn).reply ≡ true → is_open h ≡ true
waits_theorem = waits-while-open

pub header_theorem : (side : Side) (h : History) (k : ℕ) → IsHistory side h → is_lawful side h (turns.Call (calls.PollOpening k)) ≡ true → HeaderGoesOut side h k (next side h (turns.Call (calls.PollOpening k)))
header_theorem = headers-as-owed

pub alone_theorem : (side : Side) (h : History) (e : ConnectingError) → IsHistory side h → is_lawful side h (turns.Call calls.Handshake) ≡ true
    → (next side h (turns.Call calls.Handshake)).reply ≡ replies.ConnectFailed e → (s : ℕ) → is_established h s ≡ false
alone_theorem = fails-alone
