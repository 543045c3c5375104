-- All that goes out at a moment is the same in both: this end's control stream, what is found leads to, and the close.
use Rattle.std.specs.Prelude.{[], ◌&&◌, ◌++◌, ◌∷◌, ◌≡◌, Bool, List, drop, if◌then◌else◌, length, true, ℕ}
use Rattle.std.proofs.Common.{◌∙◌, ap, append_assoc, refl, sym}
use Rattle.std.proofs.lemmas.List.{append-nil}
use Rattle.wt_meaning.specs.Findings.{Finding}
use Rattle.wt_meaning.specs.History.{History, Pair, actions_out, events, is_open}
use Rattle.wt_meaning.specs.Moments.{checks, findings}
use Rattle.wt_meaning.specs.Sends.{actions_for_all, moment_actions, session_gone_actions}
use Rattle.wt_meaning.specs.Sends as sends
use Rattle.wt_promise.proofs.Grows.{checks-add, more, more-by, news-dropped, news-open}
use Rattle.wt_promise.proofs.OpenStays.{no-fault}
use Rattle.wt_promise.proofs.Opened.{open-before}
use Rattle.wt_promise.specs.Promise.{IsHistory}
use Rattle.wt_turn.specs.Streams.{local_uni}
use Rattle.wt_sessions.specs.Driver.{actions_after, call_view, close_actions, control_actions, control_sent, is_moment, pending_actions, stream_table, transport_view}
use Rattle.wt_sessions.specs.Scan.{scan_order}
use Rattle.wt_sessions.specs.StreamTable.{StreamTable}
use Rattle.wt_sessions_agree.proofs.AnswerLaws.{control-agrees}
use Rattle.wt_sessions_agree.proofs.MembersKept.{Good, good-alike, good-fresh, good-kept}
use Rattle.wt_sessions_agree.proofs.MomentSends.{moment-sends}
use Rattle.wt_sessions_agree.proofs.RestLaws.{second-finds}
use Rattle.wt_sessions_agree.proofs.TurnFinds.{entry-table}
use Rattle.wt_sessions_agree.specs.Agrees.{IsTable}
use Rattle.wt_sessions_agree.specs.Members.{HalvesSeen}
use Rattle.wt_sessions_agree.specs.Orderly.{Known, Orderly}
use Rattle.wt_sessions_agree.specs.Stands.{SameOut, SeesAlike}
use Rattle.wt_turn.specs.Log.{Entry, Log, actions_of, events_of}
use Rattle.wt_turn.specs.Log as logs
use Rattle.wt_turn.specs.declared.action.Action.{Action}
use Rattle.wt_turn.specs.declared.reply.Reply.{Reply}
use Rattle.wt_wire.specs.declared.side.Side.{Side}
use Rattle.wt_turn.specs.declared.reply.Reply.TheVariants as replies

-- ---- what a pair finds

-- the second moment of a reply that establishes a session finds nothing
once : (side : Side) (h : History) (r : Reply) (found : List Finding) → Known side h found → more-by side h r found ≡ more side h (checks side h) found
once side h (replies.Session id) found known =
    ap (λ (l : List Finding). more side h (checks side h) found ++ more side h (checks side h) l) (sym (checks-add side h (checks side h) found))
    ∙ ap (λ (l : List Finding). more side h (checks side h) found ++ l) (second-finds side h found known) ∙ append-nil (more side h (checks side h) found)
once side h r found known = refl

-- ---- what goes out

module _ (side : Side) (offset : ℕ → ℕ) (p : Pair) (h : History) (hist : IsHistory side h) (log : Log) (e : Entry) (opened : is_open (p ∷ h) ≡ true)
    (moment : (is_moment e && logs.is_open (e ∷ log)) ≡ true)
    (at : events (p ∷ h) ≡ events_of (e ∷ log)) (out : SameOut (actions_out (p ∷ h)) (actions_of (e ∷ log))) (s : SeesAlike side (p ∷ h) (transport_view side (e ∷ log)) (call_view (e ∷ log)) offset)
    (halves : HalvesSeen side (p ∷ h) (transport_view side (e ∷ log)))
    (orderly : Orderly side (p ∷ h) (call_view (e ∷ log)) offset (findings side h)) (good : Good side (p ∷ h) (call_view (e ∷ log)) (findings side h))
    (holds : IsTable (findings side h) (stream_table side log)) where
  pub sends-alike : pending_actions side (e ∷ log) ≡ moment_actions side (p ∷ h)
  sends-alike =
      ap (λ (table : StreamTable). actions_after (transport_view side (e ∷ log)) (control_sent side (e ∷ log)) table.progress) (entry-table side log e moment)
      ∙ sym (control ∙ ap (λ (l : List Action). sent ++ l) found ∙ sym (append_assoc sent after.progress.actions (close_actions after.progress.fault)))
    where
      sent : List Action
      sent = control_actions (transport_view side (e ∷ log)).may_open (local_uni side) (transport_view side (e ∷ log)).credit (control_sent side (e ∷ log))

      new : List Finding
      new = drop (length (findings side h)) (findings side (p ∷ h))

      control : moment_actions side (p ∷ h) ≡ sent ++ actions_for_all side (p ∷ h) (findings side h) new
      control = ap (λ (b : Bool). if b then sends.control_actions side (p ∷ h) ++ actions_for_all side (p ∷ h) (findings side h) new else []) opened
          ∙ ap (λ (l : List Action). l ++ actions_for_all side (p ∷ h) (findings side h) new) (control-agrees side (p ∷ h) (e ∷ log) at out)

      after : StreamTable
      after = scan_order (transport_view side (e ∷ log)) (call_view (e ∷ log)) (stream_table side log)

      found : actions_for_all side (p ∷ h) (findings side h) new ≡ after.progress.actions ++ close_actions after.progress.fault
      found =
          ap (actions_for_all side (p ∷ h) (findings side h)) (news-dropped side p h ∙ news-open side p h (open-before p h opened) ∙ once side (p ∷ h) p.answer.reply (findings side h) orderly.known)
          ∙ moment-sends side (p ∷ h) (transport_view side (e ∷ log)) (call_view (e ∷ log)) offset s (Good side (p ∷ h) (call_view (e ∷ log))) (good-kept side (p ∷ h) (call_view (e ∷ log)))
          (λ found table g t k n. good-alike side (p ∷ h) (call_view (e ∷ log)) found (transport_view side (e ∷ log)) table g t s.calls halves k n)
          (λ found g k m n. good-fresh side (p ∷ h) (call_view (e ∷ log)) found g k m n)
          (findings side h) (stream_table side log) orderly good holds (no-fault side h hist (open-before p h opened))
