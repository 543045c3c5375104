-- A call finds nothing, unless it establishes a session.
use Rattle.wt_promise.proofs.Statements.{FindsNothing}
use Rattle.std.specs.Prelude.{[], ◌&&◌, ◌*◌, ◌+◌, ◌<◌, ◌∷◌, ◌||◌, ◌≡◌, Bool, List, None, Option, Some, drop, false, if◌then◌else◌, is_some, length, not, nat_lt, true, unwrap_or, ℕ}
use Rattle.std.specs.List.{list_any}
use Rattle.std.specs.Option.{option_or}
use Rattle.std.proofs.Common.{◌∙◌, ap, refl, subst, sym}
use Rattle.wt_meaning.specs.Findings.{Finding, control_in, decoder_in, encoder_in, first_of, is_dequeued, verdict_of}
use Rattle.wt_meaning.specs.History.{History, Pair, contents, events, is_open, stream_count}
use Rattle.wt_meaning.specs.Lawful.{is_lawful}
use Rattle.wt_meaning.specs.Meaning.{next}
use Rattle.wt_meaning.specs.Moments.{control_walk, findings, ids_from, verdict}
use Rattle.wt_proto.specs.SessionWalk.{session_walk_of}
use Rattle.wt_meaning.specs.Windows.{after_request, after_response, gone_in, is_established, is_gone, is_gone_by_call, is_number, lives, makes_gone, session_in}
use Rattle.wt_promise.proofs.AllFound.{all_found}
use Rattle.wt_promise.proofs.AtRest.{Whole, none-left, none-right, rests}
use Rattle.wt_promise.proofs.Facts.{ended-found, facts, open-found, open-pass}
use Rattle.wt_promise.proofs.PassFaults.{late-fault, stop-fault}
use Rattle.wt_promise.proofs.Phases.{same-established}
use Rattle.wt_promise.proofs.Settles.{SettledAt, open-ones}
use Rattle.wt_promise.specs.Found.{can_set_up, datagrams_fault, early_fault, ended_fault, session_walk, sessions_fault, streams_fault, walk_fault}
use Rattle.wt_promise.specs.Promise.{IsHistory}
use Rattle.wt_proto.specs.ControlWalk.{control_walk_of}
use Rattle.wt_proto.specs.ResponseWalk.{response_walk_of}
use Rattle.wt_proto.specs.Uni.{is_final}
use Rattle.wt_proto.specs.declared.control_walk.ControlWalk.{ControlWalk}
use Rattle.wt_proto.specs.declared.verdict.Verdict.{Verdict}
use Rattle.wt_promise.proofs.Shown.{verdict-by}
use Rattle.wt_turn.specs.Reports.{datagrams_of, end_of}
use Rattle.wt_turn.specs.Streams.{peer_bi, peer_count, peer_uni}
use Rattle.wt_turn.specs.Log.{Event}
use Rattle.wt_turn.specs.declared.answer.Answer.{Answer}
use Rattle.wt_turn.specs.declared.call.Call.{Call}
use Rattle.wt_wire.specs.declared.error.ErrorCode.{ErrorCode}
use Rattle.wt_wire.specs.declared.side.Side.{Side}
use Rattle.wt_proto.specs.declared.session_walk.SessionWalk.TheVariants as walks
use Rattle.wt_turn.specs.declared.turn.Turn.TheVariants as turns

module _ (side : Side) (h : History) (call : Call) (a : Answer) (o : is_open h ≡ true) where
  abbrev p : Pair
  p = record { turn = turns.Call call; answer = a }

  same-events : events (p ∷ h) ≡ events h
  same-events = ap (λ (b : Bool). if b then events h else events h) o

  same-contents : (k : ℕ) → contents (p ∷ h) k ≡ contents h k
  same-contents k = ap (λ (b : Bool). if b then contents h k else contents h k) o

  same-verdict : (k : ℕ) → verdict (p ∷ h) k ≡ verdict h k
  same-verdict k = ap (λ (es : List Event). verdict-by k (contents (p ∷ h) k) (end_of es k)) same-events ∙ ap (λ (bytes : List ℕ). verdict-by k bytes (end_of (events h) k)) (same-contents k)

  same-control : (st : Option (ℕ × ℕ)) → control_walk (p ∷ h) st ≡ control_walk h st
  same-control None = refl
  same-control (Some st) = ap (λ (es : List Event). control_walk_of (drop st.1 (contents (p ∷ h) st.0)) (end_of es st.0)) same-events ∙ ap (λ (bytes : List ℕ). control_walk_of (drop st.1 bytes) (end_of (events h) st.0)) (same-contents st.0)

  same-walk : (found : List Finding) (s : ℕ) → session_walk (p ∷ h) found s ≡ session_walk h found s
  same-walk found s =
      ap (λ (es : List Event). session_walk_of (drop (unwrap_or (after_request (verdict_of found s)) (after_response (response_walk_of (contents (p ∷ h) s) (end_of es s)))) (contents (p ∷ h) s)) (end_of es s)) same-events
      ∙ ap (λ (bytes : List ℕ). session_walk_of (drop (unwrap_or (after_request (verdict_of found s)) (after_response (response_walk_of bytes (end_of (events h) s)))) bytes) (end_of (events h) s)) (same-contents s)

  same-settled : (found : List Finding) (kind i : ℕ) → SettledAt side h found kind i → SettledAt side (p ∷ h) found kind i
  same-settled found kind i g = record {
    read = g.read ∙ ap (λ (b : Bool). b && nat_lt (open-ones found kind 0 i) 4) (sym setup);
    classified = g.classified ∙ ap (λ (v : Verdict). is_dequeued found (4 * i + kind) && is_final v) (sym (same-verdict (4 * i + kind)));
  }
    where
      setup : can_set_up side (p ∷ h) ≡ can_set_up side h
      setup = rw same-events refl

  lived : (found : List Finding) (s : ℕ) → session_in a.reply ≡ None → lives (p ∷ h) found s ≡ true → lives h found s ≡ true
  lived found s n l = by (is_established h s) (is_number s (gone_in h (turns.Call call) a.reply)) (is_gone_by_call h s) (list_any (makes_gone s) found) (ap (λ (b : Bool). b && not (is_gone (p ∷ h) found s)) (sym (same-established p h s n)) ∙ l)
    where
      by : (e x y z : Bool) → (e && not ((x || y) || z)) ≡ true → (e && not (y || z)) ≡ true
      by false x y z q = absurd (cc q)
      by true true y z q = absurd (cc q)
      by true false true z q = absurd (cc q)
      by true false false true q = absurd (cc q)
      by true false false false q = refl

  module _ (i : IsHistory side h) (n : session_in a.reply ≡ None) where
    abbrev found : List Finding
    found = findings side h

    w : Whole side h found
    w = (facts side h i).whole o

    running : (s : ℕ) → lives (p ∷ h) found s ≡ true → session_walk (p ∷ h) found s ≡ walks.Running
    running s l = same-walk found s ∙ (all_found side h i o).sessions s (lived found s n l)

    no-session-fault : (ids : List ℕ) → first_of (λ (s : ℕ). if lives (p ∷ h) found s then walk_fault (session_walk (p ∷ h) found s) else None) ids ≡ None
    no-session-fault [] = refl
    no-session-fault (s ∷ ids) = ap (λ (x : Option ErrorCode). option_or x (first_of (λ (t : ℕ). if lives (p ∷ h) found t then walk_fault (session_walk (p ∷ h) found t) else None) ids)) (by (lives (p ∷ h) found s) refl) ∙ no-session-fault ids
      where
        by : (b : Bool) → lives (p ∷ h) found s ≡ b → (if b then walk_fault (session_walk (p ∷ h) found s) else None) ≡ None
        by true e = ap walk_fault (running s e)
        by false e = refl

    early-none : early_fault side h found ≡ None
    early-none = none-left (early_fault side h found) (late-fault side h found) w.fault

    late-none : late-fault side h found ≡ None
    late-none = none-right (early_fault side h found) (late-fault side h found) w.fault

    streams-none : streams_fault found ≡ None
    streams-none = none-left (streams_fault found) _ early-none

    datagrams-none : datagrams_fault side h ≡ None
    datagrams-none = none-left (datagrams_fault side h) _ (none-right (streams_fault found) _ early-none)

    stop-none : stop-fault side h ≡ None
    stop-none = none-right (sessions_fault side h found) (stop-fault side h) (none-right (datagrams_fault side h) _ (none-right (streams_fault found) _ early-none))

    datagrams-now : datagrams_fault side (p ∷ h) ≡ None
    datagrams-now = rw same-events datagrams-none

    stop-now : stop-fault side (p ∷ h) ≡ None
    stop-now = rw same-events stop-none

    same-ended : (st : Option (ℕ × ℕ)) → ended_fault (p ∷ h) st ≡ ended_fault h st
    same-ended None = refl
    same-ended (Some st) = rw same-events refl

    late-now : late-fault side (p ∷ h) found ≡ None
    late-now = rw (same-control (first_of control_in found), same-ended (first_of encoder_in found), same-ended (first_of decoder_in found)) late-none

    whole-now : Whole side (p ∷ h) found
    whole-now = record {
      unis = λ j b. same-settled found (peer_uni side) j (w.unis j (subst (λ (es : List Event). j < peer_count side es (peer_uni side)) same-events b));
      bis = λ j b. same-settled found (peer_bi side) j (w.bis j (subst (λ (es : List Event). j < peer_count side es (peer_bi side)) same-events b));
      read = λ r. w.read (sym (setup) ∙ r) ∙ ap (λ (es : List Event). length (datagrams_of es)) (sym same-events);
      quiet = λ t m l. running t l;
      fault = rw (streams-none, datagrams-now, no-session-fault (ids_from 0 0 (stream_count side (p ∷ h) 0)), stop-now) late-now;
      settings = λ t. w.settings (ap (λ (cw : ControlWalk). is_some cw.settings) (sym (same-control (first_of control_in found))) ∙ t);
    }
      where
        setup : can_set_up side (p ∷ h) ≡ can_set_up side h
        setup = rw same-events refl

-- a call finds nothing
pub finds_nothing : (side : Side) (h : History) (call : Call) → IsHistory side h → is_lawful side h (turns.Call call) ≡ true → FindsNothing side h call (next side h (turns.Call call))
finds_nothing side h call i l n = by (is_open h) refl
  where
    q : Pair
    q = record { turn = turns.Call call; answer = next side h (turns.Call call) }

    by : (b : Bool) → is_open h ≡ b → findings side (q ∷ h) ≡ findings side h
    by false o = ended-found side q h o
    by true o =
        open-found side q h o (open-pass side q h (l, refl, i) o (facts side h i))
        ∙ rests side (q ∷ h) (findings side h) (whole-now side h call (next side h (turns.Call call)) o i n)
