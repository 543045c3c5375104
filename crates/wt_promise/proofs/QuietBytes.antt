-- A byte that completes nothing is found nowhere, and nothing goes out at it.
use Rattle.std.specs.Prelude.{[], ◌&&◌, ◌*◌, ◌++◌, ◌+◌, ◌-◌, ◌<◌, ◌==◌, ◌∷◌, ◌||◌, ◌≡◌, Bool, List, None, Option, Some, drop, false, if◌then◌else◌, is_some, length, nat_le, not, nat_lt, suc, take, true, zero, unwrap_or, ℕ}
use Rattle.std.specs.List.{list_any}
use Rattle.std.specs.Option.{option_or}
use Rattle.std.proofs.Common.{◌∙◌, ap, arith, refl, subst, sym}
use Rattle.std.proofs.lemmas.Bool.{eqb-true}
use Rattle.std.proofs.lemmas.List.{append-nil, drop_all}
use Rattle.wt_message.specs.FixedBytes.{local_control_bytes}
use Rattle.wt_meaning.specs.Findings.{Finding, control_in, decoder_in, encoder_in, first_of, is_classified, is_dequeued, verdict_of}
use Rattle.wt_meaning.specs.History.{History, Pair, actions_out, contents, ends_by, events, is_open, loses, out, stream_count, with_bytes, with_event}
use Rattle.wt_meaning.specs.Lawful.{is_lawful}
use Rattle.wt_meaning.specs.Meaning.{next, own_answer, with_pair}
use Rattle.wt_meaning.specs.Moments.{control_walk, findings, ids_from, verdict}
use Rattle.wt_meaning.specs.Sends.{action_if, actions_for_all, control_actions, moment_actions}
use Rattle.wt_proto.specs.SessionWalk.{session_walk_of}
use Rattle.wt_meaning.specs.Windows.{after_request, after_response, lives}
use Rattle.wt_promise.proofs.AllFound.{all_found}
use Rattle.wt_promise.proofs.AsOwed.{open-as-owed, settings-as-owed}
use Rattle.wt_promise.proofs.AtRest.{Whole, none-left, none-right, rests}
use Rattle.wt_promise.proofs.Facts.{classified_rightly, ended-found, facts, open-found, open-pass}
use Rattle.wt_promise.proofs.HandedOut.{verdict-stays}
use Rattle.wt_promise.proofs.Ended.{nothing-after-end}
use Rattle.wt_promise.proofs.HeadTests.{same-control}
use Rattle.wt_promise.proofs.OpenStays.{same-findings}
use Rattle.wt_promise.proofs.Opened.{pair-is}
use Rattle.wt_promise.proofs.PassFaults.{late-fault, stop-fault}
use Rattle.wt_promise.proofs.Settles.{SettledAt, open-ones}
use Rattle.wt_promise.proofs.Shown.{verdict-by}
use Rattle.wt_promise.specs.Found.{can_set_up, datagrams_fault, early_fault, ended_fault, session_walk, sessions_fault, streams_fault, walk_fault}
use Rattle.wt_promise.specs.Owed.{owed_by_turn}
use Rattle.wt_promise.specs.Promise.{IsHistory, SettingsOut}
use Rattle.wt_proto.specs.ResponseWalk.{response_walk_of}
use Rattle.wt_proto.specs.Uni.{is_final}
use Rattle.wt_proto.specs.declared.control_walk.ControlWalk.{ControlWalk}
use Rattle.wt_proto.specs.declared.verdict.Verdict.{Verdict}
use Rattle.wt_turn.specs.Joined.{join_all, send_of}
use Rattle.wt_turn.specs.Reports.{credit, datagrams_of, end_of, unis_allowed}
use Rattle.wt_turn.specs.Sent.{sent_on}
use Rattle.wt_turn.specs.Streams.{local_count, local_uni, peer_bi, peer_count, peer_uni}
use Rattle.wt_turn.specs.Log.{Event, closes}
use Rattle.wt_turn.specs.Turns.{event_of}
use Rattle.wt_turn.specs.declared.action.Action.{Action}
use Rattle.wt_turn.specs.declared.answer.Answer.{Answer}
use Rattle.wt_turn.specs.declared.turn.Turn.{Turn}
use Rattle.wt_wire.specs.declared.error.ErrorCode.{ErrorCode}
use Rattle.wt_wire.specs.declared.side.Side.{Side}
use Rattle.wt_turn.specs.declared.action.Action.TheVariants as actions
use Rattle.wt_proto.specs.declared.session_walk.SessionWalk.TheVariants as walks
use Rattle.wt_turn.specs.declared.reply.Reply.TheVariants as replies
use Rattle.wt_turn.specs.declared.turn.Turn.TheVariants as turns

module _ (side : Side) (h : History) (k b : ℕ) (i : IsHistory side h) (l : is_lawful side h (turns.Bytes k (b ∷ [])) ≡ true) where
  abbrev pub p : Pair
  p = record { turn = turns.Bytes k (b ∷ []); answer = next side h (turns.Bytes k (b ∷ [])) }

  abbrev found : List Finding
  found = findings side h

  module _ (o : is_open h ≡ true) (ripe : (is_dequeued found k && not (is_classified found k) && is_final (verdict (p ∷ h) k)) ≡ false)
      (control : control_walk (p ∷ h) (first_of control_in found) ≡ control_walk h (first_of control_in found))
      (runs : lives h found k ≡ true → session_walk (p ∷ h) found k ≡ walks.Running) where
    same-events : events (p ∷ h) ≡ events h
    same-events = ap (λ (x : Bool). if x then events h else events h) o

    same-contents : (j : ℕ) → (k == j) ≡ false → contents (p ∷ h) j ≡ contents h j
    same-contents j e = ap (λ (x : Bool). if x then with_bytes j (turns.Bytes k (b ∷ [])) (contents h j) else contents h j) o ∙ ap (λ (x : Bool). if x then contents h j ++ b ∷ [] else contents h j) e

    same-verdict : (j : ℕ) → (k == j) ≡ false → verdict (p ∷ h) j ≡ verdict h j
    same-verdict j e = ap (λ (es : List Event). verdict-by j (contents (p ∷ h) j) (end_of es j)) same-events ∙ ap (λ (bytes : List ℕ). verdict-by j bytes (end_of (events h) j)) (same-contents j e)

    same-walk : (s : ℕ) → (k == s) ≡ false → session_walk (p ∷ h) found s ≡ session_walk h found s
    same-walk s e =
        ap (λ (es : List Event). session_walk_of (drop (unwrap_or (after_request (verdict_of found s)) (after_response (response_walk_of (contents (p ∷ h) s) (end_of es s)))) (contents (p ∷ h) s)) (end_of es s)) same-events
        ∙ ap (λ (bytes : List ℕ). session_walk_of (drop (unwrap_or (after_request (verdict_of found s)) (after_response (response_walk_of bytes (end_of (events h) s)))) bytes) (end_of (events h) s)) (same-contents s e)

    setup : can_set_up side (p ∷ h) ≡ can_set_up side h
    setup = rw same-events refl

    -- the stream itself stays classified, or isn't
    itself : is_classified found k ≡ (is_dequeued found k && is_final (verdict h k)) → is_classified found k ≡ (is_dequeued found k && is_final (verdict (p ∷ h) k))
    itself g = by (verdict_of found k) refl
      where
        open-one : (d f : Bool) → is_some (verdict_of found k) ≡ false → (d && not (is_some (verdict_of found k)) && f) ≡ false → (d && f) ≡ false
        open-one false f q r = refl
        open-one true f q r = sym (ap (λ (c : Bool). not c && f) q) ∙ r

        shut : (d f : Bool) → (d && f) ≡ true → d ≡ true
        shut true f q = refl
        shut false f q = absurd (cc q)

        by : (v : Option Verdict) → verdict_of found k ≡ v → is_classified found k ≡ (is_dequeued found k && is_final (verdict (p ∷ h) k))
        by None q = ap is_some q ∙ sym (open-one (is_dequeued found k) (is_final (verdict (p ∷ h) k)) (ap is_some q) ripe)
        by (Some v) q =
            let c = classified_rightly side (p ∷ h) (l, refl, i) k v (verdict-stays side p h k v q) in
            let d = shut (is_dequeued found k) (is_final (verdict h k)) (sym g ∙ ap is_some q) in rw (q, d, c.shown, c.final) refl

    same-settled : (kind j : ℕ) → SettledAt side h found kind j → SettledAt side (p ∷ h) found kind j
    same-settled kind j g = record {
      read = g.read ∙ ap (λ (x : Bool). x && nat_lt (open-ones found kind 0 j) 4) (sym setup);
      classified = by (k == 4 * j + kind) refl;
    }
      where
        by : (x : Bool) → (k == 4 * j + kind) ≡ x → is_classified found (4 * j + kind) ≡ (is_dequeued found (4 * j + kind) && is_final (verdict (p ∷ h) (4 * j + kind)))
        by false e = g.classified ∙ ap (λ (v : Verdict). is_dequeued found (4 * j + kind) && is_final v) (sym (same-verdict (4 * j + kind) e))
        by true e =
            let s : k ≡ 4 * j + kind = eqb-true k (4 * j + kind) e in
            subst (λ (n : ℕ). is_classified found n ≡ (is_dequeued found n && is_final (verdict (p ∷ h) n))) s
            (itself (subst (λ (n : ℕ). is_classified found n ≡ (is_dequeued found n && is_final (verdict h n))) (sym s) g.classified))

    w : Whole side h found
    w = (facts side h i).whole o

    running : (s : ℕ) → lives (p ∷ h) found s ≡ true → session_walk (p ∷ h) found s ≡ walks.Running
    running s m = by (k == s) refl
      where
        by : (x : Bool) → (k == s) ≡ x → session_walk (p ∷ h) found s ≡ walks.Running
        by false e = same-walk s e ∙ (all_found side h i o).sessions s m
        by true e = let q : k ≡ s = eqb-true k s e in subst (λ (n : ℕ). session_walk (p ∷ h) found n ≡ walks.Running) q (runs (subst (λ (n : ℕ). lives h found n ≡ true) (sym q) m))

    no-session-fault : (ids : List ℕ) → first_of (λ (s : ℕ). if lives (p ∷ h) found s then walk_fault (session_walk (p ∷ h) found s) else None) ids ≡ None
    no-session-fault [] = refl
    no-session-fault (s ∷ ids) = ap (λ (x : Option ErrorCode). option_or x (first_of (λ (t : ℕ). if lives (p ∷ h) found t then walk_fault (session_walk (p ∷ h) found t) else None) ids)) (by (lives (p ∷ h) found s) refl) ∙ no-session-fault ids
      where
        by : (x : Bool) → lives (p ∷ h) found s ≡ x → (if x then walk_fault (session_walk (p ∷ h) found s) else None) ≡ None
        by true e = ap walk_fault (running s e)
        by false e = refl

    early-none : early_fault side h found ≡ None
    early-none = none-left (early_fault side h found) (late-fault side h found) w.fault

    late-none : late-fault side h found ≡ None
    late-none = none-right (early_fault side h found) (late-fault side h found) w.fault

    streams-none : streams_fault found ≡ None
    streams-none = none-left (streams_fault found) _ early-none

    datagrams-now : datagrams_fault side (p ∷ h) ≡ None
    datagrams-now = let n : datagrams_fault side h ≡ None = none-left (datagrams_fault side h) _ (none-right (streams_fault found) _ early-none) in rw same-events n

    stop-now : stop-fault side (p ∷ h) ≡ None
    stop-now = let n : stop-fault side h ≡ None = none-right (sessions_fault side h found) (stop-fault side h) (none-right (datagrams_fault side h) _ (none-right (streams_fault found) _ early-none)) in rw same-events n

    same-ended : (st : Option (ℕ × ℕ)) → ended_fault (p ∷ h) st ≡ ended_fault h st
    same-ended None = refl
    same-ended (Some st) = rw same-events refl

    late-now : late-fault side (p ∷ h) found ≡ None
    late-now = rw (control, same-ended (first_of encoder_in found), same-ended (first_of decoder_in found)) late-none

    whole-now : Whole side (p ∷ h) found
    whole-now = record {
      unis = λ j c. same-settled (peer_uni side) j (w.unis j (subst (λ (es : List Event). j < peer_count side es (peer_uni side)) same-events c));
      bis = λ j c. same-settled (peer_bi side) j (w.bis j (subst (λ (es : List Event). j < peer_count side es (peer_bi side)) same-events c));
      read = λ r. w.read (sym setup ∙ r) ∙ ap (λ (es : List Event). length (datagrams_of es)) (sym same-events);
      quiet = λ t m c. running t c;
      fault = rw (streams-none, datagrams-now, no-session-fault (ids_from 0 0 (stream_count side (p ∷ h) 0)), stop-now) late-now;
      settings = λ t. w.settings (ap (λ (cw : ControlWalk). is_some cw.settings) (sym control) ∙ t);
    }

    open-finds : findings side (p ∷ h) ≡ found
    open-finds = open-found side p h o (open-pass side p h (l, refl, i) o (facts side h i)) ∙ rests side (p ∷ h) found whole-now

-- ---- nothing goes out

rest-none : (c : ℕ) (xs : List ℕ) → take (c - length (take c xs)) (drop (length (take c xs)) xs) ≡ []
rest-none zero xs = refl
rest-none (suc c) [] = none (suc c - 0)
  where
    nil : List ℕ
    nil = []

    none : (n : ℕ) → take n nil ≡ nil
    none zero = refl
    none (suc n) = refl
rest-none (suc c) (x ∷ xs) = let e : suc c - suc (length (take c xs)) ≡ c - length (take c xs) = omega arith in ap (λ (n : ℕ). take n (drop (length (take c xs)) xs)) e ∙ rest-none c xs

-- what goes out on this end's control stream, by the events, and by what went out before
abbrev control-by : Side → List Action → List Event → List Action
control-by side before es = if nat_le 1 (unis_allowed es)
    then action_if (local_count before (local_uni side) == 0) (actions.Opened (local_uni side))
    ++ send_of (local_uni side) (take (credit es (local_uni side) - length (sent_on before (local_uni side))) (drop (length (sent_on before (local_uni side))) local_control_bytes))
    else []

leaves-it : (e l c n : Bool) → (((not e && not l) && not c) && n) ≡ true → not ((l || c) || e) ≡ true
leaves-it false false false n q = refl
leaves-it false false true n q = absurd (cc q)
leaves-it false true c n q = absurd (cc q)
leaves-it true l c n q = absurd (cc q)

settings-before : (side : Side) (h : History) → IsHistory side h → is_open h ≡ true → nat_le 1 (unis_allowed (events h)) ≡ true → SettingsOut side h
settings-before side [] i o u = absurd (cc u)
settings-before side (x ∷ h) i o u =
    subst (λ (y : Pair). SettingsOut side (y ∷ h)) same (settings-as-owed side h x.turn i.2 i.0
    (leaves-it (list_any ends_by h) (loses x.turn) (list_any closes (owed_by_turn side h x.turn (next side h x.turn).reply)) _ (sym (open-as-owed side h x.turn i.2) ∙ ap (λ (y : Pair). is_open (y ∷ h)) same ∙ o))
    (ap (λ (y : Pair). nat_le 1 (unis_allowed (events (y ∷ h)))) same ∙ u))
  where
    same : ◌≡◌ {A = Pair} (record { turn = x.turn; answer = next side h x.turn }) x
    same = pair-is x (next side h x.turn) i.1

control-quiet : (side : Side) (h : History) → IsHistory side h → is_open h ≡ true → control-by side (actions_out h) (events h) ≡ []
control-quiet side h i o = by (nat_le 1 (unis_allowed (events h))) refl
  where
    u : ℕ
    u = local_uni side

    opens-none : SettingsOut side h → action_if (local_count (actions_out h) u == 0) (actions.Opened u) ≡ []
    opens-none s = ap (λ (b : Bool). action_if b (actions.Opened u)) s.stream

    sends-none : SettingsOut side h → take (credit (events h) u - length (out h u)) (drop (length (out h u)) local_control_bytes) ≡ []
    sends-none s =
        let e : out h u ≡ take (credit (events h) u) local_control_bytes = s.sent ∙ ap (take (credit (events h) u)) (sym same-control) in
        ap (λ (xs : List ℕ). take (credit (events h) u - length xs) (drop (length xs) local_control_bytes)) e ∙ rest-none (credit (events h) u) local_control_bytes

    by : (b : Bool) → nat_le 1 (unis_allowed (events h)) ≡ b → control-by side (actions_out h) (events h) ≡ []
    by false e = rw e refl
    by true e = let s = settings-before side h i o e in
        ap (λ (b : Bool). if b then action_if (local_count (actions_out h) u == 0) (actions.Opened u) ++ send_of u (take (credit (events h) u - length (out h u)) (drop (length (out h u)) local_control_bytes)) else []) e
        ∙ ap (λ (xs : List Action). xs ++ send_of u (take (credit (events h) u - length (out h u)) (drop (length (out h u)) local_control_bytes))) (opens-none s)
        ∙ ap (send_of u) (sends-none s)

-- at a turn that changes no event and does nothing itself, where nothing is found
silent-moment : (side : Side) (h : History) (turn : Turn) → IsHistory side h → is_open h ≡ true → own_answer side h turn ≡ record { reply = replies.Done; actions = [] } → loses turn ≡ false → event_of turn ≡ None
    → findings side (with_pair h turn (next side h turn)) ≡ findings side h → (next side h turn).actions ≡ []
silent-moment side h turn i o own n e f =
    ap (λ (a : Answer). join_all [] (a.actions ++ moment_actions side (with_pair h turn a))) own
    ∙ ap (join_all []) (by (is_open (q ∷ h)) refl)
  where
    q : Pair
    q = record { turn = turn; answer = record { reply = replies.Done; actions = [] } }

    found : findings side (q ∷ h) ≡ findings side h
    found = ap (λ (a : Answer). findings side (with_pair h turn a)) (sym own) ∙ sym (same-findings side h turn) ∙ f

    by : (b : Bool) → is_open (q ∷ h) ≡ b → moment_actions side (q ∷ h) ≡ []
    by false x = rw x refl
    by true x =
        ap (λ (b : Bool). if b then control_actions side (q ∷ h) ++ actions_for_all side (q ∷ h) (findings side h) (drop (length (findings side h)) (findings side (q ∷ h))) else []) x
        ∙ ap (λ (fs : List Finding). control_actions side (q ∷ h) ++ actions_for_all side (q ∷ h) (findings side h) (drop (length (findings side h)) fs)) found
        ∙ ap (λ (fs : List Finding). control_actions side (q ∷ h) ++ actions_for_all side (q ∷ h) (findings side h) fs) (drop_all (length (findings side h)) (findings side h) (omega arith))
        ∙ append-nil (control_actions side (q ∷ h)) ∙ ap (control-by side (actions_out h)) same ∙ control-quiet side h i o
      where
        same : events (q ∷ h) ≡ events h
        same = ap (λ (b : Bool). if b then with_event (event_of turn) (events h) else events h) o ∙ ap (λ (x : Option Event). with_event x (events h)) e

pub quiet_byte : (side : Side) (h : History) (k b : ℕ) → IsHistory side h → is_lawful side h (turns.Bytes k (b ∷ [])) ≡ true
    → (is_dequeued (findings side h) k && not (is_classified (findings side h) k) && is_final (verdict (with_pair h (turns.Bytes k (b ∷ [])) (next side h (turns.Bytes k (b ∷ [])))) k)) ≡ false
    → control_walk (with_pair h (turns.Bytes k (b ∷ [])) (next side h (turns.Bytes k (b ∷ [])))) (first_of control_in (findings side h)) ≡ control_walk h (first_of control_in (findings side h))
    → (lives h (findings side h) k ≡ true → session_walk (with_pair h (turns.Bytes k (b ∷ [])) (next side h (turns.Bytes k (b ∷ [])))) (findings side h) k ≡ walks.Running)
    → (findings side (with_pair h (turns.Bytes k (b ∷ [])) (next side h (turns.Bytes k (b ∷ [])))) ≡ findings side h) × ((next side h (turns.Bytes k (b ∷ []))).actions ≡ [])
quiet_byte side h k b i l ripe control runs = by (is_open h) refl
  where
    by : (o : Bool) → is_open h ≡ o → (findings side (with_pair h (turns.Bytes k (b ∷ [])) (next side h (turns.Bytes k (b ∷ [])))) ≡ findings side h) × ((next side h (turns.Bytes k (b ∷ []))).actions ≡ [])
    by false o = (ended-found side (p side h k b i l) h o, nothing-after-end side h (turns.Bytes k (b ∷ [])) l o)
    by true o = let f = open-finds side h k b i l o ripe control runs in (f, silent-moment side h (turns.Bytes k (b ∷ [])) i o refl refl refl f)
