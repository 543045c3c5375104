-- Where a session becomes gone, each of its streams is told in the same answer.
use Rattle.std.specs.Prelude.{[], ◌%◌, ◌&&◌, ◌++◌, ◌==◌, ◌||◌, ◌∷◌, ◌≡◌, Bool, List, None, false, not, true, ℕ}
use Rattle.std.specs.List.{list_any}
use Rattle.std.proofs.Common.{◌∙◌, ap, refl, sym}
use Rattle.std.proofs.lemmas.Bool.{eq-eqb, not-true}
use Rattle.std.proofs.lemmas.List.{append-nil}
use Rattle.std.proofs.lemmas.List.Folds.{list_any-append}
use Rattle.wt_meaning.specs.Findings.{Finding}
use Rattle.wt_meaning.specs.Halves.{has_sending, is_done}
use Rattle.wt_meaning.specs.History.{History, Pair, actions_out, answers_reset, answers_stop, can_receive, can_send, events, exists, is_given_up, is_open, is_reset, is_reset_of, was_finished}
use Rattle.wt_meaning.specs.Meaning.{next, own_answer, with_pair}
use Rattle.wt_meaning.specs.Moments.{findings}
use Rattle.wt_meaning.specs.Sends.{action_if, admits, is_of_session, moment_actions, stream_gone_actions}
use Rattle.wt_meaning.specs.Windows.{gone_in, is_gone_by_call, is_number, makes_gone}
use Rattle.wt_promise.proofs.Accepted.{and-left, and-right, or-first, or-last, or-left, or-right, or-true}
use Rattle.wt_promise.proofs.Actions.{AnyPiece, any-next}
use Rattle.wt_promise.proofs.GoneWhy.{ByEnd, ByRejection, GoneBy, gone-by}
use Rattle.wt_promise.proofs.GoneByCall.{admits-no-more, call-tells}
use Rattle.wt_promise.proofs.GoneSends.{gone-among, in-gone, until-any, until-append}
use Rattle.wt_promise.proofs.Grows.{findings-add, news}
use Rattle.wt_promise.proofs.Owed.{has-right, moment-has}
use Rattle.wt_promise.proofs.Stays.{any-newest, exists-stays, of-session-stays}
use Rattle.wt_promise.proofs.Tables.{by-row, no-row}
use Rattle.wt_promise.proofs.OwnForms.{GoneByOwn, leaves_open, StreamTold, ends_sending, resets_with, stops_with}
use Rattle.wt_promise.specs.Promise.{until_gone}
use Rattle.wt_turn.specs.Reports.{end_of, is_running}
use Rattle.wt_turn.specs.Sent.{finishes}
use Rattle.wt_turn.specs.Streams.{local_uni, peer_uni}
use Rattle.wt_turn.specs.Turns.{event_of}
use Rattle.wt_turn.specs.declared.action.Action.{Action}
use Rattle.wt_turn.specs.declared.answer.Answer.{Answer}
use Rattle.wt_turn.specs.declared.reply.Reply.{Reply}
use Rattle.wt_turn.specs.declared.turn.Turn.{Turn}
use Rattle.wt_wire.specs.declared.side.Side.{Side}
use Rattle.wt_turn.specs.declared.action.Action.TheVariants as actions
use Rattle.wt_turn.specs.declared.call.Call.TheVariants as calls
use Rattle.wt_turn.specs.declared.reply.Reply.TheVariants as replies
use Rattle.wt_turn.specs.declared.turn.Turn.TheVariants as turns

-- a test passes fewer than another one
any-less : (few many : Action → Bool) → ((a : Action) → few a ≡ true → many a ≡ true) → (as_ : List Action) → list_any many as_ ≡ false → list_any few as_ ≡ false
any-less few many f [] e = refl
any-less few many f (a ∷ as_) e = by (few a) refl (any-less few many f as_ (or-right (many a) (list_any many as_) e))
  where
    by : (b : Bool) → few a ≡ b → list_any few as_ ≡ false → (few a || list_any few as_) ≡ false
    by true i rest = absurd (let r : true ≡ false = sym (f a i) ∙ or-left (many a) (list_any many as_) e in cc r)
    by false i rest = rw (i, rest) refl

finish-ends : (k : ℕ) (a : Action) → finishes k a ≡ true → ends_sending k a ≡ true
finish-ends k (actions.Finish id) e = e
finish-ends k a e = absurd (cc e)

reset-ends : (k : ℕ) (a : Action) → is_reset_of k a ≡ true → ends_sending k a ≡ true
reset-ends k (actions.ResetOut id code) e = e
reset-ends k a e = absurd (cc e)

-- a reset that is answered Done while the connection is open goes out
abbrev Resets : ℕ → Turn → Answer → Type 0
Resets k turn a = answers_reset k turn a.reply ≡ true → list_any (ends_sending k) a.actions ≡ true

reset-acts : (side : Side) (h : History) (k : ℕ) (turn : Turn) → is_open h ≡ true → Resets k turn (own_answer side h turn)
reset-acts side h k (turns.Call (calls.ResetSend id code)) o =
    (by-row P (not (has_sending side h id)) replies.NoStream [] _ (λ c e. absurd (cc e))
    (λ c. by-row P (is_done h id) replies.ClosedStream [] _ (λ d e. absurd (cc e))
    (λ d. by-row P true replies.Done _ [] (λ f e. rw (o, e) refl) (λ f. no-row P (λ e. absurd (cc f)))))).first
  where
    P : Answer → Type 0
    P = Resets k (turns.Call (calls.ResetSend id code))
reset-acts side h k turn o = λ e. absurd (cc e)

not-either : (a b : Bool) → a ≡ false → b ≡ false → not (a || b) ≡ true
not-either true b e f = absurd (cc e)
not-either false true e f = absurd (cc f)
not-either false false e f = refl

both : (a b : Bool) → a ≡ true → b ≡ true → (a && b) ≡ true
both a b e f = rw (e, f) refl

-- the sending half still runs after the call's own actions
still-sends : (side : Side) (h : History) (turn : Turn) (k : ℕ) → is_open h ≡ true → list_any (ends_sending k) (own_answer side h turn).actions ≡ false
    → (can_send side h k && not (was_finished h k) && not (is_reset h k)) ≡ true
    → (can_send side (with_pair h turn (own_answer side h turn)) k && not (was_finished (with_pair h turn (own_answer side h turn)) k) && not (is_reset (with_pair h turn (own_answer side h turn)) k)) ≡ true
still-sends side h turn k o n e =
    both (can_send side (p ∷ h) k && not (was_finished (p ∷ h) k)) (not (is_reset (p ∷ h) k)) (both (can_send side (p ∷ h) k) (not (was_finished (p ∷ h) k)) can unfinished) unreset
  where
    own : Answer
    own = own_answer side h turn

    p : Pair
    p = record { turn = turn; answer = own }

    front : (can_send side h k && not (was_finished h k)) ≡ true
    front = and-left (can_send side h k && not (was_finished h k)) (not (is_reset h k)) e

    can : can_send side (p ∷ h) k ≡ true
    can = let c = and-left (can_send side h k) (not (was_finished h k)) front in
        both (exists side (p ∷ h) k) _ (exists-stays side p h k (and-left (exists side h k) _ c)) (and-right (exists side h k) (not (k % 4 == peer_uni side)) c)

    unfinished : not (was_finished (p ∷ h) k) ≡ true
    unfinished = ap not (any-newest (finishes k) own.actions (actions_out h))
        ∙ not-either (list_any (finishes k) own.actions) (list_any (finishes k) (actions_out h)) (any-less (finishes k) (ends_sending k) (finish-ends k) own.actions n)
        (not-true (was_finished h k) (and-right (can_send side h k) (not (was_finished h k)) front))

    before : is_reset h k ≡ false
    before = not-true (is_reset h k) (and-right (can_send side h k && not (was_finished h k)) (not (is_reset h k)) e)

    none-answers : answers_reset k turn own.reply ≡ false
    none-answers = by (answers_reset k turn own.reply) refl
      where
        by : (b : Bool) → answers_reset k turn own.reply ≡ b → b ≡ false
        by true i = absurd (let r : true ≡ false = sym (reset-acts side h k turn o i) ∙ n in cc r)
        by false i = refl

    unreset : not (is_reset (p ∷ h) k) ≡ true
    unreset =
        not-either (list_any (is_reset_of k) (actions_out (p ∷ h))) (answers_reset k turn own.reply || list_any (λ (q : Pair). answers_reset k q.turn q.answer.reply) h)
        (any-newest (is_reset_of k) own.actions (actions_out h)
        ∙ rw (any-less (is_reset_of k) (ends_sending k) (reset-ends k) own.actions n, or-left (list_any (is_reset_of k) (actions_out h)) _ before) refl)
        (rw (none-answers, or-right (list_any (is_reset_of k) (actions_out h)) _ before) refl)

-- which test finds what in what goes out for a stream
stops-told : (side : Side) (h : History) (k : ℕ) → (can_receive side h k && is_running (end_of (events h) k) && not (is_given_up h k)) ≡ true → list_any (stops_with k 0x170d7b68) (stream_gone_actions side h k) ≡ true
stops-told side h k e = rw (e, eq-eqb k k refl) refl

resets-told : (side : Side) (h : History) (k : ℕ) → (can_send side h k && not (was_finished h k) && not (is_reset h k)) ≡ true → list_any (resets_with k 0x170d7b68) (stream_gone_actions side h k) ≡ true
resets-told side h k e =
    has-right (resets_with k 0x170d7b68) (action_if (can_receive side h k && is_running (end_of (events h) k) && not (is_given_up h k)) (actions.StopOut k 0x170d7b68)) _ (rw (e, eq-eqb k k refl) refl)

-- a turn that a session is made gone by is a call
of-call : (h : History) (turn : Turn) (r : Reply) (s : ℕ) → is_number s (gone_in h turn r) ≡ true → (side : Side) → r ≡ (own_answer side h turn).reply → event_of turn ≡ None
of-call h turn r s n side e = by turn refl (gone-by h turn r s n)
  where
    rejected : (t : Turn) → turn ≡ t → r ≡ replies.Rejected → event_of t ≡ None
    rejected (turns.Call call) i q = refl
    rejected t i q = absurd (let m = sym q ∙ e ∙ ap (λ (x : Turn). (own_answer side h x).reply) i in cc m)

    by : (t : Turn) → turn ≡ t → GoneBy h turn r s → event_of turn ≡ None
    by t i (ByRejection q last) = ap event_of i ∙ rejected t i q
    by t i (ByEnd name q known) = ap event_of q

pub gone-told : (side : Side) (h : History) (turn : Turn) → GoneByOwn side h turn (next side h turn)
gone-told side h turn s k o way g later m = by (is_number s (gone_in h turn own.reply)) refl
  where
    own : Answer
    own = own_answer side h turn

    p : Pair
    p = record { turn = turn; answer = own }

    a : Answer
    a = next side h turn

    in-answer : (test : Action → Bool) → AnyPiece test → list_any test own.actions ≡ true → list_any test a.actions ≡ true
    in-answer test n t = any-next test n side h turn ∙ ap (λ (b : Bool). b || list_any test (moment_actions side (with_pair h turn own))) t

    runs : (can_receive side h k && is_running (end_of (events (with_pair h turn a)) k) && not (is_given_up (with_pair h turn a) k)) ≡ true → (can_receive side h k ≡ true) × (is_running (end_of (events (p ∷ h)) k) ≡ true) × (not (is_given_up (p ∷ h) k) ≡ true)
    runs e = let f = and-left (can_receive side h k && is_running (end_of (events (p ∷ h)) k)) (not (is_given_up (p ∷ h) k)) e in
        (and-left (can_receive side h k) (is_running (end_of (events (p ∷ h)) k)) f, and-right (can_receive side h k) (is_running (end_of (events (p ∷ h)) k)) f, and-right (can_receive side h k && is_running (end_of (events (p ∷ h)) k)) (not (is_given_up (p ∷ h) k)) e)

    -- its streams, where a call makes it gone
    before-call : is_number s (gone_in h turn own.reply) ≡ true → is_of_session h (findings side h) s k ≡ true
    before-call n = by-either (list_any (admits s k) (until_gone s (findings side (with_pair h turn a)))) refl m
      where
        opened : Bool
        opened = is_of_session h [] s k

        by-either : (b : Bool) → list_any (admits s k) (until_gone s (findings side (with_pair h turn a))) ≡ b → (b || opened) ≡ true → (list_any (admits s k) (findings side h) || opened) ≡ true
        by-either true i r =
            let mine : list_any (admits s k) (findings side h) ≡ true
            = sym (admits-no-more side (record { turn = turn; answer = a }) h s k (ap (λ (b : Bool). b || is_gone_by_call h s) n)) ∙ until-any (admits s k) s (findings side (with_pair h turn a)) i in
            ap (λ (b : Bool). b || opened) mine
        by-either false i r = ap (λ (b : Bool). list_any (admits s k) (findings side h) || b) r ∙ or-true (list_any (admits s k) (findings side h))

    -- by a call
    told-by-call : is_number s (gone_in h turn own.reply) ≡ true → StreamTold side h (with_pair h turn a) own.actions a k
    told-by-call n = record { receiving = receiving; sending = sending }
      where
        same-events : events (p ∷ h) ≡ events h
        same-events = rw (o, of-call h turn own.reply s n side refl) refl

        receiving : (can_receive side h k && is_running (end_of (events (with_pair h turn a)) k) && not (is_given_up (with_pair h turn a) k)) ≡ true → list_any (stops_with k 0x170d7b68) a.actions ≡ true
        receiving e = let r = runs e in
            in-answer (stops_with k 0x170d7b68) (λ i x y. refl) (call-tells (stops_with k 0x170d7b68) side h turn s o g n
            (in-gone (stops_with k 0x170d7b68) side h (findings side h) s k (and-left (exists side h k) _ r.0) (before-call n)
            (stops-told side h k (both (can_receive side h k && is_running (end_of (events h) k)) (not (is_given_up h k))
            (both (can_receive side h k) (is_running (end_of (events h) k)) r.0 (ap (λ es. is_running (end_of es k)) (sym same-events) ∙ r.1))
            (ap not (or-right (answers_stop k turn own.reply) (is_given_up h k) (not-true (is_given_up (p ∷ h) k) r.2)))))))

        sending : (can_send side h k && not (was_finished h k) && not (is_reset h k)) ≡ true → (list_any (resets_with k 0x170d7b68) a.actions || list_any (ends_sending k) own.actions) ≡ true
        sending e =
            ap (λ (b : Bool). b || list_any (ends_sending k) own.actions) (in-answer (resets_with k 0x170d7b68) (λ i x y. refl) (call-tells (resets_with k 0x170d7b68) side h turn s o g n
            (in-gone (resets_with k 0x170d7b68) side h (findings side h) s k
            (and-left (exists side h k) _ (and-left (can_send side h k) _ (and-left (can_send side h k && not (was_finished h k)) _ e))) (before-call n) (resets-told side h k e))))

    -- by what is found
    told-by-finding : leaves_open side h turn ≡ true → is_number s (gone_in h turn own.reply) ≡ false → StreamTold side h (with_pair h turn a) own.actions a k
    told-by-finding l n = record { receiving = receiving; sending = sending }
      where
        new : List Finding
        new = news side (record { turn = turn; answer = a }) h

        grown : findings side (with_pair h turn a) ≡ findings side h ++ new
        grown = findings-add side (record { turn = turn; answer = a }) h

        none-before : list_any (makes_gone s) (findings side h) ≡ false
        none-before = or-right (is_gone_by_call h s) (list_any (makes_gone s) (findings side h)) g

        found-gone : list_any (makes_gone s) new ≡ true
        found-gone =
            or-last (list_any (makes_gone s) (findings side h)) (list_any (makes_gone s) new)
            (sym (list_any-append (makes_gone s) (findings side h) new) ∙ ap (list_any (makes_gone s)) (sym grown) ∙ or-last (is_number s (gone_in h turn own.reply) || is_gone_by_call h s) _ later
            (rw (n, or-left (is_gone_by_call h s) _ g) refl))
            none-before

        front : List Finding
        front = findings side h ++ until_gone s new

        in-front : is_of_session (p ∷ h) front s k ≡ true
        in-front =
            ap (λ (xs : List Finding). is_of_session (p ∷ h) xs s k) (sym (append-nil front))
            ∙ of-session-stays p h front [] s k (ap (λ (xs : List Finding). is_of_session h xs s k) (sym (ap (until_gone s) grown ∙ until-append s (findings side h) new none-before)) ∙ m)

        told : (test : Action → Bool) → AnyPiece test → exists side h k ≡ true → list_any test (stream_gone_actions side (p ∷ h) k) ≡ true → list_any test a.actions ≡ true
        told test any x t =
            moment-has test any side h turn new l grown
            (gone-among test side (p ∷ h) s (findings side h) new (in-gone test side (p ∷ h) front s k (exists-stays side p h k x) in-front t) found-gone)

        receiving : (can_receive side h k && is_running (end_of (events (with_pair h turn a)) k) && not (is_given_up (with_pair h turn a) k)) ≡ true → list_any (stops_with k 0x170d7b68) a.actions ≡ true
        receiving e = let r = runs e in let x = and-left (exists side h k) (not (k % 4 == local_uni side)) r.0 in
            told (stops_with k 0x170d7b68) (λ i y z. refl) x
            (stops-told side (p ∷ h) k (both (can_receive side (p ∷ h) k && is_running (end_of (events (p ∷ h)) k)) (not (is_given_up (p ∷ h) k))
            (both (can_receive side (p ∷ h) k) (is_running (end_of (events (p ∷ h)) k)) (both (exists side (p ∷ h) k) _ (exists-stays side p h k x) (and-right (exists side h k) (not (k % 4 == local_uni side)) r.0)) r.1) r.2))

        sending : (can_send side h k && not (was_finished h k) && not (is_reset h k)) ≡ true → (list_any (resets_with k 0x170d7b68) a.actions || list_any (ends_sending k) own.actions) ≡ true
        sending e = by-own (list_any (ends_sending k) own.actions) refl
          where
            by-own : (b : Bool) → list_any (ends_sending k) own.actions ≡ b → (list_any (resets_with k 0x170d7b68) a.actions || list_any (ends_sending k) own.actions) ≡ true
            by-own true i = rw i (or-true (list_any (resets_with k 0x170d7b68) a.actions))
            by-own false i =
                ap (λ (b : Bool). b || list_any (ends_sending k) own.actions)
                (told (resets_with k 0x170d7b68) (λ j y z. refl) (and-left (exists side h k) _ (and-left (can_send side h k) _ (and-left (can_send side h k && not (was_finished h k)) _ e)))
                (resets-told side (p ∷ h) k (still-sends side h turn k o i e)))

    by : (b : Bool) → is_number s (gone_in h turn own.reply) ≡ b → StreamTold side h (with_pair h turn a) own.actions a k
    by true i = told-by-call i
    by false i = told-by-finding (or-first (leaves_open side h turn) (is_number s (gone_in h turn own.reply)) way i) i
