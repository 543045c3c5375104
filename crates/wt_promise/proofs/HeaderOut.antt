-- An opening that is polled has sent as much of its header as credit allows.
use Rattle.std.specs.Prelude.{[], ◌++◌, ◌+◌, ◌==◌, ◌||◌, ◌∷◌, ◌≡◌, ◌≤◌, Bool, List, None, Option, Some, drop, false, if◌then◌else◌, is_some, length, take, true, ℕ}
use Rattle.std.specs.List.{list_any}
use Rattle.std.proofs.Common.{◌∙◌, ap, arith, refl, subst, sym}
use Rattle.std.proofs.lemmas.Bool.{eqb-true}
use Rattle.std.proofs.lemmas.List.{append-nil}
use Rattle.wt_meaning.specs.Calls.{being_opened, opened_by, opening_ends, opening_for, opening_rows, stream_header}
use Rattle.wt_meaning.specs.Findings.{first_of}
use Rattle.wt_meaning.specs.Handshakes.{head_left, is_refused, lacks_credit, send}
use Rattle.wt_meaning.specs.History.{History, Pair, credit_left, events, hands_out, is_handed_out, is_open, out}
use Rattle.wt_meaning.specs.Lawful.{is_lawful, is_pending}
use Rattle.wt_meaning.specs.Meaning.{next, own_answer}
use Rattle.wt_meaning.specs.Moments.{findings}
use Rattle.wt_meaning.specs.Sends.{admits}
use Rattle.wt_meaning.specs.Windows.{named}
use Rattle.wt_promise.proofs.OwnForms.{HeaderByHead, frame_or, head_on}
use Rattle.wt_promise.proofs.Begun.{begun-for}
use Rattle.wt_promise.proofs.BytesOut.{bytes-sent, bytes_on, out-add}
use Rattle.wt_promise.proofs.ControlKept.{begun-opening, control-not-opened, own-bytes}
use Rattle.wt_promise.proofs.Flow.{clash}
use Rattle.wt_promise.proofs.Flows.{opening-head}
use Rattle.wt_promise.proofs.Grows.{is_peers}
use Rattle.wt_promise.proofs.HandedOut.{gives-opened, opened-local}
use Rattle.wt_promise.proofs.HeadOut.{below}
use Rattle.wt_promise.proofs.Heads.{accepted-before, begun-not-opened, head-other}
use Rattle.wt_promise.proofs.InOrder.{sends-in-order}
use Rattle.wt_promise.proofs.SettingsOut.{take-split}
use Rattle.wt_promise.proofs.Tables.{OfRows, by-row, by-session, fits, fits-own}
use Rattle.wt_promise.proofs.Verdicts.{accept-admits, admitted-later, admitted-peers}
use Rattle.wt_promise.specs.Owed.{header_for, header_on}
use Rattle.wt_promise.specs.Promise.{IsHistory, begun_on}
use Rattle.wt_turn.specs.Reports.{credit}
use Rattle.wt_turn.specs.Streams.{local_uni}
use Rattle.wt_turn.specs.declared.answer.Answer.{Answer}
use Rattle.wt_turn.specs.declared.call.Call.{Call}
use Rattle.wt_turn.specs.declared.reply.Reply.{Reply}
use Rattle.wt_turn.specs.declared.turn.Turn.{Turn}
use Rattle.wt_wire.specs.declared.side.Side.{Side}
use Rattle.wt_turn.specs.declared.call.Call.TheVariants as calls
use Rattle.wt_turn.specs.declared.reply.Reply.TheVariants as replies
use Rattle.wt_turn.specs.declared.turn.Turn.TheVariants as turns

-- ---- what is being opened wasn't handed out

-- a stream that was handed out is no longer being opened, or was admitted
data Handed (side : Side) (h : History) (k : ℕ) : Type 0 where
  Ended : list_any (λ (p : Pair). opening_ends k p.turn p.answer.reply) h ≡ true → Handed side h k
  Admitted : (s : ℕ) → list_any (admits s k) (findings side h) ≡ true → Handed side h k

-- one reply
data HandedNow (side : Side) (h : History) (k : ℕ) (turn : Turn) (r : Reply) : Type 0 where
  EndedNow : opening_ends k turn r ≡ true → HandedNow side h k turn r
  AdmittedNow : (s : ℕ) → list_any (admits s k) (findings side h) ≡ true → HandedNow side h k turn r

poll-ends : (k id : ℕ) (r : Reply) → (id == k) ≡ true → hands_out k r ≡ true → opening_ends k (turns.Call (calls.PollOpening id)) r ≡ true
poll-ends k id (replies.Uni j) e q = e
poll-ends k id (replies.Bi j) e q = e
poll-ends k id (replies.SendReady j) e q = e
poll-ends k id (replies.BiReady j) e q = e
poll-ends k id r e q = absurd (cc q)

handed-call : (side : Side) (h : History) (k : ℕ) (call : Call) (r : Reply) → (next side h (turns.Call call)).reply ≡ r → fits call r ≡ true → hands_out k r ≡ true → HandedNow side h k (turns.Call call) r
handed-call side h k (calls.AcceptUni name) r q f e = let a = accept-admits side h k (calls.AcceptUni name) r q f refl e in AdmittedNow a.0 a.1
handed-call side h k (calls.AcceptBi name) r q f e = let a = accept-admits side h k (calls.AcceptBi name) r q f refl e in AdmittedNow a.0 a.1
handed-call side h k (calls.PollOpening id) r q f e = EndedNow (poll-ends k id r (opened (ap (hands_out k) q ∙ e)) e)
  where
    opened : hands_out k (next side h (turns.Call (calls.PollOpening id))).reply ≡ true → (id == k) ≡ true
    opened = (by-session (λ (a : Answer). hands_out k a.reply ≡ true → (id == k) ≡ true) (named h None) (λ (s : ℕ). opening_for side h id (being_opened h id)) (λ x. absurd (cc x))
        (λ s x. record { first = λ y. (gives-opened side h k id (being_opened h id) refl y).0 })).first
handed-call side h k call (replies.Uni id) q f e = absurd (cc f)
handed-call side h k call (replies.Bi id) q f e = absurd (cc f)
handed-call side h k call (replies.SendReady id) q f e = absurd (cc f)
handed-call side h k call (replies.BiReady id) q f e = absurd (cc f)
handed-call side h k call r q f e = absurd (cc e)

handed : (side : Side) (h : History) → IsHistory side h → (k : ℕ) → is_handed_out h k ≡ true → Handed side h k
handed side [] i k e = absurd (cc e)
handed side (p ∷ h) i k e = by (hands_out k p.answer.reply) refl e (handed side h i.2 k)
  where
    here : (turn : Turn) → hands_out k (next side h turn).reply ≡ true → HandedNow side h k turn (next side h turn).reply
    here (turns.Call call) q = handed-call side h k call (next side h (turns.Call call)).reply refl (fits-own side h call) q
    here turn q = absurd (cc q)

    now : HandedNow side h k p.turn p.answer.reply → Handed side (p ∷ h) k
    now (EndedNow x) = Ended (ap (λ (b : Bool). b || list_any (λ (q : Pair). opening_ends k q.turn q.answer.reply) h) x)
    now (AdmittedNow s x) = Admitted s (admitted-later side p h s k x)

    later : Handed side h k → Handed side (p ∷ h) k
    later (Ended x) = Ended (ap (λ (b : Bool). opening_ends k p.turn p.answer.reply || b) x ∙ either (opening_ends k p.turn p.answer.reply))
      where
        either : (b : Bool) → (b || true) ≡ true
        either true = refl
        either false = refl
    later (Admitted s x) = Admitted s (admitted-later side p h s k x)

    by : (b : Bool) → hands_out k p.answer.reply ≡ b → (b || is_handed_out h k) ≡ true → (is_handed_out h k ≡ true → Handed side h k) → Handed side (p ∷ h) k
    by true q r again = now (subst (λ (a : Answer). HandedNow side h k p.turn a.reply) (sym i.1) (here p.turn (ap (λ (a : Answer). hands_out k a.reply) (sym i.1) ∙ q)))
    by false q r again = later (again r)

unhanded : (side : Side) (h : History) → IsHistory side h → (k : ℕ) (name : Option ℕ) → being_opened h k ≡ Some name → is_handed_out h k ≡ false
unhanded side h i k name o = by (is_handed_out h k) refl
  where
    ends : (b : Bool) → (if b then None else first_of (λ (p : Pair). opened_by k p.turn p.answer.reply) h) ≡ Some name → b ≡ true → ⊥
    ends true q e = cc q
    ends false q e = cc e

    never : Handed side h k → ⊥
    never (Ended x) = ends (list_any (λ (p : Pair). opening_ends k p.turn p.answer.reply) h) o x
    never (Admitted s x) = clash (is_peers side k) (admitted-peers side h s k x) (opened-local side h i k (ap is_some (begun-opening h k name o)))

    by : (b : Bool) → is_handed_out h k ≡ b → b ≡ false
    by false q = refl
    by true q = absurd (never (handed side h i k q))

-- ---- the poll

-- what an opening that goes on sends
record Polled (h : History) (k : ℕ) (a : Answer) : Type 0 where
  name : Option ℕ
  session : ℕ
  opened : being_opened h k ≡ Some name
  of_session : named h name ≡ Some session
  sends : a.actions ≡ send h k (head_left h k (stream_header k session))

polled : (side : Side) (h : History) (k : ℕ) → (is_pending (next side h (turns.Call (calls.PollOpening k))).reply || hands_out k (next side h (turns.Call (calls.PollOpening k))).reply) ≡ true → Polled h k (own_answer side h (turns.Call (calls.PollOpening k)))
polled side h k = (by-session P (named h None) (λ (s : ℕ). opening_for side h k (being_opened h k)) (λ e. absurd (cc e)) (λ s m. of (being_opened h k) refl)).first
  where
    P : Answer → Type 0
    P a = (is_pending a.reply || hands_out k a.reply) ≡ true → Polled h k a

    of : (o : Option (Option ℕ)) → being_opened h k ≡ o → OfRows P (opening_for side h k o)
    of None e = record { first = λ x. absurd (cc x) }
    of (Some name) e =
        by-session P (named h name) (λ (s : ℕ). opening_rows side h k s (head_left h k (stream_header k s))) (λ x. absurd (cc x))
        (λ s m. by-row P _ _ [] _ (λ q x. absurd (cc x)) (λ q. by-row P (is_refused h k (head_left h k (stream_header k s))) _ [] _ (λ y x. absurd (cc x))
        (λ y. by-row P (lacks_credit h k (head_left h k (stream_header k s))) replies.Pending _ _ (λ z x. record { name = name; session = s; opened = e; of_session = m; sends = refl })
        (λ z. by-row P true _ _ [] (λ w x. record { name = name; session = s; opened = e; of_session = m; sends = refl }) (λ w. absurd (cc w))))))

pub header-goes-out : (side : Side) (h : History) (k : ℕ) → IsHistory side h → is_lawful side h (turns.Call (calls.PollOpening k)) ≡ true → HeaderByHead side h k (next side h (turns.Call (calls.PollOpening k)))
header-goes-out side h k i l g = went ∙ ap (λ (xs : List ℕ). xs ++ take c (drop n head)) front ∙ take-split n c head ∙ ap (λ (m : ℕ). take m head) full
  where
    turn : Turn
    turn = turns.Call (calls.PollOpening k)

    p : Pair
    p = record { turn = turn; answer = next side h turn }

    all : IsHistory side (p ∷ h)
    all = (l, refl, i)

    q : Polled h k (own_answer side h turn)
    q = polled side h k g

    other : (k == local_uni side) ≡ false
    other = of (k == local_uni side) refl
      where
        of : (b : Bool) → (k == local_uni side) ≡ b → b ≡ false
        of false z = refl
        of true z = absurd (control-not-opened side h i (ap (λ (j : ℕ). is_some (first_of (λ (r : Pair). opened_by j r.turn r.answer.reply) h)) (sym (eqb-true k (local_uni side) z)) ∙ ap is_some (begun-opening h k q.name q.opened)))

    head : List ℕ
    head = head_on side (p ∷ h) k

    same : head ≡ stream_header k q.session
    same = opening-head side p h all k q.session q.name other refl q.opened q.of_session

    n : ℕ
    n = length (out h k)

    c : ℕ
    c = credit_left h k

    within : n ≤ credit (events h) k
    within = below side h i k other (unhanded side h i k q.name q.opened)

    went : out (p ∷ h) k ≡ out h k ++ take c (drop n head)
    went = out-add p h k ∙ ap (λ (xs : List ℕ). out h k ++ xs) (own-bytes side h turn k other ∙ ap (bytes_on k) q.sends ∙ bytes-sent k (take c (drop n (stream_header k q.session))) ∙ ap (λ (xs : List ℕ). take c (drop n xs)) (sym same))

    -- what was out before is the head's front
    before : head_on side h k ≡ stream_header k q.session
    before =
        head-other side h k other ∙ ap (λ (x : Option Call). frame_or x (header_on h k (first_of (λ (r : Pair). opened_by k r.turn r.answer.reply) h))) (none (begun_on h k) refl)
        ∙ ap (header_on h k) (begun-opening h k q.name q.opened) ∙ ap (header_for k) q.of_session
      where
        none : (x : Option Call) → begun_on h k ≡ x → x ≡ None
        none None e = refl
        none (Some d) e = absurd (begun-not-opened side h i k (begun-for side h i k d e) q.name (begun-opening h k q.name q.opened))

    front : out h k ≡ take n head
    front =
        sym (sends-in-order side h i k).front ∙ ap (λ (xs : List ℕ). take n (head_on side h k ++ xs)) (accepted-before side h i k (unhanded side h i k q.name q.opened))
        ∙ ap (take n) (append-nil (head_on side h k) ∙ before ∙ sym same)

    full : n + c ≡ credit (events (p ∷ h)) k
    full = let e = by (is_open h) in let w = within in omega (arith, e, w)
      where
        by : (b : Bool) → credit (if b then events h else events h) k ≡ credit (events h) k
        by true = refl
        by false = refl
