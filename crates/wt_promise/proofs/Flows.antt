-- What went out on a stream is its head, and then what writes accepted: for every history.
use Rattle.std.specs.Prelude.{[], ◌++◌, ◌==◌, ◌||◌, ◌∷◌, ◌≡◌, Bool, List, None, Option, Some, drop, false, is_some, length, not, take, true, ℕ}
use Rattle.std.specs.List.{list_any}
use Rattle.std.specs.Option.{option_or}
use Rattle.std.proofs.Common.{◌∙◌, ap, refl, subst, sym}
use Rattle.std.proofs.lemmas.List.{append-nil}
use Rattle.wt_meaning.specs.Calls.{being_opened, opened_by, stream_header}
use Rattle.wt_meaning.specs.Findings.{first_of}
use Rattle.wt_meaning.specs.Handshakes.{begun_by, head_left, is_nothing, lacks_credit, last_begun}
use Rattle.wt_meaning.specs.History.{History, Pair, credit_left, hands_out, is_handed_out, out}
use Rattle.wt_meaning.specs.Lawful.{polls}
use Rattle.wt_meaning.specs.Meaning.{next, own_answer}
use Rattle.wt_meaning.specs.Moments.{findings}
use Rattle.wt_meaning.specs.Sends.{admits}
use Rattle.wt_meaning.specs.Windows.{named}
use Rattle.wt_promise.proofs.OwnForms.{frame_or, head_of, head_on}
use Rattle.wt_promise.proofs.Asks.{Asks, Begins, Else, ForRequest, GoesOn, Responds, asks-of, of-connect, of-response}
use Rattle.wt_promise.proofs.Begun.{PolledStream, begun, begun-for, begun-now, begun-same, first-begun, last_stream, polled-stream, stream-zero}
use Rattle.wt_promise.proofs.BytesOut.{bytes_on, out-add}
use Rattle.wt_promise.proofs.ControlKept.{begun-opening, own-bytes}
use Rattle.wt_promise.proofs.Flow.{Flow, InHead, clash, flow-as, flow-given, flow-new, flow-on, flow-whole, flow-write}
use Rattle.wt_promise.proofs.Grows.{is_peers}
use Rattle.wt_promise.proofs.HandedOut.{opened-local}
use Rattle.wt_promise.proofs.Heads.{HeadStep, New, Same, accepted-before, begun-not-admitted, begun-not-opened, head-other, head-step}
use Rattle.wt_promise.proofs.Sent.{Given, Opening, Polled, Quiet, Sent, Wrote, sent-own}
use Rattle.wt_promise.proofs.Shakes.{head_stream}
use Rattle.wt_promise.proofs.Shapes.{going, is_accept}
use Rattle.wt_promise.proofs.Stays.{named-stays}
use Rattle.wt_promise.proofs.Tables.{fits-own}
use Rattle.wt_promise.proofs.Verdicts.{accept-admits, admitted-later, admitted-peers}
use Rattle.wt_promise.specs.Owed.{header_for, header_on}
use Rattle.wt_promise.specs.Promise.{IsHistory, accepted, accepted_by, begun_on}
use Rattle.wt_turn.specs.Streams.{local_uni}
use Rattle.wt_turn.specs.declared.answer.Answer.{Answer}
use Rattle.wt_turn.specs.declared.call.Call.{Call}
use Rattle.wt_turn.specs.declared.turn.Turn.{Turn}
use Rattle.wt_wire.specs.declared.side.Side.{Side}
use Rattle.wt_wire.specs.declared.side.Side.TheVariants.{Client, Server}
use Rattle.wt_turn.specs.declared.call.Call.TheVariants as calls
use Rattle.wt_turn.specs.declared.turn.Turn.TheVariants as turns

-- ---- whose head goes out

pub polled-last : (side : Side) (h : History) → IsHistory side h → (c : Call) (k : ℕ) → PolledStream side h c → head_stream h c ≡ k → last_stream h ≡ k
polled-last Client h i (calls.Connect options lookup outcome) k q e = stream-zero h i ∙ e
polled-last Client h i c k q e = absurd (cc q)
polled-last Server h i (calls.Connect options lookup outcome) k q e = absurd (let r = q.0 in cc r)
polled-last Server h i c k q e = e

-- a poll's is that of the connect or response that was begun for the stream
pub polled-begun : (side : Side) (p : Pair) (h : History) → IsHistory side (p ∷ h) → (c : Call) → polls p.turn ≡ true → going h p.turn ≡ Some c → begun_on (p ∷ h) (last_stream h) ≡ Some c
polled-begun side p h i c q g = by (asks-of side p h i)
  where
    same : (d : Call) → begun_by p.turn ≡ Some d → begun_on h (last_stream h) ≡ None → begun_on (p ∷ h) (last_stream h) ≡ Some c
    same d b n = begun-now p h (last_stream h) d n refl b ∙ ap (λ (o : Option Call). option_or o (last_begun h)) (sym b) ∙ g

    by : Asks side h p.turn p.answer.reply → begun_on (p ∷ h) (last_stream h) ≡ Some c
    by (Begins d s t k f x n) = same d (ap begun_by t ∙ (of-connect d k).1) (first-begun h f)
    by (ForRequest s t a n) = absurd (let r : false ≡ true = sym (ap polls t) ∙ q in cc r)
    by (Responds d s t k w n) = same d (ap begun_by t ∙ (of-response d k).begun) ((begun side h i.2).fresh w)
    by (GoesOn t w n) = begun-same p h (last_stream h) (ap begun_by t) ∙ (begun side h i.2).waiting w ∙ sym (ap (λ (x : Turn). going h x) t) ∙ g
    by (Else a b m x n) = absurd (let r : false ≡ true = sym a ∙ q in cc r)

-- an opening's is its header
pub opening-head : (side : Side) (p : Pair) (h : History) → IsHistory side (p ∷ h) → (k s : ℕ) (name : Option ℕ) → (k == local_uni side) ≡ false → p.turn ≡ turns.Call (calls.PollOpening k) → being_opened h k ≡ Some name → named h name ≡ Some s
    → head_on side (p ∷ h) k ≡ stream_header k s
opening-head side p h i k s name n t o m =
    head-other side (p ∷ h) k n ∙ ap (λ (x : Option Call). frame_or x (header_on (p ∷ h) k (first_of (λ (q : Pair). opened_by k q.turn q.answer.reply) (p ∷ h)))) none
    ∙ ap (header_on (p ∷ h) k) (ap (λ (x : Turn). option_or (opened_by k x p.answer.reply) (first_of (λ (q : Pair). opened_by k q.turn q.answer.reply) h)) t ∙ opens)
    ∙ ap (header_for k) (named-stays p h name s m)
  where
    opens : first_of (λ (q : Pair). opened_by k q.turn q.answer.reply) h ≡ Some name
    opens = begun-opening h k name o

    none : begun_on (p ∷ h) k ≡ None
    none = begun-same p h k (ap begun_by t) ∙ by (begun_on h k) refl
      where
        by : (x : Option Call) → begun_on h k ≡ x → x ≡ None
        by None q = refl
        by (Some c) q = absurd (begun-not-opened side h i.2 k (begun-for side h i.2 k c q) name opens)

-- an accepted stream has none
turn-admits : (side : Side) (h : History) (k : ℕ) (turn : Turn) → is_accept turn ≡ true → hands_out k (next side h turn).reply ≡ true → (s : ℕ) × (list_any (admits s k) (findings side h) ≡ true)
turn-admits side h k (turns.Call call) w e = accept-admits side h k call (next side h (turns.Call call)).reply refl (fits-own side h call) w e
turn-admits side h k turn w e = absurd (cc w)

accepted-head : (side : Side) (p : Pair) (h : History) → IsHistory side (p ∷ h) → (k s : ℕ) → (k == local_uni side) ≡ false → list_any (admits s k) (findings side h) ≡ true → head_on side (p ∷ h) k ≡ []
accepted-head side p h i k s n e = head-other side (p ∷ h) k n ∙ ap (λ (x : Option Call). frame_or x (header_on (p ∷ h) k (opened (p ∷ h)))) (none (begun_on (p ∷ h) k) refl) ∙ ap (header_on (p ∷ h) k) (unopened (opened (p ∷ h)) refl)
  where
    opened : History → Option (Option ℕ)
    opened x = first_of (λ (q : Pair). opened_by k q.turn q.answer.reply) x

    stays : list_any (admits s k) (findings side (p ∷ h)) ≡ true
    stays = admitted-later side p h s k e

    none : (x : Option Call) → begun_on (p ∷ h) k ≡ x → x ≡ None
    none None q = refl
    none (Some c) q = absurd (begun-not-admitted side (p ∷ h) i k s (begun-for side (p ∷ h) i k c q) stays)

    unopened : (x : Option (Option ℕ)) → opened (p ∷ h) ≡ x → x ≡ None
    unopened None q = refl
    unopened (Some name) q = absurd (clash (is_peers side k) (admitted-peers side (p ∷ h) s k stays) (opened-local side (p ∷ h) i k (ap is_some q)))

-- ---- every history

pub no-left : (h : History) (k : ℕ) (left : List ℕ) → lacks_credit h k left ≡ false → drop (credit_left h k) left ≡ []
no-left h k left e = by (drop (credit_left h k) left) e
  where
    by : (xs : List ℕ) → not (is_nothing xs) ≡ false → xs ≡ []
    by [] q = refl
    by (x ∷ xs) q = absurd (cc q)

flow-after : (side : Side) (p : Pair) (h : History) → IsHistory side (p ∷ h) → (k : ℕ) → (k == local_uni side) ≡ false → Flow (head_on side h k) (out h k) (accepted h k) (is_handed_out h k)
    → Flow (head_on side (p ∷ h) k) (out (p ∷ h) k) (accepted (p ∷ h) k) (is_handed_out (p ∷ h) k)
flow-after side p h i k n earlier = step (sent-own side h k p.turn)
  where
    head : List ℕ
    head = head_on side (p ∷ h) k

    own : Answer
    own = own_answer side h p.turn

    went : out (p ∷ h) k ≡ out h k ++ bytes_on k own.actions
    went = out-add p h k ∙ ap (λ (a : Answer). out h k ++ bytes_on k a.actions) i.1 ∙ ap (λ (xs : List ℕ). out h k ++ xs) (own-bytes side h p.turn k n)

    before : Flow head (out h k) (accepted h k) (is_handed_out h k)
    before = by (head-step side p h i k n)
      where
        by : HeadStep side p h k → Flow head (out h k) (accepted h k) (is_handed_out h k)
        by (Same e) = subst (λ (x : List ℕ). Flow x (out h k) (accepted h k) (is_handed_out h k)) (sym e) earlier
        by (New e g) = flow-new (head_on side h k) head (out h k) (accepted h k) (is_handed_out h k) e (accepted-before side h i.2 k g) g earlier

    -- from what the call sends, accepts and hands out
    from : (bytes piece : List ℕ) (b : Bool) → bytes_on k own.actions ≡ bytes → accepted_by k p.turn own.reply ≡ piece → hands_out k own.reply ≡ b → Flow head (out h k ++ bytes) (accepted h k ++ piece) (b || is_handed_out h k)
        → Flow head (out (p ∷ h) k) (accepted (p ∷ h) k) (is_handed_out (p ∷ h) k)
    from bytes piece b x y z f =
        flow-as head (out h k ++ bytes) (out (p ∷ h) k) (accepted h k ++ piece) (accepted (p ∷ h) k) (b || is_handed_out h k) (is_handed_out (p ∷ h) k)
        (sym (went ∙ ap (λ (xs : List ℕ). out h k ++ xs) x)) (sym (ap (λ (a : Answer). accepted h k ++ accepted_by k p.turn a.reply) i.1 ∙ ap (λ (xs : List ℕ). accepted h k ++ xs) y))
        (sym (ap (λ (a : Answer). hands_out k a.reply || is_handed_out h k) i.1 ∙ ap (λ (c : Bool). c || is_handed_out h k) z)) f

    still : (bytes : List ℕ) (b : Bool) → bytes_on k own.actions ≡ bytes → accepted_by k p.turn own.reply ≡ [] → hands_out k own.reply ≡ b → Flow head (out h k ++ bytes) (accepted h k) (b || is_handed_out h k)
        → Flow head (out (p ∷ h) k) (accepted (p ∷ h) k) (is_handed_out (p ∷ h) k)
    still bytes b x y z f = from bytes [] b x y z (subst (λ (xs : List ℕ). Flow head (out h k ++ bytes) xs (b || is_handed_out h k)) (sym (append-nil (accepted h k))) f)

    silent : (b : Bool) → bytes_on k own.actions ≡ [] → accepted_by k p.turn own.reply ≡ [] → hands_out k own.reply ≡ b → Flow head (out h k) (accepted h k) (b || is_handed_out h k) → Flow head (out (p ∷ h) k) (accepted (p ∷ h) k) (is_handed_out (p ∷ h) k)
    silent b x y z f = still [] b x y z (subst (λ (xs : List ℕ). Flow head xs (accepted h k) (b || is_handed_out h k)) (sym (append-nil (out h k))) f)

    step : Sent side h k p.turn own → Flow head (out (p ∷ h) k) (accepted (p ∷ h) k) (is_handed_out (p ∷ h) k)
    step (Quiet x y z) = silent false x y z before
    step (Given x y w) = by (hands_out k own.reply) refl
      where
        by : (b : Bool) → hands_out k own.reply ≡ b → Flow head (out (p ∷ h) k) (accepted (p ∷ h) k) (is_handed_out (p ∷ h) k)
        by false z = silent false x y z before
        by true z = let a = turn-admits side h k p.turn w z in silent true x y z (flow-given head (out h k) (accepted h k) (is_handed_out h k) true (accepted-head side p h i k a.0 n a.1) before)
    step (Wrote g x w) =
        from (bytes_on k own.actions) (bytes_on k own.actions) (hands_out k own.reply) refl (sym x) refl (flow-write head (out h k) (accepted h k) (bytes_on k own.actions) (is_handed_out h k) (hands_out k own.reply || is_handed_out h k) g before)
    step (Polled c q g s x y z) =
        let l = polled-last side h i.2 c k (polled-stream side h p.turn c i.2 i.0 q g) s in
        let f : head ≡ head_of (Some c) = head-other side (p ∷ h) k n ∙ ap (λ (o : Option Call). frame_or o (header_on (p ∷ h) k (first_of (λ (r : Pair). opened_by k r.turn r.answer.reply) (p ∷ h)))) (ap (begun_on (p ∷ h)) (sym l) ∙ polled-begun side p h i c q g) in
        still (take (credit_left h k) (drop (length (out h k)) head)) false (x ∙ ap (λ (xs : List ℕ). take (credit_left h k) (drop (length (out h k)) xs)) (sym f)) y z
        (flow-on head (out h k) (accepted h k) (is_handed_out h k) (credit_left h k) before)
    step (Opening name s o m x y r t) = by (hands_out k own.reply) refl
      where
        f : head ≡ stream_header k s
        f = opening-head side p h i k s name n t o m

        sent : bytes_on k own.actions ≡ take (credit_left h k) (drop (length (out h k)) head)
        sent = x ∙ ap (λ (xs : List ℕ). take (credit_left h k) (drop (length (out h k)) xs)) (sym f)

        by : (b : Bool) → hands_out k own.reply ≡ b → Flow head (out (p ∷ h) k) (accepted (p ∷ h) k) (is_handed_out (p ∷ h) k)
        by false z = still (take (credit_left h k) (drop (length (out h k)) head)) false sent y z (flow-on head (out h k) (accepted h k) (is_handed_out h k) (credit_left h k) before)
        by true z =
            let d = ap (λ (xs : List ℕ). drop (credit_left h k) (drop (length (out h k)) xs)) f ∙ no-left h k (head_left h k (stream_header k s)) (r z) in
            still (take (credit_left h k) (drop (length (out h k)) head)) true sent y z (flow-whole head (out h k) (accepted h k) (is_handed_out h k) true (credit_left h k) d before)

pub flow : (side : Side) (h : History) → IsHistory side h → (k : ℕ) → (k == local_uni side) ≡ false → Flow (head_on side h k) (out h k) (accepted h k) (is_handed_out h k)
flow side [] i k n = InHead refl refl refl
flow side (p ∷ h) i k n = flow-after side p h i k n (flow side h i.2 k n)
