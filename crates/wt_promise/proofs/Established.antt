-- What a session rests on: SETTINGS came, it was asked for, its whole frame went out, the connection is open, and it is new.
use Rattle.wt_promise.proofs.Statements.{EstablishedRightly}
use Rattle.std.specs.Prelude.{[], ◌&&◌, ◌++◌, ◌==◌, ◌||◌, ◌∷◌, ◌≡◌, ◌≤◌, Bool, List, None, Option, Some, false, if◌then◌else◌, length, not, take, true, unwrap_or, ℕ}
use Rattle.std.specs.List.{list_any}
use Rattle.std.specs.Option.{option_or}
use Rattle.std.proofs.Common.{◌∙◌, ap, arith, length-append, refl, subst, sym}
use Rattle.std.proofs.lemmas.Bool.{eq-eqb, eqb-true}
use Rattle.std.proofs.lemmas.List.{append-nil, length-drop, take_all}
use Rattle.std.proofs.lemmas.List.Folds.{list_any-append}
use Rattle.wt_meaning.specs.Calls.{opened_by}
use Rattle.wt_meaning.specs.Findings.{first_of, reads_settings, settings_came}
use Rattle.wt_meaning.specs.Handshakes.{head_left, is_opened, is_success, lacks_credit, last_begun, poll_rows, send, was_given}
use Rattle.wt_meaning.specs.History.{History, Pair, actions_out, contents, credit_left, events, is_handed_out, out}
use Rattle.wt_meaning.specs.Lawful.{is_first, is_lawful, is_response, polls}
use Rattle.wt_meaning.specs.Meaning.{next, own_answer, with_pair}
use Rattle.wt_meaning.specs.Moments.{findings}
use Rattle.wt_meaning.specs.Rows.{first_row}
use Rattle.wt_meaning.specs.Sends.{action_if}
use Rattle.wt_meaning.specs.Windows.{is_established, is_number, last_request, request_in, requests, session_in}
use Rattle.wt_promise.proofs.Aims.{same-head}
use Rattle.wt_promise.proofs.OwnForms.{frame_or, head_of, head_on}
use Rattle.wt_promise.proofs.Accepted.{and-right}
use Rattle.wt_promise.proofs.Begun.{BegunFor, begun-for, last_stream, polled-stream}
use Rattle.wt_promise.proofs.BytesOut.{bytes-append, bytes_on, out-add}
use Rattle.wt_promise.proofs.ControlKept.{begun-not-control, own-bytes, polled-k}
use Rattle.wt_promise.proofs.Few.{APoll, AnAccept, SessionCall, new-session, session-call}
use Rattle.wt_promise.proofs.Flow.{Flow, InHead, Past, take-all-of}
use Rattle.wt_promise.proofs.Flows.{flow, no-left, polled-begun, polled-last}
use Rattle.wt_promise.proofs.Fresh.{client-begun, established-opened}
use Rattle.wt_promise.proofs.Grows.{findings-add, news}
use Rattle.wt_promise.proofs.Heads.{accepted-before, begun-kept, head-other}
use Rattle.wt_promise.proofs.Phases.{requested}
use Rattle.wt_promise.proofs.Sent.{if-bytes, send-bytes}
use Rattle.wt_promise.proofs.Shapes.{going}
use Rattle.wt_promise.proofs.Shakes.{head_stream}
use Rattle.wt_promise.proofs.Sessions.{AcceptGives, Accepted, ConnectGives, Connected, PollGives, accept-gives, is_connect, poll-gives}
use Rattle.wt_promise.proofs.Tables.{fits-own}
use Rattle.wt_promise.specs.Owed.{header_on}
use Rattle.wt_promise.specs.Promise.{EstablishedFor, IsHistory, accepted, begun_on, is_acceptance}
use Rattle.wt_proto.specs.ResponseWalk.{response_walk_of}
use Rattle.wt_turn.specs.Reports.{end_of}
use Rattle.wt_turn.specs.Streams.{local_count, local_uni}
use Rattle.wt_turn.specs.declared.answer.Answer.{Answer}
use Rattle.wt_turn.specs.declared.call.Call.{Call}
use Rattle.wt_turn.specs.declared.reply.Reply.{Reply}
use Rattle.wt_turn.specs.declared.turn.Turn.{Turn}
use Rattle.wt_wire.specs.HeaderList.{Fields}
use Rattle.wt_wire.specs.declared.side.Side.{Side}
use Rattle.wt_wire.specs.declared.side.Side.TheVariants.{Client, Server}
use Rattle.wt_turn.specs.declared.action.Action.TheVariants as actions
use Rattle.wt_turn.specs.declared.call.Call.TheVariants as calls
use Rattle.wt_turn.specs.declared.reply.Reply.TheVariants as replies
use Rattle.wt_turn.specs.declared.turn.Turn.TheVariants as turns

-- ---- a request is given once SETTINGS came

settings-stay : (side : Side) (p : Pair) (h : History) → settings_came (findings side h) ≡ true → settings_came (findings side (p ∷ h)) ≡ true
settings-stay side p h e =
    ap settings_came (findings-add side p h) ∙ list_any-append reads_settings (findings side h) (news side p h) ∙ ap (λ (b : Bool). b || list_any reads_settings (news side p h)) e

given-settings : (side : Side) (h : History) → IsHistory side h → (k : ℕ) → was_given h k ≡ true → settings_came (findings side h) ≡ true
given-settings side [] i k e = absurd (cc e)
given-settings side (p ∷ h) i k e = settings-stay side p h (by (requests p) refl e (given-settings side h i.2 k))
  where
    by : (o : Option ℕ) → requests p ≡ o → was_given (p ∷ h) k ≡ true → (was_given h k ≡ true → settings_came (findings side h) ≡ true) → settings_came (findings side h) ≡ true
    by None q r again = again (let m = rw q at r in m)
    by (Some t) q r again = (requested side h p.turn t (ap (λ (a : Answer). request_in a.reply) (sym i.1) ∙ q)).settings

-- ---- the whole frame

frame-out : (side : Side) (h : History) (turn : Turn) (c : Call) (s : ℕ) → IsHistory side h → is_lawful side h turn ≡ true → polls turn ≡ true → going h turn ≡ Some c → head_stream h c ≡ s
    → bytes_on s (own_answer side h turn).actions ≡ take (credit_left h s) (head_left h s (head_of (Some c))) → lacks_credit h s (head_left h s (head_of (Some c))) ≡ false
    → out (with_pair h turn (next side h turn)) s ≡ head_of (Some c)
frame-out side h turn c s i l q g e b f = by (subst-head (flow side (p ∷ h) all s other))
  where
    p : Pair
    p = record { turn = turn; answer = next side h turn }

    all : IsHistory side (p ∷ h)
    all = (l, refl, i)

    mine : BegunFor side h s
    mine = polled-k side h i c s (polled-stream side h turn c i l q g) e

    other : (s == local_uni side) ≡ false
    other = of (s == local_uni side) refl
      where
        of : (x : Bool) → (s == local_uni side) ≡ x → x ≡ false
        of false y = refl
        of true y = absurd (begun-not-control side h i (rw (sym (eqb-true s (local_uni side) y)) mine))

    last : last_stream h ≡ s
    last = polled-last side h i c s (polled-stream side h turn c i l q g) e

    begun : begun_on (p ∷ h) s ≡ Some c
    begun = ap (begun_on (p ∷ h)) (sym last) ∙ polled-begun side p h all c q g

    head : head_on side (p ∷ h) s ≡ head_of (Some c)
    head = head-other side (p ∷ h) s other ∙ ap (λ (o : Option Call). frame_or o (header_on (p ∷ h) s (first_of (λ (x : Pair). opened_by s x.turn x.answer.reply) (p ∷ h)))) begun

    kept : accepted (p ∷ h) s ≡ []
    kept = accepted-before side (p ∷ h) all s (begun-kept side (p ∷ h) all s (begun-for side (p ∷ h) all s c begun))

    long : length (head_of (Some c)) ≤ length (out (p ∷ h) s)
    long =
        let went = out-add p h s ∙ ap (λ (xs : List ℕ). out h s ++ xs) (own-bytes side h turn s other ∙ b ∙ take-all-of (credit_left h s) (head_left h s (head_of (Some c))) (no-left h s (head_left h s (head_of (Some c))) f)) in
        omega (arith, ap length went, length-append (out h s) (head_left h s (head_of (Some c))), length-drop (length (out h s)) (head_of (Some c)))

    subst-head : Flow (head_on side (p ∷ h) s) (out (p ∷ h) s) (accepted (p ∷ h) s) (is_handed_out (p ∷ h) s) → Flow (head_of (Some c)) (out (p ∷ h) s) (accepted (p ∷ h) s) (is_handed_out (p ∷ h) s)
    subst-head x = subst (λ (xs : List ℕ). Flow xs (out (p ∷ h) s) (accepted (p ∷ h) s) (is_handed_out (p ∷ h) s)) head x

    by : Flow (head_of (Some c)) (out (p ∷ h) s) (accepted (p ∷ h) s) (is_handed_out (p ∷ h) s) → out (p ∷ h) s ≡ head_of (Some c)
    by (InHead t n m) = sym t ∙ take_all (length (out (p ∷ h) s)) (head_of (Some c)) long
    by (Past t) = t ∙ ap (λ (xs : List ℕ). head_of (Some c) ++ xs) kept ∙ append-nil (head_of (Some c))

-- ---- a session

no-request : (r : Reply) (s : ℕ) → session_in r ≡ Some s → request_in r ≡ None
no-request (replies.Session id) s e = refl
no-request r s e = absurd (cc e)

all-three : (a b c : Bool) → a ≡ true → b ≡ true → c ≡ true → (a && b && c) ≡ true
all-three a b c e f g = rw (e, f, g) refl

-- of a response
by-response : (h : History) (turn : Turn) (headers : Fields) (s : ℕ) → IsHistory Server h → is_lawful Server h turn ≡ true → polls turn ≡ true → going h turn ≡ Some (calls.Accept headers) → session_in (next Server h turn).reply ≡ Some s
    → AcceptGives h headers s (own_answer Server h turn) → EstablishedFor Server h (with_pair h turn (next Server h turn)) s
by-response h turn headers s i l q g e a = record {
  settings = given-settings Server h i r.0 r.2;
  asked = all-three true (is_number s (last_request (with_pair h turn (next Server h turn)))) (is_acceptance (last_begun (with_pair h turn (next Server h turn)))) refl given (ap is_acceptance g);
  frame = frame-out Server h turn (calls.Accept headers) s i l q g (sym a.is_last) bytes full ∙ sym (ap head_of g) ∙ same-head _;
  open_before = a.open_then;
  new = new-session Server h turn i l s e;
}
  where
    r : (r : ℕ) × (last_request h ≡ Some r) × (was_given h r ≡ true)
    r = (polled-stream Server h turn (calls.Accept headers) i l q g).1

    same : s ≡ r.0
    same = a.is_last ∙ ap (λ (o : Option ℕ). unwrap_or o 0) r.1

    given : is_number s (last_request (with_pair h turn (next Server h turn))) ≡ true
    given = ap (λ (o : Option ℕ). is_number s (option_or o (last_request h))) (no-request (next Server h turn).reply s e) ∙ ap (is_number s) r.1 ∙ eq-eqb r.0 s (sym same)

    bytes : bytes_on s (own_answer Server h turn).actions ≡ take (credit_left h s) (head_left h s (head_of (Some (calls.Accept headers))))
    bytes = ap (bytes_on s) a.acts ∙ ap (λ (j : ℕ). bytes_on s (send h j (head_left h j (head_of (Some (calls.Accept headers)))))) (sym a.is_last)
        ∙ send-bytes s s (take (credit_left h s) (head_left h s (head_of (Some (calls.Accept headers)))))
        ∙ ap (λ (b : Bool). if b then take (credit_left h s) (head_left h s (head_of (Some (calls.Accept headers)))) else []) (eq-eqb s s refl)

    full : lacks_credit h s (head_left h s (head_of (Some (calls.Accept headers)))) ≡ false
    full = ap (λ (j : ℕ). lacks_credit h j (head_left h j (head_of (Some (calls.Accept headers))))) a.is_last ∙ a.full

-- of a connect
by-connect : (h : History) (call c : Call) (s : ℕ) → IsHistory Client h → is_lawful Client h (turns.Call call) ≡ true → polls (turns.Call call) ≡ true → going h (turns.Call call) ≡ Some c → is_connect c ≡ true
    → session_in (next Client h (turns.Call call)).reply ≡ Some s → ConnectGives Client h (head_of (Some c)) s (own_answer Client h (turns.Call call)) → EstablishedFor Client h (with_pair h (turns.Call call) (next Client h (turns.Call call))) s
by-connect h call c s i l q g x e a = record {
  settings = a.settings;
  asked = all-three (s == 0) (is_opened (p ∷ h)) (is_success (response_walk_of (contents (p ∷ h) 0) (end_of (events (p ∷ h)) 0))) (eq-eqb s 0 a.is_zero) opened walked;
  frame = frame-out Client h (turns.Call call) c s i l q g (zero c x ∙ sym a.is_zero) bytes full ∙ sym (ap head_of g) ∙ same-head _;
  open_before = a.open_then;
  new = new-session Client h (turns.Call call) i l s e;
}
  where
    p : Pair
    p = record { turn = turns.Call call; answer = next Client h (turns.Call call) }

    zero : (d : Call) → is_connect d ≡ true → head_stream h d ≡ 0
    zero (calls.Connect options lookup outcome) y = refl
    zero d y = absurd (cc y)

    opened : is_opened (p ∷ h) ≡ true
    opened = is-some (local_count (actions_out (p ∷ h)) 0) (established-opened (p ∷ h) (l, refl, i) s (rw e (ap (λ (b : Bool). b || is_established h s) (eq-eqb s s refl))))
      where
        is-some : (n : ℕ) → 1 ≤ n → not (n == 0) ≡ true
        is-some n m = of (n == 0) refl
          where
            of : (b : Bool) → (n == 0) ≡ b → not b ≡ true
            of false y = refl
            of true y = absurd (omega (arith, m, eqb-true n 0 y))

    walked : is_success (response_walk_of (contents (p ∷ h) 0) (end_of (events (p ∷ h)) 0)) ≡ true
    walked = rw a.open_then a.success

    bytes : bytes_on s (own_answer Client h (turns.Call call)).actions ≡ take (credit_left h s) (head_left h s (head_of (Some c)))
    bytes = ap (bytes_on s) a.acts ∙ bytes-append s (action_if (not (is_opened h)) (actions.Opened 0)) (send h 0 (head_left h 0 (head_of (Some c))))
        ∙ ap (λ (xs : List ℕ). xs ++ bytes_on s (send h 0 (head_left h 0 (head_of (Some c))))) (if-bytes s (not (is_opened h)) (actions.Opened 0) refl)
        ∙ ap (λ (j : ℕ). bytes_on s (send h j (head_left h j (head_of (Some c))))) (sym a.is_zero)
        ∙ send-bytes s s (take (credit_left h s) (head_left h s (head_of (Some c))))
        ∙ ap (λ (b : Bool). if b then take (credit_left h s) (head_left h s (head_of (Some c))) else []) (eq-eqb s s refl)

    full : lacks_credit h s (head_left h s (head_of (Some c))) ≡ false
    full = ap (λ (j : ℕ). lacks_credit h j (head_left h j (head_of (Some c)))) a.is_zero ∙ a.full

-- of a poll
by-poll : (side : Side) (h : History) (s : ℕ) → IsHistory side h → is_lawful side h (turns.Call calls.Handshake) ≡ true → session_in (next side h (turns.Call calls.Handshake)).reply ≡ Some s
    → PollGives side h s (first_row (poll_rows side h (last_begun h))) (last_begun h) → EstablishedFor side h (with_pair h (turns.Call calls.Handshake) (next side h (turns.Call calls.Handshake))) s
by-poll Client h s i l e (Accepted headers m g) = absurd (let r = client-begun h i (calls.Accept headers) m in cc r)
by-poll Client h s i l e (Connected c m x g) = by-connect h calls.Handshake c s i l refl m x e g
by-poll Server h s i l e (Accepted headers m g) = by-response h (turns.Call calls.Handshake) headers s i l refl m e g
by-poll Server h s i l e (Connected c m x g) = absurd (never c x (polled-stream Server h (turns.Call calls.Handshake) c i l refl m).0)
  where
    never : (d : Call) → is_connect d ≡ true → is_response d ≡ true → ⊥
    never (calls.Connect options lookup outcome) y z = cc z
    never d y z = cc y

pub established-rightly : (side : Side) (h : History) (turn : Turn) → IsHistory side h → is_lawful side h turn ≡ true → EstablishedRightly side h turn (next side h turn)
established-rightly side h (turns.Call c) i l s e = by c (session-call c (next side h (turns.Call c)).reply s (fits-own side h c) e) l e
  where
    accepted-call : (x : Side) (headers : Fields) → IsHistory x h → is_lawful x h (turns.Call (calls.Accept headers)) ≡ true → session_in (next x h (turns.Call (calls.Accept headers))).reply ≡ Some s
        → EstablishedFor x h (with_pair h (turns.Call (calls.Accept headers)) (next x h (turns.Call (calls.Accept headers)))) s
    accepted-call Server headers j m f = by-response h (turns.Call (calls.Accept headers)) headers s j m refl refl f (accept-gives Server h headers s f)
    accepted-call Client headers j m f = absurd (let n = and-right (not (is_first h)) false m in cc n)

    by : (d : Call) → SessionCall d → is_lawful side h (turns.Call d) ≡ true → session_in (next side h (turns.Call d)).reply ≡ Some s → EstablishedFor side h (with_pair h (turns.Call d) (next side h (turns.Call d))) s
    by d (AnAccept headers q) m f =
        subst (λ (x : Call). EstablishedFor side h (with_pair h (turns.Call x) (next side h (turns.Call x))) s) (sym q)
        (accepted-call side headers i (ap (λ (x : Call). is_lawful side h (turns.Call x)) (sym q) ∙ m) (ap (λ (x : Call). session_in (next side h (turns.Call x)).reply) (sym q) ∙ f))
    by d (APoll q) m f =
        let g = ap (λ (x : Call). session_in (next side h (turns.Call x)).reply) (sym q) ∙ f in
        subst (λ (x : Call). EstablishedFor side h (with_pair h (turns.Call x) (next side h (turns.Call x))) s) (sym q)
        (by-poll side h s i (ap (λ (x : Call). is_lawful side h (turns.Call x)) (sym q) ∙ m) g (poll-gives side h (last_begun h) s g))
established-rightly side h turn i l s e = absurd (cc e)
