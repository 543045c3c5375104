-- Which calls may come.
use Rattle.std.specs.Prelude.{[], ◌&&◌, ◌*◌, ◌+◌, ◌==◌, ◌∷◌, ◌||◌, ◌≡◌, Bool, List, None, Some, false, if◌then◌else◌, not, suc, true, zero, ℕ}
use Rattle.std.specs.List.{list_any, range_with_len}
use Rattle.std.proofs.Common.{◌∙◌, ap, arith, refl, sym}
use Rattle.std.proofs.lemmas.Bool.{eq-eqb}
use Rattle.wt_meaning.specs.Calls.{opened_by}
use Rattle.wt_meaning.specs.Findings.{Classified, Finding}
use Rattle.wt_meaning.specs.History.{History, Pair, is_open, stream_count}
use Rattle.wt_meaning.specs.Lawful.{all_answered, fails_incoming, gives_request, has_request, is_lawful, is_of_request, is_response, is_waiting}
use Rattle.wt_meaning.specs.Meaning.{next}
use Rattle.wt_meaning.specs.Moments.{findings}
use Rattle.wt_meaning.specs.Sends.{admits, is_of_session, numbers_from, opens_for, stream_ids}
use Rattle.wt_meaning.specs.Windows.{gone_in, is_number, last_request, named}
use Rattle.wt_promise.proofs.Phases.{Phase, answered_count, bit, given_count, idle-of, phase}
use Rattle.wt_promise.proofs.Tables.{fits, fits-own}
use Rattle.wt_promise.specs.Promise.{IsHistory}
use Rattle.wt_turn.specs.declared.answer.Answer.{Answer}
use Rattle.wt_turn.specs.declared.call.Call.{Call}
use Rattle.wt_turn.specs.declared.reply.Reply.{Reply}
use Rattle.wt_turn.specs.declared.turn.Turn.{Turn}
use Rattle.wt_wire.specs.declared.side.Side.{Side}
use Rattle.wt_wire.specs.declared.side.Side.TheVariants.{Client, Server}
use Rattle.wt_proto.specs.declared.verdict.Verdict.TheVariants as verdicts
use Rattle.wt_turn.specs.declared.call.Call.TheVariants as calls
use Rattle.wt_turn.specs.declared.reply.Reply.TheVariants as replies
use Rattle.wt_turn.specs.declared.turn.Turn.TheVariants as turns

pub first_call : (side : Side) (c : Call) → is_lawful side [] (turns.Call c) ≡ elim side [ Client ↦ elim c [ calls.Connect options lookup outcome ↦ true | _ ↦ false ] | Server ↦ false ]
first_call Client (calls.Connect options lookup outcome) = refl
first_call Client c = refl
first_call Server (calls.Connect options lookup outcome) = refl
first_call Server c = refl

pub later_call : (side : Side) (p : Pair) (h : History) (c : Call) → is_lawful side (p ∷ h) (turns.Call c) ≡ elim c [
  | calls.Connect options lookup outcome ↦ false
  | calls.Incoming ↦ is_lawful side (p ∷ h) (turns.Call calls.Incoming)
  | calls.Handshake ↦ is_lawful side (p ∷ h) (turns.Call calls.Handshake)
  | calls.Accept headers ↦ is_lawful side (p ∷ h) (turns.Call calls.Forbidden)
  | calls.Forbidden ↦ is_lawful side (p ∷ h) (turns.Call calls.Forbidden)
  | calls.NotFound ↦ is_lawful side (p ∷ h) (turns.Call calls.Forbidden)
  | calls.TooManyRequests ↦ is_lawful side (p ∷ h) (turns.Call calls.Forbidden)
  | _ ↦ true
]
later_call Client p h (calls.Connect options lookup outcome) = refl
later_call Server p h (calls.Connect options lookup outcome) = refl
later_call side p h c = refl

pub client_incoming : (h : History) → is_lawful Client h (turns.Call calls.Incoming) ≡ false
client_incoming h = refl

pub client_response : (h : History) → is_lawful Client h (turns.Call calls.Forbidden) ≡ false
client_response [] = refl
client_response (p ∷ h) = refl

-- a response may come where the last Incoming gave a request, and none was begun
asked : (h : History) → is_lawful Server h (turns.Call calls.Forbidden) ≡ has_request h
asked [] = refl
asked (p ∷ h) = refl

-- the reply to a response gives no request
no-request : (c : Call) (r : Reply) → is_response c ≡ true → fits c r ≡ true → gives_request r ≡ false
no-request calls.Incoming r x f = absurd (cc x)
no-request c (replies.Request id headers) x f = absurd (cc f)
no-request c r x f = refl

begins-one : (turn : Turn) (r : Reply) (b : Bool) → (elim turn [ turns.Call c ↦ is_response c | _ ↦ false ] ≡ true → gives_request r ≡ false)
    → (if is_of_request turn then gives_request r else b) ≡ elim turn [
      | turns.Call c ↦ elim c [
        | calls.Incoming ↦ elim r [ replies.Request id headers ↦ true | _ ↦ false ]
        | other ↦ if is_response other then false else b
      ]
      | _ ↦ b
    ]
begins-one (turns.Call calls.Incoming) (replies.Request id headers) b e = refl
begins-one (turns.Call calls.Incoming) r b e = refl
begins-one (turns.Call (calls.Accept headers)) r b e = e refl
begins-one (turns.Call calls.Forbidden) r b e = e refl
begins-one (turns.Call calls.NotFound) r b e = e refl
begins-one (turns.Call calls.TooManyRequests) r b e = e refl
begins-one (turns.Call c) r b e = refl
begins-one turn r b e = refl

pub response_lawful : (p : Pair) (h : History) → IsHistory Server (p ∷ h) → is_lawful Server (p ∷ h) (turns.Call calls.Forbidden) ≡ elim p.turn [
  | turns.Call c ↦ elim c [
    | calls.Incoming ↦ elim p.answer.reply [ replies.Request id headers ↦ true | _ ↦ false ]
    | other ↦ if is_response other then false else is_lawful Server h (turns.Call calls.Forbidden)
  ]
  | _ ↦ is_lawful Server h (turns.Call calls.Forbidden)
]
response_lawful p h i =
    ap (λ (b : Bool). if is_of_request p.turn then gives_request p.answer.reply else b) (sym (asked h))
    ∙ begins-one p.turn p.answer.reply (is_lawful Server h (turns.Call calls.Forbidden)) (of p.turn refl)
  where
    of : (turn : Turn) → p.turn ≡ turn → elim turn [ turns.Call c ↦ is_response c | _ ↦ false ] ≡ true → gives_request p.answer.reply ≡ false
    of (turns.Call c) e x = no-request c p.answer.reply x (ap (λ (a : Answer). fits c a.reply) (i.1 ∙ ap (next Server h) e) ∙ fits-own Server h c)
    of turn e x = absurd (cc x)

all-answered : (h : History) → Phase h → all_answered h ≡ (not (has_request h) && not (is_waiting h))
all-answered h f = of (all_answered h) refl
  where
    none : (q w : Bool) → given_count h ≡ answered_count h + (bit q + bit w) → all_answered h ≡ false → (not q && not w) ≡ false
    none true w e g = refl
    none false true e g = refl
    none false false e g = absurd (let r : true ≡ false = sym (eq-eqb (given_count h) (answered_count h) (e ∙ omega arith)) ∙ g in cc r)

    of : (b : Bool) → all_answered h ≡ b → b ≡ (not (has_request h) && not (is_waiting h))
    of true e = let i = idle-of h f e in rw (i.0, i.1) refl
    of false e = sym (none (has_request h) (is_waiting h) f.count e)

-- an Incoming was answered Failed
abbrev failed : Pair → Bool
failed q = elim q.turn [ turns.Call c ↦ elim c [ calls.Incoming ↦ elim q.answer.reply [ replies.Failed e ↦ true | _ ↦ false ] | _ ↦ false ] | _ ↦ false ]

fails : (turn : Turn) (r : Reply) → fails_incoming turn r ≡ elim turn [ turns.Call c ↦ elim c [ calls.Incoming ↦ elim r [ replies.Failed e ↦ true | _ ↦ false ] | _ ↦ false ] | _ ↦ false ]
fails (turns.Call calls.Incoming) (replies.Failed e) = refl
fails (turns.Call calls.Incoming) r = refl
fails (turns.Call c) r = refl
fails turn r = refl

any-failed : (h : History) → list_any (λ (q : Pair). fails_incoming q.turn q.answer.reply) h ≡ list_any failed h
any-failed [] = refl
any-failed (p ∷ h) = rw (fails p.turn p.answer.reply, any-failed h) refl

pub incoming_lawful : (p : Pair) (h : History) → IsHistory Server (p ∷ h) → is_lawful Server (p ∷ h) (turns.Call calls.Incoming) ≡ (not (list_any (λ (q : Pair). elim q.turn [
  | turns.Call c ↦ elim c [ calls.Incoming ↦ elim q.answer.reply [ replies.Failed e ↦ true | _ ↦ false ] | _ ↦ false ]
  | _ ↦ false
]) (p ∷ h))
    && (not (is_lawful Server (p ∷ h) (turns.Call calls.Forbidden)) && not (is_lawful Server (p ∷ h) (turns.Call calls.Handshake))))
incoming_lawful p h i =
    ap (λ (b : Bool). not b && all_answered (p ∷ h)) (any-failed (p ∷ h))
    ∙ ap (λ (b : Bool). not (list_any failed (p ∷ h)) && b) (all-answered (p ∷ h) (phase (p ∷ h) i))

-- ---- a session that a call ends

pub gone_by_call : (h : History) (turn : Turn) (r : Reply) → gone_in h turn r ≡ elim turn [
  | turns.Call c ↦ elim c [
    | calls.EndSession name ↦ elim r [ replies.Rejected ↦ last_request h | _ ↦ if is_open h then named h name else None ]
    | _ ↦ elim r [ replies.Rejected ↦ last_request h | _ ↦ None ]
  ]
  | _ ↦ elim r [ replies.Rejected ↦ last_request h | _ ↦ None ]
]
gone_by_call h (turns.Call (calls.EndSession name)) r = refl
gone_by_call h (turns.Call c) r = refl
gone_by_call h turn r = refl

-- ---- the streams of a session

pub all_ids : (side : Side) (h : History) → stream_ids side h ≡ range_with_len 0 (4 * (stream_count side h 0 + stream_count side h 1 + stream_count side h 2 + stream_count side h 3))
all_ids side h = numbers 0 (4 * (stream_count side h 0 + stream_count side h 1 + stream_count side h 2 + stream_count side h 3))
  where
    numbers : (n count : ℕ) → numbers_from n count ≡ range_with_len n count
    numbers n zero = refl
    numbers n (suc count) = ap (λ (l : List ℕ). n ∷ l) (numbers (suc n) count ∙ (let e : suc n ≡ n + 1 = omega arith in ap (λ (m : ℕ). range_with_len m count) e))

pub session_has : (h : History) (found : List Finding) (s k : ℕ) → is_of_session h found s k ≡ (list_any (λ (f : Finding). elim f [
  | Classified id v keeps ↦ elim v [ verdicts.WebTransport session offset ↦ keeps && (id == k && session == s) | _ ↦ false ]
  | _ ↦ false
]) found
    || list_any (λ (p : Pair). elim (opened_by k p.turn p.answer.reply) [ Some name ↦ is_number s (named h name) | None ↦ false ]) h)
session_has h found s k = rw (any-admitted found, any-opened h) refl
  where
    admitted : (f : Finding) → admits s k f ≡ elim f [ Classified id v keeps ↦ elim v [ verdicts.WebTransport session offset ↦ keeps && (id == k && session == s) | _ ↦ false ] | _ ↦ false ]
    admitted (Classified id (verdicts.WebTransport session offset) true) = refl
    admitted (Classified id (verdicts.WebTransport session offset) false) = refl
    admitted (Classified id v keeps) = refl
    admitted f = refl

    any-admitted : (found : List Finding) → list_any (admits s k) found ≡ list_any (λ (f : Finding). elim f [
      | Classified id v keeps ↦ elim v [ verdicts.WebTransport session offset ↦ keeps && (id == k && session == s) | _ ↦ false ]
      | _ ↦ false
    ]) found
    any-admitted [] = refl
    any-admitted (f ∷ found) = rw (admitted f, any-admitted found) refl

    opens : (turn : Turn) (r : Reply) → opens_for h s k turn r ≡ elim (opened_by k turn r) [ Some name ↦ is_number s (named h name) | None ↦ false ]
    opens (turns.Call (calls.OpenUni name)) (replies.Opening id) = by (id == k)
      where
        by : (b : Bool) → (b && is_number s (named h name)) ≡ elim (if b then Some name else None) [ Some n ↦ is_number s (named h n) | None ↦ false ]
        by true = refl
        by false = refl
    opens (turns.Call (calls.OpenBi name)) (replies.Opening id) = by (id == k)
      where
        by : (b : Bool) → (b && is_number s (named h name)) ≡ elim (if b then Some name else None) [ Some n ↦ is_number s (named h n) | None ↦ false ]
        by true = refl
        by false = refl
    opens (turns.Call (calls.OpenUni name)) r = refl
    opens (turns.Call (calls.OpenBi name)) r = refl
    opens (turns.Call c) r = refl
    opens turn r = refl

    any-opened : (g : History) → list_any (λ (p : Pair). opens_for h s k p.turn p.answer.reply) g
        ≡ list_any (λ (p : Pair). elim (opened_by k p.turn p.answer.reply) [ Some name ↦ is_number s (named h name) | None ↦ false ]) g
    any-opened [] = refl
    any-opened (p ∷ g) = rw (opens p.turn p.answer.reply, any-opened g) refl

-- ---- nothing

pub none_found : (side : Side) → findings side [] ≡ []
unfolding findings
none_found side = refl
