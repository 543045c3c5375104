-- How a session ended stays so.
use Rattle.std.specs.Prelude.{[], ◌++◌, ◌==◌, ◌∷◌, ◌||◌, ◌≡◌, Bool, List, None, Option, Some, false, if◌then◌else◌, not, true, ℕ}
use Rattle.std.specs.List.{list_any}
use Rattle.std.proofs.Common.{◌∙◌, ap, refl, sym}
use Rattle.std.proofs.lemmas.Bool.{eqb-true}
use Rattle.std.proofs.lemmas.List.{append-nil}
use Rattle.wt_meaning.specs.Calls.{closed_by, session_error, session_error_with}
use Rattle.wt_meaning.specs.Findings.{fault_of, Finding, SessionClosed, first_of}
use Rattle.wt_meaning.specs.Handshakes.{driver_error, fault_error, loss_error}
use Rattle.wt_meaning.specs.History.{History, Pair, events, is_open}
use Rattle.wt_meaning.specs.Lawful.{has_request, is_first, is_lawful, is_response, is_waiting, may_call}
use Rattle.wt_meaning.specs.Meaning.{next, with_pair}
use Rattle.wt_meaning.specs.Moments.{findings, stream_fault}
use Rattle.wt_meaning.specs.Windows.{gone_in, is_established, is_gone, is_gone_by_call, is_number, last_request, makes_gone}
use Rattle.wt_promise.proofs.Accepted.{and-right, or-true}
use Rattle.wt_promise.proofs.Few.{gone-later, gone-more}
use Rattle.wt_promise.proofs.Grows.{AClassified, AClosed, ADatagram, ADequeued, AFault, ASettings, Adds, Nothing, findings-keep, first_of-append, first_of-stays, findings-add, news, news-ended, of-stream-fault}
use Rattle.wt_promise.proofs.Phases.{client-waits, phase}
use Rattle.wt_promise.proofs.Tables.{fits, fits-own, is_rejected}
use Rattle.wt_promise.proofs.OwnForms.{ErrorStays}
use Rattle.wt_promise.specs.Promise.{IsHistory}
use Rattle.wt_proto.specs.declared.verdict.Verdict.{Verdict}
use Rattle.wt_turn.specs.Reports.{loss_of}
use Rattle.wt_turn.specs.Log.{Event}
use Rattle.wt_turn.specs.declared.call.Call.{Call}
use Rattle.wt_turn.specs.declared.connection_error.ConnectionError.{ConnectionError}
use Rattle.wt_turn.specs.declared.reply.Reply.{Reply}
use Rattle.wt_turn.specs.declared.turn.Turn.{Turn}
use Rattle.wt_wire.specs.declared.error.ErrorCode.{ErrorCode}
use Rattle.wt_wire.specs.declared.side.Side.{Side}
use Rattle.wt_wire.specs.declared.side.Side.TheVariants.{Client, Server}
use Rattle.wt_turn.specs.declared.call.Call.TheVariants as calls
use Rattle.wt_turn.specs.declared.connection_error.ConnectionError.TheVariants as errors
use Rattle.wt_turn.specs.declared.reply.Reply.TheVariants as replies
use Rattle.wt_turn.specs.declared.turn.Turn.TheVariants as turns

-- ---- a rejection makes no established session gone

-- a response, or the poll of one
pub data Rejecting (c : Call) : Type 0 where
  AResponse : is_response c ≡ true → Rejecting c
  APolled : c ≡ calls.Handshake → Rejecting c

pub rejecting : (c : Call) → fits c replies.Rejected ≡ true → Rejecting c
rejecting calls.Forbidden f = AResponse refl
rejecting calls.NotFound f = AResponse refl
rejecting calls.TooManyRequests f = AResponse refl
rejecting calls.Handshake f = APolled refl
rejecting c f = absurd (cc f)

pub is-rejection : (r : Reply) → is_rejected r ≡ true → r ≡ replies.Rejected
is-rejection replies.Rejected q = refl
is-rejection r q = absurd (cc q)

response-lawful : (side : Side) (h : History) (c : Call) → is_response c ≡ true → may_call side h c ≡ true → (side ≡ Server) × (has_request h ≡ true)
response-lawful Server h (calls.Accept headers) r l = (refl, and-right (not (is_first h)) (has_request h) l)
response-lawful Server h calls.Forbidden r l = (refl, and-right (not (is_first h)) (has_request h) l)
response-lawful Server h calls.NotFound r l = (refl, and-right (not (is_first h)) (has_request h) l)
response-lawful Server h calls.TooManyRequests r l = (refl, and-right (not (is_first h)) (has_request h) l)
response-lawful Client h (calls.Accept headers) r l = absurd (let m = and-right (not (is_first h)) false l in cc m)
response-lawful Client h calls.Forbidden r l = absurd (let m = and-right (not (is_first h)) false l in cc m)
response-lawful Client h calls.NotFound r l = absurd (let m = and-right (not (is_first h)) false l in cc m)
response-lawful Client h calls.TooManyRequests r l = absurd (let m = and-right (not (is_first h)) false l in cc m)
response-lawful side h c r l = absurd (cc r)

-- the request that is being answered isn't established
unestablished : (side : Side) (h : History) → IsHistory side h → (s : ℕ) → (has_request h || is_waiting h) ≡ true → (side ≡ Client → is_waiting h ≡ true) → last_request h ≡ Some s → is_established h s ≡ false
unestablished Client h i s w c l = client-waits h i (c refl) s
unestablished Server h i s w c l = let r = (phase h i).asked w in let same : r.0 ≡ s = (let q = sym r.1 ∙ l in cc q) in ap (is_established h) (sym same) ∙ r.2

not-by-rejection : (side : Side) (h : History) (c : Call) → IsHistory side h → is_lawful side h (turns.Call c) ≡ true → (s : ℕ) → is_established h s ≡ true → Rejecting c → is_number s (last_request h) ≡ false
not-by-rejection side h c i l s e q = by (is_number s (last_request h)) refl
  where
    last : (o : Option ℕ) → is_number s o ≡ true → o ≡ Some s
    last None x = absurd (cc x)
    last (Some m) x = ap (λ (n : ℕ). Some n) (eqb-true m s x)

    clash : is_established h s ≡ false → ⊥
    clash n = let r : true ≡ false = sym e ∙ n in cc r

    never : Rejecting c → last_request h ≡ Some s → ⊥
    never (APolled same) n = let w : is_waiting h ≡ true = ap (λ (d : Call). is_lawful side h (turns.Call d)) (sym same) ∙ l in
        clash (unestablished side h i s (ap (λ (b : Bool). has_request h || b) w ∙ or-true (has_request h)) (λ x. w) n)
    never (AResponse r) n = let m = response-lawful side h c r l in
        clash (unestablished side h i s (ap (λ (b : Bool). b || is_waiting h) m.1) (λ x. absurd (let t : Client ≡ Server = sym x ∙ m.0 in cc t)) n)

    by : (b : Bool) → is_number s (last_request h) ≡ b → b ≡ false
    by true x = absurd (never q (last (last_request h) x))
    by false x = refl

gone-rejected : (h : History) (c : Call) → gone_in h (turns.Call c) replies.Rejected ≡ last_request h
gone-rejected h (calls.EndSession name) = refl
gone-rejected h c = refl

gone-otherwise : (h : History) (c : Call) (r : Reply) (s : ℕ) → is_open h ≡ false → is_rejected r ≡ false → is_number s (gone_in h (turns.Call c) r) ≡ false
gone-otherwise h c replies.Rejected s o q = absurd (cc q)
gone-otherwise h (calls.EndSession name) r s o q = rw o refl
gone-otherwise h c r s o q = refl

-- once the connection has ended no call makes an established session gone
not-gone-late : (side : Side) (h : History) (turn : Turn) → IsHistory side h → is_lawful side h turn ≡ true → is_open h ≡ false → (s : ℕ) → is_established h s ≡ true → is_number s (gone_in h turn (next side h turn).reply) ≡ false
not-gone-late side h (turns.Call c) i l o s e = by (is_rejected reply) refl
  where
    reply : Reply
    reply = (next side h (turns.Call c)).reply

    by : (b : Bool) → is_rejected reply ≡ b → is_number s (gone_in h (turns.Call c) reply) ≡ false
    by false q = gone-otherwise h c reply s o q
    by true q =
        let r = is-rejection reply q in
        ap (λ (x : Reply). is_number s (gone_in h (turns.Call c) x)) r ∙ ap (is_number s) (gone-rejected h c)
        ∙ not-by-rejection side h c i l s e (rejecting c (ap (fits c) (sym r) ∙ fits-own side h c))
not-gone-late side h turn i l o s e = refl

-- ---- after the end

late : (side : Side) (h : History) (turn : Turn) → IsHistory side h → is_lawful side h turn ≡ true → is_open h ≡ false → (s : ℕ) → is_established h s ≡ true
    → session_error side (with_pair h turn (next side h turn)) s ≡ session_error side h s
late side h turn i l o s e = by (first_of (closed_by s) (findings side h)) refl
  where
    p : Pair
    p = record { turn = turn; answer = next side h turn }

    same : findings side (p ∷ h) ≡ findings side h
    same = findings-add side p h ∙ ap (λ (xs : List Finding). findings side h ++ xs) (news-ended side p h o) ∙ append-nil (findings side h)

    same-gone : is_gone (p ∷ h) (findings side h) s ≡ is_gone h (findings side h) s
    same-gone = ap (λ (b : Bool). (b || is_gone_by_call h s) || list_any (makes_gone s) (findings side h)) (not-gone-late side h turn i l o s e)

    same-events : events (p ∷ h) ≡ events h
    same-events = rw o refl

    same-fault : (f : Option ErrorCode) → fault_error (p ∷ h) f ≡ fault_error h f
    same-fault None = ap (λ (es : List Event). loss_error (loss_of es)) same-events
    same-fault (Some code) = refl

    unclosed : session_error_with side (p ∷ h) s None ≡ session_error_with side h s None
    unclosed =
        ap (λ (f : List Finding). if is_gone (p ∷ h) f s then errors.LocallyClosed else fault_error (p ∷ h) (fault_of f)) same
        ∙ ap (λ (b : Bool). if b then errors.LocallyClosed else fault_error (p ∷ h) (fault_of (findings side h))) same-gone
        ∙ ap (λ (e : ConnectionError). if is_gone h (findings side h) s then errors.LocallyClosed else e) (same-fault (fault_of (findings side h)))

    by : (x : Option ConnectionError) → first_of (closed_by s) (findings side h) ≡ x → session_error side (p ∷ h) s ≡ session_error side h s
    by (Some y) q = ap (session_error_with side (p ∷ h) s) (ap (first_of (closed_by s)) same ∙ q) ∙ ap (session_error_with side h s) (sym q)
    by None q = ap (session_error_with side (p ∷ h) s) (ap (first_of (closed_by s)) same ∙ q) ∙ unclosed ∙ ap (session_error_with side h s) (sym q)

-- ---- while the connection is open

-- how the peer closed a session that is gone isn't found any more
abbrev StaysUnclosed : History → ℕ → List Finding → Type 0
StaysUnclosed h s found = (first_of (closed_by s) found ≡ None) × (is_gone h found s ≡ true)

no-close-in : (s : ℕ) (found : List Finding) (v : Verdict) → first_of (closed_by s) (stream_fault found v) ≡ None
no-close-in s = of-stream-fault (λ (fs : List Finding). first_of (closed_by s) fs ≡ None) refl (λ code. refl)

unclosed-with : (h : History) (s : ℕ) (found new : List Finding) → first_of (closed_by s) new ≡ None → StaysUnclosed h s found → StaysUnclosed h s (found ++ new)
unclosed-with h s found new n f = (first_of-append (closed_by s) found new ∙ rw (f.0, n) refl, gone-more h found new s f.1)

unclosed-step : (side : Side) (h : History) (s : ℕ) (found new : List Finding) → Adds side h found new → StaysUnclosed h s found → StaysUnclosed h s (found ++ new)
unclosed-step side h s found [] Nothing f = unclosed-with h s found [] refl f
unclosed-step side h s found new (ADequeued k p) f = unclosed-with h s found new refl f
unclosed-step side h s found new (ADatagram n t payload c) f = unclosed-with h s found new refl f
unclosed-step side h s found new (ASettings c) f = unclosed-with h s found new refl f
unclosed-step side h s found new (AFault code) f = unclosed-with h s found new refl f
unclosed-step side h s found new (AClassified k v more p d c w m) f = unclosed-with h s found new (ap (first_of (closed_by s)) m ∙ no-close-in s found v) f
unclosed-step side h s found new (AClosed t code reason b l) f = by (t == s) refl
  where
    by : (x : Bool) → (t == s) ≡ x → StaysUnclosed h s (found ++ (SessionClosed t code reason b ∷ []))
    by true q = absurd (let g : is_gone h found t ≡ true = ap (is_gone h found) (eqb-true t s q) ∙ f.1 in let n = and-right (is_established h t) (not (is_gone h found t)) l in let r : false ≡ true = (let z = rw g at n in z) in cc r)
    by false q = unclosed-with h s found (SessionClosed t code reason b ∷ []) (rw q refl) f

early : (side : Side) (h : History) (turn : Turn) (s : ℕ) → is_gone h (findings side h) s ≡ true → session_error side (with_pair h turn (next side h turn)) s ≡ session_error side h s
early side h turn s g = by (first_of (closed_by s) (findings side h)) refl
  where
    p : Pair
    p = record { turn = turn; answer = next side h turn }

    by : (x : Option ConnectionError) → first_of (closed_by s) (findings side h) ≡ x → session_error side (p ∷ h) s ≡ session_error side h s
    by (Some y) q =
        ap (session_error_with side (p ∷ h) s) (ap (first_of (closed_by s)) (findings-add side p h) ∙ first_of-stays (closed_by s) (findings side h) (news side p h) y q)
        ∙ ap (session_error_with side h s) (sym q)
    by None q =
        let k = findings-keep side p h (StaysUnclosed (p ∷ h) s) (λ found new a n f. unclosed-step side (p ∷ h) s found new a f) (q, gone-later p h (findings side h) s g) in
        ap (session_error_with side (p ∷ h) s) k.0 ∙ ap (λ (b : Bool). if b then errors.LocallyClosed else driver_error side (p ∷ h)) k.1
        ∙ sym (ap (session_error_with side h s) q ∙ ap (λ (b : Bool). if b then errors.LocallyClosed else driver_error side h) g)

pub result-stays : (side : Side) (h : History) (turn : Turn) → IsHistory side h → is_lawful side h turn ≡ true → ErrorStays side h turn (next side h turn)
result-stays side h turn i l s e n = by (is_open h) refl
  where
    gone : (b g : Bool) → b ≡ true → is_open h ≡ true → is_established h s ≡ b → is_gone h (findings side h) s ≡ g → g ≡ true
    gone b true x o y z = refl
    gone b false x o y z = absurd (let r : true ≡ false = (let q = rw (o, y, x, z) at n in q) in cc r)

    by : (b : Bool) → is_open h ≡ b → session_error side (with_pair h turn (next side h turn)) s ≡ session_error side h s
    by false o = late side h turn i l o s e
    by true o = early side h turn s (gone true (is_gone h (findings side h) s) refl o e refl)
