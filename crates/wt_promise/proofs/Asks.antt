-- What a lawful turn has to do with requests and handshakes.
use Rattle.std.specs.Prelude.{[], ◌&&◌, ◌∷◌, ◌≡◌, Bool, None, Option, Some, false, not, true}
use Rattle.std.specs.List.{list_any}
use Rattle.std.specs.Option.{option_or}
use Rattle.std.proofs.Common.{◌∙◌, ap, refl, subst, sym}
use Rattle.wt_meaning.specs.Handshakes.{begun_by, last_begun}
use Rattle.wt_meaning.specs.History.{History, Pair}
use Rattle.wt_meaning.specs.Lawful.{all_answered, fails_incoming, gives_request, has_request, is_client, is_first, is_lawful, is_of_request, is_response, is_waiting, polls}
use Rattle.wt_meaning.specs.Meaning.{next}
use Rattle.wt_meaning.specs.Windows.{session_in}
use Rattle.wt_promise.proofs.Accepted.{and-right}
use Rattle.wt_promise.proofs.Sessions.{is_connect}
use Rattle.wt_promise.proofs.Tables.{fits, fits-own}
use Rattle.wt_promise.specs.Promise.{IsHistory}
use Rattle.wt_turn.specs.declared.answer.Answer.{Answer}
use Rattle.wt_turn.specs.declared.call.Call.{Call}
use Rattle.wt_turn.specs.declared.reply.Reply.{Reply}
use Rattle.wt_turn.specs.declared.turn.Turn.{Turn}
use Rattle.wt_wire.specs.declared.side.Side.{Side}
use Rattle.wt_wire.specs.declared.side.Side.TheVariants.{Client, Server}
use Rattle.wt_turn.specs.declared.call.Call.TheVariants as calls
use Rattle.wt_turn.specs.declared.reply.Reply.TheVariants as replies
use Rattle.wt_turn.specs.declared.turn.Turn.TheVariants as turns

-- ---- replies

-- a call that is neither of a request nor polls gives no request and no session
quiet-reply : (c : Call) (r : Reply) → fits c r ≡ true → polls (turns.Call c) ≡ false → is_of_request (turns.Call c) ≡ false → (gives_request r ≡ false) × (session_in r ≡ None)
quiet-reply calls.Incoming r f p q = absurd (cc q)
quiet-reply (calls.Accept headers) r f p q = absurd (cc p)
quiet-reply calls.Handshake r f p q = absurd (cc p)
quiet-reply c (replies.Request id headers) f p q = absurd (cc f)
quiet-reply c (replies.Session id) f p q = absurd (cc f)
quiet-reply c r f p q = (refl, refl)

-- a call that polls gives no request
polled-reply : (side : Side) (h : History) (c : Call) → polls (turns.Call c) ≡ true → gives_request (next side h (turns.Call c)).reply ≡ false
polled-reply side h c p = by c (next side h (turns.Call c)).reply (fits-own side h c) p
  where
    by : (d : Call) (r : Reply) → fits d r ≡ true → polls (turns.Call d) ≡ true → gives_request r ≡ false
    by calls.Incoming r f q = absurd (cc q)
    by d (replies.Request id headers) f q = absurd (cc f)
    by d r f q = refl

abbrev gives_later : Call → Bool
gives_later calls.Incoming = true
gives_later c = is_connect c

-- a connect, or an Incoming, gives no session
no-session : (side : Side) (h : History) (c : Call) → gives_later c ≡ true → session_in (next side h (turns.Call c)).reply ≡ None
no-session side h c e = by c (next side h (turns.Call c)).reply (fits-own side h c) e
  where
    by : (d : Call) (r : Reply) → fits d r ≡ true → gives_later d ≡ true → session_in r ≡ None
    by (calls.Connect options lookup outcome) (replies.Session id) f q = absurd (cc f)
    by calls.Incoming (replies.Session id) f q = absurd (cc f)
    by (calls.Connect options lookup outcome) r f q = refl
    by calls.Incoming r f q = refl
    by c r f q = absurd (cc q)

-- ---- turns

-- a client begins a connect; a server asks for a request, or responds to it; a handshake goes on; or it is none of these
pub data Asks (side : Side) (h : History) (turn : Turn) (r : Reply) : Type 0 where
  Begins : (c : Call) → side ≡ Client → turn ≡ turns.Call c → is_connect c ≡ true → is_first h ≡ true → gives_request r ≡ false → session_in r ≡ None → Asks side h turn r
  ForRequest : side ≡ Server → turn ≡ turns.Call calls.Incoming → all_answered h ≡ true → session_in r ≡ None → Asks side h turn r
  Responds : (c : Call) → side ≡ Server → turn ≡ turns.Call c → is_response c ≡ true → has_request h ≡ true → gives_request r ≡ false → Asks side h turn r
  GoesOn : turn ≡ turns.Call calls.Handshake → is_waiting h ≡ true → gives_request r ≡ false → Asks side h turn r
  Else : polls turn ≡ false → is_of_request turn ≡ false → begun_by turn ≡ None → gives_request r ≡ false → session_in r ≡ None → Asks side h turn r

-- what a response is
pub record OfResponse (c : Call) : Type 0 where
  pub polls_on : polls (turns.Call c) ≡ true
  pub of_request : is_of_request (turns.Call c) ≡ true
  pub begun : begun_by (turns.Call c) ≡ Some c

pub of-response : (c : Call) → is_response c ≡ true → OfResponse c
of-response (calls.Accept headers) e = record { polls_on = refl; of_request = refl; begun = refl }
of-response calls.Forbidden e = record { polls_on = refl; of_request = refl; begun = refl }
of-response calls.NotFound e = record { polls_on = refl; of_request = refl; begun = refl }
of-response calls.TooManyRequests e = record { polls_on = refl; of_request = refl; begun = refl }
of-response c e = absurd (cc e)

pub of-connect : (c : Call) → is_connect c ≡ true → (is_of_request (turns.Call c) ≡ false) × (begun_by (turns.Call c) ≡ Some c)
of-connect (calls.Connect options lookup outcome) e = (refl, refl)
of-connect c e = absurd (cc e)

responds : (side : Side) (h : History) (c : Call) (r : Reply) → is_response c ≡ true → (not (is_first h) && (not (is_client side) && has_request h)) ≡ true → gives_request r ≡ false → Asks side h (turns.Call c) r
responds Client h c r e l n = absurd (let m = and-right (not (is_first h)) false l in cc m)
responds Server h c r e l n = Responds c refl refl e (and-right (not (is_first h)) (has_request h) l) n

pub asks : (side : Side) (h : History) (turn : Turn) → is_lawful side h turn ≡ true → Asks side h turn (next side h turn).reply
asks Client h (turns.Call (calls.Connect options lookup outcome)) l =
    Begins (calls.Connect options lookup outcome) refl refl refl l (polled-reply Client h (calls.Connect options lookup outcome) refl) (no-session Client h (calls.Connect options lookup outcome) refl)
asks Server h (turns.Call (calls.Connect options lookup outcome)) l = absurd (cc l)
asks Client h (turns.Call calls.Incoming) l = absurd (cc l)
asks Server h (turns.Call calls.Incoming) l =
    ForRequest refl refl (and-right (not (is_client Server) && not (is_first h) && not (list_any (λ (x : Pair). fails_incoming x.turn x.answer.reply) h)) (all_answered h) l) (no-session Server h calls.Incoming refl)
asks side h (turns.Call calls.Handshake) l = GoesOn refl l (polled-reply side h calls.Handshake refl)
asks side h (turns.Call (calls.Accept headers)) l = responds side h (calls.Accept headers) _ refl l (polled-reply side h (calls.Accept headers) refl)
asks side h (turns.Call calls.Forbidden) l = responds side h calls.Forbidden _ refl l (polled-reply side h calls.Forbidden refl)
asks side h (turns.Call calls.NotFound) l = responds side h calls.NotFound _ refl l (polled-reply side h calls.NotFound refl)
asks side h (turns.Call calls.TooManyRequests) l = responds side h calls.TooManyRequests _ refl l (polled-reply side h calls.TooManyRequests refl)
asks side h (turns.Call c) l = let q = quiet-reply c (next side h (turns.Call c)).reply (fits-own side h c) refl refl in Else refl refl refl q.0 q.1
asks side h turn l = Else refl refl refl refl refl

pub asks-of : (side : Side) (p : Pair) (h : History) → IsHistory side (p ∷ h) → Asks side h p.turn p.answer.reply
asks-of side p h i = subst (λ (a : Answer). Asks side h p.turn a.reply) (sym i.1) (asks side h p.turn i.0)

-- ---- what was begun

-- a client begins connects alone, and a server responses
abbrev pub BegunKind : Side → Call → Type 0
BegunKind Client c = is_connect c ≡ true
BegunKind Server c = is_response c ≡ true

pub begun-kind : (side : Side) (h : History) → IsHistory side h → (c : Call) → last_begun h ≡ Some c → BegunKind side c
begun-kind side [] i c e = absurd (cc e)
begun-kind side (p ∷ h) i c e = by (asks-of side p h i) (begun-kind side h i.2 c)
  where
    later : begun_by p.turn ≡ None → (last_begun h ≡ Some c → BegunKind side c) → BegunKind side c
    later n again = again (ap (λ (o : Option Call). option_or o (last_begun h)) (sym n) ∙ e)

    same : (d : Call) → begun_by p.turn ≡ Some d → d ≡ c
    same d b = let q : Some d ≡ Some c = ap (λ (o : Option Call). option_or o (last_begun h)) (sym b) ∙ e in cc q

    by : Asks side h p.turn p.answer.reply → (last_begun h ≡ Some c → BegunKind side c) → BegunKind side c
    by (Begins d s t k f g n) again = subst (λ (x : Side). BegunKind x c) (sym s) (ap is_connect (sym (same d (ap begun_by t ∙ (of-connect d k).1))) ∙ k)
    by (ForRequest s t a n) again = later (ap begun_by t) again
    by (Responds d s t k q n) again = subst (λ (x : Side). BegunKind x c) (sym s) (ap is_response (sym (same d (ap begun_by t ∙ (of-response d k).begun))) ∙ k)
    by (GoesOn t w n) again = later (ap begun_by t) again
    by (Else a b n g s) again = later n again
