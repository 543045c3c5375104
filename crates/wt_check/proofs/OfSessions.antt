-- Rule 2 holds of a lawful list: a session is given on an open connection, once SETTINGS came and its request and its response are there.
use Rattle.std.specs.Prelude.{[], ◌%◌, ◌&&◌, ◌++◌, ◌/◌, ◌==◌, ◌∷◌, ◌≡◌, Bool, List, None, Option, Some, false, if◌then◌else◌, is_some, length, nat_lt, not, take, true, ℕ}
use Rattle.std.specs.List.{list_any}
use Rattle.std.specs.Option.{option_or}
use Rattle.std.proofs.Common.{◌∙◌, ap, refl, subst, sym}
use Rattle.std.proofs.Math.Seq.{take-length}
use Rattle.std.proofs.lemmas.Bool.{eq-eqb, eqb-true}
use Rattle.wt_check.proofs.Alike.{Alike, SamePairs, one-of, open-alike, same, same-contents, whole}
use Rattle.wt_check.proofs.Along.{both, throughout}
use Rattle.wt_check.proofs.Asked.{connect-frame}
use Rattle.wt_check.proofs.Begins.{acceptance-frame, ask, asking-last, bi-connect, no-connect-stream, response-now}
use Rattle.wt_check.proofs.CutActions.{all-in-front, zero-first}
use Rattle.wt_check.proofs.OfSends.{prefix-of}
use Rattle.wt_check.proofs.OfTurns.{no-peers}
use Rattle.wt_check.specs.Records.{recorded}
use Rattle.wt_check.specs.Sessions.{accepting_frame, asking_frame, before_close, connect_stream, gives_sessions, is_granted, is_request, may_give, opened_in, response_begun, settings_read, up_to_close, went_out}
use Rattle.wt_check.specs.Verdict.{holds}
use Rattle.wt_meaning.specs.Findings.{first_of}
use Rattle.wt_meaning.specs.Handshakes.{begun_by, head_left, is_opened, is_success, last_begun, poll_rows, send}
use Rattle.wt_meaning.specs.History.{History, Pair, actions_out, contents, credit_left, events, is_open, out}
use Rattle.wt_meaning.specs.Lawful.{is_first, is_lawful, polls}
use Rattle.wt_meaning.specs.Meaning.{answer_to, next, own_answer}
use Rattle.wt_meaning.specs.Moments.{control_walk, ids_from, verdict}
use Rattle.wt_meaning.specs.Rows.{first_row}
use Rattle.wt_meaning.specs.Sends.{action_if}
use Rattle.wt_meaning.specs.Windows.{is_number, last_request, request_in, requests, session_in}
use Rattle.wt_promise.proofs.Accepted.{and-left, and-right}
use Rattle.wt_promise.proofs.Actions.{none-append, none-if, none-sent}
use Rattle.wt_promise.proofs.BytesOut.{bytes_on, out-add}
use Rattle.wt_promise.proofs.CauseLaws.{first-same}
use Rattle.wt_promise.proofs.Established.{established-rightly}
use Rattle.wt_promise.proofs.Few.{APoll, AnAccept, SessionCall, session-call}
use Rattle.wt_promise.proofs.Fresh.{client-begun}
use Rattle.wt_promise.proofs.Given.{session_came}
use Rattle.wt_promise.proofs.Opened.{at-least-one}
use Rattle.wt_promise.proofs.Sessions.{Accepted, Connected, PollGives, accept-gives, poll-gives}
use Rattle.wt_promise.proofs.Shown.{verdict-by}
use Rattle.wt_promise.proofs.Tables.{fits-own}
use Rattle.wt_promise.specs.Found.{control_at, least_control, peer_opened}
use Rattle.wt_promise.specs.Owed.{head_of}
use Rattle.wt_promise.specs.Promise.{AllLawful, EstablishedFor, IsHistory, is_acceptance}
use Rattle.wt_promise.specs.Sides.{AsksFor, SessionGiven, opens_of}
use Rattle.wt_proto.specs.ResponseWalk.{response_walk_of}
use Rattle.wt_proto.specs.declared.control_walk.ControlWalk.{ControlWalk}
use Rattle.wt_turn.specs.Reports.{end_of}
use Rattle.wt_turn.specs.Streams.{local_count, local_uni, peer_count, peer_uni}
use Rattle.wt_turn.specs.Log.{Event, closes}
use Rattle.wt_turn.specs.declared.answer.Answer.{Answer}
use Rattle.wt_turn.specs.declared.call.Call.{Call}
use Rattle.wt_turn.specs.declared.reply.Reply.{Reply}
use Rattle.wt_turn.specs.declared.turn.Turn.{Turn}
use Rattle.wt_wire.specs.declared.side.Side.{Side}
use Rattle.wt_wire.specs.declared.side.Side.TheVariants.{Client, Server}
use Rattle.wt_promise.proofs.OwnForms as own_head
use Rattle.wt_turn.specs.declared.action.Action.TheVariants as actions
use Rattle.wt_turn.specs.declared.call.Call.TheVariants as calls
use Rattle.wt_turn.specs.declared.reply.Reply.TheVariants as replies
use Rattle.wt_turn.specs.declared.turn.Turn.TheVariants as turns

-- ---- the call that gives a session closes nothing by itself

sent-open : (h : History) (k : ℕ) (bytes : List ℕ) → list_any closes (send h k bytes) ≡ false
sent-open h k bytes = none-sent closes k (take (credit_left h k) bytes) (λ p. refl)

polled-open : (side : Side) (h : History) (s : ℕ) (o : Option Call) (a : Answer) → PollGives side h s a o → list_any closes a.actions ≡ false
polled-open side h s o a (Accepted headers m g) = ap (list_any closes) g.acts ∙ sent-open h _ _
polled-open side h s o a (Connected c m x g) =
    ap (list_any closes) g.acts
    ∙ none-append closes (action_if (not (is_opened h)) (actions.Opened 0)) (send h 0 (head_left h 0 _)) (none-if closes (not (is_opened h)) (actions.Opened 0) refl) (sent-open h 0 _)

own-open : (side : Side) (h : History) (c : Call) (s : ℕ) → SessionCall c → session_in (next side h (turns.Call c)).reply ≡ Some s → list_any closes (own_answer side h (turns.Call c)).actions ≡ false
own-open side h c s (AnAccept headers q) e =
    subst (λ (x : Call). list_any closes (own_answer side h (turns.Call x)).actions ≡ false) (sym q)
    (ap (list_any closes) (accept-gives side h headers s (ap (λ (x : Call). session_in (next side h (turns.Call x)).reply) (sym q) ∙ e)).acts ∙ sent-open h _ _)
own-open side h c s (APoll q) e =
    subst (λ (x : Call). list_any closes (own_answer side h (turns.Call x)).actions ≡ false) (sym q)
    (polled-open side h s (last_begun h) _ (poll-gives side h (last_begun h) s (ap (λ (x : Call). session_in (next side h (turns.Call x)).reply) (sym q) ∙ e)))

session-polls : (c : Call) → SessionCall c → polls (turns.Call c) ≡ true
session-polls c (AnAccept headers q) = ap (λ (x : Call). polls (turns.Call x)) q
session-polls c (APoll q) = ap (λ (x : Call). polls (turns.Call x)) q

no-request : (r : Reply) (s : ℕ) → session_in r ≡ Some s → request_in r ≡ None
no-request (replies.Session id) s e = refl
no-request r s e = absurd (cc e)

-- ---- what both say alike

last-same : (r h : History) → SamePairs r h → last_request r ≡ last_request h
last-same = same last_request (λ k piece sent h. refl) (λ p r h e. ap (λ (o : Option ℕ). option_or (requests p) o) e)

response-same : (r h : History) → SamePairs r h → response_begun r ≡ response_begun h
response-same = same response_begun (λ k piece sent h. refl) (λ p r h e. ap (λ (o : Option Call). if is_some (requests p) then None else option_or (begun_by p.turn) o) e)

stream-same : (r h : History) → SamePairs r h → connect_stream r ≡ connect_stream h
stream-same = same connect_stream (λ k piece sent h. none (connect_stream h)) (λ p r h e. ap (λ (o : Option ℕ). option_or o (opened_in p.turn p.answer.actions)) e)
  where
    none : (o : Option ℕ) → option_or o None ≡ o
    none None = refl
    none (Some s) = refl

asking-same : (r h : History) → SamePairs r h → first_of (λ (p : Pair). asking_frame p.turn) r ≡ first_of (λ (p : Pair). asking_frame p.turn) h
asking-same = same (λ (h : History). first_of (λ (p : Pair). asking_frame p.turn) h) (λ k piece sent h. refl) (λ p r h e. ap (λ (o : Option (List ℕ)). option_or (asking_frame p.turn) o) e)

-- ---- the pair that gives it, up to its first close

module _ (side : Side) (r h : History) (a : Alike r h) (i : IsHistory side h) (c : Call) (l : is_lawful side h (turns.Call c) ≡ true) (s : ℕ)
    (e : session_in (next side h (turns.Call c)).reply ≡ Some s) where
  abbrev p : Pair
  p = record { turn = turns.Call c; answer = next side h (turns.Call c) }

  abbrev cut : Pair
  cut = record { turn = turns.Call c; answer = record { reply = (next side h (turns.Call c)).reply; actions = before_close (next side h (turns.Call c)).actions } }

  x : EstablishedFor side h (p ∷ h) s
  x = established-rightly side h (turns.Call c) i l s e

  y : SessionGiven side h s
  y = session_came side h (turns.Call c) i l s e

  call-is : SessionCall c
  call-is = session-call c (next side h (turns.Call c)).reply s (fits-own side h c) e

  contents-is : (k : ℕ) → contents (cut ∷ r) k ≡ contents h k
  contents-is k = same-contents cut r k refl ∙ whole (contents r k) h k x.open_before (a.bytes k)

  events-is : events (cut ∷ r) ≡ events h
  events-is = one-of (is_open r) (events r) ∙ a.came

  verdict-is : (k : ℕ) → verdict (cut ∷ r) k ≡ verdict h k
  verdict-is k = ap (λ (bytes : List ℕ). verdict-by k bytes (end_of (events (cut ∷ r)) k)) (contents-is k) ∙ ap (λ (es : List Event). verdict-by k (contents h k) (end_of es k)) events-is

  least-is : least_control side (cut ∷ r) ≡ least_control side h
  least-is =
      ap (λ (es : List Event). first_of (λ (k : ℕ). control_at k (verdict (cut ∷ r) k)) (ids_from (peer_uni side) 0 (peer_count side es (peer_uni side)))) events-is
      ∙ first-same (λ (k : ℕ). control_at k (verdict (cut ∷ r) k)) (λ (k : ℕ). control_at k (verdict h k)) (λ k. ap (control_at k) (verdict-is k)) (ids_from (peer_uni side) 0 (peer_count side (events h) (peer_uni side)))

  walk-is : (o : Option (ℕ × ℕ)) → control_walk (cut ∷ r) o ≡ control_walk h o
  walk-is None = refl
  walk-is (Some st) = rw (contents-is st.0, events-is) refl

  settings : settings_read side (cut ∷ r) ≡ true
  settings = ap (λ (o : Option (ℕ × ℕ)). is_some (control_walk (cut ∷ r) o).settings) least-is ∙ ap (λ (w : ControlWalk). is_some w.settings) (walk-is (least_control side h)) ∙ y.settings

  -- all of the frame went out in front of the first close
  frame-out : (s == local_uni side) ≡ false → out (cut ∷ r) s ≡ head_of (last_begun (p ∷ h))
  frame-out n =
      out-add cut r s ∙ ap (λ (xs : List ℕ). xs ++ bytes_on s cut.answer.actions) (a.sent s) ∙ ap (λ (xs : List ℕ). out h s ++ xs) (all-in-front side h (turns.Call c) s n (own-open side h c s call-is e))
      ∙ sym (out-add p h s) ∙ x.frame

  went : (s == local_uni side) ≡ false → (o : Option (List ℕ)) → o ≡ Some (head_of (last_begun (p ∷ h))) → went_out (cut ∷ r) s o ≡ true
  went n o q = ap (went_out (cut ∷ r) s) q
      ∙ prefix-of (head_of (last_begun (p ∷ h))) (out (cut ∷ r) s) (ap (take (length (head_of (last_begun (p ∷ h))))) (frame-out n) ∙ take-length (head_of (last_begun (p ∷ h))))

-- ---- a server's

module _ (r h : History) (a : Alike r h) (i : IsHistory Server h) (c : Call) (l : is_lawful Server h (turns.Call c) ≡ true) (s : ℕ) (e : session_in (next Server h (turns.Call c)).reply ≡ Some s) where
  abbrev r1 : History
  r1 = up_to_close r (record { turn = turns.Call c; answer = next Server h (turns.Call c) })

  asks-for : AsksFor Server h s
  asks-for = (y Server r h a i c l s e).request refl

  peers : peer_opened Server r1 s ≡ true
  peers = ap (λ (es : List Event). nat_lt (s / 4) (peer_count Server es (s % 4))) (events-is Server r h a i c l s e) ∙ asks-for.opened

  not-control : (s == local_uni Server) ≡ false
  not-control = by (s == 3) refl
    where
      none : nat_lt (3 / 4) (peer_count Server (events h) (3 % 4)) ≡ false
      none = rw (no-peers Server 3 refl refl (events h)) refl

      by : (b : Bool) → (s == 3) ≡ b → b ≡ false
      by false q = refl
      by true q = absurd (let z = ap (peer_opened Server h) (eqb-true s 3 q) in let w : true ≡ false = sym asks-for.opened ∙ z ∙ none in cc w)

  not-request : requests (record { turn = turns.Call c; answer = next Server h (turns.Call c) }) ≡ None
  not-request = no-request (next Server h (turns.Call c)).reply s e

  asked : (is_number s (last_request h) && is_acceptance (option_or (begun_by (turns.Call c)) (last_begun h))) ≡ true
  asked = ap (λ (o : Option ℕ). is_number s (option_or o (last_request h)) && is_acceptance (option_or (begun_by (turns.Call c)) (last_begun h))) (sym not-request) ∙ (x Server r h a i c l s e).asked

  last : is_number s (last_request r1) ≡ true
  last = ap (λ (o : Option ℕ). is_number s (option_or o (last_request r))) not-request ∙ ap (is_number s) (last-same r h a.pairs) ∙ and-left (is_number s (last_request h)) _ asked

  begun : response_begun r1 ≡ option_or (begun_by (turns.Call c)) (last_begun h)
  begun =
      ap (λ (o : Option ℕ). if is_some o then None else option_or (begun_by (turns.Call c)) (response_begun r)) not-request
      ∙ ap (λ (o : Option Call). option_or (begun_by (turns.Call c)) o) (response-same r h a.pairs) ∙ response-now h (turns.Call c) i (session-polls c (call-is Server r h a i c l s e)) l

  granted-server : is_granted Server r1 s ≡ true
  granted-server =
      both (is_number s (last_request r1) && peer_opened Server r1 s && is_request (verdict r1 s)) _
      (both (is_number s (last_request r1) && peer_opened Server r1 s) _ (both (is_number s (last_request r1)) _ last peers) (ap is_request (verdict-is Server r h a i c l s e s ∙ asks-for.shown)))
      (went Server r h a i c l s e not-control (accepting_frame (response_begun r1)) (ap accepting_frame begun ∙ acceptance-frame _ (and-right (is_number s (last_request h)) _ asked)))

-- ---- a client's

module _ (r h : History) (a : Alike r h) (i : IsHistory Client h) (l : is_lawful Client h (turns.Call calls.Handshake) ≡ true) (s : ℕ) (e : session_in (next Client h (turns.Call calls.Handshake)).reply ≡ Some s) where
  abbrev p2 : Pair
  p2 = record { turn = turns.Call calls.Handshake; answer = next Client h (turns.Call calls.Handshake) }

  abbrev r2 : History
  r2 = up_to_close r p2

  asked2 : (s == 0 && not (local_count (actions_out (p2 ∷ h)) 0 == 0) && is_success (response_walk_of (contents (p2 ∷ h) 0) (end_of (events (p2 ∷ h)) 0))) ≡ true
  asked2 = (x Client r h a i calls.Handshake l s e).asked

  zero_ : s ≡ 0
  zero_ = eqb-true s 0 (and-left (s == 0) _ (and-left (s == 0 && not (local_count (actions_out (p2 ∷ h)) 0 == 0)) _ asked2))

  success : is_success (response_walk_of (contents r2 s) (end_of (events r2) s)) ≡ true
  success =
      ap (λ (bytes : List ℕ). is_success (response_walk_of bytes (end_of (events r2) s))) (contents-is Client r h a i calls.Handshake l s e s)
      ∙ ap (λ (es : List Event). is_success (response_walk_of (contents h s) (end_of es s))) (events-is Client r h a i calls.Handshake l s e)
      ∙ ap (λ (k : ℕ). is_success (response_walk_of (contents h k) (end_of (events h) k))) zero_
      ∙ ap (λ (bytes : List ℕ). is_success (response_walk_of bytes (end_of (events h) 0))) (sym (same-contents p2 h 0 refl))
      ∙ ap (λ (es : List Event). is_success (response_walk_of (contents (p2 ∷ h) 0) (end_of es 0))) (sym (one-of (is_open h) (events h)))
      ∙ and-right (s == 0 && not (local_count (actions_out (p2 ∷ h)) 0 == 0)) _ asked2

  -- the stream that the connect opened
  stream : connect_stream r2 ≡ Some s
  stream = ap (λ (o : Option ℕ). option_or o (opened_in (turns.Call calls.Handshake) (before_close (next Client h (turns.Call calls.Handshake)).actions))) (stream-same r h a.pairs)
      ∙ by (local_count (actions_out h) 0 == 0) refl ∙ ap (λ (n : ℕ). Some n) (sym zero_)
    where
      own : (o : Option Call) → last_begun h ≡ o → PollGives Client h s (first_row (poll_rows Client h o)) o → (local_count (actions_out h) 0 == 0) ≡ true
          → (first_row (poll_rows Client h o)).actions ≡ actions.Opened 0 ∷ send h 0 (head_left h 0 (own_head.head_of o))
      own o q (Accepted headers m g) z = absurd (let w = client-begun h i (calls.Accept headers) (q ∙ m) in cc w)
      own o q (Connected d m k g) z = g.acts ∙ ap (λ (b : Bool). action_if (not (not b)) (actions.Opened 0) ++ send h 0 (head_left h 0 (own_head.head_of (Some d)))) z ∙ ap (λ (u : Option Call). actions.Opened 0 ∷ send h 0 (head_left h 0 (own_head.head_of u))) (sym m)

      by : (b : Bool) → (local_count (actions_out h) 0 == 0) ≡ b → option_or (connect_stream h) (first_of (opens_of 0) (before_close (next Client h (turns.Call calls.Handshake)).actions)) ≡ Some 0
      by false z = ap (λ (o : Option ℕ). option_or o (first_of (opens_of 0) (before_close (next Client h (turns.Call calls.Handshake)).actions))) (bi-connect h i (at-least-one (local_count (actions_out h) 0) z))
      by true z =
          ap (λ (o : Option ℕ). option_or o (first_of (opens_of 0) (before_close (next Client h (turns.Call calls.Handshake)).actions))) (no-connect-stream h (eqb-true (local_count (actions_out h) 0) 0 z))
          ∙ zero-first Client h (turns.Call calls.Handshake) (send h 0 (head_left h 0 (own_head.head_of (last_begun h)))) (own (last_begun h) refl (poll-gives Client h (last_begun h) s e) z)

  frame : first_of (λ (q : Pair). asking_frame q.turn) r2 ≡ Some (head_of (last_begun (p2 ∷ h)))
  frame = asking-same r h a.pairs ∙ asking-last h i ∙ of (last_begun h) refl (poll-gives Client h (last_begun h) s e) e
    where
      of : (o : Option Call) → last_begun h ≡ o → PollGives Client h s (first_row (poll_rows Client h o)) o → session_in (first_row (poll_rows Client h o)).reply ≡ Some s → ask o ≡ Some (head_of o)
      of o q (Accepted headers m g) f = absurd (let w = client-begun h i (calls.Accept headers) (q ∙ m) in cc w)
      of o q (Connected d m k g) f =
          subst (λ (u : Option Call). ask u ≡ Some (head_of u)) (sym m) (connect-frame Client h s d k (ap (λ (u : Option Call). session_in (first_row (poll_rows Client h u)).reply) (sym m) ∙ f))

  granted-client : is_granted Client r2 s ≡ true
  granted-client =
      both (is_number s (connect_stream r2) && went_out r2 s (first_of (λ (q : Pair). asking_frame q.turn) r2)) _
      (both (is_number s (connect_stream r2)) _ (ap (is_number s) stream ∙ eq-eqb s s refl) (went Client r h a i calls.Handshake l s e (ap (λ (k : ℕ). k == 2) zero_) _ frame)) success

-- ---- the rule

may-give : (side : Side) (r h : History) (c : Call) → Alike r h → IsHistory side h → is_lawful side h (turns.Call c) ≡ true → (o : Option ℕ) → session_in (next side h (turns.Call c)).reply ≡ o
    → may_give side r (record { turn = turns.Call c; answer = next side h (turns.Call c) }) o ≡ true
may-give side r h c a i l None e = refl
may-give side r h c a i l (Some s) e =
    both (is_open r && true && settings_read side later) _ (both (is_open r && true) _ (both (is_open r) true opened refl) (settings side r h a i c l s e)) (of side a i l e)
  where
    later : History
    later = up_to_close r (record { turn = turns.Call c; answer = next side h (turns.Call c) })

    opened : is_open r ≡ true
    opened = open-alike r h a ∙ (x side r h a i c l s e).open_before

    poll : (d : Call) → SessionCall d → is_lawful Client h (turns.Call d) ≡ true → d ≡ calls.Handshake
    poll d (APoll q) m = q
    poll d (AnAccept headers q) m = absurd (let n = and-right (not (is_first h)) false (ap (λ (u : Call). is_lawful Client h (turns.Call u)) (sym q) ∙ m) in cc n)

    of : (z : Side) (b : Alike r h) → (j : IsHistory z h) (m : is_lawful z h (turns.Call c) ≡ true) → session_in (next z h (turns.Call c)).reply ≡ Some s
        → is_granted z (up_to_close r (record { turn = turns.Call c; answer = next z h (turns.Call c) })) s ≡ true
    of Server b j m f = granted-server r h b j c m s f
    of Client b j m f =
        let q = poll c (session-call c (next Client h (turns.Call c)).reply s (fits-own Client h c) f) m in
        subst (λ (u : Call). is_granted Client (up_to_close r (record { turn = turns.Call u; answer = next Client h (turns.Call u) })) s ≡ true) (sym q)
        (granted-client r h b j (ap (λ (u : Call). is_lawful Client h (turns.Call u)) (sym q) ∙ m) s (ap (λ (u : Call). session_in (next Client h (turns.Call u)).reply) (sym q) ∙ f))

gives-rightly : (side : Side) (r h : History) (turn : Turn) → Alike r h → IsHistory side h → is_lawful side h turn ≡ true → gives_sessions side r (record { turn = turn; answer = answer_to side h turn }) ≡ true
gives-rightly side r h (turns.Call c) a i l = may-give side r h c a i l (session_in (next side h (turns.Call c)).reply) refl
gives-rightly side r h turn a i l = refl

pub of_sessions : (side : Side) (all : List Turn) → AllLawful side [] all → holds gives_sessions (recorded side all) ≡ true
of_sessions side = throughout side gives_sessions (gives-rightly side)
