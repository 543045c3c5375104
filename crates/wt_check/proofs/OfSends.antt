-- Rule 6 holds of a lawful list: what went out on a stream is a prefix of its header and of what writes accepted.
use Rattle.std.specs.Prelude.{[], ◌<◌, ◌%◌, ◌++◌, ◌==◌, ◌||◌, ◌∷◌, ◌≡◌, Bool, List, None, Option, Some, false, filter_map, if◌then◌else◌, is_some, length, not, suc, take, true, zero, ℕ}
use Rattle.std.specs.List.{list_all, list_any}
use Rattle.std.specs.Option.{option_or}
use Rattle.std.proofs.Common.{◌∙◌, ap, arith, refl, sym}
use Rattle.std.proofs.lemmas.Bool.{eq-eqb, eqb-true}
use Rattle.std.proofs.lemmas.List.{append-nil}
use Rattle.std.proofs.lemmas.Slice.Eq.{bytes_eq-Decides}
use Rattle.wt_check.proofs.Alike.{Alike, SamePairs, brought, same}
use Rattle.wt_check.proofs.Along.{both, throughout-after}
use Rattle.wt_check.proofs.OfAccepts.{handed-same}
use Rattle.wt_check.proofs.OfDatagrams.{named-names}
use Rattle.wt_check.specs.Records.{is_local, is_prefix, names, recorded}
use Rattle.wt_check.specs.Sends.{accepted, accepted_by, head, header_of, sends_hold, sends_rightly, session_of, watched_in}
use Rattle.wt_check.specs.Verdict.{holds}
use Rattle.wt_meaning.specs.Calls.{opened_by}
use Rattle.wt_meaning.specs.Findings.{first_of}
use Rattle.wt_meaning.specs.Halves.{has_sending, is_closed, sent_now}
use Rattle.wt_meaning.specs.Handshakes.{is_nothing, send}
use Rattle.wt_meaning.specs.History.{History, Pair, credit_left, events, hands_out, is_handed_out, is_open, out}
use Rattle.wt_meaning.specs.Meaning.{next}
use Rattle.wt_meaning.specs.Windows.{first_session, is_number, named}
use Rattle.wt_promise.proofs.Begun.{begun-for}
use Rattle.wt_promise.proofs.Flow.{clash}
use Rattle.wt_promise.proofs.Fresh.{Bi, OpenTurn, Uni, open-turn, was-opened}
use Rattle.wt_promise.proofs.Grows.{is_peers}
use Rattle.wt_promise.proofs.HandedOut.{opened-local}
use Rattle.wt_promise.proofs.Heads.{begun-not-admitted, begun-not-opened}
use Rattle.wt_promise.proofs.Opened.{opens-for}
use Rattle.wt_promise.proofs.Stays.{named-stays}
use Rattle.wt_promise.proofs.Tables.{by-row, by-value, no-row}
use Rattle.wt_promise.proofs.Theorems.{sends_theorem}
use Rattle.wt_promise.proofs.Verdicts.{ByAccept, ByOpening, HandedBy, admitted-peers, handed-by}
use Rattle.wt_promise.specs.Owed.{header_on}
use Rattle.wt_promise.specs.Promise.{AllLawful, IsHistory, begun_on, frame_or, head_on}
use Rattle.wt_turn.specs.Reports.{stop_of}
use Rattle.wt_turn.specs.Streams.{local_bi, local_uni, peer_bi, peer_uni}
use Rattle.wt_turn.specs.declared.action.Action.{Action}
use Rattle.wt_turn.specs.declared.answer.Answer.{Answer}
use Rattle.wt_turn.specs.declared.call.Call.{Call}
use Rattle.wt_turn.specs.declared.reply.Reply.{Reply}
use Rattle.wt_turn.specs.declared.turn.Turn.{Turn}
use Rattle.wt_wire.specs.Ids.{is_bidirectional}
use Rattle.wt_wire.specs.declared.side.Side.{Side}
use Rattle.wt_wire.specs.declared.side.Side.TheVariants.{Client, Server}
use Rattle.wt_promise.specs.Promise as promised
use Rattle.wt_turn.specs.declared.call.Call.TheVariants as calls
use Rattle.wt_turn.specs.declared.reply.Reply.TheVariants as replies
use Rattle.wt_turn.specs.declared.stream_error.StreamWriteError.TheVariants as writes
use Rattle.wt_turn.specs.declared.turn.Turn.TheVariants as turns

-- ---- of each stream that the record names

pub or-here : (b c : Bool) → b ≡ true → (b || c) ≡ true
or-here b c e = rw e refl

pub or-later : (b c : Bool) → c ≡ true → (b || c) ≡ true
or-later true c e = refl
or-later false c e = e

-- a test that holds of each stream which a pair says
pub each-of : (test : ℕ → Bool) (says : Pair → Option ℕ) (pairs : List Pair) → ((k : ℕ) → list_any (λ (p : Pair). is_number k (says p)) pairs ≡ true → test k ≡ true) → list_all test (filter_map says pairs) ≡ true
each-of test says [] f = refl
each-of test says (p ∷ pairs) f = by (says p) refl (each-of test says pairs (λ k e. f k (or-later (is_number k (says p)) _ e)))
  where
    by : (o : Option ℕ) → says p ≡ o → list_all test (filter_map says pairs) ≡ true → list_all test (filter_map says (p ∷ pairs)) ≡ true
    by None q again = rw q again
    by (Some k) q again = rw q (both (test k) _ (f k (or-here (is_number k (says p)) _ (ap (is_number k) q ∙ eq-eqb k k refl))) again)

-- such a stream was handed out
pub handed-of : (says : Reply → Option ℕ) (k : ℕ) → ((r : Reply) → is_number k (says r) ≡ true → hands_out k r ≡ true) → (h : History) → list_any (λ (p : Pair). is_number k (says p.answer.reply)) h ≡ true → is_handed_out h k ≡ true
handed-of says k f [] e = absurd (cc e)
handed-of says k f (p ∷ h) e = by (is_number k (says p.answer.reply)) refl e (handed-of says k f h)
  where
    by : (b : Bool) → is_number k (says p.answer.reply) ≡ b → (b || list_any (λ (q : Pair). is_number k (says q.answer.reply)) h) ≡ true
        → (list_any (λ (q : Pair). is_number k (says q.answer.reply)) h ≡ true → is_handed_out h k ≡ true) → (hands_out k p.answer.reply || is_handed_out h k) ≡ true
    by true q g again = or-here (hands_out k p.answer.reply) _ (f p.answer.reply q)
    by false q g again = or-later (hands_out k p.answer.reply) _ (again g)

watched-handed : (k : ℕ) (r : Reply) → is_number k (watched_in r) ≡ true → hands_out k r ≡ true
watched-handed k (replies.Uni id) e = by (is_bidirectional id) e
  where
    by : (b : Bool) → is_number k (if b then Some id else None) ≡ true → (id == k) ≡ true
    by true q = q
    by false q = absurd (cc q)
watched-handed k (replies.Bi id) e = e
watched-handed k (replies.SendReady id) e = e
watched-handed k (replies.BiReady id) e = e
watched-handed k r e = absurd (cc e)

-- the first bytes in front
pub prefix-of : (xs ys : List ℕ) → take (length xs) ys ≡ xs → is_prefix xs ys ≡ true
prefix-of xs ys e = (bytes_eq-Decides (take (length xs) ys) xs).1 e

-- ---- what was accepted

abbrev AcceptsAlike : Turn → Reply → Type 0
AcceptsAlike turn r = (k : ℕ) → accepted_by k turn r ≡ promised.accepted_by k turn r

if-none : (b : Bool) → (if b then accepted [] 0 else []) ≡ []
if-none true = refl
if-none false = refl

write-alike : (side : Side) (h : History) (id : ℕ) (bytes : List ℕ) → AcceptsAlike (turns.Call (calls.Write id bytes)) (next side h (turns.Call (calls.Write id bytes))).reply
write-alike side h id bytes =
    (by-row P (not (has_sending side h id)) replies.NoStream [] _ (λ e k. if-none (id == k))
    (λ has. by-row P (not (is_open h)) (replies.WriteFailed writes.NotConnected) [] _ (λ e k. if-none (id == k))
    (λ o. by-row P (is_closed h id) (replies.WriteFailed writes.Closed) [] _ (λ e k. if-none (id == k))
    (λ c. by-value P (stop_of (events h) id) _ [] _ (λ code e k. if-none (id == k))
    (λ s. by-row P (is_nothing bytes) (replies.Written 0) [] _ (λ e k. refl)
    (λ n. by-row P (not (credit_left h id == 0)) (replies.Written (sent_now h id bytes)) (send h id bytes) [] (λ e k. refl) (λ e. no-row P (λ k. if-none (id == k))))))))).first
  where
    P : Answer → Type 0
    P a = AcceptsAlike (turns.Call (calls.Write id bytes)) a.reply

write-all-alike : (side : Side) (h : History) (id : ℕ) (bytes : List ℕ) → AcceptsAlike (turns.Call (calls.WriteAll id bytes)) (next side h (turns.Call (calls.WriteAll id bytes))).reply
write-all-alike side h id bytes =
    (by-row P (not (has_sending side h id)) replies.NoStream [] _ (λ e k. if-none (id == k))
    (λ has. by-row P (not (is_open h)) (replies.WriteFailed writes.NotConnected) [] _ (λ e k. if-none (id == k))
    (λ o. by-row P (is_closed h id) (replies.WriteFailed writes.Closed) [] _ (λ e k. if-none (id == k))
    (λ c. by-value P (stop_of (events h) id) _ [] _ (λ code e k. if-none (id == k))
    (λ s. by-row P (sent_now h id bytes == length bytes) replies.AllWritten (send h id bytes) _ (λ e k. refl)
    (λ n. by-row P true (replies.Count (sent_now h id bytes)) (send h id bytes) [] (λ e k. refl) (λ e. no-row P (λ k. if-none (id == k))))))))).first
  where
    P : Answer → Type 0
    P a = AcceptsAlike (turns.Call (calls.WriteAll id bytes)) a.reply

turn-alike : (side : Side) (h : History) (turn : Turn) → AcceptsAlike turn (next side h turn).reply
turn-alike side h (turns.Call (calls.Write id bytes)) = write-alike side h id bytes
turn-alike side h (turns.Call (calls.WriteAll id bytes)) = write-all-alike side h id bytes
turn-alike side h turn = λ k. refl

accepted-promised : (side : Side) (h : History) → IsHistory side h → (k : ℕ) → accepted h k ≡ promised.accepted h k
accepted-promised side [] i k = refl
accepted-promised side (p ∷ h) i k =
    ap (λ (xs : List ℕ). xs ++ accepted_by k p.turn p.answer.reply) (accepted-promised side h i.2 k)
    ∙ ap (λ (xs : List ℕ). promised.accepted h k ++ xs) (of p.answer i.1)
  where
    of : (a : Answer) → a ≡ next side h p.turn → accepted_by k p.turn a.reply ≡ promised.accepted_by k p.turn a.reply
    of a e = rw e (turn-alike side h p.turn k)

accepted-same : (k : ℕ) (r h : History) → SamePairs r h → accepted r k ≡ accepted h k
accepted-same k = same (λ (h : History). accepted h k) (λ id piece sent h. append-nil (accepted h k)) (λ p r h e. ap (λ (xs : List ℕ). xs ++ accepted_by k p.turn p.answer.reply) e)

-- ---- the session for which a stream was opened

session-same : (k : ℕ) (r h : History) → SamePairs r h → session_of r k ≡ session_of h k
session-same k r h a = ap (λ (x : Option ℕ × Option ℕ). x.1) (same says quiet more r h a)
  where
    says : History → Option ℕ × Option ℕ
    says g = (first_session g, session_of g k)

    quiet : (id : ℕ) (piece : List ℕ) (sent : List Action) (g : History) → says (brought id piece sent ∷ g) ≡ says g
    quiet id piece sent g = ap (λ (o : Option ℕ). (o, session_of g k)) (none (first_session g))
      where
        none : (o : Option ℕ) → option_or o None ≡ o
        none None = refl
        none (Some t) = refl

    more : (p : Pair) (f g : History) → says f ≡ says g → says (p ∷ f) ≡ says (p ∷ g)
    more p f g e =
        let x : first_session f ≡ first_session g = ap (λ (z : Option ℕ × Option ℕ). z.0) e in let y : session_of f k ≡ session_of g k = ap (λ (z : Option ℕ × Option ℕ). z.1) e in
        rw (x, y) refl

record OpenedFor (h : History) (k : ℕ) (name : Option ℕ) : Type 0 where
  session : ℕ
  of_it : named h name ≡ Some session
  found : session_of h k ≡ Some session

opened-session : (side : Side) (h : History) → IsHistory side h → (k : ℕ) (name : Option ℕ) → first_of (λ (p : Pair). opened_by k p.turn p.answer.reply) h ≡ Some name → OpenedFor h k name
opened-session side [] i k name e = absurd (cc e)
opened-session side (p ∷ h) i k name e = by (opened_by k p.turn p.answer.reply) refl e (opened-session side h i.2 k name)
  where
    here : (s : ℕ) → opened_by k p.turn p.answer.reply ≡ Some name → named h name ≡ Some s → names h p.turn ≡ Some s → OpenedFor (p ∷ h) k name
    here s o n m = record { session = s; of_it = named-stays p h name s n; found = rw (o, m) refl }

    new : opened_by k p.turn p.answer.reply ≡ Some name → OpenTurn k name p.turn (next side h p.turn).reply → OpenedFor (p ∷ h) k name
    new o (Uni id q t r) =
        let x = opens-for side h name (local_uni side) id (ap (λ (y : Turn). (next side h y).reply) (sym t) ∙ r) in
        here x.session o x.of_it (ap (names h) t ∙ named-names h name x.session x.of_it)
    new o (Bi id q t r) =
        let x = opens-for side h name (local_bi side) id (ap (λ (y : Turn). (next side h y).reply) (sym t) ∙ r) in
        here x.session o x.of_it (ap (names h) t ∙ named-names h name x.session x.of_it)

    by : (o : Option (Option ℕ)) → opened_by k p.turn p.answer.reply ≡ o → option_or o (first_of (λ (q : Pair). opened_by k q.turn q.answer.reply) h) ≡ Some name
        → (first_of (λ (q : Pair). opened_by k q.turn q.answer.reply) h ≡ Some name → OpenedFor h k name) → OpenedFor (p ∷ h) k name
    by None q r again = let x = again r in record { session = x.session; of_it = named-stays p h name x.session x.of_it; found = rw q x.found }
    by (Some other) q r again =
        let o : opened_by k p.turn p.answer.reply ≡ Some name = q ∙ r in new o (open-turn k name p.turn (next side h p.turn).reply (ap (λ (a : Answer). opened_by k p.turn a.reply) (sym i.1) ∙ o))

-- ---- heads

kind-of : (side : Side) (m : ℕ) → m < 4 → ((m == local_uni side) || (m == local_bi side)) ≡ not ((m == peer_uni side) || (m == peer_bi side))
kind-of Client zero l = refl
kind-of Client (suc zero) l = refl
kind-of Client (suc (suc zero)) l = refl
kind-of Client (suc (suc (suc zero))) l = refl
kind-of Client (suc (suc (suc (suc m)))) l = absurd (omega (arith, l))
kind-of Server zero l = refl
kind-of Server (suc zero) l = refl
kind-of Server (suc (suc zero)) l = refl
kind-of Server (suc (suc (suc zero))) l = refl
kind-of Server (suc (suc (suc (suc m)))) l = absurd (omega (arith, l))

-- a stream is of one side
pub one-side : (side : Side) (k : ℕ) → is_local side k ≡ not (is_peers side k)
one-side side k = kind-of side (k % 4) (omega arith)

control-local : (side : Side) → is_peers side (local_uni side) ≡ false
control-local Client = refl
control-local Server = refl

-- a stream that was handed out has no other head than its header
head-is : (side : Side) (h : History) → IsHistory side h → (k : ℕ) → HandedBy side h k → head side h k ≡ head_on side h k
head-is side h i k (ByAccept s e) = rw (one-side side k, peers, control (k == local_uni side) refl) (sym (frame (begun_on h k) refl (first_of (λ (p : Pair). opened_by k p.turn p.answer.reply) h) refl))
  where
    peers : is_peers side k ≡ true
    peers = admitted-peers side h s k e

    control : (b : Bool) → (k == local_uni side) ≡ b → (k == local_uni side) ≡ false
    control false q = q
    control true q = absurd (clash (is_peers side k) peers (ap (is_peers side) (eqb-true k (local_uni side) q) ∙ control-local side))

    frame : (o : Option Call) → begun_on h k ≡ o → (f : Option (Option ℕ)) → first_of (λ (p : Pair). opened_by k p.turn p.answer.reply) h ≡ f
        → frame_or (begun_on h k) (header_on h k (first_of (λ (p : Pair). opened_by k p.turn p.answer.reply) h)) ≡ []
    frame (Some c) q f g = absurd (begun-not-admitted side h i k s (begun-for side h i k c q) e)
    frame None q (Some name) g = absurd (clash (is_peers side k) peers (opened-local side h i k (ap is_some g)))
    frame None q None g = rw (q, g) refl
head-is side h i k (ByOpening e) = of (first_of (λ (p : Pair). opened_by k p.turn p.answer.reply) h) refl e
  where
    of : (f : Option (Option ℕ)) → first_of (λ (p : Pair). opened_by k p.turn p.answer.reply) h ≡ f → is_some f ≡ true → head side h k ≡ head_on side h k
    of None g n = absurd (cc n)
    of (Some name) g n = mine ∙ sym theirs
      where
        x : OpenedFor h k name
        x = opened-session side h i k name g

        mine : head side h k ≡ header_of k (Some x.session)
        mine = rw (one-side side k, opened-local side h i k (ap is_some g)) (ap (header_of k) x.found)

        frame : (o : Option Call) → begun_on h k ≡ o → begun_on h k ≡ None
        frame None q = q
        frame (Some c) q = absurd (begun-not-opened side h i k (begun-for side h i k c q) name g)

        theirs : head_on side h k ≡ header_of k (Some x.session)
        theirs = rw ((was-opened side h i k name g).not_control, frame (begun_on h k) refl, g, x.of_it) refl

-- ---- the rule

one-stream : (side : Side) (r h : History) → Alike r h → IsHistory side h → (k : ℕ) → is_handed_out h k ≡ true → sends_hold side r k ≡ true
one-stream side r h a i k o = prefix-of (out r k) (head side r k ++ accepted r k) (rw (a.sent k, session-same k r h a.pairs, accepted-same k r h a.pairs ∙ accepted-promised side h i k, head-is side h i k (handed-by side h i k o)) (sends_theorem side h i k).front)

sends-rightly : (side : Side) (r h : History) (p : Pair) → Alike (p ∷ r) h → IsHistory side h → sends_rightly side r p ≡ true
sends-rightly side r h p a i =
    each-of (sends_hold side (p ∷ r)) (λ (q : Pair). watched_in q.answer.reply) (p ∷ r)
    (λ k e. one-stream side (p ∷ r) h a i k (sym (handed-same k (p ∷ r) h a.pairs) ∙ handed-of watched_in k (watched-handed k) (p ∷ r) e))

pub of_sends : (side : Side) (all : List Turn) → AllLawful side [] all → holds sends_rightly (recorded side all) ≡ true
of_sends side = throughout-after side sends_rightly (sends-rightly side)
