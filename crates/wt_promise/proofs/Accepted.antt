-- What an accept or a receive gives: the first that waits for the session that the call names.
use Rattle.wt_promise.proofs.OwnForms.{AcceptedFor, BiAccepted, UniAccepted}
use Rattle.std.specs.Prelude.{[], ◌%◌, ◌&&◌, ◌==◌, ◌∷◌, ◌||◌, ◌≡◌, Bool, List, None, Option, Some, false, filter, filter_map, if◌then◌else◌, not, true, ℕ}
use Rattle.std.specs.List.{list_any}
use Rattle.std.proofs.Common.{ap, refl, sym}
use Rattle.std.proofs.lemmas.Bool.{eq-eqb}
use Rattle.wt_turn.specs.Streams.{peer_bi, peer_uni}
use Rattle.wt_turn.specs.declared.connection_error.ConnectionError.{ConnectionError}
use Rattle.wt_turn.specs.declared.reply.Reply.{Reply}
use Rattle.wt_wire.specs.declared.side.Side.{Side}
use Rattle.wt_meaning.specs.Calls.{accept, first_datagram, first_waiting, in_session, is_living, receive, session_error}
use Rattle.wt_meaning.specs.Findings.{Classified, Finding, first_of}
use Rattle.wt_meaning.specs.History.{History, is_handed_out, is_open}
use Rattle.wt_meaning.specs.Meaning.{next}
use Rattle.wt_meaning.specs.Moments.{findings}
use Rattle.wt_meaning.specs.Rows.{Row, first_row, row, row_for}
use Rattle.wt_meaning.specs.Sends.{admits}
use Rattle.wt_meaning.specs.Windows.{admitted_stream, is_gone, named}
use Rattle.wt_proto.specs.declared.verdict.Verdict.TheVariants as verdicts
use Rattle.wt_turn.specs.declared.call.Call.TheVariants as calls
use Rattle.wt_turn.specs.declared.reply.Reply.TheVariants as replies
use Rattle.wt_turn.specs.declared.turn.Turn.TheVariants as turns

pub or-true : (b : Bool) → (b || true) ≡ true
or-true true = refl
or-true false = refl

pub and-left : (a b : Bool) → (a && b) ≡ true → a ≡ true
and-left true b e = refl
and-left false b e = e

pub and-right : (a b : Bool) → (a && b) ≡ true → b ≡ true
and-right true b e = e
and-right false b e = absurd (cc e)

pub or-left : (a b : Bool) → (a || b) ≡ false → a ≡ false
or-left true b e = e
or-left false b e = refl

pub or-right : (a b : Bool) → (a || b) ≡ false → b ≡ false
or-right true b e = absurd (cc e)
or-right false b e = e

-- where one of two doesn't hold, the other does
pub or-first : (a b : Bool) → (a || b) ≡ true → b ≡ false → a ≡ true
or-first true b e f = refl
or-first false true e f = absurd (cc f)
or-first false false e f = absurd (cc e)

pub or-last : (a b : Bool) → (a || b) ≡ true → a ≡ false → b ≡ true
or-last true b e f = absurd (cc f)
or-last false b e f = e

pub not-true : (b : Bool) → not b ≡ true → b ≡ false
not-true true e = absurd (cc e)
not-true false e = refl

-- ---- the first that waits

-- what is known of it
record IsFirst (h : History) (kind s id : ℕ) (found : List Finding) : Type 0 where
  peers : (id % 4 == kind) ≡ true
  once : is_handed_out h id ≡ false
  header : list_any (admits s id) found ≡ true

later : (h : History) (kind s id : ℕ) (x : Finding) (found : List Finding) → IsFirst h kind s id found → IsFirst h kind s id (x ∷ found)
later h kind s id x found f = record { peers = f.peers; once = f.once; header = rw f.header (or-true (admits s id x)) }

is-first : (h : History) (gone : ℕ → Bool) (kind s id : ℕ) (found : List Finding)
    → first_of (λ (w : ℕ × ℕ). if w.0 % 4 == kind && w.1 == s then Some w.0 else None) (filter (λ (w : ℕ × ℕ). not (is_handed_out h w.0) && not (gone w.1)) (filter_map admitted_stream found)) ≡ Some id
    → IsFirst h kind s id found
is-first h gone kind s id [] q = absurd (cc q)
is-first h gone kind s id (Classified k (verdicts.WebTransport t offset) true ∷ found) q =
    by (not (is_handed_out h k) && not (gone t)) (k % 4 == kind && t == s) refl refl (is-first h gone kind s id found)
  where
    rest : Option ℕ
    rest = first_of (λ (w : ℕ × ℕ). if w.0 % 4 == kind && w.1 == s then Some w.0 else None) (filter (λ (w : ℕ × ℕ). not (is_handed_out h w.0) && not (gone w.1)) (filter_map admitted_stream found))

    by : (keep hit : Bool) → (not (is_handed_out h k) && not (gone t)) ≡ keep → (k % 4 == kind && t == s) ≡ hit → (rest ≡ Some id → IsFirst h kind s id found)
        → IsFirst h kind s id (Classified k (verdicts.WebTransport t offset) true ∷ found)
    by false hit e f before = let r = rw e at q in later h kind s id _ found (before r)
    by true false e f before = let r = rw (e, f) at q in later h kind s id _ found (before r)
    by true true e f before =
        let r = rw (e, f) at q in let same : k ≡ id = cc r in
        record {
          peers = rw (sym same) (and-left (k % 4 == kind) (t == s) f);
          once = rw (sym same) (not-true (is_handed_out h k) (and-left (not (is_handed_out h k)) (not (gone t)) e));
          header = rw (eq-eqb k id same, and-right (k % 4 == kind) (t == s) f) refl;
        }
is-first h gone kind s id (x ∷ found) q = later h kind s id x found (is-first h gone kind s id found q)

accepted-for : (side : Side) (h : History) (kind s id : ℕ) → first_waiting side h kind s ≡ Some id → AcceptedFor side h id kind s
accepted-for side h kind s id q =
    let f = is-first h (is_gone h (findings side h)) kind s id (findings side h) q in record { peers = f.peers; once = f.once; header = f.header }

-- ---- what the rows give

-- a value is given only where it is there
given-value : {X : Type 0} (x : Option X) (c : Bool) (gives : X → Reply) (e : ConnectionError) (y : X) → ((z : X) → gives z ≡ gives y → z ≡ y) → (replies.Failed e ≡ gives y → ⊥) → (replies.Pending ≡ gives y → ⊥)
    → (first_row (row_for x gives [] ∷ row c (replies.Failed e) [] ∷ [])).reply ≡ gives y → x ≡ Some y
given-value {X = X} (Some z) c gives e y one never none q = ap (λ (w : X). Some w) (one z q)
given-value None true gives e y one never none q = absurd (never q)
given-value None false gives e y one never none q = absurd (none q)

in-named : (name : Option ℕ) (rows : ℕ → List Row) (reply : Reply) (P : ℕ → Type 0) → (replies.NoSession ≡ reply → ⊥) → ((s : ℕ) → (first_row (rows s)).reply ≡ reply → P s)
    → (first_row (in_session name rows)).reply ≡ reply → (s : ℕ) × (name ≡ Some s) × P s
in-named None rows reply P never f q = absurd (never q)
in-named (Some s) rows reply P never f q = (s, refl, f s q)

pub uni-accepted : (side : Side) (h : History) (name : Option ℕ) (id : ℕ) → (next side h (turns.Call (calls.AcceptUni name))).reply ≡ replies.Uni id → UniAccepted side h name id
uni-accepted side h name id q =
    in-named (named h name) (accept side h (peer_uni side) replies.Uni) (replies.Uni id) (λ (s : ℕ). AcceptedFor side h id (peer_uni side) s) (λ e. cc e)
    (λ (s : ℕ) (r : (first_row (accept side h (peer_uni side) replies.Uni s)).reply ≡ replies.Uni id). accepted-for side h (peer_uni side) s id
    (given-value (first_waiting side h (peer_uni side) s) (not (is_living side h s && is_open h)) replies.Uni (session_error side h s) id (λ z e. cc e) (λ e. cc e) (λ e. cc e) r)) q

pub bi-accepted : (side : Side) (h : History) (name : Option ℕ) (id : ℕ) → (next side h (turns.Call (calls.AcceptBi name))).reply ≡ replies.Bi id → BiAccepted side h name id
bi-accepted side h name id q =
    in-named (named h name) (accept side h (peer_bi side) replies.Bi) (replies.Bi id) (λ (s : ℕ). AcceptedFor side h id (peer_bi side) s) (λ e. cc e)
    (λ (s : ℕ) (r : (first_row (accept side h (peer_bi side) replies.Bi s)).reply ≡ replies.Bi id). accepted-for side h (peer_bi side) s id
    (given-value (first_waiting side h (peer_bi side) s) (not (is_living side h s && is_open h)) replies.Bi (session_error side h s) id (λ z e. cc e) (λ e. cc e) (λ e. cc e) r)) q

pub datagram-received : (side : Side) (h : History) (name : Option ℕ) (payload : List ℕ) → (next side h (turns.Call (calls.ReceiveDatagram name))).reply ≡ replies.Datagram payload
    → (s : ℕ) × (named h name ≡ Some s) × (first_datagram side h s ≡ Some payload)
datagram-received side h name payload q =
    in-named (named h name) (receive side h) (replies.Datagram payload) (λ (s : ℕ). first_datagram side h s ≡ Some payload) (λ e. cc e)
    (λ (s : ℕ) (r : (first_row (receive side h s)).reply ≡ replies.Datagram payload).
    given-value (first_datagram side h s) (not (is_living side h s && is_open h)) (λ (p : List ℕ). replies.Datagram p) (session_error side h s) payload (λ z e. cc e) (λ e. cc e) (λ e. cc e) r) q
