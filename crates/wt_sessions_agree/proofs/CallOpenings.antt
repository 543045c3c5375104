-- A stream that is being opened: a call begins its opening, ends it or leaves it in both.
use Rattle.std.specs.Prelude.{[], ◌%◌, ◌&&◌, ◌/◌, ◌<◌, ◌==◌, ◌∷◌, ◌||◌, ◌≡◌, Bool, List, None, Option, Some, false, if◌then◌else◌, is_some, not, true, unwrap_or, ℕ}
use Rattle.std.specs.List.{list_any}
use Rattle.std.proofs.Common.{◌∙◌, ap, arith, refl, subst, sym}
use Rattle.std.proofs.lemmas.Bool.{eq-eqb, eqb-true, ltb-true}
use Rattle.wt_meaning.specs.Calls.{being_opened, in_session, open_stream, opened_by, opening_ends, opening_for, opening_rows, rows_of, session_error, stream_header}
use Rattle.wt_meaning.specs.Findings.{first_of}
use Rattle.wt_meaning.specs.Halves.{is_done}
use Rattle.wt_meaning.specs.Handshakes.{head_left, is_refused, lacks_credit, send, transport_error}
use Rattle.wt_meaning.specs.History.{History, Pair, exists, is_handed_out, is_open, may_open, next_id, stream_count}
use Rattle.wt_meaning.specs.Lawful.{is_lawful}
use Rattle.wt_meaning.specs.Meaning.{next, step}
use Rattle.wt_meaning.specs.Moments.{findings}
use Rattle.wt_meaning.specs.Rows.{first_row}
use Rattle.wt_meaning.specs.Windows.{is_gone, named}
use Rattle.wt_promise.proofs.Accepted.{bi-accepted, uni-accepted}
use Rattle.wt_promise.proofs.Flow.{clash}
use Rattle.wt_promise.proofs.Fresh.{nth-of, was-opened}
use Rattle.wt_promise.proofs.Grows.{is_peers}
use Rattle.wt_promise.proofs.HandedOut.{being-begun, opened-local}
use Rattle.wt_promise.proofs.Stays.{exists-stays, named-stays}
use Rattle.wt_promise.proofs.Tables.{OfRows, by-row, by-session, is_bi, is_uni, no-row}
use Rattle.wt_promise.proofs.Verdicts.{ByAccept, ByOpening, HandedBy, admitted-peers, handed-by}
use Rattle.wt_promise.specs.Promise.{IsHistory}
use Rattle.wt_turn.specs.Streams.{local_bi, local_uni}
use Rattle.wt_sessions.specs.Connection.{ends_opening, opened_for, starts_opening}
use Rattle.wt_sessions.specs.Driver.{accepts_stream}
use Rattle.wt_sessions_agree.proofs.CallReplies.{gives_bytes, gives_exact, is_usual, suits, suits-own}
use Rattle.wt_sessions_agree.proofs.RecordLaws.{Aside, failure-aside, pending-aside}
use Rattle.wt_sessions_agree.proofs.StreamKinds.{bis-peers, local-bi-small, local-uni-small, unis-peers}
use Rattle.wt_sessions_agree.specs.Records.{call_session, done_record, record_of}
use Rattle.wt_sessions_agree.specs.Stands.{IsOpening, NotOpening, OpeningAgrees, fails_opening}
use Rattle.wt_turn.specs.Log.{CallRecord, Log, OpeningFailed, OpeningStarted, Polled, PrioritySet, RequestRejected, ResetUnsent, StreamAccepted, calls_of, newest}
use Rattle.wt_turn.specs.declared.answer.Answer.{Answer}
use Rattle.wt_turn.specs.declared.call.Call.{Call}
use Rattle.wt_turn.specs.declared.reply.Reply.{Reply}
use Rattle.wt_turn.specs.declared.stream_error.StreamOpeningError.{StreamOpeningError}
use Rattle.wt_turn.specs.declared.turn.Turn.{Turn}
use Rattle.wt_wire.specs.Ids.{is_bidirectional}
use Rattle.wt_wire.specs.declared.side.Side.{Side}
use Rattle.wt_turn.specs.declared.call.Call.TheVariants as calls
use Rattle.wt_turn.specs.declared.reply.Reply.TheVariants as replies
use Rattle.wt_turn.specs.declared.stream_error.StreamOpeningError.TheVariants as openings
use Rattle.wt_turn.specs.declared.stream_error.StreamReadExactError.TheVariants as exacts
use Rattle.wt_turn.specs.declared.turn.Turn.TheVariants as turns

-- ---- records

-- the session for which the stream is being opened, by these records
abbrev pub opening-of : ℕ → List CallRecord → Option ℕ
opening-of k rs = if list_any (starts_opening k) rs && not (list_any (ends_opening k) rs) then newest (opened_for k) rs else None

ends-one : (k : ℕ) (r : CallRecord) → ends_opening k r ≡ (fails_opening k r || accepts_stream k r)
ends-one k (OpeningFailed id) = by (id == k)
  where
    by : (b : Bool) → b ≡ (b || false)
    by true = refl
    by false = refl
ends-one k r = refl

-- an opening ends by its failure, or as the stream is given
ends-apart : (k : ℕ) (rs : List CallRecord) → list_any (ends_opening k) rs ≡ (list_any (fails_opening k) rs || list_any (accepts_stream k) rs)
ends-apart k [] = refl
ends-apart k (r ∷ rs) = rw (ends-one k r, ends-apart k rs) (by (fails_opening k r) (accepts_stream k r) (list_any (fails_opening k) rs) (list_any (accepts_stream k) rs))
  where
    by : (a b c d : Bool) → ((a || b) || (c || d)) ≡ ((a || c) || (b || d))
    by true b c d = refl
    by false true true d = refl
    by false true false d = refl
    by false false c d = refl

-- the record tells of an opening, or gives a stream
abbrev tells_opening : CallRecord → Bool
tells_opening (OpeningStarted id session) = true
tells_opening (OpeningFailed id) = true
tells_opening (StreamAccepted id session) = true
tells_opening _ = false

-- the record says nothing of this stream's opening
pub record Quiet (k : ℕ) (r : CallRecord) : Type 0 where
  pub ends : ends_opening k r ≡ false
  pub starts : starts_opening k r ≡ false
  pub opened : opened_for k r ≡ None

quiet-one : (k : ℕ) (r : CallRecord) → tells_opening r ≡ false → Quiet k r
quiet-one k (OpeningStarted id session) e = absurd (cc e)
quiet-one k (OpeningFailed id) e = absurd (cc e)
quiet-one k (StreamAccepted id session) e = absurd (cc e)
quiet-one k r e = record { ends = refl; starts = refl; opened = refl }

fails-ends : (k : ℕ) (r : CallRecord) → ends_opening k r ≡ false → fails_opening k r ≡ false
fails-ends k (OpeningFailed id) e = e
fails-ends k r e = refl

-- ---- replies

-- a reply that neither begins nor ends an opening, nor gives a stream
abbrev is_silent : Reply → Bool
is_silent (replies.Uni id) = false
is_silent (replies.Bi id) = false
is_silent (replies.Opening id) = false
is_silent (replies.SendReady id) = false
is_silent (replies.BiReady id) = false
is_silent (replies.OpeningFailed e) = false
is_silent _ = true

usual-silent : (r : Reply) → is_usual r ≡ true → is_silent r ≡ true
usual-silent (replies.Uni id) u = absurd (cc u)
usual-silent (replies.Bi id) u = absurd (cc u)
usual-silent (replies.Opening id) u = absurd (cc u)
usual-silent (replies.SendReady id) u = absurd (cc u)
usual-silent (replies.BiReady id) u = absurd (cc u)
usual-silent (replies.OpeningFailed e) u = absurd (cc u)
usual-silent r u = refl

bytes-silent : (r : Reply) → gives_bytes r ≡ true → is_silent r ≡ true
bytes-silent (replies.Read piece) u = refl
bytes-silent r u = absurd (cc u)

exact-silent : (r : Reply) → gives_exact r ≡ true → is_silent r ≡ true
exact-silent (replies.Exact piece) u = refl
exact-silent (replies.ExactFailed e piece) u = refl
exact-silent r u = absurd (cc u)

either-silent : (r : Reply) (b : Bool) → (is_usual r || b) ≡ true → (b ≡ true → is_silent r ≡ true) → is_silent r ≡ true
either-silent r b e f = by (is_usual r) refl e
  where
    by : (u : Bool) → is_usual r ≡ u → (u || b) ≡ true → is_silent r ≡ true
    by true q i = usual-silent r q
    by false q i = f i

tells-aside : Aside tells_opening false
tells-aside = record { polled = refl; started = λ r i. refl; response = λ a i. refl; over = refl; failed = refl }

done-tells-not : (side : Side) (h : History) (c : Call) → tells_opening (done_record side h c) ≡ false
done-tells-not side h (calls.ResetSend id code) = by (is_open h)
  where
    by : (b : Bool) → tells_opening (if b then Polled else ResetUnsent id code) ≡ false
    by true = refl
    by false = refl
done-tells-not side h (calls.SetPriority id p) = by (is_done h id)
  where
    by : (b : Bool) → tells_opening (if b then Polled else PrioritySet id p) ≡ false
    by true = refl
    by false = refl
done-tells-not side h (calls.EndSession name) = by (is_open h)
  where
    by : (b : Bool) → tells_opening (if b then RequestRejected (unwrap_or (named h name) 0) else Polled) ≡ false
    by true = refl
    by false = refl
done-tells-not side h c = refl

silent-tells-not : (side : Side) (h : History) (c : Call) (r : Reply) → is_silent r ≡ true → tells_opening (record_of side h c r) ≡ false
silent-tells-not side h c replies.Done u = done-tells-not side h c
silent-tells-not side h c replies.Pending u = pending-aside tells_opening false tells-aside c
silent-tells-not side h c (replies.Failed e) u = failure-aside tells_opening false tells-aside c
silent-tells-not side h c (replies.Read (Some (b ∷ bytes))) u = refl
silent-tells-not side h c (replies.Read (Some [])) u = refl
silent-tells-not side h c (replies.Read None) u = refl
silent-tells-not side h c (replies.ExactFailed (exacts.FinishedEarly count) piece) u = refl
silent-tells-not side h c (replies.ExactFailed (exacts.Read e) piece) u = refl
silent-tells-not side h c (replies.Uni id) u = absurd (cc u)
silent-tells-not side h c (replies.Bi id) u = absurd (cc u)
silent-tells-not side h c (replies.Opening id) u = absurd (cc u)
silent-tells-not side h c (replies.SendReady id) u = absurd (cc u)
silent-tells-not side h c (replies.BiReady id) u = absurd (cc u)
silent-tells-not side h c (replies.OpeningFailed e) u = absurd (cc u)
silent-tells-not side h c r u = refl

-- ---- what a call does to a stream's opening

pub data OpeningStep (side : Side) (h : History) (c : Call) (k : ℕ) (r : Reply) : Type 0 where
  Opens : (name : Option ℕ) (s : ℕ) → opened_by k (turns.Call c) r ≡ Some name → opening_ends k (turns.Call c) r ≡ false → named h name ≡ Some s → exists side h k ≡ false
      → record_of side h c r ≡ OpeningStarted k s → OpeningStep side h c k r
  Ends : opening_ends k (turns.Call c) r ≡ true → ends_opening k (record_of side h c r) ≡ true → OpeningStep side h c k r
  Gives : opened_by k (turns.Call c) r ≡ None → opening_ends k (turns.Call c) r ≡ false → ends_opening k (record_of side h c r) ≡ true → fails_opening k (record_of side h c r) ≡ false
      → is_peers side k ≡ true → OpeningStep side h c k r
  Other : opened_by k (turns.Call c) r ≡ None → opening_ends k (turns.Call c) r ≡ false → Quiet k (record_of side h c r) → OpeningStep side h c k r

-- a poll of an opening
ready-step : (side : Side) (h : History) (k id : ℕ) (b bi : Bool) → (id == k) ≡ b → OpeningStep side h (calls.PollOpening id) k (if bi then replies.BiReady id else replies.SendReady id)
ready-step side h k id true true e = Ends e e
ready-step side h k id true false e = Ends e e
ready-step side h k id false true e = Other refl e (record { ends = e; starts = refl; opened = refl })
ready-step side h k id false false e = Other refl e (record { ends = e; starts = refl; opened = refl })

failed-step : (side : Side) (h : History) (k id : ℕ) (b : Bool) (e : StreamOpeningError) → (id == k) ≡ b → OpeningStep side h (calls.PollOpening id) k (replies.OpeningFailed e)
failed-step side h k id true x e = Ends e e
failed-step side h k id false x e = Other refl e (record { ends = e; starts = refl; opened = refl })

none : (k : ℕ) → Quiet k Polled
none k = record { ends = refl; starts = refl; opened = refl }

poll-step : (side : Side) (h : History) (k id : ℕ) (x : Option (Option ℕ)) → OfRows (λ (a : Answer). OpeningStep side h (calls.PollOpening id) k a.reply) (opening_for side h id x)
poll-step side h k id None = record { first = Other refl refl (none k) }
poll-step side h k id (Some name) =
    by-session P (named h name) (λ (s : ℕ). opening_rows side h id s (left s)) (Other refl refl (none k))
    (λ s q. by-row P _ _ [] _ (λ i. failed-step side h k id (id == k) openings.NotConnected refl)
    (λ i. by-row P (is_refused h id (left s)) _ [] _ (λ j. failed-step side h k id (id == k) openings.Refused refl)
    (λ j. by-row P (lacks_credit h id (left s)) replies.Pending (send h id (left s)) _ (λ m. Other refl refl (none k))
    (λ m. by-row P true _ _ [] (λ t. ready-step side h k id (id == k) (is_bidirectional id) refl) (λ t. no-row P (Other refl refl (none k)))))))
  where
    P : Answer → Type 0
    P a = OpeningStep side h (calls.PollOpening id) k a.reply

    left : ℕ → List ℕ
    left s = head_left h id (stream_header id s)

-- the next stream of a kind isn't there
next-new : (side : Side) (h : History) (kind : ℕ) → kind < 4 → exists side h (next_id side h kind) ≡ false
next-new side h kind l = by (exists side h (next_id side h kind)) refl
  where
    by : (b : Bool) → exists side h (next_id side h kind) ≡ b → b ≡ false
    by false e = refl
    by true e =
        let n = nth-of (stream_count side h kind) kind l in
        let a : stream_count side h kind < stream_count side h kind = rw (n.0, n.1) at (ltb-true (next_id side h kind / 4) (stream_count side h (next_id side h kind % 4)) e) in
        absurd (omega (arith, a))

-- a call that begins an opening of the kind
module _ (side : Side) (h : History) (k kind : ℕ) (l : kind < 4) (c : Call) (name : Option ℕ) (mine : call_session h c ≡ unwrap_or (named h name) 0)
    (begins : (id : ℕ) → opened_by k (turns.Call c) (replies.Opening id) ≡ (if id == k then Some name else None)) (ends : (r : Reply) → opening_ends k (turns.Call c) r ≡ false)
    (others : (r : Reply) → is_silent r ≡ true → opened_by k (turns.Call c) r ≡ None) where
  abbrev P : Answer → Type 0
  P a = OpeningStep side h c k a.reply

  silent : (r : Reply) → is_silent r ≡ true → OpeningStep side h c k r
  silent r u = Other (others r u) (ends r) (quiet-one k (record_of side h c r) (silent-tells-not side h c r u))

  started : (s : ℕ) → named h name ≡ Some s → (b : Bool) → (next_id side h kind == k) ≡ b → OpeningStep side h c k (replies.Opening (next_id side h kind))
  started s q true e =
      let same : next_id side h kind ≡ k = eqb-true (next_id side h kind) k e in
      Opens name s (begins (next_id side h kind) ∙ ap (λ (b : Bool). if b then Some name else None) e) (ends _) q (ap (exists side h) (sym same) ∙ next-new side h kind l)
      (ap (λ (id : ℕ). OpeningStarted id (call_session h c)) same ∙ ap (OpeningStarted k) (mine ∙ ap (λ (o : Option ℕ). unwrap_or o 0) q))
  started s q false e =
      Other (begins (next_id side h kind) ∙ ap (λ (b : Bool). if b then Some name else None) e) (ends _)
      (record { ends = refl; starts = e; opened = ap (λ (b : Bool). if b then Some (call_session h c) else None) e })

  open-step : OpeningStep side h c k (first_row (in_session (named h name) (open_stream side h kind))).reply
  open-step =
      (by-session P (named h name) (open_stream side h kind) (silent replies.NoSession refl)
      (λ s q. by-row P (is_gone h (findings side h) s) (replies.Failed (session_error side h s)) [] _ (λ i. silent _ refl)
      (λ i. by-row P (not (is_open h)) (replies.Failed (transport_error h)) [] _ (λ j. silent _ refl)
      (λ j. by-row P (may_open side h kind) (replies.Opening (next_id side h kind)) _ [] (λ m. started s q (next_id side h kind == k) refl) (λ m. no-row P (silent replies.Pending refl)))))).first

opens-none : (k : ℕ) (c : Call) (r : Reply) → is_silent r ≡ true → opened_by k (turns.Call c) r ≡ None
opens-none k (calls.OpenUni name) (replies.Opening id) u = absurd (cc u)
opens-none k (calls.OpenBi name) (replies.Opening id) u = absurd (cc u)
opens-none k c r u = refl

-- a call that accepts a stream of the peer
uni-is : (r : Reply) → is_uni r ≡ true → (id : ℕ) × (r ≡ replies.Uni id)
uni-is (replies.Uni id) u = (id, refl)
uni-is r u = absurd (cc u)

bi-is : (r : Reply) → is_bi r ≡ true → (id : ℕ) × (r ≡ replies.Bi id)
bi-is (replies.Bi id) u = (id, refl)
bi-is r u = absurd (cc u)

given-step : (side : Side) (h : History) (c : Call) (k id : ℕ) (r : Reply) → record_of side h c r ≡ StreamAccepted id (call_session h c) → opened_by k (turns.Call c) r ≡ None
    → opening_ends k (turns.Call c) r ≡ false
    → is_peers side id ≡ true → OpeningStep side h c k r
given-step side h c k id r is o e p = by (id == k) refl
  where
    by : (b : Bool) → (id == k) ≡ b → OpeningStep side h c k r
    by true q = Gives o e (ap (ends_opening k) is ∙ q) (ap (fails_opening k) is) (ap (is_peers side) (sym (eqb-true id k q)) ∙ p)
    by false q = Other o e (record { ends = ap (ends_opening k) is ∙ q; starts = ap (starts_opening k) is; opened = ap (opened_for k) is })

-- a call that accepts says nothing of the stream, or gives one
accept-step : (side : Side) (h : History) (k : ℕ) (c : Call) (test : Reply → Bool) (r : Reply) → opening_ends k (turns.Call c) r ≡ false → (is_usual r || test r) ≡ true
    → (test r ≡ true → OpeningStep side h c k r)
    → OpeningStep side h c k r
accept-step side h k c test r ends s given = by (is_usual r) refl s
  where
    by : (u : Bool) → is_usual r ≡ u → (u || test r) ≡ true → OpeningStep side h c k r
    by true q i = Other (opens-none k c r (usual-silent r q)) ends (quiet-one k (record_of side h c r) (silent-tells-not side h c r (usual-silent r q)))
    by false q i = given i

uni-step : (side : Side) (h : History) (k : ℕ) (name : Option ℕ) (r : Reply) → (next side h (turns.Call (calls.AcceptUni name))).reply ≡ r → suits (calls.AcceptUni name) r ≡ true
    → OpeningStep side h (calls.AcceptUni name) k r
uni-step side h k name r e s = accept-step side h k (calls.AcceptUni name) is_uni r refl s (λ i. let g = uni-is r i in
    subst (OpeningStep side h (calls.AcceptUni name) k) (sym g.1)
    (given-step side h (calls.AcceptUni name) k g.0 (replies.Uni g.0) refl refl refl (unis-peers side g.0 (uni-accepted side h name g.0 (e ∙ g.1)).2.peers)))

bi-step : (side : Side) (h : History) (k : ℕ) (name : Option ℕ) (r : Reply) → (next side h (turns.Call (calls.AcceptBi name))).reply ≡ r → suits (calls.AcceptBi name) r ≡ true
    → OpeningStep side h (calls.AcceptBi name) k r
bi-step side h k name r e s = accept-step side h k (calls.AcceptBi name) is_bi r refl s (λ i. let g = bi-is r i in
    subst (OpeningStep side h (calls.AcceptBi name) k) (sym g.1)
    (given-step side h (calls.AcceptBi name) k g.0 (replies.Bi g.0) refl refl refl (bis-peers side g.0 (bi-accepted side h name g.0 (e ∙ g.1)).2.peers)))

-- every other call
silent-step : (side : Side) (h : History) (k : ℕ) (c : Call) (r : Reply) → opening_ends k (turns.Call c) r ≡ false → is_silent r ≡ true → OpeningStep side h c k r
silent-step side h k c r e u = Other (opens-none k c r u) e (quiet-one k (record_of side h c r) (silent-tells-not side h c r u))

opening-step : (side : Side) (h : History) (k : ℕ) (c : Call) → OpeningStep side h c k (first_row (rows_of side h c)).reply
opening-step side h k (calls.PollOpening id) =
    (by-session (λ (a : Answer). OpeningStep side h (calls.PollOpening id) k a.reply) (named h None) (λ (s : ℕ). opening_for side h id (being_opened h id)) (Other refl refl (none k))
    (λ s q. poll-step side h k id (being_opened h id))).first
opening-step side h k (calls.OpenUni name) =
    open-step side h k (local_uni side) (local-uni-small side) (calls.OpenUni name) name refl (λ id. refl) (λ r. refl) (λ r u. opens-none k (calls.OpenUni name) r u)
opening-step side h k (calls.OpenBi name) =
    open-step side h k (local_bi side) (local-bi-small side) (calls.OpenBi name) name refl (λ id. refl) (λ r. refl) (λ r u. opens-none k (calls.OpenBi name) r u)
opening-step side h k (calls.AcceptUni name) = uni-step side h k name (first_row (rows_of side h (calls.AcceptUni name))).reply refl (suits-own side h (calls.AcceptUni name))
opening-step side h k (calls.AcceptBi name) = bi-step side h k name (first_row (rows_of side h (calls.AcceptBi name))).reply refl (suits-own side h (calls.AcceptBi name))
opening-step side h k (calls.Read id size) =
    silent-step side h k (calls.Read id size) _ refl (either-silent _ (gives_bytes (first_row (rows_of side h (calls.Read id size))).reply) (suits-own side h (calls.Read id size)) (bytes-silent _))
opening-step side h k (calls.ReadExact id size) =
    silent-step side h k (calls.ReadExact id size) _ refl
    (either-silent _ (gives_exact (first_row (rows_of side h (calls.ReadExact id size))).reply) (suits-own side h (calls.ReadExact id size)) (exact-silent _))
opening-step side h k c = silent-step side h k c (first_row (rows_of side h c)).reply refl (usual-silent (first_row (rows_of side h c)).reply (suits-own side h c))

-- ---- a stream that isn't there

-- a stream whose opening a call ends was being opened
ends-begun : (side : Side) (h : History) (k : ℕ) (c : Call) → opening_ends k (turns.Call c) (first_row (rows_of side h c)).reply ≡ true → is_some (being_opened h k) ≡ true
ends-begun side h k (calls.PollOpening id) e =
    (by-session P (named h None) (λ (s : ℕ). opening_for side h id (being_opened h id)) (λ x. absurd (cc x)) (λ s q. record { first = of (being_opened h id) refl })).first e
  where
    P : Answer → Type 0
    P a = opening_ends k (turns.Call (calls.PollOpening id)) a.reply ≡ true → is_some (being_opened h k) ≡ true

    names : (r : Reply) → opening_ends k (turns.Call (calls.PollOpening id)) r ≡ true → (id == k) ≡ true
    names replies.Pending x = absurd (cc x)
    names replies.NoStream x = absurd (cc x)
    names replies.NoSession x = absurd (cc x)
    names r x = x

    of : (x : Option (Option ℕ)) → being_opened h id ≡ x → P (first_row (opening_for side h id x))
    of None q y = absurd (cc y)
    of (Some name) q y = ap (λ (j : ℕ). is_some (being_opened h j)) (sym (eqb-true id k (names (first_row (opening_for side h id (Some name))).reply y))) ∙ ap is_some q
ends-begun side h k c e = absurd (cc e)

-- it is there
begun-there : (side : Side) (h : History) → IsHistory side h → (k : ℕ) → is_some (being_opened h k) ≡ true → exists side h k ≡ true
begun-there side h hist k e = by (first_of (λ (p : Pair). opened_by k p.turn p.answer.reply) h) refl (being-begun h k e)
  where
    by : (o : Option (Option ℕ)) → first_of (λ (p : Pair). opened_by k p.turn p.answer.reply) h ≡ o → is_some o ≡ true → exists side h k ≡ true
    by None q i = absurd (cc i)
    by (Some name) q i = (was-opened side h hist k name q).there

ends-there : (side : Side) (h : History) → IsHistory side h → (k : ℕ) → list_any (λ (p : Pair). opening_ends k p.turn p.answer.reply) h ≡ true → exists side h k ≡ true
ends-there side [] hist k e = absurd (cc e)
ends-there side (p ∷ h) hist k e = exists-stays side p h k (by (opening_ends k p.turn p.answer.reply) refl e (ends-there side h hist.2 k))
  where
    here : (turn : Turn) → opening_ends k turn (next side h turn).reply ≡ true → exists side h k ≡ true
    here (turns.Call c) q = begun-there side h hist.2 k (ends-begun side h k c q)
    here turn q = absurd (cc q)

    by : (b : Bool) → opening_ends k p.turn p.answer.reply ≡ b → (b || list_any (λ (q : Pair). opening_ends k q.turn q.answer.reply) h) ≡ true
        → (list_any (λ (q : Pair). opening_ends k q.turn q.answer.reply) h ≡ true → exists side h k ≡ true) → exists side h k ≡ true
    by true q i again = here p.turn (ap (λ (a : Answer). opening_ends k p.turn a.reply) (sym hist.1) ∙ q)
    by false q i again = again i

unless : (b : Bool) → (b ≡ true → ⊥) → b ≡ false
unless true f = absurd (f refl)
unless false f = refl

none-ended : (side : Side) (h : History) → IsHistory side h → (k : ℕ) → exists side h k ≡ false → list_any (λ (p : Pair). opening_ends k p.turn p.answer.reply) h ≡ false
none-ended side h hist k e = unless _ (λ q. clash (exists side h k) (ends-there side h hist k q) e)

-- where it isn't the peer's, it wasn't handed out
none-handed : (side : Side) (h : History) → IsHistory side h → (k : ℕ) → exists side h k ≡ false → is_peers side k ≡ false → is_handed_out h k ≡ false
none-handed side h hist k e n = unless _ (λ q. by (handed-by side h hist k q))
  where
    there : (o : Option (Option ℕ)) → first_of (λ (p : Pair). opened_by k p.turn p.answer.reply) h ≡ o → is_some o ≡ true → ⊥
    there None q i = cc i
    there (Some name) q i = clash (exists side h k) (was-opened side h hist k name q).there e

    by : HandedBy side h k → ⊥
    by (ByAccept s a) = clash (is_peers side k) (admitted-peers side h s k a) n
    by (ByOpening o) = there (first_of (λ (p : Pair). opened_by k p.turn p.answer.reply) h) refl o

-- ---- the opening after a call

and-not : (b : Bool) → (b && not true) ≡ false
and-not true = refl
and-not false = refl

module _ (side : Side) (h : History) (hist : IsHistory side h) (log : Log) (c : Call) (lawful : is_lawful side h (turns.Call c) ≡ true) (k : ℕ)
    (accepted : list_any (accepts_stream k) (calls_of log) ≡ is_handed_out h k) (unfailed : exists side h k ≡ false → list_any (fails_opening k) (calls_of log) ≡ false) where
  abbrev after : History
  after = step side h (turns.Call c)

  abbrev reply : Reply
  reply = (first_row (rows_of side h c)).reply

  abbrev left : CallRecord
  left = record_of side h c reply

  -- an ended one is none
  ended : ends_opening k left ≡ true → opening-of k (left ∷ calls_of log) ≡ None
  ended e = rw e (ap (λ (b : Bool). if b then newest (opened_for k) (left ∷ calls_of log) else None) (and-not (starts_opening k left || list_any (starts_opening k) (calls_of log))))

  -- one that the call doesn't speak of stays
  same-history : opened_by k (turns.Call c) reply ≡ None → opening_ends k (turns.Call c) reply ≡ false → being_opened after k ≡ being_opened h k
  same-history o e = rw (o, e) refl

  same-records : Quiet k left → opening-of k (left ∷ calls_of log) ≡ opening-of k (calls_of log)
  same-records q = rw (q.ends, q.starts, q.opened) refl

  -- one that begins wasn't ended before
  begun-records : (s : ℕ) → left ≡ OpeningStarted k s → list_any (ends_opening k) (calls_of log) ≡ false → opening-of k (left ∷ calls_of log) ≡ Some s
  begun-records s e n = rw (e, n, eq-eqb k k refl) refl

  pub opening-next : OpeningAgrees h log k → (log2 : Log) → opening-of k (calls_of log2) ≡ opening-of k (left ∷ calls_of log) → OpeningAgrees after log2 k
  opening-next agrees log2 same = by (opening-step side h k c)
    where
      begun : (name : Option ℕ) → opened_by k (turns.Call c) reply ≡ Some name → first_of (λ (p : Pair). opened_by k p.turn p.answer.reply) after ≡ Some name
      begun name o = rw o refl

      none-behind : (name : Option ℕ) → opened_by k (turns.Call c) reply ≡ Some name → exists side h k ≡ false → list_any (ends_opening k) (calls_of log) ≡ false
      none-behind name o f =
          let local : is_peers side k ≡ false = opened-local side after (lawful, refl, hist) k (ap is_some (begun name o)) in
          ends-apart k (calls_of log) ∙ rw (unfailed f, accepted) (none-handed side h hist k f local)

      kept : OpeningAgrees h log k → opened_by k (turns.Call c) reply ≡ None → opening_ends k (turns.Call c) reply ≡ false → Quiet k left → OpeningAgrees after log2 k
      kept (NotOpening b o) x y q = NotOpening (same-history x y ∙ b) (same ∙ same-records q ∙ o)
      kept (IsOpening name s b n o) x y q =
          IsOpening name s (same-history x y ∙ b) (named-stays (record { turn = turns.Call c; answer = next side h (turns.Call c) }) h name s n) (same ∙ same-records q ∙ o)

      given : OpeningAgrees h log k → opened_by k (turns.Call c) reply ≡ None → opening_ends k (turns.Call c) reply ≡ false → ends_opening k left ≡ true → is_peers side k ≡ true
          → OpeningAgrees after log2 k
      given (NotOpening b o) x y e p = NotOpening (same-history x y ∙ b) (same ∙ ended e)
      given (IsOpening name s b n o) x y e p = absurd (clash (is_peers side k) p (opened-local side h hist k (being-begun h k (ap is_some b))))

      by : OpeningStep side h c k reply → OpeningAgrees after log2 k
      by (Opens name s o e n f r) =
          IsOpening name s (rw (e, none-ended side h hist k f, o) refl) (named-stays (record { turn = turns.Call c; answer = next side h (turns.Call c) }) h name s n)
          (same ∙ begun-records s r (none-behind name o f))
      by (Ends e f) = NotOpening (rw e refl) (same ∙ ended f)
      by (Gives o e f g p) = given agrees o e f p
      by (Other o e q) = kept agrees o e q

  -- no opening of a stream that isn't there failed
  pub unfailed-next : exists side after k ≡ false → list_any (fails_opening k) (left ∷ calls_of log) ≡ false
  unfailed-next e = by (opening-step side h k c)
    where
      before : exists side h k ≡ false
      before = unless _ (λ q. clash (exists side after k) (exists-stays side (record { turn = turns.Call c; answer = next side h (turns.Call c) }) h k q) e)

      by : OpeningStep side h c k reply → (fails_opening k left || list_any (fails_opening k) (calls_of log)) ≡ false
      by (Opens name s o x n f r) = rw (r, unfailed before) refl
      by (Ends x f) = absurd (clash (exists side h k) (begun-there side h hist k (ends-begun side h k c x)) before)
      by (Gives o x f g p) = rw (g, unfailed before) refl
      by (Other o x q) = rw (fails-ends k left q.ends, unfailed before) refl
