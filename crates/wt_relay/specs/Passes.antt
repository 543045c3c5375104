-- The passes that a relay makes after a turn, each over all connections, sessions and sources (this repository's own).
use Rattle.std.specs.Prelude.{ℕ, ◌==◌, ◌+◌, ◌++◌, ◌-◌, ◌∷◌, ◌^◌, ◌||◌, Bool, List, None, Option, Some, [], false, if◌then◌else◌, length, map, not, slice_get, suc, true, zero}
use Rattle.std.specs.List.{fold, list_any}
use Rattle.wt_endpoint.specs.Endpoints.{endpoint_after, may_come_next}
use Rattle.wt_endpoint.specs.declared.turn.EndpointTurn.TheVariants as events
use Rattle.wt_meaning.specs.Meaning.{answer_to}
use Rattle.wt_turn.specs.declared.answer.Answer.{Answer}
use Rattle.wt_turn.specs.declared.call.Call.{Call}
use Rattle.wt_turn.specs.declared.call.Call.TheVariants as calls
use Rattle.wt_turn.specs.declared.reply.Reply.{Reply}
use Rattle.wt_turn.specs.declared.reply.Reply.TheVariants as replies
use Rattle.wt_turn.specs.declared.stream_error.StreamReadError.TheVariants as reads
use Rattle.wt_turn.specs.declared.turn.Turn.{Turn}
use Rattle.wt_turn.specs.declared.turn.Turn.TheVariants as turns
use Rattle.wt_wire.specs.declared.side.Side.TheVariants.{Server}
use Rattle.wt_relay.specs.declared.source.Progress.{Progress}
use Rattle.wt_relay.specs.declared.source.Progress.TheVariants.{Behind, Level, Opening, Over}
use Rattle.wt_relay.specs.Calls.{has_none, is_pending, takes, told}
use Rattle.wt_relay.specs.Kept.{CopyNow, RelayNow, SourceNow, history, is_asked, members, no_relay, others_of}
use Rattle.wt_relay.specs.Progress.{holds, if_level, progress_at, rest_of}

-- ---- a call

-- what a call is answered
abbrev pub answer_now : RelayNow → ℕ → Call → Answer
answer_now r n c = answer_to Server (history r n) (turns.Call c)

-- after a turn of a connection that had this answer
abbrev pub with_turn : RelayNow → ℕ → Turn → Answer → RelayNow
with_turn r n turn a = record r {
  turns = r.turns ++ events.Connection n turn ∷ [];
  endpoint = endpoint_after Server r.endpoint (events.Connection n turn);
  told = r.told ++ told n a;
}

-- after a call that had this answer
abbrev pub called : RelayNow → ℕ → Call → Answer → RelayNow
called r n c a = with_turn r n (turns.Call c) a

-- the call may come next
abbrev pub may_be_called : RelayNow → ℕ → Call → Bool
may_be_called r n c = may_come_next Server r.endpoint (events.Connection n (turns.Call c))

-- a relay in a pass, and whether a call of it was answered otherwise than Pending
pub record InPass : Type 0 where
  pub now : RelayNow
  pub moved : Bool

-- in a pass, after a call that had this answer
abbrev pub asked : InPass → ℕ → Call → Answer → InPass
asked p n c a = record { now = called p.now n c a; moved = p.moved || not (is_pending a.reply) }

-- the numbers below this one
abbrev pub below : ℕ → List ℕ
below zero = []
below (suc n) = below n ++ n ∷ []

-- more than the rounds that a loop of a pass makes, and than the passes after a turn
unfoldable pub enough : ℕ
enough = 2 ^ 64 - 1

-- ---- first: requests

-- the call of a handshake that may come now
abbrev pub next_shake : RelayNow → ℕ → Option Call
next_shake r n =
    if may_be_called r n calls.Incoming then Some calls.Incoming
    else (if may_be_called r n (calls.Accept []) then Some (calls.Accept [])
    else (if may_be_called r n calls.Handshake then Some calls.Handshake else None))

-- the reply is Pending or Failed
abbrev pub ends_shakes : Reply → Bool
ends_shakes replies.Pending = true
ends_shakes (replies.Failed e) = true
ends_shakes _ = false

-- a connection's requests are accepted, until a call answers Pending or Failed, at most so many calls
abbrev pub shake : ℕ → InPass → ℕ → InPass
shake zero p n = p
shake (suc k) p n = elim (next_shake p.now n) [
  | None ↦ p
  | Some c ↦ (let a = answer_now p.now n c in if ends_shakes a.reply then asked p n c a else shake k (asked p n c a) n)
]

-- those of each connection, by number
abbrev pub shake_all : InPass → InPass
shake_all p = fold (shake enough) p (below (length p.now.endpoint.histories))

-- ---- second: new streams

-- the stream that the reply gives
abbrev pub uni_of : Reply → Option ℕ
uni_of (replies.Uni id) = Some id
uni_of _ = None

-- the stream that the reply begins
abbrev pub opening_of : Reply → Option ℕ
opening_of (replies.Opening id) = Some id
opening_of _ = None

-- in a pass, with streams that a session gave or the copies of a source so far
pub record WithStreams : Type 0 where
  pub pass : InPass
  pub given : List ℕ

pub record WithCopies : Type 0 where
  pub pass : InPass
  pub copies : List CopyNow

-- a session's streams are accepted until none is given, at most so many
abbrev pub accept_streams : ℕ → (ℕ × ℕ) → WithStreams → WithStreams
accept_streams zero m w = w
accept_streams (suc k) m w =
    let a = answer_now w.pass.now m.0 (calls.AcceptUni (Some m.1)) in
    let later = asked w.pass m.0 (calls.AcceptUni (Some m.1)) a in
    elim (uni_of a.reply) [
      | None ↦ record { pass = later; given = w.given }
      | Some id ↦ accept_streams k m (record { pass = later; given = w.given ++ id ∷ [] })
    ]

-- a copy that was begun, where it was
abbrev pub begun : ℕ → Option ℕ → List CopyNow
begun n None = []
begun n (Some id) = record { number = n; id = id; progress = Opening } ∷ []

-- a stream is opened on this session
abbrev pub open_on : WithCopies → (ℕ × ℕ) → WithCopies
open_on w m =
    let a = answer_now w.pass.now m.0 (calls.OpenUni (Some m.1)) in
    record { pass = asked w.pass m.0 (calls.OpenUni (Some m.1)) a; copies = w.copies ++ begun m.0 (opening_of a.reply) }

-- with one source more
abbrev pub with_source : InPass → SourceNow → InPass
with_source p source = record p { now = record p.now { sources = p.now.sources ++ source ∷ [] } }

-- a source without copies is stopped
abbrev pub stopped : InPass → ℕ → ℕ → InPass
stopped p n id = let a = answer_now p.now n (calls.StopRecv id 0) in asked p n (calls.StopRecv id 0) a

-- a stream that a session gave is a source, of which a copy is opened on each of these sessions
abbrev pub share_with : List (ℕ × ℕ) → (ℕ × ℕ) → InPass → ℕ → InPass
share_with others m p id =
    let w = fold open_on (record { pass = p; copies = [] }) others in
    let source : SourceNow = record { number = m.0; id = id; others = others; copies = w.copies; piece = []; over = has_none w.copies } in
    with_source (if has_none w.copies then stopped w.pass m.0 id else w.pass) source

abbrev pub share : (ℕ × ℕ) → InPass → ℕ → InPass
share m p id = share_with (others_of p.now m) m p id

-- a session's streams are accepted where it is still asked, and then each is copied
abbrev pub accept_of : InPass → (ℕ × ℕ) → InPass
accept_of p m =
    if is_asked (history p.now m.0) m.1
    then (let w = accept_streams enough m (record { pass = p; given = [] }) in fold (share m) w.pass w.given)
    else p

-- those of each session that is asked, by connection and id
abbrev pub accept_all : InPass → InPass
accept_all p = fold accept_of p (members p.now)

-- ---- third: sources and copies

-- the list with the element at this place changed
abbrev pub changed_at : {A : Type 0} → List A → ℕ → (A → A) → List A
changed_at [] n f = []
changed_at (x ∷ xs) zero f = f x ∷ xs
changed_at (x ∷ xs) (suc n) f = x ∷ changed_at xs n f

abbrev pub with_change : InPass → ℕ → (SourceNow → SourceNow) → InPass
with_change p i f = record p { now = record p.now { sources = changed_at p.now.sources i f } }

-- a copy of a source is so far now
abbrev pub copy_at : InPass → ℕ → ℕ → Progress → InPass
copy_at p i j progress = with_change p i (λ source. record source { copies = changed_at source.copies j (λ c. record c { progress = progress }) })

-- how far a copy is that was being opened, by the reply
abbrev pub after_poll : Reply → Progress
after_poll replies.Pending = Opening
after_poll (replies.SendReady id) = Level
after_poll _ = Over

-- how far a copy is that had accepted n bytes of the piece, by the reply to a write of the others
abbrev pub after_write : List ℕ → ℕ → Reply → Progress
after_write piece n replies.Pending = Behind n
after_write piece n (replies.Written count) = progress_at piece (n + count)
after_write piece n _ = Over

-- the copy's opening goes on
abbrev pub poll_copy : ℕ → CopyNow → InPass → ℕ → InPass
poll_copy i c p j =
    let a = answer_now p.now c.number (calls.PollOpening c.id) in
    copy_at (asked p c.number (calls.PollOpening c.id) a) i j (after_poll a.reply)

-- the copy, which accepted n bytes of the piece, is written the others
abbrev pub write_copy : List ℕ → ℕ → ℕ → CopyNow → InPass → ℕ → InPass
write_copy piece n i c p j =
    let call = calls.Write c.id (rest_of piece (Behind n)) in
    let a = answer_now p.now c.number call in
    copy_at (asked p c.number call a) i j (after_write piece n a.reply)

-- what a step does with a copy that is so far, where there is one
abbrev pub if_copy : (CopyNow → Progress → InPass → ℕ → InPass) → Option CopyNow → InPass → ℕ → InPass
if_copy step None p j = p
if_copy step (Some c) p j = step c c.progress p j

-- what it does with each of these copies, in order
abbrev pub each_of : (CopyNow → Progress → InPass → ℕ → InPass) → List CopyNow → InPass → InPass
each_of step copies p = fold (λ (q : InPass) (j : ℕ). if_copy step (slice_get copies j) q j) p (below (length copies))

-- what it does with each copy of a source
abbrev pub each_copy : (CopyNow → Progress → InPass → ℕ → InPass) → ℕ → InPass → InPass
each_copy step i p = elim (slice_get p.now.sources i) [ None ↦ p | Some source ↦ each_of step source.copies p ]

-- a copy that is being opened is gone on with
abbrev pub poll_if : ℕ → CopyNow → Progress → InPass → ℕ → InPass
poll_if i c Opening p j = poll_copy i c p j
poll_if i c _ p j = p

-- a copy is written what it lacks of the piece
abbrev pub write_if : List ℕ → ℕ → CopyNow → Progress → InPass → ℕ → InPass
write_if piece i c (Behind n) p j = write_copy piece n i c p j
write_if piece i c _ p j = p

-- what ends a copy: a finish, or a reset with this code
abbrev pub ending : ℕ → Option ℕ → Call
ending id None = calls.Finish id
ending id (Some code) = calls.ResetSend id code

abbrev pub end_copy : Option ℕ → ℕ → CopyNow → InPass → ℕ → InPass
end_copy code i c p j = let a = answer_now p.now c.number (ending c.id code) in copy_at (asked p c.number (ending c.id code) a) i j Over

-- a copy that isn't over is ended
abbrev pub end_if : Option ℕ → ℕ → CopyNow → Progress → InPass → ℕ → InPass
end_if code i c Over p j = p
end_if code i c _ p j = end_copy code i c p j

-- the source is asked no more, and each of its copies that isn't over is ended
abbrev pub end_source : Option ℕ → ℕ → InPass → InPass
end_source code i p = each_copy (end_if code i) i (with_change p i (λ source. record source { over = true }))

-- a source of which this piece was read
abbrev pub with_piece : List ℕ → SourceNow → SourceNow
with_piece piece source = record source { piece = piece; copies = map (λ (c : CopyNow). record c { progress = if_level c.progress }) source.copies }

-- a piece was read, and is written to each copy
abbrev pub pass_on : List ℕ → ℕ → InPass → InPass
pass_on piece i p = each_copy (write_if piece i) i (with_change p i (with_piece piece))

-- the code of a stream whose session is gone, 0x170d7b68 (draft-ietf-webtrans-http3, section 8.5)
abbrev pub session_gone : ℕ
session_gone = 386759528

-- what follows the reply to a read: a piece is passed on; an end finishes the copies, a reset resets them with its code, and another
-- error with that of a session that is gone
abbrev pub after_read : Reply → ℕ → InPass → InPass
after_read replies.Pending i p = p
after_read (replies.Read (Some piece)) i p = pass_on piece i p
after_read (replies.Read None) i p = end_source None i p
after_read (replies.ReadFailed (reads.Reset code)) i p = end_source (Some code) i p
after_read _ i p = end_source (Some session_gone) i p

-- a source that no copy holds is read
abbrev pub read_source : ℕ → InPass → SourceNow → InPass
read_source i p source =
    if list_any (λ (c : CopyNow). holds c.progress) source.copies then p
    else (let a = answer_now p.now source.number (calls.Read source.id 4096) in
    after_read a.reply i (asked p source.number (calls.Read source.id 4096) a))

abbrev pub read_at : ℕ → InPass → InPass
read_at i p = elim (slice_get p.now.sources i) [ None ↦ p | Some source ↦ read_source i p source ]

-- a source that is asked: its copies' openings, what they lack, and then the source itself
abbrev pub serve : InPass → ℕ → InPass
serve p i = elim (slice_get p.now.sources i) [
  | None ↦ p
  | Some source ↦ if source.over then p else read_at i (each_copy (write_if source.piece i) i (each_copy (poll_if i) i p))
]

-- each source, in the order of acceptance
abbrev pub serve_all : InPass → InPass
serve_all p = fold serve p (below (length p.now.sources))

-- ---- passes and turns

-- one pass
abbrev pub one_pass : RelayNow → InPass
one_pass r = serve_all (accept_all (shake_all (record { now = r; moved = false })))

-- passes until one has only Pending answers or makes no call, at most so many
abbrev pub passes : ℕ → RelayNow → RelayNow
passes zero r = r
passes (suc k) r = let p = one_pass r in if p.moved then passes k p.now else p.now

-- a connection that is new is accepted
abbrev pub with_accept : RelayNow → RelayNow
with_accept r = record r { turns = r.turns ++ events.Accept ∷ []; endpoint = endpoint_after Server r.endpoint events.Accept }

abbrev pub accepted_if_new : Bool → RelayNow → RelayNow
accepted_if_new new r = if new then with_accept r else r

-- after a transport turn of a connection, and the passes that follow it
abbrev pub after_turn : RelayNow → ℕ → Turn → RelayNow
after_turn r n turn = passes enough (accepted_if_new (n == length r.endpoint.histories) (with_turn r n turn (answer_to Server (history r n) turn)))

-- a relay after the turns that it took, and those that are left, of which the first isn't lawful
pub record RelayRun : Type 0 where
  pub now : RelayNow
  pub left : List (ℕ × Turn)

-- the turns are taken as long as they are lawful
abbrev pub run_from : RelayNow → List (ℕ × Turn) → RelayRun
run_from r [] = record { now = r; left = [] }
run_from r (turn ∷ later) =
    if takes r.endpoint turn.0 turn.1 then run_from (after_turn r turn.0 turn.1) later else record { now = r; left = turn ∷ later }

-- a run of these turns from the start
abbrev pub relay_run : List (ℕ × Turn) → RelayRun
relay_run all = run_from no_relay all
