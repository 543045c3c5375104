-- How many steps a turn counts at most, by the pieces of which a byte is unread as it begins: the streams whose header is read are
-- different ones, so that of all pieces each counts twice at most; and a piece that comes is fed to two readers at most.
use Rattle.std.proofs.Common.{◌*◌, ◌+◌, ◌-◌, ◌≡◌, ◌≤◌, ◌∙◌, ◌++◌, ◌∷◌, Bool, List, None, Option, Some, [], ap, arith, false, length, map, refl, suc, sym, true, zero, ℕ}
use Rattle.std.proofs.lemmas.Bool.Decides.{nat_tests}
use Rattle.std.specs.Prelude.{◌&&◌, ◌==◌, ◌||◌, IsTrue, if◌then◌else◌, is_none}
use Rattle.wt_driver_laws.proofs.PieceCounts.{pieces_at, turn-adds}
use Rattle.wt_driver_laws.specs.Calling.{Always}
use Rattle.wt_driver_laws.specs.Driving.{pieces_in}
use Rattle.wt_follows.proofs.EventFollows.{event-follows, queued-is}
use Rattle.wt_follows.proofs.Looked.{looked-at}
use Rattle.wt_follows.specs.Roles.{AreDistinct, is_in}
use Rattle.wt_follows.specs.Tie.{Amid, ArrivingFollows, goes}
use Rattle.wt_kept.specs.Arriving.{arrived_count, fresh_slots, peer_kind, slots_of}
use Rattle.wt_kept.specs.Calling.{with_datagram_queued, with_turn}
use Rattle.wt_kept.specs.Counting.{header_pieces, slot_pieces, steps_left, unless_failed, unread_pieces, waiting_pieces}
use Rattle.wt_kept.specs.Kept.{ArrivingNow, DriverNow}
use Rattle.wt_kept.specs.Readers.{ReaderRules, Slot, bi_rules, uni_rules}
use Rattle.wt_transport.proofs.Refining.{refined_open}
use Rattle.wt_transport.specs.State.{TransportState}
use Rattle.wt_transport.specs.Step.{after_give_up, fits_now}
use Rattle.wt_transport.specs.StreamState.{Stream, give_up, has_stream, piece_count, stream_at}
use Rattle.wt_peer_streams.proofs.Losing.{change-loses, changed-count, not-changed, other}
use Rattle.wt_sessions.specs.DriverState.{DriverState, state_of}
use Rattle.wt_turn.specs.Unread.{ReadPosition}
use Rattle.wt_turn.specs.Log.{Event, Log, is_open, with_actions}
use Rattle.wt_turn.specs.Turns.{event_of}
use Rattle.wt_turn.specs.declared.action.Action.{Action}
use Rattle.wt_turn.specs.declared.turn.Turn.{Turn}
use Rattle.wt_turn.specs.declared.turn.Turn.TheVariants as turns
use Rattle.wt_wire.specs.declared.error.ErrorCode.{ErrorCode}
use Rattle.wt_wire.specs.declared.side.Side.{Side}

-- ---- streams by their ids

-- of how many pieces of these streams a byte is unread
abbrev pieces_of_ids : TransportState → List ℕ → ℕ
pieces_of_ids t [] = 0
pieces_of_ids t (k ∷ ks) = unread_pieces t k + pieces_of_ids t ks

-- nothing of a stream that isn't there is given up
not-there : (t : TransportState) (k j : ℕ) → has_stream t.streams k ≡ false → unread_pieces t j ≡ unread_pieces (after_give_up t k) j
not-there t k j none = ap (λ (streams : List (List Stream)). unread_pieces (record t { streams = streams }) j) (sym (not-changed t.streams k give_up none))

-- a stream is given up: another one stays, and its pieces are gone of all
given-up-other : (t : TransportState) (k j : ℕ) → (k == j) ≡ false → unread_pieces t j ≤ unread_pieces (after_give_up t k) j
given-up-other t k j apart = by (has_stream t.streams k) refl
  where
    by : (b : Bool) → has_stream t.streams k ≡ b → unread_pieces t j ≤ unread_pieces (after_give_up t k) j
    by true has = let e = other t k give_up (λ s. omega arith) j apart has in omega (arith, e)
    by false none = let e = not-there t k j none in omega (arith, e)

given-up-all : (t : TransportState) (k : ℕ) → piece_count (after_give_up t k).streams + unread_pieces t k ≤ piece_count t.streams
given-up-all t k = by (has_stream t.streams k) refl
  where
    by : (b : Bool) → has_stream t.streams k ≡ b → piece_count (after_give_up t k).streams + unread_pieces t k ≤ piece_count t.streams
    by true has =
        let a = changed-count t k give_up has in
        let e : unread_pieces t k ≡ length (stream_at t.streams k).unread = (λ i. length (if has i then (stream_at t.streams k).unread else [])) in
        omega (arith, a, e)
    by false none =
        let l = change-loses t k give_up (λ s. omega arith) in
        let x = l.lost k in
        let y = l.fewer k in
        let e : unread_pieces t k ≡ 0 = (λ i. length (if none i then (stream_at t.streams k).unread else [])) in
        omega (arith, x, y, e)

neither : (a b : Bool) → (a || b) ≡ false → (a ≡ false) × (b ≡ false)
neither false false e = (refl, refl)
neither false true e = absurd (cc)
neither true b e = absurd (cc)

flipped : (j k : ℕ) → (j == k) ≡ false → (k == j) ≡ false
flipped j k e = by (k == j) refl
  where
    by : (b : Bool) → (k == j) ≡ b → b ≡ false
    by false f = refl
    by true f = absurd (grind (arith, nat_tests, e, f))

others-stay : (t : TransportState) (k : ℕ) (ks : List ℕ) → is_in k ks ≡ false → pieces_of_ids t ks ≤ pieces_of_ids (after_give_up t k) ks
others-stay t k [] e = omega arith
others-stay t k (j ∷ ks) e =
    let parts = neither (j == k) (is_in k ks) e in
    let a = given-up-other t k j (flipped j k parts.0) in
    let b = others-stay t k ks parts.1 in
    omega (arith, a, b)

first-in : (k : ℕ) (ks : List ℕ) → is_in k (k ∷ ks) ≡ true
first-in k ks = by (k == k) refl
  where
    by : (b : Bool) → (k == k) ≡ b → (b || is_in k ks) ≡ true
    by true e = refl
    by false e = absurd (grind (arith, nat_tests, e))

later-in : (j k : ℕ) (ks : List ℕ) → is_in j ks ≡ true → is_in j (k ∷ ks) ≡ true
later-in j k ks e = by (k == j)
  where
    by : (b : Bool) → (b || is_in j ks) ≡ true
    by true = refl
    by false = e

-- no id stands there twice: each piece counts once
ids-within : (ks : List ℕ) (t : TransportState) → AreDistinct ks → pieces_of_ids t ks ≤ piece_count t.streams
ids-within [] t d = omega arith
ids-within (k ∷ ks) t d =
    let a = given-up-all t k in
    let b = others-stay t k ks d.0 in
    let c = ids-within ks (after_give_up t k) d.1 in
    omega (arith, a, b, c)

-- nor in both
both-within : (us bs : List ℕ) (t : TransportState) → AreDistinct us → AreDistinct bs → ((k : ℕ) → is_in k us ≡ true → is_in k bs ≡ false) → pieces_of_ids t us + pieces_of_ids t bs ≤ piece_count t.streams
both-within [] bs t one two apart = let x = ids-within bs t two in omega (arith, x)
both-within (k ∷ us) bs t one two apart =
    let a = given-up-all t k in
    let b = others-stay t k us one.0 in
    let c = others-stay t k bs (apart k (first-in k us)) in
    let e = both-within us bs (after_give_up t k) one.1 two (λ j h. apart j (later-in j k us h)) in
    omega (arith, a, b, c, e)

-- ---- the streams whose header is read

module _ {V O : Type 0} (w : ReaderRules V O) (t : TransportState) where
  fresh-pieces : (kind n count : ℕ) → pieces_of_ids t (map (λ (x : Slot V). x.id) (fresh_slots w kind n count)) ≡ waiting_pieces t kind n count
  fresh-pieces kind n zero = refl
  fresh-pieces kind n (suc count) = ap (λ m. unread_pieces t (4 * n + kind) + m) (fresh-pieces kind (suc n) count)

  all-pieces : (xs ys : List (Slot V)) → pieces_of_ids t (map (λ (x : Slot V). x.id) (xs ++ ys)) ≡ slot_pieces t xs + pieces_of_ids t (map (λ (x : Slot V). x.id) ys)
  all-pieces [] ys = omega arith
  all-pieces (x ∷ xs) ys = let e = all-pieces xs ys in omega (arith, e)

  -- by their ids
  header-ids : (a : ArrivingNow V) (ids : List ℕ) → map (λ (x : Slot V). x.id) (slots_of w t a) ≡ ids → header_pieces t a ≡ pieces_of_ids t ids
  header-ids a ids same =
      let kind = peer_kind t.side a.bidirectional in
      let count = arrived_count t a - a.next in
      let x = all-pieces a.reading (fresh_slots w kind a.next count) in
      let y = fresh-pieces kind a.next count in
      let z = ap (pieces_of_ids t) same in
      omega (arith, x, y, z)

-- ---- a driver that follows a log

pub left-within : (side : Side) (d : DriverNow) (log : Log) (s : DriverState) (sent : List Action) (position : ℕ → ReadPosition) (uncollected : List Action) → Amid side d log s sent position uncollected
    → steps_left d ≤ 2 * piece_count d.work.transport.streams
left-within side d log s sent position uncollected a = by d.work.transport.is_open d.work.dispatched.fault refl refl
  where
    t : TransportState
    t = d.work.transport

    going : t.is_open ≡ true → d.work.dispatched.fault ≡ None → goes s ≡ true
    going open_ none = λ i. (a.work.is_open_same ∙ (sym (refined_open side t (with_actions sent log) position uncollected a.work.transport) ∙ open_)) i && is_none ((sym a.work.keeps.fault ∙ none) i)

    by : (b : Bool) (o : Option ErrorCode) → t.is_open ≡ b → d.work.dispatched.fault ≡ o → (if b then unless_failed o (header_pieces t d.unis + (header_pieces t d.bis + piece_count t.streams)) else 0) ≤ 2 * piece_count t.streams
    by false o open_ fault = omega arith
    by true (Some code) open_ fault = omega arith
    by true None open_ fault =
        let us : ArrivingFollows _ _ _ _ _ _ = a.unis (going open_ fault) in
        let bs : ArrivingFollows _ _ _ _ _ _ = a.bis (going open_ fault) in
        let x = header-ids uni_rules t d.unis s.unis us.same_ids in
        let y = header-ids bi_rules t d.bis s.bis bs.same_ids in
        let z = both-within s.unis s.bis t a.work.roles.unis a.work.roles.bis a.work.roles.kinds in
        omega (arith, x, y, z)

-- ---- turns, as code counts them

-- a piece was fed as it came, to two readers at most
pub piece_steps : (d : DriverNow) (before after : ℕ) → after ≤ before + steps_left d + 2 → Always d (λ side log collected. after ≤ before + 2 * (piece_count d.work.transport.streams + 1))
piece_steps d before after counted side log collected f reached =
    let x = left-within side d log (state_of side log) [] f.kept.position _ f.kept.amid in
    omega (arith, x, counted)

no-call : (t : TransportState) (turn : Turn) → IsTrue (fits_now t turn) → ((id : ℕ) (piece : List ℕ) → turn ≡ turns.Bytes id piece → ⊥) → (e : Event) × (event_of turn ≡ Some e)
no-call t (turns.Bytes id piece) fits no_piece = absurd (no_piece id piece refl)
no-call t (turns.Call call) fits no_piece = absurd (cc)
no-call t (turns.Connected uni bi credit datagrams) fits no_piece = (_, refl)
no-call t turns.PeerUni fits no_piece = (_, refl)
no-call t turns.PeerBi fits no_piece = (_, refl)
no-call t (turns.End id) fits no_piece = (_, refl)
no-call t (turns.Reset id code) fits no_piece = (_, refl)
no-call t (turns.Stop id code) fits no_piece = (_, refl)
no-call t (turns.Acked id) fits no_piece = (_, refl)
no-call t (turns.Datagram piece) fits no_piece = (_, refl)
no-call t (turns.MaxUni total) fits no_piece = (_, refl)
no-call t (turns.MaxBi total) fits no_piece = (_, refl)
no-call t (turns.MaxData id total) fits no_piece = (_, refl)
no-call t (turns.DatagramLimit fact) fits no_piece = (_, refl)
no-call t (turns.Loss reason) fits no_piece = (_, refl)

no-piece-in : (turn : Turn) → ((id : ℕ) (piece : List ℕ) → turn ≡ turns.Bytes id piece → ⊥) → pieces_in turn ≡ 0
no-piece-in (turns.Bytes id piece) no_piece = absurd (no_piece id piece refl)
no-piece-in turn no_piece = refl

-- another turn was taken, and its moment was worked
pub event_steps : (turn : Turn) (d taken : DriverNow) (before after : ℕ) → d.work.transport.is_open ≡ true → IsTrue (fits_now d.work.transport turn) → ((id : ℕ) (piece : List ℕ) → turn ≡ turns.Bytes id piece → ⊥)
    → taken ≡ with_datagram_queued turn (with_turn turn d) → after ≤ before + steps_left taken → Always d (λ side log collected. after ≤ before + 2 * (piece_count d.work.transport.streams + 1))
event_steps turn d taken before after open_ fits no_piece is counted side log collected f reached =
    let event = no-call d.work.transport turn fits no_piece in
    let opened : is_open log ≡ true = sym (refined_open side d.work.transport log f.kept.position _ f.kept.amid.work.transport) ∙ open_ in
    let amid = event-follows side d log f.kept.position _ turn f.kept.amid opened fits (looked-at side log) event.0 event.1 in
    let x = left-within side (with_datagram_queued turn (with_turn turn d)) _ _ [] f.kept.position _ amid in
    let same = ap steps_left is in
    let queued = ap (λ (e : DriverNow). pieces_at e.work.transport) (queued-is turn (with_turn turn d)) in
    let more = turn-adds d.work.transport turn in
    let none = no-piece-in turn no_piece in
    omega (arith, x, same, queued, more, none, counted)

-- nothing was fed
pub still_steps : (d : DriverNow) (steps : ℕ) → Always d (λ side log collected. steps ≤ steps + 2 * (piece_count d.work.transport.streams + 1))
still_steps d steps side log collected f reached = omega arith
