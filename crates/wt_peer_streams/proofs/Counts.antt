-- The steps of readers, against what they leave unread.
use Rattle.std.proofs.Common.{◌*◌, ◌+◌, ◌-◌, ◌<◌, ◌≡◌, ◌≤◌, ◌∙◌, ◌∷◌, [], Bool, List, None, Option, Some, ap, arith, drop, false, get_or, inl, inr, length, length-drop, min, refl, ◌++◌, set, subst, suc, sym, true, zero, ℕ}
use Rattle.std.proofs.lemmas.Bool.{cases_lt}
use Rattle.std.proofs.lemmas.Bool.Decides.{nat_tests}
use Rattle.std.specs.List.{concat, remove}
use Rattle.std.specs.Prelude.{◌&&◌, ◌==◌, ◌^◌, ◌⊎◌, if◌then◌else◌, nat_lt, not}
use Rattle.wt_kept.specs.Arriving.{arrived_count, peer_kind, with_transport}
use Rattle.wt_kept.specs.Classifying.{classify_now}
use Rattle.wt_kept.specs.Counting.{CountsRead, header_pieces, scan_left, scan_most, slot_pieces, stopped_within, unless_failed, unread_pieces, waiting_pieces}
use Rattle.wt_kept.specs.Kept.{ArrivingNow, WorkNow}
use Rattle.wt_kept.specs.Readers.{ReadOn, Slot, noted_if}
use Rattle.wt_transport.proofs.PieceLaws.{first_within}
use Rattle.wt_transport.specs.Pieces.{first_piece, skip}
use Rattle.wt_transport.specs.State.{TransportState}
use Rattle.wt_transport.specs.Step.{after_consume, count_now, pieces_now, unread_now, with_change}
use Rattle.wt_transport.specs.StreamState.{Stream, consume, has_stream, stream_at, with_changed}
use Rattle.wt_peer_streams.proofs.Consuming.{consumed-here}
use Rattle.wt_peer_streams.proofs.Losing.{Loses, classify-loses, loses-both, skip-fewer}
use Rattle.wt_peer_streams.proofs.Streams.{here-changed, here-has}
use Rattle.wt_proto.specs.declared.verdict.Verdict.{Verdict}
use Rattle.wt_wire.specs.declared.error.ErrorCode.{ErrorCode}
use Rattle.wt_wire.specs.declared.side.StreamEnd.{StreamEnd}

-- ---- one feed

-- what a stream's pieces are, once some bytes of it are consumed
pieces-left : (t : TransportState) (id n : ℕ) → pieces_now (after_consume t id n) id ≡ skip n (pieces_now t id)
pieces-left t id n = by (has_stream t.streams id) refl
  where
    by : (b : Bool) → has_stream t.streams id ≡ b → pieces_now (if b then with_change t id (consume n) else t) id ≡ skip n (pieces_now t id)
    by true has =
        (λ i. if here-has t.streams id (consume n) has i then (stream_at (with_changed t.streams id (consume n)) id).unread else [])
        ∙ (ap (λ (s : Stream). s.unread) (here-changed t.streams id (consume n) has)
        ∙ sym (λ i. skip n (if has i then (stream_at t.streams id).unread else [])))
    by false none = (λ i. if none i then (stream_at t.streams id).unread else []) ∙ sym (λ i. skip n (if none i then (stream_at t.streams id).unread else []))

-- the first piece is gone
whole-gone : (n : ℕ) (pieces : List (List ℕ)) → 0 < length (first_piece pieces) → length (first_piece pieces) ≤ n → length (skip n pieces) + 1 ≤ length pieces
whole-gone n [] some le = absurd (omega (arith, some))
whole-gone n (p ∷ later) some le = by (nat_lt n (length p)) refl
  where
    by : (b : Bool) → nat_lt n (length p) ≡ b → length (if b then drop n p ∷ later else skip (n - length p) later) + 1 ≤ suc (length later)
    by true e = absurd (grind (arith, nat_tests, le, e))
    by false e = let x = skip-fewer (n - length p) later in omega (arith, x)

some-within : (bytes : List ℕ) → 0 < length bytes → stopped_within true bytes ≡ 1
some-within [] some = absurd (omega (arith, some))
some-within (byte ∷ bytes) some = refl

none-within : (said : Bool) (bytes : List ℕ) → length bytes ≡ 0 → stopped_within said bytes ≡ 0
none-within false bytes none = refl
none-within true [] none = refl
none-within true (byte ∷ bytes) none = absurd (omega (arith, none))

module _ {V : Type 0} (said : V → Bool) (id : ℕ) where
  -- a reader took bytes of the first piece
  pub counts-took : (t : TransportState) (piece : List ℕ) (n : ℕ) (now : V) (now_t : TransportState) (steps later : ℕ) → 0 < length (unread_now t id) → (0 < length (unread_now t id) → 0 < length piece)
      → piece ≡ first_piece (pieces_now t id) → n ≤ length piece → (n < length piece → said now ≡ true) → now_t ≡ after_consume t id n → later ≡ steps + 1
      → CountsRead said id t (record { reader = now; transport = now_t }) steps later
  counts-took t piece n now now_t steps later unread some is le stops consumes one =
      subst (λ (u : TransportState). CountsRead said id t (record { reader = now; transport = u }) steps later) (sym consumes) (by (cases_lt n (length piece)))
    where
      long : length piece ≡ length (first_piece (pieces_now t id))
      long = ap length is

      left : unread_pieces (after_consume t id n) id ≡ length (skip n (pieces_now t id))
      left = ap length (pieces-left t id n)

      by : (n < length piece) ⊎ (length piece ≤ n) → later + unread_pieces (after_consume t id n) id ≤ steps + unread_pieces t id + stopped_within (said now) (unread_now (after_consume t id n) id)
      by (inl lt) =
          let fewer = skip-fewer n (pieces_now t id) in
          let bytes = ap length (consumed-here t id n) in
          let rest = length-drop n (unread_now t id) in
          let front = first_within (pieces_now t id) in
          let within = ap (λ b. stopped_within b (unread_now (after_consume t id n) id)) (stops lt) ∙ some-within (unread_now (after_consume t id n) id) (omega (arith, lt, bytes, rest, front, long)) in
          omega (arith, left, fewer, within, one)
      by (inr all) =
          let have = some unread in
          let gone = whole-gone n (pieces_now t id) (omega (arith, have, long)) (omega (arith, all, long)) in
          omega (arith, left, gone, one)

  -- nothing was read
  pub counts-none : (r : V) (t : TransportState) (steps : ℕ) → CountsRead said id t (record { reader = r; transport = t }) steps steps
  counts-none r t steps = omega arith

  -- one feed more, of a reader that goes on
  pub counts-more : (t : TransportState) (now : V) (now_t : TransportState) (later : V) (later_t : TransportState) (a b c : ℕ) → CountsRead said id t (record { reader = now; transport = now_t }) a b → said now ≡ false
      → CountsRead said id now_t (record { reader = later; transport = later_t }) b c → CountsRead said id t (record { reader = later; transport = later_t }) a c
  counts-more t now now_t later later_t a b c before goes after =
      let none = ap (λ s. stopped_within s (unread_now now_t id)) goes in omega (arith, before, none, after)

  -- the end is noted, where nothing is unread
  pub counts-noted : (ended : StreamEnd → V → V) (running : Bool) (end : StreamEnd) (t : TransportState) (now : V) (now_t : TransportState) (a b : ℕ) → CountsRead said id t (record { reader = now; transport = now_t }) a b
      → CountsRead said id t (record { reader = noted_if ended (not running && length (unread_now now_t id) == 0) end now; transport = now_t }) a b
  counts-noted ended true end t now now_t a b before = before
  counts-noted ended false end t now now_t a b before = by (length (unread_now now_t id) == 0) refl
    where
      by : (c : Bool) → (length (unread_now now_t id) == 0) ≡ c → CountsRead said id t (record { reader = noted_if ended c end now; transport = now_t }) a b
      by false e = before
      by true e =
          let nothing : length (unread_now now_t id) ≡ 0 = grind (arith, nat_tests, e) in
          let x = none-within (said now) (unread_now now_t id) nothing in
          let y = none-within (said (ended end now)) (unread_now now_t id) nothing in
          omega (arith, before, x, y)

-- a stream in which a reader stopped has a piece
some-piece : (pieces : List (List ℕ)) (b : Bool) → stopped_within b (concat pieces) ≤ length pieces
some-piece pieces false = omega arith
some-piece [] true = omega arith
some-piece (p ∷ later) true = by (concat (p ∷ later))
  where
    by : (bytes : List ℕ) → stopped_within true bytes ≤ suc (length later)
    by [] = omega arith
    by (byte ∷ bytes) = omega arith

pub within-piece : (t : TransportState) (id : ℕ) (b : Bool) → stopped_within b (unread_now t id) ≤ unread_pieces t id
within-piece t id b = some-piece (pieces_now t id) b

-- ---- the streams of which the header is read

module _ (t u : TransportState) (l : Loses t u) where
  pub slots-lose : {V : Type 0} (xs : List (Slot V)) → slot_pieces u xs ≤ slot_pieces t xs
  slots-lose [] = omega arith
  slots-lose (x ∷ xs) = let a = l.fewer x.id in let b = slots-lose xs in omega (arith, a, b)

  pub waiting-lose : (kind n count : ℕ) → waiting_pieces u kind n count ≤ waiting_pieces t kind n count
  waiting-lose kind n zero = omega arith
  waiting-lose kind n (suc count) = let a = l.fewer (4 * n + kind) in let b = waiting-lose kind (suc n) count in omega (arith, a, b)

  same-waiting : {V : Type 0} (a : ArrivingNow V) → waiting_pieces u (peer_kind u.side a.bidirectional) a.next (arrived_count u a - a.next) ≡ waiting_pieces u (peer_kind t.side a.bidirectional) a.next (arrived_count t a - a.next)
  same-waiting a =
      ap (λ side. waiting_pieces u (peer_kind side a.bidirectional) a.next (min (count_now u (peer_kind side a.bidirectional)) (2 ^ 60) - a.next)) l.side
      ∙ ap (λ n. waiting_pieces u (peer_kind t.side a.bidirectional) a.next (min n (2 ^ 60) - a.next)) (l.counts a.bidirectional)

  pub rest-loses : {V : Type 0} (a : ArrivingNow V) → waiting_pieces u (peer_kind u.side a.bidirectional) a.next (arrived_count u a - a.next) ≤ waiting_pieces t (peer_kind t.side a.bidirectional) a.next (arrived_count t a - a.next)
  rest-loses a = let e = same-waiting a in let x = waiting-lose (peer_kind t.side a.bidirectional) a.next (arrived_count t a - a.next) in omega (arith, e, x)

  pub header-loses : {V : Type 0} (a : ArrivingNow V) → header_pieces u a ≤ header_pieces t a
  header-loses a = let x = slots-lose a.reading in let y = rest-loses a in omega (arith, x, y)

  module _ {V : Type 0} where
    -- what the one at the index lost is lost of all
    slots-lose-at : (xs : List (Slot V)) (i : ℕ) (x : Slot V) → i < length xs → x ≡ get_or xs i x → slot_pieces u xs + unread_pieces t x.id ≤ slot_pieces t xs + unread_pieces u x.id
    slots-lose-at [] i x lt is = absurd (omega (arith, lt))
    slots-lose-at (y ∷ xs) zero x lt is =
        let a = slots-lose xs in
        let same = ap (λ (s : Slot V). unread_pieces u s.id) is in
        let same_then = ap (λ (s : Slot V). unread_pieces t s.id) is in
        omega (arith, a, same, same_then)
    slots-lose-at (y ∷ xs) (suc i) x lt is = let a = l.fewer y.id in let b = slots-lose-at xs i x (omega (arith, lt)) is in omega (arith, a, b)

module _ {V : Type 0} (t : TransportState) where
  slots-set : (xs : List (Slot V)) (i : ℕ) (x y : Slot V) → i < length xs → x ≡ get_or xs i x → y.id ≡ x.id → slot_pieces t (set xs i y) ≡ slot_pieces t xs
  slots-set [] i x y lt is same = absurd (omega (arith, lt))
  slots-set (z ∷ xs) zero x y lt is same = ap (λ k. unread_pieces t k + slot_pieces t xs) (same ∙ ap (λ (s : Slot V). s.id) is)
  slots-set (z ∷ xs) (suc i) x y lt is same = ap (λ n. unread_pieces t z.id + n) (slots-set xs i x y (omega (arith, lt)) is same)

  slots-out : (xs : List (Slot V)) (i : ℕ) (x : Slot V) → i < length xs → x ≡ get_or xs i x → slot_pieces t (remove xs i) + unread_pieces t x.id ≡ slot_pieces t xs
  slots-out [] i x lt is = absurd (omega (arith, lt))
  slots-out (z ∷ xs) zero x lt is = let same = ap (λ (s : Slot V). unread_pieces t s.id) is in omega (arith, same)
  slots-out (z ∷ xs) (suc i) x lt is = let a = slots-out xs i x (omega (arith, lt)) is in omega (arith, a)

  pub slots-push : (xs : List (Slot V)) (x : Slot V) → slot_pieces t (xs ++ x ∷ []) ≡ slot_pieces t xs + unread_pieces t x.id
  slots-push [] x = omega arith
  slots-push (y ∷ xs) x = let a = slots-push xs x in omega (arith, a)

-- ---- a look

pub failed-fewer : (o : Option ErrorCode) (n : ℕ) → unless_failed o n ≤ n
failed-fewer None n = omega arith
failed-fewer (Some code) n = omega arith

module _ {V : Type 0} (said : V → Bool) (index : ℕ) (a : ArrivingNow V) (r : WorkNow) (x : Slot V) (lt : index < length a.reading) (is : x ≡ get_or a.reading index x) (y : ReadOn V) (l : Loses r.transport y.transport)
    (steps later : ℕ) (counts : CountsRead said x.id r.transport y steps later) where
  -- the slot's reader goes on: only whole pieces went
  pub look-goes-on : said y.reader ≡ false → (z : Slot V) → z.id ≡ x.id → later + scan_left (record a { reading = set a.reading index z }) (with_transport y.transport r) ≤ steps + scan_most a r.transport
  look-goes-on goes z same =
      let none = ap (λ s. stopped_within s (unread_now y.transport x.id)) goes in
      let slots = slots-lose-at r.transport y.transport l a.reading index x lt is in
      let set_same = slots-set y.transport a.reading index x z lt is same in
      let rest = rest-loses r.transport y.transport l a in
      let all = l.lost x.id in
      let fewer = l.fewer x.id in
      let fault = failed-fewer r.dispatched.fault (scan_most (record a { reading = set a.reading index z }) y.transport) in
      omega (arith, counts, none, slots, set_same, rest, all, fewer, fault)

  -- the slot goes with all of its pieces
  pub look-over : (v : Verdict) → later + scan_left (record a { reading = remove a.reading index }) (classify_now x.id v (with_transport y.transport r)) ≤ steps + scan_most a r.transport
  look-over v =
      let w : WorkNow = classify_now x.id v (with_transport y.transport r) in
      let more = classify-loses x.id v (with_transport y.transport r) in
      let both = loses-both r.transport y.transport w.transport l more in
      let within = within-piece y.transport x.id (said y.reader) in
      let slots = slots-lose r.transport w.transport both (remove a.reading index) in
      let out = slots-out r.transport a.reading index x lt is in
      let rest = rest-loses r.transport w.transport both a in
      let all = l.lost x.id in
      let other = more.lost x.id in
      let fewer = more.fewer x.id in
      let fault = failed-fewer w.dispatched.fault (scan_most (record a { reading = remove a.reading index }) w.transport) in
      omega (arith, counts, within, slots, out, rest, all, other, fewer, fault)
