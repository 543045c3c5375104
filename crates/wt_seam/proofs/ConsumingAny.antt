-- Bytes of a stream that are consumed in steps, whether the stream is there or not.
use Rattle.std.proofs.Common.{arith, ◌≡◌, ◌+◌, ◌%◌, ℕ, Bool, true, false, drop, refl, sym, ap, ◌∙◌}
use Rattle.std.specs.Prelude.{IsTrue, ◌==◌, not, if◌then◌else◌}
use Rattle.std.proofs.lemmas.Bool.Decides.{nat_tests}
use Rattle.wt_wire.specs.declared.side.Side.{Side}
use Rattle.wt_wire.specs.declared.side.Side.TheVariants.{Client, Server}
use Rattle.wt_turn.specs.Streams.{local_uni}
use Rattle.wt_transport.specs.StreamState.{has_stream, consume}
use Rattle.wt_transport.proofs.PieceLaws.{drop_none}
use Rattle.wt_transport.specs.State.{TransportState}
use Rattle.wt_transport.specs.Step.{can_receive_now, after_consume, unread_now, with_change}
use Rattle.wt_seam.proofs.Consuming.{consumed-again, consumed-unread, still-there}

-- a side that doesn't send alone on such a stream
abbrev reader_of : Bool → Side
reader_of third = if third then Client else Server

not-own : (third : Bool) (kind : ℕ) → (kind == 3) ≡ third → not (local_uni (reader_of third) == kind) ≡ true
not-own true kind e = grind (arith, nat_tests)
not-own false kind e = grind (arith, nat_tests)

-- the transport as such a side sees it
abbrev seen : TransportState → ℕ → TransportState
seen t id = record t { side = reader_of (id % 4 == 3) }

seen-there : (t : TransportState) (id : ℕ) → has_stream t.streams id ≡ true → IsTrue (can_receive_now (seen t id) id)
seen-there t id has = rw has (not-own (id % 4 == 3) (id % 4) refl)

-- ---- of a stream that is there

there : (t : TransportState) (id n : ℕ) → has_stream t.streams id ≡ true → after_consume t id n ≡ with_change t id (consume n)
there t id n has = rw has refl

there-twice : (t : TransportState) (id m n : ℕ) → has_stream t.streams id ≡ true → after_consume (after_consume t id m) id n ≡ with_change (with_change t id (consume m)) id (consume n)
there-twice t id m n has =
    ap (λ (u : TransportState). after_consume u id n) (there t id m has)
    ∙ there (with_change t id (consume m)) id n (still-there t.streams id (consume m) has)

there-again : (t : TransportState) (id m n : ℕ) → has_stream t.streams id ≡ true → after_consume (after_consume t id m) id n ≡ after_consume t id (m + n)
there-again t id m n has =
    let u = seen t id in
    let same : with_change (with_change u id (consume m)) id (consume n) ≡ with_change u id (consume (m + n)) =
    sym (there-twice u id m n has) ∙ (consumed-again u id (seen-there t id has) m n ∙ there u id (m + n) has) in
    there-twice t id m n has
    ∙ (ap (λ (v : TransportState). record v { side = t.side }) same ∙ sym (there t id (m + n) has))

there-unread : (t : TransportState) (id n : ℕ) → has_stream t.streams id ≡ true → unread_now (after_consume t id n) id ≡ drop n (unread_now t id)
there-unread t id n has =
    let u = seen t id in
    ap (λ (v : TransportState). unread_now v id) (there t id n has)
    ∙ (sym (ap (λ (v : TransportState). unread_now v id) (there u id n has)) ∙ consumed-unread u id (seen-there t id has) n)

-- ---- of any stream

again-if : (b : Bool) (t : TransportState) (id m n : ℕ) → has_stream t.streams id ≡ b → after_consume (after_consume t id m) id n ≡ after_consume t id (m + n)
again-if true t id m n has = there-again t id m n has
again-if false t id m n has = rw has (rw has refl)

pub consume-again : (t : TransportState) (id m n : ℕ) → after_consume (after_consume t id m) id n ≡ after_consume t id (m + n)
consume-again t id m n = again-if (has_stream t.streams id) t id m n refl

unread-if : (b : Bool) (t : TransportState) (id n : ℕ) → has_stream t.streams id ≡ b → unread_now (after_consume t id n) id ≡ drop n (unread_now t id)
unread-if true t id n has = there-unread t id n has
unread-if false t id n has = rw has (rw has (sym (drop_none n)))

pub consume-unread : (t : TransportState) (id n : ℕ) → unread_now (after_consume t id n) id ≡ drop n (unread_now t id)
consume-unread t id n = unread-if (has_stream t.streams id) t id n refl
