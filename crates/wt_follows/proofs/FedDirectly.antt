-- Bytes that a reader takes as they come never enter the transport: it is what it was, and follows the log with them, read up to their end.
use Rattle.std.proofs.Common.{◌∙◌, ◌≡◌, ◌≤◌, ◌+◌, ◌++◌, ◌∷◌, Bool, List, [], add-zero, ap, arith, drop, false, length, refl, subst, suc, sym, true, zero, ℕ}
use Rattle.std.proofs.lemmas.Bool.{eq-eqb, eqb-true}
use Rattle.std.proofs.lemmas.List.{length-append}
use Rattle.std.specs.Prelude.{◌==◌, if◌then◌else◌}
use Rattle.wt_turn.specs.Arrivals.{log_bytes}
use Rattle.wt_turn.specs.Reports.{initial_credit}
use Rattle.wt_turn.specs.Streams.{contents, stream_count}
use Rattle.wt_turn.specs.Unread.{AtOffset, GivenUp, ReadPosition, advance, from_position, is_given_up, position_after, unread}
use Rattle.wt_transport.specs.StreamState.{Stream, rows}
use Rattle.wt_transport.specs.State.{Holds, IsStream, IsWithin, Refines, TransportState, state_of, stream_of}
use Rattle.wt_turn.specs.Log.{Log, Received, all_events_of}
use Rattle.wt_turn.specs.declared.action.Action.{Action}
use Rattle.wt_wire.specs.declared.side.Side.{Side}

past : (m : ℕ) (ys : List ℕ) → length ys ≤ m → drop m ys ≡ []
past zero [] le = refl
past (suc m) [] le = refl
past zero (y ∷ ys) le = absurd (omega arith)
past (suc m) (y ∷ ys) le = past m ys (omega arith)

same-given_up : (b : Bool) (p : ReadPosition) → is_given_up (if b then advance 1 p else p) ≡ is_given_up p
same-given_up true (AtOffset n) = refl
same-given_up true GivenUp = refl
same-given_up false p = refl

module _ (side : Side) (t : TransportState) (log : Log) (position : ℕ → ReadPosition) (uncollected : List Action) (id byte : ℕ) (r : Refines side t log position uncollected) (at : position id ≡ AtOffset (length (contents log id))) where
  abbrev next : Log
  next = Received id byte ∷ log

  abbrev moved : ℕ → ReadPosition
  moved = position_after position id 1

  its-contents : contents next id ≡ contents log id ++ byte ∷ []
  its-contents = ap (λ (b : Bool). if b then contents log id ++ byte ∷ [] else contents log id) (eq-eqb id id refl)

  pub moved-at : moved id ≡ AtOffset (length (contents next id))
  moved-at =
      ap (λ (b : Bool). if b then advance 1 (position id) else position id) (eq-eqb id id refl)
      ∙ (ap (advance 1) at ∙ ap AtOffset (sym (ap length its-contents ∙ (let e : length (contents log id ++ byte ∷ []) ≡ length (contents log id) + 1 = omega (arith, length-append (contents log id) (byte ∷ [])) in e))))

  same-stream : (k : ℕ) → stream_of next moved r.pieces k ≡ stream_of log position r.pieces k
  same-stream k = λ i. record (stream_of log position r.pieces k) { given_up = same-given_up (id == k) (position k) i }

  holds-here : Holds next moved r.pieces id
  holds-here =
      let h = r.holds id in
      let none : unread log position id ≡ [] = ap (λ (p : ReadPosition). from_position p (contents log id)) at ∙ past (length (contents log id)) (contents log id) (omega arith) in
      let none_then : unread next moved id ≡ [] = ap (λ (p : ReadPosition). from_position p (contents next id)) moved-at ∙ past (length (contents next id)) (contents next id) (omega arith) in
      record {
        bytes = h.bytes ∙ (none ∙ sym none_then);
        filled = h.filled;
        within = subst (λ (p : ReadPosition). IsWithin p (contents next id)) (sym moved-at) (omega arith);
      }

  holds-there : (k : ℕ) → (id == k) ≡ false → Holds next moved r.pieces k
  holds-there k e =
      let h = r.holds k in
      let same_position : moved k ≡ position k = ap (λ (b : Bool). if b then advance 1 (position k) else position k) e in
      let same_contents : contents next k ≡ contents log k = ap (λ (b : Bool). if b then contents log k ++ byte ∷ [] else contents log k) e in
      record {
        bytes = h.bytes ∙ (λ i. from_position (sym same_position i) (sym same_contents i));
        filled = h.filled;
        within = subst (λ (q : ReadPosition × List ℕ). IsWithin q.0 q.1) (λ i. (sym same_position i, sym same_contents i)) h.within;
      }

  pub fed-byte : Refines side t next moved uncollected
  fed-byte = record {
    pieces = r.pieces;
    facts = record {
      streams = λ k. subst (λ (s : Stream). IsStream side (stream_count side log) (initial_credit (all_events_of log)) k s) (sym (same-stream k)) (r.facts.streams k);
      unconnected = r.facts.unconnected;
      unallowed = r.facts.unallowed;
      open_same = r.facts.open_same;
    };
    holds = λ k. by k (id == k) refl;
    state = r.state ∙ (λ i. record (state_of side log position r.pieces uncollected) { streams = rows (λ k. sym (same-stream k) i) (stream_count side log) });
  }
    where
      by : (k : ℕ) (b : Bool) → (id == k) ≡ b → Holds next moved r.pieces k
      by k true e = subst (λ (j : ℕ). Holds next moved r.pieces j) (eqb-true id k e) holds-here
      by k false e = holds-there k e

advance-both : (b : Bool) (n : ℕ) (p : ReadPosition) → (if b then advance n (if b then advance 1 p else p) else (if b then advance 1 p else p)) ≡ (if b then advance (suc n) p else p)
advance-both true n (AtOffset m) = ap AtOffset (let e : m + 1 + n ≡ m + suc n = omega arith in e)
advance-both true n GivenUp = refl
advance-both false n p = refl

advance-none : (b : Bool) (p : ReadPosition) → (if b then advance 0 p else p) ≡ p
advance-none true (AtOffset m) = ap AtOffset (add-zero m)
advance-none true GivenUp = refl
advance-none false p = refl

-- of a stream that is read to its end, these bytes came and were read
pub fed-directly : (side : Side) (t : TransportState) (bytes : List ℕ) (log : Log) (position : ℕ → ReadPosition) (uncollected : List Action) (id : ℕ) → Refines side t log position uncollected
    → position id ≡ AtOffset (length (contents log id)) → Refines side t (log_bytes log id bytes) (position_after position id (length bytes)) uncollected
fed-directly side t [] log position uncollected id r at = subst (λ (p : ℕ → ReadPosition). Refines side t log p uncollected) (λ i k. sym (advance-none (id == k) (position k)) i) r
fed-directly side t (byte ∷ bytes) log position uncollected id r at =
    subst (λ (p : ℕ → ReadPosition). Refines side t (log_bytes (Received id byte ∷ log) id bytes) p uncollected) (λ i k. advance-both (id == k) (length bytes) (position k) i)
    (fed-directly side t bytes (Received id byte ∷ log) (position_after position id 1) uncollected id (fed-byte side t log position uncollected id byte r at) (moved-at side t log position uncollected id byte r at))
