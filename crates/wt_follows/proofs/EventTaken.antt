-- An event of an open connection is taken: what is kept follows the log with it, before the work of its moment.
use Rattle.std.proofs.Common.{◌*◌, ◌+◌, ◌-◌, ◌∙◌, ◌≡◌, ◌≤◌, ◌++◌, ◌∷◌, Bool, List, [], ap, append_assoc, arith, false, refl, subst, suc, sym, ℕ}
use Rattle.std.specs.Prelude.{map}
use Rattle.wt_follows.proofs.Opened.{arrived, fresh-more}
use Rattle.wt_follows.specs.Tie.{ArrivingFollows, Keeps, ReaderAt, SlotsAt}
use Rattle.wt_kept.specs.Arriving.{arrived_count, fresh_slot, fresh_slots, peer_kind, slots_of}
use Rattle.wt_kept.specs.Kept.{ArrivingNow, DispatchedNow}
use Rattle.wt_kept.specs.Readers.{ReaderRules, Slot}
use Rattle.wt_transport.specs.State.{TransportState}
use Rattle.wt_turn.specs.Unread.{AtOffset, ReadPosition}
use Rattle.wt_sessions.specs.DriverState.{DriverState}

-- ---- what is kept beside readers

-- streams that the peer opened, and the connection's end, change nothing of it
pub keeps-arrived : (d : DispatchedNow) (s : DriverState) (us bs : List ℕ) (open_ : Bool) → Keeps d s → Keeps d (arrived us bs open_ s)
keeps-arrived d s us bs open_ k = record {
  control = k.control;
  encoder = k.encoder;
  decoder = k.decoder;
  settings = k.settings;
  queued = k.queued;
  held = k.held;
  living = k.living;
  windows = k.windows;
  early = k.early;
  gone = k.gone;
  gone_named = k.gone_named;
  closed = k.closed;
  established = k.established;
  alive = k.alive;
  named = k.named;
  named_streams = k.named_streams;
  named_datagrams = k.named_datagrams;
  unjoined = k.unjoined;
  fault = k.fault;
}

-- ---- the streams of a kind

-- one more slot
pub slots-more : {V O : Type 0} (w : ReaderRules V O) (bytes : ℕ → List ℕ) (position : ℕ → ReadPosition) (xs : List (Slot V)) (x : Slot V)
    → SlotsAt w bytes position xs → ReaderAt w x.reader 0 (bytes x.id) (position x.id) → SlotsAt w bytes position (xs ++ x ∷ [])
slots-more w bytes position [] x at here = (here, tt)
slots-more w bytes position (y ∷ ys) x at here = (at.0, slots-more w bytes position ys x at.1 here)

-- of a stream that is new nothing was read
pub fresh-at : {V O : Type 0} (w : ReaderRules V O) (bytes : List ℕ) (position : ReadPosition) → w.fed w.start [] ≡ w.start → position ≡ AtOffset 0 → ReaderAt w w.start 0 bytes position
fresh-at w bytes position none at = record { count = 0; at_offset = at; within = omega arith; taken = sym none; least = λ k lt. absurd (omega (arith, lt)) }

map-append : {X : Type 0} (f : X → ℕ) (xs ys : List X) → map f (xs ++ ys) ≡ map f xs ++ map f ys
map-append f [] ys = refl
map-append f (x ∷ xs) ys = ap (λ zs. f x ∷ zs) (map-append f xs ys)

module _ {V O : Type 0} (w : ReaderRules V O) (t u : TransportState) (a : ArrivingNow V) (ids : List ℕ) (bytes : ℕ → List ℕ) (position : ℕ → ReadPosition)
    (side_same : u.side ≡ t.side) (none : w.fed w.start [] ≡ w.start) (goes_on : w.has_said w.start ≡ false) (f : ArrivingFollows w t a ids bytes position) where
  -- the transport counts as many
  pub same-count : arrived_count u a ≡ arrived_count t a → ArrivingFollows w u a ids bytes position
  same-count e = record {
    ordered = subst (λ (n : ℕ). a.next ≤ n) (sym e) f.ordered;
    few = f.few;
    same_ids = ap (λ (xs : List (Slot V)). map (λ (x : Slot V). x.id) xs) slots ∙ f.same_ids;
    read = subst (SlotsAt w bytes position) (sym slots) f.read;
  }
    where
      slots : slots_of w u a ≡ slots_of w t a
      slots = λ i. a.reading ++ fresh_slots w (peer_kind (side_same i) a.bidirectional) a.next (e i - a.next)

  -- it counts one more
  pub one-more : arrived_count u a ≡ arrived_count t a + 1 → position (4 * arrived_count t a + peer_kind t.side a.bidirectional) ≡ AtOffset 0
      → ArrivingFollows w u a (ids ++ (4 * arrived_count t a + peer_kind t.side a.bidirectional) ∷ []) bytes position
  one-more e at = record {
    ordered = let b = f.ordered in omega (arith, e, b);
    few = f.few;
    same_ids = ap (λ (xs : List (Slot V)). map (λ (x : Slot V). x.id) xs) slots ∙ map-append (λ (x : Slot V). x.id) (slots_of w t a) (new ∷ []) ∙ ap (λ (ks : List ℕ). ks ++ new.id ∷ []) f.same_ids;
    read = subst (SlotsAt w bytes position) (sym slots) (slots-more w bytes position (slots_of w t a) new f.read (fresh-at w (bytes new.id) (position new.id) none at));
  }
    where
      new : Slot V
      new = fresh_slot w (4 * arrived_count t a + peer_kind t.side a.bidirectional)

      left-more : (m n next : ℕ) → m ≡ n + 1 → next ≤ n → m - next ≡ suc (n - next)
      left-more m n next x l = omega (arith, x, l)

      last-is : (n next : ℕ) → next ≤ n → next + (n - next) ≡ n
      last-is n next l = omega (arith, l)

      slots : slots_of w u a ≡ slots_of w t a ++ new ∷ []
      slots = (λ i. a.reading ++ fresh_slots w (peer_kind (side_same i) a.bidirectional) a.next (left-more (arrived_count u a) (arrived_count t a) a.next e f.ordered i))
          ∙ ap (λ (xs : List (Slot V)). a.reading ++ xs) (fresh-more w (peer_kind t.side a.bidirectional) a.next (arrived_count t a - a.next))
          ∙ (λ i. a.reading ++ (fresh_slots w (peer_kind t.side a.bidirectional) a.next (arrived_count t a - a.next)
          ++ fresh_slot w (4 * (last-is (arrived_count t a) a.next f.ordered i) + peer_kind t.side a.bidirectional) ∷ []))
          ∙ sym (append_assoc a.reading (fresh_slots w (peer_kind t.side a.bidirectional) a.next (arrived_count t a - a.next)) (new ∷ []))
