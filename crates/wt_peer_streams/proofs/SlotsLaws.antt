-- The slots of a kind, of which the one at an index is fed.
use Rattle.std.proofs.Common.{◌≡◌, ◌∙◌, List, None, Some, ap, get_or, set, sym, ℕ}
use Rattle.std.specs.List.{position}
use Rattle.std.specs.Prelude.{◌==◌}
use Rattle.wt_kept.specs.Kept.{ArrivingNow}
use Rattle.wt_kept.specs.Pieces.{FedNow, fed_at, fed_by, fed_slots, slot_of}
use Rattle.wt_kept.specs.Readers.{ReaderRules, Slot, fed_piece}
use Rattle.wt_peer_streams.proofs.Lists.{found-changed, found-is, none-changed, none-is}

module _ {V O : Type 0} (w : ReaderRules V O) (id : ℕ) (piece : List ℕ) (d now : ArrivingNow V) where
  pub slot-feeds : (i : ℕ) (x : Slot V) (fed : FedNow) → d ≡ now → Some i ≡ position (λ (y : Slot V). y.id == id) now.reading → x ≡ get_or d.reading i x → fed ≡ fed_by w x.reader piece → Some fed ≡ fed_at w piece (slot_of id now.reading)
  slot-feeds i x fed view at is e =
      let found : slot_of id d.reading ≡ Some x = found-is (λ (y : Slot V). y.id == id) d.reading i x (ap (λ (k : ArrivingNow V). position (λ (y : Slot V). y.id == id) k.reading) view ∙ sym at) ∙ ap (λ (y : Slot V). Some y) (sym is) in
      ap (λ (f : FedNow). Some f) e ∙ (sym (ap (λ o. fed_at w piece o) found) ∙ ap (λ (k : ArrivingNow V). fed_at w piece (slot_of id k.reading)) view)

  pub slot-fed : (i : ℕ) (x y : Slot V) → d ≡ now → Some i ≡ position (λ (y : Slot V). y.id == id) now.reading → x ≡ get_or d.reading i x → y ≡ record x { reader = fed_piece w x.reader piece }
      → record d { reading = set d.reading i y } ≡ record now { reading = fed_slots w id piece now.reading }
  slot-fed i x y view at is e =
      let f : Slot V → Slot V = λ z. record z { reader = fed_piece w z.reader piece } in
      ap (λ z. record d { reading = set d.reading i z }) e
      ∙ (ap (λ z. record d { reading = set d.reading i (f z) }) is
      ∙ (ap (λ xs. record d { reading = xs }) (found-changed (λ (z : Slot V). z.id == id) f d.reading i x (ap (λ (k : ArrivingNow V). position (λ (z : Slot V). z.id == id) k.reading) view ∙ sym at))
      ∙ ap (λ (k : ArrivingNow V). record k { reading = fed_slots w id piece k.reading }) view))

  pub none-feeds : None ≡ position (λ (y : Slot V). y.id == id) now.reading → None ≡ fed_at w piece (slot_of id now.reading)
  none-feeds at = sym (ap (λ o. fed_at w piece o) (none-is (λ (y : Slot V). y.id == id) now.reading (sym at)))

  pub none-fed : None ≡ position (λ (y : Slot V). y.id == id) now.reading → now ≡ record now { reading = fed_slots w id piece now.reading }
  none-fed at = ap (λ xs. record now { reading = xs }) (none-changed (λ (y : Slot V). y.id == id) (λ z. record z { reader = fed_piece w z.reader piece }) now.reading (sym at))
