-- All that came is read still, where more bytes of one stream came and were read.
use Rattle.std.proofs.Common.{◌∙◌, ◌≡◌, ◌∷◌, Bool, List, None, Option, Some, [], false, length, refl, subst, sym, true, ℕ}
use Rattle.std.proofs.lemmas.Bool.{eqb-true}
use Rattle.std.specs.Prelude.{◌==◌, if◌then◌else◌}
use Rattle.wt_follows.proofs.KindPut.{apart-same, its-read}
use Rattle.wt_follows.specs.Rests.{ControlRead, IsRead, SessionsRead}
use Rattle.wt_kept.specs.Kept.{DispatchedNow, LiveNow}
use Rattle.wt_kept.specs.Pieces.{body_fed, body_fed_by, control_slot}
use Rattle.wt_kept.specs.Readers.{ControlReading, Slot}
use Rattle.wt_kept.specs.Windows.{changed_live, live_in}
use Rattle.wt_turn.specs.Arrivals.{log_bytes}
use Rattle.wt_turn.specs.Streams.{contents}
use Rattle.wt_turn.specs.Unread.{AtOffset, ReadPosition, position_after}
use Rattle.wt_turn.specs.Log.{Log}

module _ (log : Log) (position : ℕ → ReadPosition) (id : ℕ) (part : List ℕ) (here : IsRead position (contents log) id) where
  abbrev g : Log
  g = log_bytes log id part

  abbrev after : ℕ → ReadPosition
  after = position_after position id (length part)

  -- of any stream
  pub reads-still : (k : ℕ) → IsRead position (contents log) k → IsRead after (contents g) k
  reads-still k h = by (id == k) refl
    where
      by : (b : Bool) → (id == k) ≡ b → IsRead after (contents g) k
      by true e = subst (IsRead after (contents g)) (eqb-true id k e) (its-read log position id part here)
      by false e = let s = apart-same log position id part k e in s.1 ∙ (h ∙ (λ i. AtOffset (length (sym s.0 i))))

  pub control-still : (o : Option (Slot ControlReading)) → ControlRead position (contents log) o → ControlRead after (contents g) o
  control-still None h = tt
  control-still (Some x) h = reads-still x.id h

  pub sessions-still : (xs : List LiveNow) → SessionsRead position (contents log) xs → SessionsRead after (contents g) xs
  sessions-still [] h = tt
  sessions-still (x ∷ xs) h = (reads-still x.id h.0, sessions-still xs h.1)

  -- with another reader of one
  pub changed-still : (change : LiveNow → LiveNow) → ((x : LiveNow) → (change x).id ≡ x.id) → (j : ℕ) (xs : List LiveNow) → SessionsRead after (contents g) xs → SessionsRead after (contents g) (changed_live change j xs)
  changed-still change same j [] h = tt
  changed-still change same j (x ∷ xs) h = by (x.id == j) (changed-still change same j xs h.1)
    where
      by : (b : Bool) → SessionsRead after (contents g) (changed_live change j xs) → SessionsRead after (contents g) (if b then change x ∷ xs else x ∷ changed_live change j xs)
      by true again = (subst (IsRead after (contents g)) (sym (same x)) h.0, h.1)
      by false again = (h.0, again)

  -- what the body's reader leaves
  pub body-still : (whole : List ℕ) (d : DispatchedNow) → ControlRead position (contents log) d.critical.control → SessionsRead position (contents log) d.sessions.living
      → ControlRead after (contents g) (body_fed id whole d).critical.control × SessionsRead after (contents g) (body_fed id whole d).sessions.living
  body-still whole d control sessions = by d.critical.control refl (live_in d.sessions id)
    where
      its : (b : Bool) (x : Slot ControlReading) (l : Option LiveNow) → d.critical.control ≡ Some x
          → ControlRead after (contents g) (body_fed_by id whole (if b then Some x else None) l d).critical.control × SessionsRead after (contents g) (body_fed_by id whole (if b then Some x else None) l d).sessions.living
      its true x l e = (control-still (Some x) (subst (ControlRead position (contents log)) e control), sessions-still d.sessions.living sessions)
      its false x None e = (control-still d.critical.control control, sessions-still d.sessions.living sessions)
      its false x (Some y) e = (control-still d.critical.control control, changed-still _ (λ z. refl) id d.sessions.living (sessions-still d.sessions.living sessions))

      by : (c : Option (Slot ControlReading)) → d.critical.control ≡ c → (l : Option LiveNow)
          → ControlRead after (contents g) (body_fed_by id whole (control_slot id c) l d).critical.control × SessionsRead after (contents g) (body_fed_by id whole (control_slot id c) l d).sessions.living
      by None e None = (control-still d.critical.control control, sessions-still d.sessions.living sessions)
      by None e (Some y) = (control-still d.critical.control control, changed-still _ (λ z. refl) id d.sessions.living (sessions-still d.sessions.living sessions))
      by (Some x) e l = its (x.id == id) x l e
