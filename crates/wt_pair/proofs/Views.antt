-- What waits: the items that may wait, and what stays of a view of them where one is taken, and where more are added.
use Rattle.std.specs.Prelude.{[], ◌%◌, ◌++◌, ◌/◌, ◌==◌, ◌∷◌, ◌≡◌, Bool, List, None, Option, Some, drop, false, filter_map, flat_map, if◌then◌else◌, take, true, zero, suc, ℕ}
use Rattle.std.specs.List.{AllByRecursion, list_any}
use Rattle.std.proofs.Common.{◌∙◌, ap, append_assoc, arith, refl, subst, sym}
use Rattle.std.proofs.lemmas.Bool.{eqb-false, eqb-true}
use Rattle.std.proofs.lemmas.List.Concat.{flat_map-append}
use Rattle.wt_pair.proofs.Marks.{item_opens, named_opens}
use Rattle.wt_pair.specs.declared.event.PairFacts.{PairFacts}
use Rattle.wt_pair.specs.Link.{is_before, is_first, is_same_stream, item_at, item_of, open_alike, taken_at}
use Rattle.wt_pair.specs.declared.item.Item.{Item}
use Rattle.wt_pair.specs.Streams.{item_marks, marks_if, named_marks, turn_marks}
use Rattle.wt_promise.proofs.Accepted.{not-true, or-left, or-right}
use Rattle.wt_promise.proofs.Flow.{swapped}
use Rattle.wt_turn.specs.declared.action.Action.{Action}
use Rattle.wt_turn.specs.declared.loss.LossReason.{LossReason}
use Rattle.wt_turn.specs.declared.turn.Turn.{Turn}
use Rattle.wt_wire.specs.Ids.{is_bidirectional}
use Rattle.wt_turn.specs.declared.action.Action.TheVariants as actions
use Rattle.wt_turn.specs.declared.loss.LossReason.TheVariants as losses
use Rattle.wt_turn.specs.declared.turn.Turn.TheVariants as turns

-- ---- which items there are

pub data IsItem (f : PairFacts) : Option ℕ → Turn → Type 0 where
  AUni : (id : ℕ) → is_bidirectional id ≡ false → IsItem f (Some id) turns.PeerUni
  ABi : (id : ℕ) → is_bidirectional id ≡ true → IsItem f (Some id) turns.PeerBi
  APiece : (id : ℕ) (piece : List ℕ) → IsItem f (Some id) (turns.Bytes id piece)
  AnEnd : (id : ℕ) → IsItem f (Some id) (turns.End id)
  AReset : (id code : ℕ) → IsItem f (Some id) (turns.Reset id code)
  AStop : (id code : ℕ) → IsItem f (Some id) (turns.Stop id code)
  AnAck : (id : ℕ) → IsItem f (Some id) (turns.Acked id)
  ADatagram : (piece : List ℕ) → IsItem f None (turns.Datagram piece)
  ALoss : (reason : LossReason) → IsItem f None (turns.Loss reason)
  AConnection : IsItem f None (turns.Connected f.uni f.bi f.credit f.datagrams)

abbrev pub AreItems : PairFacts → List Item → Type 0
AreItems f xs = AllByRecursion (λ (x : Item). IsItem f x.stream x.turn) xs

module _ (f : PairFacts) where
  pub items-append : (xs ys : List Item) → AreItems f xs → AreItems f ys → AreItems f (xs ++ ys)
  items-append [] ys a b = b
  items-append (x ∷ xs) ys a b = (a.0, items-append xs ys a.1 b)

  pub items-taken : (n : ℕ) (xs : List Item) → AreItems f xs → AreItems f (take n xs)
  items-taken zero xs a = tt
  items-taken (suc n) [] a = tt
  items-taken (suc n) (x ∷ xs) a = (a.0, items-taken n xs a.1)

  pub items-dropped : (n : ℕ) (xs : List Item) → AreItems f xs → AreItems f (drop n xs)
  items-dropped zero xs a = a
  items-dropped (suc n) [] a = tt
  items-dropped (suc n) (x ∷ xs) a = items-dropped n xs a.1

  pub items-left : (xs : List Item) (place : ℕ) (left : List Item) → AreItems f xs → AreItems f left → AreItems f (taken_at xs place left)
  items-left xs place left a b = items-append (take place xs ++ left) (drop (suc place) xs) (items-append (take place xs) left (items-taken place xs a) b) (items-dropped (suc place) xs a)

  pub item-there : (xs : List Item) (place : ℕ) (x : Item) → item_at xs place ≡ Some x → AreItems f xs → IsItem f x.stream x.turn
  item-there [] place x e a = absurd (cc e)
  item-there (y ∷ xs) zero x e a = let s : y ≡ x = cc e in subst (λ (z : Item). IsItem f z.stream z.turn) s a.0
  item-there (y ∷ xs) (suc place) x e a = item-there xs place x e a.1

  pub items-of : (as_ : List Action) → AreItems f (filter_map item_of as_)
  items-of [] = tt
  items-of (actions.Dial address name ∷ as_) = items-of as_
  items-of (actions.Opened id ∷ as_) = (by (is_bidirectional id) refl, items-of as_)
    where
      by : (b : Bool) → is_bidirectional id ≡ b → IsItem f (Some id) (if b then turns.PeerBi else turns.PeerUni)
      by true e = ABi id e
      by false e = AUni id e
  items-of (actions.Send id piece ∷ as_) = (APiece id piece, items-of as_)
  items-of (actions.Finish id ∷ as_) = (AnEnd id, items-of as_)
  items-of (actions.ResetOut id code ∷ as_) = (AReset id code, items-of as_)
  items-of (actions.StopOut id code ∷ as_) = (AStop id code, items-of as_)
  items-of (actions.DatagramOut piece ∷ as_) = (ADatagram piece, items-of as_)
  items-of (actions.Close code reason ∷ as_) = (ALoss (losses.ApplicationClosed (record { code = code; reason = reason })), items-of as_)

-- ---- a place of a list

pub split-at : (xs : List Item) (place : ℕ) (x : Item) → item_at xs place ≡ Some x → xs ≡ take place xs ++ x ∷ drop (suc place) xs
split-at [] place x e = absurd (cc e)
split-at (y ∷ xs) zero x e = let s : y ≡ x = cc e in ap (λ (z : Item). z ∷ xs) s
split-at (y ∷ xs) (suc place) x e = ap (λ (l : List Item). y ∷ l) (split-at xs place x e)

module _ {T : Type 0} (w : Item → List T) where
  pub view-split : (xs : List Item) (place : ℕ) (x : Item) → item_at xs place ≡ Some x → flat_map w xs ≡ flat_map w (take place xs) ++ (w x ++ flat_map w (drop (suc place) xs))
  view-split xs place x e = ap (flat_map w) (split-at xs place x e) ∙ flat_map-append w (take place xs) (x ∷ drop (suc place) xs)

  pub view-left : (xs : List Item) (place : ℕ) (left : List Item) → flat_map w (taken_at xs place left) ≡ flat_map w (take place xs) ++ (flat_map w left ++ flat_map w (drop (suc place) xs))
  view-left xs place left = ap (flat_map w) (append_assoc (take place xs) left (drop (suc place) xs)) ∙ flat_map-append w (take place xs) (left ++ drop (suc place) xs) ∙ ap (λ (l : List T). flat_map w (take place xs) ++ l) (flat_map-append w left (drop (suc place) xs))

  -- what is taken of a view stood in front
  pub view-taken : (xs : List Item) (place : ℕ) (x : Item) (part : List T) (left : List Item) → item_at xs place ≡ Some x → flat_map w (take place xs) ≡ [] → w x ≡ part ++ flat_map w left
      → flat_map w xs ≡ part ++ flat_map w (taken_at xs place left)
  view-taken xs place x part left e z s =
      view-split xs place x e ∙ ap (λ (l : List T). l ++ (w x ++ flat_map w (drop (suc place) xs))) z ∙ ap (λ (l : List T). l ++ flat_map w (drop (suc place) xs)) s
      ∙ append_assoc part (flat_map w left) (flat_map w (drop (suc place) xs))
      ∙ ap (λ (l : List T). part ++ l) (ap (λ (l : List T). l ++ (flat_map w left ++ flat_map w (drop (suc place) xs))) (sym z) ∙ sym (view-left xs place left))

  -- of which nothing is taken
  pub view-same : (xs : List Item) (place : ℕ) (x : Item) (left : List Item) → item_at xs place ≡ Some x → w x ≡ flat_map w left → flat_map w xs ≡ flat_map w (taken_at xs place left)
  view-same xs place x left e s =
      view-split xs place x e ∙ ap (λ (l : List T). flat_map w (take place xs) ++ (l ++ flat_map w (drop (suc place) xs))) s ∙ sym (view-left xs place left)

  -- nothing of it stands in front of an item that must come after all of it
  pub view-first : (f : PairFacts) (x : Item) → ((y : Item) → IsItem f y.stream y.turn → is_before y x ≡ false → w y ≡ []) → (xs : List Item) (place : ℕ) → AreItems f xs → is_first xs place x ≡ true → flat_map w (take place xs) ≡ []
  view-first f x each xs place a e = by (take place xs) (items-taken f place xs a) (not-true (list_any (λ (y : Item). is_before y x) (take place xs)) e)
    where
      by : (ys : List Item) → AreItems f ys → list_any (λ (y : Item). is_before y x) ys ≡ false → flat_map w ys ≡ []
      by [] b n = refl
      by (y ∷ ys) b n = ap (λ (l : List T). l ++ flat_map w ys) (each y b.0 (or-left (is_before y x) (list_any (λ (z : Item). is_before z x) ys) n)) ∙ by ys b.1 (or-right (is_before y x) (list_any (λ (z : Item). is_before z x) ys) n)

-- ---- which items must come before

-- what names another stream has no mark of this one
pub marks-before : (k : ℕ) (x y : Item) → x.stream ≡ Some k → is_before y x ≡ false → item_marks k y ≡ []
marks-before k x y s e = by y.stream (or-left (is_same_stream y.stream x.stream) (open_alike y.turn x.turn) e)
  where
    by : (o : Option ℕ) → is_same_stream o x.stream ≡ false → named_marks k o y.turn ≡ []
    by None n = refl
    by (Some j) n = ap (λ (b : Bool). marks_if b (turn_marks y.turn)) (sym (ap (is_same_stream (Some j)) s) ∙ n)

-- an opening of a kind: what isn't alike opens none of it
kind-apart : (i j : ℕ) → is_bidirectional i ≡ true → is_bidirectional j ≡ false → (i % 4 == j % 4) ≡ false
kind-apart i j a b = by (i % 4 == j % 4) refl
  where
    by : (c : Bool) → (i % 4 == j % 4) ≡ c → c ≡ false
    by false q = refl
    by true q =
        absurd (let s = eqb-true (i % 4) (j % 4) q in let x = eqb-true (i / 2 % 2) 0 a in eqb-false (j / 2 % 2) 0 b (omega (arith, s, x)))

none-opened-by : (i j : ℕ) → (i % 4 == j % 4) ≡ false → marks_if (i % 4 == j % 4) (i ∷ []) ≡ []
none-opened-by i j e = ap (λ (b : Bool). marks_if b (i ∷ [])) e

pub uni-before : (f : PairFacts) (j : ℕ) (x y : Item) → x.turn ≡ turns.PeerUni → is_bidirectional j ≡ false → IsItem f y.stream y.turn → is_before y x ≡ false → item_opens (j % 4) y ≡ []
uni-before f j x y t u g e = by y.stream y.turn g (ap (open_alike y.turn) (sym t) ∙ or-right (is_same_stream y.stream x.stream) (open_alike y.turn x.turn) e)
  where
    by : (o : Option ℕ) (turn : Turn) → IsItem f o turn → open_alike turn turns.PeerUni ≡ false → named_opens (j % 4) o turn ≡ []
    by o turn (AUni i v) n = absurd (cc n)
    by o turn (ABi i v) n = none-opened-by i j (kind-apart i j v u)
    by o turn (APiece i piece) n = refl
    by o turn (AnEnd i) n = refl
    by o turn (AReset i code) n = refl
    by o turn (AStop i code) n = refl
    by o turn (AnAck i) n = refl
    by o turn (ADatagram piece) n = refl
    by o turn (ALoss reason) n = refl
    by o turn AConnection n = refl

pub bi-before : (f : PairFacts) (j : ℕ) (x y : Item) → x.turn ≡ turns.PeerBi → is_bidirectional j ≡ true → IsItem f y.stream y.turn → is_before y x ≡ false → item_opens (j % 4) y ≡ []
bi-before f j x y t u g e = by y.stream y.turn g (ap (open_alike y.turn) (sym t) ∙ or-right (is_same_stream y.stream x.stream) (open_alike y.turn x.turn) e)
  where
    by : (o : Option ℕ) (turn : Turn) → IsItem f o turn → open_alike turn turns.PeerBi ≡ false → named_opens (j % 4) o turn ≡ []
    by o turn (AUni i v) n = none-opened-by i j (swapped (j % 4) (i % 4) (kind-apart j i u v))
    by o turn (ABi i v) n = absurd (cc n)
    by o turn (APiece i piece) n = refl
    by o turn (AnEnd i) n = refl
    by o turn (AReset i code) n = refl
    by o turn (AStop i code) n = refl
    by o turn (AnAck i) n = refl
    by o turn (ADatagram piece) n = refl
    by o turn (ALoss reason) n = refl
    by o turn AConnection n = refl
