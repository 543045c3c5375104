-- What of an action, or of what waits, concerns one stream: that it is opened, its bytes, its end. Views of lists of both.
use Rattle.std.specs.Prelude.{[], ◌%◌, ◌++◌, ◌==◌, ◌∷◌, ◌||◌, ◌≡◌, Bool, List, None, Option, Some, false, filter_map, flat_map, if◌then◌else◌, map, true, ℕ}
use Rattle.std.proofs.Common.{◌∙◌, ap, append_assoc, refl, sym}
use Rattle.std.proofs.lemmas.Bool.{eqb-true}
use Rattle.std.proofs.lemmas.List.{append-nil, map-append}
use Rattle.std.proofs.lemmas.List.Concat.{flat_map-append}
use Rattle.wt_meaning.specs.History.{History, out}
use Rattle.wt_meaning.specs.Meaning.{after_bytes, answer_to, bytes_actions, history_after, next, step}
use Rattle.wt_pair.specs.Link.{item_of}
use Rattle.wt_pair.specs.Streams.{Byte, Ends, Mark, Opens, item_marks, marks_if, named_marks}
use Rattle.wt_pair.specs.declared.item.Item.{Item}
use Rattle.wt_promise.proofs.BytesOut.{bytes_on, out-add, piece_on}
use Rattle.wt_turn.specs.Joined.{join_all, join_one, join_two}
use Rattle.wt_turn.specs.declared.action.Action.{Action}
use Rattle.wt_turn.specs.declared.turn.Turn.{Turn}
use Rattle.wt_wire.specs.Ids.{is_bidirectional}
use Rattle.wt_wire.specs.declared.side.Side.{Side}
use Rattle.wt_turn.specs.declared.action.Action.TheVariants as actions
use Rattle.wt_turn.specs.declared.turn.Turn.TheVariants as turns

-- ---- marks

-- what an action does on the stream
abbrev pub act_marks : ℕ → Action → List Mark
act_marks k (actions.Opened id) = marks_if (id == k) (Opens ∷ [])
act_marks k (actions.Send id piece) = marks_if (id == k) (map Byte piece)
act_marks k (actions.Finish id) = marks_if (id == k) (Ends ∷ [])
act_marks k (actions.ResetOut id code) = marks_if (id == k) (Ends ∷ [])
act_marks k _ = []

-- the streams of a kind that an action opens
abbrev pub act_opens : ℕ → Action → List ℕ
act_opens kind (actions.Opened id) = marks_if (id % 4 == kind) (id ∷ [])
act_opens kind _ = []

abbrev pub turn_opens : ℕ → ℕ → Turn → List ℕ
turn_opens kind j turns.PeerUni = marks_if (j % 4 == kind) (j ∷ [])
turn_opens kind j turns.PeerBi = marks_if (j % 4 == kind) (j ∷ [])
turn_opens kind j _ = []

abbrev pub named_opens : ℕ → Option ℕ → Turn → List ℕ
named_opens kind None turn = []
named_opens kind (Some j) turn = turn_opens kind j turn

abbrev pub item_opens : ℕ → Item → List ℕ
item_opens kind x = named_opens kind x.stream x.turn

-- ---- a view of joined actions

module _ {T : Type 0} (v : Action → List T) (joins : (i : ℕ) (p q : List ℕ) → v (actions.Send i (p ++ q)) ≡ v (actions.Send i p) ++ v (actions.Send i q)) where
  view-two : (b a : Action) → flat_map v (join_two b a) ≡ v b ++ (v a ++ [])
  view-two (actions.Send i p) (actions.Send j q) = by (i == j) refl
    where
      by : (c : Bool) → (i == j) ≡ c
          → flat_map v (if c then actions.Send i (p ++ q) ∷ [] else actions.Send i p ∷ actions.Send j q ∷ []) ≡ v (actions.Send i p) ++ (v (actions.Send j q) ++ [])
      by false e = refl
      by true e = append-nil (v (actions.Send i (p ++ q))) ∙ joins i p q ∙ ap (λ (n : ℕ). v (actions.Send i p) ++ v (actions.Send n q)) (eqb-true i j e)
          ∙ ap (λ (l : List T). v (actions.Send i p) ++ l) (sym (append-nil (v (actions.Send j q))))
  view-two b a = refl

  view-one : (before : List Action) (a : Action) → flat_map v (join_one before a) ≡ flat_map v before ++ v a
  view-one [] a = append-nil (v a)
  view-one (b ∷ []) a = view-two b a ∙ ap (λ (l : List T). v b ++ l) (append-nil (v a)) ∙ ap (λ (l : List T). l ++ v a) (sym (append-nil (v b)))
  view-one (b ∷ c ∷ later) a = ap (λ (l : List T). v b ++ l) (view-one (c ∷ later) a) ∙ sym (append_assoc (v b) (flat_map v (c ∷ later)) (v a))

  pub view-join : (before later : List Action) → flat_map v (join_all before later) ≡ flat_map v before ++ flat_map v later
  view-join before [] = sym (append-nil (flat_map v before))
  view-join before (a ∷ later) =
      view-join (join_one before a) later ∙ ap (λ (l : List T). l ++ flat_map v later) (view-one before a) ∙ append_assoc (flat_map v before) (v a) (flat_map v later)

-- ---- all that went out

-- of a history, in order
abbrev pub emitted : {T : Type 0} → (Action → List T) → History → List T
emitted v [] = []
emitted v (p ∷ h) = emitted v h ++ flat_map v p.answer.actions

module _ {T : Type 0} (v : Action → List T) (joins : (i : ℕ) (p q : List ℕ) → v (actions.Send i (p ++ q)) ≡ v (actions.Send i p) ++ v (actions.Send i q)) where
  emitted-bytes : (side : Side) (k : ℕ) (bytes : List ℕ) (h : History) → emitted v (after_bytes side h k bytes) ≡ emitted v h ++ flat_map v (bytes_actions side h k bytes)
  emitted-bytes side k [] h = sym (append-nil (emitted v h))
  emitted-bytes side k (b ∷ bytes) h =
      emitted-bytes side k bytes (step side h (turns.Bytes k (b ∷ [])))
      ∙ append_assoc (emitted v h) (flat_map v (next side h (turns.Bytes k (b ∷ []))).actions) (flat_map v (bytes_actions side (step side h (turns.Bytes k (b ∷ []))) k bytes))
      ∙ ap (λ (l : List T). emitted v h ++ l) (sym (view-join v joins (next side h (turns.Bytes k (b ∷ []))).actions (bytes_actions side (step side h (turns.Bytes k (b ∷ []))) k bytes)))

  -- after a turn
  pub emitted-after : (side : Side) (h : History) (turn : Turn) → emitted v (history_after side h turn) ≡ emitted v h ++ flat_map v (answer_to side h turn).actions
  emitted-after side h (turns.Bytes id piece) = emitted-bytes side id piece h
  emitted-after side h turn = refl

pub marks-join : (k i : ℕ) (p q : List ℕ) → act_marks k (actions.Send i (p ++ q)) ≡ act_marks k (actions.Send i p) ++ act_marks k (actions.Send i q)
marks-join k i p q = by (i == k)
  where
    by : (b : Bool) → marks_if b (map Byte (p ++ q)) ≡ marks_if b (map Byte p) ++ marks_if b (map Byte q)
    by true = map-append Byte p q
    by false = refl

pub opens-join : (kind i : ℕ) (p q : List ℕ) → act_opens kind (actions.Send i (p ++ q)) ≡ act_opens kind (actions.Send i p) ++ act_opens kind (actions.Send i q)
opens-join kind i p q = refl

-- ---- the items of actions

module _ {T : Type 0} (v : Action → List T) (w : Item → List T) (same : (a : Action) → flat_map w (filter_map item_of (a ∷ [])) ≡ v a) where
  pub view-items : (as_ : List Action) → flat_map w (filter_map item_of as_) ≡ flat_map v as_
  view-items [] = refl
  view-items (a ∷ as_) = ap (flat_map w) (split a) ∙ flat_map-append w (filter_map item_of (a ∷ [])) (filter_map item_of as_) ∙ ap (λ (l : List T). l ++ flat_map w (filter_map item_of as_)) (same a)
      ∙ ap (λ (l : List T). v a ++ l) (view-items as_)
    where
      split : (x : Action) → filter_map item_of (x ∷ as_) ≡ filter_map item_of (x ∷ []) ++ filter_map item_of as_
      split (actions.Dial address name) = refl
      split x = refl

-- nothing, where a test holds
pub none-marked : {T : Type 0} (b : Bool) → ◌≡◌ {A = List T} (marks_if b []) []
none-marked true = refl
none-marked false = refl

pub marks-item : (k : ℕ) (a : Action) → flat_map (item_marks k) (filter_map item_of (a ∷ [])) ≡ act_marks k a
marks-item k (actions.Dial address name) = refl
marks-item k (actions.Opened id) = by (is_bidirectional id)
  where
    by : (b : Bool) → named_marks k (Some id) (if b then turns.PeerBi else turns.PeerUni) ++ [] ≡ marks_if (id == k) (Opens ∷ [])
    by true = append-nil (marks_if (id == k) (Opens ∷ []))
    by false = append-nil (marks_if (id == k) (Opens ∷ []))
marks-item k (actions.Send id piece) = append-nil (marks_if (id == k) (map Byte piece))
marks-item k (actions.Finish id) = append-nil (marks_if (id == k) (Ends ∷ []))
marks-item k (actions.ResetOut id code) = append-nil (marks_if (id == k) (Ends ∷ []))
marks-item k (actions.StopOut id code) = ap (λ (l : List Mark). l ++ []) (none-marked (id == k))
marks-item k (actions.DatagramOut piece) = refl
marks-item k (actions.Close code reason) = refl

pub opens-item : (kind : ℕ) (a : Action) → flat_map (item_opens kind) (filter_map item_of (a ∷ [])) ≡ act_opens kind a
opens-item kind (actions.Opened id) = by (is_bidirectional id)
  where
    by : (b : Bool) → named_opens kind (Some id) (if b then turns.PeerBi else turns.PeerUni) ++ [] ≡ marks_if (id % 4 == kind) (id ∷ [])
    by true = append-nil (marks_if (id % 4 == kind) (id ∷ []))
    by false = append-nil (marks_if (id % 4 == kind) (id ∷ []))
opens-item kind (actions.Dial address name) = refl
opens-item kind a = refl

-- ---- what marks say

abbrev pub bytes_marked : List Mark → List ℕ
bytes_marked [] = []
bytes_marked (Byte b ∷ ms) = b ∷ bytes_marked ms
bytes_marked (m ∷ ms) = bytes_marked ms

abbrev pub any_opens : List Mark → Bool
any_opens [] = false
any_opens (Opens ∷ ms) = true
any_opens (m ∷ ms) = any_opens ms

abbrev pub any_ends : List Mark → Bool
any_ends [] = false
any_ends (Ends ∷ ms) = true
any_ends (m ∷ ms) = any_ends ms

pub bytes-parts : (xs ys : List Mark) → bytes_marked (xs ++ ys) ≡ bytes_marked xs ++ bytes_marked ys
bytes-parts [] ys = refl
bytes-parts (Byte b ∷ xs) ys = ap (λ (l : List ℕ). b ∷ l) (bytes-parts xs ys)
bytes-parts (Opens ∷ xs) ys = bytes-parts xs ys
bytes-parts (Ends ∷ xs) ys = bytes-parts xs ys

pub opens-parts : (xs ys : List Mark) → any_opens (xs ++ ys) ≡ (any_opens xs || any_opens ys)
opens-parts [] ys = refl
opens-parts (Byte b ∷ xs) ys = opens-parts xs ys
opens-parts (Opens ∷ xs) ys = refl
opens-parts (Ends ∷ xs) ys = opens-parts xs ys

pub ends-parts : (xs ys : List Mark) → any_ends (xs ++ ys) ≡ (any_ends xs || any_ends ys)
ends-parts [] ys = refl
ends-parts (Byte b ∷ xs) ys = ends-parts xs ys
ends-parts (Opens ∷ xs) ys = ends-parts xs ys
ends-parts (Ends ∷ xs) ys = refl

pub bytes-map : (bytes : List ℕ) → bytes_marked (map Byte bytes) ≡ bytes
bytes-map [] = refl
bytes-map (b ∷ bytes) = ap (λ (l : List ℕ). b ∷ l) (bytes-map bytes)

pub map-opens : (bytes : List ℕ) → any_opens (map Byte bytes) ≡ false
map-opens [] = refl
map-opens (b ∷ bytes) = map-opens bytes

pub map-ends : (bytes : List ℕ) → any_ends (map Byte bytes) ≡ false
map-ends [] = refl
map-ends (b ∷ bytes) = map-ends bytes

-- ---- the bytes that went out

marked-actions : (k : ℕ) (as_ : List Action) → bytes_marked (flat_map (act_marks k) as_) ≡ bytes_on k as_
marked-actions k [] = refl
marked-actions k (a ∷ as_) = bytes-parts (act_marks k a) (flat_map (act_marks k) as_) ∙ ap (λ (l : List ℕ). l ++ bytes_marked (flat_map (act_marks k) as_)) (by a)
    ∙ ap (λ (l : List ℕ). piece_on k a ++ l) (marked-actions k as_)
  where
    sent : (b : Bool) (piece : List ℕ) → bytes_marked (marks_if b (map Byte piece)) ≡ (if b then piece else [])
    sent true piece = bytes-map piece
    sent false piece = refl

    none : (b : Bool) (m : Mark) → bytes_marked (m ∷ []) ≡ [] → ◌≡◌ {A = List ℕ} (bytes_marked (marks_if b (m ∷ []))) []
    none true m e = e
    none false m e = refl

    by : (x : Action) → bytes_marked (act_marks k x) ≡ piece_on k x
    by (actions.Send id piece) = sent (id == k) piece
    by (actions.Opened id) = none (id == k) Opens refl
    by (actions.Finish id) = none (id == k) Ends refl
    by (actions.ResetOut id code) = none (id == k) Ends refl
    by x = refl

pub marked-out : (k : ℕ) (h : History) → bytes_marked (emitted (act_marks k) h) ≡ out h k
marked-out k [] = refl
marked-out k (p ∷ h) =
    bytes-parts (emitted (act_marks k) h) (flat_map (act_marks k) p.answer.actions) ∙ ap (λ (l : List ℕ). l ++ bytes_marked (flat_map (act_marks k) p.answer.actions)) (marked-out k h)
    ∙ ap (λ (l : List ℕ). out h k ++ l) (marked-actions k p.answer.actions) ∙ sym (out-add p h k)
