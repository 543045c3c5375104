-- The sessions, of which the one at an index is asked or changed.
use Rattle.std.proofs.Common.{◌+◌, ◌≡◌, ◌≤◌, ◌∙◌, ◌∷◌, [], Bool, List, None, Option, Some, ap, arith, false, get_or, length, refl, set, subst, suc, sym, true, zero, ℕ}
use Rattle.std.proofs.lemmas.Bool.Decides.{nat_tests}
use Rattle.std.proofs.lemmas.List.Quantifiers.{position-Some}
use Rattle.std.specs.List.{insert, position, position_or_len}
use Rattle.std.specs.Prelude.{◌==◌, Err, IfOk, Ok, OnOk, Result, if◌then◌else◌, nat_lt, not, option_map, slice_get, unwrap_or}
use Rattle.wt_kept.specs.Counting.{CountsLive, CountsRead}
use Rattle.wt_kept.specs.Kept.{LiveNow, SessionsNow, WindowNow, WorkNow}
use Rattle.wt_kept.specs.Readers.{ReadOn, read_on, session_rules}
use Rattle.wt_kept.specs.Windows.{Admits, Gone, Taken, admit_by, given_stream, is_gone_now, is_live, live_in, with_live, with_live_by_id}
use Rattle.wt_transport.specs.State.{TransportState}
use Rattle.wt_peer_streams.proofs.Lists.{found-changed, found-is, none-changed, none-is}
use Rattle.wt_peer_streams.specs.Living.{InWindow, LiveRead, ids_of, in_window, live_read, live_taken, news_by, news_of_reader, some_ids, stream_given, with_reader}
use Rattle.wt_proto.specs.SessionReader.{SessionReader}

module _ (s : ℕ) (d : SessionsNow) (i : ℕ) (x : LiveNow) (at : position (is_live s) d.living ≡ Some i) (is : x ≡ get_or d.living i x) where
  -- it lives
  pub live-found : live_in d s ≡ Some x
  live-found = found-is (is_live s) d.living i x at ∙ ap (λ (y : LiveNow). Some y) (sym is)

  -- it is the one of this id
  pub live-id : x.id ≡ s
  live-id =
      let e : (x.id == s) ≡ true = ap (λ (y : LiveNow). y.id == s) is ∙ (position-Some (is_live s) d.living i x at).1 in
      grind (arith, nat_tests)

  -- it is changed
  pub live-changed : (f : LiveNow → LiveNow) → record d { living = set d.living i (f x) } ≡ with_live f s d
  live-changed f = ap (λ (y : LiveNow). record d { living = set d.living i (f y) }) is ∙ ap (λ xs. record d { living = xs }) (found-changed (is_live s) f d.living i x at)

  -- its window takes something in
  pub live-admits : (take : WindowNow → Taken) (gone : Bool) (r : InWindow) → r ≡ in_window take x → ◌≡◌ {A = Admits} (record { admission = r.admission; sessions = record d { living = set d.living i r.live } }) (admit_by take (live_in d s) gone d)
  live-admits take gone r e =
      let f : LiveNow → LiveNow = λ y. record y { window = (take y.window).window } in
      ap (λ (q : InWindow). record { admission = q.admission; sessions = record d { living = set d.living i q.live } }) e
      ∙ (ap (λ ds. record { admission = (take x.window).admission; sessions = ds }) (live-changed f ∙ ap (λ k. with_live f k d) (sym live-id))
      ∙ sym (ap (λ o. admit_by take o gone d) live-found))

  -- its stream is read on
  pub live-reads : (t : TransportState) (live : LiveNow) (now : TransportState) → ◌≡◌ {A = ReadOn SessionReader} (record { reader = live.reader; transport = now }) (read_on session_rules x.id x.reader t) → live ≡ with_reader live.reader x
      → ◌≡◌ {A = LiveRead} (record { sessions = record d { living = set d.living i live }; transport = now }) (live_read s (live_in d s) d t)
  live-reads t live now e same =
      let read : ◌≡◌ {A = ReadOn SessionReader} (record { reader = live.reader; transport = now }) (read_on session_rules s x.reader t) = e ∙ ap (λ k. read_on session_rules k x.reader t) live-id in
      ap (λ y. record { sessions = record d { living = set d.living i y }; transport = now }) same
      ∙ (ap (λ ds. record { sessions = ds; transport = now }) (live-changed (with_reader live.reader))
      ∙ (ap (λ (y : ReadOn SessionReader). record { sessions = with_live (with_reader y.reader) s d; transport = y.transport }) read
      ∙ sym (ap (λ o. live_read s o d t) live-found)))

-- it doesn't live
pub live-none : (s : ℕ) (d : SessionsNow) → position (is_live s) d.living ≡ None → live_in d s ≡ None
live-none s d e = none-is (is_live s) d.living e

-- no session is changed that isn't there
pub changed-none : (f : LiveNow → LiveNow) (s : ℕ) (d : SessionsNow) → position (is_live s) d.living ≡ None → d ≡ with_live f s d
changed-none f s d e = ap (λ xs. record d { living = xs }) (none-changed (is_live s) f d.living e)

set-same : {X : Type 0} (xs : List X) (i : ℕ) (x : X) → x ≡ get_or xs i x → set xs i x ≡ xs
set-same [] i x e = refl
set-same (y ∷ ys) zero x e = ap (λ z. z ∷ ys) e
set-same (y ∷ ys) (suc i) x e = ap (λ zs. y ∷ zs) (set-same ys i x e)

-- nothing is changed
pub live-same : (d : SessionsNow) (i : ℕ) (x : LiveNow) → x ≡ get_or d.living i x → record d { living = set d.living i x } ≡ d
live-same d i x e = ap (λ xs. record d { living = xs }) (set-same d.living i x e)

-- ---- by id

len-within : {X : Type 0} (p : X → Bool) (xs : List X) → position_or_len p xs ≤ length xs
len-within p [] = omega arith
len-within p (x ∷ xs) = either (p x) (len-within p xs)
  where
    either : (b : Bool) → position_or_len p xs ≤ length xs → (if not b then 1 + position_or_len p xs else 0) ≤ suc (length xs)
    either true le = omega arith
    either false le = omega arith

-- where the first that passes stands, else the end
or-length : {X : Type 0} (p : X → Bool) (xs : List X) → unwrap_or (position p xs) (length xs) ≡ position_or_len p xs
or-length p xs = either (nat_lt (position_or_len p xs) (length xs)) refl (len-within p xs)
  where
    either : (b : Bool) → nat_lt (position_or_len p xs) (length xs) ≡ b → position_or_len p xs ≤ length xs → unwrap_or (if b then Some (position_or_len p xs) else None) (length xs) ≡ position_or_len p xs
    either true e le = refl
    either false e le = grind (arith, nat_tests)

by-first : (x : LiveNow) (xs : List LiveNow) → insert xs (position_or_len (λ (y : LiveNow). nat_lt x.id y.id) xs) x ≡ with_live_by_id x xs
by-first x [] = refl
by-first x (y ∷ ys) = either (nat_lt x.id y.id) (by-first x ys)
  where
    either : (b : Bool) → insert ys (position_or_len (λ (z : LiveNow). nat_lt x.id z.id) ys) x ≡ with_live_by_id x ys
        → insert (y ∷ ys) (if not b then 1 + position_or_len (λ (z : LiveNow). nat_lt x.id z.id) ys else 0) x ≡ (if b then x ∷ y ∷ ys else y ∷ with_live_by_id x ys)
    either true later = refl
    either false later =
        let e : 1 + position_or_len (λ (z : LiveNow). nat_lt x.id z.id) ys ≡ suc (position_or_len (λ (z : LiveNow). nat_lt x.id z.id) ys) = omega arith in
        ap (λ n. insert (y ∷ ys) n x) e ∙ ap (λ zs. y ∷ zs) later

-- one more stands in front of the first that comes after it
pub by-id : (x : LiveNow) (xs : List LiveNow) → insert xs (unwrap_or (position (λ (y : LiveNow). nat_lt x.id y.id) xs) (length xs)) x ≡ with_live_by_id x xs
by-id x xs = ap (λ n. insert xs n x) (or-length (λ (y : LiveNow). nat_lt x.id y.id) xs) ∙ by-first x xs

pub place-within : (x : LiveNow) (xs : List LiveNow) → unwrap_or (position (λ (y : LiveNow). nat_lt x.id y.id) xs) (length xs) ≤ length xs
place-within x xs = let e = or-length (λ (y : LiveNow). nat_lt x.id y.id) xs in let le = len-within (λ (y : LiveNow). nat_lt x.id y.id) xs in omega arith

-- at most 4 live
pub four-ids : (xs : List LiveNow) → length xs ≤ 4
    → some_ids (option_map (λ (x : LiveNow). x.id) (slice_get xs 0) ∷ option_map (λ (x : LiveNow). x.id) (slice_get xs 1) ∷ option_map (λ (x : LiveNow). x.id) (slice_get xs 2) ∷ option_map (λ (x : LiveNow). x.id) (slice_get xs 3) ∷ []) ≡ ids_of xs
four-ids [] le = refl
four-ids (a ∷ []) le = refl
four-ids (a ∷ b ∷ []) le = refl
four-ids (a ∷ b ∷ c ∷ []) le = refl
four-ids (a ∷ b ∷ c ∷ e ∷ []) le = refl
four-ids (a ∷ b ∷ c ∷ e ∷ f ∷ xs) le = absurd (omega arith)

-- a session is asked for by its own stream, which has its id
pub asked : (d : SessionsNow) {k s : ℕ} {o : Option ℕ} → o ≡ position (is_live k) d.living → k ≡ s → o ≡ position (is_live s) d.living
asked d at same = at ∙ ap (λ n. position (is_live n) d.living) same

-- ---- as code asks them: d are the fields that stand for the value

module _ (s : ℕ) (d now : SessionsNow) (i : ℕ) (x : LiveNow) (view : d ≡ now) (at : Some i ≡ position (is_live s) now.living) (is : x ≡ get_or d.living i x) where
  at-fields : position (is_live s) d.living ≡ Some i
  at-fields = ap (λ (e : SessionsNow). position (is_live s) e.living) view ∙ sym at

  pub found-at : live_in now s ≡ Some x
  found-at = sym (ap (λ (e : SessionsNow). live_in e s) view) ∙ live-found s d i x at-fields is

  pub id-at : x.id ≡ s
  id-at = live-id s d i x at-fields is

  pub changed-at : (f : LiveNow → LiveNow) (y : LiveNow) → y ≡ f x → record d { living = set d.living i y } ≡ with_live f s now
  changed-at f y e = ap (λ z. record d { living = set d.living i z }) e ∙ (live-changed s d i x at-fields is f ∙ ap (λ (k : SessionsNow). with_live f s k) view)

  pub same-at : (y : LiveNow) → y ≡ x → record d { living = set d.living i y } ≡ now
  same-at y e = ap (λ z. record d { living = set d.living i z }) e ∙ (live-same d i x is ∙ view)

  pub admits-at : (take : WindowNow → Taken) (r : InWindow) → r ≡ in_window take x → ◌≡◌ {A = Admits} (record { admission = r.admission; sessions = record d { living = set d.living i r.live } }) (admit_by take (live_in now s) (is_gone_now now s) now)
  admits-at take r e = live-admits s d i x at-fields is take (is_gone_now d s) r e ∙ ap (λ (k : SessionsNow). admit_by take (live_in k s) (is_gone_now k s) k) view

  -- the same, where the session's fields stand for it
  pub admits-in : (fields : LiveNow) → fields ≡ x → (take : WindowNow → Taken) (q : Taken) → q ≡ take fields.window
      → ◌≡◌ {A = Admits} (record { admission = q.admission; sessions = record d { living = set d.living i (record fields { window = q.window }) } }) (admit_by take (live_in now s) (is_gone_now now s) now)
  admits-in fields same take q e =
      admits-at take (record { admission = q.admission; live = record fields { window = q.window } })
      (ap (λ (t : Taken). record { admission = t.admission; live = record fields { window = t.window } }) e ∙ ap (in_window take) same)

  pub reads-at : (t : TransportState) (live : LiveNow) (then_t : TransportState) → ◌≡◌ {A = ReadOn SessionReader} (record { reader = live.reader; transport = then_t }) (read_on session_rules x.id x.reader t) → live ≡ with_reader live.reader x
      → ◌≡◌ {A = LiveRead} (record { sessions = record d { living = set d.living i live }; transport = then_t }) (live_read s (live_in now s) now t)
  reads-at t live then_t e same = live-reads s d i x at-fields is t live then_t e same ∙ ap (λ (k : SessionsNow). live_read s (live_in k s) k t) view

  -- a call took a stream, or none
  pub given-at : (o : Option ℕ) (y : LiveNow) → y ≡ live_taken o x → record d { living = set d.living i y } ≡ stream_given s o now
  given-at None y e = same-at y e
  given-at (Some id) y e = changed-at (given_stream id) y e

  -- what its stream says
  pub news-at : (f : ℕ → WorkNow) (t : TransportState) (y : SessionReader) (then_t : TransportState) (w : WorkNow) → ◌≡◌ {A = ReadOn SessionReader} (record { reader = y; transport = then_t }) (read_on session_rules x.id x.reader t) → f x.id ≡ news_by x.id y w
      → f s ≡ news_of_reader s (live_in now s) t w
  news-at f t y then_t w e says =
      ap f (sym id-at)
      ∙ (says
      ∙ (ap (λ (o : ReadOn SessionReader). news_by x.id o.reader w) e
      ∙ (ap (λ k. news_by k (read_on session_rules k x.reader t).reader w) id-at ∙ sym (ap (λ o. news_of_reader s o t w) found-at))))

  -- its reader counts
  pub counts-at : (t : TransportState) (y : SessionReader) (then_t : TransportState) (before after : ℕ) → ◌≡◌ {A = ReadOn SessionReader} (record { reader = y; transport = then_t }) (read_on session_rules x.id x.reader t)
      → CountsRead session_rules.has_said x.id t (record { reader = y; transport = then_t }) before after → CountsLive s (live_in now s) t before after
  counts-at t y then_t before after e counts =
      subst (λ (o : Option LiveNow). CountsLive s o t before after) (sym found-at)
      (subst (λ (k : ℕ). CountsRead session_rules.has_said k t (read_on session_rules k x.reader t) before after) id-at
      (subst (λ (o : ReadOn SessionReader). CountsRead session_rules.has_said x.id t o before after) e counts))

-- none lives of this id
pub none-at : (s : ℕ) (d : SessionsNow) → None ≡ position (is_live s) d.living → live_in d s ≡ None
none-at s d e = live-none s d (sym e)

pub none-counts-at : (s : ℕ) (d : SessionsNow) (t : TransportState) (steps : ℕ) → None ≡ position (is_live s) d.living → CountsLive s (live_in d s) t steps steps
none-counts-at s d t steps e = subst (λ (o : Option LiveNow). CountsLive s o t steps steps) (sym (none-at s d e)) (omega arith)

pub unchanged-at : (f : LiveNow → LiveNow) (s : ℕ) (d : SessionsNow) → None ≡ position (is_live s) d.living → d ≡ with_live f s d
unchanged-at f s d e = changed-none f s d (sym e)

pub gone-at : (take : WindowNow → Taken) (s : ℕ) (d : SessionsNow) → None ≡ position (is_live s) d.living → is_gone_now d s ≡ true → ◌≡◌ {A = Admits} (record { admission = Gone; sessions = d }) (admit_by take (live_in d s) (is_gone_now d s) d)
gone-at take s d e gone = sym ((λ i. admit_by take (none-at s d e i) (gone i) d))

pub early-at : (take : WindowNow → Taken) (s : ℕ) (d : SessionsNow) → None ≡ position (is_live s) d.living → is_gone_now d s ≡ false → (r : Taken) → r ≡ take d.early
    → ◌≡◌ {A = Admits} (record { admission = r.admission; sessions = record d { early = r.window } }) (admit_by take (live_in d s) (is_gone_now d s) d)
early-at take s d e gone r same = ap (λ (q : Taken). record { admission = q.admission; sessions = record d { early = q.window } }) same ∙ sym ((λ i. admit_by take (none-at s d e i) (gone i) d))

-- the same, as code asks it
pub early-by : (take : WindowNow → Taken) (s : ℕ) (d now : SessionsNow) → d ≡ now → None ≡ position (is_live s) now.living → is_gone_now now s ≡ false → (r : Taken) → r ≡ take d.early
    → ◌≡◌ {A = Admits} (record { admission = r.admission; sessions = record d { early = r.window } }) (admit_by take (live_in now s) (is_gone_now now s) now)
early-by take s d now view e gone r same =
    ap (λ (q : Taken). record { admission = q.admission; sessions = record d { early = q.window } }) same
    ∙ (ap (λ (k : SessionsNow). record { admission = (take k.early).admission; sessions = record k { early = (take k.early).window } }) view ∙ sym ((λ i. admit_by take (none-at s now e i) (gone i) now)))

-- what a call that may lack memory gave
pub if-ok : {T E : Type 0} {P Q : T → Type 0} (r : Result T E) → ((a : T) → P a → Q a) → IfOk r P → IfOk r Q
if-ok (Ok a) f p = f a p
if-ok (Err e) f p = p

pub on-ok : {T E P Q : Type 0} (r : Result T E) → (P → Q) → OnOk r P → OnOk r Q
on-ok (Ok a) f p = f p
on-ok (Err e) f p = p

pub on-both : {T E P Q R : Type 0} (r : Result T E) → (P → Q → R) → OnOk r P → OnOk r Q → OnOk r R
on-both (Ok a) f p q = f p q
on-both (Err e) f p q = p

pub if-both : {T E Q : Type 0} {P R : T → Type 0} (r : Result T E) → ((a : T) → P a → Q → R a) → IfOk r P → OnOk r Q → IfOk r R
if-both (Ok a) f p q = f a p q
if-both (Err e) f p q = p
