-- The datagrams and the sessions of a moment on what is kept are those of the definitions.
use Rattle.std.proofs.Common.{◌≡◌, ◌≤◌, ◌*◌, ℕ, Bool, true, false, cond, List, [], ◌∷◌, ◌++◌, filter, filter_map, find, refl, sym, ap, ◌∙◌, arith}
use Rattle.std.specs.Prelude.{not, Option, Some, None, Result, Ok, Err, ◌==◌, ◌||◌, ◌&&◌, drop}
use Rattle.std.specs.List.{list_any}
use Rattle.std.proofs.lemmas.Bool.{eqb-true, or_parts, true≢false}
use Rattle.wt_message.specs.Datagram.{datagram_of}
use Rattle.wt_proto.specs.SessionWalk.{is_over, session_walk_of}
use Rattle.wt_proto.specs.declared.session_walk.SessionWalk.{SessionWalk}
use Rattle.wt_proto.specs.declared.session_walk.SessionWalk.TheVariants as walks
use Rattle.wt_wire.specs.declared.side.StreamEnd.TheVariants as ends
use Rattle.wt_sessions.proofs.Scans.{any-append, eqb-other, filter-both, filter-filter, neither, not-either, or-false}
use Rattle.wt_sessions.specs.DriverState.{DriverState, state_by}
use Rattle.wt_sessions.specs.Step.{check_each_now, check_session_now, forget, parsed_now, place_now, take_each_now, walked_now, with_closed}
use Rattle.wt_sessions.specs.Driver.{ControlSent}
use Rattle.wt_sessions.specs.Scan.{admit_datagram, check_each, check_living, is_admitted, session_walked, take_each, take_parsed, unless_ended, with_looked_at}
use Rattle.wt_sessions.specs.StreamTable.{Admitted, CallView, Closed, DriverProgress, Session, StreamTable, TransportView, Waiting, dispatched_streams, has_room, is_closed, is_gone, is_turned_away, queued_id, waits_in}
use Rattle.wt_wire.specs.declared.error.ErrorCode.{ErrorCode}

-- ---- datagrams

not-true : (b : Bool) → not b ≡ true → b ≡ false
not-true true e = absurd (true≢false (sym e))
not-true false e = refl

and-first : (a b : Bool) → (a && b) ≡ true → a ≡ true
and-first true b e = refl
and-first false b e = absurd (true≢false (sym e))

module _ (t : TransportView) (calls : CallView) (sent : ControlSent) (open_ : Bool) where
  -- what is kept of a table
  abbrev pub kept_of : StreamTable → DriverState
  kept_of table = state_by t calls sent open_ table

  dispatched-placed : (table : StreamTable) (x : Admitted) → calls.received x.index ≡ false → is_gone calls table x.session ≡ false
      → dispatched_streams calls (record table { datagrams = table.datagrams ++ x ∷ [] })
      ≡ record (dispatched_streams calls table) { datagrams = (dispatched_streams calls table).datagrams ++ x ∷ [] }
  dispatched-placed table x r g =
      λ i. record (dispatched_streams calls table) {
        datagrams = (filter-both (λ (d : Admitted). not (calls.received d.index) && not (is_gone calls table d.session)) table.datagrams (x ∷ [])
            ∙ (λ j. (dispatched_streams calls table).datagrams ++ cond (not (r j) && not (g j)) (x ∷ []) [])) i;
      }

  place-follows : (b : Bool) (s : ℕ) (payload : List ℕ) (table : StreamTable) → is_admitted (dispatched_streams calls table) s ≡ b → calls.received table.progress.datagrams ≡ false
      → kept_of (admit_datagram b s payload table) ≡ place_now b s payload (kept_of table)
  place-follows true s payload table e r =
      λ i. record (kept_of table) {
        progress = with_looked_at table.progress;
        dispatched = dispatched-placed table (record { index = table.progress.datagrams; session = s; payload = payload }) r
            (not-true (is_gone calls table s) (and-first (not (is_gone calls table s)) (has_room (dispatched_streams calls table) s _) e)) i;
      }
  place-follows false s payload table e r = refl

  -- no fewer are looked at after it
  admit-progress : (b : Bool) (s : ℕ) (payload : List ℕ) (table : StreamTable) → table.progress.datagrams ≤ (admit_datagram b s payload table).progress.datagrams
  admit-progress true s payload table = omega arith
  admit-progress false s payload table = omega arith

  -- no datagram that wasn't looked at was received
  abbrev pub AreUnreceived : ℕ → Type 0
  AreUnreceived m = (n : ℕ) → m ≤ n → calls.received n ≡ false

  parsed-follows : (r : Result (ℕ × List ℕ) ErrorCode) (table : StreamTable) → AreUnreceived table.progress.datagrams
      → kept_of (take_parsed calls r table) ≡ parsed_now r (kept_of table)
  parsed-follows (Ok d) table un =
      place-follows (is_admitted (dispatched_streams calls table) (4 * d.0)) (4 * d.0) d.1 table refl (un table.progress.datagrams (omega arith))
  parsed-follows (Err code) table un = refl

  parsed-progress : (r : Result (ℕ × List ℕ) ErrorCode) (table : StreamTable) → table.progress.datagrams ≤ (take_parsed calls r table).progress.datagrams
  parsed-progress (Ok d) table = admit-progress (is_admitted (dispatched_streams calls table) (4 * d.0)) (4 * d.0) d.1 table
  parsed-progress (Err code) table = omega arith

  pub take-follows : (pieces : List (List ℕ)) (table : StreamTable) → AreUnreceived table.progress.datagrams → kept_of (take_each calls pieces table) ≡ take_each_now pieces (kept_of table)
  take-follows [] table un = refl
  take-follows (piece ∷ later) table un = by table.progress.fault (take-follows later next unreceived)
    where
      next : StreamTable
      next = take_parsed calls (datagram_of piece) table

      unreceived : AreUnreceived next.progress.datagrams
      unreceived n le = un n (let e = parsed-progress (datagram_of piece) table in omega (arith, e, le))

      by : (o : Option ErrorCode) → kept_of (take_each calls later next) ≡ take_each_now later (kept_of next)
          → kept_of (unless_ended o (λ u. take_each calls later (take_parsed calls (datagram_of piece) u)) table)
          ≡ unless_ended o (λ u. take_each_now later (parsed_now (datagram_of piece) u)) (kept_of table)
      by (Some code) again = refl
      by None again = again ∙ ap (λ (s : DriverState). take_each_now later s) (parsed-follows (datagram_of piece) table un)

-- ---- the sessions

or-middle : (a b c q : Bool) → (a || ((b || q) || c)) ≡ ((a || (b || c)) || q)
or-middle true b c q = refl
or-middle false true c q = refl
or-middle false false true true = refl
or-middle false false true false = refl
or-middle false false false q = or-false q

none-found : (k : ℕ) (xs : List Closed) → list_any (is_closed k) xs ≡ false → find (is_closed k) xs ≡ None
none-found k [] miss = refl
none-found k (y ∷ ys) miss =
    let parts = or_parts (y.id == k) (list_any (is_closed k) ys) miss in
    (λ i. cond (parts.0 i) (Some y) (find (is_closed k) ys)) ∙ none-found k ys parts.1

found-append : (k : ℕ) (xs : List Closed) (x : Closed) → list_any (is_closed x.id) xs ≡ false → find (is_closed k) (xs ++ x ∷ []) ≡ with_closed x (λ j. find (is_closed j) xs) k
found-append k [] x miss = refl
found-append k (y ∷ ys) x miss = by (y.id == k) (x.id == k) refl refl (found-append k ys x (or_parts (y.id == x.id) (list_any (is_closed x.id) ys) miss).1)
  where
    parts : ((y.id == x.id) ≡ false) × (list_any (is_closed x.id) ys ≡ false)
    parts = or_parts (y.id == x.id) (list_any (is_closed x.id) ys) miss

    by : (a b : Bool) → (y.id == k) ≡ a → (x.id == k) ≡ b → find (is_closed k) (ys ++ x ∷ []) ≡ with_closed x (λ j. find (is_closed j) ys) k
        → cond a (Some y) (find (is_closed k) (ys ++ x ∷ [])) ≡ cond b (Some x) (cond a (Some y) (find (is_closed k) ys))
    by true true e f again = absurd (true≢false (sym (ap (λ i. y.id == i) (eqb-true x.id k f) ∙ e) ∙ parts.0))
    by true false e f again = refl
    by false b e f again = again ∙ (λ i. cond (f i) (Some x) (find (is_closed k) ys))

module _ (calls : CallView) (table : StreamTable) (x : Closed) (p : DriverProgress) where
  -- the table with one more closed session
  abbrev with_end : StreamTable
  with_end = record table { closed = table.closed ++ x ∷ []; progress = p }

  gone-closed : (s : ℕ) → is_gone calls with_end s ≡ (is_gone calls table s || x.id == s)
  gone-closed s =
      ap (λ b. calls.ended s || (b || list_any (is_turned_away s) table.classified)) (any-append (is_closed s) table.closed x)
      ∙ or-middle (calls.ended s) (list_any (is_closed s) table.closed) (list_any (is_turned_away s) table.classified) (x.id == s)

  dispatched-closed : dispatched_streams calls with_end ≡ forget x.id (dispatched_streams calls table)
  dispatched-closed = λ i. record (dispatched_streams calls table) {
    held = filter-filter (λ (h : ℕ). not (x.id == h)) (λ (h : ℕ). not (is_gone calls table h)) (λ (h : ℕ). not (is_gone calls with_end h))
        (λ h. ap not (gone-closed h) ∙ not-either (is_gone calls table h) (x.id == h)) (filter_map queued_id table.classified) i;
    streams = filter-filter (λ (w : Waiting). not (x.id == w.session)) (λ (w : Waiting). not (is_gone calls table w.session)) (λ (w : Waiting). not (is_gone calls with_end w.session))
        (λ w. ap not (gone-closed w.session) ∙ not-either (is_gone calls table w.session) (x.id == w.session)) (filter_map (waits_in calls) table.classified) i;
    datagrams = filter-filter (λ (d : Admitted). not (x.id == d.session)) (λ (d : Admitted). not (calls.received d.index) && not (is_gone calls table d.session))
        (λ (d : Admitted). not (calls.received d.index) && not (is_gone calls with_end d.session))
        (λ d. ap (λ b. not (calls.received d.index) && not b) (gone-closed d.session) ∙ neither (not (calls.received d.index)) (is_gone calls table d.session) (x.id == d.session)) table.datagrams i;
    is_gone = λ s. gone-closed s i;
  }

  sessions-closed : filter (λ (s : Session). not (is_gone calls with_end s.id)) calls.sessions
      ≡ filter (λ (s : Session). not (x.id == s.id)) (filter (λ (s : Session). not (is_gone calls table s.id)) calls.sessions)
  sessions-closed = filter-filter (λ (s : Session). not (x.id == s.id)) (λ (s : Session). not (is_gone calls table s.id)) (λ (s : Session). not (is_gone calls with_end s.id))
      (λ s. ap not (gone-closed s.id) ∙ not-either (is_gone calls table s.id) (x.id == s.id)) calls.sessions

-- what isn't gone wasn't closed
unclosed : (a b c : Bool) → (a || (b || c)) ≡ false → b ≡ false
unclosed true b c e = absurd (true≢false e)
unclosed false true c e = absurd (true≢false e)
unclosed false false c e = refl

-- the id is one of these sessions'
abbrev pub is_among : ℕ → List Session → Bool
is_among k xs = list_any (λ (s : Session). s.id == k) xs

-- no session stands twice
abbrev pub AreDistinct : List Session → Type 0
AreDistinct [] = Unit {0}
AreDistinct (s ∷ later) = (is_among s.id later ≡ false) × AreDistinct later

module _ (t : TransportView) (calls : CallView) (sent : ControlSent) (open_ : Bool) where
  walked-follows : (k : ℕ) (by_capsule : Bool) (walk : SessionWalk) (table : StreamTable) → is_gone calls table k ≡ false
      → kept_of t calls sent open_ (session_walked t calls k by_capsule walk table) ≡ walked_now t k by_capsule walk (kept_of t calls sent open_ table)
  walked-follows k by_capsule walks.Running table e = refl
  walked-follows k by_capsule (walks.Fault code) table e = refl
  walked-follows k by_capsule (walks.Closed code reason) table e =
      let x : Closed = record { id = k; code = code; reason = reason } in
      let p : DriverProgress = (session_walked t calls k by_capsule (walks.Closed code reason) table).progress in
      λ i. record (walked_now t k by_capsule (walks.Closed code reason) (kept_of t calls sent open_ table)) {
        dispatched = dispatched-closed calls table x p i;
        closed = λ j. found-append j table.closed x (unclosed (calls.ended k) (list_any (is_closed k) table.closed) (list_any (is_turned_away k) table.classified) e) i;
        sessions = sessions-closed calls table x p i;
      }

  -- another session stays as it is
  pub gone-apart : (k j : ℕ) (by_capsule : Bool) (walk : SessionWalk) (table : StreamTable) → (k == j) ≡ false
      → is_gone calls (session_walked t calls k by_capsule walk table) j ≡ is_gone calls table j
  gone-apart k j by_capsule walks.Running table ne = refl
  gone-apart k j by_capsule (walks.Fault code) table ne = refl
  gone-apart k j by_capsule (walks.Closed code reason) table ne =
      gone-closed calls table (record { id = k; code = code; reason = reason }) (session_walked t calls k by_capsule (walks.Closed code reason) table).progress j
      ∙ ap (λ b. is_gone calls table j || b) ne ∙ or-false (is_gone calls table j)

  -- those that live
  abbrev pub living : StreamTable → List Session → List Session
  living table xs = filter (λ (s : Session). not (is_gone calls table s.id)) xs

  living-apart : (k : ℕ) (by_capsule : Bool) (walk : SessionWalk) (table : StreamTable) (xs : List Session) → is_among k xs ≡ false
      → living (session_walked t calls k by_capsule walk table) xs ≡ living table xs
  living-apart k by_capsule walk table [] miss = refl
  living-apart k by_capsule walk table (s ∷ xs) miss =
      let parts = or_parts (s.id == k) (is_among k xs) miss in
      let same = gone-apart k s.id by_capsule walk table (eqb-other s.id k parts.0) in
      let again = living-apart k by_capsule walk table xs parts.1 in
      λ i. cond (not (same i)) (s ∷ again i) (again i)

  -- after a fault nothing is looked at
  ended-now : (xs : List Session) (s : DriverState) (o : Option ErrorCode) (code : ErrorCode) → s.progress.fault ≡ Some code → check_each_now t xs s ≡ s
  ended-now [] s o code e = refl
  ended-now (x ∷ xs) s o code e = ap (λ (f : Option ErrorCode). unless_ended f (λ u. check_each_now t xs (check_session_now t x.id (drop x.offset (t.contents x.id)) (t.end x.id) u)) s) e

  -- the table's step asks of each session whether it is gone, that on what is kept visits those that live when it begins
  pub check-follows : (xs : List Session) (table : StreamTable) → AreDistinct xs
      → kept_of t calls sent open_ (check_each t calls xs table) ≡ check_each_now t (living table xs) (kept_of t calls sent open_ table)
  check-follows [] table distinct = refl
  check-follows (s ∷ xs) table distinct = by table.progress.fault refl (is_gone calls table s.id) refl (check-follows xs table distinct.1) (check-follows xs next distinct.1)
    where
      capsule : Bool
      capsule = is_over (session_walk_of (drop s.offset (t.contents s.id)) ends.Running)

      walk : SessionWalk
      walk = session_walk_of (drop s.offset (t.contents s.id)) (t.end s.id)

      next : StreamTable
      next = session_walked t calls s.id capsule walk table

      K : StreamTable → DriverState
      K T = kept_of t calls sent open_ T

      by : (o : Option ErrorCode) → table.progress.fault ≡ o → (b : Bool) → is_gone calls table s.id ≡ b
          → kept_of t calls sent open_ (check_each t calls xs table) ≡ check_each_now t (living table xs) (kept_of t calls sent open_ table)
          → kept_of t calls sent open_ (check_each t calls xs next) ≡ check_each_now t (living next xs) (kept_of t calls sent open_ next)
          → kept_of t calls sent open_ (unless_ended o (λ u. check_each t calls xs (check_living t calls s u)) table)
          ≡ check_each_now t (cond (not b) (s ∷ living table xs) (living table xs)) (kept_of t calls sent open_ table)
      by (Some code) f b e same after = sym (ended-now (cond (not b) (s ∷ living table xs) (living table xs)) (kept_of t calls sent open_ table) (Some code) code f)
      by None f true e same after = ap (λ (b : Bool). K (check_each t calls xs (cond b table next))) e ∙ same
      by None f false e same after =
          ap (λ (b : Bool). K (check_each t calls xs (cond b table next))) e
          ∙ (after
          ∙ (ap (λ (ys : List Session). check_each_now t ys (K next)) (living-apart s.id capsule walk table xs distinct.0)
          ∙ (ap (λ (z : DriverState). check_each_now t (living table xs) z) (walked-follows s.id capsule walk table e)
          ∙ sym (ap (λ (z : Option ErrorCode). unless_ended z (λ u. check_each_now t (living table xs) (check_session_now t s.id (drop s.offset (t.contents s.id)) (t.end s.id) u)) (K table)) f))))
