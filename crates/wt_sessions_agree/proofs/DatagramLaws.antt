-- Datagrams: those that a moment reads are those that a scan takes, and they are admitted alike.
use Rattle.std.specs.Prelude.{[], ◌&&◌, ◌*◌, ◌++◌, ◌-◌, ◌<◌, ◌==◌, ◌∷◌, ◌||◌, ◌≡◌, ◌≤◌, Bool, Err, List, None, Ok, Option, Result, Some, cond, drop, false, filter, filter_map, if◌then◌else◌, length, map, nat_lt, not, suc, true, zero, ℕ}
use Rattle.std.specs.List.{list_all}
use Rattle.std.specs.Option.{option_or}
use Rattle.std.proofs.Common.{◌∙◌, ap, arith, refl, subst, sym}
use Rattle.std.proofs.lemmas.Bool.{eq-eqb, eqb-true}
use Rattle.std.proofs.lemmas.List.{append-nil, drop-append-le, length-append, length-drop, length-map}
use Rattle.std.proofs.lemmas.List.Elements.{filter-append}
use Rattle.std.proofs.lemmas.List.Folds.{list_all-append}
use Rattle.wt_meaning.specs.Findings.{DatagramRead, Faulted, Finding, fault_in, fault_of, is_datagram, reads_settings, settings_came}
use Rattle.wt_meaning.specs.History.{History}
use Rattle.wt_meaning.specs.Moments.{ReadDatagram, after_checks, datagram_checks, datagram_found, is_ready, reading}
use Rattle.wt_meaning.specs.Windows.{admitted_datagram, datagrams_in_window, is_established, is_gone, received_count, shares_window, waiting_datagrams}
use Rattle.wt_message.specs.Datagram.{datagram_of}
use Rattle.wt_promise.proofs.Accepted.{and-left, and-right}
use Rattle.wt_sessions.specs.Scan.{admit_datagram, is_admitted, take_datagrams, take_each, take_parsed}
use Rattle.wt_sessions.specs.StreamTable.{Admitted, CallView, StreamTable, TransportView, dispatched_streams, has_room, was_established}
use Rattle.wt_sessions.specs.StreamTable as tables
use Rattle.wt_sessions_agree.proofs.Appends.{adds, any-append, drops, filter-drops, first-append, not-same}
use Rattle.wt_sessions_agree.proofs.Basics.{and-false, or-false, or-none}
use Rattle.wt_sessions_agree.proofs.ScanLaws.{fault-fields, check-step, checks-faulty}
use Rattle.wt_sessions_agree.proofs.WindowLaws.{gone-agrees}
use Rattle.wt_sessions_agree.specs.Agrees.{IsTable, admitted_in, classified_in, closed_in}
use Rattle.wt_sessions_agree.specs.Orderly.{Received, is_left, is_of}
use Rattle.wt_sessions_agree.specs.Stands.{CallsAgree}
use Rattle.wt_wire.specs.declared.error.ErrorCode.{ErrorCode}
use Rattle.wt_wire.specs.declared.side.Side.{Side}

-- ---- the admitted datagrams, in both forms

-- a datagram's session and payload
abbrev pub pair-of : Admitted → ℕ × List ℕ
pair-of d = (d.session, d.payload)

pub admitted-pairs : (found : List Finding) → filter_map admitted_datagram found ≡ map pair-of (filter_map admitted_in found)
admitted-pairs [] = refl
admitted-pairs (DatagramRead index session payload true ∷ found) = ap (λ (l : List (ℕ × List ℕ)). (session, payload) ∷ l) (admitted-pairs found)
admitted-pairs (_ ∷ found) = admitted-pairs found

pub filter-pairs : (p : ℕ → Bool) (ds : List Admitted) → filter (λ (d : ℕ × List ℕ). p d.0) (map pair-of ds) ≡ map pair-of (filter (λ (d : Admitted). p d.session) ds)
filter-pairs p [] = refl
filter-pairs p (d ∷ ds) = by (p d.session) (filter-pairs p ds)
  where
    by : (b : Bool) → filter (λ (d : ℕ × List ℕ). p d.0) (map pair-of ds) ≡ map pair-of (filter (λ (d : Admitted). p d.session) ds)
        → cond b (pair-of d ∷ filter (λ (d : ℕ × List ℕ). p d.0) (map pair-of ds)) (filter (λ (d : ℕ × List ℕ). p d.0) (map pair-of ds))
        ≡ map pair-of (cond b (d ∷ filter (λ (d : Admitted). p d.session) ds) (filter (λ (d : Admitted). p d.session) ds))
    by true e = ap (λ (l : List (ℕ × List ℕ)). pair-of d ∷ l) e
    by false e = e

-- ---- which were received

module _ (h : History) (calls : CallView) where
  -- what is no datagram changes nothing
  pub received-same : (found : List Finding) (f : Finding) → admitted_in f ≡ None → is_datagram f ≡ false → Received h calls found → Received h calls (found ++ f ∷ [])
  received-same found f a d r =
      let e : filter_map admitted_in (found ++ f ∷ []) ≡ filter_map admitted_in found = drops admitted_in f a found in
      let c : filter is_datagram (found ++ f ∷ []) ≡ filter is_datagram found = filter-drops is_datagram f d found in
      record {
        left = λ s. rw e (r.left s);
        within = λ s. rw e (r.within s);
        early = rw e r.early;
        later = λ n le. r.later n (subst (λ (xs : List Finding). length xs ≤ n) c le);
      }

  -- one more datagram was read, as the n-th
  pub received-more : (found : List Finding) (n s : ℕ) (payload : List ℕ) (b : Bool) → length (filter is_datagram found) ≡ n → Received h calls found
      → Received h calls (found ++ DatagramRead n s payload b ∷ [])
  received-more found n s payload b e r = by b refl
    where
      more : (b : Bool) → length (filter is_datagram (found ++ DatagramRead n s payload b ∷ [])) ≡ suc n
      more b = ap length (filter-append is_datagram found (DatagramRead n s payload b ∷ [])) ∙ length-append (filter is_datagram found) (DatagramRead n s payload b ∷ []) ∙ omega (arith, e)

      unread : calls.received n ≡ false
      unread = r.later n (omega (arith, e))

      by : (c : Bool) → b ≡ c → Received h calls (found ++ DatagramRead n s payload c ∷ [])
      by false q =
          let d : filter_map admitted_in (found ++ DatagramRead n s payload false ∷ []) ≡ filter_map admitted_in found = drops admitted_in (DatagramRead n s payload false) refl found in
          record {
            left = λ k. rw d (r.left k);
            within = λ k. rw d (r.within k);
            early = rw d r.early;
            later = λ k le. r.later k (let m = more false in omega (arith, e, m, le));
          }
      by true q = record {
        left = λ k. ap (filter (is_left calls)) (split k) ∙ appended k (s == k) ∙ ap (drop (received_count h k)) (sym (split k));
        within = λ k. let w = r.within k in let l = ap length (split k) ∙ length-append (filter (is_of k) (filter_map admitted_in found)) (cond (s == k) (x ∷ []) []) in omega (arith, w, l);
        early = ap (list_all (λ (d : Admitted). is_left calls d || is_established h d.session)) (adds admitted_in (DatagramRead n s payload true) x refl found)
            ∙ list_all-append (λ (d : Admitted). is_left calls d || is_established h d.session) (filter_map admitted_in found) (x ∷ []) ∙ rw (r.early, unread) refl;
        later = λ k le. r.later k (let m = more true in omega (arith, e, m, le));
      }
        where
          x : Admitted
          x = record { index = n; session = s; payload = payload }

          split : (k : ℕ) → filter (is_of k) (filter_map admitted_in (found ++ DatagramRead n s payload true ∷ [])) ≡ filter (is_of k) (filter_map admitted_in found) ++ cond (s == k) (x ∷ []) []
          split k = ap (filter (is_of k)) (adds admitted_in (DatagramRead n s payload true) x refl found) ∙ filter-append (is_of k) (filter_map admitted_in found) (x ∷ [])

          appended : (k : ℕ) (c : Bool) → filter (is_left calls) (filter (is_of k) (filter_map admitted_in found) ++ cond c (x ∷ []) [])
              ≡ drop (received_count h k) (filter (is_of k) (filter_map admitted_in found) ++ cond c (x ∷ []) [])
          appended k true =
              filter-append (is_left calls) (filter (is_of k) (filter_map admitted_in found)) (x ∷ [])
              ∙ ap (λ (o : Bool). filter (is_left calls) (filter (is_of k) (filter_map admitted_in found)) ++ cond (not o) (x ∷ []) []) unread
              ∙ ap (λ (l : List Admitted). l ++ x ∷ []) (r.left k)
              ∙ sym (drop-append-le (received_count h k) (filter (is_of k) (filter_map admitted_in found)) (x ∷ []) (r.within k))
          appended k false = rw (append-nil (filter (is_of k) (filter_map admitted_in found))) (r.left k)

  -- ---- a datagram is admitted in both or in none

  -- of the datagrams that wait, so many are of a session that isn't gone
  count-own : (g : ℕ → Bool) (s : ℕ) → g s ≡ false → (ds : List Admitted)
      → length (filter (λ (o : ℕ). o == s) (map (λ (d : Admitted). d.session) (filter (λ (d : Admitted). is_left calls d && not (g d.session)) ds)))
      ≡ length (filter (is_left calls) (filter (is_of s) ds))
  count-own g s e [] = refl
  count-own g s e (d ∷ ds) = by (d.session == s) refl (calls.received d.index) refl (g d.session) refl (count-own g s e ds)
    where
      by : (b : Bool) → (d.session == s) ≡ b → (x : Bool) → calls.received d.index ≡ x → (y : Bool) → g d.session ≡ y
          → length (filter (λ (o : ℕ). o == s) (map (λ (d : Admitted). d.session) (filter (λ (d : Admitted). is_left calls d && not (g d.session)) ds)))
          ≡ length (filter (is_left calls) (filter (is_of s) ds))
          → length (filter (λ (o : ℕ). o == s) (map (λ (d : Admitted). d.session) (filter (λ (d : Admitted). is_left calls d && not (g d.session)) (d ∷ ds))))
          ≡ length (filter (is_left calls) (filter (is_of s) (d ∷ ds)))
      by true p true q y r again = rw (p, q) again
      by true p false q true r again = absurd (cc (sym r ∙ ap g (eqb-true d.session s p) ∙ e))
      by true p false q false r again = rw (q, r, p, q) (ap suc again)
      by false p true q y r again = rw (q, p) again
      by false p false q true r again = rw (q, r, p) again
      by false p false q false r again = rw (q, r, p) again

  -- as many early datagrams, counted in both ways
  abbrev EarlySame : (g g2 w : ℕ → Bool) → List Admitted → Type 0
  EarlySame g g2 w xs = length (filter (λ (o : ℕ). not (w o)) (map (λ (d : Admitted). d.session) (filter (λ (d : Admitted). is_left calls d && not (g d.session)) xs)))
      ≡ length (filter (λ (d : Admitted). not (is_established h d.session) && not (g2 d.session)) xs)

  -- so many are of sessions that weren't established
  count-early : (g g2 w : ℕ → Bool) → ((s : ℕ) → g s ≡ g2 s) → ((s : ℕ) → w s ≡ is_established h s) → (ds : List Admitted)
      → list_all (λ (d : Admitted). is_left calls d || is_established h d.session) ds ≡ true
      → length (filter (λ (o : ℕ). not (w o)) (map (λ (d : Admitted). d.session) (filter (λ (d : Admitted). is_left calls d && not (g d.session)) ds)))
      ≡ length (filter (λ (d : Admitted). not (is_established h d.session) && not (g2 d.session)) ds)
  count-early g g2 w gs ws [] all = refl
  count-early g g2 w gs ws (d ∷ ds) all =
      by (is_established h d.session) refl (calls.received d.index) refl (g2 d.session) refl (count-early g g2 w gs ws ds (and-right (is_left calls d || is_established h d.session) _ all))
    where
      by : (b : Bool) → is_established h d.session ≡ b → (x : Bool) → calls.received d.index ≡ x → (y : Bool) → g2 d.session ≡ y → EarlySame g g2 w ds → EarlySame g g2 w (d ∷ ds)
      by false p true q y r again =
          absurd (let f : (is_left calls d || is_established h d.session) ≡ false = rw (p, q) refl in cc (sym f ∙ and-left (is_left calls d || is_established h d.session) _ all))
      by false p false q true r again = rw (q, gs d.session, r, p) again
      by false p false q false r again = rw (q, gs d.session, r, p, ws d.session, p) (ap suc again)
      by true p true q y r again = rw (q, p) again
      by true p false q true r again = rw (q, gs d.session, r, p) again
      by true p false q false r again = rw (q, gs d.session, r, p, ws d.session, p) again

  place-agrees : (found : List Finding) (table : StreamTable) (s : ℕ) → CallsAgree h calls → IsTable found table → Received h calls found
      → is_admitted (dispatched_streams calls table) s ≡ (not (is_gone h found s) && nat_lt (datagrams_in_window h found s) 16)
  place-agrees found table s c t r =
      ap (λ (b : Bool). not b && has_room (dispatched_streams calls table) s (map (λ (d : Admitted). d.session) (tables.waiting_datagrams calls table))) (gone-agrees h calls found table s c t)
      ∙ by (is_gone h found s) refl
    where
      gone : (k : ℕ) → tables.is_gone calls table k ≡ is_gone h found k
      gone k = gone-agrees h calls found table k c t

      own-left : length (filter (is_left calls) (filter (is_of s) table.datagrams)) ≡ length (drop (received_count h s) (filter (λ (d : ℕ × List ℕ). d.0 == s) (filter_map admitted_datagram found)))
      own-left =
          ap (λ (ds : List Admitted). length (filter (is_left calls) (filter (is_of s) ds))) (sym t.datagrams) ∙ ap length (r.left s)
          ∙ length-drop (received_count h s) (filter (is_of s) (filter_map admitted_in found))
          ∙ ap (λ (n : ℕ). n - received_count h s) (sym (length-map (filter (is_of s) (filter_map admitted_in found)) pair-of))
          ∙ sym (length-drop (received_count h s) (map pair-of (filter (is_of s) (filter_map admitted_in found))))
          ∙ ap (λ (ds : List (ℕ × List ℕ)). length (drop (received_count h s) ds))
          (sym (filter-pairs (λ (k : ℕ). k == s) (filter_map admitted_in found)) ∙ ap (filter (λ (d : ℕ × List ℕ). d.0 == s)) (sym (admitted-pairs found)))

      early-left : length (filter (λ (d : Admitted). not (is_established h d.session) && not (is_gone h found d.session)) table.datagrams)
          ≡ length (filter (λ (d : ℕ × List ℕ). not (is_established h d.0) && not (is_gone h found d.0)) (filter_map admitted_datagram found))
      early-left =
          ap (λ (ds : List Admitted). length (filter (λ (d : Admitted). not (is_established h d.session) && not (is_gone h found d.session)) ds)) (sym t.datagrams)
          ∙ sym (length-map (filter (λ (d : Admitted). not (is_established h d.session) && not (is_gone h found d.session)) (filter_map admitted_in found)) pair-of)
          ∙ ap length (sym (filter-pairs (λ (k : ℕ). not (is_established h k) && not (is_gone h found k)) (filter_map admitted_in found))
          ∙ ap (filter (λ (d : ℕ × List ℕ). not (is_established h d.0) && not (is_gone h found d.0))) (sym (admitted-pairs found)))

      windows : (e : Bool) → is_established h s ≡ e → is_gone h found s ≡ false
          → length (filter (tables.shares_window (dispatched_streams calls table) s) (map (λ (d : Admitted). d.session) (tables.waiting_datagrams calls table))) ≡ datagrams_in_window h found s
      windows true e g =
          ap (λ (b : Bool). length (filter (λ (o : ℕ). if b then o == s else not (was_established calls o)) (map (λ (d : Admitted). d.session) (tables.waiting_datagrams calls table))))
          (c.established s ∙ e)
          ∙ count-own (tables.is_gone calls table) s (gone s ∙ g) table.datagrams ∙ own-left
          ∙ sym (ap (λ (b : Bool). if b then length (waiting_datagrams h found s) else length (filter (λ (d : ℕ × List ℕ). shares_window h found s d.0) (filter_map admitted_datagram found))) e)
      windows false e g =
          let q : datagrams_in_window h found s ≡ length (filter (λ (d : ℕ × List ℕ). not (is_established h d.0) && not (is_gone h found d.0)) (filter_map admitted_datagram found)) = rw e refl in
          ap (λ (b : Bool). length (filter (λ (o : ℕ). if b then o == s else not (was_established calls o)) (map (λ (d : Admitted). d.session) (tables.waiting_datagrams calls table))))
          (c.established s ∙ e)
          ∙ count-early (tables.is_gone calls table) (is_gone h found) (was_established calls) gone c.established table.datagrams
          (ap (list_all (λ (d : Admitted). is_left calls d || is_established h d.session)) (sym t.datagrams) ∙ r.early) ∙ early-left ∙ sym q

      by : (b : Bool) → is_gone h found s ≡ b → (not b && has_room (dispatched_streams calls table) s (map (λ (d : Admitted). d.session) (tables.waiting_datagrams calls table)))
          ≡ (not b && nat_lt (datagrams_in_window h found s) 16)
      by true g = refl
      by false g = ap (λ (n : ℕ). nat_lt n 16) (windows (is_established h s) refl g)

  -- ---- one datagram after another

  -- a datagram that is looked at
  read-table : (found : List Finding) (table : StreamTable) (n s : ℕ) (payload : List ℕ) (b : Bool) → length (filter is_datagram found) ≡ n → IsTable found table
      → IsTable (found ++ DatagramRead n s payload b ∷ []) (admit_datagram b s payload table)
  read-table found table n s payload b e t = by b
    where
      q : n ≡ table.progress.datagrams
      q = sym e ∙ t.looked_at

      count : (c : Bool) → length (filter is_datagram (found ++ DatagramRead n s payload c ∷ [])) ≡ suc table.progress.datagrams
      count c = ap length (filter-append is_datagram found (DatagramRead n s payload c ∷ [])) ∙ length-append (filter is_datagram found) (DatagramRead n s payload c ∷ []) ∙ omega (arith, t.looked_at)

      by : (c : Bool) → IsTable (found ++ DatagramRead n s payload c ∷ []) (admit_datagram c s payload table)
      by true = record {
        classified = drops classified_in (DatagramRead n s payload true) refl found ∙ t.classified;
        datagrams = adds admitted_in (DatagramRead n s payload true) (record { index = n; session = s; payload = payload }) refl found
            ∙ ap (λ (ds : List Admitted). ds ++ record { index = n; session = s; payload = payload } ∷ []) t.datagrams
            ∙ ap (λ (i : ℕ). table.datagrams ++ record { index = i; session = s; payload = payload } ∷ []) q;
        closed = drops closed_in (DatagramRead n s payload true) refl found ∙ t.closed;
        looked_at = count true;
        settings = any-append reads_settings found (DatagramRead n s payload true) ∙ or-false (settings_came found) ∙ t.settings;
        fault = first-append fault_in found (DatagramRead n s payload true) ∙ or-none (fault_of found) ∙ t.fault;
      }
      by false = record {
        classified = drops classified_in (DatagramRead n s payload false) refl found ∙ t.classified;
        datagrams = drops admitted_in (DatagramRead n s payload false) refl found ∙ t.datagrams;
        closed = drops closed_in (DatagramRead n s payload false) refl found ∙ t.closed;
        looked_at = count false;
        settings = any-append reads_settings found (DatagramRead n s payload false) ∙ or-false (settings_came found) ∙ t.settings;
        fault = first-append fault_in found (DatagramRead n s payload false) ∙ or-none (fault_of found) ∙ t.fault;
      }

  take-faulty : (ds : List (List ℕ)) (table : StreamTable) (code : ErrorCode) → table.progress.fault ≡ Some code → take_each calls ds table ≡ table
  take-faulty [] table code e = refl
  take-faulty (piece ∷ ds) table code e = rw e refl

  drop-none : (n : ℕ) → drop {A = List ℕ} n [] ≡ []
  drop-none zero = refl
  drop-none (suc n) = refl

  module _ (side : Side) (ready : is_ready side h ≡ true) (c : CallsAgree h calls) where
    abbrev Reads : List (List ℕ) → Type 0
    Reads ds = (n : ℕ) (found : List Finding) (table : StreamTable) → n ≤ table.progress.datagrams → Received h calls found → IsTable found table
        → IsTable (after_checks side h (datagram_checks n ds) found) (take_each calls (drop (table.progress.datagrams - n) ds) table)

    -- one that was read before
    passed : (ds : List (List ℕ)) (piece : List ℕ) (n m : ℕ) (found : List Finding) (table : StreamTable) → table.progress.datagrams ≡ m → n < m → fault_of found ≡ None → Reads ds
        → Received h calls found → IsTable found table
        → IsTable (after_checks side h (datagram_checks n (piece ∷ ds)) found) (take_each calls (drop (m - n) (piece ∷ ds)) table)
    passed ds piece n m found table e lt f again r t =
        let k : m - n ≡ suc (m - suc n) = omega (arith, lt) in
        let d : drop (m - n) (piece ∷ ds) ≡ drop (table.progress.datagrams - suc n) ds = ap (λ (i : ℕ). drop i (piece ∷ ds)) k ∙ ap (λ (i : ℕ). drop (i - suc n) ds) (sym e) in
        let x : reading side h found n piece ≡ [] = rw (other (length (filter is_datagram found)) (t.looked_at ∙ e), and-false (is_ready side h)) refl in
        rw (d, check-step side h (ReadDatagram n piece) (datagram_checks (suc n) ds) found [] f x, append-nil found) (again (suc n) found table (omega (arith, lt, e)) r t)
      where
        other : (i : ℕ) → i ≡ m → (i == n) ≡ false
        other i q = not-same i n (λ s b. absurd (omega (arith, s, q, lt)))

    -- one that is read now
    reads : (ds : List (List ℕ)) (piece : List ℕ) (n : ℕ) (found : List Finding) (table : StreamTable) → table.progress.datagrams ≡ n → fault_of found ≡ None → Reads ds → Received h calls found
        → IsTable found table
        → IsTable (after_checks side h (datagram_checks n (piece ∷ ds)) found) (take_each calls (piece ∷ ds) table)
    reads ds piece n found table e f again r t = by (datagram_of piece) refl
      where
        none : table.progress.fault ≡ None
        none = sym t.fault ∙ f

        now : (d : Result (ℕ × List ℕ) ErrorCode) → datagram_of piece ≡ d → reading side h found n piece ≡ datagram_found h found n d ∷ []
        now d q = rw (ready, eq-eqb (length (filter is_datagram found)) n (t.looked_at ∙ e), q) refl

        taken : (d : Result (ℕ × List ℕ) ErrorCode) → datagram_of piece ≡ d → take_each calls (piece ∷ ds) table ≡ take_each calls ds (take_parsed calls d table)
        taken d q = rw (none, q) refl

        stepped : (d : Result (ℕ × List ℕ) ErrorCode) → datagram_of piece ≡ d
            → after_checks side h (datagram_checks n (piece ∷ ds)) found ≡ after_checks side h (datagram_checks (suc n) ds) (found ++ datagram_found h found n d ∷ [])
        stepped d q = check-step side h (ReadDatagram n piece) (datagram_checks (suc n) ds) found (datagram_found h found n d ∷ []) f (now d q)

        by : (d : Result (ℕ × List ℕ) ErrorCode) → datagram_of piece ≡ d → IsTable (after_checks side h (datagram_checks n (piece ∷ ds)) found) (take_each calls (piece ∷ ds) table)
        by (Err code) q =
            let g : fault_of (found ++ Faulted code ∷ []) ≡ Some code = first-append fault_in found (Faulted code) ∙ ap (λ (o : Option ErrorCode). option_or o (Some code)) f in
            rw (
              stepped (Err code) q,
              taken (Err code) q,
              checks-faulty side h (datagram_checks (suc n) ds) (found ++ Faulted code ∷ []) code g,
              take-faulty ds
                  (take_parsed calls (Err code) table) code refl,
            )
            (fault-fields found table code f t)
        by (Ok d) q =
            let b : Bool = is_admitted (dispatched_streams calls table) (4 * d.0) in
            let k : datagram_found h found n (Ok d) ≡ DatagramRead n (4 * d.0) d.1 b = ap (DatagramRead n (4 * d.0) d.1) (sym (place-agrees found table (4 * d.0) c t r)) in
            let m : length (filter is_datagram found) ≡ n = t.looked_at ∙ e in
            let p : (admit_datagram b (4 * d.0) d.1 table).progress.datagrams ≡ suc n = counted b (4 * d.0) d.1 ∙ ap suc e in
            let z : (admit_datagram b (4 * d.0) d.1 table).progress.datagrams - suc n ≡ 0 = omega (arith, p) in
            let u = again (suc n) (found ++ DatagramRead n (4 * d.0) d.1 b ∷ []) (admit_datagram b (4 * d.0) d.1 table) (omega (arith, p)) (received-more found n (4 * d.0) d.1 b m r)
            (read-table found table n (4 * d.0) d.1 b m t) in
            rw (stepped (Ok d) q, taken (Ok d) q, k) (subst (λ (i : ℕ). IsTable (after_checks side h (datagram_checks (suc n) ds) (found ++ DatagramRead n (4 * d.0) d.1 b ∷ []))
            (take_each calls (drop i ds) (admit_datagram b (4 * d.0) d.1 table))) z u)
          where
            counted : (b : Bool) (s : ℕ) (payload : List ℕ) → (admit_datagram b s payload table).progress.datagrams ≡ suc table.progress.datagrams
            counted true s payload = refl
            counted false s payload = refl

    take-agrees : (ds : List (List ℕ)) → Reads ds
    take-agrees [] n found table le r t = rw (drop-none (table.progress.datagrams - n)) t
    take-agrees (piece ∷ ds) n found table le r t = by (fault_of found) refl (nat_lt n table.progress.datagrams) refl (take-agrees ds)
      where
        by : (o : Option ErrorCode) → fault_of found ≡ o → (b : Bool) → nat_lt n table.progress.datagrams ≡ b → Reads ds
            → IsTable (after_checks side h (datagram_checks n (piece ∷ ds)) found) (take_each calls (drop (table.progress.datagrams - n) (piece ∷ ds)) table)
        by (Some code) f b l again =
            rw (checks-faulty side h (datagram_checks n (piece ∷ ds)) found code f, take-faulty (drop (table.progress.datagrams - n) (piece ∷ ds)) table code (sym t.fault ∙ f)) t
        by None f true l again = passed ds piece n table.progress.datagrams found table refl (grind (arith, l)) f again r t
        by None f false l again =
            let q : table.progress.datagrams ≡ n = grind (arith, l, le) in
            let z : table.progress.datagrams - n ≡ 0 = omega (arith, q) in
            rw z (reads ds piece n found table q f again r t)

-- before this end is ready none is read
idle : (side : Side) (h : History) (ds : List (List ℕ)) (n : ℕ) (found : List Finding) → is_ready side h ≡ false → after_checks side h (datagram_checks n ds) found ≡ found
idle side h [] n found e = refl
idle side h (piece ∷ ds) n found e = by (fault_of found) refl (idle side h ds (suc n) found e)
  where
    by : (o : Option ErrorCode) → fault_of found ≡ o → after_checks side h (datagram_checks (suc n) ds) found ≡ found → after_checks side h (datagram_checks n (piece ∷ ds)) found ≡ found
    by (Some code) f again = checks-faulty side h (datagram_checks n (piece ∷ ds)) found code f
    by None f again = let x : reading side h found n piece ≡ [] = rw e refl in
        check-step side h (ReadDatagram n piece) (datagram_checks (suc n) ds) found [] f x ∙ ap (after_checks side h (datagram_checks (suc n) ds)) (append-nil found) ∙ again

-- the datagrams of a moment
pub datagrams-agree : (side : Side) (h : History) (t : TransportView) (calls : CallView) (ds : List (List ℕ)) (found : List Finding) (table : StreamTable) → t.ready ≡ is_ready side h
    → t.datagrams ≡ ds → CallsAgree h calls
    → Received h calls found → IsTable found table → IsTable (after_checks side h (datagram_checks 0 ds) found) (take_datagrams t calls table)
datagrams-agree side h t calls ds found table same all c r holds = by (is_ready side h) refl
  where
    by : (b : Bool) → is_ready side h ≡ b → IsTable (after_checks side h (datagram_checks 0 ds) found) (take_datagrams t calls table)
    by false e = let q : t.ready ≡ false = same ∙ e in rw (q, idle side h ds 0 found e) holds
    by true e =
        let q : t.ready ≡ true = same ∙ e in
        let z : table.progress.datagrams - 0 ≡ table.progress.datagrams = omega arith in
        rw (q, all) (subst (λ (i : ℕ). IsTable (after_checks side h (datagram_checks 0 ds) found) (take_each calls (drop i ds) table)) z
        (take-agrees h calls side e c ds 0 found table (omega arith) r holds))
