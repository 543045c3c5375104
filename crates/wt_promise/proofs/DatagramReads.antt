-- A pass over the datagrams reads each that came, up to the first that is none.
use Rattle.std.specs.Prelude.{[], ◌&&◌, ◌*◌, ◌++◌, ◌+◌, ◌==◌, ◌∷◌, ◌≡◌, ◌≤◌, ◌<◌, Bool, Err, List, None, Ok, Option, Result, Some, drop, false, filter, filter_map, if◌then◌else◌, length, map, suc, take, true, zero, ℕ}
use Rattle.std.specs.Option.{option_or}
use Rattle.std.proofs.Common.{◌∙◌, ap, arith, length-append, refl, sym}
use Rattle.std.proofs.lemmas.Bool.{eq-eqb, eqb-true}
use Rattle.std.proofs.lemmas.List.{append-nil, map-append, take-append-le}
use Rattle.std.proofs.lemmas.List.Elements.{filter_map-append}
use Rattle.wt_meaning.specs.Findings.{Classified, DatagramRead, Dequeued, Faulted, Finding, SessionClosed, SettingsRead, fault_in, fault_of, first_of, is_datagram}
use Rattle.wt_meaning.specs.History.{History}
use Rattle.wt_meaning.specs.Moments.{after_checks, datagram_checks, datagram_found, ReadDatagram, found_by}
use Rattle.wt_message.specs.Datagram.{datagram_of}
use Rattle.wt_promise.proofs.Grows.{first_of-append}
use Rattle.wt_promise.proofs.Passes.{goes-on, stopped}
use Rattle.wt_promise.specs.Found.{can_set_up, datagram_fault, read_in, said_by}
use Rattle.wt_wire.specs.declared.error.ErrorCode.{ErrorCode}
use Rattle.wt_wire.specs.declared.side.Side.{Side}

-- ---- what was read

abbrev pub read-of : List Finding → List (ℕ × List ℕ)
read-of found = filter_map read_in found

abbrev pub said : List ℕ → Option (ℕ × List ℕ)
said piece = said_by (datagram_of piece)

abbrev pub fault-of-piece : List ℕ → Option ErrorCode
fault-of-piece piece = datagram_fault (datagram_of piece)

pub read-number : (found : List Finding) → length (filter is_datagram found) ≡ length (read-of found)
read-number [] = refl
read-number (DatagramRead n s payload keeps ∷ found) = ap suc (read-number found)
read-number (Dequeued k ∷ found) = read-number found
read-number (Classified k v keeps ∷ found) = read-number found
read-number (SessionClosed s code reason b ∷ found) = read-number found
read-number (SettingsRead ∷ found) = read-number found
read-number (Faulted code ∷ found) = read-number found

-- the datagrams that were read are the first of these, as they came
pub record AsCame (pieces : List (List ℕ)) (found : List Finding) : Type 0 where
  pub same : map (λ (d : ℕ × List ℕ). Some d) (read-of found) ≡ map said (take (length (read-of found)) pieces)
  pub few : length (read-of found) ≤ length pieces

-- none of these is a fault
pub well-formed : (ds : List (ℕ × List ℕ)) (pieces : List (List ℕ)) → map (λ (d : ℕ × List ℕ). Some d) ds ≡ map said pieces → first_of fault-of-piece pieces ≡ None
well-formed ds [] e = refl
well-formed [] (piece ∷ pieces) e = absurd (cc e)
well-formed (d ∷ ds) (piece ∷ pieces) e = by (datagram_of piece) refl (well-formed ds pieces (cc e))
  where
    by : (r : Result (ℕ × List ℕ) ErrorCode) → datagram_of piece ≡ r → first_of fault-of-piece pieces ≡ None → option_or (datagram_fault r) (first_of fault-of-piece pieces) ≡ None
    by (Ok x) q again = again
    by (Err code) q again = absurd (let f : Some d ≡ said piece = cc e in let g : Some d ≡ None = f ∙ ap said_by q in cc g)

pub came-more : (pieces more : List (List ℕ)) (found : List Finding) → AsCame pieces found → AsCame (pieces ++ more) found
came-more pieces more found g = record {
  same = g.same ∙ ap (map said) (sym (take-append-le (length (read-of found)) pieces more g.few));
  few = let a = g.few in omega (arith, a, length-append pieces more);
}

pub came-same : (pieces : List (List ℕ)) (found new : List Finding) → read-of new ≡ [] → AsCame pieces found → AsCame pieces (found ++ new)
came-same pieces found new e g =
    let q : read-of (found ++ new) ≡ read-of found = filter_map-append read_in found new ∙ ap (λ (ds : List (ℕ × List ℕ)). read-of found ++ ds) e ∙ append-nil (read-of found) in
    record { same = rw q g.same; few = rw q g.few }

-- ---- the checks of datagrams

pub checks-parts : (xs ys : List (List ℕ)) (n : ℕ) → datagram_checks n (xs ++ ys) ≡ datagram_checks n xs ++ datagram_checks (n + length xs) ys
checks-parts [] ys n = rw (plus-zero n) refl
  where
    plus-zero : (n : ℕ) → n + 0 ≡ n
    plus-zero n = omega arith
checks-parts (x ∷ xs) ys n = ap (λ cs. ReadDatagram n x ∷ cs) (checks-parts xs ys (suc n) ∙ ap (λ (m : ℕ). datagram_checks (suc n) xs ++ datagram_checks m ys) (shift n (length xs)))
  where
    shift : (n m : ℕ) → suc n + m ≡ n + suc m
    shift n m = omega arith

not-yet : (n m : ℕ) → n < m → (m == n) ≡ false
not-yet n m l = by (m == n) refl
  where
    by : (b : Bool) → (m == n) ≡ b → b ≡ false
    by true e = absurd (let q = eqb-true m n e in omega (arith, q, l))
    by false e = refl

module _ (side : Side) (h : History) where
  -- those that were read before are skipped
  pub skips : (xs : List (List ℕ)) (n : ℕ) (found : List Finding) → n + length xs ≤ length (read-of found) → after_checks side h (datagram_checks n xs) found ≡ found
  skips [] n found l = refl
  skips (x ∷ xs) n found l = by (fault_of found) refl (skips xs (suc n) found (omega (arith, l)))
    where
      none : found_by side h found (ReadDatagram n x) ≡ []
      none = ap (λ (b : Bool). if can_set_up side h && b then datagram_found h found n (datagram_of x) ∷ [] else []) (ap (λ (m : ℕ). m == n) (read-number found) ∙ not-yet n (length (read-of found)) (omega (arith, l))) ∙ both (can_set_up side h)
        where
          both : (b : Bool) → (if b && false then datagram_found h found n (datagram_of x) ∷ [] else []) ≡ []
          both true = refl
          both false = refl

      by : (f : Option ErrorCode) → fault_of found ≡ f → after_checks side h (datagram_checks (suc n) xs) found ≡ found → after_checks side h (datagram_checks n (x ∷ xs)) found ≡ found
      by (Some code) e again = stopped side h (datagram_checks n (x ∷ xs)) found code e
      by None e again =
          goes-on side h (ReadDatagram n x) (datagram_checks (suc n) xs) found e
          ∙ ap (after_checks side h (datagram_checks (suc n) xs)) (ap (λ (new : List Finding). found ++ new) none ∙ append-nil found) ∙ again

  -- before this end can set up none is read
  pub idle : (xs : List (List ℕ)) (n : ℕ) (found : List Finding) → can_set_up side h ≡ false → after_checks side h (datagram_checks n xs) found ≡ found
  idle [] n found r = refl
  idle (x ∷ xs) n found r = by (fault_of found) refl (idle xs (suc n) found r)
    where
      none : found_by side h found (ReadDatagram n x) ≡ []
      none = ap (λ (b : Bool). if b && length (filter is_datagram found) == n then datagram_found h found n (datagram_of x) ∷ [] else []) r

      by : (f : Option ErrorCode) → fault_of found ≡ f → after_checks side h (datagram_checks (suc n) xs) found ≡ found → after_checks side h (datagram_checks n (x ∷ xs)) found ≡ found
      by (Some code) e again = stopped side h (datagram_checks n (x ∷ xs)) found code e
      by None e again =
          goes-on side h (ReadDatagram n x) (datagram_checks (suc n) xs) found e
          ∙ ap (after_checks side h (datagram_checks (suc n) xs)) (ap (λ (new : List Finding). found ++ new) none ∙ append-nil found) ∙ again

  -- what the others lead to
  pub record ReadOn (pieces ys : List (List ℕ)) (found : List Finding) : Type 0 where
    pub came : AsCame pieces found
    pub fault : fault_of found ≡ first_of fault-of-piece ys
    pub all : fault_of found ≡ None → length (read-of found) ≡ length pieces

  pub reads-on : (pieces ys : List (List ℕ)) (found : List Finding) → can_set_up side h ≡ true → fault_of found ≡ None → AsCame pieces found → drop (length (read-of found)) pieces ≡ ys
      → ReadOn pieces ys (after_checks side h (datagram_checks (length (read-of found)) ys) found)
  reads-on pieces [] found r e g d = record { came = g; fault = e; all = λ q. no-more (length (read-of found)) pieces g.few d }
    where
      no-more : (n : ℕ) (xs : List (List ℕ)) → n ≤ length xs → drop n xs ≡ [] → n ≡ length xs
      no-more zero [] l q = refl
      no-more zero (x ∷ xs) l q = absurd (cc q)
      no-more (suc n) [] l q = absurd (omega (arith, l))
      no-more (suc n) (x ∷ xs) l q = ap suc (no-more n xs (omega (arith, l)) q)
  reads-on pieces (y ∷ ys) found r e g d = by (datagram_of y) refl (λ new a b c. reads-on pieces ys (found ++ new) r a b c)
    where
      n : ℕ
      n = length (read-of found)

      is-next : found_by side h found (ReadDatagram n y) ≡ datagram_found h found n (datagram_of y) ∷ []
      is-next = ap (λ (b : Bool). if b && length (filter is_datagram found) == n then datagram_found h found n (datagram_of y) ∷ [] else []) r
          ∙ ap (λ (b : Bool). if b then datagram_found h found n (datagram_of y) ∷ [] else []) (eq-eqb (length (filter is_datagram found)) n (read-number found))

      on : after_checks side h (datagram_checks n (y ∷ ys)) found ≡ after_checks side h (datagram_checks (suc n) ys) (found ++ datagram_found h found n (datagram_of y) ∷ [])
      on = goes-on side h (ReadDatagram n y) (datagram_checks (suc n) ys) found e ∙ ap (λ (new : List Finding). after_checks side h (datagram_checks (suc n) ys) (found ++ new)) is-next

      one-more : (m : ℕ) (xs : List (List ℕ)) → drop m xs ≡ y ∷ ys → (take (suc m) xs ≡ take m xs ++ y ∷ []) × (drop (suc m) xs ≡ ys) × (suc m ≤ length xs)
      one-more zero [] q = absurd (cc q)
      one-more zero (x ∷ xs) q = (ap (λ (z : List ℕ). z ∷ []) (cc q), cc q, omega arith)
      one-more (suc m) [] q = absurd (cc q)
      one-more (suc m) (x ∷ xs) q = let s = one-more m xs q in (ap (λ (zs : List (List ℕ)). x ∷ zs) s.0, s.1, (let b = s.2 in omega (arith, b)))

      by : (z : Result (ℕ × List ℕ) ErrorCode) → datagram_of y ≡ z
          → ((new : List Finding) → fault_of (found ++ new) ≡ None → AsCame pieces (found ++ new) → drop (length (read-of (found ++ new))) pieces ≡ ys
          → ReadOn pieces ys (after_checks side h (datagram_checks (length (read-of (found ++ new))) ys) (found ++ new)))
          → ReadOn pieces (y ∷ ys) (after_checks side h (datagram_checks n (y ∷ ys)) found)
      by (Err code) z again =
          let f : fault_of (found ++ Faulted code ∷ []) ≡ Some code = first_of-append fault_in found (Faulted code ∷ []) ∙ ap (λ (o : Option ErrorCode). option_or o (Some code)) e in
          let all : after_checks side h (datagram_checks n (y ∷ ys)) found ≡ found ++ Faulted code ∷ [] =
          on ∙ ap (λ (w : Result (ℕ × List ℕ) ErrorCode). after_checks side h (datagram_checks (suc n) ys) (found ++ datagram_found h found n w ∷ [])) z ∙ stopped side h (datagram_checks (suc n) ys) (found ++ Faulted code ∷ []) code f in
          rw all (record { came = came-same pieces found (Faulted code ∷ []) refl g; fault = f ∙ sym (ap (λ (w : Result (ℕ × List ℕ) ErrorCode). option_or (datagram_fault w) (first_of fault-of-piece ys)) z); all = λ q. absurd (let w = sym f ∙ q in cc w) })
      by (Ok x) z again =
          let f : Finding = datagram_found h found n (Ok x) in
          let more = one-more n pieces d in
          let q : read-of (found ++ f ∷ []) ≡ read-of found ++ (4 * x.0, x.1) ∷ [] = filter_map-append read_in found (f ∷ []) in
          let size : length (read-of (found ++ f ∷ [])) ≡ suc n = ap length q ∙ length-append (read-of found) ((4 * x.0, x.1) ∷ []) ∙ plus-one n in
          let none : fault_of (found ++ f ∷ []) ≡ None = first_of-append fault_in found (f ∷ []) ∙ ap (λ (o : Option ErrorCode). option_or o None) e in
          let came : AsCame pieces (found ++ f ∷ []) =
          record {
            same =
                ap (map (λ (d : ℕ × List ℕ). Some d)) q ∙ map-append (λ (d : ℕ × List ℕ). Some d) (read-of found) ((4 * x.0, x.1) ∷ [])
                ∙ ap (λ (l : List (Option (ℕ × List ℕ))). l ++ Some (4 * x.0, x.1) ∷ []) g.same
                ∙ ap (λ (w : Option (ℕ × List ℕ)). map said (take n pieces) ++ w ∷ []) (sym (ap said_by z))
                ∙ sym (map-append said (take n pieces) (y ∷ [])) ∙ ap (map said) (sym more.0)
                ∙ ap (λ (m : ℕ). map said (take m pieces)) (sym size);
            few = rw size more.2;
          } in
          let rest = again (f ∷ []) none came (ap (λ (m : ℕ). drop m pieces) size ∙ more.1) in
          let all : after_checks side h (datagram_checks (length (read-of (found ++ f ∷ []))) ys) (found ++ f ∷ []) ≡ after_checks side h (datagram_checks n (y ∷ ys)) found =
          ap (λ (m : ℕ). after_checks side h (datagram_checks m ys) (found ++ f ∷ [])) size ∙ sym (on ∙ ap (λ (w : Result (ℕ × List ℕ) ErrorCode). after_checks side h (datagram_checks (suc n) ys) (found ++ datagram_found h found n w ∷ [])) z) in
          rw (sym all) (record {
            came = rest.came;
            fault = rest.fault ∙ sym (ap (λ (w : Result (ℕ × List ℕ) ErrorCode). option_or (datagram_fault w) (first_of fault-of-piece ys)) z);
            all = rest.all;
          })
        where
          plus-one : (m : ℕ) → m + 1 ≡ suc m
          plus-one m = omega arith
