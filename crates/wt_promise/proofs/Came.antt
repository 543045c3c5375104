-- What a session received is a subsequence of what came for it; a reset is read once it came.
use Rattle.wt_promise.proofs.Statements.{PayloadsCame, ResetsRightly}
use Rattle.std.specs.Prelude.{[], ◌++◌, ◌==◌, ◌∷◌, ◌≡◌, Bool, List, None, Option, Some, drop, false, filter, filter_map, if◌then◌else◌, length, map, nat_le, not, suc, take, true, zero, ℕ}
use Rattle.std.specs.List.{cons_option}
use Rattle.std.proofs.Common.{◌∙◌, ap, refl, subst, sym}
use Rattle.std.proofs.lemmas.List.{take-append-drop}
use Rattle.std.proofs.lemmas.List.Elements.{filter_map-append}
use Rattle.wt_meaning.specs.Findings.{Classified, DatagramRead, Dequeued, Faulted, Finding, SessionClosed, SettingsRead}
use Rattle.wt_meaning.specs.Halves.{has_receiving, is_fin, reset_code, unread, where_has}
use Rattle.wt_meaning.specs.Handshakes.{is_nothing}
use Rattle.wt_meaning.specs.History.{History, events, is_open}
use Rattle.wt_meaning.specs.Moments.{findings}
use Rattle.wt_meaning.specs.Rows.{first_row, row, row_for}
use Rattle.wt_meaning.specs.Windows.{admitted_datagram, received_count}
use Rattle.wt_promise.proofs.DatagramReads.{read-of, said}
use Rattle.wt_promise.proofs.Datagrams.{datagrams-in-order}
use Rattle.wt_promise.proofs.Facts.{facts}
use Rattle.wt_promise.specs.Promise.{IsHistory}
use Rattle.wt_promise.specs.Found.{IsSubsequence, LeftOut, Nil, Taken}
use Rattle.wt_promise.specs.Sides.{arrived}
use Rattle.wt_turn.specs.Reports.{datagrams_of, end_of}
use Rattle.wt_wire.specs.declared.side.Side.{Side}
use Rattle.wt_wire.specs.declared.side.StreamEnd.{StreamEnd}
use Rattle.wt_turn.specs.declared.reply.Reply.TheVariants as replies
use Rattle.wt_turn.specs.declared.stream_error.StreamReadError.TheVariants as reads
use Rattle.wt_turn.specs.declared.stream_error.StreamReadExactError.TheVariants as exacts
use Rattle.wt_wire.specs.declared.side.StreamEnd.TheVariants as ends

-- ---- subsequences

sub-take : {T : Type 0} (n : ℕ) (xs ys : List T) → IsSubsequence xs ys → IsSubsequence (take n xs) ys
sub-take zero xs ys s = Nil ys
sub-take (suc n) [] ys s = Nil ys
sub-take (suc n) (x ∷ xs) ys (LeftOut _ y zs s) = LeftOut (take (suc n) (x ∷ xs)) y zs (sub-take (suc n) (x ∷ xs) zs s)
sub-take (suc n) (x ∷ xs) ys (Taken _ y zs s) = Taken (take n xs) x zs (sub-take n xs zs s)

sub-more : {T : Type 0} (xs ys zs : List T) → IsSubsequence xs ys → IsSubsequence xs (ys ++ zs)
sub-more xs ys zs (Nil _) = Nil (ys ++ zs)
sub-more xs (y ∷ ys) zs (LeftOut _ _ _ s) = LeftOut xs y (ys ++ zs) (sub-more xs ys zs s)
sub-more (x ∷ xs) (y ∷ ys) zs (Taken _ _ _ s) = Taken xs x (ys ++ zs) (sub-more xs ys zs s)

sub-map : {T S : Type 0} (f : T → S) (xs ys : List T) → IsSubsequence xs ys → IsSubsequence (map f xs) (map f ys)
sub-map f xs ys (Nil _) = Nil (map f ys)
sub-map f xs (y ∷ ys) (LeftOut _ _ _ s) = LeftOut (map f xs) (f y) (map f ys) (sub-map f xs ys s)
sub-map f (x ∷ xs) (y ∷ ys) (Taken _ _ _ s) = Taken (map f xs) (f x) (map f ys) (sub-map f xs ys s)

sub-filter : {T : Type 0} (test : T → Bool) (xs ys : List T) → IsSubsequence xs ys → IsSubsequence (filter test xs) (filter test ys)
sub-filter test xs ys (Nil _) = Nil (filter test ys)
sub-filter {T = T} test xs (y ∷ ys) (LeftOut _ _ _ s) = by (test y) (sub-filter test xs ys s)
  where
    by : (b : Bool) → IsSubsequence (filter test xs) (filter test ys) → IsSubsequence (filter test xs) (if b then y ∷ filter test ys else filter test ys)
    by true r = LeftOut (filter test xs) y (filter test ys) r
    by false r = r
sub-filter {T = T} test (x ∷ xs) (y ∷ ys) (Taken _ _ _ s) = by (test x) (sub-filter test xs ys s)
  where
    by : (b : Bool) → IsSubsequence (filter test xs) (filter test ys) → IsSubsequence (if b then x ∷ filter test xs else filter test xs) (if b then x ∷ filter test ys else filter test ys)
    by true r = Taken (filter test xs) x (filter test ys) r
    by false r = r

-- ---- datagrams

admitted-read : (found : List Finding) → IsSubsequence (filter_map admitted_datagram found) (read-of found)
admitted-read [] = Nil []
admitted-read (DatagramRead n s payload true ∷ found) = Taken (filter_map admitted_datagram found) (s, payload) (read-of found) (admitted-read found)
admitted-read (DatagramRead n s payload false ∷ found) = LeftOut (filter_map admitted_datagram found) (s, payload) (read-of found) (admitted-read found)
admitted-read (Dequeued k ∷ found) = admitted-read found
admitted-read (Classified k v keeps ∷ found) = admitted-read found
admitted-read (SessionClosed s code reason b ∷ found) = admitted-read found
admitted-read (SettingsRead ∷ found) = admitted-read found
admitted-read (Faulted code ∷ found) = admitted-read found

-- what was read is what the first pieces say
all-said : (ds : List (ℕ × List ℕ)) (pieces : List (List ℕ)) → map (λ (d : ℕ × List ℕ). Some d) ds ≡ map said pieces → ds ≡ filter_map said pieces
all-said [] [] e = refl
all-said [] (piece ∷ pieces) e = absurd (cc e)
all-said (d ∷ ds) [] e = absurd (cc e)
all-said (d ∷ ds) (piece ∷ pieces) e =
    let x : Some d ≡ said piece = cc e in let r = all-said ds pieces (cc e) in
    ap (λ (l : List (ℕ × List ℕ)). d ∷ l) r ∙ ap (λ (o : Option (ℕ × List ℕ)). cons_option o (filter_map said pieces)) x

pub payloads_came : (side : Side) (h : History) → IsHistory side h → PayloadsCame h
payloads_came side h i s =
    subst (λ (ps : List (List ℕ)). IsSubsequence ps (arrived h s)) (sym (datagrams-in-order side h i s))
    (sub-take (received_count h s) _ (arrived h s)
    (sub-map (λ (d : ℕ × List ℕ). d.1) _ _ (sub-filter (λ (d : ℕ × List ℕ). d.0 == s) (filter_map admitted_datagram (findings side h)) (filter_map said (datagrams_of (events h))) came)))
  where
    n : ℕ
    n = length (read-of (findings side h))

    first : read-of (findings side h) ≡ filter_map said (take (length (read-of (findings side h))) (datagrams_of (events h)))
    first = all-said (read-of (findings side h)) (take (length (read-of (findings side h))) (datagrams_of (events h))) (facts side h i).came.same

    came : IsSubsequence (filter_map admitted_datagram (findings side h)) (filter_map said (datagrams_of (events h)))
    came = of (length (read-of (findings side h))) first
      where
        of : (m : ℕ) → read-of (findings side h) ≡ filter_map said (take m (datagrams_of (events h))) → IsSubsequence (filter_map admitted_datagram (findings side h)) (filter_map said (datagrams_of (events h)))
        of m q =
            subst (λ (ps : List (List ℕ)). IsSubsequence (filter_map admitted_datagram (findings side h)) (filter_map said ps)) (take-append-drop m (datagrams_of (events h)))
            (subst (λ (ds : List (ℕ × List ℕ)). IsSubsequence (filter_map admitted_datagram (findings side h)) ds) (sym (filter_map-append said (take m (datagrams_of (events h))) (drop m (datagrams_of (events h)))))
            (sub-more (filter_map admitted_datagram (findings side h)) (filter_map said (take m (datagrams_of (events h)))) (filter_map said (drop m (datagrams_of (events h))))
            (subst (λ (ds : List (ℕ × List ℕ)). IsSubsequence (filter_map admitted_datagram (findings side h)) ds) q (admitted-read (findings side h)))))

-- ---- resets

read-resets : (has none o : Bool) (size code : ℕ) (left : List ℕ) (end : StreamEnd)
    → (first_row (where_has has (row none (replies.Read (Some [])) [] ∷ row (not (is_nothing left)) (replies.Read (Some (take size left))) [] ∷ row (is_fin end) (replies.Read None) []
    ∷ row_for (reset_code end) (λ (code : ℕ). replies.ReadFailed (reads.Reset code)) [] ∷ row (not o) (replies.ReadFailed reads.NotConnected) [] ∷ []))).reply ≡ replies.ReadFailed (reads.Reset code)
    → (end ≡ ends.Reset code) × (left ≡ [])
read-resets false none o size code left end q = absurd (cc q)
read-resets true true o size code left end q = absurd (cc q)
read-resets true false o size code (b ∷ left) end q = absurd (cc q)
read-resets true false o size code [] ends.Fin q = absurd (cc q)
read-resets true false o size code [] (ends.Reset c) q = let e : c ≡ code = cc q in (ap (λ (n : ℕ). ends.Reset n) e, refl)
read-resets true false true size code [] ends.Running q = absurd (cc q)
read-resets true false false size code [] ends.Running q = absurd (cc q)

exact-resets : (has enough o : Bool) (size code : ℕ) (left piece : List ℕ) (end : StreamEnd)
    → (first_row (where_has has (row enough (replies.Exact (take size left)) [] ∷ row (is_fin end) (replies.ExactFailed (exacts.FinishedEarly (length left)) left) []
    ∷ row_for (reset_code end) (λ (code : ℕ). replies.ExactFailed (exacts.Read (reads.Reset code)) []) [] ∷ row (not o) (replies.ExactFailed (exacts.Read reads.NotConnected) []) [] ∷ []))).reply
    ≡ replies.ExactFailed (exacts.Read (reads.Reset code)) piece
    → end ≡ ends.Reset code
exact-resets false enough o size code left piece end q = absurd (cc q)
exact-resets true true o size code left piece end q = absurd (cc q)
exact-resets true false o size code left piece ends.Fin q = absurd (cc q)
exact-resets true false o size code left piece (ends.Reset c) q = let e : c ≡ code = cc q in ap (λ (n : ℕ). ends.Reset n) e
exact-resets true false true size code left piece ends.Running q = absurd (cc q)
exact-resets true false false size code left piece ends.Running q = absurd (cc q)

pub resets_rightly : (side : Side) (h : History) (id size code : ℕ) → ResetsRightly side h id size code
resets_rightly side h id size code = record {
  read = λ q. read-resets (has_receiving side h id) (size == 0) (is_open h) size code (unread side h id) (end_of (events h) id) q;
  exact = λ piece q. exact-resets (has_receiving side h id) (nat_le size (length (unread side h id))) (is_open h) size code (unread side h id) piece (end_of (events h) id) q;
}
