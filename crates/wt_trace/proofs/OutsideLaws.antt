-- What a read from memory leaves, and what writes one after another add.
use Rattle.std.proofs.Common.{arith, ◌≡◌, ℕ, get_or, ◌+◌, ◌-◌, ◌<◌, ◌≤◌, min, List, [], ◌∷◌, ◌++◌, sym, ap, subst, ◌∙◌, length, take, drop, length-drop, length-append, append_assoc, append-nil}
use Rattle.std.proofs.Math.Seq.{take-add}
use Rattle.std.proofs.Math.Seq.{take-append_seam}
use Rattle.std.proofs.lemmas.Grind.{flat_map-append}
use Rattle.std.proofs.lemmas.List.{drop_all, take_all, take_more, drop-drop, length-take-le, take-append-drop}
use Rattle.std.specs.Prelude.{Option, Some, None}
use Rattle.std.specs.Io.KnownBytes.{Appends, Keeps}
use Rattle.std.specs.List.{flat_map}
use Rattle.wt_trace.specs.Outside.{AppendsPart, Passes}

part_length : (bytes part : List ℕ) (offset count : ℕ) → count ≤ length bytes - offset → part ≡ take (offset + count - offset) (drop offset bytes) → length part ≡ count
part_length bytes part offset count within p =
    ap length p ∙ length-take-le (offset + count - offset) (drop offset bytes) (omega (arith, length-drop offset bytes)) ∙ (let e : offset + count - offset ≡ count = omega arith in e)

pub read_part : (bytes buf part : List ℕ) (offset count : ℕ) → offset ≤ length bytes → count ≡ min (length buf) (length bytes - offset)
    → part ≡ take (offset + count - offset) (drop offset bytes)
    → drop offset bytes ≡ take count (part ++ drop count buf) ++ drop (offset + count) bytes
read_part bytes buf part offset count begun e p =
    let size : length part ≡ count = part_length bytes part offset count (omega arith) p in
    let width : offset + count - offset ≡ count = omega arith in
    let front : take count (part ++ drop count buf) ≡ part = ap (λ n. take n (part ++ drop count buf)) (sym size) ∙ take-append_seam part (drop count buf) in
    sym (ap (λ l. l ++ drop (offset + count) bytes) (front ∙ p ∙ ap (λ n. take n (drop offset bytes)) width)
    ∙ ap (λ l. take count (drop offset bytes) ++ l) (sym (drop-drop count offset bytes))
    ∙ take-append-drop count (drop offset bytes))

pub read_none : (bytes buf part : List ℕ) (offset count : ℕ) → offset ≤ length bytes → count ≡ min (length buf) (length bytes - offset)
    → part ≡ take (offset + count - offset) (drop offset bytes)
    → count ≡ 0 → 0 < length (part ++ drop count buf) → drop (offset + count) bytes ≡ []
read_none bytes buf part offset count begun e p none some =
    let size : length part ≡ count = part_length bytes part offset count (omega arith) p in
    drop_all (offset + count) bytes (omega (arith, length-append part (drop count buf), length-drop count buf))

pub appends_then : (old mid new : Option (List ℕ)) (first second : List ℕ) → Appends old mid first → Appends mid new second → Appends old new (first ++ second)
appends_then None mid new first second a b = tt
appends_then (Some xs) None new first second a b = absurd a
appends_then (Some xs) (Some ys) None first second a b = absurd b
appends_then (Some xs) (Some ys) (Some zs) first second a b = b ∙ ap (λ l. l ++ second) a ∙ append_assoc xs first second

appends_kept : (old mid new : Option (List ℕ)) (text : List ℕ) → Appends old mid text → Keeps mid new → Appends old new text
appends_kept None mid new text a k = tt
appends_kept (Some xs) None new text a k = absurd a
appends_kept (Some xs) (Some ys) None text a k = absurd k
appends_kept (Some xs) (Some ys) (Some zs) text a k = k ∙ a

-- the whole text is a part of it
pub part_whole : (old new : Option (List ℕ)) (text : List ℕ) → Appends old new text → AppendsPart old new text
part_whole old new text a = record { part = text; rest = []; whole = append-nil text; appends = a }

pub part_longer : (old new : Option (List ℕ)) (first second : List ℕ) → AppendsPart old new first → AppendsPart old new (first ++ second)
part_longer old new first second p = record {
  part = p.part;
  rest = p.rest ++ second;
  whole = sym (append_assoc p.part p.rest second) ∙ ap (λ l. l ++ second) p.whole;
  appends = p.appends;
}

pub part_then : (old mid new : Option (List ℕ)) (first second : List ℕ) → Appends old mid first → AppendsPart mid new second → AppendsPart old new (first ++ second)
part_then old mid new first second a p = record {
  part = first ++ p.part;
  rest = p.rest;
  whole = append_assoc first p.part p.rest ∙ ap (λ l. first ++ l) p.whole;
  appends = appends_then old mid new first p.part a p.appends;
}

-- where a write failed, the text up to there was taken
pub part_up_to : (old mid new : Option (List ℕ)) (text : List ℕ) (offset : ℕ) → Appends old mid (take offset text) → Keeps mid new → AppendsPart old new text
part_up_to old mid new text offset a k = record {
  part = take offset text;
  rest = drop offset text;
  whole = take-append-drop offset text;
  appends = appends_kept old mid new (take offset text) a k;
}

pub rest_of : (text : List ℕ) (offset : ℕ) → take (length text - offset) (drop offset text) ≡ drop offset text
rest_of text offset = take_all (length text - offset) (drop offset text) (omega (arith, length-drop offset text))

-- some more of a text
pub appends_more : (old mid new : Option (List ℕ)) (text : List ℕ) (offset n : ℕ) → Appends old mid (take offset text) → Appends mid new (take n (drop offset text)) → Appends old new (take (offset + n) text)
appends_more old mid new text offset n a b = subst (Appends old new) (sym (take-add offset n text)) (appends_then old mid new (take offset text) (take n (drop offset text)) a b)

-- ---- text that is gathered before it is written

-- of more text a part was written
pub part_passed : (old mid new : Option (List ℕ)) (text waiting more : List ℕ) → Passes old mid text waiting → AppendsPart mid new (waiting ++ more) → AppendsPart old new (text ++ more)
part_passed old mid new text waiting more p q = record {
  part = p.written ++ q.part;
  rest = q.rest;
  whole = append_assoc p.written q.part q.rest ∙ ap (λ l. p.written ++ l) q.whole ∙ sym (append_assoc p.written waiting more) ∙ ap (λ l. l ++ more) p.whole;
  appends = appends_then old mid new p.written q.part p.appends q.appends;
}

-- more text came, and of what waited a first part was written
pub passes_then : (old mid new : Option (List ℕ)) (text waiting more later : List ℕ) → Passes old mid text waiting → Passes mid new (waiting ++ more) later → Passes old new (text ++ more) later
passes_then old mid new text waiting more later p q = record {
  written = p.written ++ q.written;
  whole = append_assoc p.written q.written later ∙ ap (λ l. p.written ++ l) q.whole ∙ sym (append_assoc p.written waiting more) ∙ ap (λ l. l ++ more) p.whole;
  appends = appends_then old mid new p.written q.written p.appends q.appends;
}

-- the text up to an element, then that of the element
pub text_more : {X : Type 0} (text : X → List ℕ) (xs : List X) (i : ℕ) (x : X) → i < length xs → x ≡ get_or xs i x → flat_map text (take i xs) ++ text x ≡ flat_map text (take (i + 1) xs)
text_more text xs i x within e =
    ap (λ y. flat_map text (take i xs) ++ text y) e
    ∙ ap (λ l. flat_map text (take i xs) ++ l) (sym (append-nil (text (get_or xs i x))))
    ∙ sym (flat_map-append text (take i xs) (get_or xs i x ∷ []))
    ∙ ap (flat_map text) (sym (take_more xs i x within))

pub text_passes : {X : Type 0} (old mid new : Option (List ℕ)) (text : X → List ℕ) (xs : List X) (waiting later : List ℕ) (i : ℕ) (x : X) → i < length xs → x ≡ get_or xs i x
    → Passes old mid (flat_map text (take i xs)) waiting → Passes mid new (waiting ++ text x) later → Passes old new (flat_map text (take (i + 1) xs)) later
text_passes old mid new text xs waiting later i x within e p q =
    subst (λ l. Passes old new l later) (text_more text xs i x within e) (passes_then old mid new (flat_map text (take i xs)) waiting (text x) later p q)

-- a part of the text up to an element is a part of the whole text, and of what follows that
pub text_part : {X : Type 0} (old mid new : Option (List ℕ)) (text : X → List ℕ) (xs : List X) (waiting last : List ℕ) (i : ℕ) (x : X) → i < length xs → x ≡ get_or xs i x
    → Passes old mid (flat_map text (take i xs)) waiting → AppendsPart mid new (waiting ++ text x) → AppendsPart old new (flat_map text xs ++ last)
text_part old mid new text xs waiting last i x within e p q =
    let here : AppendsPart old new (flat_map text (take (i + 1) xs)) =
    subst (AppendsPart old new) (text_more text xs i x within e) (part_passed old mid new (flat_map text (take i xs)) waiting (text x) p q) in
    let whole : flat_map text (take (i + 1) xs) ++ flat_map text (drop (i + 1) xs) ≡ flat_map text xs =
    sym (flat_map-append text (take (i + 1) xs) (drop (i + 1) xs)) ∙ ap (flat_map text) (take-append-drop (i + 1) xs) in
    part_longer old new (flat_map text xs) last
    (subst (AppendsPart old new) whole (part_longer old new (flat_map text (take (i + 1) xs)) (flat_map text (drop (i + 1) xs)) here))
