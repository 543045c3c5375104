-- The first fault of a moment's streams: a header that is one, or a second control, encoder's or decoder's stream.
use Rattle.std.specs.Prelude.{[], ◌&&◌, ◌++◌, ◌+◌, ◌==◌, ◌∷◌, ◌||◌, ◌≡◌, Bool, List, None, Option, Some, false, filter_map, if◌then◌else◌, is_some, length, nat_le, nat_lt, not, suc, true, zero, ℕ}
use Rattle.std.specs.List.{cons_option, list_any}
use Rattle.std.specs.Option.{option_or}
use Rattle.std.proofs.Common.{◌∙◌, ap, arith, length-append, refl, sym}
use Rattle.std.proofs.lemmas.Bool.{eq-eqb, le-leb}
use Rattle.std.proofs.lemmas.List.{append-nil}
use Rattle.std.proofs.lemmas.List.Elements.{filter_map-append}
use Rattle.wt_meaning.specs.Findings.{Classified, DatagramRead, Dequeued, Faulted, Finding, SessionClosed, SettingsRead, control_in, decoder_in, encoder_in, fault_in, fault_of, first_of, is_classified, is_dequeued}
use Rattle.wt_meaning.specs.History.{History}
use Rattle.wt_meaning.specs.Moments.{Check, Classify, Dequeue, classified_as, fault_if, found_by, is_ready, keeps, unclassified_before, verdict}
use Rattle.wt_promise.proofs.Grows.{first_of-append}
use Rattle.wt_promise.proofs.Passes.{is-of, option-none}
use Rattle.wt_promise.specs.Found.{code_if, header_fault, streams_fault, twice}
use Rattle.wt_proto.specs.declared.verdict.Verdict.{Verdict}
use Rattle.wt_wire.specs.declared.error.ErrorCode.{ErrorCode}
use Rattle.wt_wire.specs.declared.side.Side.{Side}
use Rattle.wt_proto.specs.declared.verdict.Verdict.TheVariants as verdicts
use Rattle.wt_wire.specs.declared.error.ErrorCode.TheVariants as h3

-- ---- one or two of a kind

abbrev Says : Type 0
Says = Finding → Option (ℕ × ℕ)

pub some-count : (says : Finding → Option (ℕ × ℕ)) (xs : List Finding) → is_some (first_of says xs) ≡ nat_le 1 (length (filter_map says xs))
some-count says [] = refl
some-count says (x ∷ xs) = by (says x) (some-count says xs)
  where
    by : (o : Option (ℕ × ℕ)) → is_some (first_of says xs) ≡ nat_le 1 (length (filter_map says xs)) → is_some (option_or o (first_of says xs)) ≡ nat_le 1 (length (cons_option o (filter_map says xs)))
    by None e = e
    by (Some y) e = sym (le-leb 1 (suc (length (filter_map says xs))) (omega arith))

-- one more makes two where there was one
one-more : (n : ℕ) → nat_le 2 (n + 1) ≡ nat_le 1 n
one-more zero = refl
one-more (suc n) = le-leb 2 (suc n + 1) (omega arith) ∙ sym (le-leb 1 (suc n) (omega arith))

twice-more : (says : Says) (found new : List Finding) (y : ℕ × ℕ) → filter_map says new ≡ y ∷ [] → twice says (found ++ new) ≡ is_some (first_of says found)
twice-more says found new y e =
    ap (λ (ys : List (ℕ × ℕ)). nat_le 2 (length ys)) (filter_map-append says found new ∙ ap (λ (ys : List (ℕ × ℕ)). filter_map says found ++ ys) e)
    ∙ ap (nat_le 2) (length-append (filter_map says found) (y ∷ [])) ∙ one-more (length (filter_map says found)) ∙ sym (some-count says found)

twice-same : (says : Says) (found new : List Finding) → filter_map says new ≡ [] → twice says (found ++ new) ≡ twice says found
twice-same says found new e =
    ap (λ (ys : List (ℕ × ℕ)). nat_le 2 (length ys)) (filter_map-append says found new ∙ ap (λ (ys : List (ℕ × ℕ)). filter_map says found ++ ys) e ∙ append-nil (filter_map says found))

-- ---- what brings no such fault

pub record NoHeaders (new : List Finding) : Type 0 where
  pub header : first_of header_fault new ≡ None
  pub control : filter_map control_in new ≡ []
  pub encoder : filter_map encoder_in new ≡ []
  pub decoder : filter_map decoder_in new ≡ []

pub same-faults : (found new : List Finding) → NoHeaders new → streams_fault (found ++ new) ≡ streams_fault found
same-faults found new none =
    ap (λ (o : Option ErrorCode). option_or o (code_if (twice control_in (found ++ new) || twice encoder_in (found ++ new) || twice decoder_in (found ++ new)) h3.StreamCreation))
    (first_of-append header_fault found new ∙ ap (option_or (first_of header_fault found)) none.header ∙ option-none (first_of header_fault found))
    ∙ rw (twice-same control_in found new none.control, twice-same encoder_in found new none.encoder, twice-same decoder_in found new none.decoder) refl

-- what is of no stream brings none
pub no-headers : (new : List Finding) → ((k : ℕ) → list_any (is-of k) new ≡ false) → NoHeaders new
no-headers [] none = record { header = refl; control = refl; encoder = refl; decoder = refl }
no-headers (Dequeued k ∷ new) none = let r = no-headers new (λ j. right (k == j) (list_any (is-of j) new) (none j)) in record { header = r.header; control = r.control; encoder = r.encoder; decoder = r.decoder }
  where
    right : (a b : Bool) → (a || b) ≡ false → b ≡ false
    right true b e = absurd (cc e)
    right false b e = e
no-headers (Classified k v keeps ∷ new) none = absurd (let r : (true || list_any (is-of k) new) ≡ false = ap (λ (b : Bool). b || list_any (is-of k) new) (sym (eq-eqb k k refl)) ∙ none k in cc r)
no-headers (DatagramRead n s payload keeps ∷ new) none = let r = no-headers new none in record { header = r.header; control = r.control; encoder = r.encoder; decoder = r.decoder }
no-headers (SessionClosed s code reason b ∷ new) none = let r = no-headers new none in record { header = r.header; control = r.control; encoder = r.encoder; decoder = r.decoder }
no-headers (SettingsRead ∷ new) none = let r = no-headers new none in record { header = r.header; control = r.control; encoder = r.encoder; decoder = r.decoder }
no-headers (Faulted code ∷ new) none = let r = no-headers new none in record { header = r.header; control = r.control; encoder = r.encoder; decoder = r.decoder }

-- ---- the checks of streams

-- so far the fault is that of the streams
abbrev pub StreamsFault : List Finding → Type 0
StreamsFault found = fault_of found ≡ streams_fault found

record NoneSoFar (found : List Finding) : Type 0 where
  header : first_of header_fault found ≡ None
  control : twice control_in found ≡ false
  encoder : twice encoder_in found ≡ false
  decoder : twice decoder_in found ≡ false

none-so-far : (found : List Finding) → streams_fault found ≡ None → NoneSoFar found
none-so-far found e = by (first_of header_fault found) (twice control_in found) (twice encoder_in found) (twice decoder_in found) refl refl refl refl e
  where
    by : (o : Option ErrorCode) (a b c : Bool) → first_of header_fault found ≡ o → twice control_in found ≡ a → twice encoder_in found ≡ b → twice decoder_in found ≡ c
        → option_or o (code_if (a || b || c) h3.StreamCreation) ≡ None → NoneSoFar found
    by None false false false w x y z q = record { header = w; control = x; encoder = y; decoder = z }
    by (Some code) a b c w x y z q = absurd (cc q)
    by None true b c w x y z q = absurd (cc q)
    by None false true c w x y z q = absurd (cc q)
    by None false false true w x y z q = absurd (cc q)

module _ (side : Side) (h : History) where
  new-fault : (found new : List Finding) → fault_of found ≡ None → fault_of (found ++ new) ≡ fault_of new
  new-fault found new e = first_of-append fault_in found new ∙ ap (λ (f : Option ErrorCode). option_or f (fault_of new)) e

  quiet : (found new : List Finding) → fault_of found ≡ None → StreamsFault found → fault_of new ≡ None → NoHeaders new → StreamsFault (found ++ new)
  quiet found new e s f none = new-fault found new e ∙ f ∙ sym e ∙ s ∙ sym (same-faults found new none)

  nothing : (found : List Finding) → fault_of found ≡ None → StreamsFault found → StreamsFault (found ++ [])
  nothing found e s = quiet found [] e s refl (record { header = refl; control = refl; encoder = refl; decoder = refl })

  as-fault : (found : List Finding) (k : ℕ) (v : Verdict) → fault_of found ≡ None → StreamsFault found → StreamsFault (found ++ classified_as h found k v)
  as-fault found k verdicts.Incomplete e s = nothing found e s
  as-fault found k (verdicts.Fault code) e s =
      new-fault found (Classified k (verdicts.Fault code) false ∷ Faulted code ∷ []) e
      ∙ sym (rw (first_of-append header_fault found (Classified k (verdicts.Fault code) false ∷ Faulted code ∷ []), (none-so-far found (sym s ∙ e)).header) refl)
  as-fault found k (verdicts.Control offset) e s = by (is_some (first_of control_in found)) refl
    where
      n : NoneSoFar found
      n = none-so-far found (sym s ∙ e)

      by : (b : Bool) → is_some (first_of control_in found) ≡ b → StreamsFault (found ++ (Classified k (verdicts.Control offset) false ∷ fault_if b h3.StreamCreation))
      by true q =
          new-fault found _ e
          ∙ sym (rw (first_of-append header_fault found (Classified k (verdicts.Control offset) false ∷ Faulted h3.StreamCreation ∷ []), n.header, twice-more control_in found (Classified k (verdicts.Control offset) false ∷ Faulted h3.StreamCreation ∷ []) (k, offset) refl, q) refl)
      by false q =
          new-fault found _ e
          ∙ sym (rw (
            first_of-append header_fault found (Classified k (verdicts.Control offset) false ∷ []),
            n.header,
            twice-more control_in found (Classified k (verdicts.Control offset) false ∷ []) (k, offset) refl,
            q,
            twice-same encoder_in found (Classified k (verdicts.Control offset) false ∷ []) refl,
            n.encoder,
            twice-same decoder_in found (Classified k (verdicts.Control offset) false ∷ []) refl,
            n.decoder,
          ) refl)
  as-fault found k (verdicts.Encoder offset) e s = by (is_some (first_of encoder_in found)) refl
    where
      n : NoneSoFar found
      n = none-so-far found (sym s ∙ e)

      by : (b : Bool) → is_some (first_of encoder_in found) ≡ b → StreamsFault (found ++ (Classified k (verdicts.Encoder offset) false ∷ fault_if b h3.StreamCreation))
      by true q =
          new-fault found _ e
          ∙ sym (rw (
            first_of-append header_fault found (Classified k (verdicts.Encoder offset) false ∷ Faulted h3.StreamCreation ∷ []),
            n.header,
            twice-more encoder_in found (Classified k (verdicts.Encoder offset) false ∷ Faulted h3.StreamCreation ∷ []) (k, offset) refl,
            q,
            twice-same control_in found (Classified k (verdicts.Encoder offset) false ∷ Faulted h3.StreamCreation ∷ []) refl,
            n.control,
          ) refl)
      by false q =
          new-fault found _ e
          ∙ sym (rw (
            first_of-append header_fault found (Classified k (verdicts.Encoder offset) false ∷ []),
            n.header,
            twice-more encoder_in found (Classified k (verdicts.Encoder offset) false ∷ []) (k, offset) refl,
            q,
            twice-same control_in found (Classified k (verdicts.Encoder offset) false ∷ []) refl,
            n.control,
            twice-same decoder_in found (Classified k (verdicts.Encoder offset) false ∷ []) refl,
            n.decoder,
          ) refl)
  as-fault found k (verdicts.Decoder offset) e s = by (is_some (first_of decoder_in found)) refl
    where
      n : NoneSoFar found
      n = none-so-far found (sym s ∙ e)

      by : (b : Bool) → is_some (first_of decoder_in found) ≡ b → StreamsFault (found ++ (Classified k (verdicts.Decoder offset) false ∷ fault_if b h3.StreamCreation))
      by true q =
          new-fault found _ e
          ∙ sym (rw (
            first_of-append header_fault found (Classified k (verdicts.Decoder offset) false ∷ Faulted h3.StreamCreation ∷ []),
            n.header,
            twice-more decoder_in found (Classified k (verdicts.Decoder offset) false ∷ Faulted h3.StreamCreation ∷ []) (k, offset) refl,
            q,
            twice-same control_in found (Classified k (verdicts.Decoder offset) false ∷ Faulted h3.StreamCreation ∷ []) refl,
            n.control,
            twice-same encoder_in found (Classified k (verdicts.Decoder offset) false ∷ Faulted h3.StreamCreation ∷ []) refl,
            n.encoder,
          ) refl)
      by false q =
          new-fault found _ e
          ∙ sym (rw (
            first_of-append header_fault found (Classified k (verdicts.Decoder offset) false ∷ []),
            n.header,
            twice-more decoder_in found (Classified k (verdicts.Decoder offset) false ∷ []) (k, offset) refl,
            q,
            twice-same control_in found (Classified k (verdicts.Decoder offset) false ∷ []) refl,
            n.control,
            twice-same encoder_in found (Classified k (verdicts.Decoder offset) false ∷ []) refl,
            n.encoder,
          ) refl)
  as-fault found k v e s = quiet found (Classified k v (keeps h found v) ∷ []) e s refl (record { header = refl; control = refl; encoder = refl; decoder = refl })

  -- a check of a stream
  abbrev pub of-streams : Check → Bool
  of-streams (Dequeue k) = true
  of-streams (Classify k) = true
  of-streams _ = false

  pub streams-check : (found : List Finding) (c : Check) → of-streams c ≡ true → fault_of found ≡ None → StreamsFault found → StreamsFault (found ++ found_by side h found c)
  streams-check found (Dequeue k) t e s = by (not (is_dequeued found k) && is_ready side h && nat_lt (unclassified_before found k) 4)
    where
      by : (b : Bool) → StreamsFault (found ++ (if b then Dequeued k ∷ [] else []))
      by true = quiet found (Dequeued k ∷ []) e s refl (record { header = refl; control = refl; encoder = refl; decoder = refl })
      by false = nothing found e s
  streams-check found (Classify k) t e s = by (is_dequeued found k && not (is_classified found k))
    where
      by : (b : Bool) → StreamsFault (found ++ (if b then classified_as h found k (verdict h k) else []))
      by true = as-fault found k (verdict h k) e s
      by false = nothing found e s
  streams-check found c t e s = absurd (cc t)
