-- The datagrams that a session received are the first of those that were admitted for it.
use Rattle.wt_promise.proofs.Statements.{DatagramsInOrder}
use Rattle.std.specs.Prelude.{[], ◌++◌, ◌<◌, ◌==◌, ◌∷◌, ◌≡◌, ◌≤◌, Bool, List, None, Option, Some, drop, false, filter, filter_map, if◌then◌else◌, length, map, suc, take, true, zero, ℕ}
use Rattle.std.proofs.Common.{◌∙◌, ap, arith, length-append, refl, sym}
use Rattle.std.proofs.lemmas.Bool.{eqb-true}
use Rattle.std.proofs.lemmas.List.{append-nil}
use Rattle.std.proofs.lemmas.List.Elements.{filter-append, filter_map-append}
use Rattle.wt_meaning.specs.Calls.{first_datagram}
use Rattle.wt_meaning.specs.Findings.{Finding, first_of}
use Rattle.wt_meaning.specs.History.{History, Pair}
use Rattle.wt_meaning.specs.Meaning.{next}
use Rattle.wt_meaning.specs.Moments.{findings}
use Rattle.wt_meaning.specs.Windows.{admitted_datagram, is_gone, is_number, named, received_count, receives}
use Rattle.wt_promise.proofs.Accepted.{datagram-received}
use Rattle.wt_promise.proofs.Grows.{findings-add, news}
use Rattle.wt_promise.specs.Promise.{IsHistory, payload_in, payloads}
use Rattle.wt_turn.specs.declared.reply.Reply.{Reply}
use Rattle.wt_turn.specs.declared.turn.Turn.{Turn}
use Rattle.wt_wire.specs.declared.side.Side.{Side}
use Rattle.wt_turn.specs.declared.call.Call.TheVariants as calls
use Rattle.wt_turn.specs.declared.reply.Reply.TheVariants as replies
use Rattle.wt_turn.specs.declared.turn.Turn.TheVariants as turns

-- the datagrams that were admitted for the session
abbrev admitted : Side → History → ℕ → List (ℕ × List ℕ)
admitted side h s = filter (λ (d : ℕ × List ℕ). d.0 == s) (filter_map admitted_datagram (findings side h))

-- a moment adds to them
admitted-add : (side : Side) (p : Pair) (h : History) (s : ℕ)
    → admitted side (p ∷ h) s ≡ admitted side h s ++ filter (λ (d : ℕ × List ℕ). d.0 == s) (filter_map admitted_datagram (news side p h))
admitted-add side p h s =
    ap (λ (found : List Finding). filter (λ (d : ℕ × List ℕ). d.0 == s) (filter_map admitted_datagram found)) (findings-add side p h)
    ∙ ap (filter (λ (d : ℕ × List ℕ). d.0 == s)) (filter_map-append admitted_datagram (findings side h) (news side p h))
    ∙ filter-append (λ (d : ℕ × List ℕ). d.0 == s) (filter_map admitted_datagram (findings side h)) (filter_map admitted_datagram (news side p h))

-- the payloads of these
abbrev payloads_of : List (ℕ × List ℕ) → List (List ℕ)
payloads_of ds = map (λ (d : ℕ × List ℕ). d.1) ds

-- the first after n of them is the next
next-one : (n : ℕ) (ds : List (ℕ × List ℕ)) (y : List ℕ) → first_of (λ (d : ℕ × List ℕ). Some d.1) (drop n ds) ≡ Some y → (n < length ds) × (take (suc n) (payloads_of ds) ≡ take n (payloads_of ds) ++ y ∷ [])
next-one zero [] y e = absurd (cc e)
next-one (suc n) [] y e = absurd (cc e)
next-one zero (d ∷ ds) y e = (omega arith, ap (λ (x : List ℕ). x ∷ []) (cc e))
next-one (suc n) (d ∷ ds) y e = let r = next-one n ds y e in (omega (arith, r.0), ap (λ xs. d.1 ∷ xs) r.1)

-- fewer of a longer list
take-more : (n : ℕ) (xs ys : List (ℕ × List ℕ)) → n ≤ length xs → take n (payloads_of (xs ++ ys)) ≡ take n (payloads_of xs)
take-more zero xs ys e = refl
take-more (suc n) [] ys e = absurd (omega (arith, e))
take-more (suc n) (d ∷ xs) ys e = ap (λ zs. d.1 ∷ zs) (take-more n xs ys (omega (arith, e)))

-- a pair that receives
record Receives (h : History) (s : ℕ) (turn : Turn) (r : Reply) : Type 0 where
  name : Option ℕ
  payload : List ℕ
  is_call : turn ≡ turns.Call (calls.ReceiveDatagram name)
  is_reply : r ≡ replies.Datagram payload
  of_it : is_number s (named h name) ≡ true

received-by : (h : History) (s : ℕ) (turn : Turn) (r : Reply) → receives h s turn r ≡ true → Receives h s turn r
received-by h s (turns.Call (calls.ReceiveDatagram name)) (replies.Datagram payload) e = record { name = name; payload = payload; is_call = refl; is_reply = refl; of_it = e }
received-by h s turn r e = absurd (cc e)

pub numbered : (s : ℕ) (o : Option ℕ) → is_number s o ≡ true → o ≡ Some s
numbered s None e = absurd (cc e)
numbered s (Some m) e = ap (λ (n : ℕ). Some n) (eqb-true m s e)

-- what waits for a session that isn't gone
unless-gone : (g : Bool) (o : Option (List ℕ)) (y : List ℕ) → (if g then None else o) ≡ Some y → o ≡ Some y
unless-gone true o y e = absurd (cc e)
unless-gone false o y e = e

record InOrder (side : Side) (h : History) (s : ℕ) : Type 0 where
  few : received_count h s ≤ length (admitted side h s)
  same : payloads h s ≡ take (received_count h s) (payloads_of (admitted side h s))

after : (side : Side) (p : Pair) (h : History) → IsHistory side (p ∷ h) → (s : ℕ) → InOrder side h s → InOrder side (p ∷ h) s
after side p h i s before = by (receives h s p.turn p.answer.reply) refl
  where
    new : List (ℕ × List ℕ)
    new = filter (λ (d : ℕ × List ℕ). d.0 == s) (filter_map admitted_datagram (news side p h))

    ofList : (count : ℕ) (got : List (List ℕ)) → count ≤ length (admitted side h s ++ new) → got ≡ take count (payloads_of (admitted side h s ++ new)) → received_count (p ∷ h) s ≡ count → payloads (p ∷ h) s ≡ got → InOrder side (p ∷ h) s
    ofList count got few same c g = record {
      few = rw (c, admitted-add side p h s) few;
      same = g ∙ same ∙ rw (c, admitted-add side p h s) refl;
    }

    by : (b : Bool) → receives h s p.turn p.answer.reply ≡ b → InOrder side (p ∷ h) s
    by false e =
        ofList (received_count h s) (payloads h s) (omega (arith, before.few, length-append (admitted side h s) new))
        (before.same ∙ sym (take-more (received_count h s) (admitted side h s) new before.few)) (rw e refl) (rw e (append-nil (payloads h s)))
    by true e =
        let r = received-by h s p.turn p.answer.reply e in
        let is : (next side h (turns.Call (calls.ReceiveDatagram r.name))).reply ≡ replies.Datagram r.payload = ap (λ (t : Turn). (next side h t).reply) (sym r.is_call) ∙ ap (λ a. a.reply) (sym i.1) ∙ r.is_reply in
        let d = datagram-received side h r.name r.payload is in
        let same : d.0 ≡ s = cc (d.1, numbered s (named h r.name) r.of_it) in
        let first : first_datagram side h s ≡ Some r.payload = ap (first_datagram side h) (sym same) ∙ d.2 in
        let n = next-one (received_count h s) (admitted side h s) r.payload (unless-gone (is_gone h (findings side h) s) _ r.payload first) in
        ofList (suc (received_count h s)) (payloads h s ++ r.payload ∷ [])
        (omega (arith, n.0, length-append (admitted side h s) new))
        (ap (λ xs. xs ++ r.payload ∷ []) before.same ∙ sym n.1 ∙ sym (take-more (suc (received_count h s)) (admitted side h s) new (omega (arith, n.0))))
        (ap (λ (b : Bool). if b then suc (received_count h s) else received_count h s) e)
        (ap (λ (b : Bool). payloads h s ++ (if b then payload_in p.answer.reply else [])) e ∙ ap (λ (x : Reply). payloads h s ++ payload_in x) r.is_reply)

in-order : (side : Side) (h : History) → IsHistory side h → (s : ℕ) → InOrder side h s
in-order side [] i s = record { few = omega arith; same = refl }
in-order side (p ∷ h) i s = after side p h i s (in-order side h i.2 s)

pub datagrams-in-order : (side : Side) (h : History) → IsHistory side h → DatagramsInOrder side h
datagrams-in-order side h i s = (in-order side h i s).same
