-- Rule 5 holds of a lawful list: what was received for a session came for it, in that order.
use Rattle.std.specs.Prelude.{[], ◌++◌, ◌==◌, ◌∷◌, ◌≡◌, Bool, List, None, Option, Some, bytes_eq, false, filter, filter_map, if◌then◌else◌, map, true, ℕ}
use Rattle.std.specs.Option.{option_or}
use Rattle.std.proofs.Common.{◌∙◌, ap, refl, subst, sym}
use Rattle.std.proofs.lemmas.List.{append-nil}
use Rattle.std.proofs.lemmas.Slice.Eq.{bytes_eq-Decides}
use Rattle.wt_check.proofs.Alike.{Alike, SamePairs, brought, same}
use Rattle.wt_check.proofs.Along.{throughout-after}
use Rattle.wt_check.specs.Datagrams.{datagrams_hold, is_subsequence, received, receives_rightly}
use Rattle.wt_check.specs.Records.{field_of, named_of, names, recorded}
use Rattle.wt_check.specs.Verdict.{holds}
use Rattle.wt_meaning.specs.History.{History, Pair}
use Rattle.wt_meaning.specs.Meaning.{next}
use Rattle.wt_meaning.specs.Windows.{first_session, is_established, is_number, establishes, named, receives}
use Rattle.wt_promise.proofs.Accepted.{datagram-received}
use Rattle.wt_promise.proofs.Came.{payloads_came}
use Rattle.wt_promise.proofs.Tables.{fits, fits-own}
use Rattle.wt_message.specs.Datagram.{datagram_of}
use Rattle.wt_promise.specs.Found.{IsSubsequence, LeftOut, Nil, Taken, said_by}
use Rattle.wt_promise.specs.Promise.{AllLawful, IsHistory, payload_in, payloads}
use Rattle.wt_promise.specs.Sides.{arrived}
use Rattle.wt_turn.specs.Reports.{datagrams_of}
use Rattle.wt_turn.specs.Log.{Event}
use Rattle.wt_turn.specs.declared.action.Action.{Action}
use Rattle.wt_turn.specs.declared.answer.Answer.{Answer}
use Rattle.wt_turn.specs.declared.call.Call.{Call}
use Rattle.wt_turn.specs.declared.reply.Reply.{Reply}
use Rattle.wt_turn.specs.declared.turn.Turn.{Turn}
use Rattle.wt_wire.specs.declared.side.Side.{Side}
use Rattle.wt_turn.specs.declared.call.Call.TheVariants as calls
use Rattle.wt_turn.specs.declared.reply.Reply.TheVariants as replies
use Rattle.wt_turn.specs.declared.turn.Turn.TheVariants as turns

-- ---- the session that a call names

pub first-same : (r h : History) → SamePairs r h → first_session r ≡ first_session h
first-same = same first_session (λ k piece sent h. none (first_session h)) (λ p r h e. ap (λ (o : Option ℕ). option_or o (establishes p)) e)
  where
    none : (o : Option ℕ) → option_or o None ≡ o
    none None = refl
    none (Some s) = refl

pub names-by : (r h : History) (turn : Turn) → first_session r ≡ first_session h → names r turn ≡ names h turn
names-by r h turn e = by (field_of turn)
  where
    by : (o : Option (Option ℕ)) → named_of (first_session r) o ≡ named_of (first_session h) o
    by None = refl
    by (Some None) = e
    by (Some (Some s)) = refl

-- a session that is named is the one that the field means
pub named-names : (h : History) (name : Option ℕ) (s : ℕ) → named h name ≡ Some s → named_of (first_session h) (Some name) ≡ Some s
named-names h None s e = e
named-names h (Some t) s e = by (is_established h t) e
  where
    by : (b : Bool) → (if b then Some t else None) ≡ Some s → Some t ≡ Some s
    by true q = q
    by false q = absurd (cc q)

-- ---- what was received

payload-call : (c : Call) (payload : List ℕ) → fits c (replies.Datagram payload) ≡ true → (name : Option ℕ) × (c ≡ calls.ReceiveDatagram name)
payload-call (calls.ReceiveDatagram name) payload f = (name, refl)
payload-call c payload f = absurd (cc f)

-- the reply counts for the session that the call names, established or not
abbrev CountsAlike : Side → History → ℕ → Turn → Reply → Type 0
CountsAlike side h s turn reply = (if is_number s (names h turn) then payload_in reply else []) ≡ (if receives h s turn reply then payload_in reply else [])

of-named : (side : Side) (h : History) (s t : ℕ) (name : Option ℕ) (payload : List ℕ) → named h name ≡ Some t → CountsAlike side h s (turns.Call (calls.ReceiveDatagram name)) (replies.Datagram payload)
of-named side h s t name payload e = ap (λ (o : Option ℕ). if is_number s o then payload ∷ [] else []) (named-names h name t e ∙ sym e)

of-turn : (side : Side) (h : History) (s : ℕ) (turn : Turn) (payload : List ℕ) → (next side h turn).reply ≡ replies.Datagram payload → CountsAlike side h s turn (replies.Datagram payload)
of-turn side h s (turns.Call c) payload e =
    let n = payload-call c payload (ap (fits c) (sym e) ∙ fits-own side h c) in
    let d = datagram-received side h n.0 payload (ap (λ (x : Call). (next side h (turns.Call x)).reply) (sym n.1) ∙ e) in
    subst (λ (x : Call). CountsAlike side h s (turns.Call x) (replies.Datagram payload)) (sym n.1) (of-named side h s d.0 n.0 payload d.1)
of-turn side h s turn payload e = absurd (cc e)

none-of : (b c : Bool) → (if b then payload_in replies.Done else []) ≡ (if c then payload_in replies.Done else [])
none-of true true = refl
none-of true false = refl
none-of false true = refl
none-of false false = refl

counts-alike : (side : Side) (h : History) (s : ℕ) (turn : Turn) (reply : Reply) → (next side h turn).reply ≡ reply → CountsAlike side h s turn reply
counts-alike side h s turn (replies.Datagram payload) e = of-turn side h s turn payload e
counts-alike side h s turn reply e = none-of (is_number s (names h turn)) (receives h s turn reply)

received-payloads : (side : Side) (h : History) → IsHistory side h → (s : ℕ) → received h s ≡ payloads h s
received-payloads side [] i s = refl
received-payloads side (p ∷ h) i s =
    ap (λ (xs : List (List ℕ)). xs ++ (if is_number s (names h p.turn) then payload_in p.answer.reply else [])) (received-payloads side h i.2 s)
    ∙ ap (λ (xs : List (List ℕ)). payloads h s ++ xs) (counts-alike side h s p.turn p.answer.reply (ap (λ (a : Answer). a.reply) (sym i.1)))

-- of the record as of the history
received-same : (r h : History) (s : ℕ) → SamePairs r h → received r s ≡ received h s
received-same r h s a = ap (λ (x : Option ℕ × List (List ℕ)). x.1) (same says quiet more r h a)
  where
    says : History → Option ℕ × List (List ℕ)
    says g = (first_session g, received g s)

    quiet : (k : ℕ) (piece : List ℕ) (sent : List Action) (g : History) → says (brought k piece sent ∷ g) ≡ says g
    quiet k piece sent g = rw (none (first_session g), append-nil (received g s)) refl
      where
        none : (o : Option ℕ) → option_or o None ≡ o
        none None = refl
        none (Some t) = refl

    more : (p : Pair) (f g : History) → says f ≡ says g → says (p ∷ f) ≡ says (p ∷ g)
    more p f g e =
        let x : first_session f ≡ first_session g = ap (λ (z : Option ℕ × List (List ℕ)). z.0) e in let y : received f s ≡ received g s = ap (λ (z : Option ℕ × List (List ℕ)). z.1) e in
        rw (x, y) refl

-- ---- a subsequence is found greedily

-- fewer of it are found too
abbrev Fewer : List (List ℕ) → Type 0
Fewer ys = (x : List ℕ) (xs : List (List ℕ)) → is_subsequence (x ∷ xs) ys ≡ true → is_subsequence xs ys ≡ true

skip : (ys : List (List ℕ)) → Fewer ys → (y : List ℕ) (xs : List (List ℕ)) → is_subsequence xs ys ≡ true → is_subsequence xs (y ∷ ys) ≡ true
skip ys fewer y [] e = refl
skip ys fewer y (x ∷ xs) e = by (bytes_eq x y)
  where
    by : (b : Bool) → (if b then is_subsequence xs ys else is_subsequence (x ∷ xs) ys) ≡ true
    by true = fewer x xs e
    by false = e

fewer : (ys : List (List ℕ)) → Fewer ys
fewer [] x xs e = absurd (cc e)
fewer (z ∷ ys) x xs e = by (bytes_eq x z) (fewer ys) e
  where
    by : (b : Bool) → Fewer ys → (if b then is_subsequence xs ys else is_subsequence (x ∷ xs) ys) ≡ true → is_subsequence xs (z ∷ ys) ≡ true
    by true f q = skip ys f z xs q
    by false f q = skip ys f z xs (f x xs q)

greedy : (xs ys : List (List ℕ)) → IsSubsequence xs ys → is_subsequence xs ys ≡ true
greedy xs ys (Nil _) = refl
greedy xs (y ∷ ys) (LeftOut _ _ _ s) = skip ys (fewer ys) y xs (greedy xs ys s)
greedy (y ∷ xs) (_ ∷ ys) (Taken _ _ _ s) = rw ((bytes_eq-Decides y y).1 refl) (greedy xs ys s)

-- ---- the rule

pub receives-rightly : (side : Side) (r h : History) (p : Pair) → Alike (p ∷ r) h → IsHistory side h → receives_rightly side r p ≡ true
receives-rightly side r h p a i = by (names r p.turn)
  where
    by : (o : Option ℕ) → datagrams_hold (p ∷ r) o ≡ true
    by None = refl
    by (Some s) =
        ap (λ (xs : List (List ℕ)). is_subsequence xs (arrived (p ∷ r) s)) (received-same (p ∷ r) h s a.pairs ∙ received-payloads side h i s)
        ∙ ap (is_subsequence (payloads h s)) (ap (came s) a.came) ∙ greedy (payloads h s) (arrived h s) (payloads_came side h i s)
      where
        came : ℕ → List Event → List (List ℕ)
        came t es = map (λ (d : ℕ × List ℕ). d.1) (filter (λ (d : ℕ × List ℕ). d.0 == t) (filter_map (λ (piece : List ℕ). said_by (datagram_of piece)) (datagrams_of es)))

pub of_datagrams : (side : Side) (all : List Turn) → AllLawful side [] all → holds receives_rightly (recorded side all) ≡ true
of_datagrams side = throughout-after side receives_rightly (receives-rightly side)
