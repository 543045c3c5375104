-- What one end reads on a stream is a prefix of what the other's writes accepted: the body of a stream begins where its head ends.
use Rattle.std.specs.Prelude.{[], ◌%◌, ◌&&◌, ◌++◌, ◌<◌, ◌==◌, ◌^◌, ◌∷◌, ◌||◌, ◌≡◌, Bool, List, None, Option, Some, drop, false, flat_map, if◌then◌else◌, is_some, length, not, suc, take, true, zero, ℕ}
use Rattle.std.specs.Option.{option_or}
use Rattle.std.proofs.Common.{◌∙◌, ap, append_assoc, arith, inl, inr, refl, subst, sym}
use Rattle.std.proofs.Math.Seq.{drop-append_seam, take-append_seam}
use Rattle.std.proofs.lemmas.Bool.{eqb-false, eqb-true}
use Rattle.std.proofs.lemmas.List.{append-nil, take-append-drop}
use Rattle.wt_meaning.specs.Calls.{opened_by}
use Rattle.wt_meaning.specs.Findings.{first_of, verdict_of}
use Rattle.wt_meaning.specs.Halves.{has_receiving}
use Rattle.wt_meaning.specs.Handshakes.{begun_by, was_given}
use Rattle.wt_meaning.specs.History.{History, Pair, contents, events, hands_out, is_given_up, is_handed_out, out}
use Rattle.wt_meaning.specs.Lawful.{is_first, is_lawful}
use Rattle.wt_meaning.specs.Meaning.{next}
use Rattle.wt_meaning.specs.Moments.{findings, verdict}
use Rattle.wt_meaning.specs.Rows.{Row, first_row, row}
use Rattle.wt_pair.proofs.Held.{Stream}
use Rattle.wt_pair.proofs.Keeps.{AllHeld, all-held}
use Rattle.wt_pair.proofs.Marks.{bytes-parts, bytes_marked, marked-out}
use Rattle.wt_pair.proofs.Sends.{given-verdict}
use Rattle.wt_pair.proofs.Sessions.{connect-front, session-id}
use Rattle.wt_pair.proofs.Verdicts.{control-shows, frame-shows, header-shows, is_stream, nothing-shown, shown-more}
use Rattle.wt_pair.specs.Claims.{IsPrefix, ReadIsWritten}
use Rattle.wt_pair.specs.declared.event.PairEvent.{PairEvent}
use Rattle.wt_pair.specs.declared.event.PairFacts.{PairFacts}
use Rattle.wt_pair.specs.declared.item.Item.{Item}
use Rattle.wt_pair.specs.Pair.{Ends, histories, other, run_pair}
use Rattle.wt_pair.specs.Streams.{item_marks}
use Rattle.wt_promise.proofs.Accepted.{and-right, or-left, or-right}
use Rattle.wt_promise.proofs.AsOwed.{sends-as-owed}
use Rattle.wt_promise.proofs.Begun.{BegunFor, begun-for}
use Rattle.wt_promise.proofs.Facts.{classified_rightly}
use Rattle.wt_promise.proofs.Flow.{clash}
use Rattle.wt_promise.proofs.Fresh.{was-opened}
use Rattle.wt_promise.proofs.Grows.{is_peers}
use Rattle.wt_promise.proofs.HandedOut.{only-peers, opened-local}
use Rattle.wt_promise.proofs.Heads.{accepted-before, begun-kept, begun-not-opened}
use Rattle.wt_promise.proofs.MomentActs.{or-either}
use Rattle.wt_promise.proofs.ReadLaws.{pieces-in-order}
use Rattle.wt_promise.proofs.Sessions.{is_connect}
use Rattle.wt_promise.proofs.Shown.{verdict-by}
use Rattle.wt_promise.proofs.Verdicts.{ARequest, AStream, ByAccept, ByOpening, HandedBy, IsRequest, IsStream, admitted-peers, admitted-verdict, given-peers, handed-by}
use Rattle.wt_promise.proofs.Waiting.{named-established}
use Rattle.wt_promise.specs.Causes.{body, header_length, piece_of, pieces}
use Rattle.wt_promise.specs.Owed.{control_bytes, handshake_stream, head_of, header_for, header_on}
use Rattle.wt_promise.specs.Promise.{IsHistory, accepted, begun_on, frame_or, head_on}
use Rattle.wt_proto.specs.Bi.{bi_verdict_of}
use Rattle.wt_proto.specs.Uni.{session_verdict, uni_verdict_of}
use Rattle.wt_proto.specs.declared.verdict.Verdict.{Verdict}
use Rattle.wt_turn.specs.Reports.{end_of}
use Rattle.wt_turn.specs.Streams.{local_uni}
use Rattle.wt_turn.specs.declared.answer.Answer.{Answer}
use Rattle.wt_turn.specs.declared.call.Call.{Call}
use Rattle.wt_turn.specs.declared.reply.Reply.{Reply}
use Rattle.wt_turn.specs.declared.turn.Turn.{Turn}
use Rattle.wt_wire.specs.Ids.{is_bidirectional}
use Rattle.wt_wire.specs.declared.side.Side.{Side}
use Rattle.wt_wire.specs.declared.side.Side.TheVariants.{Client, Server}
use Rattle.wt_proto.specs.declared.verdict.Verdict.TheVariants as verdicts
use Rattle.wt_turn.specs.declared.call.Call.TheVariants as calls
use Rattle.wt_turn.specs.declared.reply.Reply.TheVariants as replies
use Rattle.wt_turn.specs.declared.turn.Turn.TheVariants as turns
use Rattle.wt_wire.specs.declared.error.ErrorCode.TheVariants as h3
use Rattle.wt_wire.specs.declared.side.StreamEnd.TheVariants as ends

-- ---- lists

abbrev Front : List ℕ → List ℕ → Type 0
Front xs ys = (more : List ℕ) × (xs ++ more ≡ ys)

dropped-front : (n : ℕ) (xs ys : List ℕ) → Front (drop n xs) (drop n (xs ++ ys))
dropped-front zero xs ys = (ys, refl)
dropped-front (suc n) [] ys = (drop (suc n) ys, refl)
dropped-front (suc n) (x ∷ xs) ys = dropped-front n xs ys

front-trans : (xs ys zs : List ℕ) → Front xs ys → Front ys zs → Front xs zs
front-trans xs ys zs a b = (a.0 ++ b.0, sym (append_assoc xs a.0 b.0) ∙ ap (λ (l : List ℕ). l ++ b.0) a.1 ∙ b.1)

front-taken : (xs ys : List ℕ) → take (length xs) ys ≡ xs → Front xs ys
front-taken xs ys e = (drop (length xs) ys, ap (λ (l : List ℕ). l ++ drop (length xs) ys) (sym e) ∙ take-append-drop (length xs) ys)

taken-front : (xs ys : List ℕ) → Front xs ys → take (length xs) ys ≡ xs
taken-front xs ys f = ap (take (length xs)) (sym f.1) ∙ take-append_seam xs f.0

-- where the body begins behind the head, what was read of it is in what follows the head
read-front : (read come head got : List ℕ) (n : ℕ) → Front read (drop n come) → Front come (head ++ got) → n ≡ length head → Front read got
read-front read come head got n r c e =
    front-trans read (drop n come) got r (let d = dropped-front n come c.0 in (d.0, d.1 ∙ ap (drop n) c.1 ∙ ap (λ (m : ℕ). drop m (head ++ got)) e ∙ drop-append_seam head got))

-- ---- what came is in what the other sent

came-front : (e o : Side) (h : History) (w : List Item) (g : History) (k : ℕ) → Stream e h w g k → IsHistory o g → Front (contents h k) (head_on o g k ++ accepted g k)
came-front e o h w g k s i =
    front-trans (contents h k) (out g k) (head_on o g k ++ accepted g k) (
      s.rest ++ bytes_marked (flat_map (item_marks k) w),
      sym (append_assoc (contents h k) s.rest (bytes_marked (flat_map (item_marks k) w))) ∙ ap (λ (l : List ℕ). l ++ bytes_marked (flat_map (item_marks k) w)) s.front
          ∙ sym (bytes-parts s.gone (flat_map (item_marks k) w)) ∙ ap bytes_marked s.all ∙ marked-out k g,
    )
    (front-taken (out g k) (head_on o g k ++ accepted g k) (sends-as-owed o g i k).front)

-- ---- reads are of what was handed out

reads-none : (side : Side) (h : History) → IsHistory side h → (k : ℕ) → is_handed_out h k ≡ false → pieces h k ≡ []
reads-none side [] i k n = refl
reads-none side (p ∷ h) i k n =
    ap (λ (l : List ℕ). l ++ piece_of k p.turn p.answer.reply) (reads-none side h i.2 k before) ∙ ap (piece_of k p.turn) (ap (λ (a : Answer). a.reply) i.1) ∙ by p.turn
  where
    before : is_handed_out h k ≡ false
    before = or-right (hands_out k p.answer.reply) (is_handed_out h k) n

    none : (id : ℕ) → (id == k) ≡ true → not (has_receiving side h id) ≡ true
    none id q = ap (λ (m : ℕ). not (is_handed_out h m && not (m % 4 == local_uni side) && not (is_given_up h m))) (eqb-true id k q) ∙ ap (λ (b : Bool). not (b && not (k % 4 == local_uni side) && not (is_given_up h k))) before

    no-stream : (rows : List Row) (b : Bool) → b ≡ true → (first_row (row b replies.NoStream [] ∷ rows)).reply ≡ replies.NoStream
    no-stream rows b q = ap (λ (c : Bool). (first_row (row c replies.NoStream [] ∷ rows)).reply) q

    other-read : (id size : ℕ) (r : Reply) → (id == k) ≡ false → piece_of k (turns.Call (calls.Read id size)) r ≡ []
    other-read id size (replies.Read (Some piece)) q = ap (λ (b : Bool). if b then piece else []) q
    other-read id size (replies.Read None) q = refl
    other-read id size r q = refl

    other-exact : (id size : ℕ) (r : Reply) → (id == k) ≡ false → piece_of k (turns.Call (calls.ReadExact id size)) r ≡ []
    other-exact id size (replies.Exact piece) q = ap (λ (b : Bool). if b then piece else []) q
    other-exact id size (replies.ExactFailed e piece) q = ap (λ (b : Bool). if b then piece else []) q
    other-exact id size r q = refl

    read : (id size : ℕ) (b : Bool) → (id == k) ≡ b → piece_of k (turns.Call (calls.Read id size)) (next side h (turns.Call (calls.Read id size))).reply ≡ []
    read id size true q = ap (piece_of k (turns.Call (calls.Read id size))) (no-stream _ (not (has_receiving side h id)) (none id q))
    read id size false q = other-read id size (next side h (turns.Call (calls.Read id size))).reply q

    exact : (id size : ℕ) (b : Bool) → (id == k) ≡ b → piece_of k (turns.Call (calls.ReadExact id size)) (next side h (turns.Call (calls.ReadExact id size))).reply ≡ []
    exact id size true q = ap (piece_of k (turns.Call (calls.ReadExact id size))) (no-stream _ (not (has_receiving side h id)) (none id q))
    exact id size false q = other-exact id size (next side h (turns.Call (calls.ReadExact id size))).reply q

    by : (turn : Turn) → piece_of k turn (next side h turn).reply ≡ []
    by (turns.Call (calls.Read id size)) = read id size (id == k) refl
    by (turns.Call (calls.ReadExact id size)) = exact id size (id == k) refl
    by turn = refl

-- ---- kinds

peers-apart : (e : Side) (k : ℕ) → is_peers e k ≡ true → is_peers (other e) k ≡ true → ⊥
peers-apart Client k a b = apart (k % 4) a b
  where
    apart : (n : ℕ) → ((n == 3) || (n == 1)) ≡ true → ((n == 2) || (n == 0)) ≡ true → ⊥
    apart n x y = or-either {P = ⊥} (n == 3) (n == 1) x (λ q. or-either {P = ⊥} (n == 2) (n == 0) y (λ r. omega (arith, eqb-true n 3 q, eqb-true n 2 r)) (λ r. omega (arith, eqb-true n 3 q, eqb-true n 0 r)))
        (λ q. or-either {P = ⊥} (n == 2) (n == 0) y (λ r. omega (arith, eqb-true n 1 q, eqb-true n 2 r)) (λ r. omega (arith, eqb-true n 1 q, eqb-true n 0 r)))
peers-apart Server k a b = apart (k % 4) b a
  where
    apart : (n : ℕ) → ((n == 3) || (n == 1)) ≡ true → ((n == 2) || (n == 0)) ≡ true → ⊥
    apart n x y = or-either {P = ⊥} (n == 3) (n == 1) x (λ q. or-either {P = ⊥} (n == 2) (n == 0) y (λ r. omega (arith, eqb-true n 3 q, eqb-true n 2 r)) (λ r. omega (arith, eqb-true n 3 q, eqb-true n 0 r)))
        (λ q. or-either {P = ⊥} (n == 2) (n == 0) y (λ r. omega (arith, eqb-true n 1 q, eqb-true n 2 r)) (λ r. omega (arith, eqb-true n 1 q, eqb-true n 0 r)))

peers-cover : (e : Side) (k : ℕ) → is_peers e k ≡ false → is_peers (other e) k ≡ false → ⊥
peers-cover Client k a b = omega (arith, eqb-false (k % 4) 3 (or-left (k % 4 == 3) (k % 4 == 1) a), eqb-false (k % 4) 1 (or-right (k % 4 == 3) (k % 4 == 1) a), eqb-false (k % 4) 2 (or-left (k % 4 == 2) (k % 4 == 0) b), eqb-false (k % 4) 0 (or-right (k % 4 == 2) (k % 4 == 0) b))
peers-cover Server k a b = omega (arith, eqb-false (k % 4) 3 (or-left (k % 4 == 3) (k % 4 == 1) b), eqb-false (k % 4) 1 (or-right (k % 4 == 3) (k % 4 == 1) b), eqb-false (k % 4) 2 (or-left (k % 4 == 2) (k % 4 == 0) a), eqb-false (k % 4) 0 (or-right (k % 4 == 2) (k % 4 == 0) a))

control-peers : (e : Side) (k : ℕ) → (k == local_uni (other e)) ≡ true → is_peers e k ≡ true
control-peers Client k q = ap (is_peers Client) (eqb-true k 3 q)
control-peers Server k q = ap (is_peers Server) (eqb-true k 2 q)

-- ---- what a client begins

client-began : (h : History) → IsHistory Client h → (k : ℕ) (c : Call) → begun_on h k ≡ Some c → is_connect c ≡ true
client-began [] i k c e = absurd (cc e)
client-began (p ∷ h) i k c e = by (begun_on h k) refl (handshake_stream h == k) e (client-began h i.2 k)
  where
    lawful : (turn : Turn) → is_lawful Client h turn ≡ true → begun_by turn ≡ Some c → is_connect c ≡ true
    lawful (turns.Call (calls.Connect options lookup outcome)) l q = ap is_connect (sym (same (calls.Connect options lookup outcome) q))
      where
        same : (d : Call) → Some d ≡ Some c → d ≡ c
        same d r = cc r
    lawful (turns.Call (calls.Accept headers)) l q = absurd (let n = and-right (not (is_first h)) false l in cc n)
    lawful (turns.Call calls.Forbidden) l q = absurd (let n = and-right (not (is_first h)) false l in cc n)
    lawful (turns.Call calls.NotFound) l q = absurd (let n = and-right (not (is_first h)) false l in cc n)
    lawful (turns.Call calls.TooManyRequests) l q = absurd (let n = and-right (not (is_first h)) false l in cc n)
    lawful turn l q = absurd (cc q)

    by : (o : Option Call) → begun_on h k ≡ o → (b : Bool) → option_or o (if b then begun_by p.turn else None) ≡ Some c → ((d : Call) → begun_on h k ≡ Some d → is_connect d ≡ true) → is_connect c ≡ true
    by (Some d) q b x again = let same : d ≡ c = cc x in ap is_connect (sym same) ∙ again d q
    by None q true x again = lawful p.turn i.0 x
    by None q false x again = absurd (cc x)

-- ---- the head of a stream that this end opened, and was asked for

-- the first call that opens it
abbrev opener : History → ℕ → Option (Option ℕ)
opener h k = first_of (λ (p : Pair). opened_by k p.turn p.answer.reply) h

head-as : (side : Side) (h : History) (k : ℕ) → (k == local_uni side) ≡ false → head_on side h k ≡ frame_or (begun_on h k) (header_on h k (opener h k))
head-as side h k n = ap (λ (b : Bool). if b then control_bytes else frame_or (begun_on h k) (header_on h k (opener h k))) n

-- a stream that was opened for a session has that session's header as its head
pub opened-head : (side : Side) (h : History) → IsHistory side h → (k : ℕ) (name : Option ℕ) → opener h k ≡ Some name → (s : ℕ) × (s < 2 ^ 62) × (head_on side h k ≡ header_for k (Some s))
opened-head side h i k name e =
    let w = was-opened side h i k name e in (
      w.session,
      (session-id side h i w.session (named-established h name w.session w.of_it)).1,
      head-as side h k w.not_control ∙ by (begun_on h k) refl ∙ ap (header_on h k) e ∙ ap (header_for k) w.of_it,
    )
  where
    by : (o : Option Call) → begun_on h k ≡ o → frame_or (begun_on h k) (header_on h k (opener h k)) ≡ header_on h k (opener h k)
    by None q = ap (λ (o : Option Call). frame_or o (header_on h k (opener h k))) q
    by (Some c) q = absurd (begun-not-opened side h i k (begun-for side h i k c q) name e)

-- ---- a stream that the other end opened

control-uni : (o : Side) → is_bidirectional (local_uni o) ≡ false
control-uni Client = refl
control-uni Server = refl

module _ (e : Side) (h : History) (w : List Item) (g : History) (i : IsHistory e h) (j : IsHistory (other e) g) (k : ℕ) (c : Front (contents h k) (head_on (other e) g k ++ accepted g k)) where
  abbrev o : Side
  o = other e

  abbrev full : List ℕ
  full = head_on o g k ++ accepted g k

  -- what came shows a stream of a session: its header is the head
  module _ (s offset : ℕ) (shown : verdict h k ≡ verdicts.WebTransport s offset) (of_peer : is_peers e k ≡ true) where
    all-shown : verdict-by k full ends.Running ≡ verdicts.WebTransport s offset
    all-shown = ap (λ (xs : List ℕ). verdict-by k xs ends.Running) (sym c.1) ∙ shown-more k (contents h k) c.0 (end_of (events h) k) (verdicts.WebTransport s offset) refl shown

    some-bytes : full ≡ [] → ⊥
    some-bytes z = let n : verdicts.Incomplete ≡ verdicts.WebTransport s offset = sym (ap (λ (xs : List ℕ). verdict-by k xs ends.Running) z ∙ nothing-shown k) ∙ all-shown in cc n

    -- a control stream is none
    not-control : (k == local_uni o) ≡ false
    not-control = by (k == local_uni o) refl
      where
        by : (b : Bool) → (k == local_uni o) ≡ b → b ≡ false
        by false q = refl
        by true q = absurd (let n : verdicts.Control 1 ≡ verdicts.WebTransport s offset = sym same ∙ all-shown in cc n)
          where
            same : verdict-by k full ends.Running ≡ verdicts.Control 1
            same =
                ap (λ (b : Bool). if b then bi_verdict_of full ends.Running else uni_verdict_of full ends.Running) (ap is_bidirectional (eqb-true k (local_uni o) q) ∙ control-uni o)
                ∙ ap (λ (b : Bool). uni_verdict_of ((if b then control_bytes else frame_or (begun_on g k) (header_on g k (opener g k))) ++ accepted g k) ends.Running) q ∙ control-shows (accepted g k)

    -- a request is none
    not-begun : (d : Call) → begun_on g k ≡ Some d → ⊥
    not-begun d q = by o refl (begun-for o g j k d q)
      where
        unwritten : BegunFor o g k → full ≡ head_of (Some d)
        unwritten b = ap (λ (xs : List ℕ). xs ++ accepted g k) (head-as o g k not-control ∙ ap (λ (x : Option Call). frame_or x (header_on g k (opener g k))) q)
            ∙ ap (λ (xs : List ℕ). head_of (Some d) ++ xs) (accepted-before o g j k (begun-kept o g j k b)) ∙ append-nil (head_of (Some d))

        request : (x : Side) → x ≡ o → k ≡ 0 → (f : full ≡ head_of (Some d)) → is_connect d ≡ true → ⊥
        request x r z f m = elim (connect-front d m) as (λ y. ⊥) [
          | inl y ↦ some-bytes (f ∙ y)
          | inr y ↦ clash (is_stream (verdict-by k full ends.Running)) (ap is_stream all-shown)
              (ap is_stream (ap (λ (b : Bool). if b then bi_verdict_of full ends.Running else uni_verdict_of full ends.Running) (ap is_bidirectional z) ∙ ap (λ (xs : List ℕ). bi_verdict_of xs ends.Running) (f ∙ y.1)) ∙ frame-shows y.0)
        ]

        by : (x : Side) → x ≡ o → BegunFor x g k → ⊥
        by Client r b = request Client r b (unwritten (subst (λ (y : Side). BegunFor y g k) r b)) (client-began g (subst (λ (y : Side). IsHistory y g) (sym r) j) k d q)
        by Server r b = peers-apart e k of_peer (given-peers o g j k b)

    pub head-met : offset ≡ length (head_on o g k)
    head-met = by (opener g k) refl
      where
        -- nothing goes out on it
        unopened : opener g k ≡ None → full ≡ []
        unopened q =
            ap (λ (xs : List ℕ). xs ++ accepted g k) (head-as o g k not-control ∙ plain (begun_on g k) refl ∙ ap (header_on g k) q)
            ∙ accepted-before o g j k (kept (is_handed_out g k) refl)
          where
            plain : (x : Option Call) → begun_on g k ≡ x → frame_or (begun_on g k) (header_on g k (opener g k)) ≡ header_on g k (opener g k)
            plain None r = ap (λ (y : Option Call). frame_or y (header_on g k (opener g k))) r
            plain (Some d) r = absurd (not-begun d r)

            given : HandedBy o g k → ⊥
            given (ByAccept t a) = peers-apart e k of_peer (admitted-peers o g t k a)
            given (ByOpening x) = let n : false ≡ true = sym (ap is_some q) ∙ x in cc n

            kept : (b : Bool) → is_handed_out g k ≡ b → b ≡ false
            kept false r = refl
            kept true r = absurd (given (handed-by o g j k r))

        met : (t n : ℕ) → session_verdict t n ≡ verdicts.WebTransport s offset → offset ≡ n
        met t n x = of (t % 4 == 0) x
          where
            of : (b : Bool) → (if b then verdicts.WebTransport t n else verdicts.Fault h3.Id) ≡ verdicts.WebTransport s offset → offset ≡ n
            of true y = let z : n ≡ offset = cc y in sym z
            of false y = absurd (cc y)

        by : (x : Option (Option ℕ)) → opener g k ≡ x → offset ≡ length (head_on o g k)
        by None q = absurd (some-bytes (unopened q))
        by (Some name) q =
            let w = opened-head o g j k name q in
            elim (header-shows k w.0 (accepted g k) w.1) as (λ y. offset ≡ length (head_on o g k)) [
              | inl y ↦ met w.0 (length (header_for k (Some w.0))) (sym y ∙ ap (λ (xs : List ℕ). verdict-by k (xs ++ accepted g k) ends.Running) (sym w.2) ∙ all-shown) ∙ ap length (sym w.2)
              | inr y ↦ absurd (let n : verdicts.Incomplete ≡ verdicts.WebTransport s offset = sym y ∙ ap (λ (xs : List ℕ). verdict-by k (xs ++ accepted g k) ends.Running) (sym w.2) ∙ all-shown in cc n)
            ]

-- ---- a stream that this end opened

module _ (e : Side) (h g : History) (i : IsHistory e h) (j : IsHistory (other e) g) (k : ℕ) (name : Option ℕ) (opened : opener h k ≡ Some name) (back : Front (contents g k) (head_on e h k ++ accepted h k)) where
  not-peers : is_peers e k ≡ false
  not-peers = opened-local e h i k (ap is_some opened)

  -- no response was begun on it, since no request came on it
  not-answered : was_given g k ≡ true → ⊥
  not-answered b = by a.0 a.2 (classified_rightly (other e) g j k a.0 a.1).shown
    where
      a : (v : Verdict) × (verdict_of (findings (other e) g) k ≡ Some v) × IsRequest v
      a = given-verdict (other e) g j k b

      by : (v : Verdict) → IsRequest v → verdict g k ≡ v → ⊥
      by v (ARequest headers offset) q =
          let w = opened-head e h i k name opened in
          let r = ap (λ (xs : List ℕ). verdict-by k (xs ++ accepted h k) ends.Running) (sym w.2) ∙ ap (λ (xs : List ℕ). verdict-by k xs ends.Running) (sym back.1)
          ∙ shown-more k (contents g k) back.0 (end_of (events g) k) (verdicts.Request headers offset) refl q in
          elim (header-shows k w.0 (accepted h k) w.1) as (λ y. ⊥) [
            | inl y ↦ clash (is_session (verdicts.Request headers offset)) (ap is_session (sym r ∙ y) ∙ session-is w.0 (length (header_for k (Some w.0)))) refl
            | inr y ↦ (let n : verdicts.Incomplete ≡ verdicts.Request headers offset = sym y ∙ r in cc n)
          ]
        where
          is_session : Verdict → Bool
          is_session (verdicts.WebTransport s n) = true
          is_session (verdicts.Fault code) = true
          is_session v = false

          session-is : (s n : ℕ) → is_session (session_verdict s n) ≡ true
          session-is s n = of (s % 4 == 0)
            where
              of : (b : Bool) → is_session (if b then verdicts.WebTransport s n else verdicts.Fault h3.Id) ≡ true
              of true = refl
              of false = refl

  pub no-head : head_on (other e) g k ≡ []
  no-head = head-as (other e) g k control ∙ ap (λ (o : Option Call). frame_or o (header_on g k (opener g k))) none ∙ ap (header_on g k) unopened
    where
      control : (k == local_uni (other e)) ≡ false
      control = by (k == local_uni (other e)) refl
        where
          by : (b : Bool) → (k == local_uni (other e)) ≡ b → b ≡ false
          by false q = refl
          by true q = absurd (clash (is_peers e k) (control-peers e k q) not-peers)

      begun : (o : Side) → o ≡ other e → BegunFor o g k → ⊥
      begun Client q b = client e q not-peers b
        where
          client : (x : Side) → Client ≡ other x → is_peers x k ≡ false → k ≡ 0 → ⊥
          client Client r n z = cc r
          client Server r n z = clash (is_peers Server k) (ap (is_peers Server) z) n
      begun Server q b = not-answered b

      none : begun_on g k ≡ None
      none = by (begun_on g k) refl
        where
          by : (o : Option Call) → begun_on g k ≡ o → o ≡ None
          by None q = refl
          by (Some c) q = absurd (begun (other e) refl (begun-for (other e) g j k c q))

      unopened : opener g k ≡ None
      unopened = by (opener g k) refl
        where
          by : (o : Option (Option ℕ)) → opener g k ≡ o → o ≡ None
          by None q = refl
          by (Some n) q = absurd (peers-cover e k not-peers (opened-local (other e) g j k (ap is_some q)))

-- ---- all of it

written : (e : Side) (h : History) (w : List Item) (g : History) (k : ℕ) → IsHistory e h → IsHistory (other e) g → Front (contents h k) (head_on (other e) g k ++ accepted g k) → Front (contents g k) (head_on e h k ++ accepted h k)
    → IsPrefix (pieces h k) (accepted g k)
written e h w g k i j c back = taken-front (pieces h k) (accepted g k) (by (is_handed_out h k) refl)
  where
    read : Front (pieces h k) (body e h k)
    read = front-taken (pieces h k) (body e h k) (pieces-in-order e h i k)

    from : (n : ℕ) → header_length (verdict_of (findings e h) k) ≡ n → n ≡ length (head_on (other e) g k) → Front (pieces h k) (accepted g k)
    from n q m = read-front (pieces h k) (contents h k) (head_on (other e) g k) (accepted g k) n (subst (λ (x : ℕ). Front (pieces h k) (drop x (contents h k))) q read) c m

    given : HandedBy e h k → Front (pieces h k) (accepted g k)
    given (ByAccept s a) = of v.0 v.2 v.1
      where
        v : (x : Verdict) × (verdict_of (findings e h) k ≡ Some x) × IsStream s x
        v = admitted-verdict e h s k a

        of : (x : Verdict) → IsStream s x → verdict_of (findings e h) k ≡ Some x → Front (pieces h k) (accepted g k)
        of x (AStream offset) q =
            from offset (ap header_length q) (head-met e h w g i j k c s offset (classified_rightly e h i k (verdicts.WebTransport s offset) q).shown (admitted-peers e h s k a))
    given (ByOpening x) = of (opener h k) refl x
      where
        unclassified : verdict_of (findings e h) k ≡ None
        unclassified = at (verdict_of (findings e h) k) refl
          where
            at : (o : Option Verdict) → verdict_of (findings e h) k ≡ o → o ≡ None
            at None q = refl
            at (Some v) q = absurd (clash (is_peers e k) (only-peers e h k (ap is_some q)) (opened-local e h i k x))

        of : (o : Option (Option ℕ)) → opener h k ≡ o → is_some o ≡ true → Front (pieces h k) (accepted g k)
        of None q y = absurd (cc y)
        of (Some name) q y = from 0 (ap header_length unclassified) (sym (ap length (no-head e h g i j k name q back)))

    by : (b : Bool) → is_handed_out h k ≡ b → Front (pieces h k) (accepted g k)
    by true q = given (handed-by e h i k q)
    by false q = (accepted g k, ap (λ (l : List ℕ). l ++ accepted g k) (reads-none e h i k q))

read-written : (f : PairFacts) (p : Ends) → AllHeld f p → ReadIsWritten (histories p)
read-written f p l Client k = written Client p.client.history p.client.waiting p.server.history k (l Client).own (l Client).peers
    (came-front Client Server p.client.history p.client.waiting p.server.history k ((l Client).stream k) (l Client).peers) (came-front Server Client p.server.history p.server.waiting p.client.history k ((l Server).stream k) (l Client).own)
read-written f p l Server k = written Server p.server.history p.server.waiting p.client.history k (l Server).own (l Server).peers
    (came-front Server Client p.server.history p.server.waiting p.client.history k ((l Server).stream k) (l Server).peers) (came-front Client Server p.client.history p.client.waiting p.server.history k ((l Client).stream k) (l Server).own)

-- whatever the events are
pub read_is_written : (f : PairFacts) (events : List PairEvent) → ReadIsWritten (histories (run_pair f events).ends)
read_is_written f events = read-written f (run_pair f events).ends (all-held f events)
