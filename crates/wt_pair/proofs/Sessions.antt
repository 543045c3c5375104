-- A session's id is that of a client's bidirectional stream; what a connect sends begins with a HEADERS frame.
use Rattle.std.specs.Prelude.{[], ◌%◌, ◌&&◌, ◌++◌, ◌/◌, ◌<◌, ◌==◌, ◌^◌, ◌∷◌, ◌≡◌, ◌≤◌, ◌⊎◌, Bool, Err, List, None, Ok, Result, Some, false, if◌then◌else◌, is_some, nat_lt, not, true, ℕ}
use Rattle.std.proofs.Common.{ap, arith, inl, inr, refl}
use Rattle.std.proofs.lemmas.Bool.{eqb-true, ltb-true}
use Rattle.url.specs.Parser.{parse_url}
use Rattle.url.specs.Parts.{Parts}
use Rattle.url.specs.declared.error.ParseError.{ParseError}
use Rattle.wt_meaning.specs.History.{History, all_events, exists, stream_count}
use Rattle.wt_meaning.specs.Lawful.{is_lawful, is_lost}
use Rattle.wt_meaning.specs.Handshakes.{was_given}
use Rattle.wt_meaning.specs.Windows.{is_established}
use Rattle.wt_message.specs.FixedBytes.{headers_frame_bytes}
use Rattle.wt_pair.proofs.Counts.{none-of-peers}
use Rattle.wt_pair.proofs.Sends.{given-there}
use Rattle.wt_promise.proofs.Accepted.{and-right}
use Rattle.wt_promise.proofs.MomentActs.{or-either}
use Rattle.wt_promise.proofs.Sessions.{is_connect}
use Rattle.wt_promise.proofs.Silent.{client-zero, established-begun}
use Rattle.wt_promise.proofs.Verdicts.{given-peers}
use Rattle.wt_promise.specs.Connects.{of_url, refusal, request_head}
use Rattle.wt_promise.specs.Owed.{head_of}
use Rattle.wt_promise.specs.Promise.{IsHistory}
use Rattle.wt_turn.specs.Reports.{is_connected}
use Rattle.wt_turn.specs.Streams.{one_more_if, peer_bi, peer_count, peer_uni}
use Rattle.wt_turn.specs.declared.call.Call.{Call}
use Rattle.wt_turn.specs.declared.turn.Turn.{Turn}
use Rattle.wt_wire.specs.FieldSection.{section_bytes}
use Rattle.wt_wire.specs.FrameBytes.{session_or_payload}
use Rattle.wt_wire.specs.HeaderList.{Fields}
use Rattle.wt_wire.specs.Ids.{is_bidirectional}
use Rattle.wt_wire.specs.Varint.{varint_bytes}
use Rattle.wt_wire.specs.declared.lookup.ConnectOutcome.{ConnectOutcome}
use Rattle.wt_wire.specs.declared.lookup.Lookup.{Lookup}
use Rattle.wt_wire.specs.declared.side.Side.{Side}
use Rattle.wt_wire.specs.declared.side.Side.TheVariants.{Client, Server}
use Rattle.wt_turn.specs.declared.call.Call.TheVariants as calls
use Rattle.wt_turn.specs.declared.turn.Turn.TheVariants as turns

-- ---- how many streams the peer opened

peers-few : (side : Side) (h : History) → IsHistory side h → (kind : ℕ) → peer_count side (all_events h) kind ≤ 2 ^ 60
peers-few side [] i kind = omega arith
peers-few side (p ∷ h) i kind = by p.turn i.0 (peers-few side h i.2 kind)
  where
    last : (a b c : Bool) → (a && b && c) ≡ true → c ≡ true
    last a b c e = and-right (a && b) c e

    one : (n : ℕ) (b : Bool) → (n == kind) ≡ b → stream_count side h n < 2 ^ 60 → peer_count side (all_events h) kind ≤ 2 ^ 60 → one_more_if b (peer_count side (all_events h) kind) ≤ 2 ^ 60
    one n true q l m = let e = ap (peer_count side (all_events h)) (eqb-true n kind q) in omega (arith, e, l)
    one n false q l m = m

    by : (turn : Turn) → is_lawful side h turn ≡ true → peer_count side (all_events h) kind ≤ 2 ^ 60 → peer_count side (all_events (record { turn = turn; answer = p.answer } ∷ h)) kind ≤ 2 ^ 60
    by turns.PeerUni l m =
        one (peer_uni side) (peer_uni side == kind) refl (ltb-true (stream_count side h (peer_uni side)) (2 ^ 60) (last (is_connected (all_events h)) (not (is_lost h)) (nat_lt (stream_count side h (peer_uni side)) (2 ^ 60)) l)) m
    by turns.PeerBi l m =
        one (peer_bi side) (peer_bi side == kind) refl (ltb-true (stream_count side h (peer_bi side)) (2 ^ 60) (last (is_connected (all_events h)) (not (is_lost h)) (nat_lt (stream_count side h (peer_bi side)) (2 ^ 60)) l)) m
    by turn l m = m

-- ---- sessions

pub session-id : (side : Side) (h : History) → IsHistory side h → (s : ℕ) → is_established h s ≡ true → (s % 4 ≡ 0) × (s < 2 ^ 62)
session-id Client h i s e = let z = client-zero h i s e in (omega (arith, z), omega (arith, z))
session-id Server h i s e = (kind, below)
  where
    given : was_given h s ≡ true
    given = established-begun Server h i s e

    there : (exists Server h s ≡ true) × (is_bidirectional s ≡ true)
    there = given-there Server h i s given

    kind : s % 4 ≡ 0
    kind = or-either {P = s % 4 ≡ 0} (s % 4 == 2) (s % 4 == 0) (given-peers Server h i s given) (λ x. absurd (let a = eqb-true (s % 4) 2 x in let b = eqb-true (s / 2 % 2) 0 there.1 in omega (arith, a, b))) (λ x. eqb-true (s % 4) 0 x)

    below : s < 2 ^ 62
    below =
        let a = ltb-true (s / 4) (stream_count Server h (s % 4)) there.0 in
        let b = ap (stream_count Server h) kind in
        let c = none-of-peers Server h i 0 refl in
        let d = peers-few Server h i 0 in omega (arith, a, b, c, d)

-- ---- what a connect sends

abbrev pub Front : List ℕ → Type 0
Front xs = (xs ≡ []) ⊎ ((ys : List ℕ) × (xs ≡ 0x01 ∷ ys))

headers-varint : varint_bytes 0x01 ≡ 0x01 ∷ []
unfolding varint_bytes
headers-varint = refl

frame-front : (fields : Fields) → (ys : List ℕ) × (headers_frame_bytes fields ≡ 0x01 ∷ ys)
frame-front fields = (session_or_payload None (section_bytes fields), ap (λ (x : List ℕ). x ++ session_or_payload None (section_bytes fields)) headers-varint)

url-front : (r : Result Parts ParseError) (lookup : Lookup) (outcome : ConnectOutcome) (headers : Fields) → Front (of_url r lookup outcome (λ (url : Parts). request_head url headers))
url-front (Err e) lookup outcome headers = inl refl
url-front (Ok url) lookup outcome headers = by (is_some (refusal (Ok url) lookup outcome))
  where
    by : (b : Bool) → Front (if b then [] else request_head url headers)
    by true = inl refl
    by false = inr (frame-front _)

pub connect-front : (c : Call) → is_connect c ≡ true → Front (head_of (Some c))
connect-front (calls.Connect options lookup outcome) e = url-front (parse_url None options.0) lookup outcome options.1
connect-front c e = absurd (cc e)
