-- What a scan sends ends halves of streams, and touches nothing of this end's control stream.
use Rattle.std.proofs.Common.{◌∙◌, ◌≡◌, ◌++◌, ◌∷◌, Bool, List, Option, None, Some, [], false, flat_map, length, nat_lt, refl, true, ℕ}
use Rattle.std.specs.Prelude.{if◌then◌else◌}
use Rattle.wt_meaning.specs.Sends.{action_if}
use Rattle.wt_proto.specs.declared.verdict.Verdict.{Verdict}
use Rattle.wt_proto.specs.declared.verdict.Verdict.TheVariants as verdicts
use Rattle.wt_sessions.specs.Driver.{control_sent}
use Rattle.wt_sessions.specs.StreamTable.{Dispatched, TransportView, admit_or_stop, admitting, consequence, gone_actions, has_room, only_once, stopping, stream_ends, streams_of}
use Rattle.wt_turn.specs.Log.{Log, Sent, with_actions}
use Rattle.wt_turn.specs.declared.action.Action.{Action}
use Rattle.wt_turn.specs.declared.action.Action.TheVariants as actions
use Rattle.wt_wire.specs.declared.error.ErrorCode.TheVariants as h3
use Rattle.wt_wire.specs.declared.side.Side.{Side}

-- the action ends a half of a stream
abbrev pub is_end : Action → Bool
is_end (actions.StopOut id code) = true
is_end (actions.ResetOut id code) = true
is_end (actions.Finish id) = true
is_end _ = false

-- all of them do
abbrev pub AreEnds : List Action → Type 0
AreEnds [] = Unit {0}
AreEnds (a ∷ later) = (is_end a ≡ true) × AreEnds later

pub ends-both : (xs ys : List Action) → AreEnds xs → AreEnds ys → AreEnds (xs ++ ys)
ends-both [] ys h i = i
ends-both (x ∷ xs) ys h i = (h.0, ends-both xs ys h.1 i)

ends-if : (b : Bool) (a : Action) → is_end a ≡ true → AreEnds (action_if b a)
ends-if true a e = (e, tt)
ends-if false a e = tt

stream-ends : (t : TransportView) (ks : List ℕ) → AreEnds (flat_map (stream_ends t) ks)
stream-ends t [] = tt
stream-ends t (k ∷ ks) = ends-both (stream_ends t k) (flat_map (stream_ends t) ks) (ends-both (action_if (t.still_receives k) _) (action_if (t.still_sends k) _) (ends-if (t.still_receives k) _ refl) (ends-if (t.still_sends k) _ refl)) (stream-ends t ks)

pub gone-ends : (t : TransportView) (d : Dispatched) (k : ℕ) → AreEnds (gone_actions t d k)
gone-ends t d k = stream-ends t (streams_of d k)

once-ends : (o : Option (ℕ × ℕ)) → AreEnds (only_once o).actions
once-ends None = tt
once-ends (Some x) = tt

admit-ends : (gone room : Bool) (k : ℕ) → AreEnds (admit_or_stop gone room k).actions
admit-ends true room k = (refl, tt)
admit-ends false true k = tt
admit-ends false false k = (refl, tt)

pub consequence-ends : (t : TransportView) (d : Dispatched) (k : ℕ) (v : Verdict) → AreEnds (consequence t d k v).actions
consequence-ends t d k verdicts.Incomplete = tt
consequence-ends t d k (verdicts.Control offset) = once-ends d.control
consequence-ends t d k (verdicts.Encoder offset) = once-ends d.encoder
consequence-ends t d k (verdicts.Decoder offset) = once-ends d.decoder
consequence-ends t d k (verdicts.WebTransport session offset) = admit-ends (d.is_gone session) (has_room d session _) k
consequence-ends t d k (verdicts.Request fields offset) = by (nat_lt (length d.held) 4)
  where
    by : (b : Bool) → AreEnds (if b then admitting else stopping k h3.RequestRejected (gone_actions t d k)).actions
    by true = tt
    by false = (refl, gone-ends t d k)
consequence-ends t d k (verdicts.Refused code) = (refl, gone-ends t d k)
consequence-ends t d k verdicts.Dropped = tt
consequence-ends t d k (verdicts.Fault code) = tt

-- this end's control stream is as far as before
one-control : (side : Side) (a : Action) (log : Log) → is_end a ≡ true → control_sent side (Sent a ∷ log) ≡ control_sent side log
one-control side (actions.StopOut id code) log e = refl
one-control side (actions.ResetOut id code) log e = refl
one-control side (actions.Finish id) log e = refl
one-control side (actions.Dial address name) log e = absurd cc
one-control side (actions.Opened id) log e = absurd cc
one-control side (actions.Send id piece) log e = absurd cc
one-control side (actions.DatagramOut piece) log e = absurd cc
one-control side (actions.Close code reason) log e = absurd cc

pub control-same : (side : Side) (xs : List Action) (log : Log) → AreEnds xs → control_sent side (with_actions xs log) ≡ control_sent side log
control-same side [] log h = refl
control-same side (x ∷ xs) log h = control-same side xs (Sent x ∷ log) h.1 ∙ one-control side x log h.0
