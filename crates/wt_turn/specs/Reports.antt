-- What the transport reported of a connection and its streams (RFC 9000; datagrams: RFC 9221). Each question is asked of
-- a list of events, the newest first: of those that came while the connection was open (`events_of`) for what counts, of
-- all of them (`all_events_of`) for what may come next.
use Rattle.std.specs.Prelude.{ℕ, List, [], ◌∷◌, ◌++◌, Option, Some, None, unwrap_or, Bool, true, false, ◌==◌, if◌then◌else◌}
use Rattle.std.specs.List.{list_any}
use Rattle.wt_wire.specs.declared.side.StreamEnd.{StreamEnd}
use Rattle.wt_wire.specs.declared.side.StreamEnd.TheVariants as ends
use Rattle.wt_turn.specs.declared.datagram_fact.DatagramFact.{DatagramFact}
use Rattle.wt_turn.specs.declared.loss.LossReason.{LossReason}
use Rattle.wt_turn.specs.Log.{Event, Connected, PeerUni, PeerBi, End, Reset, Stop, Acked, Datagram, MaxUni, MaxBi, MaxData, DatagramLimit, Loss, newest}

-- what an event about stream `id` reports of stream k
abbrev pub if_same : {T : Type 0} → ℕ → ℕ → T → Option T
if_same id k t = if id == k then Some t else None

-- ---- one stream

-- how the event ends this stream's receiving half
abbrev pub end_reported : ℕ → Event → Option StreamEnd
end_reported k (End id) = if_same id k ends.Fin
end_reported k (Reset id code) = if_same id k (ends.Reset code)
end_reported k _ = None

-- how a receiving half ended: by FIN or RESET_STREAM (RFC 9000, section 3.2)
abbrev pub end_of : List Event → ℕ → StreamEnd
end_of events k = unwrap_or (newest (end_reported k) events) ends.Running

-- the code with which the event stops this stream's sending half
abbrev pub stop_reported : ℕ → Event → Option ℕ
stop_reported k (Stop id code) = if_same id k code
stop_reported k _ = None

-- the code with which the peer stopped a sending half (STOP_SENDING: RFC 9000, section 3.5)
abbrev pub stop_of : List Event → ℕ → Option ℕ
stop_of events k = newest (stop_reported k) events

-- the event acknowledges all of this stream's sending half
abbrev pub acknowledges : ℕ → Event → Bool
acknowledges k (Acked id) = id == k
acknowledges k _ = false

-- all of a finished sending half was acknowledged (RFC 9000, section 3.1)
abbrev pub is_acknowledged : List Event → ℕ → Bool
is_acknowledged events k = list_any (acknowledges k) events

-- the credit that the event gives this stream's sending half
abbrev pub credit_reported : ℕ → Event → Option ℕ
credit_reported k (Connected uni bi credit datagrams) = Some credit
credit_reported k (MaxData id total) = if_same id k total
credit_reported k _ = None

-- how many bytes a sending half may send in all (RFC 9000, section 4.1)
abbrev pub credit : List Event → ℕ → ℕ
credit events k = unwrap_or (newest (credit_reported k) events) 0

-- ---- the connection

-- the event establishes the connection
abbrev pub connects : Event → Bool
connects (Connected uni bi credit datagrams) = true
connects _ = false

-- the connection was established
abbrev pub is_connected : List Event → Bool
is_connected events = list_any connects events

-- the credit that the event gives each sending half
abbrev pub initial_credit_reported : Event → Option ℕ
initial_credit_reported (Connected uni bi credit datagrams) = Some credit
initial_credit_reported _ = None

-- how many bytes each sending half may send before its own credit is raised
abbrev pub initial_credit : List Event → ℕ
initial_credit events = unwrap_or (newest initial_credit_reported events) 0

-- how many unidirectional streams the event allows
abbrev pub unis_reported : Event → Option ℕ
unis_reported (Connected uni bi credit datagrams) = Some uni
unis_reported (MaxUni total) = Some total
unis_reported _ = None

-- how many unidirectional streams this end may open in all (RFC 9000, section 4.6)
abbrev pub unis_allowed : List Event → ℕ
unis_allowed events = unwrap_or (newest unis_reported events) 0

-- how many bidirectional streams the event allows
abbrev pub bis_reported : Event → Option ℕ
bis_reported (Connected uni bi credit datagrams) = Some bi
bis_reported (MaxBi total) = Some total
bis_reported _ = None

-- how many bidirectional streams this end may open in all
abbrev pub bis_allowed : List Event → ℕ
bis_allowed events = unwrap_or (newest bis_reported events) 0

-- what the event reports of datagrams
abbrev pub datagrams_reported : Event → Option DatagramFact
datagrams_reported (Connected uni bi credit datagrams) = Some datagrams
datagrams_reported (DatagramLimit fact) = Some fact
datagrams_reported _ = None

-- what holds of datagrams: the last that was reported (RFC 9221, section 3)
abbrev pub datagram_fact : List Event → Option DatagramFact
datagram_fact events = newest datagrams_reported events

-- why the event loses the connection
abbrev pub loss_reported : Event → Option LossReason
loss_reported (Loss reason) = Some reason
loss_reported _ = None

-- why the connection was lost
abbrev pub loss_of : List Event → Option LossReason
loss_of events = newest loss_reported events

-- these datagrams, and the one that the event carries
abbrev pub with_datagram : Event → List (List ℕ) → List (List ℕ)
with_datagram (Datagram piece) before = before ++ piece ∷ []
with_datagram _ before = before

-- the datagrams in the order in which they came
abbrev pub datagrams_of : List Event → List (List ℕ)
datagrams_of [] = []
datagrams_of (e ∷ before) = with_datagram e (datagrams_of before)

-- more may be received on the peer's half
abbrev pub is_running : StreamEnd → Bool
is_running ends.Running = true
is_running ends.Fin = false
is_running (ends.Reset code) = false
