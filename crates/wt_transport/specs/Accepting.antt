-- Which of the peer's streams is accepted next (this repository's rule: in the order of their ids, each once).
use Rattle.std.specs.Prelude.{ℕ, ◌+◌, ◌*◌, ◌^◌, Option, Some, None, nat_lt, ◌&&◌, if◌then◌else◌}
use Rattle.wt_turn.specs.Streams.{peer_bi, peer_uni}
use Rattle.wt_transport.specs.State.{TransportState}
use Rattle.wt_transport.specs.Step.{count_now}

-- of this many streams of a kind, the one that comes after n others by its id; at most 2^60 have an id (RFC 9000, section 2.1)
abbrev pub stream_after : ℕ → ℕ → ℕ → Option ℕ
stream_after total kind count = if nat_lt count (2 ^ 60) && nat_lt count total then Some (4 * count + kind) else None

-- the peer's first unidirectional stream by its id that wasn't accepted
abbrev pub next_peer_uni : TransportState → Option ℕ
next_peer_uni t = stream_after (count_now t (peer_uni t.side)) (peer_uni t.side) t.accepted.uni

-- the peer's first bidirectional stream by its id that wasn't accepted
abbrev pub next_peer_bi : TransportState → Option ℕ
next_peer_bi t = stream_after (count_now t (peer_bi t.side)) (peer_bi t.side) t.accepted.bi

-- one more, where there is one
abbrev pub one_more : Option ℕ → ℕ → ℕ
one_more None count = count
one_more (Some id) count = count + 1

-- after the next unidirectional stream was accepted, if there is one: only the count changes
abbrev pub after_accept_uni : TransportState → TransportState
after_accept_uni t = record t { accepted = record t.accepted { uni = one_more (next_peer_uni t) t.accepted.uni } }

-- after the next bidirectional stream was accepted, if there is one: only the count changes
abbrev pub after_accept_bi : TransportState → TransportState
after_accept_bi t = record t { accepted = record t.accepted { bi = one_more (next_peer_bi t) t.accepted.bi } }
