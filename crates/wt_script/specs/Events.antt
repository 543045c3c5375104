-- The events of the transport that a line spells (this repository's own grammar).
use Rattle.std.specs.Prelude.{ℕ, List, [], ◌∷◌, codes, Option, Some, None, if◌then◌else◌}
use Rattle.std.specs.Option.{option_map, option_or, option_zip}
use Rattle.wt_turn.specs.declared.datagram_fact.DatagramFact.{DatagramFact}
use Rattle.wt_turn.specs.declared.datagram_fact.DatagramFact.TheVariants as facts
use Rattle.wt_turn.specs.declared.loss.LossReason.{LossReason}
use Rattle.wt_turn.specs.declared.loss.LossReason.TheVariants as losses
use Rattle.wt_turn.specs.declared.turn.Turn.{Turn}
use Rattle.wt_turn.specs.declared.turn.Turn.TheVariants as turns
use Rattle.wt_turn.specs.Close.{Close}
use Rattle.wt_script.specs.Numbers.{count_of, id_of, bytes_of, text_of_word}
use Rattle.wt_script.specs.Words.{is_word, alone, one, two}

-- what the transport reports about datagrams
abbrev pub fact_of : List ℕ → Option DatagramFact
fact_of word =
    if is_word word (codes "off") then Some facts.Disabled else
    (if is_word word (codes "unsupported") then Some facts.Unsupported else option_map facts.Limit (count_of word))

-- a close with this code and this reason
abbrev pub close_with : ℕ × List ℕ → Close
close_with p = record { code = p.0; reason = p.1 }

-- a close by its code and the bytes of its reason
abbrev pub close_of_words : List (List ℕ) → Option Close
close_of_words fields = option_map close_with (two id_of bytes_of fields)

-- a loss that has a code and a reason
abbrev pub coded_loss_of : List ℕ → List (List ℕ) → Option LossReason
coded_loss_of kind fields =
    if is_word kind (codes "transport") then option_map (λ p. losses.TransportError p.0 p.1) (two id_of text_of_word fields) else
    (if is_word kind (codes "connection") then option_map losses.ConnectionClosed (close_of_words fields) else
    (if is_word kind (codes "application") then option_map losses.ApplicationClosed (close_of_words fields) else None))

-- a loss of one word
abbrev pub bare_loss_of : List ℕ → Option LossReason
bare_loss_of kind =
    if is_word kind (codes "version_mismatch") then Some losses.VersionMismatch else
    (if is_word kind (codes "reset") then Some losses.Reset else
    (if is_word kind (codes "timed_out") then Some losses.TimedOut else
    (if is_word kind (codes "cids_exhausted") then Some losses.CidsExhausted else None)))

-- why the connection is lost
abbrev pub loss_of_words : List (List ℕ) → Option LossReason
loss_of_words [] = None
loss_of_words (kind ∷ []) = bare_loss_of kind
loss_of_words (kind ∷ field ∷ fields) = coded_loss_of kind (field ∷ fields)

-- what the transport reports when the connection is established
abbrev pub connected_of : List (List ℕ) → Option Turn
connected_of (uni ∷ bi ∷ credit ∷ fact ∷ []) =
    option_map (λ p. turns.Connected p.0 p.1.0 p.1.1.0 p.1.1.1) (option_zip (count_of uni) (option_zip (count_of bi) (option_zip (count_of credit) (fact_of fact))))
connected_of ws = None

-- the events that carry bytes or a text
abbrev pub data_event_of : List ℕ → List (List ℕ) → Option Turn
data_event_of name fields =
    if is_word name (codes "bytes") then option_map (λ p. turns.Bytes p.0 p.1) (two id_of bytes_of fields) else
    (if is_word name (codes "datagram") then option_map turns.Datagram (one bytes_of fields) else
    (if is_word name (codes "loss") then option_map turns.Loss (loss_of_words fields) else None))

-- the events of a stream
abbrev pub stream_event_of : List ℕ → List (List ℕ) → Option Turn
stream_event_of name fields =
    if is_word name (codes "peer_uni") then alone turns.PeerUni fields else
    (if is_word name (codes "peer_bi") then alone turns.PeerBi fields else
    (if is_word name (codes "end") then option_map turns.End (one id_of fields) else
    (if is_word name (codes "reset") then option_map (λ p. turns.Reset p.0 p.1) (two id_of id_of fields) else
    (if is_word name (codes "stop") then option_map (λ p. turns.Stop p.0 p.1) (two id_of id_of fields) else
    (if is_word name (codes "acked") then option_map turns.Acked (one id_of fields) else None)))))

-- the events that tell of limits
abbrev pub limit_event_of : List ℕ → List (List ℕ) → Option Turn
limit_event_of name fields =
    if is_word name (codes "connected") then connected_of fields else
    (if is_word name (codes "max_uni") then option_map turns.MaxUni (one count_of fields) else
    (if is_word name (codes "max_bi") then option_map turns.MaxBi (one count_of fields) else
    (if is_word name (codes "max_data") then option_map (λ p. turns.MaxData p.0 p.1) (two id_of count_of fields) else
    (if is_word name (codes "datagram_limit") then option_map turns.DatagramLimit (one fact_of fields) else None))))

-- the event of the transport by its name and its fields
abbrev pub event_of_words : List ℕ → List (List ℕ) → Option Turn
event_of_words name fields = option_or (data_event_of name fields) (option_or (stream_event_of name fields) (limit_event_of name fields))
