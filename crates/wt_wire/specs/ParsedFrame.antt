-- What the code's parser answers of the frame at the front.
use Rattle.std.specs.Prelude.{ℕ, ◌+◌, ◌≤◌, ◌<◌, ◌^◌, List, take, drop, Option, Some, None}
use Rattle.wt_wire.specs.declared.parsed_frame.ParsedFrame.{ParsedFrame}
use Rattle.wt_wire.specs.declared.parsed_frame.ParsedFrame.TheVariants as parsed
use Rattle.wt_wire.specs.Frames.{Frame, Data, Headers, Settings, TooLong, Skipped, longest_payload, signal_with_id}

-- the frame that an answer denotes, and how many bytes it takes
abbrev pub parsed_value : (List ℕ → Option (ℕ × ℕ)) → List ℕ → ParsedFrame → Option (Frame × ℕ)
parsed_value id_at bytes parsed.Incomplete = None
parsed_value id_at bytes (parsed.Signal offset) = signal_with_id offset (id_at (drop offset bytes))
parsed_value id_at bytes (parsed.TooLong header) = Some (TooLong, header)
parsed_value id_at bytes (parsed.Data header size) = Some (Data (take size (drop header bytes)), header + size)
parsed_value id_at bytes (parsed.Headers header size) = Some (Headers (take size (drop header bytes)), header + size)
parsed_value id_at bytes (parsed.Settings header size) = Some (Settings (take size (drop header bytes)), header + size)
parsed_value id_at bytes (parsed.Skipped kind size) = Some (Skipped kind, size)

-- a payload lies within n bytes
abbrev pub IsPayload : ℕ → ℕ → ℕ → Type 0
IsPayload count header size = (1 ≤ header) × (header + size ≤ count) × (size ≤ longest_payload)

-- the answer lies within n bytes
abbrev pub LiesWithin : ℕ → ParsedFrame → Type 0
LiesWithin count parsed.Incomplete = Unit {0}
LiesWithin count (parsed.Signal offset) = (1 ≤ offset) × (offset ≤ count) × (offset ≤ 8)
LiesWithin count (parsed.TooLong header) = (1 ≤ header) × (header ≤ count)
LiesWithin count (parsed.Data header size) = IsPayload count header size
LiesWithin count (parsed.Headers header size) = IsPayload count header size
LiesWithin count (parsed.Settings header size) = IsPayload count header size
LiesWithin count (parsed.Skipped kind size) = (1 ≤ size) × (size < 2 ^ 63)
