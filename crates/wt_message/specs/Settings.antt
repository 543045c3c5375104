-- SETTINGS payloads (RFC 9114 section 7.2.4).
use Rattle.std.specs.Prelude.{ℕ, zero, suc, ◌-◌, ◌==◌, ◌||◌, ◌&&◌, nat_lt, Bool, List, [], ◌∷◌, ◌++◌, flat_map, find, ok_or, Option, Some, None, Result, Ok, Err, is_some, IfSome, ◌<◌, ◌^◌, if◌then◌else◌}
use Rattle.wt_message.specs.declared.settings.SettingId.{SettingId}
use Rattle.wt_message.specs.declared.settings.SettingId.TheVariants.{QPackMaxTableCapacity, MaxFieldSectionSize, QPackBlockedStreams, EnableConnectProtocol, H3Datagram, EnableWebTransport, WebTransportMaxSessions}
use Rattle.wt_message.specs.declared.settings.Settings.{Settings}
use Rattle.wt_wire.specs.declared.error.ErrorCode.{ErrorCode}
use Rattle.wt_wire.specs.declared.error.ErrorCode.TheVariants as errors
use Rattle.wt_message.specs.SettingPair.{ParsedPair, pair_at}
use Rattle.wt_wire.specs.ResultBind.{◌>>=◌}
use Rattle.wt_wire.specs.Varint.{varint_bytes}

-- the id of a known setting on the wire: RFC 9204 section 5, RFC 9114 section 7.2.4.1, RFC 9220 section 3, RFC 9297 section 2.1.1, and two of draft-ietf-webtrans-http3
abbrev pub setting_number : SettingId → ℕ
setting_number QPackMaxTableCapacity = 0x01
setting_number MaxFieldSectionSize = 0x06
setting_number QPackBlockedStreams = 0x07
setting_number EnableConnectProtocol = 0x08
setting_number H3Datagram = 0x33
setting_number EnableWebTransport = 0x2b603742
setting_number WebTransportMaxSessions = 0xc671706a

-- the known settings, by ascending ids
abbrev pub all_settings : List SettingId
all_settings =
    QPackMaxTableCapacity ∷ MaxFieldSectionSize ∷ QPackBlockedStreams ∷ EnableConnectProtocol ∷ H3Datagram ∷ EnableWebTransport ∷ WebTransportMaxSessions ∷ []

-- the setting with this id
abbrev pub known_setting : ℕ → Option SettingId
known_setting n = find (λ id. setting_number id == n) all_settings

-- 0 and those of HTTP/2 that have no meaning here (RFC 9114 section 7.2.4.1)
abbrev pub is_reserved_setting : ℕ → Bool
is_reserved_setting n = n == 0 || nat_lt 1 n && nat_lt n 6

-- the value of a setting
abbrev pub setting : Settings → SettingId → Option ℕ
setting s QPackMaxTableCapacity = s.qpack_max_table_capacity
setting s MaxFieldSectionSize = s.max_field_section_size
setting s QPackBlockedStreams = s.qpack_blocked_streams
setting s EnableConnectProtocol = s.enable_connect_protocol
setting s H3Datagram = s.h3_datagram
setting s EnableWebTransport = s.enable_webtransport
setting s WebTransportMaxSessions = s.webtransport_max_sessions

-- the settings with this value of a setting
abbrev pub with_setting : SettingId → Option ℕ → Settings → Settings
with_setting QPackMaxTableCapacity v s = record s { qpack_max_table_capacity = v }
with_setting MaxFieldSectionSize v s = record s { max_field_section_size = v }
with_setting QPackBlockedStreams v s = record s { qpack_blocked_streams = v }
with_setting EnableConnectProtocol v s = record s { enable_connect_protocol = v }
with_setting H3Datagram v s = record s { h3_datagram = v }
with_setting EnableWebTransport v s = record s { enable_webtransport = v }
with_setting WebTransportMaxSessions v s = record s { webtransport_max_sessions = v }

-- the settings with a pair more that isn't reserved: a known id that came before is refused, an unknown one is skipped
abbrev pub with_known : Settings → ℕ → Option SettingId → Result Settings ErrorCode
with_known s v None = Ok s
with_known s v (Some id) = if is_some (setting s id) then Err errors.Settings else Ok (with_setting id (Some v) s)

-- the settings with a pair more: a reserved id is refused
unfoldable pub with_pair : Settings → ℕ → ℕ → Result Settings ErrorCode
with_pair s n v = if is_reserved_setting n then Err errors.Settings else with_known s v (known_setting n)

-- the pair at the front; a pair that is cut is a frame error (RFC 9114, section 7.1), whatever its id, where no pair before it is at fault
-- (this order is the repository's rule; RFC 9114 doesn't say which of several faults is reported)
abbrev pub whole_pair_at : List ℕ → Result ParsedPair ErrorCode
whole_pair_at bytes = ok_or (pair_at bytes) errors.Frame

-- the settings of the pairs from left to right, after pairs that gave these settings and n bytes that were read
unfoldable pub pairs_from : Settings → ℕ → List ℕ → Result Settings ErrorCode
pairs_from s zero [] = Ok s
pairs_from s (suc k) [] = Err errors.Frame
pairs_from s (suc k) (b ∷ bytes) = pairs_from s k bytes
pairs_from s zero (b ∷ bytes) = do
  p ← whole_pair_at (b ∷ bytes)
  t ← with_pair s p.id p.value
  pairs_from t (p.len - 1) bytes

-- no setting at all
abbrev pub no_settings : Settings
no_settings = record {
  qpack_max_table_capacity = None;
  max_field_section_size = None;
  qpack_blocked_streams = None;
  enable_connect_protocol = None;
  h3_datagram = None;
  enable_webtransport = None;
  webtransport_max_sessions = None;
}

-- the settings of a payload
abbrev pub settings_of : List ℕ → Result Settings ErrorCode
settings_of payload = pairs_from no_settings 0 payload

-- ---- how they are written: by ascending ids

-- an id and a value, where there is one
abbrev pub option_bytes : ℕ → Option ℕ → List ℕ
option_bytes id None = []
option_bytes id (Some v) = varint_bytes id ++ varint_bytes v

-- a setting, where it is there
abbrev pub setting_bytes : Settings → SettingId → List ℕ
setting_bytes s id = option_bytes (setting_number id) (setting s id)

-- all settings that are there
abbrev pub settings_bytes : Settings → List ℕ
settings_bytes s = flat_map (setting_bytes s) all_settings

-- each value is a variable-length integer
abbrev pub IsSmall : Option ℕ → Type 0
IsSmall v = IfSome v (λ n. n < 2 ^ 62)

-- all values are
pub record AreSmall (s : Settings) : Type 0 where
  pub qpack_max_table_capacity : IsSmall s.qpack_max_table_capacity
  pub max_field_section_size : IsSmall s.max_field_section_size
  pub qpack_blocked_streams : IsSmall s.qpack_blocked_streams
  pub enable_connect_protocol : IsSmall s.enable_connect_protocol
  pub h3_datagram : IsSmall s.h3_datagram
  pub enable_webtransport : IsSmall s.enable_webtransport
  pub webtransport_max_sessions : IsSmall s.webtransport_max_sessions
