-- Recorded sessions, and what computes them: each lemma of the files below says that what the definitions give is what was
-- recorded, and is proved by `refl` with these names on its line. `tools/meaning lemmas` makes the files.
pub mod Emits1
pub mod Emits2
pub mod Grammar
pub mod Rows1
pub mod Rows2
pub mod Rows3
pub mod Rows4
pub mod Rows5
pub mod Rows6
pub mod Traces1
pub mod Traces2
pub mod Urls1
pub mod Urls2
pub mod Urls3
use Rattle.std.specs.Fmt.{digits}
use Rattle.std.specs.Net.Addr.{ipv4_bits, ipv6_bits}
use Rattle.std.specs.Net.Reader.{read_ipv4, read_ipv6, read_number, read_octet, read_segment, read_segments}
use Rattle.std.specs.Net.Text.{hex, hex_groups_text}
use Rattle.std.specs.Prelude.{[], ◌++◌, ◌∷◌, List, drop, take, ℕ}
use Rattle.percent_encoding.specs.AsciiSet.{should_percent_encode}
use Rattle.percent_encoding.specs.Percent.{percent_decode, percent_encode, percent_encode_byte}
use Rattle.url.specs.Host.{ascii_domain, parse_bracketed, parse_file_host, parse_opaque_host, parse_special_host}
use Rattle.url.specs.Input.{rsplit_once, split_once, strip_tabs_and_new_lines, trim_c0_control_and_space}
use Rattle.url.specs.Ipv4.{ends_in_a_number, parse_number, parse_parts as ipv4_parts}
use Rattle.url.specs.Parser.{after_double_slash, after_file_double_slash, host_len, leading_slashes, parse_authority, parse_body}
use Rattle.url.specs.Parser.{parse_file, parse_non_special, parse_parts, parse_port, parse_url, split_scheme}
use Rattle.url.specs.Path.{dot_count, is_windows_drive_letter, parse_path_start, parse_segments, push_segment, shorten_path}
use Rattle.url.specs.Scheme.{default_port, scheme_len, scheme_type}
use Rattle.wt_meaning.specs.Meaning.{Run, run}
use Rattle.wt_meaning.specs.Moments.{findings}
use Rattle.wt_proto.specs.SessionWalk.{capsule_decides, session_decides, session_walk_of}
use Rattle.wt_message.specs.Datagram.{datagram_of}
use Rattle.wt_message.specs.Requests.{request_of}
use Rattle.wt_message.specs.Responses.{response_of}
use Rattle.wt_message.specs.SettingPair.{pair_at}
use Rattle.wt_message.specs.Settings.{pairs_from, with_pair}
use Rattle.wt_proto.specs.Bi.{bi_decides, bi_verdict_of}
use Rattle.wt_proto.specs.ControlWalk.{control_decides, control_walk_of}
use Rattle.wt_proto.specs.ResponseWalk.{response_decides, response_walk_of}
use Rattle.wt_proto.specs.Uni.{uni_verdict_of}
use Rattle.wt_turn.specs.declared.answer.Answer.{Answer}
use Rattle.wt_turn.specs.declared.turn.Turn.{Turn}
use Rattle.wt_wire.specs.FieldSection.{field_lines_from, line_at, string_at}
use Rattle.wt_wire.specs.Frames.{frame_at}
use Rattle.wt_wire.specs.PrefixedInteger.{continuation_at, prefixed_at, prefixed_bytes}
use Rattle.wt_wire.specs.Utf8.{is_text_from}
use Rattle.wt_wire.specs.Varint.{varint_at, varint_bytes}
use Rattle.wt_wire.specs.declared.side.Side.{Side}

-- the definitions that don't unfold by themselves
unfoldable pub computed : Side → List Turn → Run
unfolding findings capsule_decides session_decides session_walk_of datagram_of request_of response_of pair_at pairs_from with_pair bi_decides bi_verdict_of control_decides
    control_walk_of response_decides response_walk_of uni_verdict_of field_lines_from line_at string_at frame_at continuation_at prefixed_at prefixed_bytes is_text_from varint_at varint_bytes
computed side all = run side all

-- those of a connect's URL
unfoldable pub parsed : Side → List Turn → Run
unfolding digits ipv4_bits ipv6_bits read_ipv4 read_ipv6 read_number read_octet read_segment read_segments hex hex_groups_text should_percent_encode percent_decode percent_encode
    percent_encode_byte ascii_domain parse_bracketed parse_file_host parse_opaque_host parse_special_host rsplit_once split_once strip_tabs_and_new_lines trim_c0_control_and_space ends_in_a_number
    parse_number ipv4_parts after_double_slash after_file_double_slash host_len leading_slashes parse_authority parse_body parse_file parse_non_special parse_parts parse_port parse_url
    split_scheme dot_count is_windows_drive_letter parse_path_start parse_segments push_segment shorten_path default_port scheme_len scheme_type
parsed side all = run side all

-- the answers at these places
abbrev pub picked : List ℕ → List Answer → List Answer
picked [] answers = []
picked (n ∷ ns) answers = take 1 (drop n answers) ++ picked ns answers

-- a run, of whose answers these are shown
abbrev pub shown : List ℕ → Run → Run
shown ns r = record { answers = picked ns r.answers; is_all = r.is_all }
