-- Capsules (RFC 9297 section 3.2), and the one that closes a session (draft-ietf-webtrans-http3 section 5).
use Rattle.std.specs.Prelude.{ℕ, ◌-◌, nat_lt, List, length, take, drop, Result, Ok, Err, if◌then◌else◌}
use Rattle.wt_message.specs.SessionClose.{SessionClose, longest_reason}
use Rattle.wt_wire.specs.declared.error.ErrorCode.{ErrorCode}
use Rattle.wt_wire.specs.declared.error.ErrorCode.TheVariants.{Message}
use Rattle.wt_wire.specs.Varint.{big_endian}
use Rattle.wt_wire.specs.Utf8.{is_text}

-- the type of CLOSE_WEBTRANSPORT_SESSION
abbrev pub close_capsule_type : ℕ
close_capsule_type = 0x2843

-- what the value says: a code of four bytes and a reason of at most 1024 bytes of UTF-8
abbrev pub close_of : List ℕ → Result SessionClose ErrorCode
close_of value =
    if nat_lt (length value) 4 then Err Message else
    (if nat_lt longest_reason (length value - 4) then Err Message else
    (if is_text (drop 4 value) then Ok (record { error_code = big_endian 0 (take 4 value); reason = drop 4 value }) else Err Message))
