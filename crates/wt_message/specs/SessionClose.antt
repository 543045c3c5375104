-- What closes a session (draft-ietf-webtrans-http3, section 5).
use Rattle.std.specs.Prelude.{ℕ, ◌<◌, ◌≤◌, ◌^◌, List, length}

-- a code, and a reason of UTF-8
pub record SessionClose : Type 0 where
  pub error_code : ℕ
  pub reason : List ℕ

-- the longest reason, in bytes
abbrev pub longest_reason : ℕ
longest_reason = 1024

-- the code has four bytes, and the reason isn't too long
abbrev pub IsSessionClose : SessionClose → Type 0
IsSessionClose c = (c.error_code < 2 ^ 32) × (length c.reason ≤ longest_reason)
