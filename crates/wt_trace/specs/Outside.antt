-- What stands outside: where bytes come from and go to, and how often that failed.
use Rattle.std.specs.Prelude.{◌≡◌, ℕ, ◌+◌, ◌-◌, ◌≤◌, ◌^◌, ◌==◌, min, Bool, if◌then◌else◌, List, ◌++◌, Option}
use Rattle.std.specs.List.{list_any}
use Rattle.std.specs.Io.KnownBytes.{Appends}

-- a count of faults rose, or stands at its type's end
abbrev pub Rose : ℕ → ℕ → Type 0
Rose before now = min (before + 1) (2 ^ 64 - 1) ≤ now

-- known bytes grow by a first part of the text
pub record AppendsPart (old new : Option (List ℕ)) (text : List ℕ) : Type 0 where
  pub part : List ℕ
  pub rest : List ℕ
  pub whole : part ++ rest ≡ text
  pub appends : Appends old new part

-- of a text a first part was written, and the rest waits
pub record Passes (old new : Option (List ℕ)) (text waiting : List ℕ) : Type 0 where
  pub written : List ℕ
  pub whole : written ++ waiting ≡ text
  pub appends : Appends old new written

-- the bytes that a reader has left or that a writer holds, where it reports them, and how often it failed
pub record Outside : Type 0 where
  pub bytes : Option (List ℕ)
  pub faults : ℕ

-- these bytes are reported, and so many faults
abbrev pub seen : Option (List ℕ) → ℕ → Outside
seen bytes faults = record { bytes = bytes; faults = faults }

-- a count of 64 bits after one more: it stays at its type's greatest number
abbrev pub counted : ℕ → ℕ
counted n = min (n + 1) (2 ^ 64 - 1)

-- the calls of a source or a sink in memory: the numbers of those that are to fail, counted from 0, how many were made,
-- and how many failed
pub record Calls : Type 0 where
  pub failing : List ℕ
  pub made : ℕ
  pub faults : ℕ

-- no call was made yet, and those of these numbers are to fail
abbrev pub no_calls : List ℕ → Calls
no_calls failing = record { failing = failing; made = 0; faults = 0 }

-- the call that comes next is to fail
abbrev pub fails_next : Calls → Bool
fails_next calls = list_any (λ number. number == calls.made) calls.failing

-- one more call was made, and didn't fail
abbrev pub after_success : Calls → Calls
after_success calls = record calls { made = counted calls.made }

-- one more call was made, and failed
abbrev pub after_fault : Calls → Calls
after_fault calls = record calls { made = counted calls.made; faults = counted calls.faults }

-- one more call was made, which failed where it was to fail
abbrev pub after_call : Calls → Calls
after_call calls = if fails_next calls then after_fault calls else after_success calls

-- a source in memory: the bytes that are left, and its calls
pub record MemorySource : Type 0 where
  pub bytes : List ℕ
  pub calls : Calls

-- a sink in memory: the bytes that it took, its calls, and how many of those found no memory for their bytes
pub record MemorySink : Type 0 where
  pub bytes : List ℕ
  pub calls : Calls
  pub unkept : ℕ

-- a write took the whole piece
abbrev pub after_write : MemorySink → List ℕ → MemorySink
after_write sink piece = record sink { bytes = sink.bytes ++ piece; calls = after_success sink.calls }

-- a write failed that was to fail
abbrev pub after_failed_write : MemorySink → MemorySink
after_failed_write sink = record sink { calls = after_fault sink.calls }

-- a write failed that found no memory for its bytes
abbrev pub after_unkept_write : MemorySink → MemorySink
after_unkept_write sink = record sink { calls = after_fault sink.calls; unkept = counted sink.unkept }
