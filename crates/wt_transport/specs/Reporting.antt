-- What is reported once of a half of a stream.
use Rattle.std.specs.Prelude.{if◌then◌else◌}
use Rattle.wt_transport.specs.declared.reported.Reported.{Reported}

-- what was reported while the connection was open; else what stands for nothing
abbrev pub in_time : {T : Type 0} → T → Reported T → T
in_time nothing r = if r.is_late then nothing else r.value
