use Rattle.std.proofs.Common.{◌≡◌, ◌≤◌, ◌-◌, length, drop}
use Rattle.wt_message.specs.Settings.{pairs_from, settings_of}
use Rattle.wt_message.proofs.settings.Settings.with_payload.Given as goal

abbrev pub invariant-loop-offset : goal.invariant-loop-offset
invariant-loop-offset l = record {
  within : l.offset ≤ length l.payload;
  passed : pairs_from l.settings 0 (drop l.offset l.payload) ≡ settings_of l.payload;
}

abbrev pub decreases-loop-offset : goal.decreases-loop-offset
decreases-loop-offset l = length l.payload - l.offset
