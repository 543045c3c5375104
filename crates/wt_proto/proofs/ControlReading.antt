-- The walk over the control stream, as a reader of it needs it.
use Rattle.std.proofs.Common.{◌≡◌, ℕ, Bool, true, false, cond, List, Option, Some, None, is_some, Result, Ok, Err, refl}
use Rattle.wt_wire.specs.declared.error.ErrorCode.{ErrorCode}
use Rattle.wt_wire.specs.declared.error.ErrorCode.TheVariants.{MissingSettings}
use Rattle.wt_wire.specs.declared.side.StreamEnd.{StreamEnd}
use Rattle.wt_wire.specs.declared.side.StreamEnd.TheVariants.{Running, Fin, Reset}
use Rattle.wt_proto.specs.declared.control_walk.ControlWalk.{ControlWalk}
use Rattle.wt_message.specs.declared.settings.Settings.{Settings}
use Rattle.wt_proto.specs.declared.walk.Step.TheVariants.{Goes, Stops}
use Rattle.wt_wire.specs.Frames as frames
use Rattle.wt_proto.specs.ControlWalk.{control_decides, control_effect, control_unfinished, control_walk_of, control_fault, settings_step}
use Rattle.wt_proto.specs.FrameSteps.{step_of_item}
use Rattle.wt_message.specs.Settings.{settings_of}
use Rattle.wt_proto.specs.Steady.{IsAwaited, IsLawful}
use Rattle.wt_proto.specs.Walk.{outcome_at, whole_walk}
use Rattle.wt_proto.specs.Wanted.{frame_wants}
use Rattle.wt_proto.proofs.ControlLaws.{control-effect, control-steady}
use Rattle.wt_proto.proofs.WantedLaws.{ignored-awaited, item-awaited}

control-awaited : IsAwaited control_decides (frame_wants false)
unfolding control_decides
control-awaited = item-awaited (frames.frame_at frames.session_id_ignored) (frame_wants false) ignored-awaited control_effect control-effect

control-reaches : (bytes : List ℕ) (end : StreamEnd) → control_walk_of bytes end ≡ outcome_at control_unfinished end (whole_walk control_decides None bytes)
unfolding control_walk_of
control-reaches bytes end = refl

settings-final : (n : ℕ) (r : Result Settings ErrorCode) (w : ControlWalk) (m : ℕ) → settings_step n r ≡ Stops w m → is_some w.fault ≡ true
settings-final n (Ok s) w m e = absurd cc
settings-final n (Err fault) w m e = cc

skipped-final : (b : Bool) (n : ℕ) (w : ControlWalk) (m : ℕ) → cond b (control_fault None MissingSettings n) (Goes None n) ≡ Stops w m → is_some w.fault ≡ true
skipped-final true n w m e = cc
skipped-final false n w m e = absurd cc

effect-final : (s : Option Settings) (f : Option (frames.Frame × ℕ)) (w : ControlWalk) (m : ℕ) → step_of_item (control_effect s) f ≡ Stops w m → is_some w.fault ≡ true
effect-final s None w m e = absurd cc
effect-final None (Some (frames.Settings payload, n)) w m e = settings-final n (settings_of payload) w m e
effect-final (Some s) (Some (frames.Settings payload, n)) w m e = cc
effect-final None (Some (frames.Skipped kind, n)) w m e = skipped-final (frames.is_exercise kind) n w m e
effect-final (Some s) (Some (frames.Skipped kind, n)) w m e = absurd cc
effect-final s _ w m e = cc

control-final : (s : Option Settings) (bytes : List ℕ) (w : ControlWalk) (n : ℕ) → control_decides s bytes ≡ Stops w n → is_some w.fault ≡ true
unfolding control_decides
control-final s bytes w n e = effect-final s (frames.frame_at frames.session_id_ignored bytes) w n e

control-final_by_end : (end : StreamEnd) (s t : Option Settings) (b c : Bool) → is_some (control_unfinished end s b).fault ≡ is_some (control_unfinished end t c).fault
control-final_by_end Running s t b c = refl
control-final_by_end Fin s t b c = refl
control-final_by_end (Reset code) s t b c = refl

pub control_lawful : IsLawful None control_decides (frame_wants false) control_unfinished (λ w. is_some w.fault) control_walk_of
control_lawful = record { steady = control-steady; awaited = control-awaited; reaches = control-reaches; stops = control-final; by_end = control-final_by_end }
