-- The walk over the peer's control stream after its type, over all bytes and the end (RFC 9114, sections 6.2.1 and 7.2.4).
use Rattle.std.specs.Prelude.{ℕ, List, Bool, Option, Some, None, Result, Ok, Err, if◌then◌else◌}
use Rattle.wt_proto.specs.declared.control_walk.ControlWalk.{ControlWalk}
use Rattle.wt_wire.specs.declared.error.ErrorCode.{ErrorCode}
use Rattle.wt_wire.specs.declared.error.ErrorCode.TheVariants.{FrameUnexpected, ExcessiveLoad, MissingSettings, ClosedCriticalStream}
use Rattle.wt_message.specs.declared.settings.Settings.{Settings}
use Rattle.wt_wire.specs.declared.side.StreamEnd.{StreamEnd}
use Rattle.wt_wire.specs.declared.side.StreamEnd.TheVariants.{Running, Fin, Reset}
use Rattle.wt_proto.specs.declared.walk.Step.{Step}
use Rattle.wt_proto.specs.declared.walk.Step.TheVariants.{Goes, Stops}
use Rattle.wt_wire.specs.Frames as frames
use Rattle.wt_proto.specs.FrameSteps.{step_of_item}
use Rattle.wt_message.specs.Settings.{settings_of}
use Rattle.wt_proto.specs.Walk.{outcome_at, whole_walk}

-- a fault; settings that came before it stay
abbrev pub control_fault : Option Settings → ErrorCode → ℕ → Step (Option Settings) ControlWalk
control_fault settings fault size = Stops (record { settings = settings; fault = Some fault }) size

-- a payload of settings: they come, or their fault does
abbrev pub settings_step : ℕ → Result Settings ErrorCode → Step (Option Settings) ControlWalk
settings_step size (Ok settings) = Goes (Some settings) size
settings_step size (Err fault) = control_fault None fault size

-- SETTINGS come once
abbrev pub on_settings : Option Settings → ℕ → List ℕ → Step (Option Settings) ControlWalk
on_settings None size payload = settings_step size (settings_of payload)
on_settings (Some settings) size payload = control_fault (Some settings) FrameUnexpected size

-- before SETTINGS an exercise frame is a fault with its last byte; every other frame is skipped
-- (this repository's rule; RFC 9114, section 6.2.1, asks H3_MISSING_SETTINGS for each frame that comes before SETTINGS)
abbrev pub on_skipped : Option Settings → ℕ → ℕ → Step (Option Settings) ControlWalk
on_skipped None size kind = if frames.is_exercise kind then control_fault None MissingSettings size else Goes None size
on_skipped (Some settings) size kind = Goes (Some settings) size

-- the state is the settings that came;
-- DATA and HEADERS are one fault, before SETTINGS too (this repository's rule; RFC 9114 asks H3_FRAME_UNEXPECTED in sections 7.2.1 and 7.2.2, and before SETTINGS also H3_MISSING_SETTINGS in section 6.2.1);
-- a signal is the same fault, 0x105 (this repository's rule; draft-ietf-webtrans-http3, section 4.3, asks H3_FRAME_ERROR)
abbrev pub control_effect : Option Settings → ℕ → frames.Frame → Step (Option Settings) ControlWalk
control_effect settings size (frames.Data payload) = control_fault settings FrameUnexpected size
control_effect settings size (frames.Headers payload) = control_fault settings FrameUnexpected size
control_effect settings size (frames.Settings payload) = on_settings settings size payload
control_effect settings size frames.TooLong = control_fault settings ExcessiveLoad size
control_effect settings size (frames.Signal id) = control_fault settings FrameUnexpected size
control_effect settings size (frames.Skipped kind) = on_skipped settings size kind

-- what the frame at the front of a control stream does
unfoldable pub control_decides : Option Settings → List ℕ → Step (Option Settings) ControlWalk
control_decides settings bytes = step_of_item (control_effect settings) (frames.frame_at frames.session_id_ignored bytes)

-- where no fault came before: the control stream never ends
abbrev pub control_unfinished : StreamEnd → Option Settings → Bool → ControlWalk
control_unfinished Running settings between = record { settings = settings; fault = None }
control_unfinished Fin settings between = record { settings = settings; fault = Some ClosedCriticalStream }
control_unfinished (Reset code) settings between = record { settings = settings; fault = Some ClosedCriticalStream }

-- the peer's SETTINGS and the fault of its control stream, over all bytes after the type and the end
unfoldable pub control_walk_of : List ℕ → StreamEnd → ControlWalk
control_walk_of bytes end = outcome_at control_unfinished end (whole_walk control_decides None bytes)
