-- The walk over the control stream is steady.
use Rattle.std.proofs.Common.{◌≡◌, ℕ, zero, suc, ◌-◌, Bool, true, false, cond, List, [], ◌∷◌, ◌++◌, Option, Some, None, IsSome, is_some, unwrap_or, Result, Ok, Err, refl, sym, ap, ◌∙◌}
use Rattle.wt_wire.specs.declared.error.ErrorCode.{ErrorCode}
use Rattle.wt_wire.specs.declared.error.ErrorCode.TheVariants.{MissingSettings}
use Rattle.wt_proto.specs.declared.control_walk.ControlWalk.{ControlWalk}
use Rattle.wt_message.specs.declared.settings.Settings.{Settings}
use Rattle.wt_wire.specs.declared.side.StreamEnd.{StreamEnd}
use Rattle.wt_wire.specs.declared.side.StreamEnd.TheVariants.{Running, Fin, Reset}
use Rattle.wt_proto.specs.declared.walk.Step.{Step}
use Rattle.wt_proto.specs.declared.walk.Step.TheVariants.{Cut, Goes, Stops}
use Rattle.wt_wire.specs.Frames as frames
use Rattle.wt_proto.specs.FrameSteps.{step_of_item}
use Rattle.wt_message.specs.Settings.{settings_of}
use Rattle.wt_proto.specs.Steady.{size_of_step, IsSteady}
use Rattle.wt_proto.specs.ControlWalk.{control_decides, control_effect, control_unfinished, control_walk_of, control_fault, settings_step}
use Rattle.wt_proto.specs.Walk.{step_on, outcome_at, walk, whole_walk}
use Rattle.wt_proto.proofs.FrameLaws.{IsEffect, frames-steady, session_id_ignored-on}
use Rattle.wt_proto.proofs.WalkLaws.{outcome-stays}

settings-taken : (n : ℕ) (r : Result Settings ErrorCode) → size_of_step (settings_step n r) ≡ Some n
settings-taken n (Ok s) = refl
settings-taken n (Err e) = refl

chosen-taken : {S O : Type 0} (b : Bool) (x y : Step S O) (n : ℕ) → size_of_step x ≡ Some n → size_of_step y ≡ Some n → size_of_step (cond b x y) ≡ Some n
chosen-taken true x y n e f = e
chosen-taken false x y n e f = f

pub control-effect : IsEffect control_effect
control-effect = record { size_is = size_is }
  where
    size_is : (s : Option Settings) (n : ℕ) (f : frames.Frame) → size_of_step (control_effect s n f) ≡ Some n
    size_is None n (frames.Settings payload) = settings-taken n (settings_of payload)
    size_is (Some s) n (frames.Settings payload) = refl
    size_is None n (frames.Skipped kind) = chosen-taken (frames.is_exercise kind) (control_fault None MissingSettings n) (Goes None n) n refl refl
    size_is (Some s) n (frames.Skipped kind) = refl
    size_is s n _ = refl

pub control-steady : IsSteady control_decides
unfolding control_decides
control-steady = frames-steady frames.session_id_ignored session_id_ignored-on control_effect control-effect

pub control_fault_stays : (bytes more : List ℕ) (end : StreamEnd) → IsSome (control_walk_of bytes Running).fault → control_walk_of (bytes ++ more) end ≡ control_walk_of bytes Running
unfolding control_walk_of
control_fault_stays bytes more end some =
    outcome-stays control_decides control-steady None control_unfinished (λ w. is_some w.fault) (λ s b. refl) bytes more end (faulty (outcome_at control_unfinished Running (whole_walk control_decides None bytes)).fault some)
  where
    faulty : (fault : Option ErrorCode) → IsSome fault → is_some fault ≡ true
    faulty None h = absurd cc
    faulty (Some e) h = refl

-- settings that came stay: the walk goes on in no other state

module _ (s : Settings) where
  continues_with : (f : Option (frames.Frame × ℕ)) (t : Option Settings) (n : ℕ) → step_of_item (control_effect (Some s)) f ≡ Goes t n → t ≡ Some s
  continues_with (Some (frames.Skipped kind, m)) t n e = cc
  continues_with _ t n e = absurd cc

  next_state : (bytes : List ℕ) (t : Option Settings) (n : ℕ) → control_decides (Some s) bytes ≡ Goes t n → t ≡ Some s
  unfolding control_decides
  next_state bytes t n e = continues_with (frames.frame_at frames.session_id_ignored bytes) t n e

  led-kept : (b : ℕ) (xs : List ℕ) → ((stop : Option ControlWalk) (n : ℕ) → (walk control_decides (Some s) stop n xs).state ≡ Some s) →
      (step : Step (Option Settings) ControlWalk) → control_decides (Some s) (b ∷ xs) ≡ step →
      (step_on (record { state = Some s; stop = None; between = false }) (λ t stop n. walk control_decides t stop (n - 1) xs) (Some s) step).state ≡ Some s
  led-kept b xs again Cut e = refl
  led-kept b xs again (Goes t n) e = rw (next_state (b ∷ xs) t n e) (again None (n - 1))
  led-kept b xs again (Stops o n) e = again (Some o) (n - 1)

  kept : (xs : List ℕ) (stop : Option ControlWalk) (n : ℕ) → (walk control_decides (Some s) stop n xs).state ≡ Some s
  kept [] stop (suc n) = refl
  kept (b ∷ xs) stop (suc n) = kept xs stop n
  kept [] stop zero = refl
  kept (b ∷ xs) (Some o) zero = refl
  kept (b ∷ xs) None zero = led-kept b xs (kept xs) (control_decides (Some s) (b ∷ xs)) refl

led-came : (s : Settings) (b : ℕ) (xs ys : List ℕ) →
    ((state : Option Settings) (stop : Option ControlWalk) (n : ℕ) → (walk control_decides state stop n xs).state ≡ Some s → (walk control_decides state stop n (xs ++ ys)).state ≡ Some s) →
    (step : Step (Option Settings) ControlWalk) → control_decides None (b ∷ xs) ≡ step →
    (step_on (record { state = None; stop = None; between = false }) (λ t stop n. walk control_decides t stop (n - 1) xs) None step).state ≡ Some s →
    (step_on (record { state = None; stop = None; between = false }) (λ t stop n. walk control_decides t stop (n - 1) (xs ++ ys)) None (control_decides None (b ∷ xs ++ ys))).state ≡ Some s
led-came s b xs ys again Cut e f = absurd cc
led-came s b xs ys again (Goes t n) e f =
    rw (control-steady.more None (b ∷ xs) ys n (ap (λ d. size_of_step d) e) ∙ e) (again t None (n - 1) f)
led-came s b xs ys again (Stops o n) e f =
    rw (control-steady.more None (b ∷ xs) ys n (ap (λ d. size_of_step d) e) ∙ e) (again None (Some o) (n - 1) f)

has_come : (s : Settings) (xs ys : List ℕ) (state : Option Settings) (stop : Option ControlWalk) (n : ℕ) →
    (walk control_decides state stop n xs).state ≡ Some s → (walk control_decides state stop n (xs ++ ys)).state ≡ Some s
has_come s xs ys (Some t) stop n e = kept t (xs ++ ys) stop n ∙ (sym (kept t xs stop n) ∙ e)
has_come s [] ys None stop (suc n) e = absurd cc
has_come s (b ∷ xs) ys None stop (suc n) e = has_come s xs ys None stop n e
has_come s [] ys None stop zero e = absurd cc
has_come s (b ∷ xs) ys None (Some o) zero e = absurd cc
has_come s (b ∷ xs) ys None None zero e = led-came s b xs ys (has_come s xs ys) (control_decides None (b ∷ xs)) refl e

-- what stops the walk keeps the settings that came
abbrev agrees : Option Settings → Option ControlWalk → Type 0
agrees s None = Unit {0}
agrees s (Some w) = w.settings ≡ s

settings-agree : (n : ℕ) (r : Result Settings ErrorCode) (w : ControlWalk) (m : ℕ) → settings_step n r ≡ Stops w m → w.settings ≡ None
settings-agree n (Ok s) w m e = absurd cc
settings-agree n (Err fault) w m e = cc

skipped-agree : (b : Bool) (n : ℕ) (w : ControlWalk) (m : ℕ) → cond b (control_fault None MissingSettings n) (Goes None n) ≡ Stops w m → w.settings ≡ None
skipped-agree true n w m e = cc
skipped-agree false n w m e = absurd cc

effect-agrees : (s : Option Settings) (f : Option (frames.Frame × ℕ)) (w : ControlWalk) (m : ℕ) → step_of_item (control_effect s) f ≡ Stops w m → w.settings ≡ s
effect-agrees s None w m e = absurd cc
effect-agrees None (Some (frames.Settings payload, n)) w m e = settings-agree n (settings_of payload) w m e
effect-agrees (Some s) (Some (frames.Settings payload, n)) w m e = cc
effect-agrees None (Some (frames.Skipped kind, n)) w m e = skipped-agree (frames.is_exercise kind) n w m e
effect-agrees (Some s) (Some (frames.Skipped kind, n)) w m e = absurd cc
effect-agrees s _ w m e = cc

stop-agrees : (s : Option Settings) (bytes : List ℕ) (w : ControlWalk) (m : ℕ) → control_decides s bytes ≡ Stops w m → w.settings ≡ s
unfolding control_decides
stop-agrees s bytes w m e = effect-agrees s (frames.frame_at frames.session_id_ignored bytes) w m e

led-agrees : (s : Option Settings) (b : ℕ) (xs : List ℕ) →
    ((t : Option Settings) (stop : Option ControlWalk) (n : ℕ) → agrees t stop → agrees (walk control_decides t stop n xs).state (walk control_decides t stop n xs).stop) →
    (step : Step (Option Settings) ControlWalk) → control_decides s (b ∷ xs) ≡ step →
    agrees (step_on (record { state = s; stop = None; between = false }) (λ t stop n. walk control_decides t stop (n - 1) xs) s step).state
    (step_on (record { state = s; stop = None; between = false }) (λ t stop n. walk control_decides t stop (n - 1) xs) s step).stop
led-agrees s b xs again Cut e = tt
led-agrees s b xs again (Goes t n) e = again t None (n - 1) tt
led-agrees s b xs again (Stops w n) e = again s (Some w) (n - 1) (stop-agrees s (b ∷ xs) w n e)

walk-agrees : (xs : List ℕ) (s : Option Settings) (stop : Option ControlWalk) (n : ℕ) → agrees s stop → agrees (walk control_decides s stop n xs).state (walk control_decides s stop n xs).stop
walk-agrees [] s stop (suc n) h = tt
walk-agrees (b ∷ xs) s stop (suc n) h = walk-agrees xs s stop n h
walk-agrees [] s stop zero h = h
walk-agrees (b ∷ xs) s (Some w) zero h = h
walk-agrees (b ∷ xs) s None zero h = led-agrees s b xs (walk-agrees xs) (control_decides s (b ∷ xs)) refl

-- so the outcome has the settings that came
settings-by : (end : StreamEnd) (s : Option Settings) (between : Bool) (stop : Option ControlWalk) → agrees s stop → (unwrap_or stop (control_unfinished end s between)).settings ≡ s
settings-by Running s between None h = refl
settings-by Fin s between None h = refl
settings-by (Reset code) s between None h = refl
settings-by end s between (Some w) h = h

settings-are : (bytes : List ℕ) (end : StreamEnd) → (control_walk_of bytes end).settings ≡ (whole_walk control_decides None bytes).state
unfolding control_walk_of
settings-are bytes end =
    settings-by end (whole_walk control_decides None bytes).state (whole_walk control_decides None bytes).between (whole_walk control_decides None bytes).stop (walk-agrees bytes None None 0 tt)

pub settings_stay : (bytes more : List ℕ) (end later : StreamEnd) (s : Settings) → (control_walk_of bytes end).settings ≡ Some s → (control_walk_of (bytes ++ more) later).settings ≡ Some s
settings_stay bytes more end later s e = settings-are (bytes ++ more) later ∙ has_come s bytes more None None 0 (sym (settings-are bytes end) ∙ e)
