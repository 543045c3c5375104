-- SETTINGS that came stay, and none come with the byte that makes a fault.
use Rattle.std.proofs.Common.{◌∙◌, ◌≡◌, ◌≤◌, ◌<◌, ◌-◌, ◌++◌, ◌∷◌, Bool, Err, IfSome, List, None, Ok, Option, Result, Some, [], ap, arith, false, inl, inr, is_some, length, refl, suc, sym, true, zero, ℕ}
use Rattle.std.proofs.lemmas.Bool.{cases_lt}
use Rattle.std.proofs.lemmas.List.{length-append}
use Rattle.std.specs.Prelude.{if◌then◌else◌, unwrap_or}
use Rattle.wt_message.specs.Settings.{settings_of}
use Rattle.wt_message.specs.declared.settings.Settings.{Settings}
use Rattle.wt_proto.proofs.ControlReading.{control_lawful}
use Rattle.wt_proto.proofs.ProgressLaws.{fed-append, progress-cut, progress-goes, progress-stops, walk-progress}
use Rattle.wt_proto.proofs.ReadingLaws.{progress-stop}
use Rattle.wt_proto.specs.ControlWalk.{control_decides, control_effect, control_fault, control_unfinished, control_walk_of, on_settings, on_skipped, settings_step}
use Rattle.wt_proto.specs.FrameSteps.{step_of_item}
use Rattle.wt_proto.specs.Steady.{IsSteady, size_of_step}
use Rattle.wt_proto.specs.Walk.{Reached, outcome_at, step_on}
use Rattle.wt_proto.specs.WalkProgress.{IsProper, WalkProgress, progress_after, progress_over, reached_at, reached_in}
use Rattle.wt_proto.specs.declared.control_walk.ControlWalk.{ControlWalk}
use Rattle.wt_proto.specs.declared.walk.Step.{Step}
use Rattle.wt_proto.specs.declared.walk.Step.TheVariants.{Cut, Goes, Stops}
use Rattle.wt_proto.proofs.SessionReaderLaws.{progress-proper}
use Rattle.wt_wire.specs.Frames as frames
use Rattle.wt_wire.specs.declared.error.ErrorCode.{ErrorCode}
use Rattle.wt_wire.specs.declared.error.ErrorCode.TheVariants.{ExcessiveLoad, FrameUnexpected, MissingSettings}
use Rattle.wt_wire.specs.declared.side.StreamEnd.TheVariants.{Running}

-- ---- any walk

module _ {S O : Type 0} (decide : S → List ℕ → Step S O) (steady : IsSteady decide) where
  -- what was kept decided nothing, so an item takes the next byte too
  long : (s : S) (kept : List ℕ) (b : ℕ) → decide s kept ≡ Cut → (m : ℕ) → size_of_step (decide s (kept ++ b ∷ [])) ≡ Some m → length (kept ++ b ∷ []) ≤ m
  long s kept b waits m e =
      elim (cases_lt (length kept) m) [
        | inl lt ↦ omega (arith, lt, length-append kept (b ∷ []))
        | inr le ↦
            let same = steady.front s kept (b ∷ []) m e le in
            let none : size_of_step (decide s kept) ≡ Some m = ap (λ d. size_of_step d) same ∙ e in
            absurd (let cut = ap (λ d. size_of_step d) waits in cc)
      ]

  -- the byte with which a walk stops leaves the state
  by-step : (s : S) (xs : List ℕ) (o : O) (d : Step S O) → decide s xs ≡ d → ((m : ℕ) → size_of_step d ≡ Some m → length xs ≤ m) → (reached_in (progress_over decide s None 0 xs)).stop ≡ Some o
      → (progress_over decide s None 0 xs).state ≡ s
  by-step s xs o Cut e le stops = ap (λ (p : WalkProgress S O). p.state) (progress-cut decide s xs e)
  by-step s xs o (Stops w n) e le stops = ap (λ (p : WalkProgress S O). p.state) (progress-stops decide steady s w n xs e (le n refl))
  by-step s xs o (Goes t n) e le stops =
      absurd (not-stopped (n - length xs) (sym (ap (λ (p : WalkProgress S O). (reached_in p).stop) (progress-goes decide steady s t n xs e (le n refl))) ∙ stops))
    where
      not-stopped : (m : ℕ) → (reached_at {S = S} {O = O} t None m []).stop ≡ Some o → ⊥
      not-stopped zero f = cc
      not-stopped (suc m) f = cc

  stops-at : (s : S) (stop : Option O) (skip : ℕ) (kept : List ℕ) (b : ℕ) (o : O) → decide s kept ≡ Cut → (0 < length kept → (skip ≡ 0) × (stop ≡ None)) → (reached_at s stop skip kept).stop ≡ None
      → (reached_in (progress_over decide s stop skip (kept ++ b ∷ []))).stop ≡ Some o → (progress_over decide s stop skip (kept ++ b ∷ [])).state ≡ s
  stops-at s stop (suc skip) (x ∷ kept) b o waits idle open_ stops = absurd (let none = (idle (omega arith)).0 in omega (arith, none))
  stops-at s stop (suc zero) [] b o waits idle open_ stops = refl
  stops-at s stop (suc (suc skip)) [] b o waits idle open_ stops = refl
  stops-at s (Some w) zero [] b o waits idle open_ stops = absurd cc
  stops-at s (Some w) zero (x ∷ kept) b o waits idle open_ stops = absurd (let none = (idle (omega arith)).1 in cc)
  stops-at s None zero kept b o waits idle open_ stops = by-step s (kept ++ b ∷ []) o (decide s (kept ++ b ∷ [])) refl (long s kept b waits) stops

  pub stop-keeps : (start : S) (xs : List ℕ) (b : ℕ) (o : O) → (reached_in (progress_over decide start None 0 xs)).stop ≡ None → (reached_in (progress_over decide start None 0 (xs ++ b ∷ []))).stop ≡ Some o
      → (progress_over decide start None 0 (xs ++ b ∷ [])).state ≡ (progress_over decide start None 0 xs).state
  stop-keeps start xs b o open_ stops =
      let p : WalkProgress S O = progress_over decide start None 0 xs in
      let proper : IsProper decide p = progress-proper decide steady xs start None 0 in
      let more : progress_after decide p (b ∷ []) ≡ progress_over decide start None 0 (xs ++ b ∷ []) = fed-append decide steady xs (b ∷ []) start None 0 in
      ap (λ (q : WalkProgress S O). q.state) (sym more)
      ∙ stops-at p.state p.stop p.skip p.kept b o proper.waits proper.idle open_ (ap (λ (q : WalkProgress S O). (reached_in q).stop) more ∙ stops)

-- ---- the control stream's

-- a step that is a fault with these settings
with-settings : (step : Step (Option Settings) ControlWalk) (s : Option Settings) (code : ErrorCode) (m : ℕ) (o : ControlWalk) (n : ℕ) → step ≡ control_fault s code m → step ≡ Stops o n → o.settings ≡ s
with-settings step s code m o n e f = ap (λ (w : ControlWalk). w.settings) (sym (let same : record { settings = s; fault = Some code } ≡ o = same-outcome e f in same))
  where
    same-outcome : {d : Step (Option Settings) ControlWalk} {w v : ControlWalk} {i j : ℕ} → d ≡ Stops w i → d ≡ Stops v j → w ≡ v
    same-outcome g h = cc

settings-stop : (m : ℕ) (r : Result Settings ErrorCode) (o : ControlWalk) (n : ℕ) → settings_step m r ≡ Stops o n → o.settings ≡ None
settings-stop m (Ok settings) o n e = absurd cc
settings-stop m (Err code) o n e = with-settings (settings_step m (Err code)) None code m o n refl e

on-settings-stop : (s : Option Settings) (m : ℕ) (payload : List ℕ) (o : ControlWalk) (n : ℕ) → on_settings s m payload ≡ Stops o n → o.settings ≡ s
on-settings-stop None m payload o n e = settings-stop m (settings_of payload) o n e
on-settings-stop (Some s) m payload o n e = with-settings (on_settings (Some s) m payload) (Some s) FrameUnexpected m o n refl e

on-skipped-stop : (s : Option Settings) (m kind : ℕ) (o : ControlWalk) (n : ℕ) → on_skipped s m kind ≡ Stops o n → o.settings ≡ s
on-skipped-stop None m kind o n e = by (frames.is_exercise kind) e
  where
    by : (b : Bool) → (if b then control_fault None MissingSettings m else Goes None m) ≡ Stops o n → o.settings ≡ None
    by true f = with-settings (control_fault None MissingSettings m) None MissingSettings m o n refl f
    by false f = absurd cc
on-skipped-stop (Some s) m kind o n e = absurd cc

stops-with : (s : Option Settings) (f : Option (frames.Frame × ℕ)) (o : ControlWalk) (n : ℕ) → step_of_item (control_effect s) f ≡ Stops o n → o.settings ≡ s
stops-with s None o n e = absurd cc
stops-with s (Some (frames.Data payload, m)) o n e = with-settings (control_fault s FrameUnexpected m) s FrameUnexpected m o n refl e
stops-with s (Some (frames.Headers payload, m)) o n e = with-settings (control_fault s FrameUnexpected m) s FrameUnexpected m o n refl e
stops-with s (Some (frames.Settings payload, m)) o n e = on-settings-stop s m payload o n e
stops-with s (Some (frames.TooLong, m)) o n e = with-settings (control_fault s ExcessiveLoad m) s ExcessiveLoad m o n refl e
stops-with s (Some (frames.Signal id, m)) o n e = with-settings (control_fault s FrameUnexpected m) s FrameUnexpected m o n refl e
stops-with s (Some (frames.Skipped kind, m)) o n e = on-skipped-stop s m kind o n e

goes-with : (s : Settings) (f : Option (frames.Frame × ℕ)) (t : Option Settings) (n : ℕ) → step_of_item (control_effect (Some s)) f ≡ Goes t n → is_some t ≡ true
goes-with s None t n e = absurd cc
goes-with s (Some (frames.Data payload, m)) t n e = absurd cc
goes-with s (Some (frames.Headers payload, m)) t n e = absurd cc
goes-with s (Some (frames.Settings payload, m)) t n e = absurd cc
goes-with s (Some (frames.TooLong, m)) t n e = absurd cc
goes-with s (Some (frames.Signal id, m)) t n e = absurd cc
goes-with s (Some (frames.Skipped kind, m)) t n e = ap is_some (sym (let same : Some s ≡ t = cc in same))

decided-stop : (s : Option Settings) (bytes : List ℕ) (o : ControlWalk) (n : ℕ) → control_decides s bytes ≡ Stops o n → o.settings ≡ s
unfolding control_decides
decided-stop s bytes o n e = stops-with s (frames.frame_at frames.session_id_ignored bytes) o n e

decided-goes : (s : Option Settings) (bytes : List ℕ) (t : Option Settings) (n : ℕ) → control_decides s bytes ≡ Goes t n → is_some s ≡ true → is_some t ≡ true
unfolding control_decides
decided-goes None bytes t n e some = absurd cc
decided-goes (Some s) bytes t n e some = goes-with s (frames.frame_at frames.session_id_ignored bytes) t n e

abbrev Over : Option Settings → Option ControlWalk → ℕ → List ℕ → WalkProgress (Option Settings) ControlWalk
Over s stop n xs = progress_over control_decides s stop n xs

-- what stopped it has the settings of its state
abbrev StopHas : WalkProgress (Option Settings) ControlWalk → Type 0
StopHas p = IfSome p.stop (λ o. o.settings ≡ p.state)

led-stop : (s : Option Settings) (b : ℕ) (xs : List ℕ) → ((t : Option Settings) (stop : Option ControlWalk) (n : ℕ) → IfSome stop (λ o. o.settings ≡ t) → StopHas (Over t stop n xs)) → (d : Step (Option Settings) ControlWalk) → control_decides s (b ∷ xs) ≡ d
    → StopHas (step_on (record { state = s; stop = None; skip = 0; kept = b ∷ xs }) (λ t stop n. Over t stop (n - 1) xs) s d)
led-stop s b xs again Cut e = tt
led-stop s b xs again (Goes t n) e = again t None (n - 1) tt
led-stop s b xs again (Stops o n) e = again s (Some o) (n - 1) (decided-stop s (b ∷ xs) o n e)

over-stop : (xs : List ℕ) (s : Option Settings) (stop : Option ControlWalk) (n : ℕ) → IfSome stop (λ o. o.settings ≡ s) → StopHas (Over s stop n xs)
over-stop [] s stop (suc n) h = h
over-stop (b ∷ xs) s stop (suc n) h = over-stop xs s stop n h
over-stop [] s stop zero h = h
over-stop (b ∷ xs) s (Some o) zero h = h
over-stop (b ∷ xs) s None zero h = led-stop s b xs (over-stop xs) (control_decides s (b ∷ xs)) refl

led-state : (s : Option Settings) (b : ℕ) (xs : List ℕ) → is_some s ≡ true → ((t : Option Settings) (stop : Option ControlWalk) (n : ℕ) → is_some t ≡ true → is_some (Over t stop n xs).state ≡ true) → (d : Step (Option Settings) ControlWalk) → control_decides s (b ∷ xs) ≡ d
    → is_some (step_on (record { state = s; stop = None; skip = 0; kept = b ∷ xs }) (λ t stop n. Over t stop (n - 1) xs) s d).state ≡ true
led-state s b xs h again Cut e = h
led-state s b xs h again (Goes t n) e = again t None (n - 1) (decided-goes s (b ∷ xs) t n e h)
led-state s b xs h again (Stops o n) e = again s (Some o) (n - 1) h

over-state : (xs : List ℕ) (s : Option Settings) (stop : Option ControlWalk) (n : ℕ) → is_some s ≡ true → is_some (Over s stop n xs).state ≡ true
over-state [] s stop (suc n) h = h
over-state (b ∷ xs) s stop (suc n) h = over-state xs s stop n h
over-state [] s stop zero h = h
over-state (b ∷ xs) s (Some o) zero h = h
over-state (b ∷ xs) s None zero h = led-state s b xs h (over-state xs) (control_decides s (b ∷ xs)) refl

abbrev reached : List ℕ → WalkProgress (Option Settings) ControlWalk
reached bytes = Over None None 0 bytes

reached-stop : (s : Option Settings) (stop : Option ControlWalk) (n : ℕ) (kept : List ℕ) → IfSome stop (λ o. o.settings ≡ s) → IfSome (reached_at s stop n kept).stop (λ o. o.settings ≡ s)
reached-stop s stop (suc n) kept h = tt
reached-stop s stop zero (b ∷ kept) h = tt
reached-stop s stop zero [] h = h

reached-state : {S O : Type 0} (s : S) (stop : Option O) (n : ℕ) (kept : List ℕ) → (reached_at s stop n kept).state ≡ s
reached-state s stop (suc n) kept = refl
reached-state s stop zero (b ∷ kept) = refl
reached-state s stop zero [] = refl

said-settings : (s : Option Settings) (b : Bool) (o : Option ControlWalk) → IfSome o (λ w. w.settings ≡ s) → (unwrap_or o (control_unfinished Running s b)).settings ≡ s
said-settings s b None h = refl
said-settings s b (Some w) h = h

walk-is : (bytes : List ℕ) → control_walk_of bytes Running ≡ outcome_at control_unfinished Running (reached_in (reached bytes))
walk-is bytes = control_lawful.reaches bytes Running ∙ ap (λ (r : Reached (Option Settings) ControlWalk). outcome_at control_unfinished Running r) (walk-progress control_decides bytes None None 0)

-- the settings that came are those of the state
pub settings-are : (bytes : List ℕ) → (control_walk_of bytes Running).settings ≡ (reached bytes).state
settings-are bytes =
    let p : WalkProgress (Option Settings) ControlWalk = reached bytes in
    ap (λ (w : ControlWalk). w.settings) (walk-is bytes)
    ∙ ((λ i. (unwrap_or (reached_in p).stop (control_unfinished Running (reached-state p.state p.stop p.skip p.kept i) (reached_in p).between)).settings)
    ∙ said-settings p.state (reached_in p).between (reached_in p).stop (reached-stop p.state p.stop p.skip p.kept (over-stop bytes None None 0 tt)))

-- once SETTINGS came, they did after more bytes
pub settings-rise : (xs ys : List ℕ) → is_some (control_walk_of xs Running).settings ≡ true → is_some (control_walk_of (xs ++ ys) Running).settings ≡ true
settings-rise xs ys e =
    let p : WalkProgress (Option Settings) ControlWalk = reached xs in
    ap is_some (settings-are (xs ++ ys) ∙ ap (λ (q : WalkProgress (Option Settings) ControlWalk). q.state) (sym (fed-append control_decides control_lawful.steady xs ys None None 0)))
    ∙ over-state (p.kept ++ ys) p.state p.stop p.skip (ap is_some (sym (settings-are xs)) ∙ e)

-- what a fault says stopped the walk, and where there is none nothing did
fault-stopped : (b : Bool) (s : Option Settings) (o : Option ControlWalk) → is_some (unwrap_or o (control_unfinished Running s b)).fault ≡ true → is_some o ≡ true
fault-stopped b s None e = absurd cc
fault-stopped b s (Some w) e = refl

fault-open : (b : Bool) (s : Option Settings) (o : Option ControlWalk) → IfSome o (λ w. is_some w.fault ≡ true) → is_some (unwrap_or o (control_unfinished Running s b)).fault ≡ false → o ≡ None
fault-open b s None h e = refl
fault-open b s (Some w) h e = absurd cc

stop-faulty : (s : Option Settings) (stop : Option ControlWalk) (n : ℕ) (kept : List ℕ) → IfSome stop (λ o. is_some o.fault ≡ true) → IfSome (reached_at s stop n kept).stop (λ o. is_some o.fault ≡ true)
stop-faulty s stop (suc n) kept h = tt
stop-faulty s stop zero (b ∷ kept) h = tt
stop-faulty s stop zero [] h = h

-- no SETTINGS come with the byte that makes a fault
pub settings-stay : (xs : List ℕ) (b : ℕ) → is_some (control_walk_of xs Running).fault ≡ false → is_some (control_walk_of (xs ++ b ∷ []) Running).fault ≡ true
    → (control_walk_of (xs ++ b ∷ []) Running).settings ≡ (control_walk_of xs Running).settings
settings-stay xs b open_ over =
    settings-are (xs ++ b ∷ []) ∙ (by (reached_in (reached (xs ++ b ∷ []))).stop refl ∙ sym (settings-are xs))
  where
    nothing : (reached_in (reached xs)).stop ≡ None
    nothing =
        let p : WalkProgress (Option Settings) ControlWalk = reached xs in
        fault-open (reached_in p).between (reached_in p).state (reached_in p).stop
        (stop-faulty p.state p.stop p.skip p.kept (progress-stop control_decides (λ o. is_some o.fault ≡ true) (λ s bytes o n e. control_lawful.stops s bytes o n e) xs None None 0 tt))
        (ap (λ (w : ControlWalk). is_some w.fault) (sym (walk-is xs)) ∙ open_)

    by : (o : Option ControlWalk) → (reached_in (reached (xs ++ b ∷ []))).stop ≡ o → (reached (xs ++ b ∷ [])).state ≡ (reached xs).state
    by (Some w) e = stop-keeps control_decides control_lawful.steady None xs b w nothing e
    by None e =
        absurd (let p : WalkProgress (Option Settings) ControlWalk = reached (xs ++ b ∷ []) in
        let stopped = fault-stopped (reached_in p).between (reached_in p).state (reached_in p).stop (ap (λ (w : ControlWalk). is_some w.fault) (sym (walk-is (xs ++ b ∷ []))) ∙ over) in
        let none = ap is_some e in cc)
