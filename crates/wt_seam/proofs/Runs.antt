-- What a run answers by the reader that is kept is what the definitions say of all bytes.
use Rattle.std.proofs.Common.{subst, ◌≡◌, ℕ, Bool, List, ◌++◌, Option, Some, None, refl, sym, ap, ◌∙◌}
use Rattle.std.specs.Prelude.{unwrap_or}
use Rattle.wt_wire.specs.declared.side.StreamEnd.{StreamEnd}
use Rattle.wt_wire.specs.declared.side.StreamEnd.TheVariants.{Running, Fin, Reset}
use Rattle.wt_message.specs.declared.settings.Settings.{Settings}
use Rattle.wt_proto.specs.declared.control_walk.ControlWalk.{ControlWalk}
use Rattle.wt_proto.specs.declared.session_walk.SessionWalk.{SessionWalk}
use Rattle.wt_proto.specs.ControlWalk.{control_decides, control_unfinished, control_walk_of}
use Rattle.wt_proto.specs.SessionWalk.{session_walk_of}
use Rattle.wt_proto.specs.SessionReader.{SessionReader, session_said}
use Rattle.wt_proto.specs.WalkProgress.{WalkProgress, Reading, progress_over, reached_in, read_on}
use Rattle.wt_proto.specs.Reading.{outcome_in}
use Rattle.wt_proto.specs.Walk.{Reached, outcome_at, whole_walk}
use Rattle.wt_proto.proofs.ControlReading.{control_lawful}
use Rattle.wt_proto.proofs.ProgressLaws.{walk-progress}
use Rattle.wt_turn.specs.declared.driver_error.DriverError.{DriverError}
use Rattle.wt_turn.specs.declared.poll.Poll.{Poll}
use Rattle.wt_transport.specs.State.{TransportState}
use Rattle.wt_transport.specs.Step.{end_now, unread_now}
use Rattle.wt_seam.specs.Critical.{RemoteUni, SessionStream, Watched, control_answer, control_after_run, control_shows, session_answer, session_bytes, session_after_run, session_read_on, session_shows, shown_by_fault, shown_by_walk, shown_or_ended, uni_bytes}
use Rattle.wt_seam.specs.ReadingAll.{SessionWasRead, WasRead}
use Rattle.wt_seam.proofs.ReadOn.{was-read-more, was-read-outcome}
use Rattle.wt_seam.proofs.SessionReadOn.{session-more, session-outcome}

-- ---- the peer's control stream

abbrev pub ControlWatched : Type 0
ControlWatched = Watched RemoteUni (Reading (Option Settings) ControlWalk)

abbrev pub ControlReading : Type 0
ControlReading = Reading (Option Settings) ControlWalk

module _ (old : ControlWatched) (o : Option RemoteUni) (s : RemoteUni) (r : ControlReading) (t : TransportState) (view : record { stream = o; reading = r } ≡ old) (is : o ≡ Some s) (id : ℕ) (its : id ≡ s.halves.id) where
  stream : old.stream ≡ Some s
  stream = ap (λ (w : ControlWatched). w.stream) (sym view) ∙ is

  was-inside : (bytes : List ℕ) → WasRead control_decides None old.reading bytes → WasRead control_decides None r bytes
  was-inside bytes was = ap (λ (w : ControlWatched). w.reading.progress) view ∙ was

  pub control-reported : (is_open : Bool) → is_open ≡ t.is_open → (shown : Option DriverError) → shown ≡ shown_by_fault (outcome_in control_unfinished (read_on control_decides r (unread_now t id) (end_now t id))).fault
      → (result : Poll DriverError) → result ≡ shown_or_ended is_open shown → (bytes : List ℕ) → WasRead control_decides None old.reading bytes → result ≡ control_answer old.stream t bytes
  control-reported is_open open_is shown shown_is result result_is bytes was =
      result_is
      ∙ (ap (λ b. shown_or_ended b shown) open_is
      ∙ (ap (λ x. shown_or_ended t.is_open x) shown_is
      ∙ (ap (λ (w : ControlWalk). shown_or_ended t.is_open (shown_by_fault w.fault))
      (was-read-outcome control_decides control_lawful.steady None r bytes (was-inside bytes was) control_unfinished control_walk_of control_lawful.reaches (unread_now t id) (end_now t id))
      ∙ (ap (λ k. shown_or_ended t.is_open (shown_by_fault (control_walk_of (bytes ++ unread_now t k) (end_now t k)).fault)) its
      ∙ ap (λ (x : Option RemoteUni). control_answer x t bytes) (sym stream)))))

  pub control-goes-on : (new : ControlReading) → new ≡ read_on control_decides r (unread_now t id) (end_now t id)
      → (bytes : List ℕ) → WasRead control_decides None old.reading bytes → WasRead control_decides None new (uni_bytes old.stream t bytes)
  control-goes-on new new_is bytes was =
      ap (λ (w : ControlReading). w.progress) new_is
      ∙ (was-read-more control_decides control_lawful.steady None r bytes (was-inside bytes was) (unread_now t id) (end_now t id)
      ∙ ap (λ (xs : List ℕ). progress_over control_decides None None 0 xs)
      (ap (λ k. bytes ++ unread_now t k) its ∙ ap (λ (x : Option RemoteUni). uni_bytes x t bytes) (sym stream)))

  pub control-reading : (new : ControlReading) → new ≡ read_on control_decides r (unread_now t id) (end_now t id) → new ≡ control_after_run old.stream t old.reading
  control-reading new new_is =
      new_is
      ∙ (ap (λ k. read_on control_decides r (unread_now t k) (end_now t k)) its
      ∙ (ap (λ (x : Option RemoteUni). control_after_run x t r) (sym stream)
      ∙ ap (λ (w : ControlWatched). control_after_run old.stream t w.reading) view))

  pub control-now : (is_open : Bool) → is_open ≡ t.is_open → (shown : Option DriverError) → shown ≡ shown_by_fault (outcome_in control_unfinished (read_on control_decides r (unread_now t id) (end_now t id))).fault
      → (result : Poll DriverError) → result ≡ shown_or_ended is_open shown → result ≡ control_shows old.stream t.is_open (control_after_run old.stream t old.reading)
  control-now is_open open_is shown shown_is result result_is =
      result_is
      ∙ (ap (λ b. shown_or_ended b shown) open_is
      ∙ (ap (λ x. shown_or_ended t.is_open x) shown_is
      ∙ (ap (λ (x : ControlReading). control_shows (Some s) t.is_open x) (control-reading (read_on control_decides r (unread_now t id) (end_now t id)) refl)
      ∙ ap (λ (x : Option RemoteUni). control_shows x t.is_open (control_after_run old.stream t old.reading)) (sym stream))))

-- an end changes no settings
settings-at : (stop : Option ControlWalk) (end : StreamEnd) (settings : Option Settings) (between : Bool) → (unwrap_or stop (control_unfinished end settings between)).settings ≡ (unwrap_or stop (control_unfinished Running settings between)).settings
settings-at (Some walk) end settings between = refl
settings-at None Running settings between = refl
settings-at None Fin settings between = refl
settings-at None (Reset code) settings between = refl

pub settings_read : (r : Reading (Option Settings) ControlWalk) (bytes : List ℕ) → WasRead control_decides None r bytes → (outcome_in control_unfinished r).settings ≡ (control_walk_of bytes Running).settings
settings_read r bytes was =
    let offset : Reached (Option Settings) ControlWalk = whole_walk control_decides None bytes in
    ap (λ (p : WalkProgress (Option Settings) ControlWalk). (outcome_at control_unfinished r.end (reached_in p)).settings) was
    ∙ (ap (λ (x : Reached (Option Settings) ControlWalk). (outcome_at control_unfinished r.end x).settings) (sym (walk-progress control_decides bytes None None 0))
    ∙ (settings-at offset.stop r.end offset.state offset.between
    ∙ ap (λ (w : ControlWalk). w.settings) (sym (control_lawful.reaches bytes Running))))

-- ---- a session's stream

abbrev pub SessionWatched : Type 0
SessionWatched = Watched SessionStream SessionReader

module _ (old : SessionWatched) (o : Option SessionStream) (s : SessionStream) (r : SessionReader) (t : TransportState) (view : record { stream = o; reading = r } ≡ old) (is : o ≡ Some s) (id : ℕ) (its : id ≡ s.halves.0.id) where
  session-set : old.stream ≡ Some s
  session-set = ap (λ (w : SessionWatched). w.stream) (sym view) ∙ is

  session-inside : (bytes : List ℕ) → SessionWasRead old.reading bytes → SessionWasRead r bytes
  session-inside bytes was = subst (λ (w : SessionWatched). SessionWasRead w.reading bytes) (sym view) was

  pub session-reported : (is_open : Bool) → is_open ≡ t.is_open → (shown : Option DriverError) → shown ≡ shown_by_walk (session_said (session_read_on r (unread_now t id) (end_now t id)))
      → (result : Poll DriverError) → result ≡ shown_or_ended is_open shown → (bytes : List ℕ) → SessionWasRead old.reading bytes → result ≡ session_answer old.stream t bytes
  session-reported is_open open_is shown shown_is result result_is bytes was =
      result_is
      ∙ (ap (λ b. shown_or_ended b shown) open_is
      ∙ (ap (λ x. shown_or_ended t.is_open x) shown_is
      ∙ (ap (λ (w : SessionWalk). shown_or_ended t.is_open (shown_by_walk w)) (session-outcome r bytes (session-inside bytes was) (unread_now t id) (end_now t id))
      ∙ (ap (λ k. shown_or_ended t.is_open (shown_by_walk (session_walk_of (bytes ++ unread_now t k) (end_now t k)))) its
      ∙ ap (λ (x : Option SessionStream). session_answer x t bytes) (sym session-set)))))

  pub session-goes-on : (new : SessionReader) → new ≡ session_read_on r (unread_now t id) (end_now t id)
      → (bytes : List ℕ) → SessionWasRead old.reading bytes → SessionWasRead new (session_bytes old.stream t bytes)
  session-goes-on new new_is bytes was =
      let here : bytes ++ unread_now t id ≡ session_bytes old.stream t bytes = ap (λ k. bytes ++ unread_now t k) its ∙ ap (λ (x : Option SessionStream). session_bytes x t bytes) (sym session-set) in
      subst (λ (xs : List ℕ). SessionWasRead new xs) here
      (subst (λ (q : SessionReader). SessionWasRead q (bytes ++ unread_now t id)) (sym new_is) (session-more r bytes (session-inside bytes was) (unread_now t id) (end_now t id)))

  pub session-reading : (new : SessionReader) → new ≡ session_read_on r (unread_now t id) (end_now t id) → new ≡ session_after_run old.stream t old.reading
  session-reading new new_is =
      new_is
      ∙ (ap (λ k. session_read_on r (unread_now t k) (end_now t k)) its
      ∙ (ap (λ (x : Option SessionStream). session_after_run x t r) (sym session-set)
      ∙ ap (λ (w : SessionWatched). session_after_run old.stream t w.reading) view))

  pub session-now : (is_open : Bool) → is_open ≡ t.is_open → (shown : Option DriverError) → shown ≡ shown_by_walk (session_said (session_read_on r (unread_now t id) (end_now t id)))
      → (result : Poll DriverError) → result ≡ shown_or_ended is_open shown → result ≡ session_shows old.stream t.is_open (session_after_run old.stream t old.reading)
  session-now is_open open_is shown shown_is result result_is =
      result_is
      ∙ (ap (λ b. shown_or_ended b shown) open_is
      ∙ (ap (λ x. shown_or_ended t.is_open x) shown_is
      ∙ (ap (λ (x : SessionReader). session_shows (Some s) t.is_open x) (session-reading (session_read_on r (unread_now t id) (end_now t id)) refl)
      ∙ ap (λ (x : Option SessionStream). session_shows x t.is_open (session_after_run old.stream t old.reading)) (sym session-set))))
