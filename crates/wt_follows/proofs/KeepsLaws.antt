-- What is kept, where critical streams, requests or the fault change, and nothing of windows.
use Rattle.std.proofs.Common.{◌∙◌, ◌≡◌, ◌∷◌, Bool, List, Option, [], ap, false, filter, map, option_map, refl, sym, ℕ}
use Rattle.std.specs.Prelude.{◌%◌, ◌==◌, ◌||◌, not}
use Rattle.wt_follows.specs.Tie.{Keeps, WindowFollows, WindowsFollow, classified_as, have_settings_come, queued_as}
use Rattle.wt_follows.proofs.Gains.{next}
use Rattle.wt_follows.proofs.Logs.{differs}
use Rattle.wt_follows.specs.Roles.{is_living}
use Rattle.wt_kept.specs.Kept.{CriticalNow, DispatchedNow, LiveNow, RequestsNow, WindowNow}
use Rattle.wt_kept.specs.Readers.{ControlReading, Slot}
use Rattle.wt_sessions.specs.DriverState.{DriverState}
use Rattle.wt_sessions.specs.StreamTable.{Admitted, Classified, Dispatched, DriverProgress, Waiting}
use Rattle.wt_wire.specs.declared.error.ErrorCode.{ErrorCode}

-- ---- windows see nothing but streams, datagrams and members

module _ (d e : Dispatched) (streams : e.streams ≡ d.streams) (datagrams : e.datagrams ≡ d.datagrams) (members : (k : ℕ) → e.members k ≡ d.members k) where
  pub window-same : (w : WindowNow) (theirs : ℕ → Bool) → WindowFollows w d theirs → WindowFollows w e theirs
  window-same w theirs h = record {
    streams = h.streams ∙ ap (λ (xs : List Waiting). filter (λ (x : Waiting). theirs x.session) xs) (sym streams);
    datagrams = h.datagrams ∙ ap (λ (xs : List Admitted). map (λ (x : Admitted). record { session = x.session; payload = x.payload }) (filter (λ (x : Admitted). theirs x.session) xs)) (sym datagrams);
  }

  pub windows-same : (xs : List LiveNow) → WindowsFollow xs d → WindowsFollow xs e
  windows-same [] h = tt
  windows-same (x ∷ xs) h = (window-same x.window (λ k. k == x.id) h.0, h.1 ∙ sym (members x.id), windows-same xs h.2)

-- ---- the other parts

module _ (d : DispatchedNow) (s : DriverState) (h : Keeps d s) where
  -- the table with these critical streams and requests
  abbrev pub with_sources : Option (ℕ × ℕ) → Option (ℕ × ℕ) → Option (ℕ × ℕ) → List Classified → List ℕ → Dispatched
  with_sources control encoder decoder requests held = record s.dispatched { control = control; encoder = encoder; decoder = decoder; requests = requests; held = held }

  pub keeps-sources : (critical : CriticalNow) (queue : RequestsNow) (fault : Option ErrorCode) (control encoder decoder : Option (ℕ × ℕ)) (requests : List Classified) (held : List ℕ) (p : DriverProgress)
      → option_map (λ (x : Slot ControlReading). x.id) critical.control ≡ option_map (λ (c : ℕ × ℕ). c.0) control
      → critical.encoder ≡ option_map (λ (c : ℕ × ℕ). c.0) encoder → critical.decoder ≡ option_map (λ (c : ℕ × ℕ). c.0) decoder → have_settings_come critical.control ≡ p.settings
      → map queued_as queue.queued ≡ map classified_as requests → queue.held ≡ held → fault ≡ p.fault
      → Keeps (record d { critical = critical; requests = queue; fault = fault }) (next s (with_sources control encoder decoder requests held) p)
  keeps-sources critical queue fault control encoder decoder requests held p c e f g q r t = record {
    control = c;
    encoder = e;
    decoder = f;
    settings = g;
    queued = q;
    held = r;
    living = h.living;
    windows = windows-same s.dispatched (with_sources control encoder decoder requests held) refl refl (λ k. refl) d.sessions.living h.windows;
    early = window-same s.dispatched (with_sources control encoder decoder requests held) refl refl (λ k. refl) d.sessions.early (λ k. not (s.dispatched.is_established k)) h.early;
    gone = h.gone;
    gone_named = h.gone_named;
    closed = h.closed;
    established = h.established;
    alive = h.alive;
    named = h.named;
    named_streams = h.named_streams;
    named_datagrams = h.named_datagrams;
    unjoined = h.unjoined;
    fault = t;
  }

  -- nothing but the fault and what goes out
  pub keeps-progress : (fault : Option ErrorCode) (p : DriverProgress) → p.settings ≡ s.progress.settings → fault ≡ p.fault → Keeps (record d { fault = fault }) (next s s.dispatched p)
  keeps-progress fault p same f =
      keeps-sources d.critical d.requests fault s.dispatched.control s.dispatched.encoder s.dispatched.decoder s.dispatched.requests s.dispatched.held p
      h.control h.encoder h.decoder (h.settings ∙ sym same) h.queued h.held f

  -- an id that names no session becomes gone
  pub keeps-gone : (k : ℕ) (p : DriverProgress) → ((j : ℕ) → (j % 4) ≡ 0 → (k == j) ≡ false) → ((j : ℕ) → (s.dispatched.is_gone j || k == j) ≡ false → s.dispatched.is_gone j ≡ false)
      → ((j : ℕ) → (k == j) ≡ false → (s.dispatched.is_gone j || k == j) ≡ s.dispatched.is_gone j)
      → is_living s k ≡ false → p.settings ≡ s.progress.settings → d.fault ≡ p.fault → Keeps d (next s (record s.dispatched { is_gone = λ j. s.dispatched.is_gone j || k == j }) p)
  keeps-gone k p none less same dead settings fault = record {
    control = h.control;
    encoder = h.encoder;
    decoder = h.decoder;
    settings = h.settings ∙ sym settings;
    queued = h.queued;
    held = h.held;
    living = h.living;
    windows = windows-same s.dispatched (record s.dispatched { is_gone = λ j. s.dispatched.is_gone j || k == j }) refl refl (λ j. refl) d.sessions.living h.windows;
    early = window-same s.dispatched (record s.dispatched { is_gone = λ j. s.dispatched.is_gone j || k == j }) refl refl (λ j. refl) d.sessions.early (λ j. not (s.dispatched.is_established j)) h.early;
    gone = λ j e. same j (none j e) ∙ h.gone j e;
    gone_named = h.gone_named;
    closed = h.closed;
    established = λ j e. h.established j (less j e);
    alive = λ j e. same j (differs (is_living s) k dead j e) ∙ h.alive j e;
    named = h.named;
    named_streams = h.named_streams;
    named_datagrams = h.named_datagrams;
    unjoined = h.unjoined;
    fault = fault;
  }
