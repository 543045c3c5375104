-- The fault of a pass over all checks is the first that is looked for, and SETTINGS come where nothing before them is a fault.
use Rattle.std.specs.Prelude.{[], ◌&&◌, ◌++◌, ◌==◌, ◌∷◌, ◌||◌, ◌≡◌, Bool, Err, List, None, Ok, Option, Result, Some, drop, false, filter_map, if◌then◌else◌, is_none, is_some, length, map, nat_le, not, true, unwrap_or, ℕ}
use Rattle.std.specs.List.{list_all, list_any}
use Rattle.std.specs.Option.{option_or}
use Rattle.std.proofs.Common.{◌∙◌, ap, refl, subst, sym}
use Rattle.std.proofs.lemmas.Bool.{eq-eqb, eqb-true}
use Rattle.std.proofs.lemmas.List.{append-nil}
use Rattle.std.proofs.lemmas.List.Folds.{list_any-append}
use Rattle.wt_meaning.specs.Findings.{Faulted, Finding, SessionClosed, SettingsRead, control_in, decoder_in, encoder_in, fault_in, fault_of, first_of, reads_settings, settings_came}
use Rattle.wt_meaning.specs.History.{History, contents, events}
use Rattle.wt_meaning.specs.Moments.{Check, Classify, ControlFault, DecoderEnd, Dequeue, EncoderEnd, LocalStop, ReadDatagram, ReadSettings, WalkSession, after_checks, closing, control_walk, datagram_found, end_fault, fault_if, found_by, session_found}
use Rattle.wt_proto.specs.SessionWalk.{is_over, session_walk_of}
use Rattle.wt_meaning.specs.Windows.{after_request, after_response, is_established, is_gone_by_call, lives, makes_gone, session_part}
use Rattle.wt_message.specs.Datagram.{datagram_of}
use Rattle.wt_promise.proofs.Grows.{first_of-append}
use Rattle.wt_promise.proofs.HeaderFaults.{NoHeaders, no-headers, some-count, of-streams, same-faults}
use Rattle.wt_promise.proofs.MomentActs.{lives-before}
use Rattle.wt_promise.proofs.Passes.{each-keeps, goes-on, is-of, looks-at, option-none, same-shown, stopped, touches-not}
use Rattle.wt_promise.specs.Found.{code_if, early_fault, ended_fault, first_fault, session_walk, sessions_fault, walk_fault}
use Rattle.wt_proto.specs.ResponseWalk.{response_walk_of}
use Rattle.wt_proto.specs.declared.session_walk.SessionWalk.{SessionWalk}
use Rattle.wt_proto.specs.declared.verdict.Verdict.{Verdict}
use Rattle.wt_turn.specs.Reports.{end_of, is_running, stop_of}
use Rattle.wt_turn.specs.Streams.{local_uni}
use Rattle.wt_wire.specs.declared.error.ErrorCode.{ErrorCode}
use Rattle.wt_wire.specs.declared.side.Side.{Side}
use Rattle.wt_proto.specs.declared.session_walk.SessionWalk.TheVariants as walks
use Rattle.wt_wire.specs.declared.error.ErrorCode.TheVariants as h3
use Rattle.wt_wire.specs.declared.side.StreamEnd.TheVariants as ends

-- ---- sessions

module _ (side : Side) (h : History) where
  -- the fault of a session that lives
  abbrev pub item : List Finding → ℕ → Option ErrorCode
  item found s = if lives h found s then walk_fault (session_walk h found s) else None

  walk-same : (found new : List Finding) (t : ℕ) → list_any (is-of t) new ≡ false → session_walk h (found ++ new) t ≡ session_walk h found t
  walk-same found new t e =
      ap (λ (v : Option Verdict). session_walk_of (drop (unwrap_or (after_request v) (after_response (response_walk_of (contents h t) (end_of (events h) t)))) (contents h t)) (end_of (events h) t)) (same-shown found new t e)

  lives-same : (found new : List Finding) (t : ℕ) → list_any (makes_gone t) new ≡ false → lives h (found ++ new) t ≡ lives h found t
  lives-same found new t e = ap (λ (b : Bool). is_established h t && not (is_gone_by_call h t || b)) (list_any-append (makes_gone t) found new ∙ ap (λ (b : Bool). list_any (makes_gone t) found || b) e ∙ or-false (list_any (makes_gone t) found))
    where
      or-false : (b : Bool) → (b || false) ≡ b
      or-false true = refl
      or-false false = refl

  item-calm : (found new : List Finding) (t : ℕ) → list_any (is-of t) new ≡ false → list_any (makes_gone t) new ≡ false → item (found ++ new) t ≡ item found t
  item-calm found new t e f = rw (lives-same found new t f, walk-same found new t e) refl

  -- a session that was closed lives no more
  closed-dies : (found : List Finding) (s code : ℕ) (reason : List ℕ) (b : Bool) → lives h (found ++ SessionClosed s code reason b ∷ []) s ≡ false
  closed-dies found s code reason b = ap (λ (x : Bool). is_established h s && not (is_gone_by_call h s || x)) (list_any-append (makes_gone s) found (SessionClosed s code reason b ∷ []) ∙ ap (λ (x : Bool). list_any (makes_gone s) found || (x || false)) (eq-eqb s s refl) ∙ or-true (list_any (makes_gone s) found))
      ∙ gone (is_established h s) (is_gone_by_call h s)
    where
      or-true : (x : Bool) → (x || true) ≡ true
      or-true true = refl
      or-true false = refl

      gone : (x y : Bool) → (x && not (y || true)) ≡ false
      gone true true = refl
      gone true false = refl
      gone false y = refl

  item-closing : (found : List Finding) (s t : ℕ) → item (found ++ closing h found s) t ≡ item found t
  item-closing found s t = by (lives h found s) (session_walk h found s) (is_over (session_walk_of (session_part h found s) ends.Running)) refl refl
    where
      nil : item (found ++ []) t ≡ item found t
      nil = ap (λ (f : List Finding). item f t) (append-nil found)

      by : (l : Bool) (w : SessionWalk) (b : Bool) → lives h found s ≡ l → session_walk h found s ≡ w → item (found ++ (if l then session_found s b w else [])) t ≡ item found t
      by false w b e f = nil
      by true walks.Running b e f = nil
      by true (walks.Fault code) b e f = item-calm found (Faulted code ∷ []) t refl refl
      by true (walks.Closed code reason) b e f = of (s == t) refl
        where
          of : (x : Bool) → (s == t) ≡ x → item (found ++ SessionClosed s code reason b ∷ []) t ≡ item found t
          of false q = item-calm found (SessionClosed s code reason b ∷ []) t refl (rw q refl)
          of true q =
              let i : s ≡ t = eqb-true s t q in
              ap (λ (x : Bool). if x then walk_fault (session_walk h (found ++ SessionClosed s code reason b ∷ []) t) else None) (ap (lives h (found ++ SessionClosed s code reason b ∷ [])) (sym i) ∙ closed-dies found s code reason b)
              ∙ sym (ap (λ (n : ℕ). item found n) (sym i) ∙ rw (e, f) refl)

  -- ---- what the checks of no stream keep

  first-same : (f g : ℕ → Option ErrorCode) → ((s : ℕ) → f s ≡ g s) → (ids : List ℕ) → first_of f ids ≡ first_of g ids
  first-same f g e [] = refl
  first-same f g e (s ∷ ids) = rw (e s, first-same f g e ids) refl

  gone-if : (t : ℕ) (b : Bool) (new : List Finding) → list_any (makes_gone t) new ≡ false → list_any (makes_gone t) (if b then new else []) ≡ false
  gone-if t true new e = e
  gone-if t false new e = refl

  -- a check of no stream and no session makes no session gone
  gone-not : (found : List Finding) (t : ℕ) (b : Bool) (code : ErrorCode) → list_any (makes_gone t) (fault_if b code) ≡ false
  gone-not found t true code = refl
  gone-not found t false code = refl

  item-same : (found : List Finding) (c : Check) → of-streams side h c ≡ false → (t : ℕ) → item (found ++ found_by side h found c) t ≡ item found t
  item-same found (Dequeue k) e t = absurd (cc e)
  item-same found (Classify k) e t = absurd (cc e)
  item-same found (ReadDatagram n piece) e t = item-calm found _ t (touches-not side h found t (ReadDatagram n piece) refl) (gone-if t _ (datagram_found h found n (datagram_of piece) ∷ []) (one (datagram_of piece)))
    where
      one : (d : Result (ℕ × List ℕ) ErrorCode) → list_any (makes_gone t) (datagram_found h found n d ∷ []) ≡ false
      one (Err code) = refl
      one (Ok d) = refl
  item-same found (WalkSession s) e t = item-closing found s t
  item-same found LocalStop e t = item-calm found _ t (touches-not side h found t LocalStop refl) (gone-not found t (is_some (stop_of (events h) (local_uni side))) h3.ClosedCriticalStream)
  item-same found ReadSettings e t = item-calm found _ t (touches-not side h found t ReadSettings refl) (gone-if t _ (SettingsRead ∷ []) refl)
  item-same found ControlFault e t = item-calm found _ t (touches-not side h found t ControlFault refl) (one (control_walk h (first_of control_in found)).fault)
    where
      one : (f : Option ErrorCode) → list_any (makes_gone t) (elim f [ Some code ↦ Faulted code ∷ [] | None ↦ [] ]) ≡ false
      one (Some code) = refl
      one None = refl
  item-same found EncoderEnd e t = item-calm found _ t (touches-not side h found t EncoderEnd refl) (ended (first_of encoder_in found))
    where
      ended : (s : Option (ℕ × ℕ)) → list_any (makes_gone t) (end_fault h s) ≡ false
      ended None = refl
      ended (Some s) = gone-not found t (not (is_running (end_of (events h) s.0))) h3.ClosedCriticalStream
  item-same found DecoderEnd e t = item-calm found _ t (touches-not side h found t DecoderEnd refl) (ended (first_of decoder_in found))
    where
      ended : (s : Option (ℕ × ℕ)) → list_any (makes_gone t) (end_fault h s) ≡ false
      ended None = refl
      ended (Some s) = gone-not found t (not (is_running (end_of (events h) s.0))) h3.ClosedCriticalStream

  looks-not : (t : ℕ) (c : Check) → of-streams side h c ≡ false → looks-at t c ≡ false
  looks-not t (Dequeue k) e = absurd (cc e)
  looks-not t (Classify k) e = absurd (cc e)
  looks-not t c e = refl

  -- which streams are the peer's control, encoder's and decoder's, and what is looked for, stay as they are
  pub record SameFaults (found later : List Finding) : Type 0 where
    pub early : early_fault side h later ≡ early_fault side h found
    pub all : first_fault side h later ≡ first_fault side h found
    pub sessions : sessions_fault side h later ≡ sessions_fault side h found
    pub control : first_of control_in later ≡ first_of control_in found
    pub encoder : first_of encoder_in later ≡ first_of encoder_in found
    pub decoder : first_of decoder_in later ≡ first_of decoder_in found

  same-check : (found : List Finding) (c : Check) → of-streams side h c ≡ false → SameFaults found (found ++ found_by side h found c)
  same-check found c e = record {
    early = early;
    all = ap (λ (f : Option ErrorCode). option_or f (option_or (control_walk h (first_of control_in (found ++ new))).fault (option_or (ended_fault h (first_of encoder_in (found ++ new))) (ended_fault h (first_of decoder_in (found ++ new)))))) early
        ∙ rw (same control_in none.control, same encoder_in none.encoder, same decoder_in none.decoder) refl;
    sessions = sessions;
    control = same control_in none.control;
    encoder = same encoder_in none.encoder;
    decoder = same decoder_in none.decoder;
  }
    where
      new : List Finding
      new = found_by side h found c

      none : NoHeaders new
      none = no-headers new (λ (k : ℕ). touches-not side h found k c (looks-not k c e))

      same : (says : Finding → Option (ℕ × ℕ)) → filter_map says new ≡ [] → first_of says (found ++ new) ≡ first_of says found
      same says q = first_of-append says found new ∙ ap (option_or (first_of says found)) (nothing (first_of says new) (some-count says new ∙ ap (λ (ys : List (ℕ × ℕ)). nat_le 1 (length ys)) q)) ∙ option-none (first_of says found)
        where
          nothing : (o : Option (ℕ × ℕ)) → is_some o ≡ false → o ≡ None
          nothing None e = refl
          nothing (Some y) e = absurd (cc e)

      sessions : sessions_fault side h (found ++ new) ≡ sessions_fault side h found
      sessions = first-same (item (found ++ new)) (item found) (item-same found c e) _

      early : early_fault side h (found ++ new) ≡ early_fault side h found
      early = rw (same-faults found new none, sessions) refl

  abbrev pub none-of-streams : Check → Bool
  none-of-streams c = not (of-streams side h c)

  flip : (b : Bool) → not b ≡ true → b ≡ false
  flip true e = absurd (cc e)
  flip false e = refl

  pub same-checks : (cs : List Check) (found : List Finding) → list_all none-of-streams cs ≡ true → SameFaults found (after_checks side h cs found)
  same-checks cs found l =
      each-keeps side h (SameFaults found) none-of-streams
      (λ later c t e g. let s = same-check later c (flip (of-streams side h c) t) in record { early = s.early ∙ g.early; all = s.all ∙ g.all; sessions = s.sessions ∙ g.sessions; control = s.control ∙ g.control; encoder = s.encoder ∙ g.encoder; decoder = s.decoder ∙ g.decoder }) cs found l
      (record { early = refl; all = refl; sessions = refl; control = refl; encoder = refl; decoder = refl })

  -- ---- the walks of sessions

  -- a session that lives wasn't ended by its peer
  abbrev pub Quiet : ℕ → List Finding → Type 0
  Quiet t found = lives h found t ≡ true → session_walk h found t ≡ walks.Running

  quiet-stays : (t : ℕ) (found : List Finding) (c : Check) → of-streams side h c ≡ false → Quiet t found → Quiet t (found ++ found_by side h found c)
  quiet-stays t found c e g l = walk-same found (found_by side h found c) t (touches-not side h found t c (looks-not t c e)) ∙ g (lives-before h found (found_by side h found c) t l)

  pub quiet-later : (t : ℕ) (cs : List Check) (found : List Finding) → list_all none-of-streams cs ≡ true → Quiet t found → Quiet t (after_checks side h cs found)
  quiet-later t cs found l g = each-keeps side h (Quiet t) none-of-streams (λ f c p e q. quiet-stays t f c (flip (of-streams side h c) p) q) cs found l g

  -- what the check of a session finds
  walked : (s : ℕ) (found : List Finding) → fault_of found ≡ None → (fault_of (found ++ closing h found s) ≡ item found s) × (fault_of (found ++ closing h found s) ≡ None → Quiet s (found ++ closing h found s))
  walked s found e = by (lives h found s) (session_walk h found s) (is_over (session_walk_of (session_part h found s) ends.Running)) refl refl
    where
      none : (new : List Finding) → fault_of (found ++ new) ≡ fault_of new
      none new = first_of-append fault_in found new ∙ ap (λ (f : Option ErrorCode). option_or f (fault_of new)) e

      by : (l : Bool) (w : SessionWalk) (b : Bool) → lives h found s ≡ l → session_walk h found s ≡ w
          → (fault_of (found ++ (if l then session_found s b w else [])) ≡ (if l then walk_fault w else None))
          × (fault_of (found ++ (if l then session_found s b w else [])) ≡ None → Quiet s (found ++ (if l then session_found s b w else [])))
      by false w b x y = (none [], λ f l. absurd (let q = sym x ∙ ap (λ (g : List Finding). lives h g s) (sym (append-nil found)) ∙ l in cc q))
      by true walks.Running b x y = (none [], λ f l. ap (λ (g : List Finding). session_walk h g s) (append-nil found) ∙ y)
      by true (walks.Closed code reason) b x y = (none (SessionClosed s code reason b ∷ []), λ f l. absurd (let q = sym (closed-dies found s code reason b) ∙ l in cc q))
      by true (walks.Fault code) b x y = (none (Faulted code ∷ []), λ f l. absurd (let q = sym (none (Faulted code ∷ [])) ∙ f in cc q))

  only-sessions : (ids : List ℕ) → list_all none-of-streams (map WalkSession ids) ≡ true
  only-sessions [] = refl
  only-sessions (s ∷ ids) = only-sessions ids

  pub record Walked (ids : List ℕ) (found later : List Finding) : Type 0 where
    pub fault : fault_of later ≡ first_of (item found) ids
    pub quiet : fault_of later ≡ None → (t : ℕ) → list_any (λ (s : ℕ). s == t) ids ≡ true → Quiet t later

  pub sessions-walked : (ids : List ℕ) (found : List Finding) → fault_of found ≡ None → Walked ids found (after_checks side h (map WalkSession ids) found)
  sessions-walked [] found e = record { fault = e; quiet = λ f t m. absurd (cc m) }
  sessions-walked (s ∷ ids) found e = by (fault_of now) refl (λ q. sessions-walked ids now q)
    where
      now : List Finding
      now = found ++ closing h found s

      on : after_checks side h (map WalkSession (s ∷ ids)) found ≡ after_checks side h (map WalkSession ids) now
      on = goes-on side h (WalkSession s) (map WalkSession ids) found e

      by : (f : Option ErrorCode) → fault_of now ≡ f → (fault_of now ≡ None → Walked ids now (after_checks side h (map WalkSession ids) now)) → Walked (s ∷ ids) found (after_checks side h (map WalkSession (s ∷ ids)) found)
      by (Some code) q again =
          let all : after_checks side h (map WalkSession (s ∷ ids)) found ≡ now = on ∙ stopped side h (map WalkSession ids) now code q in
          rw all (record {
            fault = q ∙ sym (ap (λ (f : Option ErrorCode). option_or f (first_of (item found) ids)) (sym (walked s found e).0 ∙ q));
            quiet = λ f t m. absurd (let r = sym q ∙ f in cc r);
          })
      by None q again =
          let w = again q in
          rw on (record {
            fault =
                w.fault ∙ first-same (item now) (item found) (item-closing found s) ids
                ∙ sym (ap (λ (f : Option ErrorCode). option_or f (first_of (item found) ids)) (sym (walked s found e).0 ∙ q));
            quiet = λ f t m. of f t (s == t) refl m;
          })
        where
          of : fault_of (after_checks side h (map WalkSession ids) now) ≡ None → (t : ℕ) (b : Bool) → (s == t) ≡ b → (b || list_any (λ (x : ℕ). x == t) ids) ≡ true → Quiet t (after_checks side h (map WalkSession ids) now)
          of f t true x m = quiet-later t (map WalkSession ids) now (only-sessions ids) (subst (λ (n : ℕ). Quiet n now) (eqb-true s t x) ((walked s found e).1 q))
          of f t false x m = (again q).quiet f t m

  -- ---- the five last checks

  -- a fault as what it adds
  abbrev faults : Option ErrorCode → List Finding
  faults None = []
  faults (Some code) = Faulted code ∷ []

  if-faults : (b : Bool) (code : ErrorCode) → fault_if b code ≡ faults (code_if b code)
  if-faults true code = refl
  if-faults false code = refl

  end-faults : (s : Option (ℕ × ℕ)) → end_fault h s ≡ faults (ended_fault h s)
  end-faults None = refl
  end-faults (Some s) = if-faults (not (is_running (end_of (events h) s.0))) h3.ClosedCriticalStream

  -- a check that can only find a fault
  may-fault : (c : Check) (later : List Check) (found : List Finding) (x : Option ErrorCode) → fault_of found ≡ None → found_by side h found c ≡ faults x
      → after_checks side h (c ∷ later) found ≡ (elim x [ None ↦ after_checks side h later found | Some code ↦ found ++ Faulted code ∷ [] ])
  may-fault c later found None e q = goes-on side h c later found e ∙ ap (after_checks side h later) (ap (λ (new : List Finding). found ++ new) q ∙ append-nil found)
  may-fault c later found (Some code) e q =
      goes-on side h c later found e ∙ ap (λ (new : List Finding). after_checks side h later (found ++ new)) q
      ∙ stopped side h later (found ++ Faulted code ∷ []) code (first_of-append fault_in found (Faulted code ∷ []) ∙ ap (λ (f : Option ErrorCode). option_or f (Some code)) e)

  control-faults : (f : Option ErrorCode) → (elim f [ Some code ↦ Faulted code ∷ [] | None ↦ [] ]) ≡ faults f
  control-faults (Some code) = refl
  control-faults None = refl

  -- the faults behind SETTINGS
  abbrev pub late-fault : List Finding → Option ErrorCode
  late-fault found = option_or (control_walk h (first_of control_in found)).fault (option_or (ended_fault h (first_of encoder_in found)) (ended_fault h (first_of decoder_in found)))

  late-checks : (found : List Finding) → fault_of found ≡ None → after_checks side h (ControlFault ∷ EncoderEnd ∷ DecoderEnd ∷ []) found ≡ found ++ faults (late-fault found)
  late-checks found e =
      may-fault ControlFault (EncoderEnd ∷ DecoderEnd ∷ []) found (control_walk h (first_of control_in found)).fault e (control-faults (control_walk h (first_of control_in found)).fault)
      ∙ by (control_walk h (first_of control_in found)).fault
    where
      last : (z : Option ErrorCode) → (elim z [ None ↦ found | Some code ↦ found ++ Faulted code ∷ [] ]) ≡ found ++ faults z
      last None = sym (append-nil found)
      last (Some code) = refl

      next : (y : Option ErrorCode)
          → (elim y [ None ↦ after_checks side h (DecoderEnd ∷ []) found | Some code ↦ found ++ Faulted code ∷ [] ]) ≡ found ++ faults (option_or y (ended_fault h (first_of decoder_in found)))
      next None = may-fault DecoderEnd [] found (ended_fault h (first_of decoder_in found)) e (end-faults (first_of decoder_in found)) ∙ last (ended_fault h (first_of decoder_in found))
      next (Some code) = refl

      by : (x : Option ErrorCode) → (elim x [ None ↦ after_checks side h (EncoderEnd ∷ DecoderEnd ∷ []) found | Some code ↦ found ++ Faulted code ∷ [] ])
          ≡ found ++ faults (option_or x (option_or (ended_fault h (first_of encoder_in found)) (ended_fault h (first_of decoder_in found))))
      by None = may-fault EncoderEnd (DecoderEnd ∷ []) found (ended_fault h (first_of encoder_in found)) e (end-faults (first_of encoder_in found)) ∙ next (ended_fault h (first_of encoder_in found))
      by (Some code) = refl

  abbrev pub last-checks : List Check
  last-checks = LocalStop ∷ ReadSettings ∷ ControlFault ∷ EncoderEnd ∷ DecoderEnd ∷ []

  abbrev pub stop-fault : Option ErrorCode
  stop-fault = code_if (is_some (stop_of (events h) (local_uni side))) h3.ClosedCriticalStream

  abbrev pub settings-there : List Finding → Bool
  settings-there found = is_some (control_walk h (first_of control_in found)).settings

  pub record Last (found later : List Finding) : Type 0 where
    pub fault : fault_of later ≡ option_or stop-fault (late-fault found)
    pub settings : settings_came later ≡ (settings_came found || (is_none stop-fault && settings-there found))

  more-faults : (found : List Finding) (x : Option ErrorCode) → fault_of found ≡ None → fault_of (found ++ faults x) ≡ x
  more-faults found x e = first_of-append fault_in found (faults x) ∙ ap (λ (f : Option ErrorCode). option_or f (fault_of (faults x))) e ∙ by x
    where
      by : (x : Option ErrorCode) → fault_of (faults x) ≡ x
      by None = refl
      by (Some code) = refl

  came-faults : (found : List Finding) (x : Option ErrorCode) → settings_came (found ++ faults x) ≡ settings_came found
  came-faults found x = list_any-append reads_settings found (faults x) ∙ by x (settings_came found)
    where
      by : (x : Option ErrorCode) (b : Bool) → (b || settings_came (faults x)) ≡ b
      by None true = refl
      by None false = refl
      by (Some code) true = refl
      by (Some code) false = refl

  -- the same of any stop
  record LastOf (x : Option ErrorCode) (found later : List Finding) : Type 0 where
    fault : fault_of later ≡ option_or x (late-fault found)
    settings : settings_came later ≡ (settings_came found || (is_none x && settings-there found))

  pub last-is : (found : List Finding) → fault_of found ≡ None → Last found (after_checks side h last-checks found)
  last-is found e =
      let r = by stop-fault in
      let q = may-fault LocalStop (ReadSettings ∷ ControlFault ∷ EncoderEnd ∷ DecoderEnd ∷ []) found stop-fault e (if-faults (is_some (stop_of (events h) (local_uni side))) h3.ClosedCriticalStream) in
      record { fault = ap fault_of q ∙ r.fault; settings = ap settings_came q ∙ r.settings }
    where
      new : List Finding
      new = found_by side h found ReadSettings

      none : fault_of (found ++ new) ≡ None
      none = first_of-append fault_in found new ∙ ap (λ (f : Option ErrorCode). option_or f (fault_of new)) e ∙ of (not (settings_came found) && settings-there found)
        where
          of : (b : Bool) → fault_of (if b then SettingsRead ∷ [] else []) ≡ None
          of true = refl
          of false = refl

      came : settings_came (found ++ new) ≡ (settings_came found || settings-there found)
      came = list_any-append reads_settings found new ∙ of (settings_came found) (settings-there found)
        where
          of : (b c : Bool) → (b || settings_came (if not b && c then SettingsRead ∷ [] else [])) ≡ (b || c)
          of true c = refl
          of false true = refl
          of false false = refl

      s : SameFaults found (found ++ new)
      s = same-check found ReadSettings refl

      late-same : late-fault (found ++ new) ≡ late-fault found
      late-same = rw (s.control, s.encoder, s.decoder) refl

      on : after_checks side h (ReadSettings ∷ ControlFault ∷ EncoderEnd ∷ DecoderEnd ∷ []) found ≡ (found ++ new) ++ faults (late-fault (found ++ new))
      on = goes-on side h ReadSettings (ControlFault ∷ EncoderEnd ∷ DecoderEnd ∷ []) found e ∙ late-checks (found ++ new) none

      by : (x : Option ErrorCode)
          → LastOf x found (elim x [ None ↦ after_checks side h (ReadSettings ∷ ControlFault ∷ EncoderEnd ∷ DecoderEnd ∷ []) found | Some code ↦ found ++ Faulted code ∷ [] ])
      by None = record {
        fault = ap fault_of on ∙ more-faults (found ++ new) (late-fault (found ++ new)) none ∙ late-same;
        settings = ap settings_came on ∙ came-faults (found ++ new) (late-fault (found ++ new)) ∙ came;
      }
      by (Some code) = record {
        fault = more-faults found (Some code) e;
        settings = came-faults found (Some code) ∙ or-false (settings_came found);
      }
        where
          or-false : (b : Bool) → b ≡ (b || false)
          or-false true = refl
          or-false false = refl
