-- The critical streams: the last five looks of a moment lead to the same as its last four steps.
use Rattle.std.specs.Prelude.{[], ◌&&◌, ◌++◌, ◌∷◌, ◌||◌, ◌≡◌, Bool, List, None, Option, Some, drop, false, if◌then◌else◌, is_some, length, not, true, ℕ}
use Rattle.std.proofs.Common.{◌∙◌, ap, refl, subst, sym}
use Rattle.std.proofs.lemmas.List.{append-nil}
use Rattle.wt_meaning.specs.Findings.{Faulted, Finding, SettingsRead, control_in, decoder_in, encoder_in, fault_in, fault_of, first_of, is_datagram, reads_settings, settings_came}
use Rattle.wt_meaning.specs.History.{History, contents, events}
use Rattle.wt_meaning.specs.Moments.{Check, ControlFault, DecoderEnd, EncoderEnd, LocalStop, ReadSettings, after_checks, control_walk, end_fault, fault_if, found_by}
use Rattle.wt_promise.proofs.Accepted.{or-true}
use Rattle.wt_proto.specs.ControlWalk.{control_walk_of}
use Rattle.wt_proto.specs.declared.control_walk.ControlWalk.{ControlWalk}
use Rattle.wt_turn.specs.Reports.{end_of, is_running, stop_of}
use Rattle.wt_turn.specs.Streams.{local_uni}
use Rattle.wt_sessions.specs.Scan.{check_control, check_qpack, control_read, critical_if, in_order, on_progress, unless_ended, with_fault}
use Rattle.wt_sessions.specs.StreamTable.{DriverProgress, StreamTable, TransportView, control_start, decoder_start, encoder_start, first_at}
use Rattle.wt_sessions_agree.proofs.Appends.{any-append, drops, filter-drops, first-append}
use Rattle.wt_sessions_agree.proofs.Basics.{or-false, or-none}
use Rattle.wt_sessions_agree.proofs.FoundLaws.{controls-agree, decoders-agree, encoders-agree}
use Rattle.wt_sessions_agree.proofs.ScanLaws.{fault-fields, faults_of, check-step, checks-faulty}
use Rattle.wt_sessions_agree.specs.Agrees.{IsTable, admitted_in, classified_in, closed_in}
use Rattle.wt_sessions_agree.specs.Stands.{ViewsAgree}
use Rattle.wt_wire.specs.declared.error.ErrorCode.{ErrorCode}
use Rattle.wt_wire.specs.declared.side.Side.{Side}
use Rattle.wt_wire.specs.declared.error.ErrorCode.TheVariants as h3

-- looks after looks
pub checks-append : (side : Side) (h : History) (xs ys : List Check) (found : List Finding) → after_checks side h (xs ++ ys) found ≡ after_checks side h ys (after_checks side h xs found)
checks-append side h [] ys found = refl
checks-append side h (l ∷ xs) ys found = by (fault_of found) refl (λ f. checks-append side h xs ys f)
  where
    by : (o : Option ErrorCode) → fault_of found ≡ o → ((f : List Finding) → after_checks side h (xs ++ ys) f ≡ after_checks side h ys (after_checks side h xs f))
        → after_checks side h ((l ∷ xs) ++ ys) found ≡ after_checks side h ys (after_checks side h (l ∷ xs) found)
    by (Some c) e again = checks-faulty side h (l ∷ (xs ++ ys)) found c e ∙ sym (ap (after_checks side h ys) (checks-faulty side h (l ∷ xs) found c e) ∙ checks-faulty side h ys found c e)
    by None e again = rw e (again (found ++ found_by side h found l))

-- a step and its looks, where no fault was before
pub step-keeps : (side : Side) (h : History) (Keeps : List Finding → StreamTable → Type 0) → ((found : List Finding) (table : StreamTable) → Keeps found table → IsTable found table)
    → (ls : List Check) (step : StreamTable → StreamTable) (found : List Finding) (table : StreamTable)
    → (fault_of found ≡ None → Keeps (after_checks side h ls found) (step table)) → Keeps found table → Keeps (after_checks side h ls found) (unless_ended table.progress.fault step table)
step-keeps side h Keeps holds ls step found table does t = by (fault_of found) refl
  where
    by : (o : Option ErrorCode) → fault_of found ≡ o → Keeps (after_checks side h ls found) (unless_ended table.progress.fault step table)
    by (Some c) e =
        let q : table.progress.fault ≡ Some c = sym (holds found table t).fault ∙ e in
        rw (checks-faulty side h ls found c e) (subst (λ (o : Option ErrorCode). Keeps found (unless_ended o step table)) (sym q) t)
    by None e =
        let q : table.progress.fault ≡ None = sym (holds found table t).fault ∙ e in subst (λ (o : Option ErrorCode). Keeps (after_checks side h ls found) (unless_ended o step table)) (sym q) (does e)

step-agrees : (side : Side) (h : History) (ls : List Check) (step : StreamTable → StreamTable) (found : List Finding) (table : StreamTable)
    → (fault_of found ≡ None → IsTable (after_checks side h ls found) (step table)) → IsTable found table → IsTable (after_checks side h ls found) (unless_ended table.progress.fault step table)
step-agrees side h = step-keeps side h IsTable (λ found table holds. holds)

-- a fault where the test holds
critical-table : (found : List Finding) (table : StreamTable) (b : Bool) → fault_of found ≡ None → IsTable found table
    → IsTable (found ++ fault_if b h3.ClosedCriticalStream) (on_progress (critical_if b) table)
critical-table found table true f t = fault-fields found table h3.ClosedCriticalStream f t
critical-table found table false f t = subst (λ (l : List Finding). IsTable l table) (sym (append-nil found)) t

qpack-table : (side : Side) (h : History) (v : TransportView) (found : List Finding) (table : StreamTable) (x : Option (ℕ × ℕ)) → ViewsAgree side h v → fault_of found ≡ None → IsTable found table
    → IsTable (found ++ end_fault h x) (on_progress (check_qpack v x) table)
qpack-table side h v found table None g f t = subst (λ (l : List Finding). IsTable l table) (sym (append-nil found)) t
qpack-table side h v found table (Some c) g f t = rw (g.end c.0) (critical-table found table (not (is_running (end_of (events h) c.0))) f t)

-- SETTINGS, where they weren't read before
settings-fields : (found : List Finding) (table : StreamTable) → IsTable found table → IsTable (found ++ SettingsRead ∷ []) (record table { progress = record table.progress { settings = true } })
settings-fields found table t = record {
  classified = drops classified_in SettingsRead refl found ∙ t.classified;
  datagrams = drops admitted_in SettingsRead refl found ∙ t.datagrams;
  closed = drops closed_in SettingsRead refl found ∙ t.closed;
  looked_at = ap length (filter-drops is_datagram SettingsRead refl found) ∙ t.looked_at;
  settings = any-append reads_settings found SettingsRead ∙ or-true (settings_came found);
  fault = first-append fault_in found SettingsRead ∙ or-none (fault_of found) ∙ t.fault;
}

read-settings : (found : List Finding) (table : StreamTable) (s : Bool) → IsTable found table
    → IsTable (found ++ (if not (settings_came found) && s then SettingsRead ∷ [] else [])) (record table { progress = record table.progress { settings = table.progress.settings || s } })
read-settings found table s t = by (settings_came found) s refl
  where
    by : (x s : Bool) → settings_came found ≡ x → IsTable (found ++ (if not (settings_came found) && s then SettingsRead ∷ [] else []))
        (record table { progress = record table.progress { settings = table.progress.settings || s } })
    by false true e = let q : table.progress.settings ≡ false = sym t.settings ∙ e in rw (e, q) (settings-fields found table t)
    by true true e =
        let q : table.progress.settings ≡ true = sym t.settings ∙ e in
        rw (e, q) (subst (λ (l : List Finding). IsTable l (record table { progress = record table.progress { settings = true } })) (sym (append-nil found))
        (record { classified = t.classified; datagrams = t.datagrams; closed = t.closed; looked_at = t.looked_at; settings = e; fault = t.fault }))
    by false false e =
        let q : table.progress.settings ≡ false = sym t.settings ∙ e in
        rw (e, q) (subst (λ (l : List Finding). IsTable l (record table { progress = record table.progress { settings = false } })) (sym (append-nil found))
        (record { classified = t.classified; datagrams = t.datagrams; closed = t.closed; looked_at = t.looked_at; settings = e; fault = t.fault }))
    by true false e =
        let q : table.progress.settings ≡ true = sym t.settings ∙ e in
        rw (e, q) (subst (λ (l : List Finding). IsTable l (record table { progress = record table.progress { settings = true } })) (sym (append-nil found))
        (record { classified = t.classified; datagrams = t.datagrams; closed = t.closed; looked_at = t.looked_at; settings = e; fault = t.fault }))

-- what the control walk read, and its fault
control-table : (found : List Finding) (table : StreamTable) (w : ControlWalk) → fault_of found ≡ None → IsTable found table
    → IsTable ((found ++ (if not (settings_came found) && is_some w.settings then SettingsRead ∷ [] else [])) ++ faults_of w.fault) (on_progress (control_read w) table)
control-table found table w f t = by w.fault
  where
    read : List Finding
    read = found ++ (if not (settings_came found) && is_some w.settings then SettingsRead ∷ [] else [])

    none : (b : Bool) → fault_of (found ++ (if b then SettingsRead ∷ [] else [])) ≡ None
    none true = first-append fault_in found SettingsRead ∙ or-none (fault_of found) ∙ f
    none false = ap fault_of (append-nil found) ∙ f

    by : (o : Option ErrorCode) → IsTable ((found ++ (if not (settings_came found) && is_some w.settings then SettingsRead ∷ [] else [])) ++ faults_of o)
        (on_progress (λ (p : DriverProgress). with_fault o (record p { settings = p.settings || is_some w.settings })) table)
    by None =
        subst (λ (l : List Finding). IsTable l (record table { progress = record table.progress { settings = table.progress.settings || is_some w.settings } })) (sym (append-nil _))
        (read-settings found table (is_some w.settings) t)
    by (Some c) = fault-fields _ _ c (none (not (settings_came found) && is_some w.settings)) (read-settings found table (is_some w.settings) t)

-- ---- the last four steps

own-stop-agrees : (side : Side) (h : History) (v : TransportView) (found : List Finding) (table : StreamTable) → ViewsAgree side h v → IsTable found table → fault_of found ≡ None
    → IsTable (after_checks side h (LocalStop ∷ []) found) (on_progress (critical_if (v.is_stopped (local_uni v.side))) table)
own-stop-agrees side h v found table g t f =
    rw (check-step side h LocalStop [] found (fault_if (is_some (stop_of (events h) (local_uni side))) h3.ClosedCriticalStream) f refl, g.own, g.stopped (local_uni side))
    (critical-table found table (is_some (stop_of (events h) (local_uni side))) f t)

encoder-end-agrees : (side : Side) (h : History) (v : TransportView) (found : List Finding) (table : StreamTable) → ViewsAgree side h v → IsTable found table → fault_of found ≡ None
    → IsTable (after_checks side h (EncoderEnd ∷ []) found) (on_progress (check_qpack v (first_at encoder_start table.classified)) table)
encoder-end-agrees side h v found table g t f =
    rw (check-step side h EncoderEnd [] found (end_fault h (first_of encoder_in found)) f refl, sym (encoders-agree found table t)) (qpack-table side h v found table (first_of encoder_in found) g f t)

decoder-end-agrees : (side : Side) (h : History) (v : TransportView) (found : List Finding) (table : StreamTable) → ViewsAgree side h v → IsTable found table → fault_of found ≡ None
    → IsTable (after_checks side h (DecoderEnd ∷ []) found) (on_progress (check_qpack v (first_at decoder_start table.classified)) table)
decoder-end-agrees side h v found table g t f =
    rw (check-step side h DecoderEnd [] found (end_fault h (first_of decoder_in found)) f refl, sym (decoders-agree found table t)) (qpack-table side h v found table (first_of decoder_in found) g f t)

-- the findings of the walk, by its fault
walk-faults : (o : Option ErrorCode) → elim o as (λ x. List Finding) [ Some code ↦ Faulted code ∷ [] | None ↦ [] ] ≡ faults_of o
walk-faults None = refl
walk-faults (Some c) = refl

control-agrees : (side : Side) (h : History) (v : TransportView) (found : List Finding) (table : StreamTable) → ViewsAgree side h v → IsTable found table → fault_of found ≡ None
    → IsTable (after_checks side h (ReadSettings ∷ ControlFault ∷ []) found) (on_progress (check_control v (first_at control_start table.classified)) table)
control-agrees side h v found table g t f = by (first_of control_in found) (first_at control_start table.classified) (controls-agree found table t) refl
  where
    read : ControlWalk → List Finding
    read w = found ++ (if not (settings_came found) && is_some w.settings then SettingsRead ∷ [] else [])

    same : (b : Bool) → first_of control_in (found ++ (if b then SettingsRead ∷ [] else [])) ≡ first_of control_in found
    same true = first-append control_in found SettingsRead ∙ or-none (first_of control_in found)
    same false = ap (first_of control_in) (append-nil found)

    none : (b : Bool) → fault_of (found ++ (if b then SettingsRead ∷ [] else [])) ≡ None
    none true = first-append fault_in found SettingsRead ∙ or-none (fault_of found) ∙ f
    none false = ap fault_of (append-nil found) ∙ f

    looked : (w : ControlWalk) → control_walk h (first_of control_in found) ≡ w → after_checks side h (ReadSettings ∷ ControlFault ∷ []) found ≡ read w ++ faults_of w.fault
    looked w e =
        check-step side h ReadSettings (ControlFault ∷ []) found (if not (settings_came found) && is_some w.settings then SettingsRead ∷ [] else []) f (rw e refl)
        ∙ check-step side h ControlFault [] (read w) (faults_of w.fault) (none (not (settings_came found) && is_some w.settings))
        (walk-faults (control_walk h (first_of control_in (read w))).fault ∙ ap (λ (c : Option (ℕ × ℕ)). faults_of (control_walk h c).fault) (same (not (settings_came found) && is_some w.settings))
        ∙ ap (λ (x : ControlWalk). faults_of x.fault) e)

    by : (x y : Option (ℕ × ℕ)) → x ≡ y → first_of control_in found ≡ x → IsTable (after_checks side h (ReadSettings ∷ ControlFault ∷ []) found) (on_progress (check_control v y) table)
    by x None e q =
        let w : ControlWalk = record { settings = None; fault = None } in
        rw (looked w (ap (control_walk h) (q ∙ e))) (idle (control-table found table w f t))
      where
        idle : IsTable (read (record { settings = None; fault = None }) ++ []) (on_progress (control_read (record { settings = None; fault = None })) table)
            → IsTable (read (record { settings = None; fault = None }) ++ []) table
        idle t = record { classified = t.classified; datagrams = t.datagrams; closed = t.closed; looked_at = t.looked_at; settings = t.settings ∙ or-false table.progress.settings; fault = t.fault }
    by x (Some c) e q =
        let w : ControlWalk = control_walk_of (drop c.1 (contents h c.0)) (end_of (events h) c.0) in
        rw (looked w (ap (control_walk h) (q ∙ e)), g.contents c.0, g.end c.0) (control-table found table w f t)

-- the critical streams of a moment
-- the last steps of a moment
abbrev pub critical_steps : TransportView → List (StreamTable → StreamTable)
critical_steps v =
    on_progress (critical_if (v.is_stopped (local_uni v.side)))
    ∷ (λ (table : StreamTable). on_progress (check_control v (first_at control_start table.classified)) table)
    ∷ (λ (table : StreamTable). on_progress (check_qpack v (first_at encoder_start table.classified)) table)
    ∷ (λ (table : StreamTable). on_progress (check_qpack v (first_at decoder_start table.classified)) table) ∷ []

pub critical-agrees : (side : Side) (h : History) (v : TransportView) (found : List Finding) (table : StreamTable) → ViewsAgree side h v → IsTable found table
    → IsTable (after_checks side h (LocalStop ∷ ReadSettings ∷ ControlFault ∷ EncoderEnd ∷ DecoderEnd ∷ []) found) (in_order (critical_steps v) table)
critical-agrees side h v found table g t =
    let a = step-agrees side h (LocalStop ∷ []) (on_progress (critical_if (v.is_stopped (local_uni v.side)))) found table (own-stop-agrees side h v found table g t) t in
    let b = step-agrees side h (ReadSettings ∷ ControlFault ∷ []) (λ (table : StreamTable). on_progress (check_control v (first_at control_start table.classified)) table) _ _
    (control-agrees side h v _ _ g a) a in
    let c = step-agrees side h (EncoderEnd ∷ []) (λ (table : StreamTable). on_progress (check_qpack v (first_at encoder_start table.classified)) table) _ _ (encoder-end-agrees side h v _ _ g b) b in
    let d = step-agrees side h (DecoderEnd ∷ []) (λ (table : StreamTable). on_progress (check_qpack v (first_at decoder_start table.classified)) table) _ _ (decoder-end-agrees side h v _ _ g c) c in
    rw (
      checks-append side h (LocalStop ∷ []) (ReadSettings ∷ ControlFault ∷ EncoderEnd ∷ DecoderEnd ∷ []) found,
      checks-append side h (ReadSettings ∷ ControlFault ∷ []) (EncoderEnd ∷ DecoderEnd ∷ [])
          (after_checks side h (LocalStop ∷ []) found),
      checks-append side h (EncoderEnd ∷ []) (DecoderEnd ∷ []) (after_checks side h (ReadSettings ∷ ControlFault ∷ []) (after_checks side h (LocalStop ∷ []) found)),
    ) d
