-- The steps of a moment, from what the parts of the driver did.
use Rattle.std.proofs.Common.{[], true≢false, ◌<◌, ◌∙◌, ◌≡◌, ◌∷◌, Bool, Err, IfOk, List, None, Ok, OnOk, Option, Result, Some, ap, arith, false, if◌then◌else◌, is_some, length, not, refl, subst, sym, true, ℕ}
use Rattle.wt_kept.specs.Arriving.{scan_now}
use Rattle.wt_kept.specs.Classifying.{classify_now}
use Rattle.wt_kept.specs.Kept.{ArrivingNow, DispatchedNow, DriverNow, OwnControlNow, WorkNow}
use Rattle.wt_kept.specs.Looking.{admit_each, admit_parsed, check_qpack_now, fail_if_closed, is_own_stopped, read_control, read_sessions, unless_fault}
use Rattle.wt_message.specs.Datagram.{datagram_of}
use Rattle.wt_wire.specs.declared.error.ErrorCode.{ErrorCode}
use Rattle.wt_kept.specs.Moment.{OwnFlushed, arrivals_step, bis_step, close_step, closed_with, control_step, datagrams_step, is_ready_now, moment_now, own_flushed, own_step, own_stop_step, sessions_step, unis_step, with_bis, with_unis, without_datagrams, work_of_moment}
use Rattle.wt_kept.specs.Readers.{BiReading, UniReading, bi_rules, uni_rules}
use Rattle.wt_transport.specs.State.{TransportState}
use Rattle.wt_peer_streams.specs.Scanning.{scanned}

-- what holds where a call answered holds of what follows from it
pub ok-then : {T E P Q : Type 0} (r : Result T E) → (P → Q) → OnOk r P → OnOk r Q
ok-then (Ok x) f p = f p
ok-then (Err e) f p = tt

-- the same, by what was answered
pub ok-if : {T E P : Type 0} {Q : T → Type 0} (r : Result T E) → ((x : T) → P → Q x) → OnOk r P → IfOk r Q
ok-if (Ok x) f p = f x p
ok-if (Err e) f p = tt

pub if-ok-then : {T E : Type 0} {P Q : T → Type 0} (r : Result T E) → ((x : T) → P x → Q x) → IfOk r P → IfOk r Q
if-ok-then (Ok x) f p = f x p
if-ok-then (Err e) f p = tt

pub ok-then-if : {T E P : Type 0} {Q : T → Type 0} (r : Result T E) → ((x : T) → Q x → P) → IfOk r Q → OnOk r P
ok-then-if (Ok x) f q = f x q
ok-then-if (Err e) f q = tt

pub if-ok-both : {T E P : Type 0} {Q R : T → Type 0} (r : Result T E) → ((x : T) → Q x → P → R x) → IfOk r Q → OnOk r P → IfOk r R
if-ok-both (Ok x) f q p = f x q p
if-ok-both (Err e) f q p = tt

-- this end's control stream went out
pub own-so : {d now : DriverNow} → d ≡ now → (own : OwnControlNow) (t : TransportState) → ◌≡◌ {A = OwnFlushed} (record { own = own; transport = t }) (own_flushed d.own_control d.work.transport)
    → record d { own_control = own; work = record d.work { transport = t } } ≡ own_step now
unfolding own_step
own-so {d} at own t e = ap (λ (x : OwnFlushed). record d { own_control = x.own; work = record d.work { transport = x.transport } }) e ∙ ap own_step at

-- the unidirectional streams were scanned
pub unis-so : {d now : DriverNow} → d ≡ now → (a : ArrivingNow UniReading) (t : TransportState) (e : DispatchedNow)
    → scanned a t e ≡ scan_now uni_rules classify_now d.unis d.work → a.bidirectional ≡ d.unis.bidirectional
    → record d { unis = a; work = record { transport = t; dispatched = e } } ≡ unis_step now
unfolding unis_step
unis-so {d} at a t e scan kind =
    ap (λ (b : Bool). record d { unis = record a { bidirectional = b }; work = record { transport = t; dispatched = e } }) kind
    ∙ (ap (λ s. with_unis s d) scan ∙ ap unis_step at)

-- the bidirectional ones were
pub bis-so : {d now : DriverNow} → d ≡ now → (a : ArrivingNow BiReading) (t : TransportState) (e : DispatchedNow)
    → scanned a t e ≡ scan_now bi_rules classify_now d.bis d.work → a.bidirectional ≡ d.bis.bidirectional
    → record d { bis = a; work = record { transport = t; dispatched = e } } ≡ bis_step now
unfolding bis_step
bis-so {d} at a t e scan kind =
    ap (λ (b : Bool). record d { bis = record a { bidirectional = b }; work = record { transport = t; dispatched = e } }) kind
    ∙ (ap (λ s. with_bis s d) scan ∙ ap bis_step at)

-- what came was looked at, since this end's SETTINGS are out
pub arrivals-so : (d a b c : DriverNow) → is_ready_now d.own_control ≡ true → a ≡ unis_step d → b ≡ bis_step a → c ≡ datagrams_step b → c ≡ arrivals_step d
unfolding arrivals_step
arrivals-so d a b c ready x y z =
    (z ∙ ap datagrams_step (y ∙ ap bis_step x)) ∙ sym (ap (λ (r : Bool). if r then datagrams_step (bis_step (unis_step d)) else d) ready)

-- nothing was looked at, since they aren't
pub arrivals-wait : (d : DriverNow) → is_ready_now d.own_control ≡ false → d ≡ arrivals_step d
unfolding arrivals_step
arrivals-wait d waits = sym (ap (λ (r : Bool). if r then datagrams_step (bis_step (unis_step d)) else d) waits)

-- the streams of the sessions were read
pub sessions-so : {d now : DriverNow} → d ≡ now → (t : TransportState) (e : DispatchedNow) → ◌≡◌ {A = WorkNow} (record { transport = t; dispatched = e }) (read_sessions d.work)
    → record d { work = record { transport = t; dispatched = e } } ≡ sessions_step now
unfolding sessions_step
sessions-so {d} at t e so = ap (λ (w : WorkNow). record d { work = w }) so ∙ ap sessions_step at

-- a stop of this end's control stream was looked for
pub own-stop-so : {d now : DriverNow} → d ≡ now → (b : Bool) (e : DispatchedNow) → b ≡ is_own_stopped d.own_control d.work.transport → e ≡ fail_if_closed b d.work.dispatched
    → record d { work = record d.work { dispatched = e } } ≡ own_stop_step now
unfolding own_stop_step
own-stop-so {d} at b e asks so =
    ap (λ (x : DispatchedNow). record d { work = record d.work { dispatched = x } }) (so ∙ ap (λ (x : Bool). fail_if_closed x d.work.dispatched) asks) ∙ ap own_stop_step at

-- the critical streams were read
pub control-so : {d now : DriverNow} → d ≡ now → (t : TransportState) (e f : DispatchedNow) → ◌≡◌ {A = WorkNow} (record { transport = t; dispatched = e }) (read_control d.work)
    → ◌≡◌ {A = WorkNow} (record { transport = t; dispatched = f }) (check_qpack_now (record { transport = t; dispatched = e }))
    → record d { work = record { transport = t; dispatched = f } } ≡ control_step now
unfolding control_step
control-so {d} at t e f reads checks =
    ap (λ (w : WorkNow). record d { work = w }) (checks ∙ ap check_qpack_now reads) ∙ ap control_step at

-- a fault closed the connection, or there was none
pub close-so : {d now : DriverNow} → d ≡ now → (t : TransportState) (b : Bool) → t ≡ closed_with d.work.dispatched.fault d.work.transport → b ≡ t.is_open
    → without_datagrams b (record d { work = record d.work { transport = t } }) ≡ close_step now
unfolding close_step
close-so {d} at t b so open_ =
    ap (λ (x : Bool). without_datagrams x (record d { work = record d.work { transport = t } })) open_
    ∙ (ap (λ (x : TransportState). without_datagrams x.is_open (record d { work = record d.work { transport = x } })) so ∙ ap close_step at)

-- the whole work
pub work-so : (d a b c e f g : DriverNow) → a ≡ own_step d → b ≡ arrivals_step a → c ≡ sessions_step b → e ≡ own_stop_step c → f ≡ control_step e → g ≡ close_step f → g ≡ work_of_moment d
unfolding work_of_moment
work-so d a b c e f g p q r s t u =
    u ∙ ap close_step (t ∙ ap control_step (s ∙ ap own_stop_step (r ∙ ap sessions_step (q ∙ ap arrivals_step p))))

-- a moment of an open connection
pub moment-open : (d a : DriverNow) → d.work.transport.is_open ≡ true → a ≡ work_of_moment d → a ≡ moment_now d
unfolding moment_now
moment-open d a open_ so = so ∙ sym (ap (λ (b : Bool). if b then work_of_moment d else without_datagrams false d) open_)

-- and of one that ended
pub moment-over : {d now : DriverNow} → d ≡ now → d.work.transport.is_open ≡ false → record d { datagrams = [] } ≡ moment_now now
unfolding moment_now
moment-over {d} at over = sym (ap (λ (b : Bool). if b then work_of_moment d else without_datagrams false d) over) ∙ ap moment_now at

-- the connection isn't open then, and no datagram is left
pub close-over : {d now : DriverNow} → d ≡ now → (t : TransportState) (xs : List (List ℕ)) → t ≡ closed_with d.work.dispatched.fault d.work.transport → t.is_open ≡ false → xs ≡ []
    → record d { work = record d.work { transport = t }; datagrams = xs } ≡ close_step now
close-over {d} at t xs so over none =
    ap (λ (ys : List (List ℕ)). record d { work = record d.work { transport = t }; datagrams = ys }) none ∙ close-so at t false so (sym over)

-- it is open
pub close-goes : {d now : DriverNow} → d ≡ now → (t : TransportState) → t ≡ closed_with d.work.dispatched.fault d.work.transport → t.is_open ≡ true
    → record d { work = record d.work { transport = t } } ≡ close_step now
close-goes at t so open_ = close-so at t true so (sym open_)

-- a moment of a connection that ended, after which no datagram is left
pub moment-none : {d now : DriverNow} → d ≡ now → (xs : List (List ℕ)) → d.work.transport.is_open ≡ false → xs ≡ [] → record d { datagrams = xs } ≡ moment_now now
moment-none {d} at xs over none = ap (λ (ys : List (List ℕ)). record d { datagrams = ys }) none ∙ moment-over at over

-- ---- the datagrams, one after another

-- some were looked at, so that all lead to what those that are left lead to
pub record Looks (d e : DriverNow) : Type 0 where
  pub same : record e { work = record e.work { dispatched = d.work.dispatched }; datagrams = d.datagrams } ≡ d
  pub left : admit_each e.datagrams e.work.dispatched ≡ admit_each d.datagrams d.work.dispatched

pub looks-first : {e d : DriverNow} → e ≡ d → Looks d e
looks-first {e} at = subst (λ (x : DriverNow). Looks x e) at (record { same = refl; left = refl })

pub admits-next : (xs later : List (List ℕ)) (piece : List ℕ) (e x : DispatchedNow) → xs ≡ piece ∷ later → e.fault ≡ None → x ≡ admit_parsed (datagram_of piece) e → admit_each later x ≡ admit_each xs e
admits-next xs later piece e x next goes so =
    ap (admit_each later) so
    ∙ (sym (ap (λ (f : Option ErrorCode). unless_fault f (admit_each later (admit_parsed (datagram_of piece) e)) e) goes) ∙ sym (ap (λ (ys : List (List ℕ)). admit_each ys e) next))

pub looks-next : (d e : DriverNow) (later : List (List ℕ)) (piece : List ℕ) (x : DispatchedNow) → Looks d e → e.datagrams ≡ piece ∷ later → e.work.dispatched.fault ≡ None
    → x ≡ admit_parsed (datagram_of piece) e.work.dispatched → Looks d (record e { work = record e.work { dispatched = x }; datagrams = later })
looks-next d e later piece x h next goes so = record { same = h.same; left = admits-next e.datagrams later piece e.work.dispatched x next goes so ∙ h.left }

-- a fault came
pub admits-over : (xs : List (List ℕ)) (e : DispatchedNow) → is_some e.fault ≡ true → admit_each xs e ≡ e
admits-over [] e over = refl
admits-over (piece ∷ later) e over = by e.fault over
  where
    by : (f : Option ErrorCode) → is_some f ≡ true → unless_fault f (admit_each later (admit_parsed (datagram_of piece) e)) e ≡ e
    by None over = absurd (true≢false (sym over))
    by (Some code) over = refl

-- no fault came
pub no-fault : (f g : Option ErrorCode) (b : Bool) → is_some f ≡ not b → b ≡ true → f ≡ g → g ≡ None
no-fault None g b asks none so = sym so
no-fault (Some code) g b asks none so = absurd (true≢false (asks ∙ ap not none))

pub looks-last : (d e : DriverNow) → Looks d e → admit_each e.datagrams e.work.dispatched ≡ e.work.dispatched → record e { datagrams = [] } ≡ datagrams_step d
unfolding datagrams_step
looks-last d e h stays =
    ap (λ (x : DriverNow). record x { work = record x.work { dispatched = e.work.dispatched }; datagrams = [] }) h.same
    ∙ ap (λ (y : DispatchedNow). record d { work = record d.work { dispatched = y }; datagrams = [] }) (sym stays ∙ h.left)

pub shorter : (xs ys : List (List ℕ)) (x : List ℕ) → xs ≡ x ∷ ys → length ys < length xs
shorter xs ys x so = subst (λ (zs : List (List ℕ)). length ys < length zs) (sym so) (omega arith)

-- none is left, by their number
pub admits-empty : (xs : List (List ℕ)) (e : DispatchedNow) → length xs ≡ 0 → admit_each xs e ≡ e
admits-empty [] e none = refl
admits-empty (x ∷ xs) e none = absurd (omega (arith, none))

none-left : (xs : List (List ℕ)) → length xs ≡ 0 → xs ≡ []
none-left [] none = refl
none-left (x ∷ xs) none = absurd (omega (arith, none))

-- all were looked at
pub looks-through : (d e : DriverNow) (ys : List (List ℕ)) → Looks d e → length e.datagrams ≡ 0 → e.datagrams ≡ ys → record e { datagrams = ys } ≡ datagrams_step d
looks-through d e ys h none same = ap (λ (xs : List (List ℕ)). record e { datagrams = xs }) (sym same ∙ none-left e.datagrams none) ∙ looks-last d e h (admits-empty e.datagrams e.work.dispatched none)

-- a fault came with one of them, and the rest is dropped
pub looks-stopped : (d e : DriverNow) (ys : List (List ℕ)) → Looks d e → is_some e.work.dispatched.fault ≡ true → ys ≡ [] → record e { datagrams = ys } ≡ datagrams_step d
looks-stopped d e ys h over none = ap (λ (xs : List (List ℕ)). record e { datagrams = xs }) none ∙ looks-last d e h (admits-over e.datagrams e.work.dispatched over)
