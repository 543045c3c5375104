-- The parts of a piece, and turns and calls, from what the parts of the driver did.
use Rattle.std.proofs.Common.{[], ◌-◌, take, ◌&&◌, ◌∙◌, ◌≡◌, ◌≤◌, ◌==◌, ◌∷◌, true≢false, Bool, List, None, Option, Some, ap, arith, drop, false, if◌then◌else◌, length, refl, subst, suc, sym, true, ℕ}
use Rattle.std.proofs.lemmas.List.{take_rest}
use Rattle.wt_kept.specs.Calling.{close_now, end_session_now, awaits_answer_now, refuse_session_now, refused_by, lawful_turn, open_turn, turn_now, with_datagram_queued, with_turn}
use Rattle.wt_kept.specs.Classifying.{with_dispatched}
use Rattle.wt_kept.specs.Ending.{finish_and_retire, forget_session, retire_now}
use Rattle.wt_kept.specs.Kept.{ArrivingNow, DispatchedNow, DriverNow, Ended, LiveNow, Refused, WorkNow}
use Rattle.wt_kept.specs.Moment.{moment_now, with_work}
use Rattle.wt_kept.specs.Pieces.{FedNow, TookPart, after_header, body_fed, body_feed, body_feed_by, body_part, body_part_if, bytes_fit_now, control_slot, fed_at, fed_slots, header_fed, header_feed, header_part, rest_part, slot_of, take_piece_now, with_bytes_if, work_after}
use Rattle.wt_kept.specs.Readers.{BiReading, ControlReading, ReaderRules, Slot, UniReading, bi_rules, control_rules, session_rules, taken_by, uni_rules}
use Rattle.wt_kept.specs.Windows.{live_in, lives_now}
use Rattle.wt_transport.specs.State.{TransportState}
use Rattle.wt_transport.specs.Step.{after_bytes, after_close, after_turn, fits_now}
use Rattle.wt_turn.specs.declared.turn.Turn.{Turn}
use Rattle.wt_turn.specs.declared.turn.Turn.TheVariants as turns
use Rattle.wt_wire.specs.Ids.{is_bidirectional}

-- ---- the reader of a header

pub feed-bi : {d now : DriverNow} → d ≡ now → (id : ℕ) (piece : List ℕ) (x : Option FedNow) → is_bidirectional id ≡ true → x ≡ fed_at bi_rules piece (slot_of id d.bis.reading) → x ≡ header_feed id piece now
feed-bi {d} at id piece x two so =
    so ∙ (sym (ap (λ (b : Bool). if b then fed_at bi_rules piece (slot_of id d.bis.reading) else fed_at uni_rules piece (slot_of id d.unis.reading)) two) ∙ ap (header_feed id piece) at)

pub feed-uni : {d now : DriverNow} → d ≡ now → (id : ℕ) (piece : List ℕ) (x : Option FedNow) → is_bidirectional id ≡ false → x ≡ fed_at uni_rules piece (slot_of id d.unis.reading) → x ≡ header_feed id piece now
feed-uni {d} at id piece x one so =
    so ∙ (sym (ap (λ (b : Bool). if b then fed_at bi_rules piece (slot_of id d.bis.reading) else fed_at uni_rules piece (slot_of id d.unis.reading)) one) ∙ ap (header_feed id piece) at)

pub fed-bi : {d now : DriverNow} → d ≡ now → (id : ℕ) (piece : List ℕ) (a : ArrivingNow BiReading) → is_bidirectional id ≡ true
    → a ≡ record d.bis { reading = fed_slots bi_rules id piece d.bis.reading } → record d { bis = a } ≡ header_fed id piece now
fed-bi {d} at id piece a two so =
    ap (λ (x : ArrivingNow BiReading). record d { bis = x }) so
    ∙ (sym (ap (λ (b : Bool). if b then record d { bis = record d.bis { reading = fed_slots bi_rules id piece d.bis.reading } } else record d { unis = record d.unis { reading = fed_slots uni_rules id piece d.unis.reading } }) two)
    ∙ ap (header_fed id piece) at)

pub fed-uni : {d now : DriverNow} → d ≡ now → (id : ℕ) (piece : List ℕ) (a : ArrivingNow UniReading) → is_bidirectional id ≡ false
    → a ≡ record d.unis { reading = fed_slots uni_rules id piece d.unis.reading } → record d { unis = a } ≡ header_fed id piece now
fed-uni {d} at id piece a one so =
    ap (λ (x : ArrivingNow UniReading). record d { unis = x }) so
    ∙ (sym (ap (λ (b : Bool). if b then record d { bis = record d.bis { reading = fed_slots bi_rules id piece d.bis.reading } } else record d { unis = record d.unis { reading = fed_slots uni_rules id piece d.unis.reading } }) one)
    ∙ ap (header_fed id piece) at)

-- ---- how many bytes a reader takes

pub taken-within : {V : Type 0} (said : V → Bool) (fed : V → List ℕ → V) (r : V) (piece : List ℕ) → taken_by said fed r piece ≤ length piece
taken-within said fed r [] = omega arith
taken-within {V} said fed r (byte ∷ bytes) = within (said r) (taken-within said fed (fed r (byte ∷ [])) bytes)
  where
    within : (b : Bool) → taken_by said fed (fed r (byte ∷ [])) bytes ≤ length bytes → (if b then 0 else suc (taken_by said fed (fed r (byte ∷ [])) bytes)) ≤ suc (length bytes)
    within true h = omega arith
    within false h = omega (arith, h)

-- no more than these were taken
abbrev pub TakesUpTo : ℕ → Option FedNow → Type 0
TakesUpTo n None = Unit {0}
TakesUpTo n (Some x) = x.taken ≤ n

pub at-within : {V O : Type 0} (w : ReaderRules V O) (piece : List ℕ) (x : Option (Slot V)) → TakesUpTo (length piece) (fed_at w piece x)
at-within w piece None = tt
at-within w piece (Some x) = taken-within w.has_said w.fed x.reader piece

pub header-within : (id : ℕ) (piece : List ℕ) (d : DriverNow) → TakesUpTo (length piece) (header_feed id piece d)
header-within id piece d = by-kind (is_bidirectional id)
  where
    by-kind : (b : Bool) → TakesUpTo (length piece) (if b then fed_at bi_rules piece (slot_of id d.bis.reading) else fed_at uni_rules piece (slot_of id d.unis.reading))
    by-kind true = at-within bi_rules piece (slot_of id d.bis.reading)
    by-kind false = at-within uni_rules piece (slot_of id d.unis.reading)

pub body-within-by : (piece : List ℕ) (c : Option (Slot ControlReading)) (l : Option LiveNow) → TakesUpTo (length piece) (body_feed_by piece c l)
body-within-by piece (Some x) l = taken-within control_rules.has_said control_rules.fed x.reader piece
body-within-by piece None (Some x) = taken-within session_rules.has_said session_rules.fed x.reader piece
body-within-by piece None None = tt

pub body-within : (id : ℕ) (piece : List ℕ) (d : DispatchedNow) → TakesUpTo (length piece) (body_feed id piece d)
body-within id piece d = body-within-by piece (control_slot id d.critical.control) (live_in d.sessions id)

pub work-within : (n : ℕ) (x : Option FedNow) (d : DriverNow) → TakesUpTo n x → (work_after x d).taken ≤ n
work-within n None d h = omega arith
work-within n (Some x) d h = h

pub not-none : (n : ℕ) → (suc n == 0) ≡ false
not-none n = grind arith

-- ---- the parts

-- bytes were fed to the reader of a header, and the moment of the last of them was worked
pub header-so : (id : ℕ) (piece : List ℕ) (d a : DriverNow) (x : Option FedNow) (p : TookPart) → (length piece == 0) ≡ false → x ≡ header_feed id piece d → a ≡ header_fed id piece d → p ≡ work_after x a → p ≡ header_part id piece d
unfolding header_part
header-so id [] d a x p some f h e = absurd (true≢false some)
header-so id (byte ∷ bytes) d a x p some f h e = e ∙ (λ i. work_after (f i) (h i))

-- the same of a body
pub body-so : (id : ℕ) (piece : List ℕ) (d a : DriverNow) (x : Option FedNow) (p : TookPart) → d.work.transport.is_open ≡ true → (length piece == 0) ≡ false → x ≡ body_feed id piece d.work.dispatched
    → a ≡ with_work (with_dispatched (body_fed id piece)) d → p ≡ work_after x a → p ≡ body_part id piece d
unfolding body_part
body-so id [] d a x p open_ some f h e = absurd (true≢false some)
body-so id (byte ∷ bytes) d a x p open_ some f h e =
    e ∙ ((λ i. work_after (f i) (h i)) ∙ sym (ap (λ (b : Bool). body_part_if b id (byte ∷ bytes) d) open_))

-- a whole piece was taken
pub piece-so : (id : ℕ) (piece : List ℕ) (d a b c : DriverNow) (m n : ℕ) → record { taken = m; driver = a } ≡ header_part id piece d → record { taken = n; driver = b } ≡ body_part id (drop m piece) a
    → c ≡ rest_part id (drop n (drop m piece)) b → c ≡ take_piece_now id piece d
unfolding take_piece_now
piece-so id piece d a b c m n h e r =
    r ∙ (ap (λ (x : TookPart). rest_part id (drop x.taken (drop m piece)) x.driver) e ∙ ap (λ (x : TookPart). after_header id (drop x.taken piece) x.driver) h)

-- nothing was put before it
pub header-none : (id : ℕ) (piece : List ℕ) (d : DriverNow) → (length piece == 0) ≡ true → record { taken = 0; driver = d } ≡ header_part id piece d
unfolding header_part
header-none id [] d none = refl
header-none id (byte ∷ bytes) d none = absurd (true≢false (sym none ∙ not-none (length bytes)))

pub body-none : (id : ℕ) (piece : List ℕ) (d : DriverNow) → d.work.transport.is_open ≡ true → (length piece == 0) ≡ true → record { taken = 0; driver = d } ≡ body_part id piece d
unfolding body_part
body-none id [] d open_ none = sym (ap (λ (b : Bool). body_part_if b id [] d) open_)
body-none id (byte ∷ bytes) d open_ none = absurd (true≢false (sym none ∙ not-none (length bytes)))

-- the connection isn't open
pub body-over : (id : ℕ) (piece : List ℕ) (d : DriverNow) → d.work.transport.is_open ≡ false → record { taken = 0; driver = d } ≡ body_part id piece d
unfolding body_part
body-over id piece d over = sym (ap (λ (b : Bool). body_part_if b id piece d) over)

-- how many of a part are taken
header-takes : (id : ℕ) (piece : List ℕ) (d : DriverNow) → (header_part id piece d).taken ≤ length piece
unfolding header_part
header-takes id [] d = omega arith
header-takes id (byte ∷ bytes) d =
    work-within (length (byte ∷ bytes)) (header_feed id (byte ∷ bytes) d) (header_fed id (byte ∷ bytes) d) (header-within id (byte ∷ bytes) d)

body-takes : (id : ℕ) (piece : List ℕ) (d : DriverNow) → (body_part id piece d).taken ≤ length piece
unfolding body_part
body-takes id piece d = by d.work.transport.is_open piece
  where
    by : (b : Bool) (xs : List ℕ) → (body_part_if b id xs d).taken ≤ length xs
    by false xs = omega arith
    by true [] = omega arith
    by true (byte ∷ bytes) =
        work-within (length (byte ∷ bytes)) (body_feed id (byte ∷ bytes) d.work.dispatched) (with_work (with_dispatched (body_fed id (byte ∷ bytes))) d)
        (body-within id (byte ∷ bytes) d.work.dispatched)

pub header-fits : (id : ℕ) (piece : List ℕ) (d a : DriverNow) (m : ℕ) → record { taken = m; driver = a } ≡ header_part id piece d → m ≤ length piece
header-fits id piece d a m e = subst (λ (k : ℕ). k ≤ length piece) (sym (ap (λ (p : TookPart). p.taken) e)) (header-takes id piece d)

pub body-fits : (id : ℕ) (piece : List ℕ) (d a : DriverNow) (m : ℕ) → record { taken = m; driver = a } ≡ body_part id piece d → m ≤ length piece
body-fits id piece d a m e = subst (λ (k : ℕ). k ≤ length piece) (sym (ap (λ (p : TookPart). p.taken) e)) (body-takes id piece d)

-- ---- the rest

pub rest-none : (id : ℕ) (piece : List ℕ) (d : DriverNow) → (length piece == 0) ≡ true → d ≡ rest_part id piece d
unfolding rest_part
rest-none id [] d none = refl
rest-none id (byte ∷ bytes) d none = absurd (true≢false (sym none ∙ not-none (length bytes)))

pub rest-so : {d now : DriverNow} → d ≡ now → (id : ℕ) (piece : List ℕ) (t : TransportState) → (length piece == 0) ≡ false → bytes_fit_now d.work.transport id ≡ true → t ≡ after_bytes d.work.transport id piece
    → record d { work = record d.work { transport = t } } ≡ rest_part id piece now
unfolding rest_part
rest-so at id [] t some fits so = absurd (true≢false some)
rest-so {d} at id (byte ∷ bytes) t some fits so =
    ap (λ (x : TransportState). record d { work = record d.work { transport = x } }) (so ∙ sym (ap (λ (b : Bool). with_bytes_if b id (byte ∷ bytes) d.work.transport) fits))
    ∙ ap (rest_part id (byte ∷ bytes)) at

pub rest-drops : {d now : DriverNow} → d ≡ now → (id : ℕ) (piece : List ℕ) → (length piece == 0) ≡ false → bytes_fit_now d.work.transport id ≡ false → d ≡ rest_part id piece now
unfolding rest_part
rest-drops at id [] some fits = absurd (true≢false some)
rest-drops {d} at id (byte ∷ bytes) some fits =
    ap (λ (x : TransportState). record d { work = record d.work { transport = x } }) (sym (ap (λ (b : Bool). with_bytes_if b id (byte ∷ bytes) d.work.transport) fits))
    ∙ ap (rest_part id (byte ∷ bytes)) at

-- ---- turns

-- it may not come
pub turn-not : (turn : Turn) (d : DriverNow) → fits_now d.work.transport turn ≡ false → d ≡ turn_now turn d
unfolding turn_now
turn-not turn d not_ = sym (ap (λ (b : Bool). if b then lawful_turn turn d else d) not_)

pub turn-fits : (turn : Turn) (d a : DriverNow) → fits_now d.work.transport turn ≡ true → a ≡ lawful_turn turn d → a ≡ turn_now turn d
unfolding turn_now
turn-fits turn d a fits so = so ∙ sym (ap (λ (b : Bool). if b then lawful_turn turn d else d) fits)

pub turn-over : {d now : DriverNow} → d ≡ now → (turn : Turn) (t : TransportState) → fits_now d.work.transport turn ≡ true → d.work.transport.is_open ≡ false → t ≡ after_turn d.work.transport turn
    → record d { work = record d.work { transport = t } } ≡ turn_now turn now
turn-over {d} at turn t fits over so =
    turn-fits turn d _ fits (ap (λ (x : TransportState). record d { work = record d.work { transport = x } }) so ∙ sym (ap (λ (b : Bool). if b then open_turn turn d else with_turn turn d) over))
    ∙ ap (turn_now turn) at

pub turn-open : (turn : Turn) (d a : DriverNow) → fits_now d.work.transport turn ≡ true → d.work.transport.is_open ≡ true → a ≡ open_turn turn d → a ≡ turn_now turn d
turn-open turn d a fits open_ so = turn-fits turn d a fits (so ∙ sym (ap (λ (b : Bool). if b then open_turn turn d else with_turn turn d) open_))

pub turn-other : (turn : Turn) (d : DriverNow) → ((id : ℕ) (piece : List ℕ) → turn ≡ turns.Bytes id piece → ⊥) → moment_now (with_datagram_queued turn (with_turn turn d)) ≡ open_turn turn d
turn-other (turns.Connected uni bi credit datagrams) d other = refl
turn-other turns.PeerUni d other = refl
turn-other turns.PeerBi d other = refl
turn-other (turns.Bytes id piece) d other = absurd (other id piece refl)
turn-other (turns.End id) d other = refl
turn-other (turns.Reset id code) d other = refl
turn-other (turns.Stop id code) d other = refl
turn-other (turns.Acked id) d other = refl
turn-other (turns.Datagram piece) d other = refl
turn-other (turns.MaxUni total) d other = refl
turn-other (turns.MaxBi total) d other = refl
turn-other (turns.MaxData id total) d other = refl
turn-other (turns.DatagramLimit fact) d other = refl
turn-other (turns.Loss reason) d other = refl
turn-other (turns.Call call) d other = refl

-- ---- sessions and the end

abbrev pub ends_by : Bool → Bool → ℕ → DriverNow → DriverNow
ends_by open_ may s d = if open_ && may then with_work (finish_and_retire s Ended) d else d

pub end-over : {d now : DriverNow} → d ≡ now → (s : ℕ) → d.work.transport.is_open ≡ false → d ≡ end_session_now s now
unfolding end_session_now
end-over {d} at s over = sym (ap (λ (b : Bool). ends_by b (lives_now d.work.dispatched.sessions s) s d) over) ∙ ap (end_session_now s) at

pub end-not : {d now : DriverNow} → d ≡ now → (s : ℕ) → d.work.transport.is_open ≡ true → lives_now d.work.dispatched.sessions s ≡ false → d ≡ end_session_now s now
unfolding end_session_now
end-not {d} at s open_ not_ = sym (λ i. ends_by (open_ i) (not_ i) s d) ∙ ap (end_session_now s) at

pub end-so : {d now : DriverNow} → d ≡ now → (s : ℕ) (t : TransportState) (e : DispatchedNow) → d.work.transport.is_open ≡ true → lives_now d.work.dispatched.sessions s ≡ true
    → ◌≡◌ {A = WorkNow} (record { transport = t; dispatched = e }) (finish_and_retire s Ended d.work) → record d { work = record { transport = t; dispatched = e } } ≡ end_session_now s now
unfolding end_session_now
end-so {d} at s t e open_ lives so = ap (λ (w : WorkNow). record d { work = w }) so ∙ (sym (λ i. ends_by (open_ i) (lives i) s d) ∙ ap (end_session_now s) at)

abbrev pub refuses_by : Bool → Bool → ℕ → DriverNow → DriverNow
refuses_by awaits open_ s d = if awaits then with_work (refused_by open_ s) d else d

pub refuse-not : {d now : DriverNow} → d ≡ now → (s : ℕ) → awaits_answer_now s d.work.dispatched ≡ false → d ≡ refuse_session_now s now
unfolding refuse_session_now
refuse-not {d} at s not_ = sym (ap (λ (b : Bool). refuses_by b d.work.transport.is_open s d) not_) ∙ ap (refuse_session_now s) at

pub refuse-so : {d now : DriverNow} → d ≡ now → (s : ℕ) (t : TransportState) (e : DispatchedNow) → awaits_answer_now s d.work.dispatched ≡ true → d.work.transport.is_open ≡ true
    → ◌≡◌ {A = WorkNow} (record { transport = t; dispatched = e }) (retire_now s Refused d.work) → record d { work = record { transport = t; dispatched = e } } ≡ refuse_session_now s now
unfolding refuse_session_now
refuse-so {d} at s t e awaits open_ so = ap (λ (w : WorkNow). record d { work = w }) so ∙ (sym (λ i. refuses_by (awaits i) (open_ i) s d) ∙ ap (refuse_session_now s) at)

pub refuse-over : {d now : DriverNow} → d ≡ now → (s : ℕ) (e : DispatchedNow) → awaits_answer_now s d.work.dispatched ≡ true → d.work.transport.is_open ≡ false
    → e ≡ forget_session s Refused d.work.dispatched → record d { work = record d.work { dispatched = e } } ≡ refuse_session_now s now
unfolding refuse_session_now
refuse-over {d} at s e awaits over so =
    ap (λ (x : DispatchedNow). record d { work = record d.work { dispatched = x } }) so ∙ (sym (λ i. refuses_by (awaits i) (over i) s d) ∙ ap (refuse_session_now s) at)

-- the connection was closed
pub closed-so : {d now : DriverNow} → d ≡ now → (t : TransportState) (xs : List (List ℕ)) (code : ℕ) (reason : List ℕ) → t ≡ after_close d.work.transport code reason → xs ≡ []
    → record d { work = record d.work { transport = t }; datagrams = xs } ≡ close_now code reason now
unfolding close_now
closed-so {d} at t xs code reason so none = (λ i. record d { work = record d.work { transport = so i }; datagrams = none i }) ∙ ap (close_now code reason) at

-- ---- the same, as the code comes to it

pub body-fed-so : {d now : DriverNow} → d ≡ now → (id : ℕ) (piece : List ℕ) (e : DispatchedNow) (x : Option FedNow) (p : TookPart) → d.work.transport.is_open ≡ true → (length piece == 0) ≡ false
    → x ≡ body_feed id piece d.work.dispatched → e ≡ body_fed id piece d.work.dispatched → p ≡ work_after x (record d { work = record d.work { dispatched = e } }) → p ≡ body_part id piece now
body-fed-so {d} at id piece e x p open_ some f h w =
    body-so id piece d _ x p open_ some f (ap (λ (y : DispatchedNow). record d { work = record d.work { dispatched = y } }) h) w ∙ ap (body_part id piece) at

pub turn-bytes : (turn : Turn) (d a : DriverNow) (id : ℕ) (piece bytes : List ℕ) → fits_now d.work.transport turn ≡ true → d.work.transport.is_open ≡ true → turn ≡ turns.Bytes id piece → bytes ≡ piece
    → a ≡ take_piece_now id bytes d → a ≡ turn_now turn d
turn-bytes turn d a id piece bytes fits open_ is same so =
    turn-open turn d a fits open_ (so ∙ (ap (λ (b : List ℕ). take_piece_now id b d) same ∙ sym (ap (λ (t : Turn). open_turn t d) is)))

pub turn-moment : {d now : DriverNow} → d ≡ now → (turn : Turn) (t : TransportState) (q m : DriverNow) → fits_now d.work.transport turn ≡ true → d.work.transport.is_open ≡ true
    → ((id : ℕ) (piece : List ℕ) → turn ≡ turns.Bytes id piece → ⊥) → t ≡ after_turn d.work.transport turn
    → q ≡ with_datagram_queued turn (record d { work = record d.work { transport = t } }) → m ≡ moment_now q → m ≡ turn_now turn now
turn-moment {d} at turn t q m fits open_ other took queued works =
    turn-open turn d m fits open_
    (works ∙ (ap moment_now (queued ∙ ap (λ (x : TransportState). with_datagram_queued turn (record d { work = record d.work { transport = x } })) took) ∙ turn-other turn d other))
    ∙ ap (turn_now turn) at

-- the slices that the code takes of the piece are what is left of it
pub piece-taken : (id : ℕ) (piece : List ℕ) (d a b c : DriverNow) (m n : ℕ) → record { taken = m; driver = a } ≡ header_part id piece d
    → record { taken = n; driver = b } ≡ body_part id (take (length piece - m) (drop m piece)) a
    → c ≡ rest_part id (take (length (take (length piece - m) (drop m piece)) - n) (drop n (take (length piece - m) (drop m piece)))) b → c ≡ take_piece_now id piece d
piece-taken id piece d a b c m n h e r =
    piece-so id piece d a b c m n h (e ∙ ap (λ (xs : List ℕ). body_part id xs a) (take_rest piece m))
    (r ∙ (ap (λ (xs : List ℕ). rest_part id xs b) (take_rest (take (length piece - m) (drop m piece)) n) ∙ ap (λ (xs : List ℕ). rest_part id (drop n xs) b) (take_rest piece m)))
