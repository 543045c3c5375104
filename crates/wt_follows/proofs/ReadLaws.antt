-- Reading on, by the laws of readers: what it leads to by the tie, and what it says of a session's end and of SETTINGS.
use Rattle.std.proofs.Common.{◌++◌, ◌+◌, ◌-◌, ◌<◌, ◌∙◌, ◌∷◌, ◌≡◌, ◌≤◌, Bool, List, None, Option, Some, ℕ, [], add-zero, ap, append-nil, append_assoc, arith, drop, drop-drop, false, inl, inr, is_some, length, length-drop, refl, subst, suc, sym, take, take-add, take-append-drop, true, zero}
use Rattle.std.proofs.lemmas.Bool.{cases_lt, eqb-true, true≢false}
use Rattle.std.specs.Prelude.{◌&&◌, ◌==◌, ◌⊎◌, if◌then◌else◌, not, unwrap_or}
use Rattle.wt_follows.proofs.IsReader.{IsReader, control_reader, session_reader_is}
use Rattle.wt_follows.proofs.ControlStep.{ReadsControl, SettingsStay}
use Rattle.wt_follows.proofs.Lists.{same}
use Rattle.wt_follows.proofs.ReaderLaws.{after-runs, at-runs, at-says, reader_after, reads-on, says-so-far, taken-none, taken-runs, taken-within}
use Rattle.wt_follows.proofs.ReadsTo.{ReadsTo}
use Rattle.wt_follows.proofs.SessionStep.{ReadsSession}
use Rattle.wt_follows.proofs.SessionsStep.{ReadsSessions}
use Rattle.wt_follows.proofs.StreamEnds.{actions-events}
use Rattle.wt_follows.specs.Tie.{ReaderAt}
use Rattle.wt_kept.specs.Looking.{closes, is_closed_by_capsule}
use Rattle.wt_kept.specs.Readers.{ControlReading, control_rules, session_rules, ReadOn, ReaderRules, consumed, fed_piece, noted_if, read_on, taken}
use Rattle.wt_transport.proofs.Refining.{actions-contents, consume_refines, refined_end, refined_unread}
use Rattle.wt_transport.specs.State.{Refines, TransportState}
use Rattle.wt_transport.specs.Step.{end_now, unread_now}
use Rattle.wt_message.specs.declared.settings.Settings.{Settings}
use Rattle.wt_proto.specs.SessionWalk.{is_over, session_unfinished, session_walk_of}
use Rattle.wt_proto.proofs.ControlLaws.{settings_stay}
use Rattle.wt_proto.specs.ControlWalk.{control_walk_of}
use Rattle.wt_proto.specs.WalkProgress.{reached_in}
use Rattle.wt_proto.specs.declared.control_walk.ControlWalk.{ControlWalk}
use Rattle.wt_proto.specs.declared.session_walk.SessionWalk.{SessionWalk}
use Rattle.wt_proto.specs.SessionReader.{Faulty, HeaderWalk, Payload, SessionReader, Waiting, first_stop, session_ended, session_said}
use Rattle.wt_proto.specs.declared.session_walk.SessionWalk.TheVariants as walks
use Rattle.wt_turn.specs.Reports.{end_of, is_running}
use Rattle.wt_turn.specs.Streams.{contents}
use Rattle.wt_turn.specs.Unread.{AtOffset, GivenUp, ReadPosition, advance, from_position, position_after}
use Rattle.wt_turn.specs.Log.{Log, events_of, with_actions}
use Rattle.wt_turn.specs.declared.action.Action.{Action}
use Rattle.wt_wire.specs.declared.side.Side.{Side}
use Rattle.wt_wire.specs.declared.side.StreamEnd.{StreamEnd}
use Rattle.wt_wire.specs.declared.side.StreamEnd.TheVariants.{Running}

take-length : (xs : List ℕ) → take (length xs) xs ≡ xs
take-length [] = refl
take-length (x ∷ xs) = ap (λ ys. x ∷ ys) (take-length xs)

module _ {V O : Type 0} (w : ReaderRules V O) (final : O → Bool) (walk_of : List ℕ → StreamEnd → O) (is : IsReader w final walk_of) (side : Side) (log : Log) (sent : List Action) (position : ℕ → ReadPosition) (uncollected : List Action) (t : TransportState)
    (refines : Refines side t (with_actions sent log) position uncollected) (k : ℕ) (r : V) (offset : ℕ) (at : ReaderAt w r offset (contents log k) (position k)) where
  abbrev rest : List ℕ
  rest = from_position (position k) (contents log k)

  abbrev end : StreamEnd
  end = end_of (events_of log) k

  abbrev count : ℕ
  count = taken w r rest

  abbrev before : List ℕ
  before = take at.count (drop offset (contents log k))

  unread-is : unread_now t k ≡ rest
  unread-is = refined_unread side t (with_actions sent log) position uncollected refines k ∙ ap (λ (c : ℕ → List ℕ). from_position (position k) (c k)) (actions-contents sent log)

  end-is : end_now t k ≡ end
  end-is = refined_end side t (with_actions sent log) position uncollected refines k ∙ ap (λ es. end_of es k) (actions-events sent log)

  pub read-is : read_on w k r t ≡ record { reader = reader_after w final walk_of is r rest end; transport = consumed t k count }
  read-is = reads-on w final walk_of is t k r ∙ (λ i. record { reader = reader_after w final walk_of is r (unread-is i) (end-is i); transport = consumed t k (taken w r (unread-is i)) })

  abbrev after : ℕ → ReadPosition
  after = position_after position k count

  after-here : after k ≡ advance count (position k)
  after-here = ap (λ (c : Bool). if c then advance count (position k) else position k) (same k)

  advance-none : (p : ReadPosition) → advance 0 p ≡ p
  advance-none (AtOffset m) = ap AtOffset (add-zero m)
  advance-none GivenUp = refl

  none-moved : (j : ℕ) (c : Bool) → (if c then advance 0 (position j) else position j) ≡ position j
  none-moved j true = advance-none (position j)
  none-moved j false = refl

  refines-by : (m : ℕ) → m ≤ length (unread_now t k) → Refines side (consumed t k m) (with_actions sent log) (position_after position k m) uncollected
  refines-by zero le = subst (λ (p : ℕ → ReadPosition). Refines side t (with_actions sent log) p uncollected) (λ i j. sym (none-moved j (k == j)) i) refines
  refines-by (suc m) le = consume_refines side t (with_actions sent log) position uncollected refines k (suc m) le

  refines-then : Refines side (consumed t k count) (with_actions sent log) after uncollected
  refines-then = refines-by count (subst (λ (ys : List ℕ). count ≤ length ys) (sym unread-is) (taken-within w final walk_of is rest r))

  -- what was taken, before an end
  rest-is : rest ≡ drop at.count (drop offset (contents log k))
  rest-is = ap (λ (p : ReadPosition). from_position p (contents log k)) at.at_offset ∙ sym (drop-drop at.count offset (contents log k))

  prefix-is : before ++ take count rest ≡ take (at.count + count) (drop offset (contents log k))
  prefix-is = ap (λ ys. before ++ take count ys) rest-is ∙ sym (take-add at.count count (drop offset (contents log k)))

  said-is : (bytes : List ℕ) → w.has_said (w.fed w.start bytes) ≡ final (walk_of bytes Running)
  said-is bytes = is.said (w.fed w.start bytes) ∙ ap final (says-so-far w final walk_of is bytes)

  rest-long : offset + at.count + length rest ≡ length (contents log k)
  rest-long = (let le = at.within in let e = ap length rest-is in omega (arith, le, e, length-drop at.count (drop offset (contents log k)), length-drop offset (contents log k)))

  not-least : (j : ℕ) → j < at.count + count → w.has_said (w.fed w.start (take j (drop offset (contents log k)))) ≡ false
  not-least j lt = elim (cases_lt j at.count) [
    | inl less ↦ at.least j less
    | inr more ↦
        let m : ℕ = j - at.count in
        let few : m < taken w (w.fed w.start before) rest = subst (λ (v : V). m < taken w v rest) at.taken (omega (arith, lt, more)) in
        let cut : before ++ take m rest ≡ take j (drop offset (contents log k)) =
        ap (λ ys. before ++ take m ys) rest-is ∙ (sym (take-add at.count m (drop offset (contents log k))) ∙ ap (λ n. take n (drop offset (contents log k))) (let e : at.count + m ≡ j = omega (arith, more) in e)) in
        ap (λ ys. w.has_said (w.fed w.start ys)) (sym cut) ∙ (said-is (before ++ take m rest) ∙ taken-runs w final walk_of is rest before m few)
  ]

  front-at : ReaderAt w (w.fed w.start (before ++ take count rest)) offset (contents log k) (after k)
  front-at = record {
    count = at.count + count;
    at_offset = after-here ∙ (ap (advance count) at.at_offset ∙ ap AtOffset (let e : offset + at.count + count ≡ offset + (at.count + count) = omega arith in e));
    within = (let long = rest-long in let le = taken-within w final walk_of is rest r in omega (arith, long, le));
    taken = ap (λ ys. w.fed w.start ys) prefix-is;
    least = not-least;
  }

  piece-is : fed_piece w r rest ≡ w.fed w.start (before ++ take count rest)
  piece-is = ap (λ (v : V). w.fed v (take count rest)) at.taken ∙ is.more before (take count rest)

  -- it learned the end, or it didn't
  noted-by : (b : Bool) → w.has_said r ≡ b → ((if b then r else noted_if w.ended (not (is_running end) && count == length rest) end (fed_piece w r rest)) ≡ w.fed w.start (before ++ take count rest))
      ⊎ (((if b then r else noted_if w.ended (not (is_running end) && count == length rest) end (fed_piece w r rest)) ≡ w.ended end (w.fed w.start (before ++ take count rest))) × (is_running end ≡ false) × (after k ≡ AtOffset (length (contents log k))))
  noted-by true e = inl (at.taken ∙ ap (λ ys. w.fed w.start ys) (sym (append-nil before) ∙ ap (λ n. before ++ take n rest) (sym (taken-none w final walk_of is r rest e))))
  noted-by false e = by (is_running end) refl (count == length rest) refl
    where
      by : (b : Bool) → is_running end ≡ b → (c : Bool) → (count == length rest) ≡ c → (noted_if w.ended (not b && c) end (fed_piece w r rest) ≡ w.fed w.start (before ++ take count rest))
          ⊎ ((noted_if w.ended (not b && c) end (fed_piece w r rest) ≡ w.ended end (w.fed w.start (before ++ take count rest))) × (b ≡ false) × (after k ≡ AtOffset (length (contents log k))))
      by true f c g = inl piece-is
      by false f false g = inl piece-is
      by false f true g = inr (
        ap (λ (v : V). w.ended end v) piece-is,
        refl,
        after-here ∙ (ap (advance count) at.at_offset ∙ ap AtOffset (let long = rest-long in let all = eqb-true count (length rest) g in let e : offset + at.count + count ≡ length (contents log k) = omega (arith, long, all) in e)),
      )

  pub reads_to : ReadsTo w walk_of side t log (with_actions sent log) position uncollected k r offset
  reads_to = record {
    position_then = after;
    elsewhere = λ j e. ap (λ (c : Bool). if c then advance count (position j) else position j) e;
    transport = subst (λ (x : ReadOn V). Refines side x.transport (with_actions sent log) after uncollected) (sym read-is) refines-then;
    says = ap (λ (x : ReadOn V). w.outcome x.reader) read-is ∙ at-says w final walk_of is r offset (contents log k) (position k) end at;
    front = w.fed w.start (before ++ take count rest);
    at_front = front-at;
    noted = subst (λ (x : ReadOn V). (x.reader ≡ w.fed w.start (before ++ take count rest)) ⊎ ((x.reader ≡ w.ended end (w.fed w.start (before ++ take count rest))) × (is_running end ≡ false) × (after k ≡ AtOffset (length (contents log k)))))
        (sym read-is) (noted-by (w.has_said r) refl);
    no_end = λ e.
        let runs = after-runs w final walk_of is r before rest end at.taken (ap (λ (x : ReadOn V). w.has_said x.reader) (sym read-is) ∙ e) in
        ap (λ (x : ReadOn V). x.reader) read-is ∙ (runs.1 ∙ ap (λ ys. w.fed w.start (before ++ ys)) (sym (ap (λ n. take n rest) runs.0 ∙ take-length rest)));
    read_all = λ e. after-here ∙ (at-runs w final walk_of is r offset (contents log k) (position k) end at (ap (λ (x : ReadOn V). w.has_said x.reader) (sym read-is) ∙ e)).1;
  }

-- ---- SETTINGS that were seen stay

pub settings-stay : (log : Log) (r : ControlReading) (offset k : ℕ) (position : ReadPosition) → ReaderAt control_rules r offset (contents log k) position → SettingsStay log r offset k
settings-stay log r offset k position at e = by (control_walk_of (take at.count (drop offset (contents log k))) Running).settings refl
  where
    seen : control_rules.outcome r ≡ control_walk_of (take at.count (drop offset (contents log k))) Running
    seen = ap control_rules.outcome at.taken ∙ says-so-far control_rules (λ (c : ControlWalk). is_some c.fault) control_walk_of control_reader (take at.count (drop offset (contents log k)))

    by : (o : Option Settings) → (control_walk_of (take at.count (drop offset (contents log k))) Running).settings ≡ o → is_some (control_walk_of (drop offset (contents log k)) (end_of (events_of log) k)).settings ≡ true
    by None f = absurd (true≢false (sym e ∙ (ap (λ (c : ControlWalk). is_some c.settings) seen ∙ ap is_some f)))
    by (Some x) f = ap (λ ys. is_some (control_walk_of ys (end_of (events_of log) k)).settings) (sym (take-append-drop at.count (drop offset (contents log k))))
        ∙ ap is_some (settings_stay (take at.count (drop offset (contents log k))) (drop at.count (drop offset (contents log k))) Running (end_of (events_of log) k) x f)

-- ---- a capsule closed the session, or the end did

by-stops : (c : Option SessionWalk) (h : Option HeaderWalk) (otherwise : SessionWalk) (code : ℕ) (reason : List ℕ) → unwrap_or (first_stop c h) otherwise ≡ walks.Closed code reason
    → closes c ≡ is_over (unwrap_or (first_stop c h) walks.Running)
by-stops (Some o) h otherwise code reason e = ap (λ x. closes (Some x)) e ∙ sym (ap is_over e)
by-stops None None otherwise code reason e = refl
by-stops None (Some Waiting) otherwise code reason e = refl
by-stops None (Some (Payload size)) otherwise code reason e = refl
by-stops None (Some (Faulty fault)) otherwise code reason e = absurd cc

-- of a reader that says how the session was closed
capsule-closed : (v : SessionReader) (code : ℕ) (reason : List ℕ) → session_said v ≡ walks.Closed code reason → is_closed_by_capsule v ≡ is_over (session_said (session_ended Running v))
capsule-closed v code reason e = by-stops (reached_in v.capsules).stop (reached_in v.headers).stop
    (session_unfinished v.end (record { data_left = v.data_left; capsules = v.capsules }) (reached_in v.headers).between) code reason e

module _ (side : Side) (log : Log) (sent : List Action) (position : ℕ → ReadPosition) (uncollected : List Action) (t : TransportState)
    (refines : Refines side t (with_actions sent log) position uncollected) (k : ℕ) (r : SessionReader) (offset : ℕ) (at : ReaderAt session_rules r offset (contents log k) (position k)) where
  abbrev its_bytes : List ℕ
  its_bytes = drop offset (contents log k)

  abbrev its_rest : List ℕ
  its_rest = from_position (position k) (contents log k)

  abbrev its_end : StreamEnd
  its_end = end_of (events_of log) k

  abbrev its_front : List ℕ
  its_front = take at.count (drop offset (contents log k))

  abbrev number : ℕ
  number = taken session_rules r its_rest

  whole : its_front ++ its_rest ≡ its_bytes
  whole = ap (λ ys. its_front ++ ys) (rest-is session_rules is_over session_walk_of session_reader_is side log sent position uncollected t refines k r offset at) ∙ take-append-drop at.count (drop offset (contents log k))

  -- bytes that close the session are followed by what changes nothing
  ends-same : (xs ys : List ℕ) (code : ℕ) (reason : List ℕ) → xs ++ ys ≡ its_bytes → session_walk_of xs Running ≡ walks.Closed code reason → session_walk_of its_bytes Running ≡ session_walk_of xs Running
  ends-same xs ys code reason e f = ap (λ zs. session_walk_of zs Running) (sym e) ∙ session_reader_is.stays xs ys Running (ap is_over f)

  -- of the reader of these bytes, without its end
  fed-says : (xs : List ℕ) → session_said (session_ended Running (session_rules.fed session_rules.start xs)) ≡ session_walk_of xs Running
  fed-says xs = ap session_said (session_reader_is.running xs) ∙ says-so-far session_rules is_over session_walk_of session_reader_is xs

  fed-closes : (xs ys : List ℕ) (v : SessionReader) (code : ℕ) (reason : List ℕ) → v ≡ session_rules.fed session_rules.start xs → xs ++ ys ≡ its_bytes → session_said v ≡ walks.Closed code reason
      → session_said (session_ended Running v) ≡ session_walk_of its_bytes Running
  fed-closes xs ys v code reason is e f =
      ap (λ x. session_said (session_ended Running x)) is ∙ (fed-says xs
      ∙ sym (ends-same xs ys code reason e (sym (says-so-far session_rules is_over session_walk_of session_reader_is xs) ∙ (ap session_said (sym is) ∙ f))))

  piece-fed : fed_piece session_rules r its_rest ≡ session_rules.fed session_rules.start (its_front ++ take number its_rest)
  piece-fed = ap (λ v. session_rules.fed v (take number its_rest)) at.taken ∙ session_reader_is.more its_front (take number its_rest)

  pieces-whole : (its_front ++ take number its_rest) ++ drop number its_rest ≡ its_bytes
  pieces-whole = append_assoc its_front (take number its_rest) (drop number its_rest) ∙ (ap (λ ys. its_front ++ ys) (take-append-drop number its_rest) ∙ whole)

  -- what the reader says without the end is what the walk without the end says
  running-says : (code : ℕ) (reason : List ℕ) (said : Bool) (note : Bool) → (note ≡ true → number ≡ length its_rest)
      → session_said (if said then r else noted_if session_ended note its_end (fed_piece session_rules r its_rest)) ≡ walks.Closed code reason
      → session_said (session_ended Running (if said then r else noted_if session_ended note its_end (fed_piece session_rules r its_rest))) ≡ session_walk_of its_bytes Running
  running-says code reason true note all e = fed-closes its_front its_rest r code reason at.taken whole e
  running-says code reason false false all e = fed-closes (its_front ++ take number its_rest) (drop number its_rest) (fed_piece session_rules r its_rest) code reason piece-fed pieces-whole e
  running-says code reason false true all e =
      ap (λ x. session_said (session_ended Running x)) (piece-fed ∙ ap (λ ys. session_rules.fed session_rules.start (its_front ++ ys)) (ap (λ n. take n its_rest) (all refl) ∙ take-length its_rest))
      ∙ (fed-says (its_front ++ its_rest) ∙ ap (λ zs. session_walk_of zs Running) whole)

  ended-whole : (not (is_running its_end) && number == length its_rest) ≡ true → number ≡ length its_rest
  ended-whole e = eqb-true number (length its_rest) (second (not (is_running its_end)) (number == length its_rest) e)
    where
      second : (a b : Bool) → (a && b) ≡ true → b ≡ true
      second true b f = f
      second false b f = absurd (true≢false (sym f))

  pub session-reads : ReadsSession side log sent position uncollected t k r offset
  session-reads = record {
    reads = reads_to session_rules is_over session_walk_of session_reader_is side log sent position uncollected t refines k r offset at;
    capsule = λ code reason e.
        let is = ap (λ (x : ReadOn SessionReader). x.reader) (read-is session_rules is_over session_walk_of session_reader_is side log sent position uncollected t refines k r offset at) in
        capsule-closed (read_on session_rules k r t).reader code reason e
        ∙ ap is_over (ap (λ v. session_said (session_ended Running v)) is
        ∙ running-says code reason (session_rules.has_said r) (not (is_running its_end) && number == length its_rest) ended-whole (ap session_said (sym is) ∙ e));
  }

-- ---- what the steps ask for

pub reads-sessions : (side : Side) (log : Log) → ReadsSessions side log
reads-sessions side log sent position uncollected t k r offset refines at = session-reads side log sent position uncollected t refines k r offset at

pub reads-control : (side : Side) (log : Log) (sent : List Action) (position : ℕ → ReadPosition) (uncollected : List Action) (t : TransportState) → ReadsControl side log sent position uncollected t
reads-control side log sent position uncollected t k r offset refines at =
    reads_to control_rules (λ (c : ControlWalk). is_some c.fault) control_walk_of control_reader side log sent position uncollected t refines k r offset at
