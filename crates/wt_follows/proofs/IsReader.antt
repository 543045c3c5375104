-- What holds of each reader that a driver keeps: it reads a walk, however its bytes are cut.
use Rattle.std.proofs.Common.{◌∙◌, ◌≡◌, ◌++◌, ◌∷◌, Bool, IfSome, List, None, Option, Some, [], ap, false, is_some, refl, suc, sym, true, zero, ℕ}
use Rattle.std.specs.Prelude.{◌==◌, if◌then◌else◌, unwrap_or}
use Rattle.wt_kept.specs.Readers.{ReaderRules, bi_rules, control_rules, session_rules, uni_rules, walk_rules}
use Rattle.wt_message.specs.declared.settings.Settings.{Settings}
use Rattle.wt_proto.specs.SessionWalk.{SessionProgress, is_over, session_at_end, session_start, session_unfinished, session_walk_of}
use Rattle.wt_proto.proofs.BiReading.{bi_lawful}
use Rattle.wt_proto.proofs.ControlReading.{control_lawful}
use Rattle.wt_proto.proofs.ProgressLaws.{fed-append, walk-progress}
use Rattle.wt_proto.proofs.ReadingLaws.{progress-stop}
use Rattle.wt_proto.proofs.UniReading.{uni_lawful}
use Rattle.wt_proto.proofs.WalkLaws.{outcome-stays}
use Rattle.wt_proto.specs.Bi.{bi_decides, bi_unfinished, bi_verdict_of}
use Rattle.wt_proto.specs.ControlWalk.{control_decides, control_unfinished, control_walk_of}
use Rattle.wt_proto.specs.Steady.{IsLawful}
use Rattle.wt_proto.specs.Uni.{is_final, uni_decides, uni_unfinished, uni_verdict_of}
use Rattle.wt_proto.specs.Walk.{Reached, outcome_at}
use Rattle.wt_proto.specs.WalkProgress.{WalkProgress, progress_over, reached_at, reached_in}
use Rattle.wt_proto.specs.declared.control_walk.ControlWalk.{ControlWalk}
use Rattle.wt_proto.specs.declared.session_walk.SessionWalk.{SessionWalk}
use Rattle.wt_proto.specs.declared.walk.Step.{Step}
use Rattle.wt_turn.specs.Reports.{is_running}
use Rattle.wt_proto.proofs.SessionPieces.{stop_over}
use Rattle.wt_proto.proofs.SessionReaderLaws.{fed-follows, session_reader_says, start-follows}
use Rattle.wt_proto.proofs.SessionSteady.{session_walk_stays}
use Rattle.wt_proto.specs.SessionReader.{Faulty, HeaderWalk, IsSettled, Payload, SessionReader, Waiting, byte_fed, byte_step, past_frames, session_ended, session_fed, session_reader, session_said, stop_in}
use Rattle.wt_proto.specs.declared.session_walk.SessionWalk.TheVariants as walks
use Rattle.wt_wire.specs.declared.error.ErrorCode.TheVariants.{ClosedCriticalStream}
use Rattle.wt_wire.specs.declared.side.StreamEnd.{StreamEnd}
use Rattle.wt_wire.specs.declared.side.StreamEnd.TheVariants.{Fin, Reset, Running}

-- its value rests on all bytes that it took, and what it says is what the walk over them and the end says; what is final stays, and so
-- is all that is said once an end is known
pub record IsReader {V O : Type 0} (w : ReaderRules V O) (final : O → Bool) (walk_of : List ℕ → StreamEnd → O) : Type 0 where
  pub said : (r : V) → w.has_said r ≡ final (w.outcome r)
  pub nothing : w.fed w.start [] ≡ w.start
  pub more : (xs ys : List ℕ) → w.fed (w.fed w.start xs) ys ≡ w.fed w.start (xs ++ ys)
  pub running : (bytes : List ℕ) → w.ended Running (w.fed w.start bytes) ≡ w.fed w.start bytes
  pub says : (bytes : List ℕ) (end : StreamEnd) → w.outcome (w.ended end (w.fed w.start bytes)) ≡ walk_of bytes end
  pub stays : (bytes more : List ℕ) (end : StreamEnd) → final (walk_of bytes Running) ≡ true → walk_of (bytes ++ more) end ≡ walk_of bytes Running
  pub ends : (bytes : List ℕ) (end : StreamEnd) → is_running end ≡ false → final (walk_of bytes end) ≡ true

-- ---- the readers of walks

module _ {S O : Type 0} (start : S) (decide : S → List ℕ → Step S O) (wants : List ℕ → ℕ) (unfinished : StreamEnd → S → Bool → O) (final : O → Bool) (walk_of : List ℕ → StreamEnd → O)
    (lawful : IsLawful start decide wants unfinished final walk_of) (goes : (s : S) (b : Bool) → final (unfinished Running s b) ≡ false)
    (over : (end : StreamEnd) (s : S) (b : Bool) → is_running end ≡ false → final (unfinished end s b) ≡ true) where
  stopped-final : (s : S) (stop : Option O) (skip : ℕ) (kept : List ℕ) → IfSome stop (λ o. final o ≡ true) → IfSome (reached_at s stop skip kept).stop (λ o. final o ≡ true)
  stopped-final s stop (suc skip) kept h = tt
  stopped-final s stop zero (b ∷ kept) h = tt
  stopped-final s stop zero [] h = h

  said-final : (end : StreamEnd) → is_running end ≡ false → (s : S) (b : Bool) (stop : Option O) → IfSome stop (λ o. final o ≡ true) → final (unwrap_or stop (unfinished end s b)) ≡ true
  said-final end e s b None h = over end s b e
  said-final end e s b (Some o) h = h

  abbrev progress : List ℕ → WalkProgress S O
  progress bytes = progress_over decide start None 0 bytes

  pub is_walk_reader : IsReader (walk_rules start decide unfinished final) final walk_of
  is_walk_reader = record {
    said = λ r. refl;
    nothing = refl;
    more = λ xs ys. ap (λ (p : WalkProgress S O). record { progress = p; end = Running }) (fed-append decide lawful.steady xs ys start None 0);
    running = λ bytes. refl;
    says = λ bytes end. ap (λ (r : Reached S O). outcome_at unfinished end r) (sym (walk-progress decide bytes start None 0)) ∙ sym (lawful.reaches bytes end);
    stays = λ bytes more end f.
        lawful.reaches (bytes ++ more) end
        ∙ (outcome-stays decide lawful.steady start unfinished final goes bytes more end (ap final (sym (lawful.reaches bytes Running)) ∙ f) ∙ sym (lawful.reaches bytes Running));
    ends = λ bytes end e.
        ap final (lawful.reaches bytes end ∙ ap (λ (r : Reached S O). outcome_at unfinished end r) (walk-progress decide bytes start None 0))
        ∙ said-final end e _ _ (reached_in (progress bytes)).stop
        (stopped-final (progress bytes).state (progress bytes).stop (progress bytes).skip (progress bytes).kept (progress-stop decide (λ o. final o ≡ true) (λ s xs o n f. lawful.stops s xs o n f) bytes start None 0 tt));
  }

uni-over : (end : StreamEnd) (s : Unit {0}) (b : Bool) → is_running end ≡ false → is_final (uni_unfinished end s b) ≡ true
uni-over Running s b e = absurd cc
uni-over Fin s b e = refl
uni-over (Reset code) s b e = refl

bi-over : (end : StreamEnd) (s : ℕ) (b : Bool) → is_running end ≡ false → is_final (bi_unfinished end s b) ≡ true
bi-over Running s b e = absurd cc
bi-over Fin s b e = refl
bi-over (Reset code) s b e = refl

control-over : (end : StreamEnd) (s : Option Settings) (b : Bool) → is_running end ≡ false → is_some (control_unfinished end s b).fault ≡ true
control-over Running s b e = absurd cc
control-over Fin s b e = refl
control-over (Reset code) s b e = refl

pub uni_reader : IsReader uni_rules is_final uni_verdict_of
uni_reader = is_walk_reader tt uni_decides _ uni_unfinished is_final uni_verdict_of uni_lawful (λ s b. refl) uni-over

pub bi_reader : IsReader bi_rules is_final bi_verdict_of
bi_reader = is_walk_reader 0 bi_decides _ bi_unfinished is_final bi_verdict_of bi_lawful (λ s b. refl) bi-over

pub control_reader : IsReader control_rules (λ (c : ControlWalk). is_some c.fault) control_walk_of
control_reader = is_walk_reader None control_decides _ control_unfinished (λ (c : ControlWalk). is_some c.fault) control_walk_of control_lawful (λ s b. refl) control-over

-- ---- a session's reader

fed-twice : (xs ys : List ℕ) (r : SessionReader) → session_fed (session_fed r xs) ys ≡ session_fed r (xs ++ ys)
unfolding session_fed
fed-twice [] ys r = refl
fed-twice (x ∷ xs) ys r = fed-twice xs ys (byte_fed r (stop_in r) x)

past-end : (r : SessionReader) (h : WalkProgress (Unit {0}) HeaderWalk) (o : Option HeaderWalk) → (past_frames r h o).end ≡ r.end
past-end r h None = refl
past-end r h (Some Waiting) = refl
past-end r h (Some (Payload size)) = refl
past-end r h (Some (Faulty code)) = refl

step-end : (r : SessionReader) (left byte : ℕ) → (byte_step r left byte).end ≡ r.end
step-end r zero byte = past-end r _ _
step-end r (suc left) byte = refl

byte-end : (r : SessionReader) (o : Option SessionWalk) (byte : ℕ) → (byte_fed r o byte).end ≡ r.end
byte-end r None byte = step-end r r.data_left byte
byte-end r (Some w) byte = refl

fed-end : (bytes : List ℕ) (r : SessionReader) → (session_fed r bytes).end ≡ r.end
unfolding session_fed
fed-end [] r = refl
fed-end (b ∷ bytes) r = fed-end bytes (byte_fed r (stop_in r) b) ∙ byte-end r (stop_in r) b

at-end-over : (b : Bool) → is_over (session_at_end b) ≡ true
at-end-over true = refl
at-end-over false = refl

choice-over : (b c : Bool) → is_over (if b then session_at_end c else walks.Fault ClosedCriticalStream) ≡ true
choice-over true c = at-end-over c
choice-over false c = refl

unfinished-over : (end : StreamEnd) (s : SessionProgress) (b : Bool) → is_running end ≡ false → is_over (session_unfinished end s b) ≡ true
unfinished-over Running s b e = absurd cc
unfinished-over Fin s false e = refl
unfinished-over Fin s true e = choice-over (s.data_left == 0) (reached_in s.capsules).between
unfinished-over (Reset code) s b e = refl

said-over : (r : SessionReader) (end : StreamEnd) → is_running end ≡ false → IsSettled r → is_over (session_said (session_ended end r)) ≡ true
said-over r end e settled = by (stop_in r) refl
  where
    by : (o : Option SessionWalk) → stop_in r ≡ o → is_over (unwrap_or o (session_unfinished end (record { data_left = r.data_left; capsules = r.capsules }) (reached_in r.headers).between)) ≡ true
    by None f = unfinished-over end _ _ e
    by (Some w) f = stop_over r w settled f

session-over : (bytes : List ℕ) (end : StreamEnd) → is_running end ≡ false → is_over (session_walk_of bytes end) ≡ true
session-over bytes end e =
    ap is_over (sym (session_reader_says (session_ended end (session_fed session_reader bytes)) bytes end refl))
    ∙ said-over (session_fed session_reader bytes) end e (fed-follows bytes [] session_start session_reader start-follows).settled

none-fed : session_fed session_reader [] ≡ session_reader
unfolding session_fed
none-fed = refl

pub session_reader_is : IsReader session_rules is_over session_walk_of
session_reader_is = record {
  said = λ r. refl;
  nothing = none-fed;
  more = λ xs ys. fed-twice xs ys session_reader;
  running = λ bytes. ap (λ (end : StreamEnd). session_ended end (session_fed session_reader bytes)) (sym (fed-end bytes session_reader));
  says = λ bytes end. session_reader_says (session_ended end (session_fed session_reader bytes)) bytes end refl;
  stays = session_walk_stays;
  ends = session-over;
}
