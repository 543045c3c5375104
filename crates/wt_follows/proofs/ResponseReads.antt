-- The reader of a client's response: it reads its walk, and an end that it learned changes nothing of what it does next.
use Rattle.std.proofs.Common.{◌++◌, ◌+◌, ◌∙◌, ◌∷◌, ◌≡◌, Bool, IfSome, List, None, Option, Some, ℕ, [], ap, arith, drop, drop_of_length-le, false, inl, inr, length, refl, subst, suc, sym, take, true, zero}
use Rattle.std.proofs.lemmas.Bool.{true≢false}
use Rattle.std.specs.Prelude.{◌&&◌, ◌==◌, if◌then◌else◌, not, unwrap_or}
use Rattle.wt_follows.proofs.IsReader.{IsReader, is_walk_reader}
use Rattle.wt_follows.proofs.ReadLaws.{reads_to}
use Rattle.wt_follows.proofs.ReaderLaws.{fed-none, says-so-far, take-whole}
use Rattle.wt_follows.proofs.ReadsTo.{ReadsTo}
use Rattle.wt_follows.specs.Tie.{ReaderAt, ResponseAt}
use Rattle.wt_kept.specs.Readers.{ReadOn, ReaderRules, ResponseReading, consumed, fed_piece, is_end_reached, noted_if, read_on, reads_on_if, response_rules, taken, walk_rules}
use Rattle.wt_transport.proofs.Refining.{actions-contents, refined_end, refined_unread}
use Rattle.wt_transport.specs.State.{Refines, TransportState}
use Rattle.wt_transport.specs.Step.{end_now, unread_now}
use Rattle.wt_proto.proofs.ReadingLaws.{progress-stop}
use Rattle.wt_proto.proofs.ResponseReading.{response_lawful}
use Rattle.wt_proto.specs.ResponseWalk.{is_answered, is_response_final, response_decides, response_unfinished, response_walk_of}
use Rattle.wt_proto.specs.Steady.{IsLawful}
use Rattle.wt_proto.specs.WalkProgress.{WalkProgress, progress_over, reached_at, reached_in}
use Rattle.wt_proto.specs.Wanted.{frame_wants}
use Rattle.wt_proto.specs.declared.response_walk.ResponseWalk.{ResponseWalk}
use Rattle.wt_proto.specs.declared.response_walk.ResponseWalk.TheVariants.{Ended, Fault, Response, Waiting}
use Rattle.wt_follows.proofs.StreamEnds.{actions-events}
use Rattle.wt_turn.specs.Reports.{end_of, is_running}
use Rattle.wt_turn.specs.Streams.{contents}
use Rattle.wt_turn.specs.Unread.{AtOffset, ReadPosition, from_position}
use Rattle.wt_turn.specs.Log.{Log, events_of, with_actions}
use Rattle.wt_turn.specs.declared.action.Action.{Action}
use Rattle.wt_wire.specs.declared.side.Side.{Side}
use Rattle.wt_wire.specs.declared.side.StreamEnd.{StreamEnd}
use Rattle.wt_wire.specs.declared.side.StreamEnd.TheVariants.{Fin, Reset, Running}

-- ---- a reader to which an end is an answer

-- the same reader, to which the stream's end is an answer too
abbrev answer_rules : ReaderRules ResponseReading ResponseWalk
answer_rules = walk_rules 0 response_decides response_unfinished is_answered

answered : (o : ResponseWalk) → is_response_final o ≡ true → is_answered o ≡ true
answered Waiting e = absurd cc
answered (Response fields offset) e = refl
answered Ended e = absurd cc
answered (Fault code) e = refl

answer-by_end : (end : StreamEnd) (s t : ℕ) (b c : Bool) → is_answered (response_unfinished end s b) ≡ is_answered (response_unfinished end t c)
answer-by_end Running s t b c = refl
answer-by_end Fin s t b c = refl
answer-by_end (Reset code) s t b c = refl

answer-lawful : IsLawful 0 response_decides (frame_wants false) response_unfinished is_answered response_walk_of
answer-lawful = record {
  steady = response_lawful.steady;
  awaited = response_lawful.awaited;
  reaches = response_lawful.reaches;
  stops = λ s bytes o n e. answered o (response_lawful.stops s bytes o n e);
  by_end = answer-by_end;
}

answer-over : (end : StreamEnd) (s : ℕ) (b : Bool) → is_running end ≡ false → is_answered (response_unfinished end s b) ≡ true
answer-over Running s b e = absurd cc
answer-over Fin s b e = refl
answer-over (Reset code) s b e = refl

answer-reader : IsReader answer_rules is_answered response_walk_of
answer-reader = is_walk_reader 0 response_decides _ response_unfinished is_answered response_walk_of answer-lawful (λ s b. refl) answer-over

-- ---- what it says

pub says-at : (bytes : List ℕ) → response_rules.outcome (response_rules.fed response_rules.start bytes) ≡ response_walk_of bytes Running
says-at bytes = says-so-far answer_rules is_answered response_walk_of answer-reader bytes

pub says-ended : (bytes : List ℕ) (end : StreamEnd) → response_rules.outcome (response_rules.ended end (response_rules.fed response_rules.start bytes)) ≡ response_walk_of bytes end
says-ended bytes end = answer-reader.says bytes end

-- ---- where no end was learned both do the same

stopped-final : (s : ℕ) (stop : Option ResponseWalk) (skip : ℕ) (kept : List ℕ) → IfSome stop (λ o. is_response_final o ≡ true) → IfSome (reached_at s stop skip kept).stop (λ o. is_response_final o ≡ true)
stopped-final s stop (suc skip) kept h = tt
stopped-final s stop zero (b ∷ kept) h = tt
stopped-final s stop zero [] h = h

said-by : (stop : Option ResponseWalk) → IfSome stop (λ o. is_response_final o ≡ true) → is_response_final (unwrap_or stop Waiting) ≡ is_answered (unwrap_or stop Waiting)
said-by None h = refl
said-by (Some o) h = h ∙ sym (answered o h)

abbrev fed : List ℕ → ResponseReading
fed bytes = response_rules.fed response_rules.start bytes

abbrev progress : List ℕ → WalkProgress ℕ ResponseWalk
progress bytes = progress_over response_decides 0 None 0 bytes

said-alike : (bytes : List ℕ) → response_rules.has_said (fed bytes) ≡ answer_rules.has_said (fed bytes)
said-alike bytes = said-by (reached_in (progress bytes)).stop (stopped-final (progress bytes).state (progress bytes).stop (progress bytes).skip (progress bytes).kept
    (progress-stop response_decides (λ o. is_response_final o ≡ true) (λ s xs o n f. response_lawful.stops s xs o n f) bytes 0 None 0 tt))

taken-alike : (xs before : List ℕ) → taken response_rules (fed before) xs ≡ taken answer_rules (fed before) xs
taken-alike [] before = refl
taken-alike (x ∷ xs) before =
    let again : taken response_rules (response_rules.fed (fed before) (x ∷ [])) xs ≡ taken answer_rules (response_rules.fed (fed before) (x ∷ [])) xs =
    subst (λ (r : ResponseReading). taken response_rules r xs ≡ taken answer_rules r xs) (sym (answer-reader.more before (x ∷ []))) (taken-alike xs (before ++ x ∷ [])) in
    λ i. if said-alike before i then 0 else suc (again i)

read-alike : (t : TransportState) (k : ℕ) (before : List ℕ) → read_on response_rules k (fed before) t ≡ read_on answer_rules k (fed before) t
read-alike t k before = by (response_rules.has_said (fed before)) (answer_rules.has_said (fed before)) (said-alike before)
  where
    by : (a b : Bool) → a ≡ b → reads_on_if response_rules.has_said response_rules.fed response_rules.ended a k (fed before) t ≡ reads_on_if answer_rules.has_said response_rules.fed response_rules.ended b k (fed before) t
    by true true e = refl
    by true false e = absurd (true≢false e)
    by false true e = absurd (true≢false (sym e))
    by false false e = ap (λ n. record {
      reader = noted_if response_rules.ended (is_end_reached n t k) (end_now t k) (response_rules.fed (fed before) (take n (unread_now t k)));
      transport = consumed t k n;
    }) (taken-alike (unread_now t k) before)

at-answer : (r : ResponseReading) (bytes : List ℕ) (position : ReadPosition) → ReaderAt response_rules r 0 bytes position → ReaderAt answer_rules r 0 bytes position
at-answer r bytes position at = record { count = at.count; at_offset = at.at_offset; within = at.within; taken = at.taken; least = λ j lt. sym (said-alike (take j bytes)) ∙ at.least j lt }

at-response : (r : ResponseReading) (bytes : List ℕ) (position : ReadPosition) → ReaderAt answer_rules r 0 bytes position → ReaderAt response_rules r 0 bytes position
at-response r bytes position at = record { count = at.count; at_offset = at.at_offset; within = at.within; taken = at.taken; least = λ j lt. said-alike (take j bytes) ∙ at.least j lt }

-- ---- it reads on

abbrev offset-of : ReadPosition → ℕ
offset-of (AtOffset n) = n
offset-of _ = 0

-- It says what the walk over all that came and the end says; other streams are read as before.
pub record ResponseReads (side : Side) (t : TransportState) (log whole : Log) (position : ℕ → ReadPosition) (uncollected : List Action) (k : ℕ) (reader : ResponseReading) : Type 0 where
  pub position_then : ℕ → ReadPosition
  pub elsewhere : (j : ℕ) → (k == j) ≡ false → position_then j ≡ position j
  pub transport : Refines side (read_on response_rules k reader t).transport whole position_then uncollected
  pub says : response_rules.outcome (read_on response_rules k reader t).reader ≡ response_walk_of (contents log k) (end_of (events_of log) k)
  pub at_then : ResponseAt (read_on response_rules k reader t).reader (contents log k) (end_of (events_of log) k) (position_then k)

module _ (side : Side) (log : Log) (sent : List Action) (position : ℕ → ReadPosition) (uncollected : List Action) (t : TransportState) (refines : Refines side t (with_actions sent log) position uncollected) (k : ℕ) where
  abbrev bytes : List ℕ
  bytes = contents log k

  abbrev end : StreamEnd
  end = end_of (events_of log) k

  -- it learned no end yet
  from-front : (r : ResponseReading) → ReaderAt response_rules r 0 (contents log k) (position k) → ResponseReads side t log (with_actions sent log) position uncollected k r
  from-front r at =
      let x : ReadsTo answer_rules response_walk_of side t log (with_actions sent log) position uncollected k r 0 =
      reads_to answer_rules is_answered response_walk_of answer-reader side log sent position uncollected t refines k r 0 (at-answer r (contents log k) (position k) at) in
      let alike : read_on response_rules k r t ≡ read_on answer_rules k r t =
      subst (λ (v : ResponseReading). read_on response_rules k v t ≡ read_on answer_rules k v t) (sym at.taken) (read-alike t k (take at.count (contents log k))) in
      record {
        position_then = x.position_then;
        elsewhere = x.elsewhere;
        transport = subst (λ (y : ReadOn ResponseReading). Refines side y.transport (with_actions sent log) x.position_then uncollected) (sym alike) x.transport;
        says = ap (λ (y : ReadOn ResponseReading). response_rules.outcome y.reader) alike ∙ x.says;
        at_then = subst (λ (y : ReadOn ResponseReading). ResponseAt y.reader (contents log k) (end_of (events_of log) k) (x.position_then k)) (sym alike)
            (record { front = x.front; at_front = at-response x.front (contents log k) (x.position_then k) x.at_front; noted = x.noted });
      }

  -- it took all and learned the end
  module _ (r front : ResponseReading) (at : ReaderAt response_rules front 0 (contents log k) (position k)) (is : r ≡ response_rules.ended (end_of (events_of log) k) front)
      (over : is_running (end_of (events_of log) k) ≡ false) (whole : position k ≡ AtOffset (length (contents log k))) where
    unread-is : unread_now t k ≡ []
    unread-is = refined_unread side t (with_actions sent log) position uncollected refines k
        ∙ ((λ i. from_position (whole i) (actions-contents sent log i k)) ∙ drop_of_length-le (contents log k) (omega arith))

    end-is : end_now t k ≡ end
    end-is = refined_end side t (with_actions sent log) position uncollected refines k ∙ ap (λ es. end_of es k) (actions-events sent log)

    fed-nothing : response_rules.fed front [] ≡ front
    fed-nothing = ap (λ (v : ResponseReading). response_rules.fed v []) at.taken ∙ (fed-none answer_rules is_answered response_walk_of answer-reader (take at.count (contents log k)) ∙ sym at.taken)

    again : response_rules.ended end (response_rules.fed r []) ≡ r
    again = ap (λ (v : ResponseReading). response_rules.ended end (response_rules.fed v [])) is ∙ (ap (λ (v : ResponseReading). response_rules.ended end v) fed-nothing ∙ sym is)

    stays : read_on response_rules k r t ≡ record { reader = r; transport = t }
    stays = by (response_rules.has_said r)
      where
        by : (b : Bool) → reads_on_if response_rules.has_said response_rules.fed response_rules.ended b k r t ≡ record { reader = r; transport = t }
        by true = refl
        by false =
            (λ i. record {
              reader = noted_if response_rules.ended (not (is_running (end-is i)) && taken response_rules r (unread-is i) == length (unread-is i)) (end-is i) (fed_piece response_rules r (unread-is i));
              transport = consumed t k (taken response_rules r (unread-is i));
            })
            ∙ ((λ i. record { reader = noted_if response_rules.ended (not (over i) && true) end (response_rules.fed r []); transport = t })
            ∙ (λ i. record { reader = again i; transport = t }))

    all-taken : take at.count (contents log k) ≡ contents log k
    all-taken = take-whole at.count (contents log k) (let same : 0 + at.count ≡ length (contents log k) = ap offset-of (sym at.at_offset ∙ whole) in omega (arith, same))

    says-whole : response_rules.outcome r ≡ response_walk_of (contents log k) (end_of (events_of log) k)
    says-whole = ap response_rules.outcome (is ∙ ap (λ (v : ResponseReading). response_rules.ended end v) (at.taken ∙ ap fed all-taken)) ∙ answer-reader.says (contents log k) end

    from-end : ResponseReads side t log (with_actions sent log) position uncollected k r
    from-end = record {
      position_then = position;
      elsewhere = λ j e. refl;
      transport = subst (λ (y : ReadOn ResponseReading). Refines side y.transport (with_actions sent log) position uncollected) (sym stays) refines;
      says = ap (λ (y : ReadOn ResponseReading). response_rules.outcome y.reader) stays ∙ says-whole;
      at_then = subst (λ (y : ReadOn ResponseReading). ResponseAt y.reader (contents log k) (end_of (events_of log) k) (position k)) (sym stays) (record { front = front; at_front = at; noted = inr (is, over, whole) });
    }

  pub response_reads : (r : ResponseReading) → ResponseAt r (contents log k) (end_of (events_of log) k) (position k) → ResponseReads side t log (with_actions sent log) position uncollected k r
  response_reads r at = elim at.noted [
    | inl e ↦ subst (λ (v : ResponseReading). ResponseReads side t log (with_actions sent log) position uncollected k v) (sym e) (from-front at.front at.at_front)
    | inr e ↦ from-end r at.front at.at_front e.0 e.1 e.2
  ]

-- a reader that took nothing
pub fresh-response : (bytes : List ℕ) (end : StreamEnd) → ResponseAt response_rules.start bytes end (AtOffset 0)
fresh-response bytes end = record {
  front = response_rules.start;
  at_front = record { count = 0; at_offset = refl; within = omega arith; taken = refl; least = λ k lt. absurd (omega (arith, lt)) };
  noted = inl refl;
}
