-- The header of a unidirectional stream is read from its own bytes, and a verdict that isn't Incomplete stays.
use Rattle.std.proofs.Common.{◌≡◌, ℕ, ◌+◌, true, List, [], ◌∷◌, ◌++◌, Option, Some, None, ◌==◌, refl, sym, ap, ◌∙◌}
use Rattle.wt_wire.specs.declared.side.StreamEnd.{StreamEnd}
use Rattle.wt_wire.specs.declared.side.StreamEnd.TheVariants.{Running}
use Rattle.wt_proto.specs.declared.verdict.Verdict.{Verdict}
use Rattle.wt_proto.specs.declared.walk.Step.TheVariants.{Cut, Stops}
use Rattle.wt_proto.specs.FrameSteps.{step_of_item}
use Rattle.wt_proto.specs.WalkProgress.{WalkProgress, reached_in}
use Rattle.wt_proto.specs.Steady.{IsSteady}
use Rattle.wt_proto.specs.Uni.{header_by_type, is_final, or_at_stream_end, session_header_at, session_verdict, typed_header_at, uni_decides, uni_effect, uni_header_at, uni_unfinished, uni_verdict_of}
use Rattle.wt_proto.specs.Walk.{Reached, outcome_at, whole_walk}
use Rattle.wt_proto.proofs.FrameLaws.{IsEffect, IsReader, items-steady}
use Rattle.wt_proto.proofs.ProgressLaws.{progress-cut, progress-stopped, walk-progress}
use Rattle.wt_proto.proofs.TypedHeaders.{Chooses, IsTyped, alone, by, goes-on, header-reader, header-within}
use Rattle.wt_proto.proofs.WalkLaws.{outcome-stays}

by_type-chooses : (kind offset : ℕ) → Chooses offset (header_by_type kind offset)
by_type-chooses kind offset =
    by offset (kind == 0x00) (alone offset _) (by offset (kind == 0x02) (alone offset _) (by offset (kind == 0x03) (alone offset _) (by offset (kind == 0x54) (goes-on offset) (alone offset _))))

header-typed : IsTyped session_header_at header_by_type typed_header_at
header-typed = record {
  made = λ offset s. session_verdict s.0 (offset + s.1);
  no-session = λ offset. refl;
  a-session = λ offset s. refl;
  no-type = λ xs. refl;
  a-type = λ xs t. refl;
  chooses = by_type-chooses;
}

uni-reader : IsReader uni_header_at
uni-reader = header-reader session_header_at header_by_type typed_header_at header-typed

pub uni-effect : IsEffect uni_effect
uni-effect = record { size_is = λ s n v. refl }

pub uni-steady : IsSteady uni_decides
unfolding uni_decides
uni-steady = items-steady uni_header_at uni-reader uni_effect uni-effect

-- the verdict is that of the walk of one item
verdict-by : (bytes : List ℕ) (end : StreamEnd) (h : Option (Verdict × ℕ)) → uni_header_at bytes ≡ h → or_at_stream_end end h ≡ outcome_at uni_unfinished end (whole_walk uni_decides tt bytes)
unfolding uni_decides
verdict-by bytes end None e =
    let is_cut : uni_decides tt bytes ≡ Cut = ap (λ (x : Option (Verdict × ℕ)). step_of_item (uni_effect tt) x) e in
    sym (ap (λ (r : Reached (Unit {0}) Verdict). outcome_at uni_unfinished end r) (walk-progress uni_decides bytes tt None 0)
    ∙ ap (λ (p : WalkProgress (Unit {0}) Verdict). outcome_at uni_unfinished end (reached_in p)) (progress-cut uni_decides tt bytes is_cut) ∙ open-cut bytes)
  where
    open-cut : (kept : List ℕ) → outcome_at uni_unfinished end (reached_in (record { state = tt; stop = None; skip = 0; kept = kept })) ≡ or_at_stream_end end None
    open-cut [] = refl
    open-cut (b ∷ kept) = refl
verdict-by bytes end (Some h) e =
    let stops : uni_decides tt bytes ≡ Stops h.0 h.1 = ap (λ (x : Option (Verdict × ℕ)). step_of_item (uni_effect tt) x) e in
    sym (ap (λ (r : Reached (Unit {0}) Verdict). outcome_at uni_unfinished end r) (walk-progress uni_decides bytes tt None 0)
    ∙ ap (λ (p : WalkProgress (Unit {0}) Verdict). outcome_at uni_unfinished end (reached_in p))
    (progress-stopped uni_decides uni-steady tt h.0 h.1 bytes stops (header-within session_header_at header_by_type typed_header_at header-typed bytes h e)))

pub uni-reaches : (bytes : List ℕ) (end : StreamEnd) → uni_verdict_of bytes end ≡ outcome_at uni_unfinished end (whole_walk uni_decides tt bytes)
unfolding uni_verdict_of
uni-reaches bytes end = verdict-by bytes end (uni_header_at bytes) refl

pub uni_verdict_stays : (bytes more : List ℕ) (end : StreamEnd) → is_final (uni_verdict_of bytes Running) ≡ true → uni_verdict_of (bytes ++ more) end ≡ uni_verdict_of bytes Running
uni_verdict_stays bytes more end final =
    uni-reaches (bytes ++ more) end
    ∙ (outcome-stays uni_decides uni-steady tt uni_unfinished (λ v. is_final v) (λ s b. refl) bytes more end (ap (λ (v : Verdict). is_final v) (sym (uni-reaches bytes Running)) ∙ final)
    ∙ sym (uni-reaches bytes Running))
