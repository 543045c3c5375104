-- The walk over a session's stream, a step of it at a time.
use Rattle.std.specs.Prelude.{[], ◌&&◌, ◌+◌, ◌==◌, ◌∷◌, ◌||◌, ◌≡◌, Bool, Err, List, None, Ok, Option, Some, drop, false, if◌then◌else◌, length, nat_le, nat_lt, suc, take, true, ℕ}
use Rattle.std.proofs.Common.{ap, refl}
use Rattle.std.proofs.lemmas.Bool.{eqb-true}
use Rattle.wt_proto.specs.SessionWalk.{SessionProgress, capsule_decides, capsule_with_length, capsule_with_type, frame_step_with_length, frame_step_with_type, session_decides, session_start, session_unfinished, session_walk_of}
use Rattle.wt_message.specs.Capsule.{close_of}
use Rattle.wt_proto.specs.Walk.{outcome_at, whole_walk}
use Rattle.wt_proto.specs.WalkProgress.{WalkProgress, at_item, progress_after, reached_in}
use Rattle.wt_proto.specs.declared.session_walk.SessionWalk.{SessionWalk}
use Rattle.wt_proto.specs.declared.walk.Step.{Step}
use Rattle.wt_wire.specs.Varint.{varint_at}
use Rattle.wt_wire.specs.declared.side.StreamEnd.{StreamEnd}
use Rattle.wt_proto.specs.declared.session_walk.SessionWalk.TheVariants as walks
use Rattle.wt_proto.specs.declared.walk.Step.TheVariants.{Cut, Goes, Stops}
use Rattle.wt_wire.specs.declared.error.ErrorCode.TheVariants as h3

pub walk_is : (bytes : List ℕ) (end : StreamEnd) → session_walk_of bytes end ≡ outcome_at session_unfinished end (whole_walk session_decides (record { data_left = 0; capsules = at_item tt }) bytes)
unfolding session_walk_of
walk_is bytes end = refl

pub start_is : session_start ≡ record { data_left = 0; capsules = at_item tt }
start_is = refl

pub byte_decides : (left : ℕ) (capsules : WalkProgress (Unit {0}) SessionWalk) (b : ℕ) (bytes : List ℕ) → session_decides (record { data_left = suc left; capsules = capsules }) (b ∷ bytes)
    ≡ elim (reached_in (progress_after capsule_decides capsules (b ∷ []))).stop [
      | Some outcome ↦ Stops outcome 1
      | None ↦ Goes (record { data_left = left; capsules = progress_after capsule_decides capsules (b ∷ []) }) 1
    ]
unfolding session_decides
byte_decides left capsules b bytes = by (reached_in (progress_after capsule_decides capsules (b ∷ []))).stop refl
  where
    by : (o : Option SessionWalk) → (reached_in (progress_after capsule_decides capsules (b ∷ []))).stop ≡ o → session_decides (record { data_left = suc left; capsules = capsules }) (b ∷ bytes)
        ≡ elim (reached_in (progress_after capsule_decides capsules (b ∷ []))).stop [
          | Some outcome ↦ Stops outcome 1
          | None ↦ Goes (record { data_left = left; capsules = progress_after capsule_decides capsules (b ∷ []) }) 1
        ]
    by (Some w) e = rw e refl
    by None e = rw e refl

-- a frame of this type and length
abbrev Framed : WalkProgress (Unit {0}) SessionWalk → ℕ → ℕ → ℕ → Step SessionProgress SessionWalk
Framed capsules kind header size = if kind == 0 then Goes (record { data_left = size; capsules = capsules }) header
    else if (kind == 1 || kind == 4) && nat_lt 4096 size then Stops (walks.Fault h3.ExcessiveLoad) header
    else if kind == 4 then Stops (walks.Fault h3.FrameUnexpected) (header + size) else Goes (record { data_left = 0; capsules = capsules }) (header + size)

tests : (d k s l : Bool) (x e u y : Step SessionProgress SessionWalk) → (s ≡ true → k ≡ false)
    → (if d then x else (if d || k || s then (if l then e else (if s then u else y)) else y)) ≡ (if d then x else if (k || s) && l then e else if s then u else y)
tests true k s l x e u y a = refl
tests false true true l x e u y a = absurd (let r = a refl in cc r)
tests false true false true x e u y a = refl
tests false true false false x e u y a = refl
tests false false true true x e u y a = refl
tests false false true false x e u y a = refl
tests false false false l x e u y a = refl

apart : (kind : ℕ) → (kind == 4) ≡ true → (kind == 1) ≡ false
apart kind e = rw (eqb-true kind 4 e) refl

of-length : (capsules : WalkProgress (Unit {0}) SessionWalk) (kind offset : ℕ) (o : Option (ℕ × ℕ)) → frame_step_with_length capsules kind offset o
    ≡ elim o [ None ↦ Cut | Some l ↦ Framed capsules kind (offset + l.1) l.0 ]
of-length capsules kind offset None = refl
of-length capsules kind offset (Some l) = tests (kind == 0) (kind == 1) (kind == 4) (nat_lt 4096 l.0) _ _ _ _ (apart kind)

of-type : (capsules : WalkProgress (Unit {0}) SessionWalk) (bytes : List ℕ) (o : Option (ℕ × ℕ)) → frame_step_with_type capsules bytes o
    ≡ elim o [ None ↦ Cut | Some t ↦ if t.0 == 0x41 then Stops (walks.Fault h3.FrameUnexpected) t.1 else elim (varint_at (drop t.1 bytes)) [ None ↦ Cut | Some l ↦ Framed capsules t.0 (t.1 + l.1) l.0 ] ]
of-type capsules bytes None = refl
of-type capsules bytes (Some t) =
    ap (λ (s : Step SessionProgress SessionWalk). if t.0 == 0x41 then Stops (walks.Fault h3.FrameUnexpected) t.1 else s) (of-length capsules t.0 t.1 (varint_at (drop t.1 bytes)))

pub frame_decides : (capsules : WalkProgress (Unit {0}) SessionWalk) (b : ℕ) (bytes : List ℕ) → session_decides (record { data_left = 0; capsules = capsules }) (b ∷ bytes)
    ≡ elim (varint_at (b ∷ bytes)) [
      | None ↦ Cut
      | Some t ↦ if t.0 == 0x41 then Stops (walks.Fault h3.FrameUnexpected) t.1 else elim (varint_at (drop t.1 (b ∷ bytes))) [
        | None ↦ Cut
        | Some l ↦
            if t.0 == 0 then Goes (record { data_left = l.0; capsules = capsules }) (t.1 + l.1)
            else if (t.0 == 1 || t.0 == 4) && nat_lt 4096 l.0 then Stops (walks.Fault h3.ExcessiveLoad) (t.1 + l.1)
            else if t.0 == 4 then Stops (walks.Fault h3.FrameUnexpected) (t.1 + l.1 + l.0) else Goes (record { data_left = 0; capsules = capsules }) (t.1 + l.1 + l.0)
      ]
    ]
unfolding session_decides
frame_decides capsules b bytes = of-type capsules (b ∷ bytes) (varint_at (b ∷ bytes))

-- a capsule of this type and length
abbrev Capsule : List ℕ → ℕ → ℕ → ℕ → Step (Unit {0}) SessionWalk
Capsule bytes kind header size = if kind == 0x2843 then (if nat_le 4 size && nat_le size 1028 then (if nat_lt (length bytes) (header + size) then Cut
    else Stops (elim (close_of (take size (drop header bytes))) [ Ok close ↦ walks.Closed close.error_code close.reason | Err fault ↦ walks.Fault fault ]) (header + size))
    else Stops (walks.Fault h3.Message) header) else Goes tt (header + size)

of-capsule-length : (bytes : List ℕ) (kind offset : ℕ) (o : Option (ℕ × ℕ)) → capsule_with_length bytes kind offset o ≡ elim o [ None ↦ Cut | Some l ↦ Capsule bytes kind (offset + l.1) l.0 ]
of-capsule-length bytes kind offset None = refl
of-capsule-length bytes kind offset (Some l) = refl

of-capsule : (bytes : List ℕ) (o : Option (ℕ × ℕ)) → capsule_with_type bytes o ≡ elim o [ None ↦ Cut | Some t ↦ elim (varint_at (drop t.1 bytes)) [ None ↦ Cut | Some l ↦ Capsule bytes t.0 (t.1 + l.1) l.0 ] ]
of-capsule bytes None = refl
of-capsule bytes (Some t) = of-capsule-length bytes t.0 t.1 (varint_at (drop t.1 bytes))

pub capsule_is : (bytes : List ℕ) → capsule_decides tt bytes ≡ elim (varint_at bytes) [
  | None ↦ Cut
  | Some t ↦ elim (varint_at (drop t.1 bytes)) [
    | None ↦ Cut
    | Some l ↦
        if t.0 == 0x2843 then (if nat_le 4 l.0 && nat_le l.0 1028 then (if nat_lt (length bytes) (t.1 + l.1 + l.0) then Cut
        else Stops (elim (close_of (take l.0 (drop (t.1 + l.1) bytes))) [ Ok close ↦ walks.Closed close.error_code close.reason | Err fault ↦ walks.Fault fault ]) (t.1 + l.1 + l.0))
        else Stops (walks.Fault h3.Message) (t.1 + l.1)) else Goes tt (t.1 + l.1 + l.0)
  ]
]
unfolding capsule_decides
capsule_is bytes = of-capsule bytes (varint_at bytes)
