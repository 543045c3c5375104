-- The header of a unidirectional stream is read from its own bytes, and stays under more.
use Rattle.std.proofs.Common.{ℕ, ◌==◌, refl}
use Rattle.wt_wire.specs.Frames.{is_exercise}
use Rattle.wt_proto.specs.Steady.{IsSteady}
use Rattle.wt_proto.proofs.FrameLaws.{IsEffect, IsReader, items-steady}
use Rattle.wt_proto.proofs.TypedHeaders.{Chooses, IsTyped, alone, by, goes-on, header-reader}
use Rattle.wt_seam.specs.UniHeader.{header_at, header_decides, header_effect, header_of_type, header_with_type, session_header, with_session_id}

of_type-chooses : (kind offset : ℕ) → Chooses offset (header_of_type kind offset)
of_type-chooses kind offset =
    by offset (kind == 0x00) (alone offset _) (by offset (kind == 0x02) (alone offset _) (by offset (kind == 0x03) (alone offset _) (by offset (kind == 0x54) (goes-on offset) (by offset (is_exercise kind) (alone offset _) (alone offset _)))))

header-typed : IsTyped with_session_id header_of_type header_with_type
header-typed = record {
  made = λ offset s. session_header s.0;
  no-session = λ offset. refl;
  a-session = λ offset s. refl;
  no-type = λ xs. refl;
  a-type = λ xs t. refl;
  chooses = of_type-chooses;
}

reader : IsReader header_at
unfolding header_at
reader = header-reader with_session_id header_of_type header_with_type header-typed

header-effect : IsEffect header_effect
header-effect = record { size_is = λ s n h. refl }

pub header_steady : IsSteady header_decides
unfolding header_decides
header_steady = items-steady header_at reader header_effect header-effect
