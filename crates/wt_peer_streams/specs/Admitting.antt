-- Whether something finds a place, and what a datagram says.
use Rattle.std.specs.Prelude.{◌*◌, Err, List, Ok, Result, drop, ℕ}
use Rattle.wt_kept.specs.Kept.{WaitingDatagram}
use Rattle.wt_kept.specs.Windows as windows
use Rattle.wt_peer_streams.specs.declared.window.Admission.{Admission}
use Rattle.wt_peer_streams.specs.declared.window.Admission.TheVariants as admissions
use Rattle.wt_wire.specs.declared.error.ErrorCode.{ErrorCode}

-- whether it finds one, as data
abbrev pub admission_now : Admission → windows.AdmissionNow
admission_now admissions.Admitted = windows.Admitted
admission_now admissions.Full = windows.Full
admission_now admissions.Gone = windows.Gone

-- the datagram that waits where a piece names a quarter of a session's id
abbrev pub waiting_datagram : Result (ℕ × List ℕ) ErrorCode → Result WaitingDatagram ErrorCode
waiting_datagram (Ok x) = Ok (record { session = 4 * x.0; payload = x.1 })
waiting_datagram (Err code) = Err code

-- the same, where a session and the size of what comes before the payload are known
abbrev pub part_of_datagram : Result (ℕ × ℕ) ErrorCode → List ℕ → Result WaitingDatagram ErrorCode
part_of_datagram (Ok x) bytes = Ok (record { session = x.0; payload = drop x.1 bytes })
part_of_datagram (Err code) bytes = Err code
