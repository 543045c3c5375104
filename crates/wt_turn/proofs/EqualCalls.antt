-- Calls that `==` finds equal are equal, variant by variant.
use Rattle.std.proofs.Common.{◌≡◌, ◌&&◌, ℕ, ℤ, Bool, Option, true, List, nat_eq, ap, rules, Decides}
use Rattle.std.specs.Cmp.{first_so, second_so}
use Rattle.std.specs.Cmp.Lexicographic.{pointwise}
use Rattle.wt_turn.proofs.EqualParts.{headers_join, options_join, lookups_join, outcomes_join}
use Rattle.wt_wire.specs.contracts.header_list.HeaderListPartialEq.TheImpl as headers
use Rattle.wt_wire.specs.contracts.lookup.ConnectOutcomePartialEq.TheImpl as outcomes
use Rattle.wt_wire.specs.contracts.lookup.LookupPartialEq.TheImpl as lookups
use Rattle.wt_wire.specs.declared.lookup.ConnectOutcome.{ConnectOutcome}
use Rattle.wt_wire.specs.declared.lookup.Lookup.{Lookup}
use Rattle.wt_turn.proofs.Decides.{decides}
use Rattle.wt_turn.specs.contracts.call.CallEq.TheImpl.Laws.{laws-law}
use Rattle.wt_turn.specs.contracts.call.CallPartialEq.TheImpl as tests
use Rattle.wt_turn.specs.declared.call.Call.{Call}
use Rattle.wt_turn.specs.declared.call.Call.TheVariants.{Connect, Incoming, Accept, Forbidden, NotFound, TooManyRequests, Handshake, EndpointClose, AcceptUni, AcceptBi, ReceiveDatagram, OpenUni, OpenBi, PollOpening, SendDatagram, EndSession, MaxDatagramSize, SessionId, Close, Closed, Write, WriteAll, Finish, Stopped, Priority, SetPriority, ResetSend, Read, ReadExact, StopRecv}

connects : (a x : List ℕ × List (List ℕ × List ℕ)) (b y : Lookup) (c z : ConnectOutcome)
    → ((pointwise nat_eq a.0 x.0 && headers.ghosts.eq a.1 x.1) && (lookups.ghosts.eq b y && outcomes.ghosts.eq c z)) ≡ true → Connect a b c ≡ Connect x y z
connects a x b y c z e =
    let both : Bool = pointwise nat_eq a.0 x.0 && headers.ghosts.eq a.1 x.1 in
    let rest : Bool = lookups.ghosts.eq b y && outcomes.ghosts.eq c z in
    λ i. Connect
    (options_join a x (first_so both rest e) i)
    (lookups_join b y (first_so (lookups.ghosts.eq b y) (outcomes.ghosts.eq c z) (second_so both rest e)) i)
    (outcomes_join c z (second_so (lookups.ghosts.eq b y) (outcomes.ghosts.eq c z) (second_so both rest e)) i)

connect_joins : (a : List ℕ × List (List ℕ × List ℕ)) (b : Lookup) (c : ConnectOutcome) (other : Call)
    → tests.ghosts.eq (Connect a b c) other ≡ true → Connect a b c ≡ other
connect_joins a b c (Connect x y z) e = connects a x b y c z e
connect_joins a b c other e = search rules

accept_joins : (a : List (List ℕ × List ℕ)) (other : Call) → tests.ghosts.eq (Accept a) other ≡ true → Accept a ≡ other
accept_joins a (Accept x) e = ap Accept (headers_join a x e)
accept_joins a other e = search rules

incoming_joins : (other : Call) → tests.ghosts.eq Incoming other ≡ true → Incoming ≡ other
incoming_joins other e = search rules

forbidden_joins : (other : Call) → tests.ghosts.eq Forbidden other ≡ true → Forbidden ≡ other
forbidden_joins other e = search rules

not_found_joins : (other : Call) → tests.ghosts.eq NotFound other ≡ true → NotFound ≡ other
not_found_joins other e = search rules

too_many_requests_joins : (other : Call) → tests.ghosts.eq TooManyRequests other ≡ true → TooManyRequests ≡ other
too_many_requests_joins other e = search rules

handshake_joins : (other : Call) → tests.ghosts.eq Handshake other ≡ true → Handshake ≡ other
handshake_joins other e = search rules

endpoint_close_joins : (a : ℕ) (b : List ℕ) (other : Call) → tests.ghosts.eq (EndpointClose a b) other ≡ true → EndpointClose a b ≡ other
endpoint_close_joins a b other e = search rules

accept_uni_joins : (a : Option ℕ) (other : Call) → tests.ghosts.eq (AcceptUni a) other ≡ true → AcceptUni a ≡ other
accept_uni_joins a other e = search rules

accept_bi_joins : (a : Option ℕ) (other : Call) → tests.ghosts.eq (AcceptBi a) other ≡ true → AcceptBi a ≡ other
accept_bi_joins a other e = search rules

receive_datagram_joins : (a : Option ℕ) (other : Call) → tests.ghosts.eq (ReceiveDatagram a) other ≡ true → ReceiveDatagram a ≡ other
receive_datagram_joins a other e = search rules

open_uni_joins : (a : Option ℕ) (other : Call) → tests.ghosts.eq (OpenUni a) other ≡ true → OpenUni a ≡ other
open_uni_joins a other e = search rules

open_bi_joins : (a : Option ℕ) (other : Call) → tests.ghosts.eq (OpenBi a) other ≡ true → OpenBi a ≡ other
open_bi_joins a other e = search rules

poll_opening_joins : (a : ℕ) (other : Call) → tests.ghosts.eq (PollOpening a) other ≡ true → PollOpening a ≡ other
poll_opening_joins a other e = search rules

send_datagram_joins : (a : List ℕ) (b : Option ℕ) (other : Call) → tests.ghosts.eq (SendDatagram a b) other ≡ true → SendDatagram a b ≡ other
send_datagram_joins a b other e = search rules

end_session_joins : (a : Option ℕ) (other : Call) → tests.ghosts.eq (EndSession a) other ≡ true → EndSession a ≡ other
end_session_joins a other e = search rules

max_datagram_size_joins : (a : Option ℕ) (other : Call) → tests.ghosts.eq (MaxDatagramSize a) other ≡ true → MaxDatagramSize a ≡ other
max_datagram_size_joins a other e = search rules

session_id_joins : (a : Option ℕ) (other : Call) → tests.ghosts.eq (SessionId a) other ≡ true → SessionId a ≡ other
session_id_joins a other e = search rules

close_joins : (a : ℕ) (b : List ℕ) (other : Call) → tests.ghosts.eq (Close a b) other ≡ true → Close a b ≡ other
close_joins a b other e = search rules

closed_joins : (other : Call) → tests.ghosts.eq Closed other ≡ true → Closed ≡ other
closed_joins other e = search rules

write_joins : (a : ℕ) (b : List ℕ) (other : Call) → tests.ghosts.eq (Write a b) other ≡ true → Write a b ≡ other
write_joins a b other e = search rules

write_all_joins : (a : ℕ) (b : List ℕ) (other : Call) → tests.ghosts.eq (WriteAll a b) other ≡ true → WriteAll a b ≡ other
write_all_joins a b other e = search rules

finish_joins : (a : ℕ) (other : Call) → tests.ghosts.eq (Finish a) other ≡ true → Finish a ≡ other
finish_joins a other e = search rules

stopped_joins : (a : ℕ) (other : Call) → tests.ghosts.eq (Stopped a) other ≡ true → Stopped a ≡ other
stopped_joins a other e = search rules

priority_joins : (a : ℕ) (other : Call) → tests.ghosts.eq (Priority a) other ≡ true → Priority a ≡ other
priority_joins a other e = search rules

set_priority_joins : (a : ℕ) (b : ℤ) (other : Call) → tests.ghosts.eq (SetPriority a b) other ≡ true → SetPriority a b ≡ other
set_priority_joins a b other e = search rules

reset_send_joins : (a : ℕ) (b : ℕ) (other : Call) → tests.ghosts.eq (ResetSend a b) other ≡ true → ResetSend a b ≡ other
reset_send_joins a b other e = search rules

read_joins : (a : ℕ) (b : ℕ) (other : Call) → tests.ghosts.eq (Read a b) other ≡ true → Read a b ≡ other
read_joins a b other e = search rules

read_exact_joins : (a : ℕ) (b : ℕ) (other : Call) → tests.ghosts.eq (ReadExact a b) other ≡ true → ReadExact a b ≡ other
read_exact_joins a b other e = search rules

stop_recv_joins : (a : ℕ) (b : ℕ) (other : Call) → tests.ghosts.eq (StopRecv a b) other ≡ true → StopRecv a b ≡ other
stop_recv_joins a b other e = search rules

pub calls_join : (one other : Call) → tests.ghosts.eq one other ≡ true → one ≡ other
calls_join (Connect a b c) other e = connect_joins a b c other e
calls_join Incoming other e = incoming_joins other e
calls_join (Accept a) other e = accept_joins a other e
calls_join Forbidden other e = forbidden_joins other e
calls_join NotFound other e = not_found_joins other e
calls_join TooManyRequests other e = too_many_requests_joins other e
calls_join Handshake other e = handshake_joins other e
calls_join (EndpointClose a b) other e = endpoint_close_joins a b other e
calls_join (AcceptUni a) other e = accept_uni_joins a other e
calls_join (AcceptBi a) other e = accept_bi_joins a other e
calls_join (ReceiveDatagram a) other e = receive_datagram_joins a other e
calls_join (OpenUni a) other e = open_uni_joins a other e
calls_join (OpenBi a) other e = open_bi_joins a other e
calls_join (PollOpening a) other e = poll_opening_joins a other e
calls_join (SendDatagram a b) other e = send_datagram_joins a b other e
calls_join (EndSession a) other e = end_session_joins a other e
calls_join (MaxDatagramSize a) other e = max_datagram_size_joins a other e
calls_join (SessionId a) other e = session_id_joins a other e
calls_join (Close a b) other e = close_joins a b other e
calls_join Closed other e = closed_joins other e
calls_join (Write a b) other e = write_joins a b other e
calls_join (WriteAll a b) other e = write_all_joins a b other e
calls_join (Finish a) other e = finish_joins a other e
calls_join (Stopped a) other e = stopped_joins a other e
calls_join (Priority a) other e = priority_joins a other e
calls_join (SetPriority a b) other e = set_priority_joins a b other e
calls_join (ResetSend a b) other e = reset_send_joins a b other e
calls_join (Read a b) other e = read_joins a b other e
calls_join (ReadExact a b) other e = read_exact_joins a b other e
calls_join (StopRecv a b) other e = stop_recv_joins a b other e

pub calls_decide : (a b : Call) → Decides (tests.ghosts.eq a b) (a ≡ b)
calls_decide = decides tests.ghosts.eq laws-law calls_join
