-- Replies that `==` finds equal are equal, variant by variant.
use Rattle.std.proofs.Common.{◌≡◌, ℕ, ℤ, Option, true, List, ap, rules, Decides}
use Rattle.wt_turn.proofs.EqualParts.{requests_join, failures_join, connects_join}
use Rattle.wt_turn.proofs.Decides.{decides}
use Rattle.wt_turn.specs.contracts.reply.ReplyEq.TheImpl.Laws.{laws-law}
use Rattle.wt_turn.specs.contracts.reply.ReplyPartialEq.TheImpl as tests
use Rattle.wt_turn.specs.declared.connecting_error.ConnectingError.{ConnectingError}
use Rattle.wt_turn.specs.declared.connection_error.ConnectionError.{ConnectionError}
use Rattle.wt_turn.specs.declared.reply.Reply.{Reply}
use Rattle.wt_turn.specs.declared.reply.Reply.TheVariants.{Done, Pending, NoSession, NoStream, Request, Session, Rejected, Uni, Bi, Opening, SendReady, BiReady, Id, Datagram, Size, Written, AllWritten, Count, Finished, Priority, ClosedStream, Read, Exact, Failed, Closed, ConnectFailed, OpeningFailed, WriteFailed, StoppedBy, ReadFailed, ExactFailed, DatagramFailed}
use Rattle.wt_turn.specs.declared.stream_error.SendDatagramError.{SendDatagramError}
use Rattle.wt_turn.specs.declared.stream_error.StreamOpeningError.{StreamOpeningError}
use Rattle.wt_turn.specs.declared.stream_error.StreamReadError.{StreamReadError}
use Rattle.wt_turn.specs.declared.stream_error.StreamReadExactError.{StreamReadExactError}
use Rattle.wt_turn.specs.declared.stream_error.StreamWriteError.{StreamWriteError}

request_joins : (a : ℕ) (b : List (List ℕ × List ℕ)) (other : Reply) → tests.ghosts.eq (Request a b) other ≡ true → Request a b ≡ other
request_joins a b (Request x y) e = ap (λ (r : ℕ × List (List ℕ × List ℕ)). Request r.0 r.1) (requests_join a x b y e)
request_joins a b other e = search rules

failed_joins : (a : ConnectionError) (other : Reply) → tests.ghosts.eq (Failed a) other ≡ true → Failed a ≡ other
failed_joins a (Failed x) e = ap Failed (failures_join a x e)
failed_joins a other e = search rules

closed_joins : (a : ConnectionError) (other : Reply) → tests.ghosts.eq (Closed a) other ≡ true → Closed a ≡ other
closed_joins a (Closed x) e = ap Closed (failures_join a x e)
closed_joins a other e = search rules

connect_failed_joins : (a : ConnectingError) (other : Reply) → tests.ghosts.eq (ConnectFailed a) other ≡ true → ConnectFailed a ≡ other
connect_failed_joins a (ConnectFailed x) e = ap ConnectFailed (connects_join a x e)
connect_failed_joins a other e = search rules

done_joins : (other : Reply) → tests.ghosts.eq Done other ≡ true → Done ≡ other
done_joins other e = search rules

pending_joins : (other : Reply) → tests.ghosts.eq Pending other ≡ true → Pending ≡ other
pending_joins other e = search rules

no_session_joins : (other : Reply) → tests.ghosts.eq NoSession other ≡ true → NoSession ≡ other
no_session_joins other e = search rules

no_stream_joins : (other : Reply) → tests.ghosts.eq NoStream other ≡ true → NoStream ≡ other
no_stream_joins other e = search rules

session_joins : (a : ℕ) (other : Reply) → tests.ghosts.eq (Session a) other ≡ true → Session a ≡ other
session_joins a other e = search rules

rejected_joins : (other : Reply) → tests.ghosts.eq Rejected other ≡ true → Rejected ≡ other
rejected_joins other e = search rules

uni_joins : (a : ℕ) (other : Reply) → tests.ghosts.eq (Uni a) other ≡ true → Uni a ≡ other
uni_joins a other e = search rules

bi_joins : (a : ℕ) (other : Reply) → tests.ghosts.eq (Bi a) other ≡ true → Bi a ≡ other
bi_joins a other e = search rules

opening_joins : (a : ℕ) (other : Reply) → tests.ghosts.eq (Opening a) other ≡ true → Opening a ≡ other
opening_joins a other e = search rules

send_ready_joins : (a : ℕ) (other : Reply) → tests.ghosts.eq (SendReady a) other ≡ true → SendReady a ≡ other
send_ready_joins a other e = search rules

bi_ready_joins : (a : ℕ) (other : Reply) → tests.ghosts.eq (BiReady a) other ≡ true → BiReady a ≡ other
bi_ready_joins a other e = search rules

id_joins : (a : ℕ) (other : Reply) → tests.ghosts.eq (Id a) other ≡ true → Id a ≡ other
id_joins a other e = search rules

datagram_joins : (a : List ℕ) (other : Reply) → tests.ghosts.eq (Datagram a) other ≡ true → Datagram a ≡ other
datagram_joins a other e = search rules

size_joins : (a : Option ℕ) (other : Reply) → tests.ghosts.eq (Size a) other ≡ true → Size a ≡ other
size_joins a other e = search rules

written_joins : (a : ℕ) (other : Reply) → tests.ghosts.eq (Written a) other ≡ true → Written a ≡ other
written_joins a other e = search rules

all_written_joins : (other : Reply) → tests.ghosts.eq AllWritten other ≡ true → AllWritten ≡ other
all_written_joins other e = search rules

count_joins : (a : ℕ) (other : Reply) → tests.ghosts.eq (Count a) other ≡ true → Count a ≡ other
count_joins a other e = search rules

finished_joins : (other : Reply) → tests.ghosts.eq Finished other ≡ true → Finished ≡ other
finished_joins other e = search rules

priority_joins : (a : ℤ) (other : Reply) → tests.ghosts.eq (Priority a) other ≡ true → Priority a ≡ other
priority_joins a other e = search rules

closed_stream_joins : (other : Reply) → tests.ghosts.eq ClosedStream other ≡ true → ClosedStream ≡ other
closed_stream_joins other e = search rules

read_joins : (a : Option (List ℕ)) (other : Reply) → tests.ghosts.eq (Read a) other ≡ true → Read a ≡ other
read_joins a other e = search rules

exact_joins : (a : List ℕ) (other : Reply) → tests.ghosts.eq (Exact a) other ≡ true → Exact a ≡ other
exact_joins a other e = search rules

opening_failed_joins : (a : StreamOpeningError) (other : Reply) → tests.ghosts.eq (OpeningFailed a) other ≡ true → OpeningFailed a ≡ other
opening_failed_joins a other e = search rules

write_failed_joins : (a : StreamWriteError) (other : Reply) → tests.ghosts.eq (WriteFailed a) other ≡ true → WriteFailed a ≡ other
write_failed_joins a other e = search rules

stopped_by_joins : (a : StreamWriteError) (other : Reply) → tests.ghosts.eq (StoppedBy a) other ≡ true → StoppedBy a ≡ other
stopped_by_joins a other e = search rules

read_failed_joins : (a : StreamReadError) (other : Reply) → tests.ghosts.eq (ReadFailed a) other ≡ true → ReadFailed a ≡ other
read_failed_joins a other e = search rules

exact_failed_joins : (a : StreamReadExactError) (b : List ℕ) (other : Reply) → tests.ghosts.eq (ExactFailed a b) other ≡ true → ExactFailed a b ≡ other
exact_failed_joins a b other e = search rules

datagram_failed_joins : (a : SendDatagramError) (other : Reply) → tests.ghosts.eq (DatagramFailed a) other ≡ true → DatagramFailed a ≡ other
datagram_failed_joins a other e = search rules

pub replies_join : (one other : Reply) → tests.ghosts.eq one other ≡ true → one ≡ other
replies_join Done other e = done_joins other e
replies_join Pending other e = pending_joins other e
replies_join NoSession other e = no_session_joins other e
replies_join NoStream other e = no_stream_joins other e
replies_join (Request a b) other e = request_joins a b other e
replies_join (Session a) other e = session_joins a other e
replies_join Rejected other e = rejected_joins other e
replies_join (Uni a) other e = uni_joins a other e
replies_join (Bi a) other e = bi_joins a other e
replies_join (Opening a) other e = opening_joins a other e
replies_join (SendReady a) other e = send_ready_joins a other e
replies_join (BiReady a) other e = bi_ready_joins a other e
replies_join (Id a) other e = id_joins a other e
replies_join (Datagram a) other e = datagram_joins a other e
replies_join (Size a) other e = size_joins a other e
replies_join (Written a) other e = written_joins a other e
replies_join AllWritten other e = all_written_joins other e
replies_join (Count a) other e = count_joins a other e
replies_join Finished other e = finished_joins other e
replies_join (Priority a) other e = priority_joins a other e
replies_join ClosedStream other e = closed_stream_joins other e
replies_join (Read a) other e = read_joins a other e
replies_join (Exact a) other e = exact_joins a other e
replies_join (Failed a) other e = failed_joins a other e
replies_join (Closed a) other e = closed_joins a other e
replies_join (ConnectFailed a) other e = connect_failed_joins a other e
replies_join (OpeningFailed a) other e = opening_failed_joins a other e
replies_join (WriteFailed a) other e = write_failed_joins a other e
replies_join (StoppedBy a) other e = stopped_by_joins a other e
replies_join (ReadFailed a) other e = read_failed_joins a other e
replies_join (ExactFailed a b) other e = exact_failed_joins a b other e
replies_join (DatagramFailed a) other e = datagram_failed_joins a other e

pub replies_decide : (a b : Reply) → Decides (tests.ghosts.eq a b) (a ≡ b)
replies_decide = decides tests.ghosts.eq laws-law replies_join
