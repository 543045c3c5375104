-- The printed lines of answers (this repository's own grammar).
use Rattle.std.specs.Prelude.{ℕ, ◌==◌, Bool, true, false, List, [], ◌∷◌, ◌++◌, codes, Option, Some, None, if◌then◌else◌}
use Rattle.std.specs.List.{flat_map}
use Rattle.std.specs.Fmt.{decimal, signed_decimal}
use Rattle.hex.specs.Hex.{encode_lower}
use Rattle.wt_wire.specs.declared.addr.Addr.{Addr}
use Rattle.wt_turn.specs.declared.reply.Reply.{Reply}
use Rattle.wt_turn.specs.declared.reply.Reply.TheVariants as replies
use Rattle.wt_turn.specs.declared.stream_error.StreamReadExactError.TheVariants as exacts
use Rattle.wt_turn.specs.declared.action.Action.{Action}
use Rattle.wt_turn.specs.declared.action.Action.TheVariants as actions
use Rattle.wt_turn.specs.declared.answer.Answer.{Answer}
use Rattle.wt_script.specs.PrintErrors.{hex_text, coded_text, numbers_text, code_text, versioned_address_text, connection_text, connecting_text, opening_text, write_text, read_error_text, exact_text, datagram_text}

-- a header field after a blank; an empty name or value is written as nothing
abbrev pub field_text : List ℕ × List ℕ → List ℕ
field_text f = codes " " ++ encode_lower f.0 ++ codes "=" ++ encode_lower f.1

-- the id of a session, and the header fields
abbrev pub request_text : ℕ → List (List ℕ × List ℕ) → List ℕ
request_text id headers = decimal id ++ flat_map field_text headers

-- bytes that were read, or the end of the stream
abbrev pub read_text : Option (List ℕ) → List ℕ
read_text None = codes "end"
read_text (Some bytes) = codes "read " ++ hex_text bytes

-- what the caller is answered
abbrev pub reply_text : Reply → List ℕ
reply_text replies.Done = codes "done"
reply_text replies.Pending = codes "pending"
reply_text replies.NoSession = codes "no_session"
reply_text replies.NoStream = codes "no_stream"
reply_text (replies.Request id headers) = codes "request " ++ request_text id headers
reply_text (replies.Session id) = codes "session " ++ decimal id
reply_text replies.Rejected = codes "rejected"
reply_text (replies.Uni id) = codes "uni " ++ decimal id
reply_text (replies.Bi id) = codes "bi " ++ decimal id
reply_text (replies.Opening id) = codes "opening " ++ decimal id
reply_text (replies.SendReady id) = codes "send_ready " ++ decimal id
reply_text (replies.BiReady id) = codes "bi_ready " ++ decimal id
reply_text (replies.Id id) = codes "id " ++ decimal id
reply_text (replies.Datagram piece) = codes "datagram " ++ hex_text piece
reply_text (replies.Size size) = codes "size " ++ code_text size
reply_text (replies.Written count) = codes "written " ++ decimal count
reply_text replies.AllWritten = codes "all_written"
reply_text (replies.Count count) = codes "count " ++ decimal count
reply_text replies.Finished = codes "finished"
reply_text (replies.Priority priority) = codes "priority " ++ signed_decimal priority
reply_text replies.ClosedStream = codes "closed_stream"
reply_text (replies.Read read) = read_text read
reply_text (replies.Exact piece) = codes "exact " ++ hex_text piece
reply_text (replies.Failed error) = codes "failed " ++ connection_text error
reply_text (replies.Closed error) = codes "closed " ++ connection_text error
reply_text (replies.ConnectFailed error) = codes "connect_failed " ++ connecting_text error
reply_text (replies.OpeningFailed error) = codes "opening_failed " ++ opening_text error
reply_text (replies.WriteFailed error) = codes "write_failed " ++ write_text error
reply_text (replies.StoppedBy error) = codes "stopped_by " ++ write_text error
reply_text (replies.ReadFailed error) = codes "read_failed " ++ read_error_text error
reply_text (replies.ExactFailed error piece) = codes "exact_failed " ++ exact_text error piece
reply_text (replies.DatagramFailed error) = codes "datagram_failed " ++ datagram_text error

-- an address, and the name of a server
abbrev pub dial_text : Addr → List ℕ → List ℕ
dial_text address name = versioned_address_text address ++ codes " " ++ hex_text name

-- what goes out
abbrev pub action_text : Action → List ℕ
action_text (actions.Dial address name) = codes "dial " ++ dial_text address name
action_text (actions.Opened id) = codes "opened " ++ decimal id
action_text (actions.Send id bytes) = codes "send " ++ coded_text id bytes
action_text (actions.Finish id) = codes "finish " ++ decimal id
action_text (actions.ResetOut id code) = codes "reset " ++ numbers_text id code
action_text (actions.StopOut id code) = codes "stop " ++ numbers_text id code
action_text (actions.DatagramOut piece) = codes "datagram_out " ++ hex_text piece
action_text (actions.Close code reason) = codes "close " ++ coded_text code reason

-- an action after what stands before it
abbrev pub next_action_text : Action → List ℕ
next_action_text a = codes " ; " ++ action_text a

-- ---- sends are joined: where the pieces of a stream end isn't printed

-- a send of these bytes in front of actions: it goes on with one on the same stream
abbrev pub send_before : ℕ → List ℕ → List Action → List Action
send_before id bytes (actions.Send k more ∷ later) = if k == id then actions.Send id (bytes ++ more) ∷ later else actions.Send id bytes ∷ actions.Send k more ∷ later
send_before id bytes later = actions.Send id bytes ∷ later

-- an action in front of actions; a send of no bytes is left out
abbrev pub before : Action → List Action → List Action
before (actions.Send id []) later = later
before (actions.Send id (b ∷ bytes)) later = send_before id (b ∷ bytes) later
before a later = a ∷ later

-- the actions without sends of no bytes, and of neighbouring sends on one stream one
abbrev pub joined : List Action → List Action
joined [] = []
joined (a ∷ later) = before a (joined later)

-- an error that tells no bytes is printed without those beside it
abbrev pub normal_reply : Reply → Reply
normal_reply (replies.ExactFailed (exacts.Read error) piece) = replies.ExactFailed (exacts.Read error) []
normal_reply reply = reply

-- an answer without what isn't printed
abbrev pub normal : Answer → Answer
normal a = record { reply = normal_reply a.reply; actions = joined a.actions }

-- ---- the same, one action after another

-- the stream on which the action sends
abbrev pub sends_on : Action → Option ℕ
sends_on (actions.Send id bytes) = Some id
sends_on _ = None

-- the action sends no bytes
abbrev pub sends_nothing : Action → Bool
sends_nothing (actions.Send id []) = true
sends_nothing _ = false

-- an action after one that sends on this stream, where that sends
abbrev pub text_after : Option ℕ → Action → List ℕ
text_after (Some k) (actions.Send id bytes) = if k == id then encode_lower bytes else next_action_text (actions.Send id bytes)
text_after _ a = next_action_text a

-- actions after one that sends on this stream, where that sends
abbrev pub texts_after : Option ℕ → List Action → List ℕ
texts_after sending [] = []
texts_after sending (a ∷ later) = if sends_nothing a then texts_after sending later else text_after sending a ++ texts_after (sends_on a) later

-- ---- lines

-- the line of an answer, without its line feed
abbrev pub answer_text : Answer → List ℕ
answer_text a = reply_text a.reply ++ flat_map next_action_text (joined a.actions)

-- the line of an answer
abbrev pub answer_line : Answer → List ℕ
answer_line a = answer_text a ++ codes "\n"

-- a line for each answer
abbrev pub print : List Answer → List ℕ
print answers = flat_map answer_line answers
