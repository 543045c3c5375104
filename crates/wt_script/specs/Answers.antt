-- The answer that a printed line spells, in the words of Print. A line may spell it in another way than it is printed: digits in
-- upper case, two neighbouring sends on one stream.
use Rattle.std.specs.Prelude.{ℕ, ◌-◌, List, [], ◌∷◌, ◌++◌, bytes_eq, codes, length, take, Option, Some, None, if◌then◌else◌}
use Rattle.std.specs.Option.{option_map, option_or, option_zip}
use Rattle.wt_turn.specs.declared.action.Action.{Action}
use Rattle.wt_turn.specs.declared.action.Action.TheVariants as actions
use Rattle.wt_turn.specs.declared.answer.Answer.{Answer}
use Rattle.wt_turn.specs.declared.reply.Reply.{Reply}
use Rattle.wt_turn.specs.declared.reply.Reply.TheVariants as replies
use Rattle.wt_script.specs.AnswerErrors.{address_of_word, connecting_of, datagram_error_of, ended_of, exact_failed_of, if_bare, opening_of, read_error_of, write_error_of}
use Rattle.wt_script.specs.Headers.{headers_of_words}
use Rattle.wt_script.specs.Numbers.{bytes_of, count_of, id_of, priority_of_word, session_of_word, text_of_word}
use Rattle.wt_script.specs.Print.{answer_text}
use Rattle.wt_script.specs.Words.{is_word, one, parts, two, words}

-- ---- replies

-- a reply without fields
abbrev pub bare_reply_of : List ℕ → Option Reply
bare_reply_of name =
    if is_word name (codes "done") then Some replies.Done else
    (if is_word name (codes "pending") then Some replies.Pending else
    (if is_word name (codes "no_session") then Some replies.NoSession else
    (if is_word name (codes "no_stream") then Some replies.NoStream else
    (if is_word name (codes "rejected") then Some replies.Rejected else
    (if is_word name (codes "all_written") then Some replies.AllWritten else
    (if is_word name (codes "finished") then Some replies.Finished else
    (if is_word name (codes "closed_stream") then Some replies.ClosedStream else
    (if is_word name (codes "end") then Some (replies.Read None) else None))))))))

-- a reply that names a stream or a session
abbrev pub id_reply_of : List ℕ → List (List ℕ) → Option Reply
id_reply_of name fields =
    if is_word name (codes "session") then option_map replies.Session (one session_of_word fields) else
    (if is_word name (codes "uni") then option_map replies.Uni (one id_of fields) else
    (if is_word name (codes "bi") then option_map replies.Bi (one id_of fields) else
    (if is_word name (codes "opening") then option_map replies.Opening (one id_of fields) else
    (if is_word name (codes "send_ready") then option_map replies.SendReady (one id_of fields) else
    (if is_word name (codes "bi_ready") then option_map replies.BiReady (one id_of fields) else
    (if is_word name (codes "id") then option_map replies.Id (one session_of_word fields) else None))))))

-- a size, or 'none'
abbrev pub size_of : List ℕ → Option (Option ℕ)
size_of word = if is_word word (codes "none") then Some None else option_map Some (count_of word)

-- a reply that gives a number
abbrev pub number_reply_of : List ℕ → List (List ℕ) → Option Reply
number_reply_of name fields =
    if is_word name (codes "size") then option_map replies.Size (one size_of fields) else
    (if is_word name (codes "written") then option_map replies.Written (one count_of fields) else
    (if is_word name (codes "count") then option_map replies.Count (one count_of fields) else
    (if is_word name (codes "priority") then option_map replies.Priority (one priority_of_word fields) else None)))

-- a request: the session's id and header fields
abbrev pub request_of : List (List ℕ) → Option Reply
request_of [] = None
request_of (id ∷ fields) = option_map (λ p. replies.Request p.0 p.1) (option_zip (session_of_word id) (headers_of_words fields))

-- a reply that carries header fields or bytes
abbrev pub data_reply_of : List ℕ → List (List ℕ) → Option Reply
data_reply_of name fields =
    if is_word name (codes "request") then request_of fields else
    (if is_word name (codes "datagram") then option_map replies.Datagram (one bytes_of fields) else
    (if is_word name (codes "read") then option_map (λ piece. replies.Read (Some piece)) (one bytes_of fields) else
    (if is_word name (codes "exact") then option_map replies.Exact (one bytes_of fields) else None)))

-- a reply that says why a call on a stream or a datagram failed
abbrev pub stream_failure_of : List ℕ → List (List ℕ) → Option Reply
stream_failure_of name fields =
    if is_word name (codes "opening_failed") then option_map replies.OpeningFailed (one opening_of fields) else
    (if is_word name (codes "write_failed") then option_map replies.WriteFailed (write_error_of fields) else
    (if is_word name (codes "stopped_by") then option_map replies.StoppedBy (write_error_of fields) else
    (if is_word name (codes "read_failed") then option_map replies.ReadFailed (read_error_of fields) else
    (if is_word name (codes "datagram_failed") then option_map replies.DatagramFailed (one datagram_error_of fields) else None))))

-- another reply that says why a call failed
abbrev pub failure_of : List ℕ → List (List ℕ) → Option Reply
failure_of name fields =
    if is_word name (codes "failed") then option_map replies.Failed (ended_of fields) else
    (if is_word name (codes "closed") then option_map replies.Closed (ended_of fields) else
    (if is_word name (codes "connect_failed") then option_map replies.ConnectFailed (connecting_of fields) else
    (if is_word name (codes "exact_failed") then option_map (λ p. replies.ExactFailed p.0 p.1) (exact_failed_of fields) else
    stream_failure_of name fields)))

-- the reply by its name and its fields
abbrev pub reply_with : List ℕ → List (List ℕ) → Option Reply
reply_with name fields =
    option_or (if_bare bare_reply_of name fields) (option_or (id_reply_of name fields)
    (option_or (number_reply_of name fields) (option_or (data_reply_of name fields) (failure_of name fields))))

-- the reply by its words
abbrev pub reply_of_words : List (List ℕ) → Option Reply
reply_of_words [] = None
reply_of_words (name ∷ fields) = reply_with name fields

-- ---- actions

-- an action that carries no bytes
abbrev pub bare_action_of : List ℕ → List (List ℕ) → Option Action
bare_action_of name fields =
    if is_word name (codes "opened") then option_map actions.Opened (one id_of fields) else
    (if is_word name (codes "finish") then option_map actions.Finish (one id_of fields) else
    (if is_word name (codes "reset") then option_map (λ p. actions.ResetOut p.0 p.1) (two id_of id_of fields) else
    (if is_word name (codes "stop") then option_map (λ p. actions.StopOut p.0 p.1) (two id_of id_of fields) else None)))

-- the action by its name and its fields
abbrev pub action_with : List ℕ → List (List ℕ) → Option Action
action_with name fields =
    if is_word name (codes "send") then option_map (λ p. actions.Send p.0 p.1) (two id_of bytes_of fields) else
    (if is_word name (codes "datagram_out") then option_map actions.DatagramOut (one bytes_of fields) else
    (if is_word name (codes "close") then option_map (λ p. actions.Close p.0 p.1) (two id_of bytes_of fields) else
    (if is_word name (codes "dial") then option_map (λ p. actions.Dial p.0 p.1) (two address_of_word text_of_word fields) else
    bare_action_of name fields)))

-- the action by its words, of which the first stands in front of the blank that begins the part
abbrev pub action_of_words : List (List ℕ) → Option Action
action_of_words (first ∷ name ∷ fields) = action_with name fields
action_of_words _ = None

-- ---- lines, in parts: each semicolon stands between two blanks

-- what stands in front of the blank that ends a part, where further parts follow
abbrev pub front : List ℕ → List (List ℕ) → List ℕ
front part [] = part
front part (next ∷ later) = take (length part - 1) part

-- these actions, and those of further parts
abbrev pub actions_from : List Action → List (List ℕ) → Option (List Action)
actions_from before [] = Some before
actions_from before (part ∷ later) = elim (action_of_words (words (front part later))) [ Some a ↦ actions_from (before ++ a ∷ []) later | None ↦ None ]

-- the answer by its parts
abbrev pub answer_of_parts : List (List ℕ) → Option Answer
answer_of_parts [] = None
answer_of_parts (part ∷ later) =
    option_map (λ p. record { reply = p.0; actions = p.1 }) (option_zip (reply_of_words (words (front part later))) (actions_from [] later))

-- the answer that a line spells
abbrev pub answer_of : List ℕ → Option Answer
answer_of line = answer_of_parts (parts 59 line)

-- the answer whose line this is: of those that a line spells in another way it is the line of none
abbrev pub printed_answer : List ℕ → Option Answer
printed_answer line = elim (answer_of line) [ Some a ↦ if bytes_eq (answer_text a) line then Some a else None | None ↦ None ]
