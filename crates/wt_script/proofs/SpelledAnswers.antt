-- The printed replies and actions are read back.
use Rattle.std.proofs.Common.{arith, ◌≡◌, ℕ, true, false, List, [], ◌∷◌, ◌++◌, refl, sym, ap, ◌∙◌, append_assoc, append-nil, map, subst}
use Rattle.std.specs.Prelude.{◌&&◌, None, Option, Some, codes, decimal, if◌then◌else◌}
use Rattle.std.specs.Fmt.{signed_decimal}
use Rattle.std.specs.List.{AllByRecursion, flat_map}
use Rattle.std.specs.Option.{option_and_then, option_map, option_or, option_zip}
use Rattle.std.specs.Ordering.{match_ordering, ordering_reverse}
use Rattle.std.specs.declared.cmp.Ordering.TheVariants.{Less}
use Rattle.std.specs.Cmp.Lexicographic.{nat_list_cmp_total}
use Rattle.hex.specs.Hex.{IsBytes, encode_lower}
use Rattle.wt_wire.proofs.TextLaws.{is_text_yes}
use Rattle.wt_wire.specs.HeaderList.{Fields, IsAhead, IsHeaderList, compare_names, sort_key, with_field}
use Rattle.wt_turn.specs.declared.action.Action.{Action}
use Rattle.wt_turn.specs.declared.action.Action.TheVariants as actions
use Rattle.wt_turn.specs.declared.reply.Reply.{Reply}
use Rattle.wt_turn.specs.declared.reply.Reply.TheVariants as replies
use Rattle.wt_turn.specs.declared.stream_error.StreamReadExactError.TheVariants as exacts
use Rattle.wt_script.specs.AnswerErrors.{address_of_word}
use Rattle.wt_script.specs.Answers.{action_with, reply_of_words, request_of, size_of}
use Rattle.wt_script.specs.Fits.{AreFields, IsAction, IsCount, IsId, IsReply, IsSession, IsText}
use Rattle.wt_script.specs.Headers.{header_of, header_text_of, headers_from, headers_of_words, with_header}
use Rattle.wt_script.specs.Numbers.{as_text, bytes_of, count_of, id_of, priority_of_word, session_of_word, text_of_word}
use Rattle.wt_script.specs.Print.{action_text, field_text, normal_reply, reply_text}
use Rattle.wt_script.specs.PrintErrors.{code_text, hex_text, versioned_address_text}
use Rattle.wt_script.specs.Words.{is_word, one, parts, two}
use Rattle.wt_script.proofs.Digits.{bytes_encoded, count_decimal, decimal_hex, digits_encoded, encoded_hex, hex_lacks, id_decimal, priority_decimal, priority_lacks, session_decimal, text_encoded}
use Rattle.wt_script.proofs.Separators.{lacks, lacks_both, part_alone, part_first, spaced}
use Rattle.wt_script.proofs.Spelled.{ArePlain, IsPlain, Spelled, bare, mapped, named, named_or, pair, plain_decimal, plain_hex}
use Rattle.wt_script.proofs.SpelledErrors.{address_again, coded_spelled, connecting_spelled, datagram_spelled, ended_spelled, exact_spelled, id_spelled, not_none, opening_spelled, plain_address, plain_id, read_spelled, write_spelled}

-- ---- header fields

-- the order of names
ahead_of_all : (first : List ℕ) (done : Fields) (f : List ℕ × List ℕ) (todo : Fields) → IsAhead first (done ++ f ∷ todo) → IsHeaderList (done ++ f ∷ todo)
    → compare_names first f.0 ≡ Less
ahead_of_all first [] f todo a h = a
ahead_of_all first (e ∷ done) f todo a h = nat_list_cmp_total.trans (sort_key first) (sort_key e.0) (sort_key f.0) a (ahead_of_all e.0 done f todo h.0 h.3)

-- a field that belongs after all is put there
with_field_last : (done : Fields) (f : List ℕ × List ℕ) (todo : Fields) → IsHeaderList (done ++ f ∷ todo) → with_field f.0 f.1 done ≡ done ++ f ∷ []
with_field_last [] f todo h = refl
with_field_last (e ∷ done) f todo h =
    ap (λ o. match_ordering o ((f.0, f.1) ∷ e ∷ done) ((e.0, f.1) ∷ done) (e ∷ with_field f.0 f.1 done))
    (nat_list_cmp_total.antisymm (sort_key f.0) (sort_key e.0) ∙ ap ordering_reverse (ahead_of_all e.0 done f todo h.0 h.3))
    ∙ ap (λ fs. e ∷ fs) (with_field_last done f todo h.3)

-- the word of a field
abbrev header_word : List ℕ × List ℕ → List ℕ
header_word f = encode_lower f.0 ++ 61 ∷ encode_lower f.1

field_is : (f : List ℕ × List ℕ) → field_text f ≡ 32 ∷ header_word f
field_is f = simp append_assoc

header_text_again : (text : List ℕ) → IsText text → header_text_of (encode_lower text) ≡ Some text
header_text_again text h = ap (λ o. option_and_then as_text o) (digits_encoded text h.1) ∙ ap (λ t. if t then Some text else None) (is_text_yes text h.0)

header_again : (f : List ℕ × List ℕ) → IsText f.0 → IsText f.1 → header_of (header_word f) ≡ Some f
header_again f h i =
    ap (two header_text_of header_text_of)
    (part_first 61 (encode_lower f.0) (encode_lower f.1) (hex_lacks 61 refl (encode_lower f.0) (encoded_hex f.0 h.1))
    ∙ ap (λ l. encode_lower f.0 ∷ l) (part_alone 61 (encode_lower f.1) (hex_lacks 61 refl (encode_lower f.1) (encoded_hex f.1 i.1))))
    ∙ ap (λ o. option_zip o (header_text_of (encode_lower f.1))) (header_text_again f.0 h)
    ∙ ap (λ o. option_zip (Some f.0) o) (header_text_again f.1 i)

headers_again : (done todo : Fields) → IsHeaderList (done ++ todo) → AllByRecursion (λ (f : List ℕ × List ℕ). IsText f.0 × IsText f.1) todo
    → headers_from done (map header_word todo) ≡ Some (done ++ todo)
headers_again done [] h texts = ap Some (sym (append-nil done))
headers_again done (f ∷ todo) h texts =
    ap (λ (o : Option (List ℕ × List ℕ)). elim (option_map (λ field. with_field field.0 field.1 done) o) [ Some more ↦ headers_from more (map header_word todo) | None ↦ None ])
    (header_again f texts.0.0 texts.0.1)
    ∙ ap (λ fs. headers_from fs (map header_word todo)) (with_field_last done f todo h)
    ∙ headers_again (done ++ f ∷ []) todo (subst IsHeaderList (sym (append_assoc done (f ∷ []) todo)) h) texts.1
    ∙ ap Some (append_assoc done (f ∷ []) todo)

plain_header : (f : List ℕ × List ℕ) → IsText f.0 → IsText f.1 → IsPlain (header_word f)
plain_header f h i = (
  lacks_both 32 (encode_lower f.0) (61 ∷ encode_lower f.1) (hex_lacks 32 refl (encode_lower f.0) (encoded_hex f.0 h.1)) (hex_lacks 32 refl (encode_lower f.1) (encoded_hex f.1 i.1)),
  lacks_both 59 (encode_lower f.0) (61 ∷ encode_lower f.1) (hex_lacks 59 refl (encode_lower f.0) (encoded_hex f.0 h.1)) (hex_lacks 59 refl (encode_lower f.1) (encoded_hex f.1 i.1)),
)

plain_headers : (fields : Fields) → AllByRecursion (λ (f : List ℕ × List ℕ). IsText f.0 × IsText f.1) fields → ArePlain (map header_word fields)
plain_headers [] texts = tt
plain_headers (f ∷ fields) texts = (plain_header f texts.0.0 texts.0.1, plain_headers fields texts.1)

spaced_fields : (word : List ℕ) (fields : Fields) → word ++ flat_map field_text fields ≡ spaced (word ∷ map header_word fields)
spaced_fields word [] = append-nil word
spaced_fields word (f ∷ fields) =
    ap (λ t. word ++ (t ++ flat_map field_text fields)) (field_is f) ∙ ap (λ t. word ++ 32 ∷ t) (spaced_fields (header_word f) fields)

request_spelled : (id : ℕ) (headers : Fields) → IsSession id → AreFields headers
    → Spelled request_of (decimal id ++ flat_map field_text headers) (replies.Request id headers)
request_spelled id headers h i = record {
  first = decimal id;
  rest = map header_word headers;
  plain = (plain_id id h.0, plain_headers headers i.1);
  spells = spaced_fields (decimal id) headers;
  again =
      ap (λ o. option_map (λ p. replies.Request p.0 p.1) (option_zip o (headers_of_words (map header_word headers)))) (session_decimal id h)
      ∙ ap (λ o. option_map (λ p. replies.Request p.0 p.1) (option_zip (Some id) o)) (headers_again [] headers i.0 i.1);
}

-- ---- replies

session_spelled : (id : ℕ) → IsSession id → Spelled (one session_of_word) (decimal id) id
session_spelled id h = bare (decimal id) (plain_id id h.0) (session_decimal id h)

count_spelled : (n : ℕ) → IsCount n → Spelled (one count_of) (decimal n) n
count_spelled n h = bare (decimal n) (plain_decimal n h) (count_decimal n h)

bytes_spelled : (bytes : List ℕ) → IsBytes bytes → Spelled (one bytes_of) (hex_text bytes) bytes
bytes_spelled bytes h = bare (hex_text bytes) (plain_hex bytes h) (bytes_encoded bytes h)

size_spelled : (n : ℕ) → IsCount n → Spelled (one size_of) (decimal n) (Some n)
size_spelled n h = bare (decimal n) (plain_decimal n h)
    (ap (λ t. if t then Some None else option_map Some (count_of (decimal n))) (not_none (decimal n) (decimal_hex n h)) ∙ ap (option_map Some) (count_decimal n h))

same_or : (o : Option Reply) → option_or o None ≡ option_or (option_map (λ r. r) o) None
same_or None = refl
same_or (Some r) = refl

-- the reply without what isn't printed
pub reply_spelled : (r : Reply) → IsReply r → Spelled reply_of_words (reply_text r) (normal_reply r)
reply_spelled replies.Done h = bare (codes "done") (refl, refl) refl
reply_spelled replies.Pending h = bare (codes "pending") (refl, refl) refl
reply_spelled replies.NoSession h = bare (codes "no_session") (refl, refl) refl
reply_spelled replies.NoStream h = bare (codes "no_stream") (refl, refl) refl
reply_spelled (replies.Request id headers) h = named_or (λ (r : Reply). r) (codes "request") (refl, refl) (λ w words. same_or (request_of (w ∷ words))) (request_spelled id headers h.0 h.1)
reply_spelled (replies.Session id) h = named_or replies.Session (codes "session") (refl, refl) (λ w words. refl) (session_spelled id h)
reply_spelled replies.Rejected h = bare (codes "rejected") (refl, refl) refl
reply_spelled (replies.Uni id) h = named_or replies.Uni (codes "uni") (refl, refl) (λ w words. refl) (id_spelled id h)
reply_spelled (replies.Bi id) h = named_or replies.Bi (codes "bi") (refl, refl) (λ w words. refl) (id_spelled id h)
reply_spelled (replies.Opening id) h = named_or replies.Opening (codes "opening") (refl, refl) (λ w words. refl) (id_spelled id h)
reply_spelled (replies.SendReady id) h = named_or replies.SendReady (codes "send_ready") (refl, refl) (λ w words. refl) (id_spelled id h)
reply_spelled (replies.BiReady id) h = named_or replies.BiReady (codes "bi_ready") (refl, refl) (λ w words. refl) (id_spelled id h)
reply_spelled (replies.Id id) h = named_or replies.Id (codes "id") (refl, refl) (λ w words. refl) (session_spelled id h)
reply_spelled (replies.Datagram piece) h = named_or replies.Datagram (codes "datagram") (refl, refl) (λ w words. refl) (bytes_spelled piece h)
reply_spelled (replies.Size None) h = named_or replies.Size (codes "size") (refl, refl) (λ w words. refl) (bare {read = one size_of} (codes "none") (refl, refl) refl)
reply_spelled (replies.Size (Some n)) h = named_or replies.Size (codes "size") (refl, refl) (λ w words. refl) (size_spelled n h)
reply_spelled (replies.Written count) h = named_or replies.Written (codes "written") (refl, refl) (λ w words. refl) (count_spelled count h)
reply_spelled replies.AllWritten h = bare (codes "all_written") (refl, refl) refl
reply_spelled (replies.Count count) h = named_or replies.Count (codes "count") (refl, refl) (λ w words. refl) (count_spelled count h)
reply_spelled replies.Finished h = bare (codes "finished") (refl, refl) refl
reply_spelled (replies.Priority priority) h =
    named_or replies.Priority (codes "priority") (refl, refl) (λ w words. refl)
    (bare {read = one priority_of_word} (signed_decimal priority) (priority_lacks 32 refl refl priority h, priority_lacks 59 refl refl priority h) (priority_decimal priority h))
reply_spelled replies.ClosedStream h = bare (codes "closed_stream") (refl, refl) refl
reply_spelled (replies.Read None) h = bare (codes "end") (refl, refl) refl
reply_spelled (replies.Read (Some piece)) h = named_or (λ piece. replies.Read (Some piece)) (codes "read") (refl, refl) (λ w words. refl) (bytes_spelled piece h)
reply_spelled (replies.Exact piece) h = named_or replies.Exact (codes "exact") (refl, refl) (λ w words. refl) (bytes_spelled piece h)
reply_spelled (replies.Failed error) h = named replies.Failed (codes "failed") (refl, refl) (λ w words. refl) (ended_spelled error h)
reply_spelled (replies.Closed error) h = named replies.Closed (codes "closed") (refl, refl) (λ w words. refl) (ended_spelled error h)
reply_spelled (replies.ConnectFailed error) h = named replies.ConnectFailed (codes "connect_failed") (refl, refl) (λ w words. refl) (connecting_spelled error h)
reply_spelled (replies.OpeningFailed error) h = named replies.OpeningFailed (codes "opening_failed") (refl, refl) (λ w words. refl) (opening_spelled error)
reply_spelled (replies.WriteFailed error) h = named replies.WriteFailed (codes "write_failed") (refl, refl) (λ w words. refl) (write_spelled error h)
reply_spelled (replies.StoppedBy error) h = named replies.StoppedBy (codes "stopped_by") (refl, refl) (λ w words. refl) (write_spelled error h)
reply_spelled (replies.ReadFailed error) h = named replies.ReadFailed (codes "read_failed") (refl, refl) (λ w words. refl) (read_spelled error h)
reply_spelled (replies.ExactFailed (exacts.FinishedEarly count) piece) h =
    named (λ p. replies.ExactFailed p.0 p.1) (codes "exact_failed") (refl, refl) (λ w words. refl) (exact_spelled (exacts.FinishedEarly count) piece h.0 h.1)
reply_spelled (replies.ExactFailed (exacts.Read error) piece) h =
    named (λ p. replies.ExactFailed p.0 p.1) (codes "exact_failed") (refl, refl) (λ w words. refl) (exact_spelled (exacts.Read error) piece h.0 h.1)
reply_spelled (replies.DatagramFailed error) h = named replies.DatagramFailed (codes "datagram_failed") (refl, refl) (λ w words. refl) (datagram_spelled error)

-- ---- actions

-- an action by its words
abbrev pub action_named : List (List ℕ) → Option Action
action_named [] = None
action_named (name ∷ fields) = action_with name fields

two_ids : (m n : ℕ) → IsId m → IsId n → Spelled (two id_of id_of) (decimal m ++ codes " " ++ decimal n) (m, n)
two_ids m n h i = pair id_of id_of (decimal m) (decimal n) (plain_id m h) (plain_id n i) (id_decimal m h) (id_decimal n i)

pub action_spelled : (a : Action) → IsAction a → Spelled action_named (action_text a) a
action_spelled (actions.Dial address name) h =
    named (λ p. actions.Dial p.0 p.1) (codes "dial") (refl, refl) (λ w words. refl)
    (pair address_of_word text_of_word (versioned_address_text address) (hex_text name) (plain_address address h.0) (plain_hex name h.1.1) (address_again address h.0) (text_encoded name h.1))
action_spelled (actions.Opened id) h = named actions.Opened (codes "opened") (refl, refl) (λ w words. refl) (id_spelled id h)
action_spelled (actions.Send id piece) h = named (λ p. actions.Send p.0 p.1) (codes "send") (refl, refl) (λ w words. refl) (coded_spelled id piece h.0 h.1)
action_spelled (actions.Finish id) h = named actions.Finish (codes "finish") (refl, refl) (λ w words. refl) (id_spelled id h)
action_spelled (actions.ResetOut id code) h = named (λ p. actions.ResetOut p.0 p.1) (codes "reset") (refl, refl) (λ w words. refl) (two_ids id code h.0 h.1)
action_spelled (actions.StopOut id code) h = named (λ p. actions.StopOut p.0 p.1) (codes "stop") (refl, refl) (λ w words. refl) (two_ids id code h.0 h.1)
action_spelled (actions.DatagramOut piece) h = named actions.DatagramOut (codes "datagram_out") (refl, refl) (λ w words. refl) (bytes_spelled piece h)
action_spelled (actions.Close code reason) h = named (λ p. actions.Close p.0 p.1) (codes "close") (refl, refl) (λ w words. refl) (coded_spelled code reason h.0 h.1)
