-- Each turn is given back by its head and its bytes.
use Rattle.std.proofs.Common.{◌≡◌, ◌≤◌, ◌<◌, ◌+◌, ◌-◌, ◌*◌, ◌/◌, ◌%◌, ◌^◌, ℕ, zero, suc, Bool, List, [], ◌∷◌, ◌++◌, length, take, drop, true, false, refl, sym, ap, ◌∙◌, arith, append_assoc, append-nil, length-append, ltb, eq-eqb}
use Rattle.std.proofs.lemmas.Bool.{lt-ltb, le-ltb}
use Rattle.std.proofs.lemmas.List.{drop_at, take_at}
use Rattle.std.proofs.lemmas.Nat.{from_le_bytes-to_le_bytes_8}
use Rattle.std.specs.Cmp.Lexicographic.{nat_list_cmp_total}
use Rattle.std.specs.Int.{from_le_bytes, to_le_bytes, w64}
use Rattle.std.specs.Option.{option_and_then, option_map, option_zip}
use Rattle.std.specs.Ordering.{match_ordering, ordering_reverse}
use Rattle.std.specs.Prelude.{Option, Some, None, nat_eq, nat_lt, slice_get, ◌==◌, if◌then◌else◌}
use Rattle.std.specs.declared.cmp.Ordering.TheVariants.{Less}
use Rattle.wt_turn.specs.Close.{Close}
use Rattle.wt_turn.specs.declared.call.Call.{Call}
use Rattle.wt_turn.specs.declared.call.Call.TheVariants as calls
use Rattle.wt_turn.specs.declared.datagram_fact.DatagramFact.{DatagramFact}
use Rattle.wt_turn.specs.declared.datagram_fact.DatagramFact.TheVariants as facts
use Rattle.wt_turn.specs.declared.loss.LossReason.{LossReason}
use Rattle.wt_turn.specs.declared.loss.LossReason.TheVariants as losses
use Rattle.wt_turn.specs.declared.turn.Turn.{Turn}
use Rattle.wt_turn.specs.declared.turn.Turn.TheVariants as turns
use Rattle.wt_wire.specs.HeaderList.{Fields, IsAhead, IsHeaderList, compare_names, sort_key, with_field}
use Rattle.wt_wire.specs.Utf8.{is_text}
use Rattle.wt_wire.specs.declared.addr.Addr.{Addr}
use Rattle.wt_wire.specs.declared.addr.Addr.TheVariants as addresses
use Rattle.wt_wire.specs.declared.lookup.ConnectOutcome.{ConnectOutcome}
use Rattle.wt_wire.specs.declared.lookup.ConnectOutcome.TheVariants as outcomes
use Rattle.wt_wire.specs.declared.lookup.Lookup.{Lookup}
use Rattle.wt_wire.specs.declared.lookup.Lookup.TheVariants as lookups
use Rattle.wt_abi.specs.Connecting.{connect_after, connect_of, connect_to, loss_of, lookup_at, outcome_at}
use Rattle.wt_abi.specs.Heads.{AreTexts, IsAddress, IsCall, IsConnect, IsFieldList, IsLookup, IsLoss, IsOutcome, IsSession, IsText, IsTurn, IsVarint, bytes_of, call_bytes, call_head, coded, connect_bytes, connect_head, fields_bytes, head_of, loss_bytes, loss_head, lookup_bytes, on, on_session, outcome_bytes, text_bytes, with_fact, with_lookup, with_outcome}
use Rattle.wt_abi.specs.Numbers.{address_of, code_of, fact_of, session_of, stream_and_code, stream_of, varint_of}
use Rattle.wt_abi.specs.Replies.{address_head}
use Rattle.wt_abi.specs.Texts.{as_text, field_at, fields_from, fields_of, text_at, text_of_length}
use Rattle.wt_abi.specs.Kinds.{call_kinds, event_kinds}
use Rattle.wt_abi.specs.Turns.{call_with, event_with, turn_of}
use Rattle.wt_abi.specs.declared.kinds.CallKind.{CallKind}
use Rattle.wt_abi.specs.declared.kinds.EventKind.{EventKind}
use Rattle.wt_abi.specs.declared.head.TurnHead.{TurnHead}

-- ---- texts and fields

eight : (n : ℕ) → length (to_le_bytes w64 n) ≡ 8
eight n = refl

-- a text that is written is read, whatever follows it
text_again : (text more : List ℕ) → IsText text → text_at (text_bytes text ++ more) ≡ Some (text, more)
unfolding text_at
text_again text more is =
    let front : List ℕ = to_le_bytes w64 (length text) in
    let bytes : List ℕ = (front ++ text) ++ more in
    let joined : bytes ≡ front ++ (text ++ more) = append_assoc front text more in
    let enough : ltb (length bytes) 8 ≡ false = le-ltb (length bytes) 8 (omega (arith, ap length joined, length-append front (text ++ more), eight (length text))) in
    let first : take 8 bytes ≡ front = ap (take 8) joined ∙ take_at front (text ++ more) 8 (eight (length text)) in
    let rest : drop 8 bytes ≡ text ++ more = ap (drop 8) joined ∙ drop_at front (text ++ more) 8 (eight (length text)) in
    let size : from_le_bytes w64 front ≡ length text = from_le_bytes-to_le_bytes_8 (length text) is.short in
    let fits : ltb (length (text ++ more)) (length text) ≡ false = le-ltb (length (text ++ more)) (length text) (omega (arith, length-append text more)) in
    let own : take (length text) (text ++ more) ≡ text = take_at text more (length text) refl in
    let after : drop (length text) (text ++ more) ≡ more = drop_at text more (length text) refl in
    let Read : Type 0 = Option (List ℕ × List ℕ) in
    let whole : Bool → ℕ → List ℕ → Read = λ b n bs. if b then None else text_of_length n bs in
    let keep : List ℕ → List ℕ × List ℕ = λ t. (t, drop (length text) (text ++ more)) in
    let sized : Bool → List ℕ → Read = λ b t. if b then None else option_map keep (as_text t) in
    let tested : Bool → Read = λ b. option_map keep (if b then Some text else None) in
    ap (λ (b : Bool). whole b (from_le_bytes w64 (take 8 bytes)) (drop 8 bytes)) enough
    ∙ ap (λ (n : ℕ). whole false n (drop 8 bytes)) (ap (from_le_bytes w64) first ∙ size)
    ∙ ap (whole false (length text)) rest
    ∙ ap (λ (b : Bool). sized b (take (length text) (text ++ more))) fits
    ∙ ap (sized false) own
    ∙ ap tested is.whole
    ∙ ap (λ (bs : List ℕ). Some (text, bs)) after

-- so is a field
field_again : (f : List ℕ × List ℕ) (more : List ℕ) → IsText f.0 → IsText f.1 → field_at ((text_bytes f.0 ++ text_bytes f.1) ++ more) ≡ Some ((f.0, f.1), more)
field_again f more name value =
    ap (option_and_then (λ n. option_map (λ v. ((n.0, v.0), v.1)) (text_at n.1)))
    (ap text_at (append_assoc (text_bytes f.0) (text_bytes f.1) more) ∙ text_again f.0 (text_bytes f.1 ++ more) name)
    ∙ ap (option_map (λ v. ((f.0, v.0), v.1))) (text_again f.1 more value)

ahead_of_all : (first : List ℕ) (done : Fields) (f : List ℕ × List ℕ) (todo : Fields) → IsAhead first (done ++ f ∷ todo) → IsHeaderList (done ++ f ∷ todo) → compare_names first f.0 ≡ Less
ahead_of_all first [] f todo a h = a
ahead_of_all first (e ∷ done) f todo a h = nat_list_cmp_total.trans (sort_key first) (sort_key e.0) (sort_key f.0) a (ahead_of_all e.0 done f todo h.0 h.3)

-- a field that belongs after all is put there
with_field_last : (done : Fields) (f : List ℕ × List ℕ) (todo : Fields) → IsHeaderList (done ++ f ∷ todo) → with_field f.0 f.1 done ≡ done ++ f ∷ []
with_field_last [] f todo h = refl
with_field_last (e ∷ done) f todo h =
    ap (λ o. match_ordering o ((f.0, f.1) ∷ e ∷ done) ((e.0, f.1) ∷ done) (e ∷ with_field f.0 f.1 done))
    (nat_list_cmp_total.antisymm (sort_key f.0) (sort_key e.0) ∙ ap ordering_reverse (ahead_of_all e.0 done f todo h.0 h.3))
    ∙ ap (λ fs. e ∷ fs) (with_field_last done f todo h.3)

-- fields that are written after others are read after them
fields_again : (done todo : Fields) → IsHeaderList (done ++ todo) → AreTexts todo → fields_from (length todo) done (fields_bytes todo) ≡ Some (done ++ todo)
fields_again done [] h texts = ap Some (sym (append-nil done))
fields_again done (f ∷ todo) h texts =
    let joined : (done ++ f ∷ []) ++ todo ≡ done ++ f ∷ todo = append_assoc done (f ∷ []) todo in
    let h' : IsHeaderList ((done ++ f ∷ []) ++ todo) = rw joined h in
    ap (option_and_then (λ r. fields_from (length todo) (with_field r.0.0 r.0.1 done) r.1)) (field_again f (fields_bytes todo) texts.0 texts.1)
    ∙ ap (λ fields. fields_from (length todo) fields (fields_bytes todo)) (with_field_last done f todo h)
    ∙ fields_again (done ++ f ∷ []) todo h' texts.2
    ∙ ap Some joined

field_list_again : (fields : Fields) → IsFieldList fields → fields_of (length fields) (fields_bytes fields) ≡ Some fields
field_list_again fields is = fields_again [] fields is.ordered is.texts

-- ---- numbers

varint_again : (n : ℕ) → IsVarint n → varint_of n ≡ Some n
varint_again n small = let e : ltb n (2 ^ 62) ≡ true = lt-ltb n (2 ^ 62) small in rw e refl

both_again : (kind id code : ℕ) → IsVarint id × IsVarint code → stream_and_code (coded kind id code) ≡ Some (id, code)
both_again kind id code is =
    ap (λ (o : Option ℕ). option_zip o (varint_of code)) (varint_again id is.0) ∙ ap (λ (o : Option ℕ). option_zip (Some id) o) (varint_again code is.1)

session_again : (kind : ℕ) (session : Option ℕ) → IsSession session → session_of (on_session kind session) ≡ Some session
session_again kind None is = refl
session_again kind (Some id) is =
    let four : nat_eq (id % 4) 0 ≡ true = eq-eqb (id % 4) 0 is.1 in
    let tested : ℕ → Option ℕ = λ n. if n % 4 == 0 then Some n else None in
    let named : Bool → Option (Option ℕ) = λ b. option_map Some (if b then Some id else None) in
    ap (λ (o : Option ℕ). option_map Some (option_and_then tested o)) (varint_again id is.0) ∙ ap named four

address_again : (address : Addr) → IsAddress address → address_of (address_head address) ≡ Some address
address_again (addresses.V4 ip port) is = let e : ltb ip (2 ^ 32) ≡ true = lt-ltb ip (2 ^ 32) is in rw e refl
address_again (addresses.V6 ip port) is =
    let e : ip / 2 ^ 64 * 2 ^ 64 + ip % 2 ^ 64 ≡ ip = omega arith in
    ap (λ n. Some (addresses.V6 n port)) e

fact_again : (fact : DatagramFact) (h : TurnHead) → fact_of (with_fact fact h) ≡ Some fact
fact_again facts.Disabled h = refl
fact_again facts.Unsupported h = refl
fact_again (facts.Limit limit) h = refl

loss_again : (reason : LossReason) → IsLoss reason → loss_of (loss_head reason) (loss_bytes reason) ≡ Some reason
loss_again losses.VersionMismatch is = refl
loss_again (losses.TransportError code reason) is = let u : is_text reason ≡ true = is.whole in rw u refl
loss_again (losses.ConnectionClosed close) is =
    let made : ℕ → Close = λ code. record { code = code; reason = close.reason } in
    ap (λ (o : Option ℕ). option_map losses.ConnectionClosed (option_map made o)) (varint_again close.code is)
loss_again (losses.ApplicationClosed close) is =
    let made : ℕ → Close = λ code. record { code = code; reason = close.reason } in
    ap (λ (o : Option ℕ). option_map losses.ApplicationClosed (option_map made o)) (varint_again close.code is)
loss_again losses.Reset is = refl
loss_again losses.TimedOut is = refl
loss_again losses.CidsExhausted is = refl

-- ---- a connect

lookup_again : (lookup : Lookup) (outcome : ConnectOutcome) (h : TurnHead) (more : List ℕ) → IsLookup lookup
    → lookup_at (with_outcome outcome (with_lookup lookup h)) (lookup_bytes lookup ++ more) ≡ Some (lookup, more)
lookup_again (lookups.Found address) outcomes.Proceed h more is = ap (option_map (λ a. (lookups.Found a, more))) (address_again address is)
lookup_again (lookups.Found address) outcomes.EndpointStopping h more is = ap (option_map (λ a. (lookups.Found a, more))) (address_again address is)
lookup_again (lookups.Found address) outcomes.CidsExhausted h more is = ap (option_map (λ a. (lookups.Found a, more))) (address_again address is)
lookup_again (lookups.Found address) (outcomes.InvalidServerName name) h more is = ap (option_map (λ a. (lookups.Found a, more))) (address_again address is)
lookup_again (lookups.Found address) (outcomes.InvalidRemoteAddress remote) h more is = ap (option_map (λ a. (lookups.Found a, more))) (address_again address is)
lookup_again lookups.NotFound outcomes.Proceed h more is = refl
lookup_again lookups.NotFound outcomes.EndpointStopping h more is = refl
lookup_again lookups.NotFound outcomes.CidsExhausted h more is = refl
lookup_again lookups.NotFound (outcomes.InvalidServerName name) h more is = refl
lookup_again lookups.NotFound (outcomes.InvalidRemoteAddress remote) h more is = refl
lookup_again (lookups.Fault reason) outcomes.Proceed h more is = ap (option_map (λ r. (lookups.Fault r.0, r.1))) (text_again reason more is)
lookup_again (lookups.Fault reason) outcomes.EndpointStopping h more is = ap (option_map (λ r. (lookups.Fault r.0, r.1))) (text_again reason more is)
lookup_again (lookups.Fault reason) outcomes.CidsExhausted h more is = ap (option_map (λ r. (lookups.Fault r.0, r.1))) (text_again reason more is)
lookup_again (lookups.Fault reason) (outcomes.InvalidServerName name) h more is = ap (option_map (λ r. (lookups.Fault r.0, r.1))) (text_again reason more is)
lookup_again (lookups.Fault reason) (outcomes.InvalidRemoteAddress remote) h more is = ap (option_map (λ r. (lookups.Fault r.0, r.1))) (text_again reason more is)

outcome_again : (outcome : ConnectOutcome) (h : TurnHead) (more : List ℕ) → IsOutcome outcome → outcome_at (with_outcome outcome h) (outcome_bytes outcome ++ more) ≡ Some (outcome, more)
outcome_again outcomes.Proceed h more is = refl
outcome_again outcomes.EndpointStopping h more is = refl
outcome_again outcomes.CidsExhausted h more is = refl
outcome_again (outcomes.InvalidServerName name) h more is = ap (option_map (λ n. (outcomes.InvalidServerName n.0, n.1))) (text_again name more is)
outcome_again (outcomes.InvalidRemoteAddress address) h more is = ap (option_map (λ a. (outcomes.InvalidRemoteAddress a, more))) (address_again address is)

counted : (fields : Fields) (lookup : Lookup) (outcome : ConnectOutcome) → (connect_head fields lookup outcome).fields ≡ length fields
counted fields (lookups.Found address) outcomes.Proceed = refl
counted fields (lookups.Found address) outcomes.EndpointStopping = refl
counted fields (lookups.Found address) outcomes.CidsExhausted = refl
counted fields (lookups.Found address) (outcomes.InvalidServerName name) = refl
counted fields (lookups.Found address) (outcomes.InvalidRemoteAddress remote) = refl
counted fields lookups.NotFound outcomes.Proceed = refl
counted fields lookups.NotFound outcomes.EndpointStopping = refl
counted fields lookups.NotFound outcomes.CidsExhausted = refl
counted fields lookups.NotFound (outcomes.InvalidServerName name) = refl
counted fields lookups.NotFound (outcomes.InvalidRemoteAddress remote) = refl
counted fields (lookups.Fault reason) outcomes.Proceed = refl
counted fields (lookups.Fault reason) outcomes.EndpointStopping = refl
counted fields (lookups.Fault reason) outcomes.CidsExhausted = refl
counted fields (lookups.Fault reason) (outcomes.InvalidServerName name) = refl
counted fields (lookups.Fault reason) (outcomes.InvalidRemoteAddress remote) = refl

connect_again : (options : List ℕ × Fields) (lookup : Lookup) (outcome : ConnectOutcome) → IsConnect options lookup outcome
    → connect_of (connect_head options.1 lookup outcome) (connect_bytes options lookup outcome) ≡ Some (calls.Connect options lookup outcome)
connect_again options lookup outcome is =
    let h : TurnHead = connect_head options.1 lookup outcome in
    let after_lookup : List ℕ = outcome_bytes outcome ++ fields_bytes options.1 in
    ap (option_and_then (λ url. option_and_then (connect_after h url.0) (lookup_at h url.1))) (text_again options.0 (lookup_bytes lookup ++ after_lookup) is.url)
    ∙ ap (option_and_then (connect_after h options.0)) (lookup_again lookup outcome (record (on 64 0) { fields = length options.1 }) after_lookup is.looked_up)
    ∙ ap (option_and_then (connect_to h options.0 lookup)) (outcome_again outcome (with_lookup lookup (record (on 64 0) { fields = length options.1 })) (fields_bytes options.1) is.answered)
    ∙ ap (λ n. option_map (λ fields. calls.Connect (options.0, fields) lookup outcome) (fields_of n (fields_bytes options.1))) (counted options.1 lookup outcome)
    ∙ ap (option_map (λ fields. calls.Connect (options.0, fields) lookup outcome)) (field_list_again options.1 is.fields)

-- the kind of a connect is its own, whatever a resolver and QUIC answered
kind_of_connect : (fields : Fields) (lookup : Lookup) (outcome : ConnectOutcome) → (connect_head fields lookup outcome).kind ≡ 64
kind_of_connect fields (lookups.Found address) outcomes.Proceed = refl
kind_of_connect fields (lookups.Found address) outcomes.EndpointStopping = refl
kind_of_connect fields (lookups.Found address) outcomes.CidsExhausted = refl
kind_of_connect fields (lookups.Found address) (outcomes.InvalidServerName name) = refl
kind_of_connect fields (lookups.Found address) (outcomes.InvalidRemoteAddress remote) = refl
kind_of_connect fields lookups.NotFound outcomes.Proceed = refl
kind_of_connect fields lookups.NotFound outcomes.EndpointStopping = refl
kind_of_connect fields lookups.NotFound outcomes.CidsExhausted = refl
kind_of_connect fields lookups.NotFound (outcomes.InvalidServerName name) = refl
kind_of_connect fields lookups.NotFound (outcomes.InvalidRemoteAddress remote) = refl
kind_of_connect fields (lookups.Fault reason) outcomes.Proceed = refl
kind_of_connect fields (lookups.Fault reason) outcomes.EndpointStopping = refl
kind_of_connect fields (lookups.Fault reason) outcomes.CidsExhausted = refl
kind_of_connect fields (lookups.Fault reason) (outcomes.InvalidServerName name) = refl
kind_of_connect fields (lookups.Fault reason) (outcomes.InvalidRemoteAddress remote) = refl

connect_turn : (options : List ℕ × Fields) (lookup : Lookup) (outcome : ConnectOutcome) → IsConnect options lookup outcome
    → turn_of (connect_head options.1 lookup outcome) (connect_bytes options lookup outcome) ≡ Some (turns.Call (calls.Connect options lookup outcome))
unfolding turn_of
connect_turn options lookup outcome is =
    let k : (connect_head options.1 lookup outcome).kind ≡ 64 = kind_of_connect options.1 lookup outcome in
    let h : TurnHead = connect_head options.1 lookup outcome in
    let bytes : List ℕ = connect_bytes options lookup outcome in
    let by_kind : ℕ → Option Turn = λ n. if nat_lt n 64
    then option_and_then (λ (kind : EventKind). event_with kind h bytes) (slice_get event_kinds n)
    else option_and_then (λ (kind : CallKind). option_map turns.Call (call_with kind h bytes)) (slice_get call_kinds (n - 64)) in
    ap by_kind k ∙ ap (option_map turns.Call) (connect_again options lookup outcome is)

-- ---- turns

call_again : (call : Call) → IsCall call → turn_of (call_head call) (call_bytes call) ≡ Some (turns.Call call)
unfolding turn_of
call_again (calls.Connect options lookup outcome) is = connect_turn options lookup outcome is
call_again calls.Incoming is = refl
call_again (calls.Accept headers) is = ap (λ (o : Option Fields). option_map turns.Call (option_map calls.Accept o)) (field_list_again headers is)
call_again calls.Forbidden is = refl
call_again calls.NotFound is = refl
call_again calls.TooManyRequests is = refl
call_again calls.Handshake is = refl
call_again (calls.EndpointClose code reason) is = ap (λ (o : Option (ℕ)). option_map turns.Call (option_map (λ (x : ℕ). calls.EndpointClose x reason) o)) (varint_again code is)
call_again (calls.AcceptUni None) is = refl
call_again (calls.AcceptUni (Some id)) is = ap (λ (o : Option (Option ℕ)). option_map turns.Call (option_map (λ (x : Option ℕ). calls.AcceptUni x) o)) (session_again 72 (Some id) is)
call_again (calls.AcceptBi None) is = refl
call_again (calls.AcceptBi (Some id)) is = ap (λ (o : Option (Option ℕ)). option_map turns.Call (option_map (λ (x : Option ℕ). calls.AcceptBi x) o)) (session_again 73 (Some id) is)
call_again (calls.ReceiveDatagram None) is = refl
call_again (calls.ReceiveDatagram (Some id)) is = ap (λ (o : Option (Option ℕ)). option_map turns.Call (option_map (λ (x : Option ℕ). calls.ReceiveDatagram x) o)) (session_again 74 (Some id) is)
call_again (calls.OpenUni None) is = refl
call_again (calls.OpenUni (Some id)) is = ap (λ (o : Option (Option ℕ)). option_map turns.Call (option_map (λ (x : Option ℕ). calls.OpenUni x) o)) (session_again 75 (Some id) is)
call_again (calls.OpenBi None) is = refl
call_again (calls.OpenBi (Some id)) is = ap (λ (o : Option (Option ℕ)). option_map turns.Call (option_map (λ (x : Option ℕ). calls.OpenBi x) o)) (session_again 76 (Some id) is)
call_again (calls.PollOpening id) is = ap (λ (o : Option (ℕ)). option_map turns.Call (option_map (λ (x : ℕ). calls.PollOpening x) o)) (varint_again id is)
call_again (calls.SendDatagram payload None) is = refl
call_again (calls.SendDatagram payload (Some id)) is = ap (λ (o : Option (Option ℕ)). option_map turns.Call (option_map (λ (x : Option ℕ). calls.SendDatagram payload x) o)) (session_again 78 (Some id) is)
call_again (calls.EndSession None) is = refl
call_again (calls.EndSession (Some id)) is = ap (λ (o : Option (Option ℕ)). option_map turns.Call (option_map (λ (x : Option ℕ). calls.EndSession x) o)) (session_again 79 (Some id) is)
call_again (calls.MaxDatagramSize None) is = refl
call_again (calls.MaxDatagramSize (Some id)) is = ap (λ (o : Option (Option ℕ)). option_map turns.Call (option_map (λ (x : Option ℕ). calls.MaxDatagramSize x) o)) (session_again 80 (Some id) is)
call_again (calls.SessionId None) is = refl
call_again (calls.SessionId (Some id)) is = ap (λ (o : Option (Option ℕ)). option_map turns.Call (option_map (λ (x : Option ℕ). calls.SessionId x) o)) (session_again 81 (Some id) is)
call_again (calls.Close code reason) is = ap (λ (o : Option (ℕ)). option_map turns.Call (option_map (λ (x : ℕ). calls.Close x reason) o)) (varint_again code is)
call_again calls.Closed is = refl
call_again (calls.Write id bytes) is = ap (λ (o : Option (ℕ)). option_map turns.Call (option_map (λ (x : ℕ). calls.Write x bytes) o)) (varint_again id is)
call_again (calls.WriteAll id bytes) is = ap (λ (o : Option (ℕ)). option_map turns.Call (option_map (λ (x : ℕ). calls.WriteAll x bytes) o)) (varint_again id is)
call_again (calls.Finish id) is = ap (λ (o : Option (ℕ)). option_map turns.Call (option_map (λ (x : ℕ). calls.Finish x) o)) (varint_again id is)
call_again (calls.Stopped id) is = ap (λ (o : Option (ℕ)). option_map turns.Call (option_map (λ (x : ℕ). calls.Stopped x) o)) (varint_again id is)
call_again (calls.Priority id) is = ap (λ (o : Option (ℕ)). option_map turns.Call (option_map (λ (x : ℕ). calls.Priority x) o)) (varint_again id is)
call_again (calls.SetPriority id priority) is = ap (λ (o : Option (ℕ)). option_map turns.Call (option_map (λ (x : ℕ). calls.SetPriority x priority) o)) (varint_again id is)
call_again (calls.ResetSend id code) is = ap (λ (o : Option (ℕ × ℕ)). option_map turns.Call (option_map (λ (x : ℕ × ℕ). calls.ResetSend x.0 x.1) o)) (both_again 90 id code is)
call_again (calls.Read id size) is = ap (λ (o : Option (ℕ)). option_map turns.Call (option_map (λ (x : ℕ). calls.Read x size) o)) (varint_again id is)
call_again (calls.ReadExact id size) is = ap (λ (o : Option (ℕ)). option_map turns.Call (option_map (λ (x : ℕ). calls.ReadExact x size) o)) (varint_again id is)
call_again (calls.StopRecv id code) is = ap (λ (o : Option (ℕ × ℕ)). option_map turns.Call (option_map (λ (x : ℕ × ℕ). calls.StopRecv x.0 x.1) o)) (both_again 93 id code is)

-- each turn is given back
pub turn_again : (turn : Turn) → IsTurn turn → turn_of (head_of turn) (bytes_of turn) ≡ Some turn
unfolding turn_of
turn_again turns.PeerUni is = refl
turn_again turns.PeerBi is = refl
turn_again (turns.Bytes id piece) is = ap (λ (o : Option (ℕ)). option_map (λ (x : ℕ). turns.Bytes x piece) o) (varint_again id is)
turn_again (turns.End id) is = ap (λ (o : Option (ℕ)). option_map (λ (x : ℕ). turns.End x) o) (varint_again id is)
turn_again (turns.Reset id code) is = ap (λ (o : Option (ℕ × ℕ)). option_map (λ (x : ℕ × ℕ). turns.Reset x.0 x.1) o) (both_again 5 id code is)
turn_again (turns.Stop id code) is = ap (λ (o : Option (ℕ × ℕ)). option_map (λ (x : ℕ × ℕ). turns.Stop x.0 x.1) o) (both_again 6 id code is)
turn_again (turns.Acked id) is = ap (λ (o : Option (ℕ)). option_map (λ (x : ℕ). turns.Acked x) o) (varint_again id is)
turn_again (turns.Datagram piece) is = refl
turn_again (turns.MaxUni total) is = refl
turn_again (turns.MaxBi total) is = refl
turn_again (turns.MaxData id total) is = ap (λ (o : Option (ℕ)). option_map (λ (x : ℕ). turns.MaxData x total) o) (varint_again id is)
turn_again (turns.Connected uni bi credit facts.Disabled) is = refl
turn_again (turns.DatagramLimit facts.Disabled) is = refl
turn_again (turns.Connected uni bi credit facts.Unsupported) is = refl
turn_again (turns.DatagramLimit facts.Unsupported) is = refl
turn_again (turns.Connected uni bi credit (facts.Limit limit)) is = refl
turn_again (turns.DatagramLimit (facts.Limit limit)) is = refl
turn_again (turns.Loss losses.VersionMismatch) is = ap (option_map turns.Loss) (loss_again losses.VersionMismatch is)
turn_again (turns.Loss (losses.TransportError code reason)) is = ap (option_map turns.Loss) (loss_again (losses.TransportError code reason) is)
turn_again (turns.Loss (losses.ConnectionClosed close)) is = ap (option_map turns.Loss) (loss_again (losses.ConnectionClosed close) is)
turn_again (turns.Loss (losses.ApplicationClosed close)) is = ap (option_map turns.Loss) (loss_again (losses.ApplicationClosed close) is)
turn_again (turns.Loss losses.Reset) is = ap (option_map turns.Loss) (loss_again losses.Reset is)
turn_again (turns.Loss losses.TimedOut) is = ap (option_map turns.Loss) (loss_again losses.TimedOut is)
turn_again (turns.Loss losses.CidsExhausted) is = ap (option_map turns.Loss) (loss_again losses.CidsExhausted is)
turn_again (turns.Call call) is = call_again call is
