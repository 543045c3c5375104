use Rattle.std.proofs.Common.{◌≡◌, ◌∙◌, List, Option, Some, ap, sym, ℕ}
use Rattle.std.specs.List.{position}
use Rattle.std.specs.Prelude.{option_map}
use Rattle.wt_kept.specs.Kept.{WindowNow}
use Rattle.wt_kept.specs.Windows.{first_stream_id, is_of_kind, without_taken}
use Rattle.wt_peer_streams.proofs.Lists.{found-is, kind-out, none-is}
use Rattle.wt_sessions.specs.StreamTable.{Waiting}
use Rattle.wt_peer_streams.proofs.window.Window.take_stream.Goals as goal

pub returns-in-Some-clause-stream : goal.returns-in-Some-clause-stream
returns-in-Some-clause-stream c =
    let view : c.self.inside.streams.items ≡ c.args.self.now.streams = ap (λ (w : WindowNow). w.streams) c.self.view_is in
    let at : position (λ (x : Waiting). is_of_kind c.args.bidirectional x.id) c.self.inside.streams.items ≡ Some c.in-Some.index =
    ap (λ (xs : List Waiting). position (λ (x : Waiting). is_of_kind c.args.bidirectional x.id) xs) view ∙ sym c.in-Some.ensures in
    ap (λ (n : ℕ). Some n) (ap (λ (x : Waiting). x.id) (c.waiting.view_is ∙ c.remove-waiting.ensures.value))
    ∙ (sym (ap (λ (o : Option Waiting). option_map (λ (x : Waiting). x.id) o) (found-is (λ (x : Waiting). is_of_kind c.args.bidirectional x.id) c.self.inside.streams.items c.in-Some.index c.remove-waiting.result at))
    ∙ ap (λ (xs : List Waiting). first_stream_id c.args.bidirectional xs) view)

pub returns-in-Some-clause-rest : goal.returns-in-Some-clause-rest
returns-in-Some-clause-rest c =
    let view : c.self.inside.streams.items ≡ c.args.self.now.streams = ap (λ (w : WindowNow). w.streams) c.self.view_is in
    let at : position (λ (x : Waiting). is_of_kind c.args.bidirectional x.id) c.self.inside.streams.items ≡ Some c.in-Some.index =
    ap (λ (xs : List Waiting). position (λ (x : Waiting). is_of_kind c.args.bidirectional x.id) xs) view ∙ sym c.in-Some.ensures in
    let taken : first_stream_id c.args.bidirectional c.self.inside.streams.items ≡ Some c.remove-waiting.result.id =
    ap (λ (o : Option Waiting). option_map (λ (x : Waiting). x.id) o) (found-is (λ (x : Waiting). is_of_kind c.args.bidirectional x.id) c.self.inside.streams.items c.in-Some.index c.remove-waiting.result at)
    ∙ ap (λ (x : Waiting). Some x.id) (sym c.remove-waiting.ensures.value) in
    ap (λ (xs : List Waiting). record { streams = xs; datagrams = c.self.inside.datagrams.items })
    (c.remove-waiting.ensures.items ∙ kind-out c.args.bidirectional c.self.inside.streams.items c.in-Some.index c.remove-waiting.result at c.remove-waiting.ensures.value)
    ∙ (sym (ap (λ (o : Option ℕ). without_taken o (record { streams = c.self.inside.streams.items; datagrams = c.self.inside.datagrams.items })) taken)
    ∙ ap (λ (w : WindowNow). without_taken (first_stream_id c.args.bidirectional w.streams) w) c.self.view_is)

pub returns-in-None-clause-stream : goal.returns-in-None-clause-stream
returns-in-None-clause-stream c =
    sym (ap (λ (o : Option Waiting). option_map (λ (x : Waiting). x.id) o) (none-is (λ (x : Waiting). is_of_kind c.args.bidirectional x.id) c.args.self.now.streams (sym c.in-None.ensures)))

pub returns-in-None-clause-rest : goal.returns-in-None-clause-rest
returns-in-None-clause-rest c =
    sym (ap (λ (o : Option Waiting). without_taken (option_map (λ (x : Waiting). x.id) o) c.args.self.now) (none-is (λ (x : Waiting). is_of_kind c.args.bidirectional x.id) c.args.self.now.streams (sym c.in-None.ensures)))
