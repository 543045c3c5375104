use Rattle.std.proofs.Common.{◌≡◌, length, take, drop, ◌++◌, ap, sym, subst, ◌∙◌}
use Rattle.wt_turn.specs.Unread.{position_after}
use Rattle.wt_transport.specs.State.{Refines}
use Rattle.wt_transport.specs.Step.{after_consume, unread_now}
use Rattle.wt_transport.specs.HalfRules.{ReceivingHalf, read_exact_answer, read_exact_count}
use Rattle.wt_transport.specs.Deciding.{exact_read_of, read_decision, taken}
use Rattle.wt_transport.specs.Rules.{receiving_half_now}
use Rattle.wt_transport.proofs.Results.{moved}
use Rattle.wt_transport.proofs.Refining.{consume_refines}
use Rattle.wt_transport.proofs.Decisions.{read_exact_is, read_exact_taken}
use Rattle.wt_transport.proofs.HalfLaws.{front_kept, receiving_answer, receiving_kept, read_exact_within}
use Rattle.wt_transport.proofs.halves.QuicRecvStream.read_exact.Goals as goal

pub returns-clause-answer : goal.returns-clause-answer
returns-clause-answer c =
    let d : c.read.result ≡ read_decision c.args.t.now.is_open (receiving_half_now c.args.t.now c.args.self.now.id) (length c.args.buffer.now) (length c.args.buffer.now) = c.read.ensures.decision in
    let answer : c.into_read_exact.result ≡ read_exact_answer c.args.t.now.is_open (receiving_half_now c.args.t.now c.args.self.now.id) (length c.args.buffer.now) = c.into_read_exact.ensures ∙ (ap (exact_read_of (length c.args.buffer.now)) d ∙ sym (read_exact_is c.args.t.now.is_open (receiving_half_now c.args.t.now c.args.self.now.id) (length c.args.buffer.now))) in
    answer

pub returns-clause-bytes : goal.returns-clause-bytes
returns-clause-bytes c =
    let d : c.read.result ≡ read_decision c.args.t.now.is_open (receiving_half_now c.args.t.now c.args.self.now.id) (length c.args.buffer.now) (length c.args.buffer.now) = c.read.ensures.decision in
    let n : taken c.read.result ≡ read_exact_count (receiving_half_now c.args.t.now c.args.self.now.id) (length c.args.buffer.now) = ap taken d ∙ read_exact_taken c.args.t.now.is_open (receiving_half_now c.args.t.now c.args.self.now.id) (length c.args.buffer.now) in
    c.read.ensures.bytes ∙ ap (λ k. take k (unread_now c.args.t.now c.args.self.now.id) ++ drop k c.args.buffer.now) n

pub returns-clause-state : goal.returns-clause-state
returns-clause-state c =
    let d : c.read.result ≡ read_decision c.args.t.now.is_open (receiving_half_now c.args.t.now c.args.self.now.id) (length c.args.buffer.now) (length c.args.buffer.now) = c.read.ensures.decision in
    let n : taken c.read.result ≡ read_exact_count (receiving_half_now c.args.t.now c.args.self.now.id) (length c.args.buffer.now) = ap taken d ∙ read_exact_taken c.args.t.now.is_open (receiving_half_now c.args.t.now c.args.self.now.id) (length c.args.buffer.now) in
    c.read.ensures.state ∙ ap (after_consume c.args.t.now c.args.self.now.id) n

pub returns-clause-log_answer : goal.returns-clause-log_answer
returns-clause-log_answer c = λ side log position uncollected r.
    let d : c.read.result ≡ read_decision c.args.t.now.is_open (receiving_half_now c.args.t.now c.args.self.now.id) (length c.args.buffer.now) (length c.args.buffer.now) = c.read.ensures.decision in
    let answer : c.into_read_exact.result ≡ read_exact_answer c.args.t.now.is_open (receiving_half_now c.args.t.now c.args.self.now.id) (length c.args.buffer.now) = c.into_read_exact.ensures ∙ (ap (exact_read_of (length c.args.buffer.now)) d ∙ sym (read_exact_is c.args.t.now.is_open (receiving_half_now c.args.t.now c.args.self.now.id) (length c.args.buffer.now))) in
    answer ∙ receiving_answer side c.args.t.now log position uncollected r (λ o h. read_exact_answer o h (length c.args.buffer.now)) c.args.self.now.id

pub returns-clause-log_bytes : goal.returns-clause-log_bytes
returns-clause-log_bytes c = λ side log position uncollected r.
    let d : c.read.result ≡ read_decision c.args.t.now.is_open (receiving_half_now c.args.t.now c.args.self.now.id) (length c.args.buffer.now) (length c.args.buffer.now) = c.read.ensures.decision in
    let n : taken c.read.result ≡ read_exact_count (receiving_half_now c.args.t.now c.args.self.now.id) (length c.args.buffer.now) = ap taken d ∙ read_exact_taken c.args.t.now.is_open (receiving_half_now c.args.t.now c.args.self.now.id) (length c.args.buffer.now) in
    (c.read.ensures.bytes ∙ ap (λ k. take k (unread_now c.args.t.now c.args.self.now.id) ++ drop k c.args.buffer.now) n) ∙ front_kept side c.args.t.now log position uncollected r (λ h. read_exact_count h (length c.args.buffer.now)) c.args.self.now.id c.args.buffer.now

pub returns-clause-log : goal.returns-clause-log
returns-clause-log c = λ side log position uncollected r.
    let d : c.read.result ≡ read_decision c.args.t.now.is_open (receiving_half_now c.args.t.now c.args.self.now.id) (length c.args.buffer.now) (length c.args.buffer.now) = c.read.ensures.decision in
    let n : taken c.read.result ≡ read_exact_count (receiving_half_now c.args.t.now c.args.self.now.id) (length c.args.buffer.now) = ap taken d ∙ read_exact_taken c.args.t.now.is_open (receiving_half_now c.args.t.now c.args.self.now.id) (length c.args.buffer.now) in
    subst (λ (h : ReceivingHalf). Refines side c.read.new.self log (position_after position c.args.self.now.id (read_exact_count h (length c.args.buffer.now))) uncollected) (receiving_kept side c.args.t.now log position uncollected r c.args.self.now.id)
    (moved c.read.new.self (c.read.ensures.state ∙ ap (after_consume c.args.t.now c.args.self.now.id) n) (consume_refines side c.args.t.now log position uncollected r c.args.self.now.id (read_exact_count (receiving_half_now c.args.t.now c.args.self.now.id) (length c.args.buffer.now)) (read_exact_within (receiving_half_now c.args.t.now c.args.self.now.id) (length c.args.buffer.now))))
