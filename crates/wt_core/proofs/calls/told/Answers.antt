use Rattle.std.proofs.Common.{◌∙◌, ap, refl, sym}
use Rattle.std.specs.Prelude.{List, Some, ℕ}
use Rattle.wt_core.proofs.Given.{as-call}
use Rattle.wt_core.proofs.Named.{any-established, id-told}
use Rattle.wt_core.specs.Calls.{named_so}
use Rattle.wt_core.proofs.calls.told.Goals as goal
use Rattle.wt_turn.specs.declared.call.Call.TheVariants as calls

pub returns-in_ok-receive_datagram-in-ReceiveDatagram-clause-does : goal.returns-in_ok-receive_datagram-in-ReceiveDatagram-clause-does
returns-in_ok-receive_datagram-in-ReceiveDatagram-clause-does c = λ side log collected f r h.
    as-call side log collected _ _ _ _ _ c.received_datagram.ensures (ap (named_so c.args.on.now) (sym c.in-ReceiveDatagram.is)) (c.in_ok-receive_datagram-in-ReceiveDatagram.ensures.does side log collected f r h)

pub returns-in_ok-answer-in-SendDatagram-clause-does : goal.returns-in_ok-answer-in-SendDatagram-clause-does
returns-in_ok-answer-in-SendDatagram-clause-does c = λ side log collected f r h.
    as-call side log collected _ _ _ _ _ c.sent_datagram.ensures (ap (λ (bs : List ℕ). calls.SendDatagram bs (Some c.args.on.now)) c.as_slice.ensures ∙ ap (named_so c.args.on.now) (sym c.in-SendDatagram.is))
    (c.in_ok-answer-in-SendDatagram.ensures.does side log collected f r h)

pub returns-in-MaxDatagramSize-clause-does : goal.returns-in-MaxDatagramSize-clause-does
returns-in-MaxDatagramSize-clause-does c = λ side log collected f r h.
    as-call side log collected _ _ _ _ _ refl (ap (named_so c.args.on.now) (sym c.in-MaxDatagramSize.is)) (c.max_datagram_size.ensures.does side log collected f r h)

pub returns-in-SessionId-clause-does : goal.returns-in-SessionId-clause-does
returns-in-SessionId-clause-does c = λ side log collected f r h.
    as-call side log collected _ _ _ _ _ refl (ap (named_so c.args.on.now) (sym c.in-SessionId.is)) (id-told side log collected c.args.d.now c.args.on.now c.session_id.result c.session_id.ensures c.rests.ensures f r h)

pub returns-in_ok-end_session-in-EndSession-clause-does : goal.returns-in_ok-end_session-in-EndSession-clause-does
returns-in_ok-end_session-in-EndSession-clause-does c = λ side log collected f r h.
    as-call side log collected _ _ _ _ _ refl (ap (named_so c.args.on.now) (sym c.in-EndSession.is)) (c.in_ok-end_session-in-EndSession.ensures.does side log collected f r h)

pub returns-in_ok-close-in-Close-clause-does : goal.returns-in_ok-close-in-Close-clause-does
returns-in_ok-close-in-Close-clause-does c = λ side log collected f r h.
    as-call side log collected _ _ _ _ _ refl (ap (λ (bs : List ℕ). calls.Close c.in-Close.code bs) c.as_slice-in-Close.ensures ∙ ap (named_so c.args.on.now) (sym c.in-Close.is))
    (c.in_ok-close-in-Close.ensures.does side log collected f r (any-established side log c.args.on.now h))

pub returns-in_ok-closed-in-Closed-clause-does : goal.returns-in_ok-closed-in-Closed-clause-does
returns-in_ok-closed-in-Closed-clause-does c = λ side log collected f r h.
    as-call side log collected _ _ _ _ _ c.closed-in-Closed.ensures (ap (named_so c.args.on.now) (sym c.in-Closed.is)) (c.in_ok-closed-in-Closed.ensures.does side log collected f r (any-established side log c.args.on.now h))
