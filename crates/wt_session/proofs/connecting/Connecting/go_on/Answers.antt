use Rattle.std.proofs.Common.{◌∙◌, ap, subst, sym, ℕ}
use Rattle.std.specs.Prelude.{[], List}
use Rattle.wt_driver_laws.specs.Calling.{Did}
use Rattle.wt_session.proofs.Pieces.{onward}
use Rattle.wt_session.proofs.Acceptances.{frame-begun, if-ok}
use Rattle.wt_session.proofs.ConnectsOn.{dialled-both, go-asking-does, go-asking-on}
use Rattle.wt_session.proofs.Sessions.{within}
use Rattle.wt_session.specs.Connects.{connect_effect}
use Rattle.wt_session.specs.Handshakes.{Connect, Dialled}
use Rattle.wt_session.specs.Replies.{connecting_reply}
use Rattle.wt_session.specs.Stages.{connect_as}
use Rattle.wt_sessions.specs.Handshake.{abandon}
use Rattle.wt_turn.specs.declared.connecting_error.ConnectingError.TheVariants as connects
use Rattle.wt_wire.specs.FrameBytes.{frame_bytes}
use Rattle.wt_session.proofs.connecting.Connecting.go_on.Goals as goal

pub returns-in-Asking-clause-does : goal.returns-in-Asking-clause-does
returns-in-Asking-clause-does c = if-ok c.poll.result (λ a h. λ side log collected f r has.
    go-asking-does side log collected c.poll.new.d r c.args.self.now _ (sym c.self.view_is ∙ ap connect_as c.in-Asking.is) (connecting_reply a) has (h side log collected f (within side log r))) c.poll.ensures.does

pub returns-in-Asking-clause-goes_on : goal.returns-in-Asking-clause-goes_on
returns-in-Asking-clause-goes_on c = if-ok c.poll.result (λ a h. λ side log collected f r has.
    go-asking-on side log r c.args.self.now _ (sym c.self.view_is ∙ ap connect_as c.in-Asking.is) has c.poll.new.self c.poll.ensures.id c.poll.ensures.head a (h side log collected f (within side log r))) c.poll.ensures.goes_on

pub returns-in_ok-name-in-Reserved-clause-does : goal.returns-in_ok-name-in-Reserved-clause-does
returns-in_ok-name-in-Reserved-clause-does c = if-ok c.abandon.result (λ a h. λ side log collected f r has.
    let eq = sym c.self.view_is ∙ ap connect_as c.in-Reserved.is in
    subst (λ (s : Connect). Did side c.abandon.new.d collected (connecting_reply a) (connect_effect side log s)) (sym eq)
    (subst (λ (n : List ℕ). Did side c.abandon.new.d collected (connecting_reply a) (abandon side log [] (connects.ReservedHeader n))) c.in_ok-name-in-Reserved.ensures (h side log collected f (within side log r)))) c.abandon.ensures.does

pub returns-in_ok-opened-in-Dialled-clause-does : goal.returns-in_ok-opened-in-Dialled-clause-does
returns-in_ok-opened-in-Dialled-clause-does c =
    let eq = sym c.self.view_is ∙ ap connect_as c.in-Dialled.is in
    if-ok c.opened.result (λ a h. λ side log collected f r has.
    (dialled-both side log collected r c.args.self.now c.opened.new.self _ _ eq (ap frame_bytes c.in_ok-frame-in-Dialled.ensures.frame) has c.args.d.now c.open_session.new.self c.opened.new.d _ _ a (frame-begun _)
    (c.in_ok-opened-in-Dialled.ensures.opens side log collected f r) h f).0) (c.opened.ensures.does (ap Dialled (sym (ap frame_bytes c.in_ok-frame-in-Dialled.ensures.frame))))

pub returns-in_ok-opened-in-Dialled-clause-goes_on : goal.returns-in_ok-opened-in-Dialled-clause-goes_on
returns-in_ok-opened-in-Dialled-clause-goes_on c =
    let eq = sym c.self.view_is ∙ ap connect_as c.in-Dialled.is in
    if-ok c.opened.result (λ a h. λ side log collected f r has.
    (dialled-both side log collected r c.args.self.now c.opened.new.self _ _ eq (ap frame_bytes c.in_ok-frame-in-Dialled.ensures.frame) has c.args.d.now c.open_session.new.self c.opened.new.d _ _ a (frame-begun _)
    (c.in_ok-opened-in-Dialled.ensures.opens side log collected f r) h f).1) (c.opened.ensures.does (ap Dialled (sym (ap frame_bytes c.in_ok-frame-in-Dialled.ensures.frame))))

pub returns-in_ok-opened-in-Dialled-clause-pieces : goal.returns-in_ok-opened-in-Dialled-clause-pieces
returns-in_ok-opened-in-Dialled-clause-pieces c = onward c.opened.result _ _ _ c.opened.ensures.pieces c.in_ok-opened-in-Dialled.ensures.pieces
