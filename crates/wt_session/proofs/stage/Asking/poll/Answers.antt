use Rattle.std.proofs.Common.{◌∙◌, ap, refl, subst, sym, ℕ}
use Rattle.std.specs.Prelude.{[], List}
use Rattle.wt_driver_laws.specs.Calling.{Did}
use Rattle.wt_driver_laws.specs.Handing.{write_actions}
use Rattle.wt_session.proofs.Pieces.{onward}
use Rattle.wt_session.proofs.Acceptances.{if-ok}
use Rattle.wt_session.proofs.Asks.{asks-on, asks-on-out, asks-respond}
use Rattle.wt_session.proofs.Connects.{more-within}
use Rattle.wt_session.proofs.Elsewhere.{asks-elsewhere}
use Rattle.wt_session.proofs.Rejections.{if-both}
use Rattle.wt_session.specs.Connects.{AskingGoesOn}
use Rattle.wt_session.specs.Handshakes.{Asked}
use Rattle.wt_session.specs.Replies.{connecting_reply}
use Rattle.wt_session.specs.contracts.stage.Asking.{the_view}
use Rattle.wt_seam.specs.Typed.{StreamPair, Typed}
use Rattle.wt_seam.specs.declared.stream.Session.{Session}
use Rattle.wt_sessions.specs.Handshake.{send_request}
use Rattle.wt_session.proofs.stage.Asking.poll.Goals as goal

pub returns-then-self-clause-does : goal.returns-then-self-clause-does
returns-then-self-clause-does c = if-ok c.await_response.result (λ a h. λ side log collected f w x.
    let v = c.args.self.now in
    let sent = ap (λ (y : Asked). y.is_sent) (sym c.self.view_is) ∙ c.if-self.true in
    subst (λ (xs : List ℕ). Did side c.await_response.new.d collected (connecting_reply a) (send_request side log v.id [] xs)) (sym (x.going.out sent)) (h side log collected f w (asks-respond side log v x))) c.await_response.ensures.does

pub returns-then-self-clause-goes_on : goal.returns-then-self-clause-goes_on
returns-then-self-clause-goes_on c = if-ok c.await_response.result (λ a h. λ side log collected f w x.
    let v = c.args.self.now in
    let sent = ap (λ (y : Asked). y.is_sent) (sym c.self.view_is) ∙ c.if-self.true in
    let did = subst (λ (xs : List ℕ). Did side c.await_response.new.d collected (connecting_reply a) (send_request side log v.id [] xs)) (sym (x.going.out sent)) (h side log collected f w (asks-respond side log v x)) in
    asks-on-out side log collected v v x refl refl w c.args.d.now f sent sent a did.reply) c.await_response.ensures.does

pub returns-clause-does : goal.returns-clause-does
returns-clause-does c = rw (← c.self.view_is) (if-ok c.written.result (λ a h. λ side log collected f w x.
    let v = the_view c.self.inside in
    let wr = c.in_ok-written.ensures.writes side log collected f w x.may (asks-elsewhere side (the_view c.self.inside).id x.client x.id) in
    let l = x.going.left c.if-self.false in
    let g = subst (λ (id : ℕ). AskingGoesOn c.write_frame.new.d c.written.new.d id c.in_ok-written.written a) (ap (λ (s : Typed StreamPair Session). s.halves.0.id) c.write_frame.ensures.others) h in
    subst (λ (xs : List ℕ). Did side c.written.new.d collected (connecting_reply a) (send_request side log v.id [] xs)) (sym l.0) (g side log collected v.left wr.follows w (asks-respond side log v x) l.1 wr.says)) c.written.ensures.does)

pub returns-clause-goes_on : goal.returns-clause-goes_on
returns-clause-goes_on c = rw (← c.self.view_is) (if-both c.written.result (λ a h waits. λ side log collected f w x.
    let v = the_view c.self.inside in
    let wr = c.in_ok-written.ensures.writes side log collected f w x.may (asks-elsewhere side (the_view c.self.inside).id x.client x.id) in
    let l = x.going.left c.if-self.false in
    let others = ap (λ (s : Typed StreamPair Session). s.halves.0.id) c.write_frame.ensures.others in
    let g = subst (λ (id : ℕ). AskingGoesOn c.write_frame.new.d c.written.new.d id c.in_ok-written.written a) others h in
    let did = subst (λ (xs : List ℕ). Did side c.written.new.d collected (connecting_reply a) (send_request side log v.id [] xs)) (sym l.0) (g side log collected v.left wr.follows w (asks-respond side log v x) l.1 wr.says) in
    asks-on side log collected v (the_view (record c.self.inside { stream = c.write_frame.new.stream; is_sent = c.is_all_out-self-inside.result })) x others refl w c.write_frame.new.d wr.follows
    (more-within side log (write_actions log v.id v.left) w) c.if-self.false c.in_ok-written.written c.is_all_out-self-inside.ensures wr.says wr.rest a waits did.reply) c.written.ensures.does c.written.ensures.waits)

pub returns-clause-pieces : goal.returns-clause-pieces
returns-clause-pieces c = onward c.written.result _ _ _ c.written.ensures.pieces c.in_ok-written.ensures.pieces
