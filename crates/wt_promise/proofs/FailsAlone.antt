-- A connect that fails as it goes on finds no session.
use Rattle.std.specs.Prelude.{◌≡◌, Bool, None, Option, Some, codes, false, true, ℕ}
use Rattle.std.proofs.Common.{◌∙◌, ap, refl, sym}
use Rattle.wt_meaning.specs.Handshakes.{last_begun, poll_rows}
use Rattle.wt_meaning.specs.History.{History}
use Rattle.wt_meaning.specs.Lawful.{is_lawful, is_response}
use Rattle.wt_meaning.specs.Meaning.{next}
use Rattle.wt_meaning.specs.Rows.{first_row}
use Rattle.wt_meaning.specs.Windows.{is_established}
use Rattle.wt_promise.proofs.Phases.{client-waits, server-begun}
use Rattle.wt_promise.proofs.Tables.{accepts-pass, rejects-pass}
use Rattle.wt_promise.specs.Promise.{IsHistory}
use Rattle.wt_turn.specs.declared.call.Call.{Call}
use Rattle.wt_turn.specs.declared.connecting_error.ConnectingError.{ConnectingError}
use Rattle.wt_turn.specs.declared.reply.Reply.{Reply}
use Rattle.wt_wire.specs.declared.side.Side.{Side}
use Rattle.wt_wire.specs.declared.side.Side.TheVariants.{Client, Server}
use Rattle.wt_turn.specs.declared.call.Call.TheVariants as calls
use Rattle.wt_turn.specs.declared.reply.Reply.TheVariants as replies
use Rattle.wt_turn.specs.declared.turn.Turn.TheVariants as turns

-- the reply is that of no connect
abbrev of_no_connect : Reply → Bool
of_no_connect (replies.ConnectFailed e) = false
of_no_connect r = true

response-fails-not : (side : Side) (h : History) (c : Call) → is_response c ≡ true → of_no_connect (first_row (poll_rows side h (Some c))).reply ≡ true
response-fails-not side h (calls.Accept headers) r = (accepts-pass of_no_connect refl (λ e. refl) (λ s. refl) side h headers).first
response-fails-not side h calls.Forbidden r = (rejects-pass of_no_connect refl refl side h (codes "403")).first
response-fails-not side h calls.NotFound r = (rejects-pass of_no_connect refl refl side h (codes "404")).first
response-fails-not side h calls.TooManyRequests r = (rejects-pass of_no_connect refl refl side h (codes "429")).first
response-fails-not side h c r = absurd (cc r)

pub fails-alone : (side : Side) (h : History) (e : ConnectingError) → IsHistory side h → is_lawful side h (turns.Call calls.Handshake) ≡ true
    → (next side h (turns.Call calls.Handshake)).reply ≡ replies.ConnectFailed e → (s : ℕ) → is_established h s ≡ false
fails-alone Client h e i l q s = client-waits h i l s
fails-alone Server h e i l q s = absurd (by (last_begun h) refl q)
  where
    by : (o : Option Call) → last_begun h ≡ o → (first_row (poll_rows Server h o)).reply ≡ replies.ConnectFailed e → ⊥
    by None b r = cc r
    by (Some c) b r = let t : true ≡ false = sym (response-fails-not Server h c (server-begun h i c b)) ∙ ap of_no_connect r in cc t
