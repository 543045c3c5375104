-- Rule 3: a stream that a reply accepts was opened by the peer, no earlier reply handed it out, and at its front stands the header of the
-- session that the call names (draft-ietf-webtrans-http3, sections 4.2 and 4.3).
-- Neither the call nor the stream's kind has to fit the reply.
use Rattle.std.specs.Prelude.{◌&&◌, ◌∷◌, Bool, None, Option, Some, false, not, true, ℕ}
use Rattle.wt_check.specs.Records.{names}
use Rattle.wt_meaning.specs.History.{History, Pair, is_handed_out}
use Rattle.wt_meaning.specs.Moments.{verdict}
use Rattle.wt_meaning.specs.Windows.{is_number}
use Rattle.wt_promise.specs.Found.{peer_opened}
use Rattle.wt_proto.specs.declared.verdict.Verdict.{Verdict}
use Rattle.wt_turn.specs.declared.reply.Reply.{Reply}
use Rattle.wt_wire.specs.declared.side.Side.{Side}
use Rattle.wt_proto.specs.declared.verdict.Verdict.TheVariants as verdicts
use Rattle.wt_turn.specs.declared.reply.Reply.TheVariants as replies

-- the stream that the reply accepts
abbrev pub accepted_in : Reply → Option ℕ
accepted_in (replies.Uni id) = Some id
accepted_in (replies.Bi id) = Some id
accepted_in _ = None

-- the verdict is that of a stream of this session
abbrev pub is_of : Option ℕ → Verdict → Bool
is_of name (verdicts.WebTransport session offset) = is_number session name
is_of name _ = false

-- the stream, where the reply accepts one, may be accepted
abbrev pub may_accept : Side → History → Pair → Option ℕ → Bool
may_accept side h p None = true
may_accept side h p (Some k) = peer_opened side (p ∷ h) k && not (is_handed_out h k) && is_of (names h p.turn) (verdict (p ∷ h) k)

-- rule 3
abbrev pub accepts : Side → History → Pair → Bool
accepts side h p = may_accept side h p (accepted_in p.answer.reply)
