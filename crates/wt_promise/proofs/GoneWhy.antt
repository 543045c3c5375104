-- Why a call makes a session gone: its request's rejection is over, or the application ends it.
use Rattle.std.specs.Prelude.{◌≡◌, Bool, None, Option, Some, false, if◌then◌else◌, true, ℕ}
use Rattle.std.proofs.Common.{◌∙◌, ap, refl, sym}
use Rattle.wt_meaning.specs.History.{History, is_open}
use Rattle.wt_meaning.specs.Windows.{gone_in, is_number, last_request, named}
use Rattle.wt_promise.proofs.Datagrams.{numbered}
use Rattle.wt_promise.proofs.Tables.{is_rejected}
use Rattle.wt_turn.specs.declared.reply.Reply.{Reply}
use Rattle.wt_turn.specs.declared.turn.Turn.{Turn}
use Rattle.wt_turn.specs.declared.call.Call.TheVariants as calls
use Rattle.wt_turn.specs.declared.reply.Reply.TheVariants as replies
use Rattle.wt_turn.specs.declared.turn.Turn.TheVariants as turns

pub data GoneBy (h : History) (turn : Turn) (r : Reply) (k : ℕ) : Type 0 where
  ByRejection : r ≡ replies.Rejected → last_request h ≡ Some k → GoneBy h turn r k
  ByEnd : (name : Option ℕ) → turn ≡ turns.Call (calls.EndSession name) → named h name ≡ Some k → GoneBy h turn r k

rejected-is : (r : Reply) → is_rejected r ≡ true → r ≡ replies.Rejected
rejected-is replies.Rejected e = refl
rejected-is r e = absurd (cc e)

-- Of a turn that ends no session, by the reply alone: turns and replies are gone over one after the other, and not each pair of them.
never : (h : History) (r : Reply) → is_rejected r ≡ false → gone_in h turns.PeerUni r ≡ None
never h replies.Rejected e = absurd (cc e)
never h r e = refl

ends : (h : History) (name : Option ℕ) (r : Reply) → is_rejected r ≡ false → gone_in h (turns.Call (calls.EndSession name)) r ≡ (if is_open h then named h name else None)
ends h name replies.Rejected e = absurd (cc e)
ends h name r e = refl

by-end : (h : History) (name : Option ℕ) (r : Reply) (k : ℕ) → is_rejected r ≡ false → is_number k (gone_in h (turns.Call (calls.EndSession name)) r) ≡ true → GoneBy h (turns.Call (calls.EndSession name)) r k
by-end h name r k q e = ByEnd name refl (opened (is_open h) (sym (ap (is_number k) (ends h name r q)) ∙ e))
  where
    opened : (b : Bool) → is_number k (if b then named h name else None) ≡ true → named h name ≡ Some k
    opened true q = numbered k (named h name) q
    opened false q = absurd (cc q)

-- whatever the turn, where one that isn't Rejected has its reason
by-reply : (h : History) (turn : Turn) (r : Reply) (k : ℕ) → is_number k (gone_in h turn r) ≡ true → gone_in h turn replies.Rejected ≡ last_request h
    → (is_rejected r ≡ false → GoneBy h turn r k) → GoneBy h turn r k
by-reply h turn r k e last other = by (is_rejected r) refl
  where
    by : (b : Bool) → is_rejected r ≡ b → GoneBy h turn r k
    by true q =
        let p : r ≡ replies.Rejected = rejected-is r q in
        ByRejection p (numbered k (last_request h) (sym (ap (λ (x : Reply). is_number k (gone_in h turn x)) p ∙ ap (is_number k) last) ∙ e))
    by false q = other q

none-by : {P : Type 0} (k : ℕ) (o : Option ℕ) → o ≡ None → is_number k o ≡ true → P
none-by k o n e = absurd (let q = ap (is_number k) n in cc (sym q ∙ e))

pub gone-by : (h : History) (turn : Turn) (r : Reply) (k : ℕ) → is_number k (gone_in h turn r) ≡ true → GoneBy h turn r k
gone-by h (turns.Call (calls.EndSession name)) r k e = by-reply h (turns.Call (calls.EndSession name)) r k e refl (λ q. by-end h name r k q e)
gone-by h turn r k e = by-reply h turn r k e refl (λ q. none-by k (gone_in h turn r) (never h r q) e)
