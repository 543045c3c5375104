-- What holds at the start of a turn's moment, and so after it.
use Rattle.std.specs.Prelude.{[], ◌||◌, ◌∷◌, ◌≡◌, Bool, List, None, Option, false, if◌then◌else◌, true, ℕ}
use Rattle.std.specs.List.{list_any}
use Rattle.std.proofs.Common.{◌∙◌, ap, refl, sym}
use Rattle.wt_meaning.specs.Findings.{Finding, is_classified}
use Rattle.wt_meaning.specs.Handshakes.{was_given}
use Rattle.wt_meaning.specs.History.{History, Pair, hands_out, is_handed_out, is_open}
use Rattle.wt_meaning.specs.Lawful.{is_lawful}
use Rattle.wt_meaning.specs.Meaning.{next, own_answer, step, with_pair}
use Rattle.wt_meaning.specs.Moments.{findings}
use Rattle.wt_meaning.specs.Rows.{answer}
use Rattle.wt_meaning.specs.Windows.{gone_in, is_established, is_gone_by_call, is_number, last_request, named}
use Rattle.wt_promise.proofs.Accepted.{or-true}
use Rattle.wt_promise.proofs.Grows.{findings-keep, is_peers}
use Rattle.wt_promise.proofs.HandedOut.{admitted-classified, opened-local}
use Rattle.wt_promise.proofs.MomentActs.{closes_session}
use Rattle.wt_promise.proofs.Phases.{given-monotone, last-given, phase}
use Rattle.wt_promise.proofs.Silent.{client-zero}
use Rattle.wt_promise.proofs.Stays.{established-stays}
use Rattle.wt_promise.proofs.Tables.{fits-own}
use Rattle.wt_promise.proofs.Verdicts.{ByAccept, ByOpening, HandedBy, given-classified, handed-by, hands-by}
use Rattle.wt_promise.proofs.Waiting.{named-established}
use Rattle.wt_promise.specs.Promise.{IsHistory}
use Rattle.wt_sessions.specs.StreamTable.{CallView}
use Rattle.wt_promise.proofs.GoneWhy.{ByEnd, ByRejection, GoneBy, gone-by}
use Rattle.wt_sessions_agree.proofs.CameLaws.{came, came-more}
use Rattle.wt_sessions_agree.proofs.MembersKept.{Good, closed-more, good-kept}
use Rattle.wt_sessions_agree.specs.Members.{MembersIn}
use Rattle.wt_turn.specs.declared.action.Action.{Action}
use Rattle.wt_turn.specs.declared.reply.Reply.{Reply}
use Rattle.wt_turn.specs.declared.turn.Turn.{Turn}
use Rattle.wt_wire.specs.declared.side.Side.{Side}
use Rattle.wt_wire.specs.declared.side.Side.TheVariants.{Client, Server}
use Rattle.wt_turn.specs.declared.call.Call.TheVariants as calls
use Rattle.wt_turn.specs.declared.reply.Reply.TheVariants as replies
use Rattle.wt_turn.specs.declared.turn.Turn.TheVariants as turns

-- ---- whose verdict is known before the moment

-- a session that a call made gone was established, or its request was given
pub ended-why : (h : History) (k : ℕ) → is_gone_by_call h k ≡ true → (was_given h k || is_established h k) ≡ true
ended-why [] k e = absurd (cc e)
ended-why (p ∷ h) k e = by (is_number k (gone_in h p.turn p.answer.reply)) refl e (ended-why h k)
  where
    stays : (a b : Bool) → was_given h k ≡ a → is_established h k ≡ b → (a || b) ≡ true → (was_given (p ∷ h) k || is_established (p ∷ h) k) ≡ true
    stays true b i j q = ap (λ (x : Bool). x || is_established (p ∷ h) k) (given-monotone p h k i)
    stays false true i j q = ap (λ (x : Bool). was_given (p ∷ h) k || x) (established-stays p h k j) ∙ or-true (was_given (p ∷ h) k)
    stays false false i j q = absurd (cc q)

    here : GoneBy h p.turn p.answer.reply k → (was_given h k || is_established h k) ≡ true
    here (ByRejection e q) = ap (λ (x : Bool). x || is_established h k) (last-given h k q)
    here (ByEnd name e q) = ap (λ (x : Bool). was_given h k || x) (named-established h name k q) ∙ or-true (was_given h k)

    by : (b : Bool) → is_number k (gone_in h p.turn p.answer.reply) ≡ b → (b || is_gone_by_call h k) ≡ true → (is_gone_by_call h k ≡ true → (was_given h k || is_established h k) ≡ true)
        → (was_given (p ∷ h) k || is_established (p ∷ h) k) ≡ true
    by true q r again = stays (was_given h k) (is_established h k) refl refl (here (gone-by h p.turn p.answer.reply k q))
    by false q r again = stays (was_given h k) (is_established h k) refl refl (again r)

-- the stream of an established session, where it is the peer's
stream-known : (side : Side) (p : Pair) (h : History) → IsHistory side (p ∷ h) → (s : ℕ) → is_established (p ∷ h) s ≡ true → is_peers side s ≡ true → is_classified (findings side h) s ≡ true
stream-known Client p h i s e q = absurd (let r : is_peers Client 0 ≡ true = ap (is_peers Client) (sym (client-zero (p ∷ h) i s e)) ∙ q in cc r)
stream-known Server p h i s e q = given-classified Server p h i s ((phase (p ∷ h) i).known s e)

-- a session that the peer closed was established
abbrev Closes : History → List Finding → Type 0
Closes h found = (k : ℕ) → list_any (closes_session k) found ≡ true → is_established h k ≡ true

pub closed-established : (side : Side) (h : History) (k : ℕ) → list_any (closes_session k) (findings side h) ≡ true → is_established h k ≡ true
unfolding findings
closed-established side [] k e = absurd (cc e)
closed-established side (p ∷ h) k e =
    findings-keep side p h (Closes (p ∷ h)) (λ found new a f g. closed-more side (p ∷ h) found new a g) (λ j q. established-stays p h j (closed-established side h j q)) k e

-- ---- the start of a turn's moment; what the pair has of actions doesn't matter

module _ (side : Side) (h : History) (turn : Turn) (hist : IsHistory side h) (lawful : is_lawful side h turn ≡ true) where
  whole : IsHistory side (step side h turn)
  whole = (lawful, refl, hist)

  -- the history with the turn's reply and these actions
  abbrev after : List Action → History
  after xs = with_pair h turn (answer (own_answer side h turn).reply xs)

  handed-before : (k : ℕ) → is_handed_out (step side h turn) k ≡ true → is_peers side k ≡ true → is_classified (findings side h) k ≡ true
  handed-before k e p = by (hands_out k (own_answer side h turn).reply) refl e
    where
      of : HandedBy side h k → is_classified (findings side h) k ≡ true
      of (ByAccept s a) = admitted-classified s k (findings side h) a
      of (ByOpening o) = absurd (let r : true ≡ false = sym p ∙ opened-local side h hist k o in cc r)

      here : (t : Turn) → hands_out k (next side h t).reply ≡ true → HandedBy side h k
      here (turns.Call c) q = hands-by side h k c (next side h (turns.Call c)).reply refl (fits-own side h c) q
      here t q = absurd (cc q)

      by : (b : Bool) → hands_out k (own_answer side h turn).reply ≡ b → (b || is_handed_out h k) ≡ true → is_classified (findings side h) k ≡ true
      by true q r = of (here turn q)
      by false q r = of (handed-by side h hist k r)

  ended-before : (k : ℕ) → is_gone_by_call (step side h turn) k ≡ true → is_peers side k ≡ true → is_classified (findings side h) k ≡ true
  ended-before k e p = by (was_given (step side h turn) k) refl (ended-why (step side h turn) k e)
    where
      by : (b : Bool) → was_given (step side h turn) k ≡ b → (b || is_established (step side h turn) k) ≡ true → is_classified (findings side h) k ≡ true
      by true q r = given-classified side (record { turn = turn; answer = next side h turn }) h whole k q
      by false q r = stream-known side (record { turn = turn; answer = next side h turn }) h whole k r p

  pub good-before : (xs : List Action) (calls : CallView) → MembersIn side (after xs) calls (findings side h) → Good side (after xs) calls (findings side h)
  good-before xs calls members = record {
    members = members;
    handed = handed-before;
    ended = ended-before;
    known = stream-known side (record { turn = turn; answer = next side h turn }) h whole;
    closed = λ k e. established-stays (record { turn = turn; answer = next side h turn }) h k (closed-established side h k e);
    came = came-more side (record { turn = turn; answer = answer (own_answer side h turn).reply xs }) h lawful (came side h hist);
  }

  -- so after it
  good-after : (xs : List Action) (calls : CallView) → MembersIn side (after xs) calls (findings side h) → Good side (after xs) calls (findings side (after xs))
  good-after xs calls members =
      findings-keep side (record { turn = turn; answer = answer (own_answer side h turn).reply xs }) h (Good side (after xs) calls) (good-kept side (after xs) calls) (good-before xs calls members)

  pub members-moment : (calls : CallView) → MembersIn side (step side h turn) calls (findings side h) → MembersIn side (step side h turn) calls (findings side (step side h turn))
  members-moment calls members = (good-after (next side h turn).actions calls members).members
