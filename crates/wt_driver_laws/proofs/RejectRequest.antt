-- A request is at hand: its stream has no place but that of its request, and what a driver keeps says that it awaits its answer.
use Rattle.std.proofs.Common.{◌%◌, ◌∙◌, ◌≡◌, ◌∷◌, Bool, List, Option, [], ap, false, map, refl, subst, sym, true, ℕ}
use Rattle.std.proofs.lemmas.Bool.{eqb-true, true≢false}
use Rattle.std.specs.List.{list_any}
use Rattle.std.specs.Prelude.{◌&&◌, ◌==◌, ◌||◌, not}
use Rattle.wt_driver_laws.proofs.AcceptFirst.{lives-so}
use Rattle.wt_driver_laws.proofs.LogLaw.{reached_log_laws}
use Rattle.wt_driver_laws.proofs.ReachRecords.{may_after_sent, may_reject}
use Rattle.wt_driver_laws.proofs.ReachRequests.{delivered_held, held_on_sessions, unbegun_remains}
use Rattle.wt_driver_laws.proofs.SessionEnds.{dispatched-of-state, established-of-state, gone-of-state}
use Rattle.wt_driver_laws.specs.Driving.{Follows, IsReachable}
use Rattle.wt_driver_laws.specs.Handing.{IsAnswering}
use Rattle.wt_driver_laws.specs.LogLaws.{RequestLaws}
use Rattle.wt_follows.proofs.GoneRoles.{MayRetire}
use Rattle.wt_follows.proofs.Lists.{none-left, refuted}
use Rattle.wt_follows.specs.Roles.{is_arriving, is_critical, is_held, is_in, is_living, is_member, waits}
use Rattle.wt_follows.specs.Tie.{classified_as, queued_as}
use Rattle.wt_kept.specs.Calling.{awaits_answer_now, is_queued_now, was_given_now}
use Rattle.wt_kept.specs.Calling as calling
use Rattle.wt_kept.specs.Kept.{DriverNow}
use Rattle.wt_kept.specs.Windows.{lives_now}
use Rattle.wt_turn.specs.Streams.{can_receive}
use Rattle.wt_sessions.specs.Driver.{call_view, dispatched, is_session_gone, stream_table}
use Rattle.wt_sessions.specs.DriverState.{DriverState, state_of}
use Rattle.wt_sessions.specs.Moment.{is_known}
use Rattle.wt_sessions.specs.StreamTable.{Classified, Dispatched, is_queued}
use Rattle.wt_turn.specs.Log.{Log, RequestRejected, with_actions}
use Rattle.wt_turn.specs.declared.action.Action.{Action}
use Rattle.wt_wire.specs.HeaderList.{Fields}
use Rattle.wt_wire.specs.declared.side.Side.{Side}

-- ---- ids in both queues

any-with : {X : Type 0} (f : X → ℕ × Option Fields) (k : ℕ) (xs : List X) → list_any (λ (p : ℕ × Option Fields). p.0 == k) (map f xs) ≡ list_any (λ (x : X). (f x).0 == k) xs
any-with f k [] = refl
any-with f k (x ∷ xs) = ap (λ b. ((f x).0 == k) || b) (any-with f k xs)

module _ (side : Side) (d : DriverNow) (log : Log) (collected : ℕ) (f : Follows side d log collected) (k : ℕ) where
  -- a request that was delivered is queued no more
  unqueued : (call_view log).delivered k ≡ true → is_queued_now d.work.dispatched.requests k ≡ false
  unqueued delivered =
      sym (any-with queued_as k d.work.dispatched.requests.queued)
      ∙ (ap (list_any (λ (p : ℕ × Option Fields). p.0 == k)) (f.kept.amid.work.keeps.queued ∙ ap (λ (x : Dispatched). map classified_as x.requests) (dispatched-of-state side log))
      ∙ (any-with classified_as k (dispatched side log).requests
      ∙ none-left (λ (c : Classified). c.id == k) (λ (c : Classified). is_queued c && not ((call_view log).delivered c.id)) out (stream_table side log).classified))
    where
      none : (b : Bool) → (b && false) ≡ false
      none true = refl
      none false = refl

      out : (c : Classified) → (c.id == k) ≡ true → (is_queued c && not ((call_view log).delivered c.id)) ≡ false
      out c e = ap (λ b. is_queued c && not b) (ap (call_view log).delivered (eqb-true c.id k e) ∙ delivered) ∙ none (is_queued c)

  module _ (held : is_in k (dispatched side log).held ≡ true) where
    abbrev s : DriverState
    s = state_of side log

    pub held-by : is_held s k ≡ true
    held-by = ap (λ b. b || list_any (λ (c : Classified). c.id == k) s.dispatched.requests) (ap (λ (x : Dispatched). is_in k x.held) (dispatched-of-state side log) ∙ held)

    pub not-arriving : is_arriving s k ≡ false
    not-arriving = refuted (is_arriving s k) (λ e. true≢false (sym held-by ∙ (f.kept.amid.work.roles.arriving k e).held))

    pub not-critical : is_critical s k ≡ false
    not-critical = f.kept.amid.work.roles.requests_alone k held-by

    pub not-waiting : waits s k ≡ false
    not-waiting = refuted (waits s k) (λ e. true≢false (sym held-by ∙ (f.kept.amid.work.roles.waiting_alone k e).held))

    pub not-member : (session : ℕ) → is_member s session k ≡ false
    not-member session = refuted (is_member s session k) (λ e. true≢false (sym held-by ∙ (f.kept.amid.work.roles.members_alone k session e).held))

    pub receives : can_receive side log k ≡ true
    receives = f.kept.amid.work.there.held k held-by

    -- it awaits its answer
    pub awaits : (call_view log).delivered k ≡ true → is_living s k ≡ false → awaits_answer_now k d.work.dispatched ≡ true
    awaits delivered dead = λ i. calling-is i
      where
        kept : calling.is_held d.work.dispatched.requests k ≡ true
        kept = ap (is_in k) (f.kept.amid.work.keeps.held ∙ ap (λ (x : Dispatched). x.held) (dispatched-of-state side log)) ∙ held

        calling-is : ((calling.is_held d.work.dispatched.requests k && not (is_queued_now d.work.dispatched.requests k)) && not (lives_now d.work.dispatched.sessions k)) ≡ true
        calling-is = λ i. (kept i && not (unqueued delivered i)) && not ((lives-so side d log collected f k ∙ dead) i)

module _ (side : Side) (d : DriverNow) (log : Log) (collected : ℕ) (f : Follows side d log collected) (reached : IsReachable side log) (k : ℕ) (answering : IsAnswering log k) where
  pub request : RequestLaws side log k
  request = subst (λ (j : ℕ). RequestLaws side log j) answering.requested ((reached_log_laws side log reached).asked answering.state)

  pub remains : is_session_gone side log k ≡ false
  remains = unbegun_remains side log reached k request.delivered request.unestablished request.unended

  pub held : is_in k (dispatched side log).held ≡ true
  held = delivered_held side log reached k request.delivered remains

  pub on-session : (k % 4) ≡ 0
  on-session = held_on_sessions side log reached request.server k held

  pub remains-by : (state_of side log).dispatched.is_gone k ≡ false
  remains-by = gone-of-state side log k ∙ remains

  pub dead : is_living (state_of side log) k ≡ false
  dead = sym (f.kept.amid.work.keeps.established k remains-by) ∙ (established-of-state side log k ∙ request.unestablished)

  pub awaiting : awaits_answer_now k d.work.dispatched ≡ true
  awaiting = awaits side d log collected f k held request.delivered dead

  -- it is known, also after actions
  pub known : (own : List Action) → is_known side (with_actions own log) k ≡ true
  known own = may_after_sent side own log (RequestRejected k) (may_reject side log reached k request.delivered)

  -- where the connection is open its session may become gone
  pub may-retire : (state_of side log).is_open ≡ true → MayRetire side log (state_of side log) k
  may-retire opened = record {
    is_open = opened;
    is_session = on-session;
    remains = remains-by;
    there = receives side d log collected f k held;
    arriving = not-arriving side d log collected f k held;
    critical = not-critical side d log collected f k held;
    waits = not-waiting side d log collected f k held;
    member = not-member side d log collected f k held;
  }
