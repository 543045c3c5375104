-- What goes out on streams but this end's control stream, and datagrams: neither touches what a driver keeps. And how far credit goes.
use Rattle.std.proofs.Common.{◌<◌, ◌∙◌, ◌≡◌, ◌++◌, ◌∷◌, Bool, List, [], ap, arith, drop, false, length, refl, sym, take, true, ℕ}
use Rattle.std.proofs.lemmas.Bool.{eqb-true, ltb-false, ltb-true, true≢false}
use Rattle.std.proofs.lemmas.List.{drop_all, length-drop, length-take-le, take_all}
use Rattle.std.specs.Prelude.{◌&&◌, ◌==◌, ◌||◌, if◌then◌else◌, nat_lt, not}
use Rattle.wt_follows.proofs.Lists.{refuted}
use Rattle.wt_follows.proofs.SentFollows.{Harmless}
use Rattle.wt_follows.specs.Roles.{is_living}
use Rattle.wt_follows.specs.Tie.{Follows}
use Rattle.wt_kept.specs.Kept.{DriverNow}
use Rattle.wt_meaning.specs.Handshakes.{is_nothing}
use Rattle.wt_transport.specs.Rules.{actions_of_finish, actions_of_write}
use Rattle.wt_turn.specs.Joined.{send_of}
use Rattle.wt_turn.specs.Outgoing.{actions_to_send, bytes_within_credit, may_send}
use Rattle.wt_turn.specs.Sent.{is_finished, is_reset, sent_on}
use Rattle.wt_turn.specs.Streams.{can_send, local_count, local_uni}
use Rattle.wt_sessions.specs.DriverState.{state_of}
use Rattle.wt_turn.specs.Log.{Log, actions_of}
use Rattle.wt_turn.specs.declared.action.Action.{Action}
use Rattle.wt_turn.specs.declared.action.Action.TheVariants as actions
use Rattle.wt_wire.specs.declared.side.Side.{Side}

-- ---- how far credit goes

-- nothing is left of some bytes, or a byte
some-left : (n : ℕ) (xs : List ℕ) → nat_lt n (length xs) ≡ true → is_nothing (drop n xs) ≡ false
some-left n xs e = by (drop n xs) (let less = ltb-true n (length xs) e in let l = length-drop n xs in omega (arith, less, l))
  where
    by : (ys : List ℕ) → 0 < length ys → is_nothing ys ≡ false
    by [] less = absurd (omega (arith, less))
    by (y ∷ ys) less = refl

pub covered-is : (n : ℕ) (xs : List ℕ) → is_nothing (drop (length (take n xs)) xs) ≡ not (nat_lt n (length xs))
covered-is n xs = by (nat_lt n (length xs)) refl
  where
    by : (b : Bool) → nat_lt n (length xs) ≡ b → is_nothing (drop (length (take n xs)) xs) ≡ not b
    by true e = ap (λ (m : ℕ). is_nothing (drop m xs)) (length-take-le n xs (let less = ltb-true n (length xs) e in omega (arith, less))) ∙ some-left n xs e
    by false e = ap (λ (ys : List ℕ). is_nothing (drop (length ys) xs)) (take_all n xs (ltb-false n (length xs) e)) ∙ ap is_nothing (drop_all (length xs) xs (omega arith))

-- ---- what is safe

module _ (side : Side) (d : DriverNow) (log : Log) (uncollected : List Action) (f : Follows side d log uncollected) where
  -- nothing
  pub nothing-safe : Harmless side log []
  nothing-safe = record {
    there = λ k x. x;
    peers = (refl, refl);
    kinds = f.amid.work.there.kinds;
    control = refl;
    living = f.amid.work.sends.living;
    unfinished = f.amid.work.sends.own.0;
    unreset = f.amid.work.sends.own.1;
  }

  -- a datagram
  pub datagram-safe : (bytes : List ℕ) → Harmless side log (actions.DatagramOut bytes ∷ [])
  datagram-safe bytes = record {
    there = λ k x. x;
    peers = (refl, refl);
    kinds = f.amid.work.there.kinds;
    control = refl;
    living = f.amid.work.sends.living;
    unfinished = f.amid.work.sends.own.0;
    unreset = f.amid.work.sends.own.1;
  }

  module _ (id : ℕ) (no_control : (id == local_uni side) ≡ false) where
    -- bytes
    pub bytes-safe : (bytes : List ℕ) → Harmless side log (send_of id bytes)
    bytes-safe [] = nothing-safe
    bytes-safe (byte ∷ later) = record {
      there = λ k x. x;
      peers = (refl, refl);
      kinds = f.amid.work.there.kinds;
      control = ap (λ (b : Bool). record {
        opened = not (local_count (actions_of log) (local_uni side) == 0);
        sent = length (if b then sent_on (actions_of log) (local_uni side) ++ byte ∷ later else sent_on (actions_of log) (local_uni side));
      }) no_control;
      living = f.amid.work.sends.living;
      unfinished = f.amid.work.sends.own.0;
      unreset = f.amid.work.sends.own.1;
    }

    -- a write
    pub write-safe : (bytes : List ℕ) → Harmless side log (actions_of_write side log id bytes)
    write-safe bytes = by (may_send side log id)
      where
        by : (b : Bool) → Harmless side log (if b then actions_to_send log id bytes else [])
        by true = bytes-safe (bytes_within_credit log id bytes)
        by false = nothing-safe

    -- a finish, of another stream than a session's that lives
    module _ (no_session : is_living (state_of side log) id ≡ false) where
      other : (k : ℕ) → is_living (state_of side log) k ≡ true → (id == k) ≡ false
      other k e = refuted (id == k) (λ x. true≢false (sym e ∙ (ap (is_living (state_of side log)) (sym (eqb-true id k x)) ∙ no_session)))

      pub finish-safe : Harmless side log (actions_of_finish side log id)
      finish-safe = by (may_send side log id)
        where
          by : (b : Bool) → Harmless side log (if b then actions.Finish id ∷ [] else [])
          by false = nothing-safe
          by true = record {
            there = λ k x. x;
            peers = (refl, refl);
            kinds = f.amid.work.there.kinds;
            control = refl;
            living = λ k x. ap (λ (b : Bool). can_send side log k && not (b || is_finished (actions_of log) k) && not (is_reset log k)) (other k x) ∙ f.amid.work.sends.living k x;
            unfinished = ap (λ (b : Bool). b || is_finished (actions_of log) (local_uni side)) no_control ∙ f.amid.work.sends.own.0;
            unreset = f.amid.work.sends.own.1;
          }
