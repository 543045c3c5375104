-- A call takes the first queued request: what is given is the first by the log, on its stream, and the driver follows the log with the call.
use Rattle.std.proofs.Common.{◌%◌, ◌∙◌, ◌≡◌, ◌∷◌, Bool, List, None, Option, Some, [], ap, false, map, option_map, refl, subst, subst₂, sym, true, ℕ}
use Rattle.std.specs.Prelude.{◌==◌, unwrap_or, Result}
use Rattle.wt_driver_laws.proofs.Reach.{reached_holds}
use Rattle.wt_driver_laws.proofs.ReachRecords.{may_deliver}
use Rattle.wt_driver_laws.proofs.ReachRequests.{requests_on_sessions}
use Rattle.wt_driver_laws.proofs.SessionEnds.{dispatched-of-state, result_law}
use Rattle.wt_driver_laws.proofs.TurnCollected.{follows-more}
use Rattle.wt_driver_laws.specs.Answering.{polled_by, request_now_so, request_taken_now, result_now}
use Rattle.wt_driver_laws.specs.Calling.{Always}
use Rattle.wt_driver_laws.specs.Driving.{Follows, IsReachable, uncollected_since}
use Rattle.wt_driver_laws.specs.Ends.{connection_end}
use Rattle.wt_driver_laws.specs.Given.{given_or, request_stream}
use Rattle.wt_driver_laws.specs.Handing.{Delivers, GivesRequest, IsFresh}
use Rattle.wt_driver_laws.specs.Replies.{IfGiven}
use Rattle.wt_follows.proofs.RequestCall.{request-follows}
use Rattle.wt_follows.proofs.RestingCall.{record-alone}
use Rattle.wt_follows.specs.Tie.{classified_as, queued_as, request_in}
use Rattle.wt_kept.specs.Calling.{RequestTaken, request_taken_if, take_request_now, take_request_of}
use Rattle.wt_kept.specs.Classifying.{with_dispatched}
use Rattle.wt_kept.specs.Kept.{DispatchedNow, DriverNow, QueuedRequest, RequestsNow}
use Rattle.wt_kept.specs.Moment.{with_work}
use Rattle.wt_meaning.specs.Lawful.{is_client}
use Rattle.wt_seam.specs.Typed.{StreamPair, Typed, both}
use Rattle.wt_seam.specs.declared.stream.Session.{Session}
use Rattle.wt_peer_streams.specs.Dispatched.{request_given_so}
use Rattle.wt_proto.specs.declared.verdict.Verdict.{Verdict}
use Rattle.wt_proto.specs.declared.verdict.Verdict.TheVariants as verdicts
use Rattle.wt_sessions.proofs.Indexed.{AllOf}
use Rattle.wt_sessions.proofs.Turns.{Holds}
use Rattle.wt_sessions.specs.Driver.{dispatched}
use Rattle.wt_sessions.specs.Effect.{log_call}
use Rattle.wt_sessions.specs.Handshake.{request_fields_of}
use Rattle.wt_sessions.specs.Moment.{is_known}
use Rattle.wt_sessions.specs.StreamTable.{Classified, Dispatched}
use Rattle.wt_turn.specs.Log.{Called, Log, RequestDelivered, actions_of}
use Rattle.wt_turn.specs.declared.driver_error.DriverError.{DriverError}
use Rattle.wt_turn.specs.declared.poll.Poll.{Poll}
use Rattle.wt_wire.specs.HeaderList.{Fields}
use Rattle.wt_wire.specs.declared.side.Side.{Side}

-- ---- what is taken of a queue

taken-none : (r : RequestsNow) → r.queued ≡ [] → take_request_now r ≡ record { request = None; requests = r }
taken-none r e = ap (λ (qs : List QueuedRequest). take_request_of qs r) e

taken-some : (r : RequestsNow) (q : QueuedRequest) (later : List QueuedRequest) → r.queued ≡ q ∷ later → (q.id % 4 == 0) ≡ true
    → take_request_now r ≡ record { request = Some (q.id, q.fields); requests = record r { queued = later } }
taken-some r q later e four = ap (λ (qs : List QueuedRequest). take_request_of qs r) e ∙ ap (λ (b : Bool). request_taken_if b q later r) four

-- ---- the first of both

abbrev Pairs : Type 0
Pairs = List (ℕ × Option Fields)

first_id : Pairs → ℕ
first_id [] = 0
first_id (x ∷ xs) = x.0

first_fields : Pairs → Option Fields
first_fields [] = None
first_fields (x ∷ xs) = x.1

same-id : (q : QueuedRequest) (later : List QueuedRequest) (c : Classified) (more : List Classified) → map queued_as (q ∷ later) ≡ map classified_as (c ∷ more) → q.id ≡ c.id
unfolding first_id
same-id q later c more e = ap first_id e

same-fields : (q : QueuedRequest) (later : List QueuedRequest) (c : Classified) (more : List Classified) → map queued_as (q ∷ later) ≡ map classified_as (c ∷ more) → q.fields ≡ request_fields_of c.verdict
unfolding first_fields
same-fields q later c more e = by c.verdict (ap first_fields e)
  where
    by : (v : Verdict) → Some q.fields ≡ request_in v → q.fields ≡ request_fields_of v
    by (verdicts.Request fields offset) g = ap (λ (o : Option Fields). unwrap_or o q.fields) g
    by _ g = absurd cc

-- ---- the call

module _ (d : DriverNow) where
  abbrev requests : RequestsNow
  requests = d.work.dispatched.requests

  abbrev driver_with : RequestsNow → DriverNow
  driver_with r = with_work (with_dispatched (λ (x : DispatchedNow). record x { requests = r })) d

  -- what the call says of what is taken
  abbrev Says : Side → Log → ℕ → RequestTaken → Type 0
  Says side log collected x =
      Delivers side log collected d (request_now_so (request_given_so x d.work.dispatched) d).driver
      (given_or (option_map request_stream (request_now_so (request_given_so x d.work.dispatched) d).request) (result_now d))

  module _ (side : Side) (log : Log) (collected : ℕ) (f : Follows side d log collected) (reached : IsReachable side log) (server : is_client side ≡ false) where
    held : Holds side log
    held = reached_holds side log reached

    queues : map queued_as requests.queued ≡ map classified_as (dispatched side log).requests
    queues = f.kept.amid.work.keeps.queued ∙ ap (λ (x : Dispatched). map classified_as x.requests) (dispatched-of-state side log)

    nothing : (dispatched side log).requests ≡ [] → (r : Option DriverError) → connection_end side log ≡ r → Delivers side log collected d (driver_with requests) (polled_by r)
    nothing n None e = record { none = n; nothing = record { same = refl; says = e } }
    nothing n (Some error) e = record { none = n; nothing = record { same = refl; says = e } }

    module _ (q : QueuedRequest) (later : List QueuedRequest) (c : Classified) (more : List Classified) (queue : requests.queued ≡ q ∷ later) (by_log : (dispatched side log).requests ≡ c ∷ more) where
      pairs : map queued_as (q ∷ later) ≡ map classified_as (c ∷ more)
      pairs = ap (λ (qs : List QueuedRequest). map queued_as qs) (sym queue) ∙ (queues ∙ ap (λ (cs : List Classified). map classified_as cs) by_log)

      its : q.id ≡ c.id
      its = same-id q later c more pairs

      known : is_known side log q.id ≡ true
      known = ap (is_known side log) its ∙ may_deliver side log reached c more by_log

      four : (q.id % 4 == 0) ≡ true
      four = ap (λ (k : ℕ). k % 4 == 0) its ∙ ap (λ (n : ℕ). n == 0) (subst (λ (cs : List Classified). AllOf (λ (x : Classified). (x.id % 4) ≡ 0) cs) by_log (requests_on_sessions side log reached server)).0

      alone : log_call side log [] (RequestDelivered q.id) ≡ Called (RequestDelivered q.id) ∷ log
      alone = record-alone side log (RequestDelivered q.id) d (uncollected_since collected log) f.kept (known, held.fits)
          (record { unis = refl; bis = refl; sessions = refl; control = refl; encoder = refl; decoder = refl; progress = refl; sent = refl; is_open = refl })

      delivered : Follows side (driver_with (record requests { queued = later })) (log_call side log [] (RequestDelivered q.id)) collected
      delivered = follows-more side d (driver_with (record requests { queued = later })) log (log_call side log [] (RequestDelivered q.id)) collected [] f (ap actions_of alone)
          (request-follows side d log (uncollected_since collected log) f.kept held.fits q later queue known)

      gives : GivesRequest side log collected (driver_with (record requests { queued = later })) (request_stream (q.id, q.fields))
      gives = record {
        first = c;
        more = more;
        queued = by_log;
        is = record { halves = ap both its; session = its; request = same-fields q later c more pairs; writing = refl };
        follows = subst (λ (k : ℕ). Follows side (driver_with (record requests { queued = later })) (log_call side log [] (RequestDelivered k)) collected) its delivered;
      }

    delivers : (qs : List QueuedRequest) → requests.queued ≡ qs → (cs : List Classified) → (dispatched side log).requests ≡ cs → map queued_as qs ≡ map classified_as cs → Says side log collected (take_request_now requests)
    delivers [] queue [] by_log e = subst (λ (x : RequestTaken). Says side log collected x) (sym (taken-none requests queue)) (nothing by_log (result_now d) (sym (result_law side d log collected f)))
    delivers [] queue (c ∷ more) by_log e = absurd cc
    delivers (q ∷ later) queue [] by_log e = absurd cc
    delivers (q ∷ later) queue (c ∷ more) by_log e = subst (λ (x : RequestTaken). Says side log collected x) (sym (taken-some requests q later queue (four q later c more queue by_log))) (gives q later c more queue by_log)

  takes : Always d (λ side log collected. is_client side ≡ false
      → Delivers side log collected d (request_taken_now d).driver (given_or (option_map request_stream (request_taken_now d).request) (result_now d)))
  takes side log collected f reached server =
      delivers side log collected f reached server requests.queued refl (dispatched side log).requests refl (queues side log collected f reached server)

pub accept_session_law : (a : Poll (Result (Typed StreamPair Session) DriverError)) (d later : DriverNow)
    → a ≡ given_or (option_map request_stream (request_taken_now d).request) (result_now d) → later ≡ (request_taken_now d).driver
    → Always d (λ side log collected. is_client side ≡ false → Delivers side log collected d later a)
accept_session_law a d later says step side log collected f reached server =
    subst₂ (λ (x : DriverNow) (y : Poll (Result (Typed StreamPair Session) DriverError)). Delivers side log collected d x y) (sym step) (sym says) (takes d side log collected f reached server)

-- nothing was written on the stream that is given
pub accepted_fresh_law : (a : Poll (Result (Typed StreamPair Session) DriverError)) (d : DriverNow) → a ≡ given_or (option_map request_stream (request_taken_now d).request) (result_now d) → IfGiven a IsFresh
accepted_fresh_law a d says = subst (λ (y : Poll (Result (Typed StreamPair Session) DriverError)). IfGiven y IsFresh) (sym says) (by (request_taken_now d).request (result_now d))
  where
    by : (o : Option (ℕ × Fields)) (r : Option DriverError) → IfGiven (given_or (option_map request_stream o) r) IsFresh
    by (Some x) r = record { session = refl; writing = refl }
    by None None = tt
    by None (Some error) = tt
