-- A session may begin, by the log: a server's whose request is held, and a client's whose response came. So the driver has a place for it, and
-- its stream is read up to where its part begins.
use Rattle.std.proofs.Common.{◌+◌, ◌<◌, ◌∙◌, ◌∷◌, ◌≡◌, ◌≤◌, Bool, List, None, Option, Some, ℕ, [], ap, arith, cond, false, filter, is_some, length, map, refl, subst, suc, sym, true, zero}
use Rattle.std.proofs.lemmas.Bool.{eqb-true, lt-ltb, or_parts, true≢false}
use Rattle.std.specs.List.{list_any}
use Rattle.std.specs.Prelude.{◌%◌, ◌&&◌, ◌==◌, ◌||◌, if◌then◌else◌, nat_lt, not, unwrap_or}
use Rattle.wt_follows.proofs.Lists.{any-map, flip, refuted, same}
use Rattle.wt_follows.proofs.NewSession.{MayLive}
use Rattle.wt_follows.proofs.Logs.{events-kept}
use Rattle.wt_follows.proofs.OwnRequest.{none-joined, none-lives, request-arriving, request-critical, request-waits}
use Rattle.wt_follows.proofs.QuietEntry.{and-first}
use Rattle.wt_follows.proofs.ResponseEnd.{response-ends}
use Rattle.wt_follows.proofs.ResponseRead.{response-follows, response-says}
use Rattle.wt_follows.specs.Roles.{AreDistinct, is_arriving, is_critical, is_held, is_in, is_living, is_member, waits}
use Rattle.wt_follows.specs.Tie.{Follows, Keeps, NoneEstablished, ResponseAt, ResponseFollows, goes_on_at, header_verdict, rests_at_header}
use Rattle.wt_kept.specs.Calling.{has_no_session_now, has_place, may_register, response_read, response_said, response_slot}
use Rattle.wt_kept.specs.Kept.{DriverNow, GoneNow, LiveNow, SessionsNow}
use Rattle.wt_kept.specs.Readers.{ResponseReading, Slot, response_rules}
use Rattle.wt_kept.specs.Windows.{end_in, is_gone_in, is_gone_now, is_live, lives_now}
use Rattle.wt_meaning.specs.Lawful.{is_client}
use Rattle.wt_transport.proofs.Refining.{actions-contents, refined_side}
use Rattle.wt_transport.specs.State.{IsWithin}
use Rattle.wt_proto.specs.Bi.{bi_verdict_of}
use Rattle.wt_proto.specs.ResponseWalk.{response_walk_of}
use Rattle.wt_proto.specs.Uni.{uni_verdict_of}
use Rattle.wt_proto.specs.declared.response_walk.ResponseWalk.TheVariants as responses
use Rattle.wt_turn.specs.Reports.{end_of}
use Rattle.wt_turn.specs.Sent.{is_finished, is_reset}
use Rattle.wt_turn.specs.Streams.{can_receive, can_send, contents, exists, local_bi, local_uni, peer_uni}
use Rattle.wt_turn.specs.Unread.{AtOffset, ReadPosition}
use Rattle.wt_sessions.specs.Driver.{call_view, still_sends}
use Rattle.wt_sessions.specs.DriverState.{DriverState, state_of}
use Rattle.wt_sessions.specs.StreamTable.{Classified, Session, is_session}
use Rattle.wt_turn.specs.Log.{Log, actions_of, events_of, with_actions}
use Rattle.wt_turn.specs.declared.action.Action.{Action}
use Rattle.wt_wire.specs.HeaderList.{Fields}
use Rattle.wt_wire.specs.Ids.{is_bidirectional}
use Rattle.wt_wire.specs.declared.side.Side.{Side}
use Rattle.wt_wire.specs.declared.side.Side.TheVariants.{Client, Server}

-- of a server's log: the request is held, and its session neither began nor is gone; at most four are held, among them those of all that live
pub record RequestBegins (side : Side) (log : Log) (k offset : ℕ) : Type 0 where
  pub is_session : (k % 4) ≡ 0
  pub held : is_in k (state_of side log).dispatched.held ≡ true
  pub remains : (state_of side log).dispatched.is_gone k ≡ false
  pub unestablished : (state_of side log).dispatched.is_established k ≡ false
  pub header : goes_on_at (header_verdict log k) ≡ Some offset
  pub sends : still_sends side log k ≡ true
  pub few : length (state_of side log).dispatched.held ≤ 4
  pub living : (j : ℕ) → is_living (state_of side log) j ≡ true → is_in j (state_of side log).dispatched.held ≡ true

-- of a client's log: the response came on its request stream, before any session
pub record ResponseBegins (side : Side) (log : Log) (k offset : ℕ) : Type 0 where
  pub its : k ≡ local_bi side
  pub before : NoneEstablished (state_of side log)
  pub remain : (j : ℕ) → (j % 4) ≡ 0 → (state_of side log).dispatched.is_gone j ≡ false
  pub fields : Fields
  pub said : response_walk_of (contents log (local_bi side)) (end_of (events_of log) (local_bi side)) ≡ responses.Response fields offset
  pub sends : still_sends side log k ≡ true

-- by whether it is a client's
abbrev pub SessionBegins : Bool → Side → Log → ℕ → ℕ → Type 0
SessionBegins true side log k offset = ResponseBegins side log k offset
SessionBegins false side log k offset = RequestBegins side log k offset

-- of a log on which no session was established
pub none-established : (side : Side) (log : Log) → (call_view log).sessions ≡ [] → NoneEstablished (state_of side log)
unfolding state_of
none-established side log e k = ap (λ (xs : List Session). list_any (is_session k) xs) e

-- ---- how many may live

-- without this one a list is shorter
shorter : (k : ℕ) (xs : List ℕ) → is_in k xs ≡ true → suc (length (filter (λ (x : ℕ). not (k == x)) xs)) ≤ length xs
shorter k [] e = absurd (true≢false (sym e))
shorter k (x ∷ xs) e = by (k == x) refl (ap (λ b. b || is_in k xs) (flip k x) ∙ e) (shorter k xs)
  where
    no-more : (ys : List ℕ) → length (filter (λ (y : ℕ). not (k == y)) ys) ≤ length ys
    no-more [] = omega arith
    no-more (y ∷ ys) = each (k == y) (no-more ys)
      where
        each : (b : Bool) → length (filter (λ (z : ℕ). not (k == z)) ys) ≤ length ys → length (cond (not b) (y ∷ filter (λ (z : ℕ). not (k == z)) ys) (filter (λ (z : ℕ). not (k == z)) ys)) ≤ suc (length ys)
        each true le = omega (arith, le)
        each false le = omega (arith, le)

    by : (b : Bool) → (k == x) ≡ b → (b || is_in k xs) ≡ true → (is_in k xs ≡ true → suc (length (filter (λ (y : ℕ). not (k == y)) xs)) ≤ length xs)
        → suc (length (cond (not b) (x ∷ filter (λ (y : ℕ). not (k == y)) xs) (filter (λ (y : ℕ). not (k == y)) xs))) ≤ suc (length xs)
    by true f g again = let le = no-more xs in omega (arith, le)
    by false f g again = let le = again g in omega (arith, le)

still-in : (k j : ℕ) (xs : List ℕ) → (k == j) ≡ false → is_in j xs ≡ true → is_in j (filter (λ (x : ℕ). not (k == x)) xs) ≡ true
still-in k j [] ne e = absurd (true≢false (sym e))
still-in k j (x ∷ xs) ne e = by (k == x) refl (x == j) refl e (still-in k j xs ne)
  where
    by : (b : Bool) → (k == x) ≡ b → (c : Bool) → (x == j) ≡ c → (c || is_in j xs) ≡ true → (is_in j xs ≡ true → is_in j (filter (λ (y : ℕ). not (k == y)) xs) ≡ true)
        → is_in j (cond (not b) (x ∷ filter (λ (y : ℕ). not (k == y)) xs) (filter (λ (y : ℕ). not (k == y)) xs)) ≡ true
    by false f true g h again = ap (λ b. b || is_in j (filter (λ (y : ℕ). not (k == y)) xs)) g
    by false f false g h again = ap (λ b. b || is_in j (filter (λ (y : ℕ). not (k == y)) xs)) g ∙ again h
    by true f true g h again = absurd (true≢false (sym (ap (λ i. k == i) (sym (eqb-true x j g)) ∙ f) ∙ ne))
    by true f false g h again = again h

-- distinct ones among others are no more than those
no-more-than : (ks xs : List ℕ) → AreDistinct ks → ((j : ℕ) → is_in j ks ≡ true → is_in j xs ≡ true) → length ks ≤ length xs
no-more-than [] xs d h = omega arith
no-more-than (k ∷ ks) xs d h =
    let less = shorter k xs (h k (ap (λ b. b || is_in k ks) (same k))) in
    let rest = no-more-than ks (filter (λ (x : ℕ). not (k == x)) xs) d.1 (λ j e. still-in k j xs (apart j e) (h j (or-second (k == j) (is_in j ks) e))) in
    omega (arith, less, rest)
  where
    or-second : (a b : Bool) → b ≡ true → (a || b) ≡ true
    or-second true b e = refl
    or-second false b e = e

    apart : (j : ℕ) → is_in j ks ≡ true → (k == j) ≡ false
    apart j e = refuted (k == j) (λ f. true≢false (sym e ∙ (ap (λ i. is_in i ks) (sym (eqb-true k j f)) ∙ d.0)))

-- ---- which sessions are gone

gone-found : (gs : List GoneNow) (k : ℕ) → is_gone_in gs k ≡ is_some (end_in gs k)
gone-found [] k = refl
gone-found (g ∷ gs) k = by (g.id == k) (gone-found gs k)
  where
    by : (b : Bool) → is_gone_in gs k ≡ is_some (end_in gs k) → (b || is_gone_in gs k) ≡ is_some (if b then Some g.end else end_in gs k)
    by true again = refl
    by false again = again

length-map : (xs : List LiveNow) → length (map (λ (x : LiveNow). x.id) xs) ≡ length xs
length-map [] = refl
length-map (x ∷ xs) = ap suc (length-map xs)

module _ (side : Side) (d : DriverNow) (log : Log) (uncollected : List Action) (f : Follows side d log uncollected) (k : ℕ) where
  abbrev s : DriverState
  s = state_of side log

  abbrev kept : SessionsNow
  kept = d.work.dispatched.sessions

  keeps : Keeps d.work.dispatched s
  keeps = f.amid.work.keeps

  lives-is : lives_now kept k ≡ is_living s k
  lives-is = sym (any-map (λ (x : LiveNow). x.id) k kept.living) ∙ (ap (is_in k) keeps.living ∙ any-map (λ (x : Session). x.id) k s.sessions)

  gone-is : (k % 4) ≡ 0 → is_gone_now kept k ≡ s.dispatched.is_gone k
  gone-is four = gone-found kept.gone k ∙ sym (keeps.gone k four)

  side-is : d.work.transport.side ≡ side
  side-is = refined_side side d.work.transport log f.position uncollected f.amid.work.transport

  within-is : (offset : ℕ) → f.position k ≡ AtOffset offset → offset ≤ length (contents log k)
  within-is offset e = subst (λ (p : ReadPosition). IsWithin p (contents log k)) e (f.amid.work.transport.holds k).within

  -- where there is a place, and the session neither lives nor is gone, it may be registered
  registers : has_place side kept ≡ true → (k % 4) ≡ 0 → is_living s k ≡ false → s.dispatched.is_gone k ≡ false → may_register k d ≡ true
  registers place four dead remains = λ i. (ap (λ (n : Side). has_place n kept) side-is ∙ place) i && not ((lives-is ∙ dead) i) && not ((gone-is four ∙ remains) i)

-- ---- a server's

module _ (side : Side) (d : DriverNow) (log : Log) (uncollected : List Action) (f : Follows side d log uncollected) (k offset : ℕ) (b : RequestBegins side log k offset) where
  abbrev state : DriverState
  state = state_of side log

  held-so : is_held state k ≡ true
  held-so = ap (λ a. a || list_any (λ (c : Classified). c.id == k) state.dispatched.requests) b.held

  dead : is_living state k ≡ false
  dead = sym (f.amid.work.keeps.established k b.remains) ∙ b.unestablished

  not-waiting : waits state k ≡ false
  not-waiting = refuted (waits state k) (λ e. true≢false (sym held-so ∙ (f.amid.work.roles.waiting_alone k e).held))

  rests : rests_at_header state k ≡ true
  rests = λ i. not-waiting i || (b.held i && not (b.unestablished i))

  -- its stream is read up to the end of its header
  at-offset : f.position k ≡ AtOffset offset
  at-offset = let h = f.amid.work.placed.headers k rests in h.at_offset ∙ ap (λ (o : Option ℕ). AtOffset (unwrap_or o 0)) (sym h.verdict ∙ b.header)

  pub request-may-live : MayLive side log (state_of side log) f.position k offset
  request-may-live = record {
    is_session = b.is_session;
    remains = b.remains;
    unestablished = b.unestablished;
    at_offset = at-offset;
    within = within-is side d log uncollected f k offset at-offset;
    there = f.amid.work.there.held k held-so;
    sends = b.sends;
    arriving = refuted (is_arriving state k) (λ e. true≢false (sym held-so ∙ (f.amid.work.roles.arriving k e).held));
    critical = f.amid.work.roles.requests_alone k held-so;
    waits = not-waiting;
    member = λ session. refuted (is_member state session k) (λ e. true≢false (sym held-so ∙ (f.amid.work.roles.members_alone k session e).held));
  }

  abbrev ids : List ℕ
  ids = map (λ (x : Session). x.id) state.sessions

  fewer : suc (length ids) ≤ length state.dispatched.held
  fewer = no-more-than (k ∷ ids) state.dispatched.held (any-map (λ (x : Session). x.id) k state.sessions ∙ dead, f.amid.work.roles.living) (λ j e. by j (k == j) refl e)
    where
      by : (j : ℕ) (c : Bool) → (k == j) ≡ c → (c || is_in j ids) ≡ true → is_in j state.dispatched.held ≡ true
      by j true e g = ap (λ i. is_in i state.dispatched.held) (sym (eqb-true k j e)) ∙ b.held
      by j false e g = b.living j (sym (any-map (λ (x : Session). x.id) j state.sessions) ∙ g)

  pub request-registers : is_client side ≡ false → may_register k d ≡ true
  request-registers server = registers side d log uncollected f k (by side server) b.is_session dead b.remains
    where
      count : length d.work.dispatched.sessions.living ≡ length ids
      count = sym (length-map d.work.dispatched.sessions.living) ∙ ap length f.amid.work.keeps.living

      by : (n : Side) → is_client n ≡ false → has_place n d.work.dispatched.sessions ≡ true
      by Client e = absurd (true≢false e)
      by Server e = lt-ltb (length d.work.dispatched.sessions.living) 4 (let le = fewer in let few = b.few in omega (arith, le, few, count))

-- ---- a client's

none-listed : (xs : List LiveNow) → ((j : ℕ) → list_any (is_live j) xs ≡ false) → (length xs == 0) ≡ true
none-listed [] h = refl
none-listed (x ∷ xs) h = absurd (true≢false (sym (ap (λ a. a || list_any (is_live x.id) xs) (same x.id)) ∙ h x.id))

none-gone : (gs : List GoneNow) → ((j : ℕ) → is_some (end_in gs j) ≡ false) → (length gs == 0) ≡ true
none-gone [] h = refl
none-gone (g ∷ gs) h = absurd (true≢false (sym (ap (λ (a : Bool). is_some (if a then Some g.end else end_in gs g.id)) (same g.id)) ∙ h g.id))

module _ (side : Side) (d : DriverNow) (log : Log) (uncollected : List Action) (f : Follows side d log uncollected) (k offset : ℕ) (client : is_client side ≡ true) (b : ResponseBegins side log k offset) where
  abbrev now : DriverState
  now = state_of side log

  -- once the response was read on
  abbrev pub read_on_follows : Follows side (response_read d) log uncollected
  read_on_follows = response-follows side d log uncollected f client b.before

  ends-at : (one : Side) (o : Option (Slot ResponseReading)) (p : ℕ → ReadPosition) → ResponseFollows side o (contents log) (events_of log) p
      → response_rules.outcome (response_slot one o).reader ≡ responses.Response b.fields offset → p (local_bi side) ≡ AtOffset offset
  ends-at one None p h e = absurd cc
  ends-at one (Some x) p h e = response-ends x.reader (contents log (local_bi side)) (end_of (events_of log) (local_bi side)) (p (local_bi side)) h.1 b.fields offset e

  at-response : read_on_follows.position (local_bi side) ≡ AtOffset offset
  at-response = ends-at (response_read d).work.transport.side (response_read d).response read_on_follows.position (read_on_follows.amid.response client b.before)
      (response-says side d log uncollected f client b.before ∙ b.said)

  client-session : (n : Side) → is_client n ≡ true → (local_bi n % 4) ≡ 0
  client-session Client e = refl
  client-session Server e = absurd (true≢false (sym e))

  two-way : (n : Side) → (local_uni n == local_bi n % 4) ≡ false
  two-way Client = refl
  two-way Server = refl

  is-there : exists side log (local_bi side) ≡ true
  is-there = and-first (exists side log (local_bi side)) (not (peer_uni side == local_bi side % 4))
      (and-first (can_send side log (local_bi side)) (not (is_finished (actions_of log) (local_bi side)))
      (and-first (can_send side log (local_bi side) && not (is_finished (actions_of log) (local_bi side))) (not (is_reset log (local_bi side))) (ap (still_sends side log) (sym b.its) ∙ b.sends)))

  pub response-may-live : MayLive side log (state_of side log) read_on_follows.position k offset
  response-may-live = subst (λ j. MayLive side log (state_of side log) read_on_follows.position j offset) (sym b.its) (record {
    is_session = client-session side client;
    remains = b.remain (local_bi side) (client-session side client);
    unestablished = b.before (local_bi side);
    at_offset = at-response;
    within = within-is side (response_read d) log uncollected read_on_follows (local_bi side) offset at-response;
    there = λ i. is-there i && not (two-way side i);
    sends = ap (still_sends side log) (sym b.its) ∙ b.sends;
    arriving = request-arriving side now f.amid.work.there.peers;
    critical = request-critical side now f.amid.work.there.peers;
    waits = request-waits side now f.amid.work.there.peers;
    member = λ session. none-joined d.work.dispatched now f.amid.work.keeps b.before session (local_bi side);
  })

  pub response-registers : may_register k d ≡ true
  response-registers = registers side d log uncollected f k (by side client) (ap (λ j. j % 4) b.its ∙ client-session side client) (none-lives d.work.dispatched now f.amid.work.keeps b.before k)
      (b.remain k (ap (λ j. j % 4) b.its ∙ client-session side client))
    where
      none-lives-now : (length d.work.dispatched.sessions.living == 0) ≡ true
      none-lives-now = none-listed d.work.dispatched.sessions.living (λ j. lives-is side d log uncollected f j ∙ none-lives d.work.dispatched now f.amid.work.keeps b.before j)

      none-ended : (j : ℕ) → is_some (end_in d.work.dispatched.sessions.gone j) ≡ false
      none-ended j = refuted (is_some (end_in d.work.dispatched.sessions.gone j))
          (λ e. let four = f.amid.work.keeps.gone_named j e in true≢false (sym e ∙ (sym (f.amid.work.keeps.gone j four) ∙ b.remain j four)))

      by : (n : Side) → is_client n ≡ true → has_place n d.work.dispatched.sessions ≡ true
      by Server e = absurd (true≢false (sym e))
      by Client e = λ i. none-lives-now i && none-gone d.work.dispatched.sessions.gone none-ended i

-- ---- in the middle of a call

-- actions leave what headers say
pub header-sent : (own : List Action) (log : Log) (k : ℕ) → header_verdict (with_actions own log) k ≡ header_verdict log k
header-sent own log k = λ i. if is_bidirectional k then bi_verdict_of (actions-contents own log i k) (end_of (events-kept own log i) k) else uni_verdict_of (actions-contents own log i k) (end_of (events-kept own log i) k)
