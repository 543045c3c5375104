-- After the moment of the byte with which what a reader says is final nobody reads the stream any more, where the connection is still open.
use Rattle.std.proofs.Common.{◌∙◌, ◌≡◌, ◌++◌, ◌∷◌, Bool, List, None, Option, Some, [], ap, arith, drop, false, inl, inr, refl, subst, suc, sym, take, true, true≢false, zero, ℕ}
use Rattle.std.proofs.lemmas.Bool.{eqb-true, or_parts}
use Rattle.std.specs.List.{list_any}
use Rattle.std.specs.Prelude.{◌==◌, ◌||◌, find, if◌then◌else◌, is_some, option_map, unwrap_or}
use Rattle.wt_follows.proofs.Admits.{lives-found, lives-same}
use Rattle.wt_follows.proofs.AtOnce.{after_front}
use Rattle.wt_follows.proofs.BodyPut.{body-put, slot-is}
use Rattle.wt_follows.proofs.BytesCome.{only-bytes}
use Rattle.wt_follows.proofs.ControlPut as controls
use Rattle.wt_follows.proofs.HeaderPut.{header-put, header-said, not-taken}
use Rattle.wt_follows.proofs.KindPut.{incomplete-at, its-contents}
use Rattle.wt_follows.proofs.Narrows.{IsAway, Narrows, moment-narrows}
use Rattle.wt_follows.proofs.PieceFollows.{Leaves, piece-follows, running}
use Rattle.wt_follows.proofs.PieceSlots.{ids_of}
use Rattle.wt_follows.proofs.PutFollows.{Came, Moment, final-log, final-state}
use Rattle.wt_follows.proofs.Puts.{Put, front-progress}
use Rattle.wt_follows.proofs.SessionPut as sessions
use Rattle.wt_follows.proofs.StreamEnds.{actions-events}
use Rattle.wt_follows.specs.Pieces.{AllRun, ControlGoes, IsIn, Runs}
use Rattle.wt_follows.specs.Rests.{Resting}
use Rattle.wt_follows.specs.Roles.{is_at, is_in, is_living}
use Rattle.wt_kept.specs.Kept.{DriverNow, LiveNow}
use Rattle.wt_kept.specs.Pieces.{FedNow, body_feed, body_feed_by, control_slot, fed_at, fed_by, header_feed, slot_of, take_piece_now}
use Rattle.wt_kept.specs.Readers.{BiReading, ControlReading, Slot, UniReading, bi_rules, control_rules, session_rules, uni_rules}
use Rattle.wt_kept.specs.Windows.{live_in}
use Rattle.wt_proto.specs.SessionWalk.{is_over, session_walk_of}
use Rattle.wt_transport.proofs.Refining.{actions-contents}
use Rattle.wt_proto.specs.Bi.{bi_verdict_of}
use Rattle.wt_proto.specs.ControlWalk.{control_walk_of}
use Rattle.wt_proto.specs.Uni.{is_final, uni_verdict_of}
use Rattle.wt_proto.specs.declared.session_walk.SessionWalk.TheVariants as walks
use Rattle.wt_proto.specs.declared.verdict.Verdict.{Verdict}
use Rattle.wt_proto.specs.declared.verdict.Verdict.TheVariants as verdicts
use Rattle.wt_turn.specs.Arrivals.{fits, log_bytes}
use Rattle.wt_turn.specs.Reports.{end_of}
use Rattle.wt_turn.specs.Streams.{contents}
use Rattle.wt_sessions.specs.Answers.{receive}
use Rattle.wt_sessions.specs.Driver.{transport_view}
use Rattle.wt_sessions.specs.DriverState.{DriverState, state_of}
use Rattle.wt_sessions.specs.StreamTable.{Session, TransportView}
use Rattle.wt_turn.specs.Log.{Event, Log, events_of, is_open}
use Rattle.wt_turn.specs.declared.action.Action.{Action}
use Rattle.wt_turn.specs.declared.turn.Turn.TheVariants as turns
use Rattle.wt_wire.specs.Ids.{is_bidirectional}
use Rattle.wt_wire.specs.declared.side.Side.{Side}
use Rattle.wt_wire.specs.declared.side.StreamEnd.{StreamEnd}
use Rattle.wt_wire.specs.declared.side.StreamEnd.TheVariants as ends

-- ---- lists

-- a slot that is found is one of them
slot-there : {V : Type 0} (id : ℕ) (x : Slot V) (xs : List (Slot V)) → slot_of id xs ≡ Some x → is_in id (ids_of xs) ≡ true
slot-there id x [] e = absurd cc
slot-there {V} id x (y ∷ ys) e = by (y.id == id) e (slot-there id x ys)
  where
    by : (b : Bool) → (if b then Some y else slot_of id ys) ≡ Some x → (slot_of id ys ≡ Some x → is_in id (ids_of ys) ≡ true) → (b || is_in id (ids_of ys)) ≡ true
    by true f later = refl
    by false f later = later f

-- a session with the id is there
record Lives (id : ℕ) (xs : List Session) : Type 0 where
  pub one : Session
  pub named : one.id ≡ id
  pub among : IsIn one xs

lives-there : (id : ℕ) (xs : List Session) → list_any (λ (x : Session). x.id == id) xs ≡ true → Lives id xs
lives-there id [] e = absurd cc
lives-there id (x ∷ xs) e = by (x.id == id) refl e (lives-there id xs)
  where
    by : (b : Bool) → (x.id == id) ≡ b → (b || list_any (λ (y : Session). y.id == id) xs) ≡ true → (list_any (λ (y : Session). y.id == id) xs ≡ true → Lives id xs) → Lives id (x ∷ xs)
    by true f g later = record { one = x; named = eqb-true x.id id f; among = inl refl }
    by false f g later = let r = later g in record { one = r.one; named = r.named; among = inr r.among }

-- its walk goes on
runs-at : (t : TransportView) (y : Session) (xs : List Session) → AllRun t xs → IsIn y xs → Runs t y
runs-at t y [] all m = absurd m
runs-at t y (x ∷ xs) all (inl same) = subst (Runs t) same all.0
runs-at t y (x ∷ xs) all (inr m) = runs-at t y xs all.1 m

-- ---- who reads a stream of a driver at rest

module _ (side : Side) (old : List Action) (e : DriverNow) (g : Log) (after : Came side old e g) (opened : is_open g ≡ true) (id : ℕ) where
  abbrev z : DriverState
  z = state_of side g

  resting : Resting side e g after.follows.position
  resting = after.follows.rests opened

  -- no slot of a stream that isn't among the first
  no-uni : ((transport_view side g).ready ≡ true → is_in id (take 4 z.unis) ≡ true → ⊥) → slot_of id e.unis.reading ≡ None
  no-uni none = by (slot_of id e.unis.reading) refl (transport_view side g).ready refl
    where
      by : (o : Option (Slot UniReading)) → slot_of id e.unis.reading ≡ o → (b : Bool) → (transport_view side g).ready ≡ b → slot_of id e.unis.reading ≡ None
      by None f b ready = f
      by (Some x) f true ready = absurd (none ready (ap (is_in id) (resting.first_unis ready) ∙ slot-there id x e.unis.reading f))
      by (Some x) f false ready = ap (slot_of id) (resting.unready ready).0

  no-bi : ((transport_view side g).ready ≡ true → is_in id (take 4 z.bis) ≡ true → ⊥) → slot_of id e.bis.reading ≡ None
  no-bi none = by (slot_of id e.bis.reading) refl (transport_view side g).ready refl
    where
      by : (o : Option (Slot BiReading)) → slot_of id e.bis.reading ≡ o → (b : Bool) → (transport_view side g).ready ≡ b → slot_of id e.bis.reading ≡ None
      by None f b ready = f
      by (Some x) f true ready = absurd (none ready (ap (is_in id) (resting.first_bis ready) ∙ slot-there id x e.bis.reading f))
      by (Some x) f false ready = ap (slot_of id) (resting.unready ready).1

  -- a stream that has no place is read by nobody
  no-reader : IsAway id z → is_living z id ≡ false → (more : List ℕ) → (header_feed id more e ≡ None) × (body_feed id more e.work.dispatched ≡ None)
  no-reader away gone more = (headers (is_bidirectional id), bodies)
    where
      headers : (b : Bool) → (if b then fed_at bi_rules more (slot_of id e.bis.reading) else fed_at uni_rules more (slot_of id e.unis.reading)) ≡ None
      headers true = ap (fed_at bi_rules more) (no-bi (λ ready f. true≢false (sym f ∙ not-taken id 4 z.bis away.1)))
      headers false = ap (fed_at uni_rules more) (no-uni (λ ready f. true≢false (sym f ∙ not-taken id 4 z.unis away.0)))

      no-control : (c : Option (Slot ControlReading)) (o : Option (ℕ × ℕ)) → option_map (λ (x : Slot ControlReading). x.id) c ≡ option_map (λ (x : ℕ × ℕ). x.0) o → is_at o id ≡ false → control_slot id c ≡ None
      no-control None o f miss = refl
      no-control (Some c) None f miss = absurd cc
      no-control (Some c) (Some o) f miss = ap (λ b. if b then Some c else None) (ap (λ k. k == id) (ap (λ x. unwrap_or x 0) f) ∙ miss)

      no-live : live_in e.work.dispatched.sessions id ≡ None
      no-live = by (live_in e.work.dispatched.sessions id) refl
        where
          by : (o : Option LiveNow) → live_in e.work.dispatched.sessions id ≡ o → live_in e.work.dispatched.sessions id ≡ None
          by None f = f
          by (Some x) f = absurd (true≢false (sym (ap is_some f) ∙ (lives-found id e.work.dispatched.sessions.living ∙ (lives-same e.work.dispatched z after.follows.amid.work.keeps id ∙ gone))))

      bodies : body_feed id more e.work.dispatched ≡ None
      bodies = λ i. body_feed_by more (no-control e.work.dispatched.critical.control z.dispatched.control after.follows.amid.work.keeps.control away.2 i) (no-live i)

-- ---- after the moment of a final reader

module _ (side : Side) (moment : Moment side) where
  -- what came, and what is kept of it
  record Then (log : Log) (id : ℕ) (part : List ℕ) (g : Log) : Type 0 where
    pub bytes : contents g id ≡ contents log id ++ part
    pub end : end_of (events_of g) id ≡ end_of (events_of log) id
    pub narrows : Narrows id (state_of side log) (state_of side g)

  module _ (old : List Action) (d : DriverNow) (log : Log) (c : Came side old d log) (opened : is_open log ≡ true) (id : ℕ) (byte : ℕ) (later : List ℕ) (lawful : fits side log (turns.Bytes id []) ≡ true) (feed : FedNow)
      (final : feed.is_final ≡ true) (still : is_open (receive side log id (take feed.taken (byte ∷ later))) ≡ true) (e : DriverNow) (after : Came side old e (receive side log id (take feed.taken (byte ∷ later)))) where
    abbrev whole : List ℕ
    whole = byte ∷ later

    abbrev part : List ℕ
    part = take feed.taken whole

    abbrev g : Log
    g = receive side log id part

    abbrev s : DriverState
    s = state_of side log

    then-by : (h : DriverNow) → Put side log c.follows.position c.uncollected id whole feed h → Then log id part g
    then-by h put = by feed.taken refl
      where
        by : (n : ℕ) → feed.taken ≡ n → Then log id (take n whole) (receive side log id (take n whole))
        by zero f = absurd (let lt = put.some in omega (arith, lt, f))
        by (suc m) f =
            let went = final-log side moment old d log id whole c opened feed h put m (sym f) final in
            record {
              bytes = ap (λ (l : Log). contents l id) went.1 ∙ (ap (λ (k : ℕ → List ℕ). k id) (actions-contents went.0 (log_bytes log id (take (suc m) whole))) ∙ its-contents log id (take (suc m) whole));
              end = ap (λ (l : Log). end_of (events_of l) id) went.1
                  ∙ ap (λ (es : List Event). end_of es id) (actions-events went.0 (log_bytes log id (take (suc m) whole)) ∙ (only-bytes log id (take (suc m) whole)).events);
              narrows =
                  subst (Narrows id s) (sym (final-state side moment old d log id whole c opened feed h put m (sym f) final))
                  (let front : DriverState = after_front (take m whole) put.came s in
                  let r : Narrows id front _ = moment-narrows id (transport_view side (log_bytes log id (take (suc m) whole))) front in
                  let same : front ≡ record s { progress = front.progress } = front-progress (take m whole) put.came s in
                  record {
                    away = λ a. r.away (subst (IsAway id) (sym same) a);
                    kept = λ o f2. r.kept o (ap (λ (u : DriverState). u.dispatched.control) same ∙ f2);
                    sessions = λ y m2. subst (λ (u : DriverState). IsIn y u.sessions) same (r.sessions y m2);
                  });
            }

    runs-still : end_of (events_of log) id ≡ ends.Running
    runs-still = running side old id d log c lawful opened

    -- ---- the header's reader

    header-leaves : header_feed id whole d ≡ Some feed → (more : List ℕ) → header_feed id more e ≡ None
    header-leaves f more = by (is_bidirectional id) (header-said side d log c.follows.position c.uncollected c.follows.amid opened (c.follows.rests opened) id whole runs-still byte later refl feed f final)
      where
        now : Then log id part g
        now = then-by _ (header-put side d log c.follows.position c.uncollected c.follows.amid opened (c.follows.rests opened) id whole runs-still byte later refl feed f)

        over : (verdict : List ℕ → StreamEnd → Verdict) → is_final (verdict (contents log id ++ part) ends.Running) ≡ true → verdict (contents g id) (end_of (events_of g) id) ≡ verdicts.Incomplete → ⊥
        over verdict said waits = true≢false (sym said ∙ ((λ i. is_final (verdict (sym now.bytes i) (sym (now.end ∙ runs-still) i))) ∙ ap is_final waits))

        by : (b : Bool) → (if b then is_final (bi_verdict_of (contents log id ++ part) ends.Running) else is_final (uni_verdict_of (contents log id ++ part) ends.Running)) ≡ true
            → (if b then fed_at bi_rules more (slot_of id e.bis.reading) else fed_at uni_rules more (slot_of id e.unis.reading)) ≡ None
        by true said =
            ap (fed_at bi_rules more) (no-bi side old e g after still id (λ ready there. over bi_verdict_of said
            (incomplete-at (λ k. bi_verdict_of (contents g k) (end_of (events_of g) k)) 4 (state_of side g).bis id ((after.follows.rests still).finds.bis ready) there)))
        by false said =
            ap (fed_at uni_rules more) (no-uni side old e g after still id (λ ready there. over uni_verdict_of said
            (incomplete-at (λ k. uni_verdict_of (contents g k) (end_of (events_of g) k)) 4 (state_of side g).unis id ((after.follows.rests still).finds.unis ready) there)))

    -- ---- the control stream's reader, or a session's

    body-leaves : body_feed id whole d.work.dispatched ≡ Some feed → (more : List ℕ) → (header_feed id more e ≡ None) × (body_feed id more e.work.dispatched ≡ None)
    body-leaves f more = by (control_slot id d.work.dispatched.critical.control) refl (live_in d.work.dispatched.sessions id) refl f
      where
        z : DriverState
        z = state_of side g

        resting : Resting side d log c.follows.position
        resting = c.follows.rests opened

        now : Then log id part g
        now = then-by _ (body-put side d log c.follows.position c.uncollected c.follows.amid opened resting id byte later runs-still feed f)

        some-is : (x y : FedNow) → Some x ≡ Some y → x ≡ y
        some-is x y h = ap (λ o. unwrap_or o x) h

        -- a fault of the control stream would have closed the connection
        no-control-fault : (x : Slot ControlReading) → control_slot id d.work.dispatched.critical.control ≡ Some x → fed_by control_rules x.reader whole ≡ feed → (o : Option (ℕ × ℕ)) → s.dispatched.control ≡ o
            → option_map (λ (y : Slot ControlReading). y.id) (Some x) ≡ option_map (λ (y : ℕ × ℕ). y.0) o → ⊥
        no-control-fault x h same None k m = cc
        no-control-fault x h same (Some o) k m = true≢false (sym faulty ∙ ap is_some clean)
          where
            its : (d.work.dispatched.critical.control ≡ Some x) × (x.id ≡ id)
            its = slot-is id d.work.dispatched.critical.control x h

            named : o.0 ≡ id
            named = ap (λ y. unwrap_or y 0) (sym m) ∙ its.1

            faulty : is_some (control_walk_of (drop o.1 (contents log id ++ part)) ends.Running).fault ≡ true
            faulty =
                ap (λ (y : FedNow). is_some (control_walk_of (drop o.1 (contents log id ++ take y.taken whole)) ends.Running).fault) (sym same)
                ∙ (sym (controls.said side d log c.follows.position c.uncollected c.follows.amid opened resting id whole runs-still x o its.0 k its.1) ∙ (ap (λ (y : FedNow). y.is_final) same ∙ final))

            clean : (control_walk_of (drop o.1 (contents log id ++ part)) ends.Running).fault ≡ None
            clean =
                (λ i. (control_walk_of (drop o.1 (sym now.bytes i)) (sym (now.end ∙ runs-still) i)).fault)
                ∙ ((λ i. (control_walk_of (drop o.1 (contents g (sym named i))) (end_of (events_of g) (sym named i))).fault)
                ∙ (subst (λ y. ControlGoes (transport_view side g) y z.progress.settings z.progress.settings) (now.narrows.kept o k) (after.follows.rests still).finds.control).0)

        -- a session whose walk is over lives no more
        session-gone : (x : LiveNow) → live_in d.work.dispatched.sessions id ≡ Some x → fed_by session_rules x.reader whole ≡ feed → (y : Session) → find (λ (v : Session). v.id == id) s.sessions ≡ Some y
            → (header_feed id more e ≡ None) × (body_feed id more e.work.dispatched ≡ None)
        session-gone x h same y named = no-reader side old e g after still id (now.narrows.away (kinds.0, kinds.1, sessions.not-critical side d log c.follows.position c.uncollected c.follows.amid opened resting id whole runs-still x h)) (gone (is_living z id) refl) more
          where
            kinds : (is_in id s.unis ≡ false) × (is_in id s.bis ≡ false)
            kinds = or_parts (is_in id s.unis) (is_in id s.bis) (sessions.no-arriving side d log c.follows.position c.uncollected c.follows.amid opened resting id whole runs-still x h)

            over : is_over (session_walk_of (drop y.offset (contents log id ++ part)) ends.Running) ≡ true
            over =
                ap (λ (u : FedNow). is_over (session_walk_of (drop y.offset (contents log id ++ take u.taken whole)) ends.Running)) (sym same)
                ∙ (sym (sessions.said side d log c.follows.position c.uncollected c.follows.amid opened resting id whole runs-still x h y named) ∙ (ap (λ (u : FedNow). u.is_final) same ∙ final))

            gone : (b : Bool) → is_living z id ≡ b → is_living z id ≡ false
            gone false k = k
            gone true k =
                let found : Lives id z.sessions = lives-there id z.sessions k in
                let one : found.one ≡ y = sessions.only-one id found.one y s.sessions c.follows.amid.work.roles.living named (now.narrows.sessions found.one found.among) found.named in
                let goes_on : session_walk_of (drop found.one.offset (contents g found.one.id)) (end_of (events_of g) found.one.id) ≡ walks.Running = runs-at (transport_view side g) found.one z.sessions (after.follows.rests still).finds.sessions found.among in
                absurd (true≢false (sym over
                ∙ ((λ i. is_over (session_walk_of (drop (sym one i).offset (sym now.bytes i)) (sym (now.end ∙ runs-still) i)))
                ∙ ((λ i. is_over (session_walk_of (drop found.one.offset (contents g (sym found.named i))) (end_of (events_of g) (sym found.named i)))) ∙ ap is_over goes_on))))

        by : (o : Option (Slot ControlReading)) → control_slot id d.work.dispatched.critical.control ≡ o → (l : Option LiveNow) → live_in d.work.dispatched.sessions id ≡ l → body_feed_by whole o l ≡ Some feed
            → (header_feed id more e ≡ None) × (body_feed id more e.work.dispatched ≡ None)
        by (Some x) h l k said =
            absurd (no-control-fault x h (some-is _ feed said) s.dispatched.control refl
            (ap (λ o. option_map (λ (y : Slot ControlReading). y.id) o) (sym (slot-is id d.work.dispatched.critical.control x h).0) ∙ c.follows.amid.work.keeps.control))
        by None h (Some x) k said = at (find (λ (v : Session). v.id == id) s.sessions) refl
          where
            at : (o : Option Session) → find (λ (v : Session). v.id == id) s.sessions ≡ o → (header_feed id more e ≡ None) × (body_feed id more e.work.dispatched ≡ None)
            at (Some y) m = session-gone x k (some-is _ feed said) y m
            at None m =
                absurd (true≢false (sym (sessions.find-any side d log c.follows.position c.uncollected c.follows.amid opened resting id whole runs-still x k s.sessions
                ∙ sessions.lives side d log c.follows.position c.uncollected c.follows.amid opened resting id whole runs-still x k) ∙ ap is_some m))
        by None h None k said = absurd cc

  -- so nobody reads on
  pub leaves : Leaves side
  leaves = record {
    header = λ old d log c opened id byte later lawful feed f final still e after. header-leaves old d log c opened id byte later lawful feed final still e after f;
    body = λ old d log c opened id byte later lawful feed f final still e after. body-leaves old d log c opened id byte later lawful feed final still e after f;
  }

  -- A driver that follows the log follows it with a whole piece.
  pub whole-piece-follows : (old : List Action) (id : ℕ) (d : DriverNow) (log : Log) → Came side old d log → fits side log (turns.Bytes id []) ≡ true → (piece : List ℕ) → Came side old (take_piece_now id piece d) (receive side log id piece)
  whole-piece-follows old id d log c lawful piece = piece-follows side moment leaves old id d log c lawful piece
