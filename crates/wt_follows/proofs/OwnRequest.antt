-- A client's request stream before its session: nothing but the response's reader has to do with it.
use Rattle.std.proofs.Common.{◌∙◌, ◌≡◌, Bool, List, None, Option, Some, ℕ, ap, false, inl, inr, length, refl, subst, sym, true}
use Rattle.std.proofs.lemmas.Bool.{eqb-true, true≢false}
use Rattle.std.specs.Prelude.{◌==◌}
use Rattle.wt_follows.proofs.Lists.{refuted, same}
use Rattle.wt_follows.specs.Roles.{is_arriving, is_critical, is_held, is_in, is_living, is_member, waits}
use Rattle.wt_follows.specs.Tie.{ArePeers, Keeps, NoneEstablished, ReaderAt, ResponseAt, ResponseFollows}
use Rattle.wt_kept.specs.Kept.{DispatchedNow}
use Rattle.wt_kept.specs.Readers.{ResponseReading, Slot, response_rules}
use Rattle.wt_meaning.specs.Lawful.{is_client}
use Rattle.wt_turn.specs.Reports.{end_of, is_running}
use Rattle.wt_turn.specs.Streams.{local_bi}
use Rattle.wt_turn.specs.Unread.{AtOffset, ReadPosition}
use Rattle.wt_sessions.specs.DriverState.{DriverState}
use Rattle.wt_sessions.specs.Moment.{is_peers}
use Rattle.wt_turn.specs.Log.{Event}
use Rattle.wt_wire.specs.declared.side.Side.{Side}
use Rattle.wt_wire.specs.declared.side.Side.TheVariants.{Client, Server}
use Rattle.wt_wire.specs.declared.side.StreamEnd.{StreamEnd}

-- what comes on a stream, and how far it is read
record ResponseSource : Type 0 where
  bytes : List ℕ
  end : StreamEnd
  position : ReadPosition

-- A step leaves it where it is, as long as no session is established.
abbrev pub LeavesRequest : Side → DriverState → DriverState → (ℕ → ReadPosition) → (ℕ → ReadPosition) → Type 0
LeavesRequest side s z old new = is_client side ≡ true → NoneEstablished z → NoneEstablished s × (new (local_bi side) ≡ old (local_bi side))

pub none-before : (s z : DriverState) → ((k : ℕ) → z.dispatched.is_established k ≡ s.dispatched.is_established k) → NoneEstablished z → NoneEstablished s
none-before s z e n k = sym (e k) ∙ n k

-- all that the response's reader rests on is its stream
pub response-same : (side : Side) (o : Option (Slot ResponseReading)) (bytes more : ℕ → List ℕ) (events later : List Event) (old new : ℕ → ReadPosition) → more (local_bi side) ≡ bytes (local_bi side)
    → end_of later (local_bi side) ≡ end_of events (local_bi side) → new (local_bi side) ≡ old (local_bi side) → ResponseFollows side o bytes events old → ResponseFollows side o more later new
response-same side None bytes more events later old new b f e h = e ∙ h
response-same side (Some x) bytes more events later old new b f e h = (
  h.0,
  subst (λ (y : ResponseSource). ResponseAt x.reader y.bytes y.end y.position)
      (λ i. record { bytes = sym b i; end = sym f i; position = sym e i }) h.1,
)

pub response-moved : (side : Side) (o : Option (Slot ResponseReading)) (bytes : ℕ → List ℕ) (events : List Event) (old new : ℕ → ReadPosition) → new (local_bi side) ≡ old (local_bi side)
    → ResponseFollows side o bytes events old → ResponseFollows side o bytes events new
response-moved side o bytes events old new e h = response-same side o bytes bytes events events old new refl refl e h

-- an end that comes is the first
response-ended : (reader : ResponseReading) (bytes : List ℕ) (before after : StreamEnd) (position : ReadPosition) → (is_running before ≡ false → after ≡ before) → ResponseAt reader bytes before position → ResponseAt reader bytes after position
response-ended reader bytes before after position once at = record {
  front = at.front;
  at_front = at.at_front;
  noted = elim at.noted [
    | inl e ↦ inl e
    | inr e ↦ inr (subst (λ (end : StreamEnd). (reader ≡ response_rules.ended end at.front) × (is_running end ≡ false) × (position ≡ AtOffset (length bytes))) (sym (once e.1)) e)
  ];
}

pub response-told : (side : Side) (o : Option (Slot ResponseReading)) (bytes : ℕ → List ℕ) (events later : List Event) (position : ℕ → ReadPosition)
    → (is_running (end_of events (local_bi side)) ≡ false → end_of later (local_bi side) ≡ end_of events (local_bi side)) → ResponseFollows side o bytes events position → ResponseFollows side o bytes later position
response-told side None bytes events later position once h = h
response-told side (Some x) bytes events later position once h =
    (h.0, response-ended x.reader (bytes (local_bi side)) (end_of events (local_bi side)) (end_of later (local_bi side)) (position (local_bi side)) once h.1)

-- more bytes come where the stream runs
pub response-more : (reader : ResponseReading) (bytes more : List ℕ) (end : StreamEnd) (position : ReadPosition) → is_running end ≡ true
    → (ReaderAt response_rules reader 0 bytes position → ReaderAt response_rules reader 0 more position) → ResponseAt reader bytes end position → ResponseAt reader more end position
response-more reader bytes more end position runs grows at = elim at.noted [
  | inl e ↦ record { front = reader; at_front = grows (subst (λ (r : ResponseReading). ReaderAt response_rules r 0 bytes position) (sym e) at.at_front); noted = inl refl }
  | inr e ↦ absurd (true≢false (sym runs ∙ e.1))
]

-- ---- it isn't the peer's

pub bi-apart : (side : Side) (k : ℕ) → is_peers side k ≡ true → (k == local_bi side) ≡ false
bi-apart side k e = refuted (k == local_bi side) (λ f. true≢false (sym e ∙ (ap (is_peers side) (eqb-true k (local_bi side) f) ∙ none side)))
  where
    none : (side : Side) → is_peers side (local_bi side) ≡ false
    none Client = refl
    none Server = refl

-- so it has no place that a stream of the peer may have
pub unplaced : (side : Side) (test : ℕ → Bool) → ((k : ℕ) → test k ≡ true → is_peers side k ≡ true) → test (local_bi side) ≡ false
unplaced side test h = refuted (test (local_bi side)) (λ e. true≢false (sym (same (local_bi side)) ∙ bi-apart side (local_bi side) (h (local_bi side) e)))

module _ (side : Side) (s : DriverState) (p : ArePeers side s) where
  pub request-arriving : is_arriving s (local_bi side) ≡ false
  request-arriving = unplaced side (is_arriving s) p.arriving

  pub request-critical : is_critical s (local_bi side) ≡ false
  request-critical = unplaced side (is_critical s) p.critical

  pub request-held : is_held s (local_bi side) ≡ false
  request-held = unplaced side (is_held s) p.held

  pub request-waits : waits s (local_bi side) ≡ false
  request-waits = unplaced side (waits s) p.waiting

-- ---- where no session was established

module _ (d : DispatchedNow) (s : DriverState) (keeps : Keeps d s) (n : NoneEstablished s) where
  pub none-lives : (k : ℕ) → is_living s k ≡ false
  none-lives k = refuted (is_living s k) (λ e. true≢false (sym e ∙ (sym (keeps.established k (keeps.alive k e)) ∙ n k)))

  pub none-joined : (session k : ℕ) → is_member s session k ≡ false
  none-joined session k = ap (is_in k) (keeps.unjoined session (n session))

-- ---- the streams that the peer opened

-- where those that have a place had it before
pub peers-kept : (side : Side) (s z : DriverState) → ((k : ℕ) → is_arriving z k ≡ true → is_arriving s k ≡ true) → ((k : ℕ) → is_critical z k ≡ true → is_critical s k ≡ true)
    → ((k : ℕ) → is_held z k ≡ true → is_held s k ≡ true) → ((k : ℕ) → waits z k ≡ true → waits s k ≡ true) → ArePeers side s → ArePeers side z
peers-kept side s z a c h w p = record {
  arriving = λ k e. p.arriving k (a k e);
  critical = λ k e. p.critical k (c k e);
  held = λ k e. p.held k (h k e);
  waiting = λ k e. p.waiting k (w k e);
}
