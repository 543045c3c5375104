-- After a moment that found no fault everything is at rest: the same checks find nothing more.
use Rattle.std.specs.Prelude.{[], ◌&&◌, ◌*◌, ◌++◌, ◌+◌, ◌<◌, ◌==◌, ◌∷◌, ◌||◌, ◌≡◌, ◌≤◌, Bool, Err, List, None, Ok, Option, Result, Some, drop, false, filter, if◌then◌else◌, is_some, length, map, not, suc, true, zero, ℕ}
use Rattle.std.specs.List.{list_all, list_any}
use Rattle.std.proofs.Common.{◌∙◌, ap, arith, refl, subst, sym}
use Rattle.std.proofs.lemmas.Bool.{eq-eqb, eqb-true}
use Rattle.std.proofs.lemmas.List.{append-nil, length-append}
use Rattle.std.proofs.lemmas.List.Elements.{filter-append}
use Rattle.std.proofs.lemmas.List.Folds.{list_all-append}
use Rattle.wt_meaning.specs.Findings.{Finding, SessionClosed, SettingsRead, control_in, fault_of, first_of, is_datagram, reads_settings, settings_came}
use Rattle.wt_meaning.specs.History.{History, contents, events, stream_count}
use Rattle.wt_meaning.specs.Moments.{Check, ControlFault, DecoderEnd, EncoderEnd, LocalStop, ReadDatagram, ReadSettings, WalkSession, after_checks, checks, closing, control_walk, datagram_checks, datagram_found, found_by, ids_from, is_ready, reading, session_found, stream_checks}
use Rattle.wt_proto.specs.SessionWalk.{is_over, session_walk_of}
use Rattle.wt_meaning.specs.Windows.{is_established, is_gone, is_gone_by_call, lives, makes_gone, session_part}
use Rattle.wt_message.specs.Datagram.{datagram_of}
use Rattle.wt_promise.proofs.Accepted.{and-left, or-true}
use Rattle.wt_promise.proofs.Grows.{adds, asks_peers, checks-add, checks-keep, more, peers-checked}
use Rattle.wt_promise.proofs.MomentActs.{lives-before}
use Rattle.wt_proto.specs.declared.session_walk.SessionWalk.{SessionWalk}
use Rattle.wt_turn.specs.Reports.{datagrams_of, end_of}
use Rattle.wt_turn.specs.Streams.{peer_bi, peer_count, peer_uni}
use Rattle.wt_sessions_agree.proofs.Appends.{any-append}
use Rattle.wt_sessions_agree.proofs.CriticalLaws.{checks-append}
use Rattle.wt_sessions_agree.proofs.OrderlyLaws.{Parts, parts-kept}
use Rattle.wt_sessions_agree.proofs.RestKinds.{Classifies, Closes, Dequeues, Finds, KeptOn, NoFault, Nothing, Reads, Settles, StillTo, fault-behind, fault-first, kind-kept, kind-still, pass-finds, pass-keeps, pass-step, still-finds, under}
use Rattle.wt_sessions_agree.proofs.StreamKinds.{bi-small, uni-small}
use Rattle.wt_sessions_agree.specs.Orderly.{Known, begins_at}
use Rattle.wt_wire.specs.declared.error.ErrorCode.{ErrorCode}
use Rattle.wt_wire.specs.declared.side.Side.{Side}
use Rattle.wt_proto.specs.declared.session_walk.SessionWalk.TheVariants as walks
use Rattle.wt_wire.specs.declared.side.StreamEnd.TheVariants as ends

-- ---- checks that find nothing

pub data Quiet (side : Side) (h : History) (found : List Finding) : List Check → Type 0 where
  Empty : Quiet side h found []
  And : (c : Check) (cs : List Check) → found_by side h found c ≡ [] → Quiet side h found cs → Quiet side h found (c ∷ cs)

quiet-append : (side : Side) (h : History) (found : List Finding) (cs ds : List Check) → Quiet side h found cs → Quiet side h found ds → Quiet side h found (cs ++ ds)
quiet-append side h found _ ds Empty r = r
quiet-append side h found _ ds (And c cs e q) r = And c (cs ++ ds) e (quiet-append side h found cs ds q r)

pub quiet-more : (side : Side) (h : History) (found : List Finding) (cs : List Check) → Quiet side h found cs → more side h cs found ≡ []
quiet-more side h found _ Empty = refl
quiet-more side h found _ (And c cs e q) = by (is_some (fault_of found)) (quiet-more side h found cs q)
  where
    by : (b : Bool) → more side h cs found ≡ [] → (if b then [] else found_by side h found c ++ more side h cs (found ++ found_by side h found c)) ≡ []
    by true again = refl
    by false again = rw (e, append-nil found) again

more-faulty : (side : Side) (h : History) (cs : List Check) (found : List Finding) (code : ErrorCode) → fault_of found ≡ Some code → more side h cs found ≡ []
more-faulty side h [] found code e = refl
more-faulty side h (c ∷ cs) found code e = rw e refl

-- ---- datagrams

-- the first n datagrams were read
abbrev AllRead : Side → History → ℕ → List Finding → Type 0
AllRead side h n found = is_ready side h ≡ true → n ≤ length (filter is_datagram found)

counted : (found new : List Finding) → length (filter is_datagram (found ++ new)) ≡ length (filter is_datagram found) + length (filter is_datagram new)
counted found new = ap length (filter-append is_datagram found new) ∙ length-append (filter is_datagram found) (filter is_datagram new)

read-kept : (side : Side) (h : History) (n : ℕ) → KeptOn side h (AllRead side h n)
read-kept side h n c found new f r = λ e. let a = r e in let b = counted found new in omega (arith, a, b)

read-one : (side : Side) (h : History) (n : ℕ) (piece : List ℕ) (found : List Finding) → NoFault (found ++ reading side h found n piece) → is_ready side h ≡ true
    → n ≤ length (filter is_datagram found)
    → suc n ≤ length (filter is_datagram (found ++ reading side h found n piece))
read-one side h n piece found e ready l = by (length (filter is_datagram found) == n) refl
  where
    parsed : (d : Result (ℕ × List ℕ) ErrorCode) → NoFault (datagram_found h found n d ∷ []) → length (filter is_datagram (datagram_found h found n d ∷ [])) ≡ 1
    parsed (Err code) q = absurd (cc q)
    parsed (Ok d) q = refl

    by : (b : Bool) → (length (filter is_datagram found) == n) ≡ b → suc n ≤ length (filter is_datagram (found ++ reading side h found n piece))
    by true q =
        let r : reading side h found n piece ≡ datagram_found h found n (datagram_of piece) ∷ [] = rw (ready, q) refl in
        let one = parsed (datagram_of piece) (sym (ap fault_of r) ∙ fault-behind found (reading side h found n piece) e) in
        let m = counted found (reading side h found n piece) ∙ ap (λ (xs : List Finding). length (filter is_datagram found) + length (filter is_datagram xs)) r in
        omega (arith, l, m, one)
    by false q = let m = counted found (reading side h found n piece) in let u = past n (length (filter is_datagram found)) l q in omega (arith, u, m)
      where
        past : (a b : ℕ) → a ≤ b → (b == a) ≡ false → a < b
        past a b l q = grind (arith, l, q)

datagrams-read : (side : Side) (h : History) (pieces : List (List ℕ)) (n m : ℕ) (found : List Finding) → m ≡ n + length pieces → NoFault (after_checks side h (datagram_checks n pieces) found)
    → AllRead side h n found
    → AllRead side h m (after_checks side h (datagram_checks n pieces) found)
datagrams-read side h [] n m found q e r = λ ready. let l = r ready in omega (arith, q, l)
datagrams-read side h (piece ∷ pieces) n m found q e r =
    let s = pass-step side h (ReadDatagram n piece) (datagram_checks (suc n) pieces) found e in
    let calm = sym (ap fault_of s) ∙ e in
    subst (AllRead side h m) (sym s) (datagrams-read side h pieces (suc n) m (found ++ reading side h found n piece) (omega (arith, q)) calm
    (λ ready. read-one side h n piece found (fault-first side h (datagram_checks (suc n) pieces) (found ++ reading side h found n piece) calm) ready (r ready)))

datagrams-quiet : (side : Side) (h : History) (found : List Finding) (pieces : List (List ℕ)) (n m : ℕ) → m ≡ n + length pieces → AllRead side h m found → Quiet side h found (datagram_checks n pieces)
datagrams-quiet side h found [] n m q r = Empty
datagrams-quiet side h found (piece ∷ pieces) n m q r =
    And (ReadDatagram n piece) (datagram_checks (suc n) pieces) (by (is_ready side h) refl) (datagrams-quiet side h found pieces (suc n) m (omega (arith, q)) r)
  where
    other : (a b c : ℕ) → b ≡ a + suc c → (d : ℕ) → b ≤ d → (d == a) ≡ false
    other a b c e d l = grind (arith, e, l)

    by : (b : Bool) → is_ready side h ≡ b → reading side h found n piece ≡ []
    by false e = rw e refl
    by true e = let o : (length (filter is_datagram found) == n) ≡ false = other n m (length pieces) q (length (filter is_datagram found)) (r e) in rw (e, o) refl

-- ---- sessions

module _ (side : Side) (h : History) (offset : ℕ → ℕ) where
  -- the walk over a session's part, where it begins there
  abbrev walk : ℕ → SessionWalk
  walk s = session_walk_of (drop (offset s) (contents h s)) (end_of (events h) s)

  -- of the first n possible sessions those that live run on
  abbrev WalkedTo : ℕ → List Finding → Type 0
  WalkedTo n found = (i : ℕ) → i < n → lives h found (4 * i + 0) ≡ true → walk (4 * i + 0) ≡ walks.Running

  walked-kept : (n : ℕ) → KeptOn side h (WalkedTo n)
  walked-kept n c found new f w = λ i l e. w i l (lives-before h found new (4 * i + 0) e)

  -- a session that is closed lives no more
  closed-dies : (found : List Finding) (s code : ℕ) (reason : List ℕ) (b : Bool) → lives h (found ++ SessionClosed s code reason b ∷ []) s ≡ false
  closed-dies found s code reason b =
      ap (λ (x : Bool). is_established h s && not (is_gone_by_call h s || x)) (any-append (makes_gone s) found (SessionClosed s code reason b) ∙ ap (λ (x : Bool). by-found || x) (eq-eqb s s refl))
      ∙ by (is_established h s) (is_gone_by_call h s) by-found
    where
      by-found : Bool
      by-found = list_any (makes_gone s) found

      by : (x y z : Bool) → (x && not (y || (z || true))) ≡ false
      by false y z = refl
      by true true z = refl
      by true false true = refl
      by true false false = refl

  part-is : (found : List Finding) (s : ℕ) → Parts side h offset found → lives h found s ≡ true → session_part h found s ≡ drop (offset s) (contents h s)
  part-is found s p l = ap (λ (n : ℕ). drop n (contents h s)) (p.begin s (and-left (is_established h s) (not (is_gone h found s)) l))

  walk-one : (found : List Finding) (s : ℕ) → Parts side h offset found → NoFault (found ++ closing h found s) → lives h (found ++ closing h found s) s ≡ true → walk s ≡ walks.Running
  walk-one found s p e l = by (walk s) refl (fault-behind found (closing h found s) e)
    where
      before : lives h found s ≡ true
      before = lives-before h found (closing h found s) s l

      capsule : Bool
      capsule = is_over (session_walk_of (drop (offset s) (contents h s)) ends.Running)

      finds : closing h found s ≡ session_found s capsule (walk s)
      finds = rw (before, part-is found s p before) refl

      by : (w : SessionWalk) → walk s ≡ w → NoFault (closing h found s) → w ≡ walks.Running
      by walks.Running q n = refl
      by (walks.Closed code reason) q n =
          let c : closing h found s ≡ SessionClosed s code reason capsule ∷ [] = finds ∙ ap (session_found s capsule) q in
          absurd (let d = sym (ap (λ (xs : List Finding). lives h (found ++ xs) s) c ∙ closed-dies found s code reason capsule) ∙ l in cc d)
      by (walks.Fault code) q n = absurd (let c = sym (ap (λ (w : SessionWalk). fault_of (session_found s capsule w)) q) ∙ sym (ap fault_of finds) ∙ n in cc c)

  sessions-walked : (count i n : ℕ) (found : List Finding) → n ≡ i + count → NoFault (after_checks side h (map WalkSession (ids_from 0 i count)) found) → Parts side h offset found → WalkedTo i found
      → WalkedTo n (after_checks side h (map WalkSession (ids_from 0 i count)) found)
  sessions-walked zero i n found q e p w = λ j l. w j (omega (arith, q, l))
  sessions-walked (suc count) i n found q e p w =
      let s = pass-step side h (WalkSession (4 * i + 0)) (map WalkSession (ids_from 0 (suc i) count)) found e in
      let calm = sym (ap fault_of s) ∙ e in
      subst (WalkedTo n) (sym s) (sessions-walked count (suc i) n (found ++ closing h found (4 * i + 0)) (omega (arith, q)) calm
      (parts-kept side h offset found (closing h found (4 * i + 0)) (adds side h found (WalkSession (4 * i + 0)) refl)
      (fault-first side h (WalkSession (4 * i + 0) ∷ map WalkSession (ids_from 0 (suc i) count)) found e) p)
      (all calm))
    where
      all : NoFault (after_checks side h (map WalkSession (ids_from 0 (suc i) count)) (found ++ closing h found (4 * i + 0))) → WalkedTo (suc i) (found ++ closing h found (4 * i + 0))
      all calm j l = by (j == i) refl
        where
          by : (b : Bool) → (j == i) ≡ b → lives h (found ++ closing h found (4 * i + 0)) (4 * j + 0) ≡ true → walk (4 * j + 0) ≡ walks.Running
          by true x m =
              let same : j ≡ i = eqb-true j i x in
              ap (λ (n : ℕ). walk (4 * n + 0)) same
              ∙ walk-one found (4 * i + 0) p (fault-first side h (map WalkSession (ids_from 0 (suc i) count)) (found ++ closing h found (4 * i + 0)) calm)
              (sym (ap (λ (n : ℕ). lives h (found ++ closing h found (4 * i + 0)) (4 * n + 0)) same) ∙ m)
          by false x m = w j (under j i l x) (lives-before h found (closing h found (4 * i + 0)) (4 * j + 0) m)

-- a living session that runs on is passed
walk-quiet : (h : History) (found : List Finding) (s : ℕ) → (lives h found s ≡ true → session_walk_of (session_part h found s) (end_of (events h) s) ≡ walks.Running) → closing h found s ≡ []
walk-quiet h found s r = by (lives h found s) refl
  where
    by : (b : Bool) → lives h found s ≡ b → closing h found s ≡ []
    by false e = rw e refl
    by true e = rw (e, r e) refl

-- ---- critical streams

-- the checks of critical streams
abbrev pub critical : List Check
critical = LocalStop ∷ ReadSettings ∷ ControlFault ∷ EncoderEnd ∷ DecoderEnd ∷ []

-- the check finds a fault or nothing
abbrev is-fault : Check → Bool
is-fault LocalStop = true
is-fault ControlFault = true
is-fault EncoderEnd = true
is-fault DecoderEnd = true
is-fault _ = false

nothing : (side : Side) (h : History) (found : List Finding) (c : Check) (new : List Finding) → is-fault c ≡ true → Finds side h found c new → new ≡ []
nothing side h found c _ e (Nothing _) = refl
nothing side h found _ _ e (Dequeues k q) = absurd (cc e)
nothing side h found _ _ e (Classifies k v b n) = absurd (cc e)
nothing side h found _ _ e (Reads n s piece payload b q) = absurd (cc e)
nothing side h found _ _ e (Closes s code reason b) = absurd (cc e)
nothing side h found _ _ e Settles = absurd (cc e)

-- so it is passed
passed : (side : Side) (h : History) (c : Check) (cs : List Check) (found : List Finding) → is-fault c ≡ true → NoFault (after_checks side h (c ∷ cs) found)
    → (found_by side h found c ≡ []) × (after_checks side h (c ∷ cs) found ≡ after_checks side h cs found)
passed side h c cs found f e =
    let n = nothing side h found c (found_by side h found c) f (pass-finds side h c cs found e) in
    (n, pass-step side h c cs found e ∙ ap (after_checks side h cs) (ap (λ (xs : List Finding). found ++ xs) n ∙ append-nil found))

-- the peer's SETTINGS are read once
settings-once : (side : Side) (h : History) (found : List Finding) → found_by side h (found ++ found_by side h found ReadSettings) ReadSettings ≡ []
settings-once side h found = by (not (settings_came found) && is_some (control_walk h (first_of control_in found)).settings) refl
  where
    again : List Finding → List Finding
    again l = found_by side h l ReadSettings

    by : (b : Bool) → (not (settings_came found) && is_some (control_walk h (first_of control_in found)).settings) ≡ b → again (found ++ found_by side h found ReadSettings) ≡ []
    by true e =
        let q : found_by side h found ReadSettings ≡ SettingsRead ∷ [] = rw e refl in
        let c : settings_came (found ++ SettingsRead ∷ []) ≡ true = any-append reads_settings found SettingsRead ∙ or-true (settings_came found) in
        let r : again (found ++ SettingsRead ∷ []) ≡ [] = rw c refl in
        ap (λ (xs : List Finding). again (found ++ xs)) q ∙ r
    by false e =
        let q : found_by side h found ReadSettings ≡ [] = rw e refl in
        ap (λ (xs : List Finding). again (found ++ xs)) q ∙ ap again (append-nil found) ∙ q

critical-quiet : (side : Side) (h : History) (found : List Finding) → NoFault (after_checks side h critical found) → Quiet side h (after_checks side h critical found) critical
critical-quiet side h found e =
    subst (λ (l : List Finding). Quiet side h l critical) (sym (a.1 ∙ b ∙ c.1 ∙ d.1 ∙ f.1))
    (And LocalStop _ a.0 (And ReadSettings _ (settings-once side h found) (And ControlFault _ c.0 (And EncoderEnd _ d.0 (And DecoderEnd _ f.0 Empty)))))
  where
    read : List Finding
    read = found ++ found_by side h found ReadSettings

    a : (found_by side h found LocalStop ≡ []) × (after_checks side h critical found ≡ after_checks side h (ReadSettings ∷ ControlFault ∷ EncoderEnd ∷ DecoderEnd ∷ []) found)
    a = passed side h LocalStop (ReadSettings ∷ ControlFault ∷ EncoderEnd ∷ DecoderEnd ∷ []) found refl e

    b : after_checks side h (ReadSettings ∷ ControlFault ∷ EncoderEnd ∷ DecoderEnd ∷ []) found ≡ after_checks side h (ControlFault ∷ EncoderEnd ∷ DecoderEnd ∷ []) read
    b = pass-step side h ReadSettings (ControlFault ∷ EncoderEnd ∷ DecoderEnd ∷ []) found (sym (ap fault_of a.1) ∙ e)

    c : (found_by side h read ControlFault ≡ []) × (after_checks side h (ControlFault ∷ EncoderEnd ∷ DecoderEnd ∷ []) read ≡ after_checks side h (EncoderEnd ∷ DecoderEnd ∷ []) read)
    c = passed side h ControlFault (EncoderEnd ∷ DecoderEnd ∷ []) read refl (sym (ap fault_of (a.1 ∙ b)) ∙ e)

    d : (found_by side h read EncoderEnd ≡ []) × (after_checks side h (EncoderEnd ∷ DecoderEnd ∷ []) read ≡ after_checks side h (DecoderEnd ∷ []) read)
    d = passed side h EncoderEnd (DecoderEnd ∷ []) read refl (sym (ap fault_of (a.1 ∙ b ∙ c.1)) ∙ e)

    f : (found_by side h read DecoderEnd ≡ []) × (after_checks side h (DecoderEnd ∷ []) read ≡ after_checks side h [] read)
    f = passed side h DecoderEnd [] read refl (sym (ap fault_of (a.1 ∙ b ∙ c.1 ∙ d.1)) ∙ e)

-- ---- all together

-- nothing more is found: of streams, datagrams, sessions and critical streams
pub record AtRest (side : Side) (h : History) (found : List Finding) : Type 0 where
  pub unis : StillTo side h (peer_uni side) (peer_count side (events h) (peer_uni side)) found
  pub bis : StillTo side h (peer_bi side) (peer_count side (events h) (peer_bi side)) found
  pub datagrams : AllRead side h (length (datagrams_of (events h))) found
  pub sessions : (i : ℕ) → i < stream_count side h 0 → lives h found (4 * i + 0) ≡ true → session_walk_of (session_part h found (4 * i + 0)) (end_of (events h) (4 * i + 0)) ≡ walks.Running
  pub critical : Quiet side h found critical

streams-quiet : (side : Side) (h : History) (kind : ℕ) → kind < 4 → (found : List Finding) (n count i : ℕ) → n ≡ i + count → StillTo side h kind n found
    → Quiet side h found (stream_checks (ids_from kind i count))
streams-quiet side h kind small found n zero i q s = Empty
streams-quiet side h kind small found n (suc count) i q s =
    let f = still-finds side h kind small found i (s i (omega (arith, q))) in
    And _ _ f.0 (And _ _ f.1 (streams-quiet side h kind small found n count (suc i) (omega (arith, q)) s))

walks-quiet : (side : Side) (h : History) (found : List Finding) (n count i : ℕ) → n ≡ i + count
    → ((i : ℕ) → i < n → lives h found (4 * i + 0) ≡ true → session_walk_of (session_part h found (4 * i + 0)) (end_of (events h) (4 * i + 0)) ≡ walks.Running)
    → Quiet side h found (map WalkSession (ids_from 0 i count))
walks-quiet side h found n zero i q w = Empty
walks-quiet side h found n (suc count) i q w = And _ _ (walk-quiet h found (4 * i + 0) (w i (omega (arith, q)))) (walks-quiet side h found n count (suc i) (omega (arith, q)) w)

-- the five parts of a moment
abbrev unis-of : Side → History → List Check
unis-of side h = stream_checks (ids_from (peer_uni side) 0 (peer_count side (events h) (peer_uni side)))

abbrev bis-of : Side → History → List Check
bis-of side h = stream_checks (ids_from (peer_bi side) 0 (peer_count side (events h) (peer_bi side)))

abbrev reads-of : History → List Check
reads-of h = datagram_checks 0 (datagrams_of (events h))

abbrev walks-of : Side → History → List Check
walks-of side h = map WalkSession (ids_from 0 0 (stream_count side h 0))

nought : (n : ℕ) → n ≡ 0 + n
nought n = omega arith

-- at rest, each check finds nothing
pub rest-quiet : (side : Side) (h : History) (found : List Finding) → AtRest side h found → Quiet side h found (checks side h)
rest-quiet side h found r =
    quiet-append side h found (((unis-of side h ++ bis-of side h) ++ reads-of h) ++ walks-of side h) critical
    (quiet-append side h found ((unis-of side h ++ bis-of side h) ++ reads-of h) (walks-of side h)
    (quiet-append side h found (unis-of side h ++ bis-of side h) (reads-of h)
    (quiet-append side h found (unis-of side h) (bis-of side h)
    (streams-quiet side h (peer_uni side) (uni-small side) found _ (peer_count side (events h) (peer_uni side)) 0 (nought _) r.unis)
    (streams-quiet side h (peer_bi side) (bi-small side) found _ (peer_count side (events h) (peer_bi side)) 0 (nought _) r.bis))
    (datagrams-quiet side h found (datagrams_of (events h)) 0 _ (nought _) r.datagrams))
    (walks-quiet side h found _ (stream_count side h 0) 0 (nought _) r.sessions))
    r.critical

-- after a moment without a fault all is at rest
pub comes-to-rest : (side : Side) (h : History) (found : List Finding) → Known side h found → NoFault (after_checks side h (checks side h) found)
    → AtRest side h (after_checks side h (checks side h) found)
comes-to-rest side h found known e = record {
  unis =
      subst (StillTo side h (peer_uni side) (peer_count side (events h) (peer_uni side))) (sym split)
      (late (StillTo side h (peer_uni side) (peer_count side (events h) (peer_uni side))) (kind-kept side h (peer_uni side) (uni-small side) _)
      (pass-keeps side h _ (kind-kept side h (peer_uni side) (uni-small side) _) (reads-of h) two calm-three
      (pass-keeps side h _ (kind-kept side h (peer_uni side) (uni-small side) _) (bis-of side h) one calm-two
      (kind-still side h (peer_uni side) (uni-small side) (peer_count side (events h) (peer_uni side)) 0 _ found (nought _) calm-one (λ i l. absurd (omega (arith, l)))))));
  bis =
      subst (StillTo side h (peer_bi side) (peer_count side (events h) (peer_bi side))) (sym split)
      (late (StillTo side h (peer_bi side) (peer_count side (events h) (peer_bi side))) (kind-kept side h (peer_bi side) (bi-small side) _)
      (pass-keeps side h _ (kind-kept side h (peer_bi side) (bi-small side) _) (reads-of h) two calm-three
      (kind-still side h (peer_bi side) (bi-small side) (peer_count side (events h) (peer_bi side)) 0 _ one (nought _) calm-two (λ i l. absurd (omega (arith, l))))));
  datagrams = subst (AllRead side h (length (datagrams_of (events h)))) (sym split) (late (AllRead side h (length (datagrams_of (events h)))) (read-kept side h _)
      (datagrams-read side h (datagrams_of (events h)) 0 _ two (nought _) calm-three (λ ready. omega arith)));
  sessions =
      λ i l lives-on. ap (λ (bytes : List ℕ). session_walk_of bytes (end_of (events h) (4 * i + 0))) (part-is side h offset (after_checks side h (checks side h) found) (4 * i + 0) parts lives-on)
      ∙ subst (WalkedTo side h offset (stream_count side h 0)) (sym split) (pass-keeps side h _ (walked-kept side h offset _) critical four calm-five
      (sessions-walked side h offset (stream_count side h 0) 0 _ three (nought _) calm-four three-parts (λ j m. absurd (omega (arith, m))))) i l lives-on;
  critical = subst (λ (l : List Finding). Quiet side h l critical) (sym split) (critical-quiet side h four calm-five);
}
  where
    one : List Finding
    one = after_checks side h (unis-of side h) found

    two : List Finding
    two = after_checks side h (bis-of side h) one

    three : List Finding
    three = after_checks side h (reads-of h) two

    four : List Finding
    four = after_checks side h (walks-of side h) three

    first-three : after_checks side h ((unis-of side h ++ bis-of side h) ++ reads-of h) found ≡ three
    first-three = checks-append side h (unis-of side h ++ bis-of side h) (reads-of h) found ∙ ap (after_checks side h (reads-of h)) (checks-append side h (unis-of side h) (bis-of side h) found)

    split : after_checks side h (checks side h) found ≡ after_checks side h critical four
    split =
        checks-append side h (((unis-of side h ++ bis-of side h) ++ reads-of h) ++ walks-of side h) critical found
        ∙ ap (after_checks side h critical) (checks-append side h ((unis-of side h ++ bis-of side h) ++ reads-of h) (walks-of side h) found ∙ ap (after_checks side h (walks-of side h)) first-three)

    calm-five : NoFault (after_checks side h critical four)
    calm-five = sym (ap fault_of split) ∙ e

    calm-four : NoFault four
    calm-four = fault-first side h critical four calm-five

    calm-three : NoFault three
    calm-three = fault-first side h (walks-of side h) three calm-four

    calm-two : NoFault two
    calm-two = fault-first side h (reads-of h) two calm-three

    calm-one : NoFault one
    calm-one = fault-first side h (bis-of side h) one calm-two

    late : (Good : List Finding → Type 0) → KeptOn side h Good → Good three → Good (after_checks side h critical four)
    late Good kept g = pass-keeps side h Good kept critical four calm-five (pass-keeps side h Good kept (walks-of side h) three calm-four g)

    -- each session's part begins where it began before the moment
    offset : ℕ → ℕ
    offset s = begins_at h found s

    first-parts : Parts side h offset found
    first-parts = record { begin = λ k q. refl; known = known }

    asked : list_all (asks_peers side) (((unis-of side h ++ bis-of side h) ++ reads-of h) ++ walks-of side h) ≡ true
    asked =
        and-left _ (list_all (asks_peers side) critical) (sym (list_all-append (asks_peers side) (((unis-of side h ++ bis-of side h) ++ reads-of h) ++ walks-of side h) critical)
        ∙ peers-checked side h)

    asked-three : list_all (asks_peers side) ((unis-of side h ++ bis-of side h) ++ reads-of h) ≡ true
    asked-three = and-left _ (list_all (asks_peers side) (walks-of side h)) (sym (list_all-append (asks_peers side) ((unis-of side h ++ bis-of side h) ++ reads-of h) (walks-of side h)) ∙ asked)

    three-parts : Parts side h offset three
    three-parts =
        subst (Parts side h offset) first-three (checks-keep side h (Parts side h offset) (parts-kept side h offset) ((unis-of side h ++ bis-of side h) ++ reads-of h) found asked-three first-parts)

    parts : Parts side h offset (after_checks side h (checks side h) found)
    parts = checks-keep side h (Parts side h offset) (parts-kept side h offset) (checks side h) found (peers-checked side h) first-parts

-- ---- a second pass

-- adds nothing, whatever the first found
pub second-finds : (side : Side) (h : History) (found : List Finding) → Known side h found → more side h (checks side h) (after_checks side h (checks side h) found) ≡ []
second-finds side h found known = by (fault_of (after_checks side h (checks side h) found)) refl
  where
    by : (o : Option ErrorCode) → fault_of (after_checks side h (checks side h) found) ≡ o → more side h (checks side h) (after_checks side h (checks side h) found) ≡ []
    by None e = quiet-more side h (after_checks side h (checks side h) found) (checks side h) (rest-quiet side h (after_checks side h (checks side h) found) (comes-to-rest side h found known e))
    by (Some code) e = more-faulty side h (checks side h) (after_checks side h (checks side h) found) code e

pub at-rest : (side : Side) (h : History) (found : List Finding) → Known side h found
    → after_checks side h (checks side h) (after_checks side h (checks side h) found) ≡ after_checks side h (checks side h) found
at-rest side h found known =
    checks-add side h (checks side h) (after_checks side h (checks side h) found)
    ∙ ap (λ (xs : List Finding). after_checks side h (checks side h) found ++ xs) (second-finds side h found known) ∙ append-nil (after_checks side h (checks side h) found)
