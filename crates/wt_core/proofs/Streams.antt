-- What the records of streams change of what the application has: a stream is given, an opening begins, is through, or fails.
use Rattle.std.proofs.Common.{◌∙◌, ap, refl, sym}
use Rattle.std.proofs.lemmas.Bool.{eq-eqb, eqb-true}
use Rattle.std.specs.List.{list_any}
use Rattle.std.specs.Option.{option_or}
use Rattle.std.specs.Prelude.{[], ◌%◌, ◌&&◌, ◌==◌, ◌||◌, ◌∷◌, ◌≡◌, ◌≢◌, Bool, List, None, Some, false, if◌then◌else◌, not, true, ℕ}
use Rattle.wt_core.proofs.Records.{clash, false-or, same-if, same-named}
use Rattle.wt_core.specs.Held.{Held, HoldsCalls, ending, is_own, opening_in, starting, with_one}
use Rattle.wt_turn.specs.Streams.{local_bi, local_uni, peer_bi, peer_uni}
use Rattle.wt_sessions.specs.Connection.{ends_opening, opened_for, starts_opening}
use Rattle.wt_sessions.specs.Driver.{accepts_stream, gives_up}
use Rattle.wt_turn.specs.Log.{CallRecord, OpeningFailed, OpeningStarted, StreamAccepted, newest}
use Rattle.wt_wire.specs.declared.side.Side.{Side}
use Rattle.wt_wire.specs.declared.side.Side.TheVariants.{Client, Server}

-- ---- kinds

not-kind : (k kind other : ℕ) → kind ≢ other → k % 4 ≡ kind → (k % 4 == other) ≡ false
not-kind k kind other n e = false-or (k % 4 == other) (λ f. n (sym e ∙ eqb-true (k % 4) other f))

-- whether a stream of this kind is this end's
abbrev own-kind : Side → ℕ → Bool
own-kind side kind = kind == local_uni side || kind == local_bi side

of-kind : (side : Side) (k kind : ℕ) → k % 4 ≡ kind → is_own side k ≡ own-kind side kind
of-kind side k kind e = ap (own-kind side) e

pub peers-uni : (side : Side) (k : ℕ) → k % 4 ≡ peer_uni side → is_own side k ≡ false
peers-uni Client k e = of-kind Client k 3 e
peers-uni Server k e = of-kind Server k 2 e

pub peers-bi : (side : Side) (k : ℕ) → k % 4 ≡ peer_bi side → is_own side k ≡ false
peers-bi Client k e = of-kind Client k 1 e
peers-bi Server k e = of-kind Server k 0 e

pub sends-no-uni : (side : Side) (k : ℕ) → k % 4 ≡ peer_uni side → (k % 4 == peer_uni side) ≡ true
sends-no-uni side k e = eq-eqb (k % 4) (peer_uni side) e

pub peers-bi-sends : (side : Side) (k : ℕ) → k % 4 ≡ peer_bi side → (k % 4 == peer_uni side) ≡ false
peers-bi-sends Client k e = ap (λ (n : ℕ). n == 3) e
peers-bi-sends Server k e = ap (λ (n : ℕ). n == 2) e

pub peers-uni-receives : (side : Side) (k : ℕ) → k % 4 ≡ peer_uni side → (k % 4 == local_uni side) ≡ false
peers-uni-receives Client k e = ap (λ (n : ℕ). n == 2) e
peers-uni-receives Server k e = ap (λ (n : ℕ). n == 3) e

pub peers-bi-receives : (side : Side) (k : ℕ) → k % 4 ≡ peer_bi side → (k % 4 == local_uni side) ≡ false
peers-bi-receives Client k e = ap (λ (n : ℕ). n == 2) e
peers-bi-receives Server k e = ap (λ (n : ℕ). n == 3) e

pub own-uni-sends : (side : Side) (k : ℕ) → k % 4 ≡ local_uni side → (k % 4 == peer_uni side) ≡ false
own-uni-sends Client k e = ap (λ (n : ℕ). n == 3) e
own-uni-sends Server k e = ap (λ (n : ℕ). n == 2) e

pub own-bi-sends : (side : Side) (k : ℕ) → k % 4 ≡ local_bi side → (k % 4 == peer_uni side) ≡ false
own-bi-sends Client k e = ap (λ (n : ℕ). n == 3) e
own-bi-sends Server k e = ap (λ (n : ℕ). n == 2) e

pub own-bi-receives : (side : Side) (k : ℕ) → k % 4 ≡ local_bi side → (k % 4 == local_uni side) ≡ false
own-bi-receives Client k e = ap (λ (n : ℕ). n == 2) e
own-bi-receives Server k e = ap (λ (n : ℕ). n == 3) e

-- ---- words

or-false : (b : Bool) → (b || false) ≡ b
or-false true = refl
or-false false = refl

or-true : (b : Bool) → (b || true) ≡ true
or-true true = refl
or-true false = refl

and-false : (b : Bool) → (b && false) ≡ false
and-false true = refl
and-false false = refl

module _ (side : Side) (h : Held) (cs : List CallRecord) (x : HoldsCalls side h cs) where
  -- a stream that wasn't given wasn't given up
  unstopped : (k : ℕ) → list_any (accepts_stream k) cs ≡ false → list_any (gives_up k) cs ≡ false
  unstopped k n = false-or (list_any (gives_up k) cs) (λ e. clash (list_any (accepts_stream k) cs) (x.given k e) n)

  -- a stream of the peer's isn't one that this end opens
  unstarted : (k : ℕ) → is_own side k ≡ false → list_any (starts_opening k) cs ≡ false
  unstarted k e = false-or (list_any (starts_opening k) cs) (λ s. clash (is_own side k) (x.own k s) e)

  -- what is being opened was begun, and not given
  pub started : (k s : ℕ) → opening_in cs k ≡ Some s → list_any (starts_opening k) cs ≡ true
  started k s e = by (list_any (starts_opening k) cs) (list_any (ends_opening k) cs) e
    where
      by : (a b : Bool) → (if a && not b then newest (opened_for k) cs else None) ≡ Some s → a ≡ true
      by true b f = refl
      by false b f = absurd cc

  -- ---- halves with a stream that is given

  send-more : (k : ℕ) → (k % 4 == peer_uni side) ≡ false → (j : ℕ) (b : Bool) → (k == j) ≡ b → (h.sends j || b) ≡ ((b || list_any (accepts_stream j) cs) && not (j % 4 == peer_uni side))
  send-more k e j false f = or-false (h.sends j) ∙ x.sends j
  send-more k e j true f = or-true (h.sends j) ∙ ap not (sym (same-if j k (λ i. (i % 4 == peer_uni side) ≡ false) f e))

  send-same : (k : ℕ) → (k % 4 == peer_uni side) ≡ true → (j : ℕ) (b : Bool) → (k == j) ≡ b → h.sends j ≡ ((b || list_any (accepts_stream j) cs) && not (j % 4 == peer_uni side))
  send-same k e j false f = x.sends j
  send-same k e j true f = let p = same-if j k (λ i. (i % 4 == peer_uni side) ≡ true) f e in x.sends j ∙ rw p (and-false (list_any (accepts_stream j) cs))

  recv-more : (k : ℕ) → (k % 4 == local_uni side) ≡ false → list_any (gives_up k) cs ≡ false → (j : ℕ) (b : Bool) → (k == j) ≡ b
      → (h.recvs j || b) ≡ ((b || list_any (accepts_stream j) cs) && not (j % 4 == local_uni side) && not (list_any (gives_up j) cs))
  recv-more k e g j false f = or-false (h.recvs j) ∙ x.recvs j
  recv-more k e g j true f =
      let p = same-if j k (λ i. (i % 4 == local_uni side) ≡ false) f e in
      let q = same-if j k (λ i. list_any (gives_up i) cs ≡ false) f g in
      rw (p, q) (or-true (h.recvs j))

  recv-same : (k : ℕ) → (k % 4 == local_uni side) ≡ true → (j : ℕ) (b : Bool) → (k == j) ≡ b → h.recvs j ≡ ((b || list_any (accepts_stream j) cs) && not (j % 4 == local_uni side) && not (list_any (gives_up j) cs))
  recv-same k e j false f = x.recvs j
  recv-same k e j true f = let p = same-if j k (λ i. (i % 4 == local_uni side) ≡ true) f e in x.recvs j ∙ rw p (table (list_any (accepts_stream j) cs) (list_any (gives_up j) cs))
    where
      table : (a g : Bool) → (a && false && not g) ≡ (true && false && not g)
      table true g = refl
      table false g = refl

  or-given : (k j : ℕ) (b : Bool) → list_any (accepts_stream j) cs ≡ true → (b || list_any (accepts_stream j) cs) ≡ true
  or-given k j true g = refl
  or-given k j false g = g

  -- ---- a stream of the peer's is given

  -- an opening is as it was where a stream of the peer's ends
  ended-other : (k : ℕ) → is_own side k ≡ false → (j : ℕ) (b : Bool) → (k == j) ≡ b → h.openings j ≡ (if list_any (starts_opening j) cs && not (b || list_any (ends_opening j) cs) then newest (opened_for j) cs else None)
  ended-other k o j false f = x.openings j
  ended-other k o j true f =
      let p = same-if j k (λ i. list_any (starts_opening i) cs ≡ false) f (unstarted k o) in
      x.openings j ∙ rw p refl

  begun-other : (k : ℕ) → is_own side k ≡ false → (j : ℕ) (b : Bool) → (k == j) ≡ b → (b || list_any (ends_opening j) cs) ≡ true → is_own side j ≡ true → list_any (starts_opening j) cs ≡ true
  begun-other k o j false f e l = x.begun j e l
  begun-other k o j true f e l = absurd (clash (is_own side j) l (same-if j k (λ i. is_own side i ≡ false) f o))

  pub uni-step : (k s : ℕ) → k % 4 ≡ peer_uni side → list_any (accepts_stream k) cs ≡ false → HoldsCalls side (record h { recvs = with_one k h.recvs }) (StreamAccepted k s ∷ cs)
  uni-step k s e n = record {
    sends = λ j. send-same k (sends-no-uni side k e) j (k == j) refl;
    recvs = λ j. recv-more k (peers-uni-receives side k e) (unstopped k n) j (k == j) refl;
    openings = λ j. ended-other k (peers-uni side k e) j (k == j) refl;
    sessions = same-named h cs (StreamAccepted k s) x.sessions refl refl;
    stage = x.stage;
    requested = x.requested;
    given = λ j g. or-given k j (k == j) (x.given j g);
    own = x.own;
    begun = λ j g l. begun-other k (peers-uni side k e) j (k == j) refl g l;
  }

  pub bi-step : (k s : ℕ) → k % 4 ≡ peer_bi side → list_any (accepts_stream k) cs ≡ false → HoldsCalls side (record h { sends = with_one k h.sends; recvs = with_one k h.recvs }) (StreamAccepted k s ∷ cs)
  bi-step k s e n = record {
    sends = λ j. send-more k (peers-bi-sends side k e) j (k == j) refl;
    recvs = λ j. recv-more k (peers-bi-receives side k e) (unstopped k n) j (k == j) refl;
    openings = λ j. ended-other k (peers-bi side k e) j (k == j) refl;
    sessions = same-named h cs (StreamAccepted k s) x.sessions refl refl;
    stage = x.stage;
    requested = x.requested;
    given = λ j g. or-given k j (k == j) (x.given j g);
    own = x.own;
    begun = λ j g l. begun-other k (peers-bi side k e) j (k == j) refl g l;
  }

  -- ---- an opening begins

  unended : (k : ℕ) → is_own side k ≡ true → list_any (starts_opening k) cs ≡ false → list_any (ends_opening k) cs ≡ false
  unended k l n = false-or (list_any (ends_opening k) cs) (λ e. clash (list_any (starts_opening k) cs) (x.begun k e l) n)

  start-openings : (k s : ℕ) → is_own side k ≡ true → list_any (starts_opening k) cs ≡ false → (j : ℕ) (b : Bool) → (k == j) ≡ b
      → (if b then Some s else h.openings j) ≡ (if (b || list_any (starts_opening j) cs) && not (list_any (ends_opening j) cs) then option_or (if b then Some s else None) (newest (opened_for j) cs) else None)
  start-openings k s l n j false e = x.openings j
  start-openings k s l n j true e =
      let going = same-if j k (λ i. list_any (ends_opening i) cs ≡ false) e (unended k l n) in
      rw going refl

  pub start-step : (k s : ℕ) → is_own side k ≡ true → list_any (starts_opening k) cs ≡ false → HoldsCalls side (record h { openings = starting k s h.openings }) (OpeningStarted k s ∷ cs)
  start-step k s l n = record {
    sends = x.sends;
    recvs = x.recvs;
    openings = λ j. start-openings k s l n j (k == j) refl;
    sessions = same-named h cs (OpeningStarted k s) x.sessions refl refl;
    stage = x.stage;
    requested = x.requested;
    given = x.given;
    own = λ j e. own-by j (k == j) refl e;
    begun = λ j e o. or-started j (k == j) (x.begun j e o);
  }
    where
      own-by : (j : ℕ) (b : Bool) → (k == j) ≡ b → (b || list_any (starts_opening j) cs) ≡ true → is_own side j ≡ true
      own-by j true f e = same-if j k (λ i. is_own side i ≡ true) f l
      own-by j false f e = x.own j e

      or-started : (j : ℕ) (b : Bool) → list_any (starts_opening j) cs ≡ true → (b || list_any (starts_opening j) cs) ≡ true
      or-started j true e = refl
      or-started j false e = e

  -- ---- an opening ends

  end-openings : (k j : ℕ) (b : Bool) → (k == j) ≡ b → (if b then None else h.openings j) ≡ (if list_any (starts_opening j) cs && not (b || list_any (ends_opening j) cs) then newest (opened_for j) cs else None)
  end-openings k j false e = x.openings j
  end-openings k j true e = if-false (list_any (starts_opening j) cs)
    where
      if-false : (b : Bool) → None ≡ (if b && false then newest (opened_for j) cs else None)
      if-false true = refl
      if-false false = refl

  begun-by : (k s : ℕ) → opening_in cs k ≡ Some s → (j : ℕ) (b : Bool) → (k == j) ≡ b → (b || list_any (ends_opening j) cs) ≡ true → is_own side j ≡ true → list_any (starts_opening j) cs ≡ true
  begun-by k s o j true f e l = same-if j k (λ i. list_any (starts_opening i) cs ≡ true) f (started k s o)
  begun-by k s o j false f e l = x.begun j e l

  -- a stream that is being opened wasn't given
  ungiven : (k s : ℕ) → opening_in cs k ≡ Some s → list_any (accepts_stream k) cs ≡ false
  ungiven k s o = false-or (list_any (accepts_stream k) cs) (λ e. clash (list_any (ends_opening k) cs) (ends-too cs e) (going o))
    where
      going : opening_in cs k ≡ Some s → list_any (ends_opening k) cs ≡ false
      going e = by (list_any (starts_opening k) cs) (list_any (ends_opening k) cs) e
        where
          by : (a b : Bool) → (if a && not b then newest (opened_for k) cs else None) ≡ Some s → b ≡ false
          by true true f = absurd cc
          by true false f = refl
          by false b f = absurd cc

      later : (a : Bool) (b c : Bool) → (b ≡ true → c ≡ true) → (a || b) ≡ true → (a || c) ≡ true
      later true b c f e = refl
      later false b c f e = f e

      skip : (a b c : Bool) → (b ≡ true → c ≡ true) → (false || b) ≡ true → (a || c) ≡ true
      skip true b c f e = refl
      skip false b c f e = f e

      ends-too : (rs : List CallRecord) → list_any (accepts_stream k) rs ≡ true → list_any (ends_opening k) rs ≡ true
      ends-too [] e = absurd cc
      ends-too (StreamAccepted id session ∷ rs) e = later (id == k) (list_any (accepts_stream k) rs) (list_any (ends_opening k) rs) (ends-too rs) e
      ends-too (OpeningFailed id ∷ rs) e = skip (id == k) (list_any (accepts_stream k) rs) (list_any (ends_opening k) rs) (ends-too rs) e
      ends-too (r ∷ rs) e = ends-too rs e

  pub failed-step : (k s : ℕ) → opening_in cs k ≡ Some s → HoldsCalls side (record h { openings = ending k h.openings }) (OpeningFailed k ∷ cs)
  failed-step k s o = record {
    sends = x.sends;
    recvs = x.recvs;
    openings = λ j. end-openings k j (k == j) refl;
    sessions = same-named h cs (OpeningFailed k) x.sessions refl refl;
    stage = x.stage;
    requested = x.requested;
    given = x.given;
    own = x.own;
    begun = λ j e l. begun-by k s o j (k == j) refl e l;
  }

  pub send-step : (k s t : ℕ) → opening_in cs k ≡ Some s → k % 4 ≡ local_uni side → HoldsCalls side (record h { openings = ending k h.openings; sends = with_one k h.sends }) (StreamAccepted k t ∷ cs)
  send-step k s t o e = record {
    sends = λ j. send-more k (own-uni-sends side k e) j (k == j) refl;
    recvs = λ j. recv-same k (eq-eqb (k % 4) (local_uni side) e) j (k == j) refl;
    openings = λ j. end-openings k j (k == j) refl;
    sessions = same-named h cs (StreamAccepted k t) x.sessions refl refl;
    stage = x.stage;
    requested = x.requested;
    given = λ j g. or-given k j (k == j) (x.given j g);
    own = x.own;
    begun = λ j g l. begun-by k s o j (k == j) refl g l;
  }

  pub both-step : (k s t : ℕ) → opening_in cs k ≡ Some s → k % 4 ≡ local_bi side → HoldsCalls side (record h { openings = ending k h.openings; sends = with_one k h.sends; recvs = with_one k h.recvs }) (StreamAccepted k t ∷ cs)
  both-step k s t o e = record {
    sends = λ j. send-more k (own-bi-sends side k e) j (k == j) refl;
    recvs = λ j. recv-more k (own-bi-receives side k e) (unstopped k (ungiven k s o)) j (k == j) refl;
    openings = λ j. end-openings k j (k == j) refl;
    sessions = same-named h cs (StreamAccepted k t) x.sessions refl refl;
    stage = x.stage;
    requested = x.requested;
    given = λ j g. or-given k j (k == j) (x.given j g);
    own = x.own;
    begun = λ j g l. begun-by k s o j (k == j) refl g l;
  }
