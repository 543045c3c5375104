-- A reader of a session's stream over pieces: how code takes many bytes at once, and how few of them it keeps.
use Rattle.std.proofs.Common.{◌≡◌, ℕ, zero, suc, ◌+◌, ◌-◌, ◌<◌, ◌≤◌, true, false, List, [], ◌∷◌, ◌++◌, length, take, drop, Option, Some, None, IfSome, refl, sym, ap, ◌∙◌, arith, subst, inl, inr, fold}
use Rattle.std.specs.Prelude.{◌==◌, cond}
use Rattle.std.specs.List.{concat}
use Rattle.std.proofs.lemmas.List.{length-append, length-drop, length-take}
use Rattle.std.proofs.lemmas.Bool.{cases_lt}
use Rattle.std.proofs.lemmas.Bool.Decides.{nat_tests}
use Rattle.std.proofs.Math.Seq.{take-add}
use Rattle.wt_proto.specs.SessionWalk.{SessionProgress, capsule_decides, is_over, session_walk_of}
use Rattle.wt_proto.specs.declared.session_walk.SessionWalk.{SessionWalk}
use Rattle.wt_proto.specs.declared.walk.Step.{Step}
use Rattle.wt_proto.specs.declared.walk.Step.TheVariants.{Cut}
use Rattle.wt_proto.specs.Steady.{IsAwaited, IsSteady}
use Rattle.wt_proto.specs.WalkProgress.{Advances, IsProper, WalkProgress, progress_after, progress_over, reached_at, reached_in}
use Rattle.wt_proto.proofs.ProgressLaws.{fed-fed, fed-nothing, inside-open, kept-open, progress-cut}
use Rattle.wt_wire.specs.declared.side.StreamEnd.{StreamEnd}
use Rattle.wt_wire.specs.declared.side.StreamEnd.TheVariants.{Running}
use Rattle.wt_proto.specs.declared.session_walk.SessionWalk.TheVariants as walks
use Rattle.wt_proto.specs.SessionReader.{HasReadSession, HeaderWalk, Waiting, Payload, Faulty, IsSettled, SessionAdvances, SessionReader, asked_for, byte_fed, byte_step, capsule_wants, first_stop, frame_stop, header_decides, header_wants, is_faulty, past_frames, session_ended, session_fed, session_reader, session_said, session_wants, stop_in, with_frames, with_payload}
use Rattle.wt_proto.proofs.SessionItems.{capsule-awaited, capsule-few, capsule-steady, header-awaited, header-few, header-steady}
use Rattle.wt_proto.proofs.SessionReaderLaws.{Follows, byte-follows, first-none, lifted, progress-proper, session_reader_says, start-follows}

-- ---- pieces

-- reading one piece after another is reading both
pub fed_joined : (xs ys : List ℕ) (r : SessionReader) → session_fed (session_fed r xs) ys ≡ session_fed r (xs ++ ys)
unfolding session_fed
fed_joined [] ys r = refl
fed_joined (x ∷ xs) ys r = fed_joined xs ys (byte_fed r (stop_in r) x)

-- and so is reading many pieces
pub fed_pieces : (pieces : List (List ℕ)) (r : SessionReader) → fold session_fed r pieces ≡ session_fed r (concat pieces)
unfolding session_fed
fed_pieces [] r = refl
fed_pieces (piece ∷ pieces) r = fed_pieces pieces (session_fed r piece) ∙ fed_joined piece (concat pieces) r

-- so it stands alike however the same bytes are cut
pub fed_alike : (r : SessionReader) (pieces others : List (List ℕ)) → concat pieces ≡ concat others → fold session_fed r pieces ≡ fold session_fed r others
fed_alike r pieces others e = fed_pieces pieces r ∙ (ap (λ (xs : List ℕ). session_fed r xs) e ∙ sym (fed_pieces others r))

-- the end changes nothing of what bytes lead to
frames-ended : (end : StreamEnd) (r : SessionReader) (h : WalkProgress (Unit {0}) HeaderWalk) (o : Option HeaderWalk) → past_frames (session_ended end r) h o ≡ session_ended end (past_frames r h o)
frames-ended end r h None = refl
frames-ended end r h (Some (Payload size)) = refl
frames-ended end r h (Some Waiting) = refl
frames-ended end r h (Some (Faulty code)) = refl

step-ended : (end : StreamEnd) (r : SessionReader) (left : ℕ) (b : ℕ) → byte_step (session_ended end r) left b ≡ session_ended end (byte_step r left b)
step-ended end r zero b = frames-ended end r (progress_after header_decides r.headers (b ∷ [])) (reached_in (progress_after header_decides r.headers (b ∷ []))).stop
step-ended end r (suc left) b = refl

byte-ended : (end : StreamEnd) (r : SessionReader) (o : Option SessionWalk) (b : ℕ) → byte_fed (session_ended end r) o b ≡ session_ended end (byte_fed r o b)
byte-ended end r (Some w) b = refl
byte-ended end r None b = step-ended end r r.data_left b

pub fed_ended : (xs : List ℕ) (end : StreamEnd) (r : SessionReader) → session_fed (session_ended end r) xs ≡ session_ended end (session_fed r xs)
unfolding session_fed
fed_ended [] end r = refl
fed_ended (x ∷ xs) end r =
    ap (λ (y : SessionReader). session_fed y xs) (byte-ended end r (stop_in r) x) ∙ fed_ended xs end (byte_fed r (stop_in r) x)

-- a reader that has read bytes and is fed more has read both
pub fed_has_read : (r : SessionReader) (bytes more : List ℕ) (end : StreamEnd) → HasReadSession r bytes end → HasReadSession (session_fed r more) (bytes ++ more) end
fed_has_read r bytes more end has =
    ap (λ (x : SessionReader). session_fed x more) has
    ∙ (fed_ended more end (session_fed session_reader bytes) ∙ ap (λ (x : SessionReader). session_ended end x) (fed_joined bytes more session_reader))

-- one that learns the end
pub end_has_read : (r : SessionReader) (bytes : List ℕ) (before end : StreamEnd) → HasReadSession r bytes before → HasReadSession (session_ended end r) bytes end
end_has_read r bytes before end has = ap (λ (x : SessionReader). session_ended end x) has

-- ---- what it keeps

-- it is as far as some walk
some-walk : (r : SessionReader) → IsSettled r → (p : WalkProgress SessionProgress SessionWalk) × Follows r p
some-walk r is = by (stop_in r) refl
  where
    by : (o : Option SessionWalk) → stop_in r ≡ o → (p : WalkProgress SessionProgress SessionWalk) × Follows r p
    by None e = (lifted r, record { settled = is; stands = rw e refl })
    by (Some o) e =
        let s : SessionProgress = record { data_left = 0; capsules = r.capsules } in
        (record { state = s; stop = Some o; skip = 0; kept = [] }, record { settled = is; stands = rw e (s, refl) })

-- it stays settled
pub fed_settled : (xs : List ℕ) (r : SessionReader) → IsSettled r → IsSettled (session_fed r xs)
unfolding session_fed
fed_settled [] r is = is
fed_settled (x ∷ xs) r is = let walk = some-walk r is in fed_settled xs (byte_fed r (stop_in r) x) ((byte-follows r walk.0 x walk.1).settled)

ended-settled : (r : SessionReader) (end : StreamEnd) → IsSettled r → IsSettled (session_ended end r)
ended-settled r end is = record { headers = is.headers; capsules = is.capsules; inside = is.inside; faulty = is.faulty; final = is.final }

pub read_settled : (r : SessionReader) (bytes : List ℕ) (end : StreamEnd) → HasReadSession r bytes end → IsSettled r
read_settled r bytes end has = subst (λ (x : SessionReader). IsSettled x) (sym has) (ended-settled (session_fed session_reader bytes) end (fed_settled bytes session_reader start-follows.settled))

-- it keeps at most 15 bytes of a frame's header, and 1,043 of a capsule: two integers of 8 bytes, a code of 4 and a reason of 1,024, but for the last
pub settled_few : (r : SessionReader) → IsSettled r → (length r.headers.kept ≤ 15) × (length r.capsules.kept ≤ 1043)
settled_few r is = (
  omega (arith, header-awaited.onward r.headers.state r.headers.kept is.headers.waits, header-few r.headers.kept),
  omega (arith, capsule-awaited.onward r.capsules.state r.capsules.kept is.capsules.waits, capsule-few r.capsules.kept),
)

pub read_few : (r : SessionReader) (bytes : List ℕ) (end : StreamEnd) → HasReadSession r bytes end → length r.headers.kept + length r.capsules.kept ≤ 1058
read_few r bytes end has = let few = settled_few r (read_settled r bytes end has) in omega (arith, few.0, few.1)

-- what stopped it is final
header-over : (h : Option HeaderWalk) (o : SessionWalk) → frame_stop h ≡ Some o → is_over o ≡ true
header-over None o e = absurd cc
header-over (Some Waiting) o e = absurd cc
header-over (Some (Payload size)) o e = absurd cc
header-over (Some (Faulty code)) o e = ap is_over (sym (let f : walks.Fault code ≡ o = cc in f))

reached-stop : (stop : Option SessionWalk) (skip : ℕ) (kept : List ℕ) (o : SessionWalk) → (reached_at {S = Unit {0}} tt stop skip kept).stop ≡ Some o → IfSome stop (λ w. is_over w ≡ true) → is_over o ≡ true
reached-stop stop (suc skip) kept o e final = absurd cc
reached-stop stop zero (b ∷ kept) o e final = absurd cc
reached-stop None zero [] o e final = absurd cc
reached-stop (Some w) zero [] o e final = let same : w ≡ o = cc in ap is_over (sym same) ∙ final

pub stop_over : (r : SessionReader) (o : SessionWalk) → IsSettled r → stop_in r ≡ Some o → is_over o ≡ true
stop_over r o is e = by (reached_in r.capsules).stop refl e
  where
    by : (c : Option SessionWalk) → (reached_in r.capsules).stop ≡ c → first_stop c (reached_in r.headers).stop ≡ Some o → is_over o ≡ true
    by None f g = header-over (reached_in r.headers).stop o g
    by (Some w) f g = let same : (reached_in r.capsules).stop ≡ Some o = f ∙ g in reached-stop r.capsules.stop r.capsules.skip r.capsules.kept o same is.final

-- ---- what code takes at once

-- nothing is taken
pub advances_none : (r : SessionReader) (piece : List ℕ) → SessionAdvances r r piece 0
unfolding session_fed
advances_none r piece = record { within = omega arith; fed = refl; running = λ k lt. absurd (omega (arith, lt)) }

-- some bytes, and then some more
module _ (old mid new : SessionReader) (piece : List ℕ) (m n : ℕ) (first : SessionAdvances old mid piece m) (later : SessionAdvances mid new (drop m piece) n) where
  further : (k : ℕ) → session_fed mid (take k (drop m piece)) ≡ session_fed old (take (m + k) piece)
  further k =
      ap (λ (r : SessionReader). session_fed r (take k (drop m piece))) first.fed
      ∙ (fed_joined (take m piece) (take k (drop m piece)) old ∙ ap (λ (xs : List ℕ). session_fed old xs) (sym (take-add m k piece)))

  still-running : (k : ℕ) → k < m + n → stop_in (session_fed old (take k piece)) ≡ None
  still-running k lt =
      elim (cases_lt k m) [
        | inl before ↦ first.running k before
        | inr after ↦
            let same : m + (k - m) ≡ k = omega (arith, after) in
            ap (λ (r : SessionReader). stop_in r) (sym (further (k - m) ∙ ap (λ (j : ℕ). session_fed old (take j piece)) same)) ∙ later.running (k - m) (omega (arith, lt, after))
      ]

  pub advances_then : SessionAdvances old new piece (m + n)
  advances_then = record { within = omega (arith, first.within, later.within, length-drop m piece); fed = later.fed ∙ further n; running = still-running }

-- one byte first, then the others
prefix-later : {S O : Type 0} (decide : S → List ℕ → Step S O) → IsSteady decide → (p : WalkProgress S O) (x : ℕ) (xs : List ℕ)
    → ((k : ℕ) → k < suc (length xs) → (reached_in (progress_after decide p (take k (x ∷ xs)))).stop ≡ None)
    → (k : ℕ) → k < length xs → (reached_in (progress_after decide (progress_after decide p (x ∷ [])) (take k xs))).stop ≡ None
prefix-later {S = S} {O = O} decide steady p x xs runs k lt =
    ap (λ (q : WalkProgress S O). (reached_in q).stop) (fed-fed decide steady p (x ∷ []) (take k xs)) ∙ runs (suc k) (omega (arith, lt))

-- bytes of a payload
payload-fed : (xs : List ℕ) (r : SessionReader) → length xs ≤ r.data_left → IsProper capsule_decides r.capsules → frame_stop (reached_in r.headers).stop ≡ None
    → ((k : ℕ) → k < length xs → (reached_in (progress_after capsule_decides r.capsules (take k xs))).stop ≡ None)
    → session_fed r xs ≡ with_payload r (r.data_left - length xs) (progress_after capsule_decides r.capsules xs)
unfolding session_fed
payload-fed [] r le is idle runs =
    let none : r.data_left - 0 ≡ r.data_left = omega arith in
    let same : progress_after capsule_decides r.capsules [] ≡ r.capsules = fed-nothing capsule_decides capsule-steady r.capsules is in
    sym (ap (λ (n : ℕ). with_payload r n (progress_after capsule_decides r.capsules [])) none ∙ ap (λ (c : WalkProgress (Unit {0}) SessionWalk). with_payload r r.data_left c) same)
payload-fed (x ∷ xs) r le is idle runs =
    let nothing : progress_after capsule_decides r.capsules [] ≡ r.capsules = fed-nothing capsule_decides capsule-steady r.capsules is in
    let first : (reached_in r.capsules).stop ≡ None = ap (λ (p : WalkProgress (Unit {0}) SessionWalk). (reached_in p).stop) (sym nothing) ∙ runs 0 (omega arith) in
    let goes : stop_in r ≡ None = ap (λ (o : Option SessionWalk). first_stop o (reached_in r.headers).stop) first ∙ idle in
    let e : r.data_left ≡ suc (r.data_left - 1) = omega (arith, le) in
    let c : WalkProgress (Unit {0}) SessionWalk = progress_after capsule_decides r.capsules (x ∷ []) in
    let one : byte_fed r (stop_in r) x ≡ with_payload r (r.data_left - 1) c = ap (λ (o : Option SessionWalk). byte_fed r o x) goes ∙ ap (λ (n : ℕ). byte_step r n x) e in
    let same : r.data_left - 1 - length xs ≡ r.data_left - suc (length xs) = omega arith in
    ap (λ (q : SessionReader). session_fed q xs) one
    ∙ (payload-fed xs (with_payload r (r.data_left - 1) c) (omega (arith, le)) (progress-proper capsule_decides capsule-steady (r.capsules.kept ++ x ∷ []) r.capsules.state r.capsules.stop r.capsules.skip) idle
    (prefix-later capsule_decides capsule-steady r.capsules x xs runs)
    ∙ (ap (λ (n : ℕ). with_payload r n (progress_after capsule_decides c xs)) same
    ∙ ap (λ (p : WalkProgress (Unit {0}) SessionWalk). with_payload r (r.data_left - suc (length xs)) p) (fed-fed capsule_decides capsule-steady r.capsules (x ∷ []) xs)))

-- the first bytes of those that code took run as those do
first-runs : {S O : Type 0} (decide : S → List ℕ → Step S O) (old : WalkProgress S O) (piece : List ℕ) (n k : ℕ) → k ≤ n → n ≤ length piece
    → ((j : ℕ) → j < n → (reached_in (progress_after decide old (take j piece))).stop ≡ None)
    → (j : ℕ) → j < length (take k piece) → (reached_in (progress_after decide old (take j (take k piece)))).stop ≡ None
first-runs {S = S} {O = O} decide old piece n k le within runs j lt =
    let less : j < k = omega (arith, lt, length-take k piece) in
    rw (take-take j k piece (omega (arith, less))) (runs j (omega (arith, less, le)))
  where
    take-take : (i k : ℕ) (xs : List ℕ) → i ≤ k → take i (take k xs) ≡ take i xs
    take-take zero k xs le = refl
    take-take (suc i) zero xs le = absurd (omega (arith, le))
    take-take (suc i) (suc k) [] le = refl
    take-take (suc i) (suc k) (x ∷ xs) le = ap (λ (ys : List ℕ). x ∷ ys) (take-take i k xs (omega (arith, le)))

-- in a payload code lets the walk over capsules take them
pub payload_advances : (r : SessionReader) (new : WalkProgress (Unit {0}) SessionWalk) (piece : List ℕ) (n : ℕ) → IsSettled r → frame_stop (reached_in r.headers).stop ≡ None → n ≤ r.data_left
    → Advances capsule_decides r.capsules new piece n → SessionAdvances r (with_payload r (r.data_left - n) new) piece n
payload_advances r new piece n is idle le a = record { within = a.within; fed = fed; running = running }
  where
    upto : (k : ℕ) → k ≤ n → session_fed r (take k piece) ≡ with_payload r (r.data_left - k) (progress_after capsule_decides r.capsules (take k piece))
    upto k less =
        let len : length (take k piece) ≡ k = omega (arith, a.within, less, length-take k piece) in
        payload-fed (take k piece) r (omega (arith, len, less, le)) is.capsules idle (first-runs capsule_decides r.capsules piece n k less a.within a.running)
        ∙ ap (λ (m : ℕ). with_payload r (r.data_left - m) (progress_after capsule_decides r.capsules (take k piece))) len

    fed : with_payload r (r.data_left - n) new ≡ session_fed r (take n piece)
    fed = ap (λ (c : WalkProgress (Unit {0}) SessionWalk). with_payload r (r.data_left - n) c) a.fed ∙ sym (upto n (omega arith))

    running : (k : ℕ) → k < n → stop_in (session_fed r (take k piece)) ≡ None
    running k lt =
        ap (λ (q : SessionReader). stop_in q) (upto k (omega (arith, lt)))
        ∙ (ap (λ (o : Option SessionWalk). first_stop o (reached_in r.headers).stop) (a.running k lt) ∙ idle)

-- where the frames stand
frames-same : (r : SessionReader) (h k : WalkProgress (Unit {0}) HeaderWalk) (o : Option HeaderWalk) → past_frames (record r { headers = h }) k o ≡ past_frames r k o
frames-same r h k None = refl
frames-same r h k (Some (Payload size)) = refl
frames-same r h k (Some Waiting) = refl
frames-same r h k (Some (Faulty code)) = refl

reached-faulty : (stop : Option HeaderWalk) (skip : ℕ) (kept : List ℕ) → IfSome stop (λ w. is_faulty w ≡ true) → IfSome (reached_at {S = Unit {0}} tt stop skip kept).stop (λ w. is_faulty w ≡ true)
reached-faulty stop (suc skip) kept f = tt
reached-faulty stop zero (b ∷ kept) f = tt
reached-faulty stop zero [] f = f

not-passed : (r : SessionReader) (o : Option HeaderWalk) → IfSome o (λ w. is_faulty w ≡ true) → past_frames r r.headers o ≡ r
not-passed r None f = refl
not-passed r (Some (Faulty code)) f = refl
not-passed r (Some (Payload size)) f = absurd cc
not-passed r (Some Waiting) f = absurd cc

-- the bytes after a frame's first
frames-later : (r : SessionReader) (x : ℕ) (xs : List ℕ) → r.data_left ≡ 0 → (reached_in r.capsules).stop ≡ None → IsSettled (with_frames r (progress_after header_decides r.headers (x ∷ [])))
    → ((k : ℕ) → k < suc (length xs) → (reached_in (progress_after header_decides r.headers (take k (x ∷ xs)))).stop ≡ None)
    → ((q : SessionReader) → q.data_left ≡ 0 → IsSettled q → (reached_in q.capsules).stop ≡ None
    → ((k : ℕ) → k < length xs → (reached_in (progress_after header_decides q.headers (take k xs))).stop ≡ None)
    → session_fed q xs ≡ with_frames q (progress_after header_decides q.headers xs))
    → session_fed (with_frames r (progress_after header_decides r.headers (x ∷ []))) xs ≡ with_frames r (progress_after header_decides r.headers (x ∷ xs))
unfolding session_fed
frames-later r x [] zero_left idle settled runs again = refl
frames-later r x (y ∷ ys) zero_left idle settled runs again =
    let h : WalkProgress (Unit {0}) HeaderWalk = progress_after header_decides r.headers (x ∷ []) in
    let q : SessionReader = record r { headers = h } in
    let stop1 : (reached_in h).stop ≡ None = runs 1 (omega arith) in
    let in1 : with_frames r h ≡ q = ap (λ (o : Option HeaderWalk). past_frames r h o) stop1 in
    ap (λ (z : SessionReader). session_fed z (y ∷ ys)) in1
    ∙ (again q zero_left (subst (λ (z : SessionReader). IsSettled z) in1 settled) idle (prefix-later header_decides header-steady r.headers x (y ∷ ys) runs)
    ∙ (frames-same r h (progress_after header_decides h (y ∷ ys)) (reached_in (progress_after header_decides h (y ∷ ys))).stop
    ∙ ap (λ (k : WalkProgress (Unit {0}) HeaderWalk). with_frames r k) (fed-fed header_decides header-steady r.headers (x ∷ []) (y ∷ ys))))

-- bytes of frames
frames-fed : (xs : List ℕ) (r : SessionReader) → r.data_left ≡ 0 → IsSettled r → (reached_in r.capsules).stop ≡ None
    → ((k : ℕ) → k < length xs → (reached_in (progress_after header_decides r.headers (take k xs))).stop ≡ None)
    → session_fed r xs ≡ with_frames r (progress_after header_decides r.headers xs)
unfolding session_fed
frames-fed [] r zero_left is idle runs =
    sym (ap (λ (h : WalkProgress (Unit {0}) HeaderWalk). with_frames r h) (fed-nothing header_decides header-steady r.headers is.headers)
    ∙ not-passed r (reached_in r.headers).stop (reached-faulty r.headers.stop r.headers.skip r.headers.kept is.faulty))
frames-fed (x ∷ xs) r zero_left is idle runs =
    let h : WalkProgress (Unit {0}) HeaderWalk = progress_after header_decides r.headers (x ∷ []) in
    let nothing : progress_after header_decides r.headers [] ≡ r.headers = fed-nothing header_decides header-steady r.headers is.headers in
    let first : (reached_in r.headers).stop ≡ None = ap (λ (p : WalkProgress (Unit {0}) HeaderWalk). (reached_in p).stop) (sym nothing) ∙ runs 0 (omega arith) in
    let goes : stop_in r ≡ None = ap (λ (o : Option SessionWalk). first_stop o (reached_in r.headers).stop) idle ∙ ap (λ (o : Option HeaderWalk). frame_stop o) first in
    let one : byte_fed r (stop_in r) x ≡ with_frames r h = ap (λ (o : Option SessionWalk). byte_fed r o x) goes ∙ ap (λ (n : ℕ). byte_step r n x) zero_left in
    let walk = some-walk r is in
    let settled : IsSettled (with_frames r h) = subst (λ (q : SessionReader). IsSettled q) one ((byte-follows r walk.0 x walk.1).settled) in
    ap (λ (q : SessionReader). session_fed q xs) one ∙ frames-later r x xs zero_left idle settled runs (λ q a b c d. frames-fed xs q a b c d)

-- between two payloads code lets the walk over frames take them
pub frames_advances : (r : SessionReader) (new : WalkProgress (Unit {0}) HeaderWalk) (piece : List ℕ) (n : ℕ) → IsSettled r → r.data_left ≡ 0 → (reached_in r.capsules).stop ≡ None
    → Advances header_decides r.headers new piece n → SessionAdvances r (with_frames r new) piece n
frames_advances r new piece n is zero_left idle a = record { within = a.within; fed = fed; running = running }
  where
    upto : (k : ℕ) → k ≤ n → session_fed r (take k piece) ≡ with_frames r (progress_after header_decides r.headers (take k piece))
    upto k less = frames-fed (take k piece) r zero_left is idle (first-runs header_decides r.headers piece n k less a.within a.running)

    fed : with_frames r new ≡ session_fed r (take n piece)
    fed = ap (λ (h : WalkProgress (Unit {0}) HeaderWalk). with_frames r h) a.fed ∙ sym (upto n (omega arith))

    going : (k : ℕ) → k < n → with_frames r (progress_after header_decides r.headers (take k piece)) ≡ record r { headers = progress_after header_decides r.headers (take k piece) }
    going k lt = ap (λ (o : Option HeaderWalk). past_frames r (progress_after header_decides r.headers (take k piece)) o) (a.running k lt)

    running : (k : ℕ) → k < n → stop_in (session_fed r (take k piece)) ≡ None
    running k lt =
        ap (λ (q : SessionReader). stop_in q) (upto k (omega (arith, lt)) ∙ going k lt)
        ∙ (ap (λ (o : Option SessionWalk). first_stop o (reached_in (progress_after header_decides r.headers (take k piece))).stop) idle
        ∙ ap (λ (o : Option HeaderWalk). frame_stop o) (a.running k lt))

-- ---- what a call that feeds a piece answers

-- it stands where one does that read both
pub advances_read : (old new : SessionReader) (piece bytes : List ℕ) (n : ℕ) (end : StreamEnd) → HasReadSession old bytes end → SessionAdvances old new piece n → HasReadSession new (bytes ++ take n piece) end
advances_read old new piece bytes n end has a = a.fed ∙ fed_has_read old bytes (take n piece) end has

-- while the stream runs, what it says is final where something stopped it
said-running : (r : SessionReader) → r.end ≡ Running → (stop_in r ≡ None → session_said r ≡ walks.Running) × ((o : SessionWalk) → stop_in r ≡ Some o → session_said r ≡ o)
said-running r e = (λ none. rw (none, e) refl, λ o some. rw some refl)

-- in front of the last byte that it takes nothing was final
pub advances_running : (old new : SessionReader) (piece bytes : List ℕ) (n k : ℕ) → HasReadSession old bytes Running → SessionAdvances old new piece n → k < n
    → session_walk_of (bytes ++ take k piece) Running ≡ walks.Running
advances_running old new piece bytes n k has a lt =
    let read : HasReadSession (session_fed old (take k piece)) (bytes ++ take k piece) Running = fed_has_read old bytes (take k piece) Running has in
    sym (session_reader_says (session_fed old (take k piece)) (bytes ++ take k piece) Running read)
    ∙ ((said-running (session_fed old (take k piece)) (ap (λ (r : SessionReader). r.end) read)).0 (a.running k lt))

-- one that stopped takes nothing
pub stopped_fed : (xs : List ℕ) (r : SessionReader) (o : SessionWalk) → stop_in r ≡ Some o → session_fed r xs ≡ r
unfolding session_fed
stopped_fed [] r o e = refl
stopped_fed (x ∷ xs) r o e = ap (λ (z : SessionReader). session_fed z xs) (ap (λ (c : Option SessionWalk). byte_fed r c x) e) ∙ stopped_fed xs r o e

-- what stopped it is what the walk says, whatever bytes and end follow
pub stopped_says : (r : SessionReader) (bytes more : List ℕ) (end later : StreamEnd) (o : SessionWalk) → HasReadSession r bytes end → stop_in r ≡ Some o → session_walk_of (bytes ++ more) later ≡ o
stopped_says r bytes more end later o has e =
    let read : HasReadSession (session_ended later (session_fed r more)) (bytes ++ more) later =
    end_has_read (session_fed r more) (bytes ++ more) end later (fed_has_read r bytes more end has) in
    sym (session_reader_says (session_ended later (session_fed r more)) (bytes ++ more) later read)
    ∙ (ap (λ (q : SessionReader). session_said (session_ended later q)) (stopped_fed more r o e) ∙ rw e refl)

-- ---- how many bytes it asks for

module _ {S O : Type 0} (decide : S → List ℕ → Step S O) (wants : List ℕ → ℕ) (steady : IsSteady decide) (awaited : IsAwaited decide wants) where
  asks-at : (s : S) (skip : ℕ) (kept : List ℕ) → decide s kept ≡ Cut → 0 < cond (skip == 0) (wants kept - length kept) skip
  asks-at s zero kept waits = let more = awaited.onward s kept waits in omega (arith, more)
  asks-at s (suc skip) kept waits = rw (suc-not skip) (omega arith)
    where
      suc-not : (n : ℕ) → (suc n == 0) ≡ false
      suc-not n = grind (arith, nat_tests)

  still-at : (s : S) (stop : Option O) (skip : ℕ) (kept xs : List ℕ) → IsProper decide (record { state = s; stop = stop; skip = skip; kept = kept }) → (reached_at s stop skip kept).stop ≡ None
      → length xs < cond (skip == 0) (wants kept - length kept) skip → (reached_in (progress_over decide s stop skip (kept ++ xs))).stop ≡ None
  still-at s stop (suc n) (k ∷ kept) xs is idle lt = absurd (let none = (is.idle (omega arith)).0 in omega (arith, none))
  still-at s stop (suc n) [] xs is idle lt = inside-open decide steady xs s stop (suc n) (rw (suc-not n) at lt)
    where
      suc-not : (n : ℕ) → (suc n == 0) ≡ false
      suc-not n = grind (arith, nat_tests)
  still-at s (Some o) zero [] xs is idle lt = absurd cc
  still-at s (Some o) zero (k ∷ kept) xs is idle lt = absurd (let none = (is.idle (omega arith)).1 in cc)
  still-at s None zero kept xs is idle lt =
      rw (progress-cut decide s (kept ++ xs) (awaited.still s kept xs (omega (arith, lt, length-append kept xs)))) (kept-open decide steady s (kept ++ xs))

-- nothing stopped the frames where nothing stopped the reader
frames-open : (r : SessionReader) → IsSettled r → frame_stop (reached_in r.headers).stop ≡ None → (reached_in r.headers).stop ≡ None
frames-open r is e = by (reached_in r.headers).stop (reached-faulty r.headers.stop r.headers.skip r.headers.kept is.faulty) e
  where
    by : (o : Option HeaderWalk) → IfSome o (λ w. is_faulty w ≡ true) → frame_stop o ≡ None → o ≡ None
    by None f g = refl
    by (Some (Faulty code)) f g = absurd cc
    by (Some (Payload size)) f g = absurd cc
    by (Some Waiting) f g = absurd cc

-- it asks for some until it is stopped
pub asks_some : (r : SessionReader) → IsSettled r → stop_in r ≡ None → 0 < session_wants r
asks_some r is e = rw e (by r.data_left)
  where
    by : (n : ℕ) → 0 < asked_for r n
    by zero = asks-at header_decides header_wants header-steady header-awaited r.headers.state r.headers.skip r.headers.kept is.headers.waits
    by (suc left) = let some = asks-at capsule_decides capsule_wants capsule-steady capsule-awaited r.capsules.state r.capsules.skip r.capsules.kept is.capsules.waits in omega (arith, some)

-- with fewer nothing stops it, and no payload begins or ends
pub asks_still : (r : SessionReader) (xs : List ℕ) → IsSettled r → stop_in r ≡ None → length xs < session_wants r → (stop_in (session_fed r xs) ≡ None) × ((session_fed r xs).data_left ≡ r.data_left - length xs)
asks_still r xs is e lt = by r.data_left refl (rw e at lt)
  where
    none : ((reached_in r.capsules).stop ≡ None) × (frame_stop (reached_in r.headers).stop ≡ None)
    none = first-none (reached_in r.capsules).stop (reached_in r.headers).stop e

    in_frames : r.data_left ≡ 0 → length xs < asked_for r 0 → (stop_in (session_fed r xs) ≡ None) × ((session_fed r xs).data_left ≡ r.data_left - length xs)
    in_frames f less =
        let runs : (ys : List ℕ) → length ys ≤ length xs → (reached_in (progress_after header_decides r.headers ys)).stop ≡ None =
        λ ys le. still-at header_decides header_wants header-steady header-awaited r.headers.state r.headers.stop r.headers.skip r.headers.kept ys is.headers (frames-open r is none.1) (omega (arith, le, less)) in
        let to : session_fed r xs ≡ record r { headers = progress_after header_decides r.headers xs } =
        frames-fed xs r f is none.0 (λ k lt. runs (take k xs) (omega (arith, lt, length-take k xs)))
        ∙ ap (λ (o : Option HeaderWalk). past_frames r (progress_after header_decides r.headers xs) o) (runs xs (omega arith)) in
        subst (λ (q : SessionReader). (stop_in q ≡ None) × (q.data_left ≡ r.data_left - length xs)) (sym to) (
          ap (λ (o : Option SessionWalk). first_stop o (reached_in (progress_after header_decides r.headers xs)).stop) none.0 ∙ ap (λ (o : Option HeaderWalk). frame_stop o) (runs xs (omega arith)),
          omega (arith, f),
        )

    in_payload : (left : ℕ) → r.data_left ≡ suc left → length xs < asked_for r (suc left) → (stop_in (session_fed r xs) ≡ None) × ((session_fed r xs).data_left ≡ r.data_left - length xs)
    in_payload left f less =
        let runs : (ys : List ℕ) → length ys ≤ length xs → (reached_in (progress_after capsule_decides r.capsules ys)).stop ≡ None =
        λ ys le. still-at capsule_decides capsule_wants capsule-steady capsule-awaited r.capsules.state r.capsules.stop r.capsules.skip r.capsules.kept ys is.capsules none.0 (omega (arith, le, less)) in
        let to : session_fed r xs ≡ with_payload r (r.data_left - length xs) (progress_after capsule_decides r.capsules xs) =
        payload-fed xs r (omega (arith, less, f)) is.capsules none.1 (λ k lt. runs (take k xs) (omega (arith, lt, length-take k xs))) in
        subst (λ (q : SessionReader). (stop_in q ≡ None) × (q.data_left ≡ r.data_left - length xs)) (sym to)
        (ap (λ (o : Option SessionWalk). first_stop o (reached_in r.headers).stop) (runs xs (omega arith)) ∙ none.1, refl)

    by : (n : ℕ) → r.data_left ≡ n → length xs < asked_for r n → (stop_in (session_fed r xs) ≡ None) × ((session_fed r xs).data_left ≡ r.data_left - length xs)
    by zero f less = in_frames f less
    by (suc left) f less = in_payload left f less
