-- The reader of a session's stream, by the bytes that were read.
use Rattle.std.proofs.Common.{◌≡◌, ℕ, false, List, [], ◌++◌, Option, Some, None, refl, sym, ap, ◌∙◌}
use Rattle.wt_proto.specs.SessionWalk.{is_over, session_walk_of}
use Rattle.wt_proto.specs.declared.session_walk.SessionWalk.{SessionWalk}
use Rattle.wt_proto.specs.SessionReader.{SessionReader, session_ended, session_fed, session_reader, session_said, stop_in}
use Rattle.wt_proto.proofs.SessionPieces.{fed_ended, fed_joined, stopped_fed}
use Rattle.wt_proto.proofs.SessionReaderLaws.{session_reader_says}
use Rattle.wt_seam.specs.ReadingAll.{SessionWasRead, Stays}
use Rattle.wt_wire.specs.declared.side.StreamEnd.{StreamEnd}
use Rattle.wt_wire.specs.declared.side.StreamEnd.TheVariants.{Running}

-- what is final while the stream runs was stopped
pub session-stays : (r : SessionReader) → Stays session_fed (λ (x : SessionReader). is_over (session_said x)) (session_ended Running r)
session-stays r xs ys e = by (stop_in (session_fed (session_ended Running r) xs)) refl
  where
    x : SessionReader
    x = session_fed (session_ended Running r) xs

    runs : x.end ≡ Running
    runs = ap (λ (q : SessionReader). q.end) (fed_ended xs Running r)

    by : (o : Option SessionWalk) → stop_in x ≡ o → session_fed x ys ≡ x
    by (Some o) f = stopped_fed ys x o f
    by None f = absurd (let no_ : is_over (session_said x) ≡ false = rw (f, runs) refl in cc)

-- one that took no bytes
pub was-nothing : (r : SessionReader) → r ≡ session_reader → SessionWasRead r []
unfolding session_fed
was-nothing r is = ap (λ (q : SessionReader). session_ended Running q) is

module _ (r : SessionReader) (bytes : List ℕ) (was : SessionWasRead r bytes) where
  joined : (more : List ℕ) → session_fed (session_ended Running r) more ≡ session_fed session_reader (bytes ++ more)
  joined more = ap (λ (q : SessionReader). session_fed q more) was ∙ fed_joined bytes more session_reader

  pub session-more : (more : List ℕ) (end : StreamEnd) → SessionWasRead (session_ended end (session_fed (session_ended Running r) more)) (bytes ++ more)
  session-more more end =
      ap (λ (q : SessionReader). session_ended Running q) (joined more) ∙ sym (fed_ended (bytes ++ more) Running session_reader)

  pub session-outcome : (more : List ℕ) (end : StreamEnd) → session_said (session_ended end (session_fed (session_ended Running r) more)) ≡ session_walk_of (bytes ++ more) end
  session-outcome more end =
      session_reader_says (session_ended end (session_fed (session_ended Running r) more)) (bytes ++ more) end (ap (λ (q : SessionReader). session_ended end q) (joined more))
