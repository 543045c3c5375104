-- Where streams and datagrams of sessions wait: in the window of a session that lives, or in the early one, which all ids share that
-- name no session (draft-ietf-webtrans-http3, section 4.5; that 16 of each find a place is this repository's rule).
use Rattle.std.specs.Prelude.{[], ◌++◌, ◌==◌, ◌∷◌, Bool, List, None, Option, Some, false, filter, find, if◌then◌else◌, length, nat_lt, not, option_map, true, ℕ}
use Rattle.std.specs.List.{list_any}
use Rattle.wt_kept.specs.Kept.{GoneNow, LiveNow, SessionEndNow, SessionsNow, WaitingDatagram, WindowNow}
use Rattle.wt_kept.specs.Lists.{changed_first, without_first}
use Rattle.wt_kept.specs.Readers.{session_rules}
use Rattle.wt_sessions.specs.StreamTable.{Waiting, with_id}
use Rattle.wt_wire.specs.Ids.{is_bidirectional}

-- ---- windows

-- nothing waits
abbrev pub empty_window : WindowNow
empty_window = record { streams = []; datagrams = [] }

-- what comes for a session finds a place, or finds none, or the session is gone
pub data AdmissionNow : Type 0 where
  Admitted : AdmissionNow
  Full : AdmissionNow
  Gone : AdmissionNow

-- as many wait as may
abbrev pub is_full : {T : Type 0} → List T → Bool
is_full xs = not (nat_lt (length xs) 16)

-- how a window takes something in, and what it is then
pub record Taken : Type 0 where
  pub admission : AdmissionNow
  pub window : WindowNow

-- one more stream, where fewer than 16 wait
abbrev pub with_stream : Waiting → WindowNow → Taken
with_stream x w =
    if is_full w.streams then record { admission = Full; window = w } else record { admission = Admitted; window = record w { streams = w.streams ++ x ∷ [] } }

-- one more datagram, where fewer than 16 wait
abbrev pub with_datagram : WaitingDatagram → WindowNow → Taken
with_datagram x w =
    if is_full w.datagrams then record { admission = Full; window = w } else record { admission = Admitted; window = record w { datagrams = w.datagrams ++ x ∷ [] } }

-- what waits for the session, as a window of its own
abbrev pub part_of : ℕ → WindowNow → WindowNow
part_of s w = record {
  streams = filter (λ (x : Waiting). x.session == s) w.streams;
  datagrams = filter (λ (x : WaitingDatagram). x.session == s) w.datagrams;
}

-- the rest of it
abbrev pub without : ℕ → WindowNow → WindowNow
without s w = record {
  streams = filter (λ (x : Waiting). not (x.session == s)) w.streams;
  datagrams = filter (λ (x : WaitingDatagram). not (x.session == s)) w.datagrams;
}

-- ---- which sessions there are

-- the session is this one
abbrev pub is_live : ℕ → LiveNow → Bool
is_live s x = x.id == s

-- the session lives
abbrev pub lives_now : SessionsNow → ℕ → Bool
lives_now d s = list_any (is_live s) d.living

-- how the session became gone
abbrev pub end_in : List GoneNow → ℕ → Option SessionEndNow
end_in [] s = None
end_in (g ∷ gs) s = if g.id == s then Some g.end else end_in gs s

-- the session is gone
abbrev pub is_gone_in : List GoneNow → ℕ → Bool
is_gone_in gs s = list_any (λ (g : GoneNow). g.id == s) gs

abbrev pub is_gone_now : SessionsNow → ℕ → Bool
is_gone_now d s = is_gone_in d.gone s

-- the session, where it lives
abbrev pub live_in : SessionsNow → ℕ → Option LiveNow
live_in d s = find (is_live s) d.living

-- those that live, of which the one of this id is changed
abbrev pub changed_live : (LiveNow → LiveNow) → ℕ → List LiveNow → List LiveNow
changed_live f s xs = changed_first (is_live s) f xs

-- the sessions, of which the living one of this id is changed
abbrev pub with_live : (LiveNow → LiveNow) → ℕ → SessionsNow → SessionsNow
with_live f s d = record d { living = changed_live f s d.living }

-- ---- what comes for them

-- how the sessions take something in
pub record Admits : Type 0 where
  pub admission : AdmissionNow
  pub sessions : SessionsNow

-- the window of a session that lives took it in
abbrev pub in_live : (WindowNow → Taken) → LiveNow → SessionsNow → Admits
in_live take x d = record {
  admission = (take x.window).admission;
  sessions = with_live (λ y. record y { window = (take y.window).window }) x.id d;
}

-- what names this session comes into its window: its own where it lives, none where it is gone, else the early one
abbrev pub admit_by : (WindowNow → Taken) → Option LiveNow → Bool → SessionsNow → Admits
admit_by take (Some x) gone d = in_live take x d
admit_by take None true d = record { admission = Gone; sessions = d }
admit_by take None false d = record { admission = (take d.early).admission; sessions = record d { early = (take d.early).window } }

-- a stream comes
abbrev pub admit_stream_now : ℕ → ℕ → SessionsNow → Admits
admit_stream_now id s d = admit_by (with_stream (record { id = id; session = s })) (live_in d s) (is_gone_now d s) d

-- a datagram comes
abbrev pub admit_datagram_now : ℕ → List ℕ → SessionsNow → Admits
admit_datagram_now s payload d = admit_by (with_datagram (record { session = s; payload = payload })) (live_in d s) (is_gone_now d s) d

-- ---- what calls take out of them

-- the stream is of this kind
abbrev pub is_of_kind : Bool → ℕ → Bool
is_of_kind true id = is_bidirectional id
is_of_kind false id = not (is_bidirectional id)

-- the first stream of a kind that waits
abbrev pub first_stream : Bool → List Waiting → Option Waiting
first_stream bidirectional xs = find (λ (x : Waiting). is_of_kind bidirectional x.id) xs

-- its id
abbrev pub first_stream_id : Bool → List Waiting → Option ℕ
first_stream_id bidirectional xs = option_map (λ (x : Waiting). x.id) (first_stream bidirectional xs)

-- without this one
abbrev pub without_stream : ℕ → List Waiting → List Waiting
without_stream id xs = without_first (λ (x : Waiting). x.id == id) xs

-- the window, of which this stream was taken
abbrev pub without_taken : Option ℕ → WindowNow → WindowNow
without_taken None w = w
without_taken (Some id) w = record w { streams = without_stream id w.streams }

-- the session has one more stream
abbrev pub joined_by : ℕ → LiveNow → LiveNow
joined_by id x = record x { members = with_id id x.members }

-- a stream that waited is given to the session's application
abbrev pub given_stream : ℕ → LiveNow → LiveNow
given_stream id x = joined_by id (record x { window = record x.window { streams = without_stream id x.window.streams } })

-- the first datagram that waits
abbrev pub first_datagram : List WaitingDatagram → Option WaitingDatagram
first_datagram [] = None
first_datagram (x ∷ xs) = Some x

-- those after the first
abbrev pub after_first : {T : Type 0} → List T → List T
after_first [] = []
after_first (x ∷ xs) = xs

-- the first datagram that waits is given
abbrev pub given_datagram : LiveNow → LiveNow
given_datagram x = record x { window = record x.window { datagrams = after_first x.window.datagrams } }

-- ---- their life

-- the sessions by id with one more
abbrev pub with_live_by_id : LiveNow → List LiveNow → List LiveNow
with_live_by_id x [] = x ∷ []
with_live_by_id x (y ∷ ys) = if nat_lt x.id y.id then x ∷ y ∷ ys else y ∷ with_live_by_id x ys

-- the session lives from now on, with what waited early for it
abbrev pub live_from : ℕ → WindowNow → LiveNow
live_from s w = record { id = s; reader = session_rules.start; window = part_of s w; members = [] }

-- the session is established
abbrev pub establish_now : ℕ → SessionsNow → SessionsNow
establish_now s d = record d { living = with_live_by_id (live_from s d.early) d.living; early = without s d.early }
