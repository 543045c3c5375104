-- A session that lives, step by step, and what its stream says.
use Rattle.std.specs.Prelude.{[], ◌∷◌, List, None, Option, Some, map, ℕ}
use Rattle.wt_kept.specs.Classifying.{fail_with, with_dispatched}
use Rattle.wt_kept.specs.Ending.{finish_and_retire, reset_and_retire}
use Rattle.wt_kept.specs.Kept.{Closed, LiveNow, SessionsNow, WaitingDatagram, WindowNow, WorkNow}
use Rattle.wt_kept.specs.Looking.{after_walk, is_closed_by_capsule, with_session_reader}
use Rattle.wt_kept.specs.Pieces.{FedNow, fed_by}
use Rattle.wt_kept.specs.Readers.{ReadOn, fed_piece, read_on, session_rules}
use Rattle.wt_kept.specs.Windows.{AdmissionNow, Taken, given_datagram, given_stream, joined_by, with_live}
use Rattle.wt_transport.specs.State.{TransportState}
use Rattle.wt_peer_streams.specs.declared.live.News.{News}
use Rattle.wt_peer_streams.specs.declared.live.News.TheVariants as news
use Rattle.wt_proto.specs.SessionReader.{SessionReader}
use Rattle.wt_sessions.specs.StreamTable.{Waiting}

-- the session's reader is so far
abbrev pub with_reader : SessionReader → LiveNow → LiveNow
with_reader r x = record x { reader = r }

-- its window took something in
pub record InWindow : Type 0 where
  pub admission : AdmissionNow
  pub live : LiveNow

abbrev pub in_window : (WindowNow → Taken) → LiveNow → InWindow
in_window take x = record { admission = (take x.window).admission; live = record x { window = (take x.window).window } }

-- what a call took of the streams that wait
abbrev pub live_taken : Option ℕ → LiveNow → LiveNow
live_taken None x = x
live_taken (Some id) x = given_stream id x

-- ---- what its stream says

-- what follows from it
abbrev pub after_news : ℕ → Option News → WorkNow → WorkNow
after_news s None w = w
after_news s (Some (news.Fault code)) w = with_dispatched (fail_with code) w
after_news s (Some (news.Capsule close)) w = reset_and_retire s (Closed close.code close.reason) w
after_news s (Some (news.CleanEnd close)) w = finish_and_retire s (Closed close.code close.reason) w

-- the same, by the reader
abbrev pub news_by : ℕ → SessionReader → WorkNow → WorkNow
news_by s r w = after_walk s (is_closed_by_capsule r) (session_rules.outcome r) w

-- the same once the session's stream was read on, where it lives
abbrev pub news_of_reader : ℕ → Option LiveNow → TransportState → WorkNow → WorkNow
news_of_reader s None t w = w
news_of_reader s (Some x) t w = news_by s (read_on session_rules s x.reader t).reader w

-- what reading on leaves
pub record LiveRead : Type 0 where
  pub sessions : SessionsNow
  pub transport : TransportState

abbrev pub live_read_so : ℕ → ReadOn SessionReader → SessionsNow → LiveRead
live_read_so s x d = record { sessions = with_session_reader x.reader s d; transport = x.transport }

abbrev pub live_read : ℕ → Option LiveNow → SessionsNow → TransportState → LiveRead
live_read s None d t = record { sessions = d; transport = t }
live_read s (Some x) d t = live_read_so s (read_on session_rules s x.reader t) d

-- what its reader does with a piece
abbrev pub session_feed_at : List ℕ → Option LiveNow → Option FedNow
session_feed_at piece None = None
session_feed_at piece (Some x) = Some (fed_by session_rules x.reader piece)

abbrev pub session_fed_at : ℕ → List ℕ → Option LiveNow → SessionsNow → SessionsNow
session_fed_at id piece None d = d
session_fed_at id piece (Some x) d = with_session_reader (fed_piece session_rules x.reader piece) id d

-- ---- what calls take and add

-- what waits for the session, where it lives
abbrev pub streams_of_live : Option LiveNow → List Waiting
streams_of_live None = []
streams_of_live (Some x) = x.window.streams

abbrev pub datagrams_of : Option LiveNow → List WaitingDatagram
datagrams_of None = []
datagrams_of (Some x) = x.window.datagrams

-- the sessions, once a stream was given
abbrev pub stream_given : ℕ → Option ℕ → SessionsNow → SessionsNow
stream_given s None d = d
stream_given s (Some id) d = with_live (given_stream id) s d

-- once the first datagram was given
abbrev pub datagram_given : ℕ → SessionsNow → SessionsNow
datagram_given s d = with_live given_datagram s d

-- once a stream is begun to be opened
abbrev pub joined_live : ℕ → ℕ → SessionsNow → SessionsNow
joined_live s id d = with_live (joined_by id) s d

-- ---- those that live

abbrev pub ids_of : List LiveNow → List ℕ
ids_of xs = map (λ (x : LiveNow). x.id) xs

-- the ids among these
abbrev pub some_ids : List (Option ℕ) → List ℕ
some_ids [] = []
some_ids (None ∷ xs) = some_ids xs
some_ids (Some k ∷ xs) = k ∷ some_ids xs
