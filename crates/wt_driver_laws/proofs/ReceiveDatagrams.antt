-- A call receives a datagram: what is given is the first that waits for the session, and the driver follows the log with the call.
use Rattle.std.proofs.Common.{◌∙◌, ◌≡◌, ◌<◌, ◌∷◌, Bool, List, None, Option, Some, [], ap, cond, false, filter, find, map, option_map, refl, subst₂, sym, true, ℕ}
use Rattle.std.proofs.lemmas.Bool.{eqb-true, true≢false}
use Rattle.std.specs.Prelude.{◌&&◌, ◌==◌, if◌then◌else◌, not, unwrap_or, Result}
use Rattle.wt_driver_laws.proofs.AcceptFirst.{found-in-filter, found-passes, gone-where-dead, none-found, window-so}
use Rattle.wt_driver_laws.proofs.Reach.{reached_holds}
use Rattle.wt_driver_laws.proofs.ReachRecords.{may_receive}
use Rattle.wt_driver_laws.proofs.ReachSessions.{established_lives, has_established}
use Rattle.wt_driver_laws.proofs.SessionEnds.{dispatched-of-state, session-result-is}
use Rattle.wt_driver_laws.proofs.TurnCollected.{follows-more}
use Rattle.wt_driver_laws.specs.Answering.{polled_by, session_result_now}
use Rattle.wt_driver_laws.specs.Calling.{Always}
use Rattle.wt_driver_laws.specs.Driving.{Follows, IsReachable, uncollected_since}
use Rattle.wt_driver_laws.specs.Ends.{session_end}
use Rattle.wt_driver_laws.specs.Given.{given_or, next_datagram_now}
use Rattle.wt_driver_laws.specs.Giving.{GivesDatagram, Receives}
use Rattle.wt_driver_laws.specs.Having.{HasSession}
use Rattle.wt_follows.proofs.DatagramCall.{receive-follows}
use Rattle.wt_follows.proofs.Lists.{refuted}
use Rattle.wt_follows.proofs.RestingCall.{record-alone}
use Rattle.wt_follows.specs.Roles.{is_living}
use Rattle.wt_kept.specs.Calling.{on_sessions}
use Rattle.wt_kept.specs.Kept.{DriverNow, LiveNow, WaitingDatagram}
use Rattle.wt_kept.specs.Windows.{after_first, changed_live, first_datagram, given_datagram, is_live, live_in, with_live}
use Rattle.wt_peer_streams.specs.Living.{datagram_given, datagrams_of}
use Rattle.wt_sessions.proofs.Turns.{Holds}
use Rattle.wt_sessions.specs.Connection.{next_datagram}
use Rattle.wt_sessions.specs.Driver.{call_view, dispatched, is_session_gone, stream_table}
use Rattle.wt_sessions.specs.DriverState.{state_of}
use Rattle.wt_sessions.specs.Effect.{log_call}
use Rattle.wt_sessions.specs.StreamTable.{Admitted, Dispatched, was_established}
use Rattle.wt_turn.specs.Log.{Called, DatagramReceived, Log, actions_of}
use Rattle.wt_turn.specs.declared.driver_error.DriverError.{DriverError}
use Rattle.wt_turn.specs.declared.poll.Poll.{Poll}
use Rattle.wt_wire.specs.declared.side.Side.{Side}

-- a datagram that waits, as a window has it
abbrev as_waiting : Admitted → WaitingDatagram
as_waiting x = record { session = x.session; payload = x.payload }

-- ---- which is the first

first-found : (q : Admitted → Bool) (xs : List Admitted) → first_datagram (map as_waiting (filter q xs)) ≡ option_map as_waiting (find q xs)
first-found q [] = refl
first-found q (x ∷ xs) = by (q x) (first-found q xs)
  where
    by : (b : Bool) → first_datagram (map as_waiting (filter q xs)) ≡ option_map as_waiting (find q xs)
        → first_datagram (map as_waiting (cond b (x ∷ filter q xs) (filter q xs))) ≡ option_map as_waiting (cond b (Some x) (find q xs))
    by true again = refl
    by false again = again

-- none waits for a session that is gone
none-left : (side : Side) (log : Log) (s : ℕ) → is_session_gone side log s ≡ true → next_datagram side log s ≡ None
none-left side log s gone =
    found-in-filter (λ (x : Admitted). x.session == s) (λ (x : Admitted). not ((call_view log).received x.index) && not (is_session_gone side log x.session)) (stream_table side log).datagrams
    ∙ none-found (λ (x : Admitted). (not ((call_view log).received x.index) && not (is_session_gone side log x.session)) && (x.session == s)) out (stream_table side log).datagrams
  where
    out : (x : Admitted) → ((not ((call_view log).received x.index) && not (is_session_gone side log x.session)) && (x.session == s)) ≡ false
    out x = by (x.session == s) refl (not (is_session_gone side log x.session)) refl (not ((call_view log).received x.index))
      where
        by : (b : Bool) → (x.session == s) ≡ b → (g : Bool) → not (is_session_gone side log x.session) ≡ g → (k : Bool) → ((k && g) && b) ≡ false
        by true e true h k = absurd (true≢false (sym h ∙ (ap (λ (j : ℕ). not (is_session_gone side log j)) (eqb-true x.session s e) ∙ ap not gone)))
        by true e false h true = refl
        by true e false h false = refl
        by false e true h true = refl
        by false e true h false = refl
        by false e false h true = refl
        by false e false h false = refl

module _ (side : Side) (d : DriverNow) (log : Log) (collected : ℕ) (f : Follows side d log collected) (s : ℕ) (established : was_established (call_view log) s ≡ true) where
  next-datagram-is : option_map as_waiting (next_datagram side log s) ≡ next_datagram_now s d
  next-datagram-is = by (live_in d.work.dispatched.sessions s) refl
    where
      in-window : (x : LiveNow) → live_in d.work.dispatched.sessions s ≡ Some x → option_map as_waiting (next_datagram side log s) ≡ first_datagram x.window.datagrams
      in-window x e = sym (ap (λ (ws : List WaitingDatagram). first_datagram ws) (window-so side d log collected f s x e).datagrams ∙ first-found (λ (w : Admitted). w.session == s) (dispatched side log).datagrams)

      by : (o : Option LiveNow) → live_in d.work.dispatched.sessions s ≡ o → option_map as_waiting (next_datagram side log s) ≡ first_datagram (datagrams_of o)
      by (Some x) e = in-window x e
      by None e = ap (λ (o : Option Admitted). option_map as_waiting o)
          (none-left side log s (gone-where-dead side d log collected f s established e))

  module _ (reached : IsReachable side log) (w : Admitted) (next : next_datagram side log s ≡ Some w) where
    held : Holds side log
    held = reached_holds side log reached

    its : w.session ≡ s
    its = eqb-true w.session s (found-passes (λ (x : Admitted). x.session == s) w (dispatched side log).datagrams next)

    looked : w.index < (stream_table side log).progress.datagrams
    looked = may_receive side log reached s w next

    remains : is_session_gone side log s ≡ false
    remains = refuted (is_session_gone side log s) (λ e. absurd (let none : Some w ≡ None = sym next ∙ none-left side log s e in cc))

    lives : is_living (state_of side log) s ≡ true
    lives = established_lives side log s established remains

    found : find (λ (x : Admitted). x.session == s) (state_of side log).dispatched.datagrams ≡ Some w
    found = ap (λ (x : Dispatched). find (λ (y : Admitted). y.session == s) x.datagrams) (dispatched-of-state side log) ∙ next

    -- nothing goes out with it
    alone : log_call side log [] (DatagramReceived w.index) ≡ Called (DatagramReceived w.index) ∷ log
    alone = record-alone side log (DatagramReceived w.index) d (uncollected_since collected log) f.kept (looked, held.fits)
        (record { unis = refl; bis = refl; sessions = refl; control = refl; encoder = refl; decoder = refl; progress = refl; sent = refl; is_open = refl })

    datagram-given-follows : Follows side (on_sessions (with_live given_datagram s) d) (log_call side log [] (DatagramReceived w.index)) collected
    datagram-given-follows = follows-more side d (on_sessions (with_live given_datagram s) d) log (log_call side log [] (DatagramReceived w.index)) collected [] f (ap actions_of alone)
        (receive-follows side d log (uncollected_since collected log) f.kept held.fits s lives w found its looked)

-- ---- where none waits nothing changes

none-given : (ds : List WaitingDatagram) → first_datagram ds ≡ None → after_first ds ≡ ds
none-given [] e = refl
none-given (x ∷ xs) e = absurd cc

live-as-it-is : (x : LiveNow) → first_datagram x.window.datagrams ≡ None → given_datagram x ≡ x
live-as-it-is x e = ap (λ (ds : List WaitingDatagram). record x { window = record x.window { datagrams = ds } }) (none-given x.window.datagrams e)

living-as-they-are : (s : ℕ) (xs : List LiveNow) → first_datagram (datagrams_of (find (is_live s) xs)) ≡ None → changed_live given_datagram s xs ≡ xs
living-as-they-are s [] e = refl
living-as-they-are s (x ∷ xs) e = by (is_live s x) e (living-as-they-are s xs)
  where
    by : (b : Bool) → first_datagram (datagrams_of (cond b (Some x) (find (is_live s) xs))) ≡ None → (first_datagram (datagrams_of (find (is_live s) xs)) ≡ None → changed_live given_datagram s xs ≡ xs)
        → (if b then given_datagram x ∷ xs else x ∷ changed_live given_datagram s xs) ≡ x ∷ xs
    by true g again = ap (λ (y : LiveNow). y ∷ xs) (live-as-it-is x g)
    by false g again = ap (λ (ys : List LiveNow). x ∷ ys) (again g)

driver-as-it-is : (s : ℕ) (d : DriverNow) → next_datagram_now s d ≡ None → on_sessions (datagram_given s) d ≡ d
driver-as-it-is s d e = ap (λ (xs : List LiveNow). on_sessions (λ z. record z { living = xs }) d) (living-as-they-are s d.work.dispatched.sessions.living e)

-- ---- the call

receives : (s : ℕ) (d : DriverNow)
    → Always d (λ side log collected. HasSession s side log
    → Receives (λ (x : WaitingDatagram). x.payload) side log collected s d (on_sessions (datagram_given s) d) (given_or (next_datagram_now s d) (session_result_now s d)))
receives s d side log collected f reached has = by (next_datagram_now s d) refl
  where
    established : was_established (call_view log) s ≡ true
    established = has_established side log s has

    next-is : option_map as_waiting (next_datagram side log s) ≡ next_datagram_now s d
    next-is = next-datagram-is side d log collected f s established

    none : (o : Option Admitted) → option_map as_waiting o ≡ None → o ≡ None
    none None e = refl
    none (Some w) e = absurd cc

    nothing : on_sessions (datagram_given s) d ≡ d → next_datagram side log s ≡ None → (r : Option DriverError) → session_end side log s ≡ r
        → Receives (λ (x : WaitingDatagram). x.payload) side log collected s d (on_sessions (datagram_given s) d) (polled_by r)
    nothing same n None e = record { none = n; nothing = record { same = same; says = e } }
    nothing same n (Some error) e = record { none = n; nothing = record { same = same; says = e } }

    gives : (x : WaitingDatagram) (o : Option Admitted) → next_datagram side log s ≡ o → option_map as_waiting o ≡ Some x → GivesDatagram side log collected s (on_sessions (datagram_given s) d) x.payload
    gives x None n e = absurd cc
    gives x (Some w) n e = record {
      waiting = w;
      next = n;
      is = ap (λ (o : Option WaitingDatagram). (unwrap_or o (as_waiting w)).payload) e;
      follows = datagram-given-follows side d log collected f s established reached w n;
    }

    by : (o : Option WaitingDatagram) → next_datagram_now s d ≡ o
        → Receives (λ (x : WaitingDatagram). x.payload) side log collected s d (on_sessions (datagram_given s) d) (given_or o (session_result_now s d))
    by None e = nothing (driver-as-it-is s d e) (none (next_datagram side log s) (next-is ∙ e)) (session_result_now s d) (sym (session-result-is side d log collected f s established))
    by (Some x) e = gives x (next_datagram side log s) refl (next-is ∙ e)

pub receive_datagram_law : (s : ℕ) (a : Poll (Result WaitingDatagram DriverError)) (d later : DriverNow)
    → a ≡ given_or (next_datagram_now s d) (session_result_now s d) → later ≡ on_sessions (datagram_given s) d
    → Always d (λ side log collected. HasSession s side log → Receives (λ (x : WaitingDatagram). x.payload) side log collected s d later a)
receive_datagram_law s a d later says step side log collected f reached has =
    subst₂ (λ (x : DriverNow) (y : Poll (Result WaitingDatagram DriverError)). Receives (λ (w : WaitingDatagram). w.payload) side log collected s d x y) (sym step) (sym says) (receives s d side log collected f reached has)
