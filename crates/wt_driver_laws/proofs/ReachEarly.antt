-- Before the connection came nothing was found: no fault, and no SETTINGS.
use Rattle.std.proofs.Common.{◌∙◌, ap, refl, sym}
use Rattle.std.specs.Prelude.{[], ◌&&◌, ◌++◌, ◌||◌, ◌∷◌, ◌≡◌, Bool, List, None, Option, Some, false, if◌then◌else◌, map, not, true, ℕ}
use Rattle.wt_driver_laws.proofs.Reach.{Told, told}
use Rattle.wt_driver_laws.specs.Driving.{IsReachable}
use Rattle.wt_meaning.specs.Findings as finds
use Rattle.wt_meaning.specs.Findings.{Finding, fault_of}
use Rattle.wt_meaning.specs.History.{History, Pair, all_events, events, is_open, with_event}
use Rattle.wt_meaning.specs.Lawful.{is_lawful, is_lost, may_come}
use Rattle.wt_meaning.specs.Moments.{ControlFault, DecoderEnd, EncoderEnd, LocalStop, ReadSettings, WalkSession, after_checks, after_moments, checks, findings}
use Rattle.wt_meaning.specs.Windows.{is_established, session_in}
use Rattle.wt_promise.proofs.Accepted.{and-left}
use Rattle.wt_promise.proofs.Established.{established-rightly}
use Rattle.wt_promise.proofs.Flow.{clash}
use Rattle.wt_promise.proofs.Phases.{same-established}
use Rattle.wt_promise.proofs.SettingsOut.{open-events}
use Rattle.wt_promise.specs.Promise.{IsHistory}
use Rattle.wt_turn.specs.Reports.{datagrams_of, is_connected, stop_of}
use Rattle.wt_turn.specs.Streams.{local_uni, peer_bi, peer_count, peer_uni}
use Rattle.wt_sessions.specs.Driver.{settings_came, stream_table}
use Rattle.wt_turn.specs.Log.{Event, Log, events_of}
use Rattle.wt_turn.specs.Turns.{event_of}
use Rattle.wt_turn.specs.declared.answer.Answer.{Answer}
use Rattle.wt_turn.specs.declared.reply.Reply.{Reply}
use Rattle.wt_turn.specs.declared.turn.Turn.{Turn}
use Rattle.wt_wire.specs.declared.side.Side.{Side}
use Rattle.wt_turn.specs.declared.reply.Reply.TheVariants as replies
use Rattle.wt_turn.specs.declared.turn.Turn.TheVariants as turns

-- ---- what came before the connection

-- no stream, no datagram, no stop
record Early (side : Side) (es : List Event) : Type 0 where
  unis : peer_count side es (peer_uni side) ≡ 0
  bis : peer_count side es (peer_bi side) ≡ 0
  datagrams : datagrams_of es ≡ []
  stop : (k : ℕ) → stop_of es k ≡ None

-- a turn of the transport but a loss comes after the connection
event-early : (side : Side) (h : History) (turn : Turn) → is_lawful side h turn ≡ true → is_open h ≡ true → is_connected (with_event (event_of turn) (events h)) ≡ false
    → (is_connected (events h) ≡ false → Early side (events h)) → Early side (with_event (event_of turn) (events h))
event-early side h (turns.Call c) l o n again = again n
event-early side h (turns.Connected uni bi total fact) l o n again = absurd (cc n)
event-early side h (turns.Loss reason) l o n again = let e = again n in record { unis = e.unis; bis = e.bis; datagrams = e.datagrams; stop = e.stop }
event-early side h turn l o n again = absurd (clash (is_connected (events h)) (ap is_connected (open-events h o) ∙ and-left (is_connected (all_events h)) (not (is_lost h)) (and-left (is_connected (all_events h) && not (is_lost h)) (may_come side h turn) l)) n)

events-early : (side : Side) (h : History) → IsHistory side h → is_connected (events h) ≡ false → Early side (events h)
events-early side [] i n = record { unis = refl; bis = refl; datagrams = refl; stop = λ k. refl }
events-early side (p ∷ h) i n = by (is_open h) refl n (events-early side h i.2)
  where
    by : (b : Bool) → is_open h ≡ b → is_connected (if b then with_event (event_of p.turn) (events h) else events h) ≡ false → (is_connected (events h) ≡ false → Early side (events h))
        → Early side (if b then with_event (event_of p.turn) (events h) else events h)
    by true o m again = event-early side h p.turn i.0 o m again
    by false o m again = again m

-- what isn't connected wasn't before
unconnected-before : (p : Pair) (h : History) → is_connected (events (p ∷ h)) ≡ false → is_connected (events h) ≡ false
unconnected-before p h n = by (is_open h) (event_of p.turn) n
  where
    added : (a b : Bool) → (a || b) ≡ false → b ≡ false
    added true b e = absurd (cc e)
    added false b e = e

    by : (b : Bool) (o : Option Event) → is_connected (if b then with_event o (events h) else events h) ≡ false → is_connected (events h) ≡ false
    by true None m = m
    by true (Some e) m = added _ (is_connected (events h)) m
    by false o m = m

-- ---- what was found by then

-- a moment without streams, datagrams and sessions finds nothing
module _ (side : Side) (g : History) (early : Early side (events g)) (none : (s : ℕ) → is_established g s ≡ false) where
  walks-none : (ids : List ℕ) → after_checks side g (map WalkSession ids ++ LocalStop ∷ ReadSettings ∷ ControlFault ∷ EncoderEnd ∷ DecoderEnd ∷ []) [] ≡ []
  walks-none [] = rw (early.stop (local_uni side)) refl
  walks-none (s ∷ ids) = rw (none s) (walks-none ids)

  checks-none : after_checks side g (checks side g) [] ≡ []
  checks-none = rw (early.unis, early.bis, early.datagrams) (walks-none _)

  moments-none : (r : Reply) → after_moments side g r [] ≡ []
  moments-none (replies.Session id) = ap (after_checks side g (checks side g)) checks-none ∙ checks-none
  moments-none r = checks-none

-- nothing was found, and no session was established
record Nothing (side : Side) (h : History) : Type 0 where
  found : findings side h ≡ []
  none : (s : ℕ) → is_established h s ≡ false

nothing : (side : Side) (h : History) → IsHistory side h → is_connected (events h) ≡ false → Nothing side h
unfolding findings
nothing side [] i n = record { found = refl; none = λ s. refl }
nothing side (p ∷ h) i n = of (nothing side h i.2 (unconnected-before p h n))
  where
    of : Nothing side h → Nothing side (p ∷ h)
    of x = record { found = by (is_open h); none = none }
      where
        unsettled : finds.settings_came (findings side h) ≡ true → ⊥
        unsettled e = clash (finds.settings_came (findings side h)) e (ap finds.settings_came x.found)

        none : (s : ℕ) → is_established (p ∷ h) s ≡ false
        none s = of-reply (session_in p.answer.reply) refl
          where
            of-reply : (o : Option ℕ) → session_in p.answer.reply ≡ o → is_established (p ∷ h) s ≡ false
            of-reply None q = same-established p h s q ∙ x.none s
            of-reply (Some t) q = absurd (unsettled (established-rightly side h p.turn i.2 i.0 t (ap (λ (a : Answer). session_in a.reply) (sym i.1) ∙ q)).settings)

        by : (b : Bool) → (if b then after_moments side (p ∷ h) p.answer.reply (findings side h) else findings side h) ≡ []
        by true = ap (after_moments side (p ∷ h) p.answer.reply) x.found ∙ moments-none side (p ∷ h) (events-early side (p ∷ h) i n) none p.answer.reply
        by false = x.found

-- ---- so the table has none of it

pub unconnected : (side : Side) (log : Log) → IsReachable side log → is_connected (events_of log) ≡ false → ((stream_table side log).progress.fault ≡ None) × (settings_came side log ≡ false)
unconnected side log r n = (sym t.stands.table.fault ∙ ap fault_of f, sym t.stands.table.settings ∙ ap finds.settings_came f)
  where
    t : Told side log
    t = told side log r

    f : findings side t.h ≡ []
    f = (nothing side t.h t.hist (ap is_connected t.stands.came.events ∙ n)).found
