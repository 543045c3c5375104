-- A call past the handshake leaves the sessions, and where the handshake is.
use Rattle.std.proofs.Common.{refl}
use Rattle.std.specs.Prelude.{◌≡◌, Option, false, ℕ}
use Rattle.wt_core.specs.Calls.{is_handshake}
use Rattle.wt_core.specs.Held.{Held, accepted, begun, held_after, polled, stopped}
use Rattle.wt_turn.specs.declared.call.Call.{Call}
use Rattle.wt_turn.specs.declared.call.Call.TheVariants as calls
use Rattle.wt_turn.specs.declared.reply.Reply.{Reply}
use Rattle.wt_turn.specs.declared.reply.Reply.TheVariants as replies

-- both have the same sessions, and are equally far
pub record Apart (g h : Held) : Type 0 where
  pub sessions : g.sessions ≡ h.sessions
  pub stage : g.stage ≡ h.stage
  pub requested : g.requested ≡ h.requested

pub accepted-apart : (r : Reply) (h : Held) → Apart (accepted r h) h
accepted-apart (replies.Uni k) h = record { sessions = refl; stage = refl; requested = refl }
accepted-apart (replies.Bi k) h = record { sessions = refl; stage = refl; requested = refl }
accepted-apart _ h = record { sessions = refl; stage = refl; requested = refl }

pub begun-apart : (name : Option ℕ) (r : Reply) (h : Held) → Apart (begun name r h) h
begun-apart name (replies.Opening k) h = record { sessions = refl; stage = refl; requested = refl }
begun-apart name _ h = record { sessions = refl; stage = refl; requested = refl }

pub polled-apart : (id : ℕ) (r : Reply) (h : Held) → Apart (polled id r h) h
polled-apart id (replies.SendReady k) h = record { sessions = refl; stage = refl; requested = refl }
polled-apart id (replies.BiReady k) h = record { sessions = refl; stage = refl; requested = refl }
polled-apart id (replies.OpeningFailed e) h = record { sessions = refl; stage = refl; requested = refl }
polled-apart id _ h = record { sessions = refl; stage = refl; requested = refl }

pub stopped-apart : (id : ℕ) (r : Reply) (h : Held) → Apart (stopped id r h) h
stopped-apart id replies.Done h = record { sessions = refl; stage = refl; requested = refl }
stopped-apart id _ h = record { sessions = refl; stage = refl; requested = refl }

pub stays-apart : (call : Call) (r : Reply) (h : Held) → is_handshake call ≡ false → Apart (held_after call r h) h
stays-apart (calls.Connect options lookup outcome) r h e = absurd cc
stays-apart calls.Incoming r h e = absurd cc
stays-apart (calls.Accept headers) r h e = absurd cc
stays-apart calls.Forbidden r h e = absurd cc
stays-apart calls.NotFound r h e = absurd cc
stays-apart calls.TooManyRequests r h e = absurd cc
stays-apart calls.Handshake r h e = absurd cc
stays-apart (calls.AcceptUni name) r h e = accepted-apart r h
stays-apart (calls.AcceptBi name) r h e = accepted-apart r h
stays-apart (calls.OpenUni name) r h e = begun-apart name r h
stays-apart (calls.OpenBi name) r h e = begun-apart name r h
stays-apart (calls.PollOpening id) r h e = polled-apart id r h
stays-apart (calls.StopRecv id code) r h e = stopped-apart id r h
stays-apart _ r h e = record { sessions = refl; stage = refl; requested = refl }
