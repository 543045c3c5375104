-- A turn of the transport after the end changes no later answer: what the answers ask of a history passes over it.
use Rattle.std.specs.Prelude.{[], ◌++◌, ◌==◌, ◌∷◌, ◌||◌, ◌≡◌, Bool, List, None, Option, Some, false, filter_map, if◌then◌else◌, not, suc, true, ℕ}
use Rattle.std.specs.List.{cons_option, list_any}
use Rattle.std.specs.Option.{option_or}
use Rattle.std.proofs.Common.{◌∙◌, ap, refl, sym}
use Rattle.std.proofs.lemmas.List.{append-nil}
use Rattle.wt_meaning.specs.Calls.{opened_by, opening_ends}
use Rattle.wt_meaning.specs.Findings.{first_of}
use Rattle.wt_meaning.specs.Halves.{priority_by, read_by, was_read}
use Rattle.wt_meaning.specs.Handshakes.{begun_by}
use Rattle.wt_meaning.specs.History.{History, Pair, actions_out, answers_reset, answers_stop, contents, ends_by, events, hands_out, is_open, with_bytes, with_event}
use Rattle.wt_meaning.specs.Moments.{findings}
use Rattle.wt_meaning.specs.Rows.{answer}
use Rattle.wt_meaning.specs.Windows.{establishes, first_session, gone_in, is_gone_by_call, is_number, named, received_count, receives, requests}
use Rattle.wt_promise.proofs.Facts.{ended-found}
use Rattle.wt_turn.specs.Joined.{newest_first}
use Rattle.wt_turn.specs.Turns.{event_of, is_call}
use Rattle.wt_turn.specs.declared.reply.Reply.{Reply}
use Rattle.wt_turn.specs.declared.turn.Turn.{Turn}
use Rattle.wt_wire.specs.declared.side.Side.{Side}
use Rattle.wt_turn.specs.declared.call.Call.TheVariants as calls
use Rattle.wt_turn.specs.declared.reply.Reply.TheVariants as replies
use Rattle.wt_turn.specs.declared.turn.Turn.TheVariants as turns

-- what answers ask of a history is the same of both, which have ended
pub record Same (side : Side) (h g : History) : Type 0 where
  pub shut : is_open h ≡ false
  pub shut_too : is_open g ≡ false
  pub events_same : events g ≡ events h
  pub contents_same : (k : ℕ) → contents g k ≡ contents h k
  pub actions_same : actions_out g ≡ actions_out h
  pub found : findings side g ≡ findings side h
  pub handed : (k : ℕ) → list_any (λ (p : Pair). hands_out k p.answer.reply) g ≡ list_any (λ (p : Pair). hands_out k p.answer.reply) h
  pub stops : (k : ℕ) → list_any (λ (p : Pair). answers_stop k p.turn p.answer.reply) g ≡ list_any (λ (p : Pair). answers_stop k p.turn p.answer.reply) h
  pub resets : (k : ℕ) → list_any (λ (p : Pair). answers_reset k p.turn p.answer.reply) g ≡ list_any (λ (p : Pair). answers_reset k p.turn p.answer.reply) h
  pub over : (k : ℕ) → list_any (λ (p : Pair). opening_ends k p.turn p.answer.reply) g ≡ list_any (λ (p : Pair). opening_ends k p.turn p.answer.reply) h
  pub opened : (k : ℕ) → first_of (λ (p : Pair). opened_by k p.turn p.answer.reply) g ≡ first_of (λ (p : Pair). opened_by k p.turn p.answer.reply) h
  pub priorities : (k : ℕ) → first_of (λ (p : Pair). priority_by k p.turn p.answer.reply) g ≡ first_of (λ (p : Pair). priority_by k p.turn p.answer.reply) h
  pub begun : first_of (λ (p : Pair). begun_by p.turn) g ≡ first_of (λ (p : Pair). begun_by p.turn) h
  pub asked : filter_map requests g ≡ filter_map requests h
  pub last : first_of requests g ≡ first_of requests h
  pub established : filter_map establishes g ≡ filter_map establishes h
  pub first : first_session g ≡ first_session h
  pub reads : (k : ℕ) → was_read g k ≡ was_read h k
  pub received : (s : ℕ) → received_count g s ≡ received_count h s
  pub gone : (s : ℕ) → is_gone_by_call g s ≡ is_gone_by_call h s

-- a turn of the transport that is Done
abbrev pub late : Turn → Pair
late turn = record { turn = turn; answer = answer replies.Done [] }

pub still-shut : (p : Pair) (h : History) → is_open h ≡ false → is_open (p ∷ h) ≡ false
still-shut p h e = by (ends_by p) (list_any ends_by h) e
  where
    by : (a b : Bool) → not b ≡ false → not (a || b) ≡ false
    by true b q = refl
    by false b q = q

pub now : (side : Side) (h : History) (turn : Turn) → is_open h ≡ false → is_call turn ≡ false → Same side h (late turn ∷ h)
now side h (turns.Call c) o e = absurd (cc e)
now side h turn o e = record {
  shut = o;
  shut_too = still-shut (late turn) h o;
  events_same = ap (λ (b : Bool). if b then with_event (event_of turn) (events h) else events h) o;
  contents_same = λ k. ap (λ (b : Bool). if b then with_bytes k turn (contents h k) else contents h k) o;
  actions_same = refl;
  found = ended-found side (late turn) h o;
  handed = λ k. refl;
  stops = λ k. refl;
  resets = λ k. refl;
  over = λ k. refl;
  opened = λ k. refl;
  priorities = λ k. refl;
  begun = refl;
  asked = refl;
  last = refl;
  established = refl;
  first = or-none (first_session h);
  reads = λ k. append-nil (was_read h k);
  received = λ s. refl;
  gone = λ s. refl;
}
  where
    or-none : (o : Option ℕ) → option_or o None ≡ o
    or-none None = refl
    or-none (Some s) = refl

pub named-same : (side : Side) (h g : History) → Same side h g → (name : Option ℕ) → named g name ≡ named h name
named-same side h g s None = s.first
named-same side h g s (Some t) = ap (λ (l : List ℕ). if list_any (λ (id : ℕ). id == t) l then Some t else None) s.established

receives-same : (side : Side) (h g : History) → Same side h g → (s : ℕ) (turn : Turn) (r : Reply) → receives g s turn r ≡ receives h s turn r
receives-same side h g e s (turns.Call (calls.ReceiveDatagram name)) (replies.Datagram payload) = ap (is_number s) (named-same side h g e name)
receives-same side h g e s (turns.Call (calls.ReceiveDatagram name)) r = refl
receives-same side h g e s (turns.Call c) r = refl
receives-same side h g e s turn r = refl

gone-same : (side : Side) (h g : History) → Same side h g → (turn : Turn) (r : Reply) → gone_in g turn r ≡ gone_in h turn r
gone-same side h g e turn replies.Rejected = e.last
gone-same side h g e (turns.Call (calls.EndSession name)) r = rw (e.shut, e.shut_too) refl
gone-same side h g e turn r = refl

pub later : (side : Side) (h g : History) (q : Pair) → Same side h g → Same side (q ∷ h) (q ∷ g)
later side h g q s = record {
  shut = still-shut q h s.shut;
  shut_too = still-shut q g s.shut_too;
  events_same = rw (s.shut, s.shut_too) s.events_same;
  contents_same = λ k. rw (s.shut, s.shut_too) (s.contents_same k);
  actions_same = ap (newest_first q.answer.actions) s.actions_same;
  found = ended-found side q g s.shut_too ∙ s.found ∙ sym (ended-found side q h s.shut);
  handed = λ k. ap (λ (b : Bool). hands_out k q.answer.reply || b) (s.handed k);
  stops = λ k. ap (λ (b : Bool). answers_stop k q.turn q.answer.reply || b) (s.stops k);
  resets = λ k. ap (λ (b : Bool). answers_reset k q.turn q.answer.reply || b) (s.resets k);
  over = λ k. ap (λ (b : Bool). opening_ends k q.turn q.answer.reply || b) (s.over k);
  opened = λ k. ap (option_or (opened_by k q.turn q.answer.reply)) (s.opened k);
  priorities = λ k. ap (option_or (priority_by k q.turn q.answer.reply)) (s.priorities k);
  begun = ap (option_or (begun_by q.turn)) s.begun;
  asked = ap (cons_option (requests q)) s.asked;
  last = ap (option_or (requests q)) s.last;
  established = ap (cons_option (establishes q)) s.established;
  first = ap (λ (o : Option ℕ). option_or o (establishes q)) s.first;
  reads = λ k. ap (λ (l : List ℕ). l ++ read_by k q.turn q.answer.reply) (s.reads k);
  received = λ t. ap (λ (b : Bool). if b then suc (received_count g t) else received_count g t) (receives-same side h g s t q.turn q.answer.reply) ∙ ap (λ (n : ℕ). if receives h t q.turn q.answer.reply then suc n else n) (s.received t);
  gone = λ t. ap (λ (o : Option ℕ). is_number t o || is_gone_by_call g t) (gone-same side h g s q.turn q.answer.reply) ∙ ap (λ (b : Bool). is_number t (gone_in h q.turn q.answer.reply) || b) (s.gone t);
}
