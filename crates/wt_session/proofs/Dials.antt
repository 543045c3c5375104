-- A connect begins: by its target it fails, or dials.
use Rattle.std.proofs.Common.{◌∙◌, ap, refl, subst, sym}
use Rattle.std.proofs.lemmas.Bool.{and_parts}
use Rattle.std.specs.Prelude.{[], ◌&&◌, ◌∷◌, ◌≡◌, Err, List, None, Ok, Option, Result, true, ℕ}
use Rattle.url.specs.Parser.{parse_url}
use Rattle.wt_driver_laws.specs.Calling.{Did}
use Rattle.wt_driver_laws.specs.Driving.{Follows, IsReachable}
use Rattle.wt_kept.specs.Kept.{DriverNow}
use Rattle.wt_meaning.specs.Lawful.{is_client}
use Rattle.wt_meaning.specs.Targets.{Target, request_frame, reserved_name}
use Rattle.wt_meaning.specs.Targets as meaning
use Rattle.wt_message.specs.FixedBytes.{headers_frame_bytes}
use Rattle.wt_session.proofs.AtRest.{at-rest}
use Rattle.wt_session.proofs.Sessions.{Rests, later-within, within}
use Rattle.wt_session.proofs.TargetLaws.{target_is}
use Rattle.wt_session.specs.ConnectTarget.{target_of, with_request}
use Rattle.wt_session.specs.Connects.{IsNewConnect, IsRequestFor, begun_as}
use Rattle.wt_session.specs.Handshakes.{Connect, Dialled, HasConnect, Reserved}
use Rattle.wt_session.specs.declared.connect_target.ConnectTarget.{ConnectTarget}
use Rattle.wt_sessions.specs.Answers.{call_effect, is_first}
use Rattle.wt_sessions.specs.Connect.{dial}
use Rattle.wt_sessions.specs.Effect.{Effect}
use Rattle.wt_sessions.specs.Handshake.{Connecting}
use Rattle.wt_turn.specs.Log.{Called, ConnectStarted, HandshakeOver, Log, Sent, with_actions}
use Rattle.wt_turn.specs.declared.action.Action.TheVariants as actions
use Rattle.wt_turn.specs.declared.call.Call.TheVariants as calls
use Rattle.wt_turn.specs.declared.connecting_error.ConnectingError.{ConnectingError}
use Rattle.wt_turn.specs.declared.reply.Reply.TheVariants as replies
use Rattle.wt_wire.specs.HeaderList.{Fields}
use Rattle.wt_wire.specs.declared.lookup.ConnectOutcome.{ConnectOutcome}
use Rattle.wt_wire.specs.declared.lookup.Lookup.{Lookup}
use Rattle.wt_wire.specs.declared.side.Side.{Side}

-- nothing came before a connect, which is a client's
pub first-of-client : (side : Side) (log : Log) → (is_client side && is_first log) ≡ true → (is_client side ≡ true) × (log ≡ [])
first-of-client side log may = let p = and_parts (is_client side) (is_first log) may in (p.0, by log p.1)
  where
    by : (l : Log) → is_first l ≡ true → l ≡ []
    by [] e = refl
    by (x ∷ l) e = absurd cc

-- the target with its request
abbrev pub whole-target : ConnectTarget → Fields → Target
whole-target t headers = record { address = t.address; name = t.server_name; frame = request_frame t.authority t.path headers; reserved = reserved_name headers }

pub new-connect : (t : ConnectTarget) (headers : Fields) (r : Result Fields (List ℕ)) → IsRequestFor t.authority t.path headers r → IsNewConnect (whole-target t headers) (begun_as r)
new-connect t headers (Ok request) x = (x.1, ap headers_frame_bytes x.0)
new-connect t headers (Err name) x = x

module _ (url : List ℕ) (headers : Fields) (lookup : Lookup) (outcome : ConnectOutcome) where
  pub target-by : (r : Result ConnectTarget ConnectingError) → r ≡ target_of url lookup outcome → meaning.target_of (parse_url None url) headers lookup outcome ≡ with_request headers r
  target-by r e = target_is url headers lookup outcome ∙ ap (with_request headers) (sym e)

  module _ (side : Side) (log : Log) (collected : ℕ) (d : DriverNow) (rests : Rests d) (r : IsReachable side log) where
    effect-by : (t : Result Target ConnectingError) → meaning.target_of (parse_url None url) headers lookup outcome ≡ t → call_effect side log (calls.Connect (url, headers) lookup outcome) ≡ dial side log t
    unfolding call_effect
    effect-by t e = ap (dial side log) e

    pub begin-fails : (e : ConnectingError) → meaning.target_of (parse_url None url) headers lookup outcome ≡ Err e → Follows side d log collected
        → Did side d collected (replies.ConnectFailed e) (call_effect side log (calls.Connect (url, headers) lookup outcome))
    begin-fails e is f = subst (λ (x : Effect). Did side d collected (replies.ConnectFailed e) x) (sym (effect-by (Err e) is)) (record { reply = refl; log = rests HandshakeOver refl side log collected f (within side log r) })

    module _ (t : Target) (is : meaning.target_of (parse_url None url) headers lookup outcome ≡ Ok t) (f : Follows side d (with_actions (actions.Dial t.address t.name ∷ []) log) collected) where
      pub begin-dials : Did side d collected replies.Pending (call_effect side log (calls.Connect (url, headers) lookup outcome))
      begin-dials = subst (λ (x : Effect). Did side d collected replies.Pending x) (sym (effect-by (Ok t) is))
          (record { reply = refl; log = rests (ConnectStarted t.reserved t.frame) refl side _ collected f (later-within side log (actions.Dial t.address t.name ∷ []) r) })

      pub begin-goes-on : (c : Connect) → IsNewConnect t c → is_client side ≡ true → log ≡ [] → HasConnect c side (call_effect side log (calls.Connect (url, headers) lookup outcome)).log
      begin-goes-on c new client empty =
          subst (λ (l : Log). HasConnect c side l) (sym (ap (λ (x : Effect). x.log) (effect-by (Ok t) is)
          ∙ at-rest side (with_actions (actions.Dial t.address t.name ∷ []) log) collected d (ConnectStarted t.reserved t.frame) refl f (later-within side log (actions.Dial t.address t.name ∷ []) r)
          ∙ ap (λ (l : Log). Called (ConnectStarted t.reserved t.frame) ∷ Sent (actions.Dial t.address t.name) ∷ l) empty)) (by c new)
        where
          by : (c : Connect) → IsNewConnect t c → HasConnect c side (Called (ConnectStarted t.reserved t.frame) ∷ Sent (actions.Dial t.address t.name) ∷ [])
          by (Reserved name) n = (client, (t.frame, ap (λ (o : Option (List ℕ)). Connecting o t.frame) n))
          by (Dialled head) n = (client, (ap (λ (o : Option (List ℕ)). Connecting o t.frame) n.0 ∙ ap (Connecting None) (sym n.1), refl))
          by _ n = absurd n
