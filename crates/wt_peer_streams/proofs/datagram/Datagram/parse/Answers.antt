use Rattle.std.proofs.Common.{◌*◌, ◌-◌, ◌∙◌, ap, arith, drop, length, List, ℕ}
use Rattle.std.specs.Prelude.{Ok}
use Rattle.wt_peer_streams.proofs.DatagramLaws.{payload-end}
use Rattle.wt_peer_streams.specs.Admitting.{waiting_datagram}
use Rattle.wt_peer_streams.proofs.datagram.Datagram.parse.Goals as goal

pub overflow_sub-result : goal.overflow_sub-result
overflow_sub-result c =
    let e = (payload-end c.args.bytes.now c.in-Ok.d c.in-Ok.ensures.datagram).within in
    let same = ap length c.payload.ensures in
    omega arith

pub returns-in-Ok-clause-parsed : goal.returns-in-Ok-clause-parsed
returns-in-Ok-clause-parsed c =
    (λ i. Ok (record {
      session = (c.into_session_id.ensures ∙ ap (λ (q : ℕ). 4 * q) c.qstream_id.ensures) i;
      payload = (ap (λ (ys : List ℕ). drop (length c.args.bytes.now - length ys) c.args.bytes.now) c.payload.ensures ∙ (payload-end c.args.bytes.now c.in-Ok.d c.in-Ok.ensures.datagram).back) i;
    }))
    ∙ ap waiting_datagram c.in-Ok.ensures.datagram
