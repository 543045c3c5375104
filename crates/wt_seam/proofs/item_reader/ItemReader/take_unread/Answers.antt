use Rattle.std.proofs.Common.{◌≡◌, ◌-◌, ◌∷◌, ◌++◌, ℕ, List, length, drop, ap, subst, ◌∙◌, arith}
use Rattle.std.proofs.lemmas.List.{length-drop, take-append-drop}
use Rattle.wt_proto.specs.WalkProgress.{Advances}
use Rattle.wt_proto.proofs.AdvanceLaws.{advance-then}
use Rattle.wt_transport.specs.Step.{after_consume, unread_now}
use Rattle.wt_seam.proofs.Consuming.{taken-unread, taken-more}
use Rattle.wt_seam.proofs.Taking.{took-first}
use Rattle.wt_seam.proofs.item_reader.ItemReader.take_unread.Goals as goal

pub consume-requires : goal.consume-requires
consume-requires g c =
    let left : length (unread_now c.loop-consumed.t c.args.id) ≡ length (unread_now c.args.t.now c.args.id) - c.loop-consumed.consumed =
    ap (λ u. length (unread_now u c.args.id)) c.loop-consumed.invariant.state ∙ (ap length (taken-unread c.args.t.now c.args.id c.requires c.loop-consumed.consumed) ∙ length-drop c.loop-consumed.consumed (unread_now c.args.t.now c.args.id)) in
    omega (arith, left, c.min-count.ensures, c.unread-unread.ensures.now)

pub loop-consumed-preserved-then-self-gt0 : goal.loop-consumed-preserved-then-self-gt0
loop-consumed-preserved-then-self-gt0 g c =
    let n = c.min-count.result in
    let len : length (drop c.loop-consumed.consumed (unread_now c.args.t.now c.args.id)) ≡ length (unread_now c.args.t.now c.args.id) - c.loop-consumed.consumed = length-drop c.loop-consumed.consumed (unread_now c.args.t.now c.args.id) in
    record {
      advances = advance-then g.G.Grammar.decides c.self.invariant.steady _ _ _ _ _ _ c.loop-consumed.invariant.advances
          (c.skip_some.ensures.advances (drop c.loop-consumed.consumed (unread_now c.args.t.now c.args.id)) (omega (arith, len, c.min-count.ensures, c.unread-unread.ensures.now)));
      state = c.consume.ensures.now ∙ (ap (λ u. after_consume u c.args.id n) c.loop-consumed.invariant.state
          ∙ taken-more c.args.t.now c.args.id c.requires c.loop-consumed.consumed n (omega (arith, c.min-count.ensures, c.if-self-gt0.true, c.loop-consumed-test.true)));
      limit = c.unread-unread.ensures.now;
    }

pub next_byte-byte-requires : goal.next_byte-byte-requires
next_byte-byte-requires g c =
    let left : length (unread_now c.loop-consumed.t c.args.id) ≡ length (unread_now c.args.t.now c.args.id) - c.loop-consumed.consumed =
    ap (λ u. length (unread_now u c.args.id)) c.loop-consumed.invariant.state ∙ (ap length (taken-unread c.args.t.now c.args.id c.requires c.loop-consumed.consumed) ∙ length-drop c.loop-consumed.consumed (unread_now c.args.t.now c.args.id)) in
    omega (arith, left, c.loop-consumed-test.true, c.unread-unread.ensures.now)

pub loop-consumed-preserved : goal.loop-consumed-preserved
loop-consumed-preserved g c =
    let v = unread_now c.loop-consumed.t c.args.id in
    let same : v ≡ drop c.loop-consumed.consumed (unread_now c.args.t.now c.args.id) =
    ap (λ u. unread_now u c.args.id) c.loop-consumed.invariant.state ∙ taken-unread c.args.t.now c.args.id c.requires c.loop-consumed.consumed in
    let front : c.next_byte-byte.result ∷ drop 1 v ≡ v = ap (λ (xs : List ℕ). xs ++ drop 1 v) c.next_byte-byte.ensures.byte ∙ take-append-drop 1 v in
    record {
      advances = advance-then g.G.Grammar.decides c.self.invariant.steady _ _ _ _ _ _ c.loop-consumed.invariant.advances
          (subst (λ (xs : List ℕ). Advances g.G.Grammar.decides c.loop-consumed.self c.keep.new.self xs 1) (front ∙ same) (c.in-Ok.ensures.advances (drop 1 v)));
      state = c.consume-in-Ok.ensures.now ∙ (ap (λ u. after_consume u c.args.id 1) c.loop-consumed.invariant.state
          ∙ taken-more c.args.t.now c.args.id c.requires c.loop-consumed.consumed 1 (omega arith));
      limit = c.unread-unread.ensures.now;
    }

pub returns-in-Err-clause-err : goal.returns-in-Err-clause-err
returns-in-Err-clause-err g c =
    (c.loop-consumed.consumed, took-first g.G.Grammar.decides c.args.self.now c.loop-consumed.self c.keep.new.self c.args.t.now c.loop-consumed.t c.args.id c.loop-consumed.consumed c.loop-consumed.invariant.advances c.in-Err.ensures.err c.loop-consumed.invariant.state)
