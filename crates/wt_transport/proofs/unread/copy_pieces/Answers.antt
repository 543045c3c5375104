use Rattle.std.proofs.Common.{◌≡◌, ◌<◌, ◌+◌, ◌++◌, ℕ, List, length, take, drop, get_or, min, sym, ap, ◌∙◌, arith}
use Rattle.std.specs.List.{concat}
use Rattle.std.proofs.lemmas.List.{take_more}
use Rattle.wt_transport.proofs.PieceLaws.{concat_push}
use Rattle.wt_transport.proofs.Copying.{more_at, more_copied}
use Rattle.wt_transport.proofs.unread.copy_pieces.Goals as goal

pub loop-index-preserved : goal.loop-index-preserved
loop-index-preserved c =
    let items : List (List ℕ) = c.args.pieces.now.items in
    let offset : ℕ = c.loop-index.offset in
    let n : ℕ = c.copy_at-offset.result in
    let old : List ℕ = c.args.buffer.now in
    let piece : List ℕ = c.as_slice.result.now in
    let done : List ℕ = concat (take c.loop-index.index items) in
    let inside : c.loop-index.index < length items = omega (arith, c.len.ensures) in
    let here : get_or items c.loop-index.index c.index.result.now ≡ piece = sym (c.as_slice.ensures ∙ c.index.ensures) in
    let more : concat (take (c.loop-index.index + 1) items) ≡ done ++ piece =
    ap concat (take_more items c.loop-index.index c.index.result.now inside) ∙ concat_push (take c.loop-index.index items) _ ∙ ap (λ xs. done ++ xs) here in
    record {
      offset = more_at done piece old c.loop-index.buffer offset n c.loop-index.invariant.offset c.loop-index.auto.buffer c.loop-index.invariant.bytes c.copy_at-offset.ensures.count
          ∙ ap (λ xs. min (length old) (length xs)) (sym more);
      bytes = c.copy_at-offset.ensures.bytes
          ∙ more_copied done piece old c.loop-index.buffer offset n c.loop-index.invariant.offset c.loop-index.auto.buffer c.loop-index.invariant.bytes c.copy_at-offset.ensures.count
          ∙ ap (λ xs. take (offset + n) xs ++ drop (offset + n) old) (sym more);
    }
