use Rattle.std.proofs.Common.{◌≡◌, ◌+◌, ◌*◌, ◌/◌, ◌%◌, ◌++◌, ℕ, List, arith, ap, sym, ◌∙◌}
use Rattle.bx_tree_parts.specs.Bytes.{bytes_from}
use Rattle.bx_tree_parts.specs.Pieces.{byte_at}
use Rattle.bx_tree_parts.proofs.Places.{bytes_more}
use Rattle.bx_tree_parts.proofs.pieces.Pieces.copy.Goals as goal

pub loop-done-init : goal.loop-done-init
unfolding bytes_from
loop-done-init c = record { most = omega arith; bytes = c.new-bytes.ensures.items }

pub loop-done-preserved : goal.loop-done-preserved
loop-done-preserved c =
    let place : 4096 * ((c.args.start + c.loop-done.done) / 4096) + (c.args.start + c.loop-done.done) % 4096 ≡ c.args.start + c.loop-done.done = omega arith in
    record {
      most = omega (arith, c.min-part.ensures, c.loop-done-test.true);
      bytes =
          c.in_ok-copy_part.ensures
          ∙ ap (λ (l : List ℕ). l ++ bytes_from (byte_at c.args.self.now) (4096 * ((c.args.start + c.loop-done.done) / 4096) + (c.args.start + c.loop-done.done) % 4096) c.min-part.result) c.loop-done.invariant.bytes
          ∙ ap (λ (n : ℕ). bytes_from (byte_at c.args.self.now) c.args.start c.loop-done.done ++ bytes_from (byte_at c.args.self.now) n c.min-part.result) place
          ∙ sym (bytes_more (byte_at c.args.self.now) c.args.start c.loop-done.done c.min-part.result);
    }
