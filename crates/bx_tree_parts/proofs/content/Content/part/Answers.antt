use Rattle.std.proofs.Common.{ℕ, List, take, drop, ap, ◌∙◌}
use Rattle.bx_tree_parts.specs.Pieces.{byte_at}
use Rattle.bx_tree_parts.proofs.Contents.{part_is}
use Rattle.bx_tree_parts.proofs.content.Content.part.Goals as goal

pub returns : goal.returns
returns c =
    c.from.ensures
    ∙ c.in_ok-bytes.ensures
    ∙ part_is (byte_at c.self.inside.pieces) c.self.inside.size c.args.offset c.args.count c.min-start.result c.min-len.result c.min-start.ensures c.min-len.ensures
    ∙ ap (λ (bytes : List ℕ). take c.args.count (drop c.args.offset bytes)) c.self.view_is
