use Rattle.std.proofs.Common.{ap, refl, ◌∙◌}
use Rattle.bx_tree_parts.specs.Contents.{sized}
use Rattle.bx_tree_parts.specs.Pieces.{byte_at}
use Rattle.bx_tree_parts.proofs.Contents.{resized}
use Rattle.bx_tree_parts.proofs.content.Content.resize.Goals as goal
use Rattle.bx_tree_parts.proofs.content.Content.resize.Goals.{then-size-self, else-size-self}

pub returns : goal.returns
returns c =
    elim c.if-size-self.branch [
      | then-size-self w ↦
          rw w.self-inside-is
          (resized (byte_at c.self.inside.pieces) (byte_at w.cut.new.self) c.self.inside.size c.args.size c.self.invariant.behind w.cut.ensures.cleared.before
          ∙ ap (sized c.args.size) c.self.view_is)
      | else-size-self w ↦
          rw w.self-inside-is
          (resized (byte_at c.self.inside.pieces) (byte_at c.self.inside.pieces) c.self.inside.size c.args.size c.self.invariant.behind (λ place less. refl)
          ∙ ap (sized c.args.size) c.self.view_is)
    ]
