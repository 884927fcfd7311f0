use Rattle.std.proofs.Common.{◌≡◌, ℕ, Option, Some, ap, sym, ◌∙◌, refl}
use Rattle.bx_blink.specs.Walks.{reads_with}
use Rattle.bx_layout.specs.declared.block.Block.{Block}
use Rattle.bx_inodes.proofs.inodes.live_inode.Goals as goal

pub returns-in-None : goal.returns-in-None
returns-in-None g c =
    let there : ◌≡◌ {A = Option Block} (Some c.in-Some.block.now) ((reads_with (g.V.View.held c.args.view.now) (g.V.View.hints c.args.view.now) c.args.draft.now).held c.block_at-at.result c.args.mode) = c.in-Some.ensures in (
      refl,
      λ name. record {
        block = c.in-Some.block.now;
        there = ap (λ (n : ℕ). (reads_with (g.V.View.held c.args.view.now) (g.V.View.hints c.args.view.now) c.args.draft.now).held n c.args.mode) (sym c.block_at-at.ensures) ∙ sym there;
        none = rw c.in-None.is at c.in_ok-inode_in.ensures.none;
      },
    )
