use Rattle.std.proofs.Common.{◌≡◌, ℕ, List, [], ap, ◌∙◌}
use Rattle.bx_base.specs.Writing.{padded}
use Rattle.bx_layout.specs.Inodes.{inode_text}
use Rattle.bx_truth.specs.Opening.{opening_inode, root_block}
use Rattle.bx_format.proofs.blocks.inode_block.Goals as goal

without_path : (path : List ℕ) → path ≡ [] → padded 4096 (inode_text (record opening_inode { path = path })) ≡ padded 4096 (inode_text opening_inode)
without_path path none = ap (λ (p : List ℕ). padded 4096 (inode_text (record opening_inode { path = p }))) none

pub returns : goal.returns
unfolding root_block
returns c = let e = c.in_ok-of-2.ensures ∙ c.write.ensures ∙ without_path c.in_ok-of.field-0 c.in_ok-of.ensures in λ i. record { handle = 1; kind = 1; payload = e i }
