use Rattle.std.proofs.Common.{ap, ◌∙◌}
use Rattle.bx_page.specs.Spelling.{page_bytes}
use Rattle.bx_truth.specs.Opening.{page_block}
use Rattle.bx_format.proofs.blocks.tree_block.Goals as goal

pub returns : goal.returns
unfolding page_block
returns c = let e = c.in_ok-of.ensures ∙ c.write.ensures ∙ ap page_bytes c.new-page.ensures in λ i. record { handle = 4294967297; kind = 2; payload = e i }
