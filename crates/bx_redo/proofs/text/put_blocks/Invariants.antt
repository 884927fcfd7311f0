use Rattle.std.proofs.Common.{take}
use Rattle.std.specs.List.{flat_map}
use Rattle.bx_base.specs.Writing.{Writes}
use Rattle.bx_layout.specs.Blocks.{block_text}
use Rattle.bx_records.specs.Drafts.{Changed}
use Rattle.bx_redo.proofs.text.put_blocks.Given as goal

abbrev pub invariant-loop-block : goal.invariant-loop-block
invariant-loop-block l = Writes l.fn.into l.into 0 l.end (flat_map (λ (change : Changed). block_text change.1) (take l.block-index l.blocks))
