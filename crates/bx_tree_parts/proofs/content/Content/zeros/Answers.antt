use Rattle.std.proofs.Common.{◌+◌, sym}
use Rattle.bx_tree_parts.specs.Pieces.{byte_at}
use Rattle.bx_tree_parts.proofs.Places.{zero_bytes}
use Rattle.bx_tree_parts.proofs.content.Content.zeros.Goals as goal

pub returns : goal.returns
returns c = sym (zero_bytes (byte_at c.new.result) 0 c.args.size (λ i less. c.new.ensures.zeros (0 + i)))
