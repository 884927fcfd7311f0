use Rattle.std.proofs.Common.{length, sym, ap, ◌∙◌}
use Rattle.bx_tree_parts.specs.Pieces.{byte_at}
use Rattle.bx_tree_parts.proofs.Places.{bytes_len}
use Rattle.bx_tree_parts.proofs.content.Content.len.Goals as goal

pub returns : goal.returns
returns c = sym (bytes_len (byte_at c.self.inside.pieces) 0 c.self.inside.size) ∙ ap length c.self.view_is
