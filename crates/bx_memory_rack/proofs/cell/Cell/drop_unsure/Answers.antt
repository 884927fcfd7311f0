use Rattle.std.proofs.Common.{rules}
use Rattle.bx_memory_rack.proofs.cell.Cell.drop_unsure.Goals as goal

pub returns-then-self-synced : goal.returns-then-self-synced
returns-then-self-synced c = search rules
