use Rattle.std.proofs.Common.{rules}
use Rattle.bx_memory_rack.proofs.mem_disk.MemDisk.crash.Goals as goal

pub returns-clause-synced : goal.returns-clause-synced
returns-clause-synced c = search rules
