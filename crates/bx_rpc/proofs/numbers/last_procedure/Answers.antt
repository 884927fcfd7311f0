use Rattle.std.proofs.Common.{rules}
use Rattle.bx_rpc.proofs.numbers.last_procedure.Goals as goal

pub returns-then-program-eq-NFS_PROGRAM : goal.returns-then-program-eq-NFS_PROGRAM
returns-then-program-eq-NFS_PROGRAM c = search rules
