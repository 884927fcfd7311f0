use Rattle.std.proofs.Common.{arith}
use Rattle.bx_base.proofs.Whole.{zeros_none, zeros_some}
use Rattle.bx_layout.specs.declared.inode.Inode.{Inode}
use Rattle.bx_layout.specs.Inodes.{SpellsInode}
use Rattle.bx_layout.specs.InodeReading.{inode_at}
use Rattle.bx_layout.proofs.Payloads.{inode_read, inode_same, inode_none}
use Rattle.bx_layout.proofs.inode.Inode.read.Goals as goal

pub returns-clause-some : goal.returns-clause-some
returns-clause-some c = zeros_some (λ x. (x.0, x.1.now)) (λ x. x) (λ inode. SpellsInode inode c.args.payload.now) (inode_at c.args.payload.now) c.inode_of.result c.before_zeros.result
    (λ inode rest e zeros. inode_read c.args.payload.now rest inode (λ i. omega (arith, c.type_inv.payload i)) c.if-payload-ne-PAYLOAD.false e zeros) c.inode_of.ensures c.before_zeros.ensures

pub returns-clause-none : goal.returns-clause-none
returns-clause-none c = zeros_none (λ x. (x.0, x.1.now)) (λ x. x) ((inode : Inode) → SpellsInode inode c.args.payload.now → ⊥) (inode_at c.args.payload.now) c.inode_of.result c.before_zeros.result
    (λ e inode s. inode_none c.args.payload.now inode e s) (λ found rest e other inode s. other (inode_same c.args.payload.now rest found inode e s).1) c.inode_of.ensures c.before_zeros.ensures
