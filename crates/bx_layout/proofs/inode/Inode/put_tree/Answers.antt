use Rattle.bx_base.proofs.Written.{writes_then}
use Rattle.bx_layout.proofs.inode.Inode.put_tree.Goals as goal

pub returns : goal.returns
returns c =
    let len = rw c.bytes-path.ensures at c.put_u32-at-2.ensures in
    let path = rw c.bytes-path.ensures at c.put.ensures in
    writes_then _ _ _ _ _ _ _ _ c.put_u64-at.ensures (writes_then _ _ _ _ _ _ _ _ c.put_u64-at-2.ensures (writes_then _ _ _ _ _ _ _ _ c.put_u32-at.ensures (writes_then _ _ _ _ _ _ _ _ len path)))
