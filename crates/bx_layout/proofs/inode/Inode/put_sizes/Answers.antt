use Rattle.bx_base.proofs.Written.{writes_then}
use Rattle.bx_layout.proofs.inode.Inode.put_sizes.Goals as goal

pub returns : goal.returns
returns c =
    writes_then _ _ _ _ _ _ _ _ c.put_u64-at.ensures
    (writes_then _ _ _ _ _ _ _ _ c.put_u64-at-2.ensures (writes_then _ _ _ _ _ _ _ _ c.put_time-at.ensures (writes_then _ _ _ _ _ _ _ _ c.put_time-at-2.ensures c.put_time.ensures)))
