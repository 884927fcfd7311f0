use Rattle.std.proofs.Common.{refl}
use Rattle.bx_clean.specs.Trees.{no_inode, with_tree, without_tree}
use Rattle.bx_clean.proofs.files.clean_file.Goals as goal

pub returns-then-inode-eq0 : goal.returns-then-inode-eq0
returns-then-inode-eq0 g c = without_tree c.in-Ok.inode c.in-Ok.ensures c.if-inode-eq0.true c.free_file.ensures

pub returns-in-Err : goal.returns-in-Err
returns-in-Err g c = no_inode c.in-Err.error c.in-Err.ensures refl

pub returns-else-inode-eq0 : goal.returns-else-inode-eq0
returns-else-inode-eq0 g c = with_tree c.in-Ok.inode c.in-Ok.ensures c.if-inode-eq0.false c.clean_tree.ensures
