use Rattle.bx_base.proofs.Whole.{padded_again}
use Rattle.bx_layout.proofs.AreaFields.{area_field}
use Rattle.bx_layout.proofs.InodeFields.{inode_field, parts_of}
use Rattle.bx_layout.proofs.Payloads.{area_same, inode_same}
use Rattle.bx_layout.proofs.readings.one_reading.Goals as goal

pub returns-clause-area : goal.returns-clause-area
returns-clause-area c = λ a b payload s t. (area_same payload _ a b (padded_again area_field 4096 payload a s.parts s.is) t).0

pub returns-clause-inode : goal.returns-clause-inode
returns-clause-inode c = λ a b payload s t. (inode_same payload _ a b (padded_again inode_field 4096 payload a s.parts (parts_of a s.is)) t).0
