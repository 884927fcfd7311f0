use Rattle.bx_overlay.proofs.Refused.{no_tree}
use Rattle.bx_overlay.proofs.laws.refused_disks_show_no_tree.Goals as goal

pub returns : goal.returns
returns c = λ disks state error second tree refused from shows. no_tree disks state second tree from shows (c.one_first_label.ensures disks.sizes disks.reads) error refused
