use Rattle.std.proofs.Common.{rules}
use Rattle.bx_nfs.proofs.forms.nfs_form.Goals as goal

pub returns-in_default : goal.returns-in_default
returns-in_default c = search rules
