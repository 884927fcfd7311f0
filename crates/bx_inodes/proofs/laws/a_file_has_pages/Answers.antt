use Rattle.bx_inodes.proofs.Pages.{has_pages}
use Rattle.bx_inodes.proofs.laws.a_file_has_pages.Goals as goal

pub returns : goal.returns
returns c = has_pages
