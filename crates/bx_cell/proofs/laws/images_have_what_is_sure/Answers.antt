use Rattle.bx_cell.proofs.Regions.{image_all}
use Rattle.bx_cell.proofs.laws.images_have_what_is_sure.Goals as goal

pub returns : goal.returns
returns c = image_all
