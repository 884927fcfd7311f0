use Rattle.std.proofs.Common.{ap, List}
use Rattle.bx_base.specs.Text.{text_of}
use Rattle.bx_truth.specs.bx_tree_files.specs.declared.file.File.{File}
use Rattle.bx_tree_laws.specs.bx_model.specs.Listing.{listing_lines}
use Rattle.bx_volume.proofs.OneShown.{one_shown}
use Rattle.bx_volume.proofs.images.one_tree_is_shown.Goals as goal

pub returns-clause-files : goal.returns-clause-files
returns-clause-files c = λ sizes image state second a b x y. (one_shown sizes image state second a b (c.one_first_label.ensures sizes image) x y).0

pub returns-clause-listing : goal.returns-clause-listing
returns-clause-listing c = λ sizes image state second a b x y. ap (λ (files : List File). text_of (listing_lines files)) (one_shown sizes image state second a b (c.one_first_label.ensures sizes image) x y).0

pub returns-clause-volume : goal.returns-clause-volume
returns-clause-volume c = λ sizes image state second a b x y. let all = one_shown sizes image state second a b (c.one_first_label.ensures sizes image) x y in (all.1, all.2, all.3)
