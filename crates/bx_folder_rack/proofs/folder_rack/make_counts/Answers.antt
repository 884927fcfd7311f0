use Rattle.std.proofs.Common.{ℕ, List, ap, ◌∙◌}
use Rattle.std.specs.Prelude.{slice_index}
use Rattle.bx_folder_rack.proofs.Counts.{same_counts}
use Rattle.bx_folder_rack.proofs.folder_rack.make_counts.Goals as goal

pub returns-clause-same : goal.returns-clause-same
returns-clause-same c = λ d. ap (λ (l : List ℕ). slice_index l d) c.in_ok-resize.ensures.items ∙ same_counts c.args.by_disk.now.items c.args.counts _ d c.requires
