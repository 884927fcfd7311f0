use Rattle.std.proofs.Common.{◌≡◌, refl}
use Rattle.bx_tree_laws.specs.bx_model.specs.Opening.{opening}
use Rattle.bx_tree_laws.proofs.Opening.{opening_is}
use Rattle.bx_truth.specs.Opening.{opening_truth}
use Rattle.bx_truth.proofs.OpeningTree.{opening_stands}
use Rattle.bx_volume.proofs.Resting.{resting_volume}
use Rattle.bx_volume.proofs.images.a_formatted_rack.Goals as goal

pub returns : goal.returns
returns c = λ disks state first is.
    resting_volume disks (λ image told. told ≡ state) first opening_truth (record (opening first.volume) { areas = first.areas }) is
    (opening_stands first.areas is.is_first.own.spells.is.least_areas first.volume) (opening_is first.volume first.areas) refl
