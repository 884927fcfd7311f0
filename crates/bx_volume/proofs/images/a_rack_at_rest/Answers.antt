use Rattle.std.proofs.Common.{◌≡◌}
use Rattle.bx_volume.proofs.Resting.{none_in_doubt, resting_volume}
use Rattle.bx_volume.proofs.images.a_rack_at_rest.Goals as goal

pub returns-clause-none_in_doubt : goal.returns-clause-none_in_doubt
returns-clause-none_in_doubt c = λ disks state first truth tree is stands is_tree volume. none_in_doubt disks (λ image told. told ≡ state) first truth tree is stands is_tree volume

pub returns-clause-volume : goal.returns-clause-volume
returns-clause-volume c = λ disks state first truth tree is stands is_tree volume. resting_volume disks (λ image told. told ≡ state) first truth tree is stands is_tree volume
