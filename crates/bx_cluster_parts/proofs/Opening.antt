-- The volume that parts begin on.
use Rattle.std.proofs.Common.{◌≡◌, ℕ, ◌<◌, ◌^◌, arith}
use Rattle.bx_disk.specs.Disks.{Disks, Image}
use Rattle.bx_facts.specs.Disks.{SameLabels, SameMembers}
use Rattle.bx_format.specs.Formats.{IsFormatted}
use Rattle.bx_global.specs.Opening.{opening_state}
use Rattle.bx_layout.specs.Labels.{IsLabel}
use Rattle.bx_places.specs.Places.{IsVolume}
use Rattle.bx_format_openings.proofs.Formatted.{formatted_rests}
use Rattle.bx_format_openings.proofs.Opening.{opening_devices}
use Rattle.bx_format_openings.specs.bx_node_openings.proofs.Kept.{rests_keep, same_volume}
use Rattle.bx_format_openings.specs.bx_node_openings.specs.Resting.{VolumeRests}
use Rattle.bx_truth.specs.Opening.{opening_truth}
use Rattle.bx_cluster_parts.specs.Made.{made_by}

-- a volume that was just made rests, and goes on to where only the cells of replicas are written
pub made_rests : (x y : Disks) (volume nodes devices areas : ℕ) → volume < 2 ^ 64 → IsVolume devices areas → IsFormatted x (record { volume = volume; disk = 0; devices = devices; areas = areas })
    → y.sizes ≡ x.sizes → SameMembers x y → SameLabels x y → (held : Image) × VolumeRests (made_by volume nodes devices areas) y (opening_state nodes devices) held opening_truth
made_rests x y volume nodes devices areas fits sizes formatted same members labels =
    let label : IsLabel (record { volume = volume; disk = 0; devices = devices; areas = areas }) = record {
      volume = fits;
      disk = omega arith;
      least_devices = sizes.least_devices;
      most_devices = sizes.most_devices;
      least_areas = sizes.least_areas;
      most_areas = sizes.most_areas;
    } in
    let rests = formatted_rests x volume nodes devices areas (opening_state nodes devices) label (opening_devices nodes devices) formatted in
    (_, rests_keep x y (same_volume x y same members labels) (made_by volume nodes devices areas) (opening_state nodes devices) _ opening_truth rests)
