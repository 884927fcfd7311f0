-- A volume that was laid out, whose cells were written, and that was labelled then.
use Rattle.std.specs.Prelude.{slice_index}
use Rattle.std.proofs.Common.{◌≡◌, ℕ, ◌+◌, ◌<◌, ◌≤◌, Bool, inl, inr, false, true, List, length, refl, sym, ap, subst, ◌∙◌, arith}
use Rattle.bx_rack_audit.specs.bx_audit.proofs.Volumes.{stands}
use Rattle.bx_calls.specs.Calls.{LeavesOnly}
use Rattle.bx_calls.specs.Laws.{leaves_implies, leaves_then}
use Rattle.bx_cell.specs.Formats.{HasBeside, KeepsBeside}
use Rattle.bx_disk.specs.Disks.{Disks, Image, IsImage}
use Rattle.bx_format.proofs.Rests as rests
use Rattle.bx_format.proofs.Whole.{is_made}
use Rattle.bx_format.proofs.Spared.{bare_image, bare_then}
use Rattle.bx_format.specs.Moments.{AreBare, HasSureOf, IsBare, IsBareOrBehind, IsInTheMaking, IsLabelSector, IsOldOrBare, Spares}
use Rattle.bx_format.specs.Formats.{HasLabels, HasNoLogs, HasNoRecords, HasSizes, HoldsBlocks, IsMade, KeepsBehind}
use Rattle.bx_global.specs.declared.state.GlobalState.{GlobalState}
use Rattle.bx_global.specs.Opening.{formatted_state}
use Rattle.bx_layout.specs.declared.label.Label.{Label}
use Rattle.bx_layout.specs.Labels.{IsLabel}
use Rattle.bx_places.specs.Places.{block_place, disk_count}
use Rattle.bx_rack_audit.proofs.Telling.{alone_of}
use Rattle.bx_rack_audit.specs.Alone.{IsOwnState}
use Rattle.bx_rack_commands.proofs.Cells.{cells_stay, many, own_state}
use Rattle.bx_rack_commands.specs.NewVolumes.{HaveFirstState, IsBareOrWhole, IsNewVolume, new_tree}
use Rattle.bx_tree_laws.proofs.Opening.{opening_is}
use Rattle.bx_truth.proofs.OpeningTree.{opening_stands}
use Rattle.bx_truth.specs.Opening.{opening_truth}
use Rattle.bx_volume.proofs.Resting.{none_in_doubt, resting_volume}
use Rattle.bx_volume.specs.AtRest.{IsAtRest}
use Rattle.bx_volume.specs.Images.{IsFirstLabel, member_disk}

-- ---- cells leave what the members have

member_at : (device : ℕ) (member : Bool) → 3 ≤ member_disk device member
member_at device true = omega arith
member_at device false = omega arith

pub beside_blocks : (old new : Disks) (devices areas : ℕ) → KeepsBeside old new 3 1 → HoldsBlocks old.reads devices areas opening_truth → HoldsBlocks new.reads devices areas opening_truth
beside_blocks old new devices areas keeps holds = record {
  home = λ member at is.
      let home = holds.home member at is in
      record {
        is = home.is;
        reads = record {
          each = λ i less.
              (keeps.others (member_disk (block_place at devices).0 member) ((block_place at devices).1 + i) (member_at (block_place at devices).0 member)).reads ∙ home.reads.each i less;
        };
      };
}

pub beside_logs : (old new : Disks) → KeepsBeside old new 3 1 → HasNoRecords old.sizes old.reads → HasNoLogs new.sizes new.reads
beside_logs old new keeps none = record {
  zero = λ disk sector member low high less.
      (keeps.others disk sector member).reads ∙ none.zero disk sector low high (subst (λ (sizes : List ℕ). sector < slice_index sizes disk) keeps.sizes less);
}

-- and the labels
pub spares_beside : (x y : Disks) (a b : ℕ) (past since : ℕ → Image → Type 0) → KeepsBeside x y 3 1 → LeavesOnly a b past since (HasBeside x 3 1) → Spares IsLabelSector x y a b past since
spares_beside x y a b past since keeps leaves = record {
  reads = λ d s zero. keeps.reads d s (inr (inl (omega (arith, zero))));
  sure = λ d s zero. keeps.sure d s (inr (inl (omega (arith, zero))));
  moments = leaves_implies a b past since (HasBeside x 3 1) (HasSureOf IsLabelSector x) leaves (λ image has. record { each = λ d s zero. has.beside d s (inr (inl (omega (arith, zero)))) });
}

-- ---- the whole

module _ (done : Disks) (label : Label) (is : IsLabel label) (zero : label.disk ≡ 0) (made : IsMade done label) (cells : HaveFirstState done label.devices)
    (one : (a b : Label) → IsFirstLabel done.sizes done.reads a → IsFirstLabel done.sizes done.reads b → a ≡ b) where
  first : IsFirstLabel done.sizes done.reads label
  first = rests.is_first done label is made zero

  told_devices : (told : GlobalState) → IsOwnState done.sizes done.reads told → length told.devices ≡ label.devices
  told_devices told own = own.devices ∙ ap (λ (l : Label). l.devices) (one own.first label own.is_first first)

  at_rest : IsAtRest done (IsOwnState done.sizes) label opening_truth
  at_rest = rests.at_rest_in done label is made (IsOwnState done.sizes) zero told_devices

  rests_told : IsAtRest done (λ image told. told ≡ formatted_state label.devices) label opening_truth
  rests_told =
      rests.at_rest_in done label is made (λ image told. told ≡ formatted_state label.devices) zero
      (λ told same. ap (λ (s : GlobalState). length s.devices) same ∙ many label.devices)

  is_image : IsImage done done.reads
  is_image = record { sure = λ d s e. refl; torn = λ d s e. absurd (let none = made.sure d s in cc) }

  own : IsOwnState done.sizes done.reads (formatted_state label.devices)
  own = own_state done label is zero made cells

  pub is_new : IsNewVolume done label
  is_new = record {
    sure = made.sure;
    state = own;
    volume = resting_volume done (IsOwnState done.sizes) label opening_truth (new_tree label) at_rest (opening_stands label.areas is.least_areas label.volume) (opening_is label.volume label.areas) refl;
    none_in_doubt = none_in_doubt done (IsOwnState done.sizes) label opening_truth (new_tree label) at_rest (opening_stands label.areas is.least_areas label.volume) (opening_is label.volume label.areas) refl;
    stands = alone_of done (formatted_state label.devices) (new_tree label) own
        (stands done (formatted_state label.devices) label.devices label.areas (new_tree label)
        (resting_volume done (λ image told. told ≡ formatted_state label.devices) label opening_truth (new_tree label) rests_told (opening_stands label.areas is.least_areas label.volume) (opening_is label.volume label.areas) refl)
        is_image);
  }

-- A volume that was laid out (disks laid), whose cells were written (celled), and that was labelled then (done).
pub new_volume : (laid celled done : Disks) (label : Label) → IsLabel label → label.disk ≡ 0
    → ((a b : Label) → IsFirstLabel done.sizes done.reads a → IsFirstLabel done.sizes done.reads b → a ≡ b)
    → HasSizes laid.sizes label.devices label.areas → HoldsBlocks laid.reads label.devices label.areas opening_truth → HasNoRecords laid.sizes laid.reads
    → KeepsBeside laid celled 3 1 → HaveFirstState celled label.devices
    → done.sizes ≡ celled.sizes → KeepsBehind celled done → ((d s : ℕ) → done.unsure d s ≡ false) → HasLabels done.reads label (disk_count label.devices)
    → IsNewVolume done label
new_volume laid celled done label is zero one sizes blocks none beside cells same behind sure labels =
    is_new done label is zero
    (is_made celled done label same behind sure labels (subst (λ (long : List ℕ). HasSizes long label.devices label.areas) (sym beside.sizes) sizes)
    (beside_blocks laid celled label.devices label.areas beside blocks) (beside_logs laid celled beside none))
    (cells_stay celled done label.devices behind cells) one

-- ---- what a crash leaves that comes before the end

cells_before : (x y z : Disks) (devices a b : ℕ) (past since : ℕ → Image → Type 0) → z.sizes ≡ x.sizes → AreBare x → Spares IsLabelSector x y a b past since → LeavesOnly a b past since (IsBareOrWhole z devices)
cells_before x y z devices a b past since same bare spares =
    leaves_implies a b past since (HasSureOf IsLabelSector x) (IsBareOrWhole z devices) spares.moments
    (λ image has. inl (subst (λ (sizes : List ℕ). IsBare sizes image) (sym same) (bare_image x image bare has)))

-- while the cells are written
pub leaves_cells : (x z : Disks) (devices a b : ℕ) (past since : ℕ → Image → Type 0) → z.sizes ≡ x.sizes → AreBare x → Spares IsLabelSector x z a b past since → LeavesOnly a b past since (IsBareOrWhole z devices)
leaves_cells x z devices a b past since same bare spares = cells_before x z z devices a b past since same bare spares

-- and while the disks are labelled then
pub leaves_whole : (x y z : Disks) (devices a b c : ℕ) (past between since : ℕ → Image → Type 0) → y.sizes ≡ x.sizes → z.sizes ≡ y.sizes → AreBare x → Spares IsLabelSector x y a b past between
    → HaveFirstState y devices → KeepsBehind y z → LeavesOnly b c between since (IsBareOrBehind y) → LeavesOnly a c past since (IsBareOrWhole z devices)
leaves_whole x y z devices a b c past between since one other bare spares cells behind last =
    leaves_then a b c past between since (IsBareOrWhole z devices) (IsBareOrBehind y) (cells_before x y z devices a b past between (other ∙ one) bare spares) last labelled
  where
    labelled : (image : Image) → IsBareOrBehind y image → IsBareOrWhole z devices image
    labelled image (inl has) = inl (subst (λ (sizes : List ℕ). IsBare sizes image) (sym other) (bare_image y image (bare_then x y a b past between one bare spares) has))
    labelled image (inr has) = inr (cells_stay y z devices behind cells, record { each = λ d s far. has.each d s far ∙ sym (behind.reads d s far) })

-- of disks that were laid out before
pub leaves_made : (old x z : Disks) (devices a b c : ℕ) (past between since : ℕ → Image → Type 0) → LeavesOnly a b past between (IsOldOrBare old x.sizes) → z.sizes ≡ x.sizes
    → LeavesOnly b c between since (IsBareOrWhole z devices) → LeavesOnly a c past since (IsInTheMaking old z)
leaves_made old x z devices a b c past between since first same last =
    leaves_then a b c past between since (IsInTheMaking old z) (IsBareOrWhole z devices)
    (leaves_implies a b past between (IsOldOrBare old x.sizes) (IsInTheMaking old z) first (λ image is. inl (subst (λ (sizes : List ℕ). IsOldOrBare old sizes image) (sym same) is))) last in_the_making
  where
    in_the_making : (image : Image) → IsBareOrWhole z devices image → IsInTheMaking old z image
    in_the_making image (inl none) = inl (inr none)
    in_the_making image (inr whole) = inr whole.1
