-- A volume that was laid out, and then labelled.
use Rattle.std.proofs.Common.{◌≡◌, ℕ, false, List, sym, ap, ◌∙◌, subst}
use Rattle.bx_disk.specs.Disks.{Disks, Image}
use Rattle.bx_layout.specs.declared.label.Label.{Label}
use Rattle.bx_places.specs.Places.{disk_count}
use Rattle.bx_truth.specs.Opening.{opening_truth}
use Rattle.bx_format.specs.Formats.{HasLabels, HasNoLogs, HasNoRecords, HasSizes, HoldsBlocks, IsFormatted, IsMade, KeepsBehind}
use Rattle.bx_format.proofs.Labelled.{behind_holds, behind_none}

-- what stays behind the labels over several calls
pub behind_same : (old mid new : Disks) → mid.reads ≡ old.reads → KeepsBehind mid new → KeepsBehind old new
behind_same old mid new same behind = record { reads = λ d s past. behind.reads d s past ∙ ap (λ (image : Image). image d s) same }

pub behind_then : (old mid new : Disks) → KeepsBehind old mid → new.reads ≡ mid.reads → KeepsBehind old new
behind_then old mid new behind same = record { reads = λ d s past. ap (λ (image : Image). image d s) same ∙ behind.reads d s past }

pub behind_reads : (old new : Disks) → new.reads ≡ old.reads → KeepsBehind old new
behind_reads old new same = record { reads = λ d s past. ap (λ (image : Image). image d s) same }

module _ (laid done : Disks) (first : Label) (same : done.sizes ≡ laid.sizes) (behind : KeepsBehind laid done) (sure : (d s : ℕ) → done.unsure d s ≡ false)
    (labels : HasLabels done.reads first (disk_count first.devices)) (sizes : HasSizes laid.sizes first.devices first.areas) (blocks : HoldsBlocks laid.reads first.devices first.areas opening_truth) where
  pub is_formatted : HasNoRecords laid.sizes laid.reads → IsFormatted done first
  is_formatted none = record {
    sizes = subst (λ (long : List ℕ). HasSizes long first.devices first.areas) (sym same) sizes;
    sure = sure;
    labels = labels;
    blocks = behind_holds laid done first.devices first.areas opening_truth behind blocks;
    none = subst (λ (long : List ℕ). HasNoRecords long done.reads) (sym same) (behind_none laid done laid.sizes behind none);
  }

  pub is_made : HasNoLogs laid.sizes laid.reads → IsMade done first
  is_made none = record {
    sizes = subst (λ (long : List ℕ). HasSizes long first.devices first.areas) (sym same) sizes;
    sure = sure;
    labels = labels;
    blocks = behind_holds laid done first.devices first.areas opening_truth behind blocks;
    none = subst (λ (long : List ℕ). HasNoLogs long done.reads) (sym same) (record { zero = λ d s member low high less. behind.reads d s low ∙ none.zero d s member low high less });
  }
