-- What the labels leave of the rest, and what they are once they are written.
use Rattle.std.proofs.Common.{◌≡◌, ℕ, ◌+◌, ◌/◌, ◌<◌, ◌≤◌, ◌⊎◌, inl, inr, arith, List, length, sym, ◌∙◌, subst}
use Rattle.std.specs.Prelude.{◌≢◌}
use Rattle.std.proofs.lemmas.List.{take_all}
use Rattle.bx_disk.specs.Disks.{Disks, sector_of}
use Rattle.bx_calls.specs.Regions.{ReadsAs}
use Rattle.bx_calls.specs.Calls.{KeepsSure}
use Rattle.bx_base.specs.Writing.{padded}
use Rattle.bx_layout.specs.declared.label.Label.{Label}
use Rattle.bx_layout.specs.Labels.{label_text}
use Rattle.bx_places.specs.Places.{block_place}
use Rattle.bx_truth.proofs.Cases.{same_or}
use Rattle.bx_views.specs.Truths.{Truth}
use Rattle.bx_volume.specs.Images.{member_disk}
use Rattle.bx_volume.proofs.Apart.{home_and_log, outside}
use Rattle.bx_format.specs.Formats.{HasLabels, HasNoRecords, HoldsBlocks, KeepsBehind, label_of}

-- one sector was written
one_sector : (bytes : List ℕ) → length bytes ≡ 512 → sector_of bytes 0 ≡ bytes
unfolding sector_of
one_sector bytes long = take_all 512 bytes (omega (arith, long))

beside : (old new : Disks) (disk count d s : ℕ) → count ≡ 1 → KeepsSure old new disk 0 count → (d ≢ disk) ⊎ (1 ≤ s) → new.reads d s ≡ old.reads d s
beside old new disk count d s one keeps (inl other) = outside disk 0 count (λ d s. new.reads d s ≡ old.reads d s) d s keeps.reads (inl other)
beside old new disk count d s one keeps (inr past) = outside disk 0 count (λ d s. new.reads d s ≡ old.reads d s) d s keeps.reads (inr (inr (omega (arith, one, past))))

pub labels_more : (old new : Disks) (first : Label) (disk : ℕ) (bytes : List ℕ) → length bytes ≡ 512 → bytes ≡ padded 512 (label_text (label_of first disk))
    → KeepsSure old new disk 0 (length bytes / 512) → ReadsAs new.reads disk 0 bytes → HasLabels old.reads first disk → HasLabels new.reads first (disk + 1)
labels_more old new first disk bytes long is keeps reads has = record { each = λ d less. by d less (same_or d disk) }
  where
    one : length bytes / 512 ≡ 1
    one = omega (arith, long)

    by : (d : ℕ) → d < disk + 1 → (d ≡ disk) ⊎ (d ≢ disk) → new.reads d 0 ≡ padded 512 (label_text (label_of first d))
    by d less (inl same) =
        subst (λ (e : ℕ). new.reads e 0 ≡ padded 512 (label_text (label_of first e))) (sym same) (reads.each 0 (omega (arith, long)) ∙ one_sector bytes long ∙ is)
    by d less (inr other) = beside old new disk (length bytes / 512) d 0 one keeps (inl other) ∙ has.each d (omega (arith, less, other))

pub behind_more : (start old new : Disks) (disk : ℕ) (bytes : List ℕ) → length bytes ≡ 512 → KeepsSure old new disk 0 (length bytes / 512) → KeepsBehind start old → KeepsBehind start new
behind_more start old new disk bytes long keeps behind = record {
  reads = λ d s past. beside old new disk (length bytes / 512) d s (omega (arith, long)) keeps (inr past) ∙ behind.reads d s past;
}

-- what stands behind the labels stays
pub behind_holds : (old new : Disks) (devices areas : ℕ) (truth : Truth) → KeepsBehind old new → HoldsBlocks old.reads devices areas truth → HoldsBlocks new.reads devices areas truth
behind_holds old new devices areas truth behind holds = record {
  home = λ member at is.
      let home = holds.home member at is in
      record {
        is = home.is;
        reads = record { each = λ i less. behind.reads (member_disk (block_place at devices).0 member) ((block_place at devices).1 + i) (past at i) ∙ home.reads.each i less };
      };
}
  where
    past : (at i : ℕ) → 1 ≤ (block_place at devices).1 + i
    past at i = let far = home_and_log at devices 0 (omega arith) in omega (arith, far)

pub behind_none : (old new : Disks) (sizes : List ℕ) → KeepsBehind old new → HasNoRecords sizes old.reads → HasNoRecords sizes new.reads
behind_none old new sizes behind none = record { zero = λ d s low high less. behind.reads d s low ∙ none.zero d s low high less }
