-- Cells are written anew, one after the other: what stays of the other sectors.
use Rattle.std.proofs.Common.{◌≡◌, ℕ, ◌+◌, ◌<◌, ◌⊎◌, ⊎_elim, true, false, List, Some, refl, sym, subst, ◌∙◌, arith}
use Rattle.std.proofs.lemmas.Bool.Decides.{nat_tests}
use Rattle.bx_disk.specs.Disks.{Image, Disks, IsImage, Stays, is_within}
use Rattle.bx_disk.specs.Counts.{NoneRose, BothRose}
use Rattle.bx_base.specs.Faults.{Rose}
use Rattle.bx_calls.specs.Regions.{IsSynced}
use Rattle.bx_calls.specs.Calls.{KeepsSure, HasSure, LeavesOnly}
use Rattle.bx_calls.specs.Laws.{outside_at, leaves_then}
use Rattle.bx_cell.specs.Halves.{cell_in}
use Rattle.bx_cell.specs.Formats.{first, IsBeside, KeepsBeside, HasBeside, AreFormatted}
use Rattle.bx_cell.proofs.Opening.{cell_alike}

stays_then : (old mid new : Disks) (d s : ℕ) → Stays old mid d s → Stays mid new d s → Stays old new d s
stays_then old mid new d s one next = record { reads = next.reads ∙ one.reads; held = next.held ∙ one.held; unsure = next.unsure ∙ one.unsure }

pub keeps_none : (old : Disks) (count base : ℕ) → KeepsBeside old old count base
keeps_none old count base = record {
  sizes = refl;
  reads = λ d s out. refl;
  sure = λ d s out sure. sure;
  still = λ d s out unsure. record { reads = refl; held = refl; unsure = refl };
  others = λ d s past. record { reads = refl; held = refl; unsure = refl };
}

pub has_none : (old : Disks) (count base : ℕ) (image : Image) → IsImage old image → HasBeside old count base image
has_none old count base image is = record { beside = λ d s out sure. is.sure d s sure }

module _ (old mid : Disks) (count base i : ℕ) (less : i < count) (keeps : KeepsBeside old mid count base) where
  out_of : (d s : ℕ) → IsBeside count base d s → is_within i base 11 d s ≡ false
  out_of d s out = grind (arith, nat_tests)

  pub keeps_more : (new : Disks) → KeepsSure mid new i base 11 → KeepsBeside old new count base
  keeps_more new next = record {
    sizes = next.sizes ∙ keeps.sizes;
    reads = λ d s out. outside_at i base 11 (λ x y. new.reads x y ≡ mid.reads x y) next.reads d s (out_of d s out) ∙ keeps.reads d s out;
    sure = λ d s out sure. outside_at i base 11 (λ x y. mid.unsure x y ≡ false → new.unsure x y ≡ false) next.sure d s (out_of d s out) (keeps.sure d s out sure);
    still = λ d s out unsure.
        let last = outside_at i base 11 (λ x y. new.unsure x y ≡ true → Stays mid new x y) next.still d s (out_of d s out) unsure in
        stays_then old mid new d s (keeps.still d s out (sym last.unsure ∙ unsure)) last;
    others = λ d s past. stays_then old mid new d s (keeps.others d s past) (next.others d s (λ same. absurd (omega arith)));
  }

  pub has_more : (image : Image) → HasSure mid i base 11 image → HasBeside old count base image
  has_more image has = record {
    beside = λ d s out sure.
        outside_at i base 11 (λ x y. mid.unsure x y ≡ false → image x y ≡ mid.reads x y) has.outside d s (out_of d s out) (keeps.sure d s out sure) ∙ keeps.reads d s out;
  }

  pub leaves_more : (before then_at now : ℕ) (past between since : ℕ → Image → Type 0) → LeavesOnly before then_at past between (HasBeside old count base)
      → LeavesOnly then_at now between since (HasSure mid i base 11) → LeavesOnly before now past since (HasBeside old count base)
  leaves_more before then_at now past between since earlier last =
      leaves_then before then_at now past between since (HasBeside old count base) (HasSure mid i base 11) earlier last has_more

pub formatted_more : (mid new : Disks) (base i : ℕ) (value : List ℕ) → AreFormatted mid i base value → KeepsSure mid new i base 11 → IsSynced new i
    → cell_in (new.reads i) base ≡ Some (first value) → AreFormatted new (i + 1) base value
formatted_more mid new base i value are keeps synced cell = record {
  synced = λ d less. ⊎_elim (earlier_synced d) (λ same. subst (λ (x : ℕ). IsSynced new x) (sym same) synced) (side d less);
  cell = λ d less. ⊎_elim (earlier_cell d) (λ same. subst (λ (x : ℕ). cell_in (new.reads x) base ≡ Some (first value)) (sym same) cell) (side d less);
}
  where
    side : (d : ℕ) → d < i + 1 → (d < i) ⊎ (d ≡ i)
    side d less = grind arith

    stays : (d s : ℕ) → d < i → Stays mid new d s
    stays d s less = keeps.others d s (λ same. absurd (omega arith))

    earlier_synced : (d : ℕ) → d < i → IsSynced new d
    earlier_synced d less = record { each = λ s. (stays d s less).unsure ∙ (are.synced d less).each s }

    earlier_cell : (d : ℕ) → d < i → cell_in (new.reads d) base ≡ Some (first value)
    earlier_cell d less = cell_alike (new.reads d) (mid.reads d) base base (λ j within. (stays d (base + j) less).reads) ∙ are.cell d less

-- ---- counts

pub rose_since : (before mid now : ℕ) (before_of mid_of now_of : ℕ → ℕ) (d : ℕ) → NoneRose before mid before_of mid_of → BothRose mid now mid_of now_of d → BothRose before now before_of now_of d
rose_since before mid now before_of mid_of now_of d none rose = record {
  all = subst (λ (n : ℕ). Rose n now) none.all rose.all;
  this = subst (λ (n : ℕ). Rose n (now_of d)) (none.each d) rose.this;
}
