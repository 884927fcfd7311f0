-- What one call spares, and several.
use Rattle.std.proofs.Common.{◌≡◌, ℕ, ◌+◌, ◌<◌, ◌≤◌, ◌⊎◌, inl, inr, arith, false, List, length, refl, sym, ap, ◌∙◌, subst}
use Rattle.std.proofs.lemmas.Bool.Decides.{nat_tests}
use Rattle.std.specs.Prelude.{◌≢◌, nat_lt, slice_index, true}
use Rattle.bx_calls.specs.Regions.{IsSynced}
use Rattle.bx_truth.proofs.Cases.{same_or}
use Rattle.bx_calls.specs.Calls.{HasSure, KeepsAll, KeepsSure, LeavesOnly}
use Rattle.bx_calls.specs.Laws.{leaves_implies, leaves_now, leaves_then, outside_at}
use Rattle.bx_disk.specs.Disks.{Disks, Image, IsImage, blank_image, is_within, shaped, zeros}
use Rattle.bx_disk.specs.Moments.{Elapses}
use Rattle.bx_format.specs.Formats.{HasSizes}
use Rattle.bx_format.specs.Formats.{KeepsBehind}
use Rattle.bx_format.specs.Moments.{AreBare, HasBehind, HasSureOf, IsAnySector, IsBare, IsBareOrBehind, IsBehindLabel, IsInTheMaking, IsLabelSector, IsOldOrBare, Spares}
use Rattle.bx_places.specs.Places.{block_place, disk_sectors}
use Rattle.bx_volume.proofs.Apart.{home_and_log}

module _ (Kind : ℕ → ℕ → Type 0) where
  pub spares_none : (x : Disks) (now : ℕ) (since : ℕ → Image → Type 0) → ((image : Image) → since now image → IsImage x image) → Spares Kind x x now now since since
  spares_none x now since only = record {
    reads = λ d s kind. refl;
    sure = λ d s kind e. e;
    moments = leaves_now now since (HasSureOf Kind x) (λ image left. record { each = λ d s kind e. (only image left).sure d s e });
  }

  pub spares_then : (x y z : Disks) (a b c : ℕ) (past between since : ℕ → Image → Type 0) → Spares Kind x y a b past between → Spares Kind y z b c between since → Spares Kind x z a c past since
  spares_then x y z a b c past between since one other = record {
    reads = λ d s kind. other.reads d s kind ∙ one.reads d s kind;
    sure = λ d s kind e. other.sure d s kind (one.sure d s kind e);
    moments = leaves_then a b c past between since (HasSureOf Kind x) (HasSureOf Kind y) one.moments other.moments
        (λ image has. record { each = λ d s kind e. has.each d s kind (one.sure d s kind e) ∙ one.reads d s kind });
  }

  pub spares_write : (x y : Disks) (disk sector count a b : ℕ) (past since : ℕ → Image → Type 0) → ((d s : ℕ) → Kind d s → is_within disk sector count d s ≡ false)
      → KeepsSure x y disk sector count → LeavesOnly a b past since (HasSure x disk sector count) → Spares Kind x y a b past since
  spares_write x y disk sector count a b past since apart keeps leaves = record {
    reads = λ d s kind. outside_at disk sector count (λ e t. y.reads e t ≡ x.reads e t) keeps.reads d s (apart d s kind);
    sure = λ d s kind. outside_at disk sector count (λ e t. x.unsure e t ≡ false → y.unsure e t ≡ false) keeps.sure d s (apart d s kind);
    moments = leaves_implies a b past since (HasSure x disk sector count) (HasSureOf Kind x) leaves
        (λ image has. record { each = λ d s kind e. outside_at disk sector count (λ e t. x.unsure e t ≡ false → image e t ≡ x.reads e t) has.outside d s (apart d s kind) e });
  }

  pub spares_sync : (x y : Disks) (disk a b : ℕ) (past since : ℕ → Image → Type 0) → KeepsAll x y disk → LeavesOnly a b past since (IsImage x) → Spares Kind x y a b past since
  spares_sync x y disk a b past since keeps leaves = record {
    reads = λ d s kind. ap (λ (r : Image). r d s) keeps.reads;
    sure = λ d s kind. keeps.sure d s;
    moments = leaves_implies a b past since (IsImage x) (HasSureOf Kind x) leaves (λ image is. record { each = λ d s kind e. is.sure d s e });
  }

-- a home lies behind the label
home_apart : (at devices disk count : ℕ) (place : ℕ × ℕ) → place ≡ block_place at devices → (d s : ℕ) → IsLabelSector d s → is_within disk place.1 count d s ≡ false
home_apart at devices disk count place is d s zero =
    let far = home_and_log at devices 0 (omega arith) in
    let low : 1 ≤ place.1 = subst (λ (p : ℕ × ℕ). 1 ≤ p.1) (sym is) (omega (arith, far)) in
    grind (arith, nat_tests, low, zero)

pub spares_home : (x y : Disks) (at devices disk count a b : ℕ) (place : ℕ × ℕ) (past since : ℕ → Image → Type 0) → place ≡ block_place at devices
    → KeepsSure x y disk place.1 count → LeavesOnly a b past since (HasSure x disk place.1 count) → Spares IsLabelSector x y a b past since
spares_home x y at devices disk count a b place past since is keeps leaves =
    spares_write IsLabelSector x y disk place.1 count a b past since (home_apart at devices disk count place is) keeps leaves

-- a label lies before all else
label_apart : (disk count : ℕ) → count ≡ 1 → (d s : ℕ) → IsBehindLabel d s → is_within disk 0 count d s ≡ false
label_apart disk count one d s past = grind (arith, nat_tests, one, past)

pub spares_label : (x y : Disks) (disk count a b : ℕ) (past since : ℕ → Image → Type 0) → count ≡ 1 → KeepsSure x y disk 0 count → LeavesOnly a b past since (HasSure x disk 0 count)
    → Spares IsBehindLabel x y a b past since
spares_label x y disk count a b past since one keeps leaves = spares_write IsBehindLabel x y disk 0 count a b past since (label_apart disk count one) keeps leaves

-- ---- disks that are made anew

shaped_bare : (sizes : List ℕ) → ((disk : ℕ) → disk < length sizes → 1 ≤ slice_index sizes disk) → (disk : ℕ) → disk < length sizes → blank_image sizes disk 0 ≡ zeros
shaped_bare sizes long disk less = let some : nat_lt 0 (slice_index sizes disk) ≡ true = (let l = long disk less in grind (arith, nat_tests, l)) in rw some refl

pub bare_shaped : (x : Disks) (sizes : List ℕ) → ((disk : ℕ) → disk < length sizes → 1 ≤ slice_index sizes disk) → x ≡ shaped sizes → AreBare x
bare_shaped x sizes long same = subst AreBare (sym same) (record { zero = shaped_bare sizes long; sure = λ disk. refl })

pub sizes_long : (sizes : List ℕ) (devices areas : ℕ) → HasSizes sizes devices areas → (disk : ℕ) → disk < length sizes → 1 ≤ slice_index sizes disk
sizes_long sizes devices areas has disk less = let e = has.each disk (let count = has.count in omega (arith, less, count)) in rw e (some disk)
  where
    some : (d : ℕ) → 1 ≤ disk_sectors devices areas d
    some d = grind (arith, nat_tests)

pub bare_image : (x : Disks) (image : Image) → AreBare x → HasSureOf IsLabelSector x image → IsBare x.sizes image
bare_image x image bare has = record { zero = λ disk less. has.each disk 0 refl (bare.sure disk) ∙ bare.zero disk less }

-- the call that makes them
pub leaves_bare : (old x : Disks) (a b : ℕ) (past since : ℕ → Image → Type 0) → Elapses a b past since x → ((image : Image) → past a image → IsImage old image) → AreBare x
    → LeavesOnly a b past since (IsOldOrBare old x.sizes)
leaves_bare old x a b past since time only bare = record {
  later = time.later;
  each = λ image left. by image (time.nothing_else a image (omega arith) left);
  nothing_else = λ t image le left. at t image (time.nothing_else t image le left);
  keeps = time.keeps;
}
  where
    here : (image : Image) → IsImage x image → IsBare x.sizes image
    here image is = bare_image x image bare (record { each = λ d s kind e. is.sure d s e })

    by : (image : Image) → past a image ⊎ IsImage x image → IsOldOrBare old x.sizes image
    by image (inl was) = inl (only image was)
    by image (inr is) = inr (here image is)

    at : (t : ℕ) (image : Image) → past t image ⊎ IsImage x image → past t image ⊎ IsOldOrBare old x.sizes image
    at t image (inl was) = inl was
    at t image (inr is) = inr (inr (here image is))

-- and what is written then, which spares the labels
pub bare_then : (x y : Disks) (a b : ℕ) (past since : ℕ → Image → Type 0) → y.sizes ≡ x.sizes → AreBare x → Spares IsLabelSector x y a b past since → AreBare y
bare_then x y a b past since same bare spares = record {
  zero = λ disk less. spares.reads disk 0 refl ∙ bare.zero disk (subst (λ (sizes : List ℕ). disk < length sizes) same less);
  sure = λ disk. spares.sure disk 0 refl (bare.sure disk);
}

pub leaves_bare_then : (old x y : Disks) (a b c : ℕ) (past between since : ℕ → Image → Type 0) → LeavesOnly a b past between (IsOldOrBare old x.sizes) → AreBare x
    → Spares IsLabelSector x y b c between since → LeavesOnly a c past since (IsOldOrBare old x.sizes)
leaves_bare_then old x y a b c past between since first bare spares =
    leaves_then a b c past between since (IsOldOrBare old x.sizes) (HasSureOf IsLabelSector x) first spares.moments (λ image has. inr (bare_image x image bare has))

-- ---- disks that are labelled

module _ (x y : Disks) (a b : ℕ) (past between : ℕ → Image → Type 0) (first : Spares IsAnySector x y a b past between) where
  -- they are made sure
  pub leaves_synced : LeavesOnly a b past between (IsBareOrBehind x)
  leaves_synced = leaves_implies a b past between (HasSureOf IsAnySector x) (IsBareOrBehind x) first.moments (λ image has. inl (record { each = λ d s kind. has.each d s tt }))

  module _ (sure : (d s : ℕ) → y.unsure d s ≡ false) (z : Disks) (c : ℕ) (since : ℕ → Image → Type 0) (next : Spares IsBehindLabel y z b c between since) where
    behind_image : (image : Image) → HasSureOf IsBehindLabel y image → HasBehind x image
    behind_image image has = record { each = λ d s past. has.each d s past (sure d s) ∙ first.reads d s tt }

    -- then the labels are written
    pub leaves_labelled : LeavesOnly a c past since (IsBareOrBehind x)
    leaves_labelled = leaves_then a b c past between since (IsBareOrBehind x) (HasSureOf IsBehindLabel y) leaves_synced next.moments (λ image has. inr (behind_image image has))

    -- and they are made sure again
    pub leaves_again : (w : Disks) (d : ℕ) (until : ℕ → Image → Type 0) → Spares IsAnySector z w c d since until → LeavesOnly a d past until (IsBareOrBehind x)
    leaves_again w d until last =
        leaves_then a c d past since until (IsBareOrBehind x) (HasSureOf IsAnySector z) leaves_labelled last.moments
        (λ image has. inr (record { each = λ e s past. has.each e s tt (next.sure e s past (sure e s)) ∙ next.reads e s past ∙ first.reads e s tt }))

-- ---- a volume that is made

pub leaves_made : (old x y : Disks) (a b c : ℕ) (past between since : ℕ → Image → Type 0) → LeavesOnly a b past between (IsOldOrBare old x.sizes) → AreBare x → y.sizes ≡ x.sizes → KeepsBehind x y
    → LeavesOnly b c between since (IsBareOrBehind x) → LeavesOnly a c past since (IsInTheMaking old y)
leaves_made old x y a b c past between since first bare same behind last =
    leaves_then a b c past between since (IsInTheMaking old y) (IsBareOrBehind x)
    (leaves_implies a b past between (IsOldOrBare old x.sizes) (IsInTheMaking old y) first (λ image is. inl (subst (λ (sizes : List ℕ). IsOldOrBare old sizes image) (sym same) is))) last in_the_making
  where
    in_the_making : (image : Image) → IsBareOrBehind x image → IsInTheMaking old y image
    in_the_making image (inl has) = inl (inr (subst (λ (sizes : List ℕ). IsBare sizes image) (sym same) (bare_image x image bare has)))
    in_the_making image (inr has) = inr (record { each = λ d s past. has.each d s past ∙ sym (behind.reads d s past) })

-- ---- syncs of one disk after the other

pub sure_more : (x y : Disks) (disk : ℕ) → KeepsAll x y disk → IsSynced y disk → ((d s : ℕ) → d < disk → x.unsure d s ≡ false) → (d s : ℕ) → d < disk + 1 → y.unsure d s ≡ false
sure_more x y disk keeps synced before d s less = by (same_or d disk)
  where
    by : (d ≡ disk) ⊎ (d ≢ disk) → y.unsure d s ≡ false
    by (inl same) = subst (λ (e : ℕ). y.unsure e s ≡ false) (sym same) (synced.each s)
    by (inr other) = keeps.sure d s (before d s (omega (arith, less, other)))
