-- What follows of several calls, and of what they keep.
use Rattle.std.specs.Prelude.{◌≡◌, ◌≢◌, ℕ, ◌+◌, ◌/◌, ◌<◌, ◌≤◌, ◌⊎◌, Bool, true, false, ◌==◌, List, length, refl}
use Rattle.std.proofs.Common.{arith, inl, inr, ⊎_elim, sym, subst, ap, ◌∙◌, ◌*◌, ◌-◌, replicate, take}
use Rattle.std.proofs.lemmas.List.{drop-replicate, take-replicate, length-take-le}
use Rattle.std.proofs.lemmas.Bool.Decides.{nat_tests}
use Rattle.bx_disk.specs.Disks.{Image, Disks, IsImage, Stays, MayBeWritten, is_within, written, sector_of, zeros}
use Rattle.bx_disk.specs.Moments.{Elapses}
use Rattle.bx_calls.specs.Regions.{EachOutside, IsInside, AreApart, ReadsAs, IsZero, IsSure, IsSynced}
use Rattle.bx_calls.specs.Calls.{KeepsSure, KeepsAll, WritesOnly, HasSure, LeavesOnly}

-- A sector is outside exactly where it isn't within.
pub outside_at : (disk sector count : ℕ) (P : ℕ → ℕ → Type 0) → EachOutside disk sector count P → (d s : ℕ) → is_within disk sector count d s ≡ false → P d s
outside_at disk sector count P out d s is = on_disk (d == disk) refl
  where
    by_side : d ≡ disk → (s < sector) ⊎ (sector + count ≤ s)
    by_side same = grind (arith, nat_tests, is)

    on_disk : (b : Bool) → (d == disk) ≡ b → P d s
    on_disk true equal =
        let same : d ≡ disk = grind (arith, nat_tests, equal) in
        subst (λ (x : ℕ). P x s) (sym same) (⊎_elim (out.before s) (out.behind s) (by_side same))
    on_disk false apart = out.elsewhere d s (grind (arith, nat_tests, apart))

pub outside_each : (disk sector count : ℕ) (P : ℕ → ℕ → Type 0) → ((d s : ℕ) → is_within disk sector count d s ≡ false → P d s) → EachOutside disk sector count P
outside_each disk sector count P each = record {
  elsewhere = λ d s other. each d s (grind (arith, nat_tests, other));
  before = λ s less. each disk s (grind (arith, nat_tests, less));
  behind = λ s more. each disk s (grind (arith, nat_tests, more));
}

-- regions by their numbers
pub inside_by : (disk sector count in_disk in_sector in_count : ℕ) → disk ≡ in_disk → in_sector ≤ sector → sector + count ≤ in_sector + in_count
    → IsInside disk sector count in_disk in_sector in_count
inside_by disk sector count in_disk in_sector in_count same low high = record { same = same; each = λ d s within. grind (arith, nat_tests, within) }

pub inside_none : (disk sector in_sector in_count : ℕ) → IsInside disk sector 0 disk in_sector in_count
inside_none disk sector in_sector in_count = record { same = refl; each = λ d s within. grind (arith, nat_tests, within) }

pub apart_disks : (disk sector count other_disk other_sector other_count : ℕ) → disk ≢ other_disk → AreApart disk sector count other_disk other_sector other_count
apart_disks disk sector count other_disk other_sector other_count other = record { each = λ d s within. grind (arith, nat_tests, within, other) }

pub apart_before : (disk sector count other_disk other_sector other_count : ℕ) → sector + count ≤ other_sector → AreApart disk sector count other_disk other_sector other_count
apart_before disk sector count other_disk other_sector other_count less = record { each = λ d s within. grind (arith, nat_tests, within) }

pub apart_behind : (disk sector count other_disk other_sector other_count : ℕ) → other_sector + other_count ≤ sector → AreApart disk sector count other_disk other_sector other_count
apart_behind disk sector count other_disk other_sector other_count more = record { each = λ d s within. grind (arith, nat_tests, within) }

-- What holds outside a region holds outside a wider one.
wider : (disk sector count in_disk in_sector in_count : ℕ) (P : ℕ → ℕ → Type 0)
    → EachOutside disk sector count P → IsInside disk sector count in_disk in_sector in_count → EachOutside in_disk in_sector in_count P
wider disk sector count in_disk in_sector in_count P out inside =
    outside_each in_disk in_sector in_count P (λ d s beyond. outside_at disk sector count P out d s (at d s (is_within disk sector count d s) refl beyond))
  where
    at : (d s : ℕ) (b : Bool) → is_within disk sector count d s ≡ b → is_within in_disk in_sector in_count d s ≡ false → is_within disk sector count d s ≡ false
    at d s true within beyond = let other = inside.each d s within in absurd (cc)
    at d s false apart beyond = apart

pub keeps_wider : (old new : Disks) (disk sector count in_disk in_sector in_count : ℕ)
    → KeepsSure old new disk sector count → IsInside disk sector count in_disk in_sector in_count → KeepsSure old new in_disk in_sector in_count
keeps_wider old new disk sector count in_disk in_sector in_count keeps inside = record {
  sizes = keeps.sizes;
  reads = wider disk sector count in_disk in_sector in_count (λ d s. new.reads d s ≡ old.reads d s) keeps.reads inside;
  sure = wider disk sector count in_disk in_sector in_count (λ d s. old.unsure d s ≡ false → new.unsure d s ≡ false) keeps.sure inside;
  still = wider disk sector count in_disk in_sector in_count (λ d s. new.unsure d s ≡ true → Stays old new d s) keeps.still inside;
  others = λ d s other. keeps.others d s (λ here. other (here ∙ inside.same));
}

pub has_wider : (old : Disks) (disk sector count in_disk in_sector in_count : ℕ) (image : Image)
    → HasSure old disk sector count image → IsInside disk sector count in_disk in_sector in_count → HasSure old in_disk in_sector in_count image
has_wider old disk sector count in_disk in_sector in_count image has inside = record {
  outside = wider disk sector count in_disk in_sector in_count (λ d s. old.unsure d s ≡ false → image d s ≡ old.reads d s) has.outside inside;
}

-- Calls that keep what is outside a region, and one more on a part of it. With `inside_none` that may be no part at all.
pub keeps_part : (old mid new : Disks) (disk sector count part_disk part_sector part_count : ℕ)
    → KeepsSure old mid disk sector count → KeepsSure mid new part_disk part_sector part_count → IsInside part_disk part_sector part_count disk sector count
    → KeepsSure old new disk sector count
keeps_part old mid new disk sector count part_disk part_sector part_count first next inside =
    both (keeps_wider mid new part_disk part_sector part_count disk sector count next inside)
  where
    both : KeepsSure mid new disk sector count → KeepsSure old new disk sector count
    both wide = grind arith

-- one call and another, over a region that has both of theirs
pub keeps_then : (old mid new : Disks) (disk sector count next_disk next_sector next_count in_disk in_sector in_count : ℕ)
    → KeepsSure old mid disk sector count → KeepsSure mid new next_disk next_sector next_count
    → IsInside disk sector count in_disk in_sector in_count → IsInside next_disk next_sector next_count in_disk in_sector in_count
    → KeepsSure old new in_disk in_sector in_count
keeps_then old mid new disk sector count next_disk next_sector next_count in_disk in_sector in_count first next inside next_inside =
    keeps_part old mid new in_disk in_sector in_count next_disk next_sector next_count
    (keeps_wider old mid disk sector count in_disk in_sector in_count first inside) next next_inside

-- An image that has what was sure after a call has what was sure before it.
pub has_before : (old mid : Disks) (disk sector count : ℕ) (image : Image)
    → KeepsSure old mid disk sector count → HasSure mid disk sector count image → HasSure old disk sector count image
has_before old mid disk sector count image keeps has = grind arith

-- a call that writes nothing
pub keeps_all : (old new : Disks) (disk sector count : ℕ) → KeepsAll old new disk → KeepsSure old new disk sector count
keeps_all old new disk sector count keeps = grind arith

-- What a crash now may leave has all that is sure.
pub image_has : (disks : Disks) (disk sector count : ℕ) (image : Image) → IsImage disks image → HasSure disks disk sector count image
image_has disks disk sector count image is = grind arith

-- what a crash leaves that may come at any moment of one stretch of time and of the next
pub leaves_then : (before mid now : ℕ) (past between since : ℕ → Image → Type 0) (P Q : Image → Type 0)
    → LeavesOnly before mid past between P → LeavesOnly mid now between since Q → ((image : Image) → Q image → P image)
    → LeavesOnly before now past since P
leaves_then before mid now past between since P Q first next implies = record {
  later = let a = first.later in let b = next.later in omega arith;
  each = λ image left. ⊎_elim (first.each image) (implies image) (next.nothing_else before image first.later left);
  nothing_else = λ t image le left. ⊎_elim (first.nothing_else t image le) (λ has. inr (implies image has)) (next.nothing_else t image (let a = first.later in omega arith) left);
  keeps = λ t image le left. next.keeps t image (let a = first.later in omega arith) (first.keeps t image le left);
}

pub leaves_implies : (before now : ℕ) (past since : ℕ → Image → Type 0) (P Q : Image → Type 0)
    → LeavesOnly before now past since P → ((image : Image) → P image → Q image) → LeavesOnly before now past since Q
leaves_implies before now past since P Q leaves implies = record {
  later = leaves.later;
  each = λ image left. implies image (leaves.each image left);
  nothing_else = λ t image le left. ⊎_elim (λ was. inl was) (λ has. inr (implies image has)) (leaves.nothing_else t image le left);
  keeps = leaves.keeps;
}

-- the same for calls that keep what is outside a region, and one more on a part of it
pub leaves_part : (before mid now : ℕ) (past between since : ℕ → Image → Type 0) (old new : Disks) (disk sector count part_disk part_sector part_count : ℕ)
    → LeavesOnly before mid past between (HasSure old disk sector count) → KeepsSure old new disk sector count
    → LeavesOnly mid now between since (HasSure new part_disk part_sector part_count) → IsInside part_disk part_sector part_count disk sector count
    → LeavesOnly before now past since (HasSure old disk sector count)
leaves_part before mid now past between since old new disk sector count part_disk part_sector part_count first keeps next inside =
    leaves_then before mid now past between since (HasSure old disk sector count) (HasSure new part_disk part_sector part_count) first next
    (λ image has. has_before old new disk sector count image keeps (has_wider new part_disk part_sector part_count disk sector count image has inside))

-- no time at all
pub leaves_now : (now : ℕ) (since : ℕ → Image → Type 0) (P : Image → Type 0) → ((image : Image) → since now image → P image) → LeavesOnly now now since since P
leaves_now now since P only = record {
  later = omega arith;
  each = only;
  nothing_else = λ t image le left. inl left;
  keeps = λ t image le left. left;
}

-- one call of a rack, by what it keeps
pub call_leaves : (before now : ℕ) (past since : ℕ → Image → Type 0) (old new : Disks) (disk sector count : ℕ)
    → Elapses before now past since new → KeepsSure old new disk sector count → ((image : Image) → past before image → IsImage old image)
    → LeavesOnly before now past since (HasSure old disk sector count)
call_leaves before now past since old new disk sector count time keeps only = record {
  later = time.later;
  each = λ image left. ⊎_elim (λ was. image_has old disk sector count image (only image was)) (here image) (time.nothing_else before image (omega arith) left);
  nothing_else = λ t image le left. ⊎_elim (λ was. inl was) (λ is. inr (here image is)) (time.nothing_else t image le left);
  keeps = time.keeps;
}
  where
    here : (image : Image) → IsImage new image → HasSure old disk sector count image
    here image is = has_before old new disk sector count image keeps (image_has new disk sector count image is)

-- what a write makes of disks, and what one that failed makes of them
pub keeps_written : (old new : Disks) (disk sector : ℕ) (bytes : List ℕ) → new ≡ written old disk sector bytes → KeepsSure old new disk sector (length bytes / 512)
keeps_written old new disk sector bytes is = rw is (grind (arith, nat_tests))

pub keeps_torn : (old new : Disks) (disk sector count : ℕ) → MayBeWritten old new disk sector count → KeepsSure old new disk sector count
keeps_torn old new disk sector count torn = grind (arith, nat_tests)

-- what may be written in a region, and then in a part of it
pub only_may : (old new : Disks) (disk sector count : ℕ) → WritesOnly old new disk sector count → MayBeWritten old new disk sector count
unfolding WritesOnly
only_may old new disk sector count only = only

pub may_only : (old new : Disks) (disk sector count : ℕ) → MayBeWritten old new disk sector count → WritesOnly old new disk sector count
unfolding WritesOnly
may_only old new disk sector count may = may

stays_then : (old mid new : Disks) (d s : ℕ) → Stays old mid d s → Stays mid new d s → Stays old new d s
stays_then old mid new d s first next = record { reads = next.reads ∙ first.reads; held = next.held ∙ first.held; unsure = next.unsure ∙ first.unsure }

pub may_part : (old mid new : Disks) (disk sector count part_disk part_sector part_count : ℕ)
    → MayBeWritten old mid disk sector count → MayBeWritten mid new part_disk part_sector part_count → IsInside part_disk part_sector part_count disk sector count
    → MayBeWritten old new disk sector count
may_part old mid new disk sector count part_disk part_sector part_count first next inside = record {
  sizes = next.sizes ∙ first.sizes;
  held = λ d s. next.held d s ∙ first.held d s;
  sure = λ d s within sure.
      let last = stayed d s (is_within part_disk part_sector part_count d s) refl sure in
      stays_then old mid new d s (first.sure d s within (sym last.unsure ∙ sure)) last;
  beyond = λ d s beyond. stays_then old mid new d s (first.beyond d s beyond) (next.beyond d s (out_of_part d s (is_within part_disk part_sector part_count d s) refl beyond));
}
  where
    stayed : (d s : ℕ) (b : Bool) → is_within part_disk part_sector part_count d s ≡ b → new.unsure d s ≡ false → Stays mid new d s
    stayed d s true is sure = next.sure d s is sure
    stayed d s false is sure = next.beyond d s is

    out_of_part : (d s : ℕ) (b : Bool) → is_within part_disk part_sector part_count d s ≡ b → is_within disk sector count d s ≡ false → is_within part_disk part_sector part_count d s ≡ false
    out_of_part d s true is beyond = let in_it = inside.each d s is in absurd (cc)
    out_of_part d s false is beyond = is

-- Each sector of a disk that was synced is sure.
pub synced_sure : (disks : Disks) (disk sector count : ℕ) → IsSynced disks disk → IsSure disks disk sector count
synced_sure disks disk sector count synced = record { each = λ s low high. synced.each s }

-- A region that a call doesn't write reads as it did, and is sure if it was.
pub reads_kept : (old new : Disks) (disk sector : ℕ) (bytes : List ℕ) (other_disk other_sector other_count : ℕ)
    → KeepsSure old new other_disk other_sector other_count → AreApart disk sector (length bytes / 512) other_disk other_sector other_count
    → ReadsAs old.reads disk sector bytes → ReadsAs new.reads disk sector bytes
reads_kept old new disk sector bytes other_disk other_sector other_count keeps apart reads = record {
  each = λ i less.
      outside_at other_disk other_sector other_count (λ d s. new.reads d s ≡ old.reads d s) keeps.reads disk (sector + i)
      (apart.each disk (sector + i) (grind (arith, nat_tests, less))) ∙ reads.each i less;
}

pub zero_kept : (old new : Disks) (disk sector count other_disk other_sector other_count : ℕ)
    → KeepsSure old new other_disk other_sector other_count → AreApart disk sector count other_disk other_sector other_count
    → IsZero old.reads disk sector count → IsZero new.reads disk sector count
zero_kept old new disk sector count other_disk other_sector other_count keeps apart zero = record {
  each = λ s low high.
      outside_at other_disk other_sector other_count (λ d s. new.reads d s ≡ old.reads d s) keeps.reads disk s
      (apart.each disk s (grind (arith, nat_tests, low, high))) ∙ zero.each s low high;
}

pub sure_kept : (old new : Disks) (disk sector count other_disk other_sector other_count : ℕ)
    → KeepsSure old new other_disk other_sector other_count → AreApart disk sector count other_disk other_sector other_count
    → IsSure old disk sector count → IsSure new disk sector count
sure_kept old new disk sector count other_disk other_sector other_count keeps apart sure = record {
  each = λ s low high.
      outside_at other_disk other_sector other_count (λ d s. old.unsure d s ≡ false → new.unsure d s ≡ false) keeps.sure disk s
      (apart.each disk s (grind (arith, nat_tests, low, high))) (sure.each s low high);
}

-- Each image has the bytes of a region that is sure.
pub image_reads : (disks : Disks) (disk sector : ℕ) (bytes : List ℕ) (image : Image)
    → IsImage disks image → IsSure disks disk sector (length bytes / 512) → ReadsAs disks.reads disk sector bytes → ReadsAs image disk sector bytes
image_reads disks disk sector bytes image is sure reads = record {
  each = λ i less. is.sure disk (sector + i) (sure.each (sector + i) (omega arith) (omega arith)) ∙ reads.each i less;
}

-- and so has each image that a call on another region may leave
pub has_reads : (old : Disks) (disk sector : ℕ) (bytes : List ℕ) (other_disk other_sector other_count : ℕ) (image : Image)
    → HasSure old other_disk other_sector other_count image → AreApart disk sector (length bytes / 512) other_disk other_sector other_count
    → IsSure old disk sector (length bytes / 512) → ReadsAs old.reads disk sector bytes → ReadsAs image disk sector bytes
has_reads old disk sector bytes other_disk other_sector other_count image has apart sure reads = record {
  each = λ i less.
      outside_at other_disk other_sector other_count (λ d s. old.unsure d s ≡ false → image d s ≡ old.reads d s) has.outside disk (sector + i)
      (apart.each disk (sector + i) (grind (arith, nat_tests, less))) (sure.each (sector + i) (omega arith) (omega arith)) ∙ reads.each i less;
}

-- a sector of bytes that are all zero
pub blank_sector : (n i : ℕ) → 512 * i + 512 ≤ n → sector_of (replicate n 0) i ≡ zeros
unfolding sector_of zeros
blank_sector n i less = rw drop-replicate (take-replicate 512 (n - 512 * i) 0 (omega arith))

pub blank_reads : (image : Image) (disk sector : ℕ) (bytes : List ℕ) → bytes ≡ replicate (length bytes) 0 → ReadsAs image disk sector bytes
    → IsZero image disk sector (length bytes / 512)
blank_reads image disk sector bytes blank reads = record {
  each = λ s low high.
      let there : sector + (s - sector) ≡ s = omega arith in
      let here = reads.each (s - sector) (omega arith) in
      ap (image disk) (sym there) ∙ here ∙ ap (λ (l : List ℕ). sector_of l (s - sector)) blank ∙ blank_sector (length bytes) (s - sector) (omega arith);
}

-- a region of zeros, and a piece of zeros behind it
pub zero_more : (old new : Disks) (disk sector done more : ℕ) → IsZero old.reads disk sector done → KeepsSure old new disk (sector + done) more
    → IsZero new.reads disk (sector + done) more → IsZero new.reads disk sector (done + more)
zero_more old new disk sector done more zero keeps piece = record { each = λ s low high. by_side s low high (side s) }
  where
    side : (s : ℕ) → (s < sector + done) ⊎ (sector + done ≤ s)
    side s = grind arith

    by_side : (s : ℕ) → sector ≤ s → s < sector + (done + more) → (s < sector + done) ⊎ (sector + done ≤ s) → new.reads disk s ≡ zeros
    by_side s low high which = ⊎_elim (λ less. keeps.reads.before s less ∙ zero.each s low less) (λ past. piece.each s past (omega arith)) which

-- the front of bytes that are all zero, and how many sectors it has
pub blank_front : (n : ℕ) (bytes : List ℕ) → bytes ≡ replicate (length bytes) 0 → n ≤ length bytes → take n bytes ≡ replicate (length (take n bytes)) 0
blank_front n bytes blank le =
    let short : take n bytes ≡ replicate n 0 = ap (take n) blank ∙ take-replicate n (length bytes) 0 le in
    let long : length (take n bytes) ≡ n = length-take-le n bytes le in
    rw long short

pub front_count : (n : ℕ) (bytes : List ℕ) → 512 * n ≤ length bytes → length (take (512 * n) bytes) / 512 ≡ n
front_count n bytes le = let long = length-take-le (512 * n) bytes le in omega arith
