-- A disk is looked at, and then synced or written.
use Rattle.std.proofs.Common.{◌≡◌, ℕ, subst}
use Rattle.bx_calls.specs.Calls.{HasSure, KeepsAll, KeepsSure, LeavesOnly}
use Rattle.bx_calls.specs.Laws.{image_has, leaves_implies, leaves_then}
use Rattle.bx_disk.specs.Disks.{Disks, Image, IsImage}

pub all_after : (x y z : Disks) (disk : ℕ) → y ≡ x → KeepsAll y z disk → KeepsAll x z disk
all_after x y z disk same all = subst (λ (w : Disks). KeepsAll w z disk) same all

pub sure_after : (x y z : Disks) (disk count : ℕ) → y ≡ x → count ≡ 1 → KeepsSure y z disk 0 count → KeepsSure x z disk 0 1
sure_after x y z disk count same is keeps = subst (λ (n : ℕ). KeepsSure x z disk 0 n) is (subst (λ (w : Disks). KeepsSure w z disk 0 count) same keeps)

pub images_after : (before mid now : ℕ) (past between since : ℕ → Image → Type 0) (x y : Disks) → y ≡ x → LeavesOnly before mid past between (IsImage x) → LeavesOnly mid now between since (IsImage y)
    → LeavesOnly before now past since (IsImage x)
images_after before mid now past between since x y same first next =
    leaves_then before mid now past between since (IsImage x) (IsImage y) first next (λ image is. subst (λ (w : Disks). IsImage w image) same is)

pub sure_images : (before now : ℕ) (past since : ℕ → Image → Type 0) (x : Disks) (disk : ℕ) → LeavesOnly before now past since (IsImage x) → LeavesOnly before now past since (HasSure x disk 0 1)
sure_images before now past since x disk leaves = leaves_implies before now past since (IsImage x) (HasSure x disk 0 1) leaves (λ image is. image_has x disk 0 1 image is)

pub written_after : (before mid now : ℕ) (past between since : ℕ → Image → Type 0) (x y : Disks) (disk count : ℕ) → y ≡ x → count ≡ 1 → LeavesOnly before mid past between (IsImage x) → LeavesOnly mid now between since (HasSure y disk 0 count)
    → LeavesOnly before now past since (HasSure x disk 0 1)
written_after before mid now past between since x y disk count same is first next =
    leaves_then before mid now past between since (HasSure x disk 0 1) (HasSure y disk 0 count) (sure_images before mid past between x disk first) next
    (λ image has. subst (λ (n : ℕ). HasSure x disk 0 n image) is (subst (λ (w : Disks). HasSure w disk 0 count image) same has))
