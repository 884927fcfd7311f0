-- Disks that are made anew.
use Rattle.std.proofs.Common.{◌≡◌, ℕ, zero, suc, ◌<◌, false, List, [], ◌∷◌, ◌++◌, length, arith, sym, ap, refl, subst, ⊎_elim, ◌⊎◌, inl, inr}
use Rattle.std.specs.Prelude.{slice_get, slice_index, Some}
use Rattle.std.proofs.lemmas.Bool.{lt-ltb}
use Rattle.bx_disk.specs.Disks.{shaped}
use Rattle.bx_memory_rack.specs.Memory.{IsBlank, IsKeptAs, AreKept, owed}
use Rattle.bx_memory_rack.specs.declared.cell.Cell.{Cell}
use Rattle.bx_memory_rack.specs.declared.mem_disk.MemDisk.{MemDisk}
use Rattle.bx_memory_rack.proofs.Keeping.{cleared_here}

get_push : (disks : List MemDisk) (new : MemDisk) (d : ℕ) (disk : MemDisk) → slice_get (disks ++ new ∷ []) d ≡ Some disk
    → (slice_get disks d ≡ Some disk) ⊎ ((d ≡ length disks) × (new ≡ disk))
get_push [] new zero disk is = inr (refl, cc)
get_push [] new (suc d) disk is = absurd (cc)
get_push (x ∷ disks) new zero disk is = inl is
get_push (x ∷ disks) new (suc d) disk is = ⊎_elim (λ there. inl there) (λ here. inr (ap suc here.0, here.1)) (get_push disks new d disk is)

pub blank_push : (sizes : List ℕ) (disks : List MemDisk) (new : MemDisk) (n : ℕ) → ((d : ℕ) (disk : MemDisk) → slice_get disks d ≡ Some disk → IsBlank disk (slice_index sizes d) n)
    → IsBlank new (slice_index sizes (length disks)) n
    → (d : ℕ) (disk : MemDisk) → slice_get (disks ++ new ∷ []) d ≡ Some disk → IsBlank disk (slice_index sizes d) n
blank_push sizes disks new n each here d disk is =
    ⊎_elim (λ there. each d disk there) (λ at. subst (λ (e : ℕ). IsBlank disk (slice_index sizes e) n) (sym at.0) (subst (λ (x : MemDisk). IsBlank x (slice_index sizes (length disks)) n) at.1 here)) (get_push disks new d disk is)

pub owed_push : (disks : List MemDisk) (new : MemDisk) → new.dirty ≡ false → owed disks ≡ 0 → owed (disks ++ new ∷ []) ≡ 0
owed_push [] new clean none = rw clean refl
owed_push (x ∷ disks) new clean none =
    let rest : owed disks ≡ 0 = omega arith in
    let more = owed_push disks new clean rest in
    rw more (rw rest at none)

pub kept_blank : (sizes : List ℕ) (disks : List MemDisk) (n : ℕ) → length disks ≡ length sizes
    → ((d : ℕ) (disk : MemDisk) → slice_get disks d ≡ Some disk → IsBlank disk (slice_index sizes d) n) → AreKept (shaped sizes) disks n
kept_blank sizes disks n many each = record { many = many; each = λ d disk is. at d disk (each d disk is) }
  where
    at : (d : ℕ) (disk : MemDisk) → IsBlank disk (slice_index sizes d) n → IsKeptAs (shaped sizes) d disk n
    at d disk blank = cleared_here (shaped sizes) d disk n (sym blank.size) blank.small
        (λ s within. rw (lt-ltb s (slice_index sizes d) (subst (λ (m : ℕ). s < m) blank.size within)) (sym (ap (λ (c : Cell). c.now) (blank.cells s))))
        (λ s. refl) (λ s. refl)
        (λ s. let since = ap (λ (c : Cell). c.since) (blank.cells s) in omega arith)
        blank.synced blank.clean
