-- How many disks have unsure sectors, once one disk took a step.
use Rattle.std.proofs.Common.{◌≡◌, ℕ, zero, suc, ◌+◌, ◌≤◌, Bool, true, false, List, [], ◌∷◌, length, set, arith, ap}
use Rattle.std.proofs.Math.ListN.{length-set}
use Rattle.std.specs.Prelude.{if◌then◌else◌, slice_get, Some}
use Rattle.bx_memory_rack.specs.Memory.{owed}
use Rattle.bx_memory_rack.specs.declared.mem_disk.MemDisk.{MemDisk}

abbrev bit : Bool → ℕ
bit b = if b then 1 else 0

pub bit_small : (b : Bool) → bit b ≤ 1
bit_small true = omega arith
bit_small false = omega arith

pub owed-le-length : (disks : List MemDisk) → owed disks ≤ length disks
owed-le-length [] = omega arith
owed-le-length (disk ∷ disks) = let rest = owed-le-length disks in let one = bit_small disk.dirty in omega arith

pub owed-set : (disks : List MemDisk) (d : ℕ) (old new : MemDisk) → slice_get disks d ≡ Some old
    → owed (set disks d new) + bit old.dirty ≡ owed disks + bit new.dirty
owed-set [] d old new is = absurd (cc)
owed-set (disk ∷ disks) zero old new is =
    let same : disk ≡ old = cc in
    rw (← same) (omega arith)
owed-set (disk ∷ disks) (suc d) old new is = let rest = owed-set disks d old new is in omega arith

pub owed-some : (disks : List MemDisk) (d : ℕ) (old : MemDisk) → slice_get disks d ≡ Some old → old.dirty ≡ true → 1 ≤ owed disks
owed-some [] d old is dirty = absurd (cc)
owed-some (disk ∷ disks) zero old is dirty =
    let is_dirty : disk.dirty ≡ true = cc in
    rw is_dirty (omega arith)
owed-some (disk ∷ disks) (suc d) old is dirty = let rest = owed-some disks d old is dirty in omega arith

pub write_room : (disks : List MemDisk) (d : ℕ) (new : MemDisk) (n long cap : ℕ) → n + (length disks + 1) ≤ cap → long ≡ n + 1 → owed (set disks d new) + long ≤ cap
write_room disks d new n long cap room is =
    let most = owed-le-length (set disks d new) in
    let same = length-set disks d new in
    omega arith

pub same_room : (disks : List MemDisk) (d : ℕ) (old new : MemDisk) (n long cap more : ℕ) → slice_get disks d ≡ Some old → new.dirty ≡ old.dirty
    → owed disks + n ≤ cap → long ≡ n → cap ≤ more → owed (set disks d new) + long ≤ more
same_room disks d old new n long cap more got dirty room is le =
    let count = owed-set disks d old new got in
    let bits : bit new.dirty ≡ bit old.dirty = ap bit dirty in
    omega arith

pub sync_room : (disks : List MemDisk) (d : ℕ) (old new : MemDisk) (n long cap same : ℕ) → slice_get disks d ≡ Some old → old.dirty ≡ true → new.dirty ≡ false
    → owed disks + n ≤ cap → long ≡ n + 1 → same ≡ cap → owed (set disks d new) + long ≤ same
sync_room disks d old new n long cap same got dirty clean room is cap_is =
    let count = owed-set disks d old new got in
    let one : bit old.dirty ≡ 1 = ap bit dirty in
    let none : bit new.dirty ≡ 0 = ap bit clean in
    omega arith
