-- Where blocks, gates and bodies stand, and what a write of one of them leaves alone.
use Rattle.std.proofs.Common.{◌≡◌, ℕ, ◌+◌, ◌/◌, ◌<◌, ◌≤◌, ◌⊎◌, ⊎_elim, inl, inr, arith, List, length, ◌∙◌}
use Rattle.std.specs.Prelude.{◌≢◌}
use Rattle.std.proofs.lemmas.Bool.Decides.{nat_tests}
use Rattle.bx_disk.specs.Disks.{Image}
use Rattle.bx_calls.specs.Regions.{EachOutside, ReadsAs}
use Rattle.bx_places.specs.Places.{IsVolume, IsBlock, AreApart, block_place, log_start}

-- a block's home is behind all log slots
pub home_and_log : (at devices slot : ℕ) → slot < 8 → log_start slot + 1168 ≤ (block_place at devices).1
home_and_log at devices slot less = grind (arith, nat_tests)

pub two_homes : (one other devices areas : ℕ) → IsVolume devices areas → IsBlock areas one → IsBlock areas other → one ≢ other
    → (block_place one devices).0 ≡ (block_place other devices).0 → AreApart (block_place one devices).1 9 (block_place other devices).1 9
two_homes one other devices areas volume is_one is_other apart same = grind (arith, nat_tests)

-- a sector that isn't among those of a region, on the disk of the region or another
pub outside : (disk sector count : ℕ) (P : ℕ → ℕ → Type 0) (d s : ℕ) → EachOutside disk sector count P
    → (d ≢ disk) ⊎ ((s < sector) ⊎ (sector + count ≤ s)) → P d s
outside disk sector count P d s each = ⊎_elim (λ other. each.elsewhere d s other) (λ side. here (cases d disk) side)
  where
    cases : (a b : ℕ) → (a ≡ b) ⊎ (a ≢ b)
    cases a b = grind arith

    here : (d ≡ disk) ⊎ (d ≢ disk) → (s < sector) ⊎ (sector + count ≤ s) → P d s
    here (inl same) side = ⊎_elim (λ less. rw same (each.before s less)) (λ past. rw same (each.behind s past)) side
    here (inr other) side = each.elsewhere d s other

-- bytes that stand apart from a region that alone was written
pub reads_apart : (held now : Image) (disk sector count d s : ℕ) (bytes : List ℕ) → EachOutside disk sector count (λ d s. now d s ≡ held d s)
    → (d ≡ disk → AreApart sector count s (length bytes / 512)) → ReadsAs held d s bytes → ReadsAs now d s bytes
reads_apart held now disk sector count d s bytes each apart reads = record {
  each = λ i less. outside disk sector count (λ d s. now d s ≡ held d s) d (s + i) each (side i less (same d disk)) ∙ reads.each i less;
}
  where
    same : (a b : ℕ) → (a ≡ b) ⊎ (a ≢ b)
    same a b = grind arith

    side : (i : ℕ) → i < length bytes / 512 → (d ≡ disk) ⊎ (d ≢ disk) → (d ≢ disk) ⊎ ((s + i < sector) ⊎ (sector + count ≤ s + i))
    side i less (inl is) = inr (⊎_elim (λ before. inr (omega (arith, before))) (λ behind. inl (omega (arith, behind, less))) (apart is))
    side i less (inr other) = inl other
