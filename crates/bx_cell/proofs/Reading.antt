-- What a half has, read off the bytes of its cell.
use Rattle.std.proofs.Common.{◌≡◌, ℕ, ◌+◌, ◌-◌, ◌*◌, ◌<◌, ◌≤◌, ◌&&◌, Bool, true, false, List, length, take, drop, Option, Some, None, refl, sym, ap, ◌∙◌, arith, nat_le}
use Rattle.std.specs.Prelude.{IfSome, IfNone}
use Rattle.std.proofs.lemmas.Bool.{and_parts, leb-true}
use Rattle.std.proofs.lemmas.List.{take-take}
use Rattle.bx_disk.specs.Disks.{sector_of}
use Rattle.bx_cell.specs.declared.halves.Head.{Head}
use Rattle.bx_cell.specs.Halves.{is_open, number_in, length_in, half_of, half_at}
use Rattle.bx_cell.specs.Bytes.{found_at}
use Rattle.bx_cell.proofs.Sectors.{half_open, joined_sectors}

-- a sector of the bytes as a part of them
abbrev part : List ℕ → ℕ → ℕ → List ℕ
part bytes at end = take (end - at) (drop at bytes)

gate_part : (bytes : List ℕ) (half : ℕ) → part bytes (5120 * half) (5120 * half + 512) ≡ sector_of bytes (10 * half)
unfolding sector_of
gate_part bytes half =
    let len : 5120 * half + 512 - 5120 * half ≡ 512 = omega arith in
    let at : 5120 * half ≡ 512 * (10 * half) = omega arith in
    ap (λ (n : ℕ). take n (drop (5120 * half) bytes)) len ∙ ap (λ (n : ℕ). take 512 (drop n bytes)) at

header_part : (bytes : List ℕ) (half : ℕ) → part bytes (5120 * half + 512) (5120 * half + 1024) ≡ sector_of bytes (10 * half + 1)
unfolding sector_of
header_part bytes half =
    let len : 5120 * half + 1024 - (5120 * half + 512) ≡ 512 = omega arith in
    let at : 5120 * half + 512 ≡ 512 * (10 * half + 1) = omega arith in
    ap (λ (n : ℕ). take n (drop (5120 * half + 512) bytes)) len ∙ ap (λ (n : ℕ). take 512 (drop n bytes)) at

module _ (bytes : List ℕ) (half : ℕ) where
  abbrev counts : Bool
  counts = is_open (part bytes (5120 * half) (5120 * half + 512)) && nat_le (length_in (part bytes (5120 * half + 512) (5120 * half + 1024))) 4096

  pub half_some : (found : Option Head) → half < 2 → length bytes ≡ 10240
      → IfSome found (λ head. (counts ≡ true) × (head ≡ record { number = number_in (part bytes (5120 * half + 512) (5120 * half + 1024)); length = length_in (part bytes (5120 * half + 512) (5120 * half + 1024)) }))
      → IfSome found (λ head. half_at (sector_of bytes) half (10 * half) ≡ Some (found_at half head.number head.length bytes))
  half_some None low size is = tt
  half_some (Some head) low size is =
      let parts = and_parts _ _ is.0 in
      let header = header_part bytes half in
      let short : length_in (sector_of bytes (10 * half + 1)) ≤ 4096 = rw (← header) (leb-true _ _ parts.1) in
      let behind : 512 * (10 * half + 2) ≡ 5120 * half + 1024 = omega arith in
      let area = joined_sectors (sector_of bytes) bytes 8 (10 * half + 2) (10 * half + 2) (λ i less. refl) in
      half_open (sector_of bytes) half (10 * half) (number_in (sector_of bytes (10 * half + 1))) (length_in (sector_of bytes (10 * half + 1))) _ (rw (← gate_part bytes half) parts.0) refl refl short area
      ∙ ap (λ (l : List ℕ). Some (record { half = half; number = number_in (sector_of bytes (10 * half + 1)); value = l }))
      (take-take (length_in (sector_of bytes (10 * half + 1))) 4096 (drop (512 * (10 * half + 2)) bytes) short ∙ ap (λ (n : ℕ). take (length_in (sector_of bytes (10 * half + 1))) (drop n bytes)) behind)
      ∙ ap (λ (h : List ℕ). Some (found_at half (number_in h) (length_in h) bytes)) (sym header)
      ∙ ap (λ (h : Head). Some (found_at half h.number h.length bytes)) (sym is.1)

  pub half_none : (found : Option Head) → half < 2 → length bytes ≡ 10240 → IfNone found (counts ≡ false) → IfNone found (half_at (sector_of bytes) half (10 * half) ≡ None)
  unfolding half_at half_of
  half_none (Some head) low size is = tt
  half_none None low size is = rw (← gate_part bytes half, ← header_part bytes half, is) refl
