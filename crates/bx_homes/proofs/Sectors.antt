-- One sector that was read, and answers that are no value.
use Rattle.std.proofs.Common.{◌≡◌, ℕ, ◌+◌, Bool, true, false, sym, List, length, Option, Some, None, IfNone, subst, ap, ◌∙◌, arith}
use Rattle.std.specs.Prelude.{IfSome}
use Rattle.std.proofs.lemmas.List.{take_all}
use Rattle.bx_disk.specs.Disks.{Image, sector_of}
use Rattle.bx_calls.specs.Regions.{ReadsAs}

whole_sector : (bytes : List ℕ) → length bytes ≡ 512 → sector_of bytes 0 ≡ bytes
unfolding sector_of
whole_sector bytes long = take_all 512 bytes (omega (arith, long))

-- a sector that was read is these bytes
pub sector_read : (image : Image) (disk sector : ℕ) (bytes : List ℕ) → length bytes ≡ 512 → ReadsAs image disk sector bytes → image disk sector ≡ bytes
sector_read image disk sector bytes long reads =
    let there : sector + 0 ≡ sector = omega arith in
    ap (image disk) (sym there) ∙ reads.each 0 (omega (arith, long)) ∙ whole_sector bytes long

pub if_none : {A P Q : Type 0} (found : Option A) → (P → Q) → IfNone found P → IfNone found Q
if_none None implies is = implies is
if_none (Some x) implies is = is

pub of_some : {A : Type 0} (P : A → Type 0) (found : Option A) (x : A) → found ≡ Some x → IfSome found P → P x
of_some P (Some y) x same is = subst P (some_one y x same) is
  where
    some_one : {A : Type 0} (y x : A) → Some y ≡ Some x → y ≡ x
    some_one y x same = cc
of_some P None x same is = absurd cc

pub of_none : {A P : Type 0} (found : Option A) → found ≡ None → IfNone found P → P
of_none None same is = is
of_none (Some y) same is = absurd cc

pub not_both : (b : Bool) → b ≡ true → b ≡ false → ⊥
not_both b holds fails = absurd cc
