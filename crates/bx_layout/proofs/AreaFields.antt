-- An area as a field.
use Rattle.std.proofs.Common.{◌≡◌, ℕ, zero, suc, ◌^◌, ◌<◌, List, [], ◌∷◌, length, refl, arith}
use Rattle.std.specs.Prelude.{slice_index}
use Rattle.std.specs.List.{AllByRecursion}
use Rattle.std.proofs.lemmas.List.{length-append}
use Rattle.bx_base.specs.Bytes.{words}
use Rattle.bx_base.proofs.Fields.{IsField, as_field, then_field, fits_field, list_field, field32, bytes_field}
use Rattle.bx_layout.specs.declared.area.AreaBlock.{AreaBlock}
use Rattle.bx_layout.specs.Areas.{IsArea, area_text}
use Rattle.bx_layout.proofs.Lengths.{length-words}
use Rattle.bx_layout.specs.AreaReading.{area_with, area_parts, area_at}

each_below : (xs : List ℕ) → AllByRecursion (λ x. x < 2 ^ 32) xs → (i : ℕ) → slice_index xs i < 2 ^ 32
each_below [] all i = omega arith
each_below (x ∷ xs) all zero = all.0
each_below (x ∷ xs) all (suc i) = each_below xs all.1 i

all_below : (xs : List ℕ) → ((i : ℕ) → slice_index xs i < 2 ^ 32) → AllByRecursion (λ x. x < 2 ^ 32) xs
all_below [] each = tt
all_below (x ∷ xs) each = (each 0, all_below xs (λ i. each (suc i)))

pub area_field : IsField area_at area_text IsArea
unfolding area_at
area_field =
    fits_field IsArea
    (λ area fits. record { words = fits.0.0; fits = each_below area.words fits.0.1; dead = fits.1 })
    (λ area is. ((is.words, all_below area.words is.fits), is.dead))
    (as_field area_with area_parts (λ x. refl) (λ y. refl) (then_field (list_field 960 field32) (bytes_field 120)))

pub length-area_text : (area : AreaBlock) → IsArea area → length (area_text area) ≡ 3960
length-area_text area is = omega (arith, length-append (words area.words) area.dead, length-words area.words, is.words, is.dead)
