-- How long numbers are as bytes.
use Rattle.std.proofs.Common.{◌≡◌, ℕ, ◌*◌, List, [], ◌∷◌, length, refl, ap, ◌∙◌, arith}
use Rattle.std.specs.List.{flat_map}
use Rattle.std.specs.Int.{w64, to_be_bytes}
use Rattle.std.proofs.lemmas.List.{length-append}
use Rattle.std.proofs.lemmas.List.Concat.{flat_map-cons}

pub length-numbers : (xs : List ℕ) → length (flat_map (to_be_bytes w64) xs) ≡ 8 * length xs
length-numbers [] = refl
length-numbers (x ∷ xs) =
    ap length (flat_map-cons (to_be_bytes w64) x xs) ∙ length-append (to_be_bytes w64 x) (flat_map (to_be_bytes w64) xs) ∙ omega (arith, length-numbers xs)
