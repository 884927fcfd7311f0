-- How long words are as bytes.
use Rattle.std.proofs.Common.{◌≡◌, ℕ, ◌*◌, List, [], ◌∷◌, length, refl, ap, ◌∙◌, arith}
use Rattle.std.specs.Int.{w32, to_be_bytes}
use Rattle.std.proofs.lemmas.List.{length-append}
use Rattle.std.proofs.lemmas.List.Concat.{flat_map-cons}
use Rattle.bx_base.specs.Bytes.{words}

pub length-words : (xs : List ℕ) → length (words xs) ≡ 4 * length xs
length-words [] = refl
length-words (x ∷ xs) = ap length (flat_map-cons (to_be_bytes w32) x xs) ∙ length-append (to_be_bytes w32 x) (words xs) ∙ omega (arith, length-words xs)
