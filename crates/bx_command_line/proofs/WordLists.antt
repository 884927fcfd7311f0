-- Lists of one word, and of four.
use Rattle.std.proofs.Common.{◌≡◌, ℕ, ◌<◌, ◌≤◌, Bool, true, false, List, [], ◌∷◌, length, get_or, not, refl, sym, ap, ◌∙◌, arith}
use Rattle.std.specs.Prelude.{map, IsTrue, ◌↔◌}
use Rattle.std.specs.Str.{bytes_eq}
use Rattle.std.proofs.lemmas.Slice.Eq.{bytes_eq-Decides}

pub is_one_word : {A : Type 0} (f : A → List ℕ) (words : List A) (word : A) (shown line : List ℕ) (r : Bool)
    → 1 ≤ length words → length words < 2 → word ≡ get_or words 0 word → shown ≡ f word → r ≡ bytes_eq shown line
    → IsTrue r ↔ (map f words ≡ line ∷ [])
is_one_word f [] word shown line r some one is shown-is r-is = absurd (omega arith)
is_one_word f (x ∷ []) word shown line r some one is shown-is r-is =
    let decides = bytes_eq-Decides shown line in
    let same : f x ≡ shown = ap f (sym is) ∙ sym shown-is in (
      λ h. ap (λ (w : List ℕ). w ∷ []) (same ∙ decides.0 (sym r-is ∙ h)),
      λ h. r-is ∙ decides.1 (sym same ∙ (let g : f x ∷ [] ≡ line ∷ [] = h in cc)),
    )
is_one_word f (x ∷ y ∷ words) word shown line r some one is shown-is r-is = absurd (omega arith)

pub are_four : {A : Type 0} (f : A → List ℕ) (words : List A) (w v d a : A) → 4 ≤ length words → length words < 5
    → w ≡ get_or words 0 w → v ≡ get_or words 1 v → d ≡ get_or words 2 d → a ≡ get_or words 3 a → map f words ≡ f w ∷ f v ∷ f d ∷ f a ∷ []
are_four f [] w v d a some few is_w is_v is_d is_a = absurd (omega (arith, some))
are_four f (x ∷ []) w v d a some few is_w is_v is_d is_a = absurd (omega (arith, some))
are_four f (x ∷ y ∷ []) w v d a some few is_w is_v is_d is_a = absurd (omega (arith, some))
are_four f (x ∷ y ∷ z ∷ []) w v d a some few is_w is_v is_d is_a = absurd (omega (arith, some))
are_four f (x ∷ y ∷ z ∷ u ∷ []) w v d a some few is_w is_v is_d is_a =
    let first : w ≡ x = is_w in
    let second : v ≡ y = is_v in
    let third : d ≡ z = is_d in
    let fourth : a ≡ u = is_a in
    rw (first, second, third, fourth) refl
are_four f (x ∷ y ∷ z ∷ u ∷ more ∷ words) w v d a some few is_w is_v is_d is_a = absurd (omega (arith, few))

-- texts that aren't told apart are one
pub not_other : (shown line : List ℕ) (r : Bool) → r ≡ not (bytes_eq shown line) → r ≡ false → shown ≡ line
not_other shown line r is none = (bytes_eq-Decides shown line).0 (by (bytes_eq shown line) (sym is ∙ none))
  where
    by : (b : Bool) → not b ≡ false → b ≡ true
    by true e = refl
    by false e = absurd cc
