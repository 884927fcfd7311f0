-- The entries of a directory with numbers above one.
use Rattle.std.proofs.Common.{◌≡◌, ℕ, ◌&&◌, ltb, Bool, true, false, cond, List, [], ◌∷◌, refl, ap, ◌∙◌, arith}
use Rattle.std.specs.BTreeMap.Range.{entries_between}
use Rattle.std.specs.Map.{values_of}
use Rattle.std.specs.Ordering.{is_lt, nat_cmp}
use Rattle.std.specs.declared.ops.Bound.TheVariants.{Excluded, Unbounded}
use Rattle.std.proofs.lemmas.Bool.Decides.{nat_tests}
use Rattle.bx_tree_files.specs.declared.file.Name.{Name}
use Rattle.bx_tree_files.specs.Entries.{AreApart, above}

above_by : (passes : Bool) (e : ℕ × Name) (es : List (ℕ × Name)) (others : List Name) → values_of es ≡ others → values_of (cond passes (e ∷ es) es) ≡ cond passes (e.1 ∷ others) others
above_by true e es others later = ap (λ (names : List Name). e.1 ∷ names) later
above_by false e es others later = later

same_side : (a b : ℕ) → (is_lt (nat_cmp a b) && true) ≡ ltb a b
same_side a b = grind (arith, nat_tests)

pub seen_above : (number : ℕ) (es : List (ℕ × Name)) → AreApart es → values_of (entries_between nat_cmp (Excluded number) Unbounded es) ≡ above number (values_of es)
seen_above number [] apart = refl
seen_above number (e ∷ es) apart =
    above_by (is_lt (nat_cmp number e.0) && true) e (entries_between nat_cmp (Excluded number) Unbounded es) (above number (values_of es)) (seen_above number es apart.2)
    ∙ ap (λ (passes : Bool). cond passes (e.1 ∷ above number (values_of es)) (above number (values_of es))) (same_side number e.0 ∙ ap (λ (k : ℕ). ltb number k) apart.0)
