-- Logs that agree, entry by entry.
use Rattle.std.proofs.Common.{◌≡◌, ℕ, suc, arith, cond, ◌⊎◌, ⊎_elim, inl, inr, Bool, true, false, List, [], ◌∷◌, Some, None, sym, ◌∙◌, subst, refl}
use Rattle.std.proofs.lemmas.Bool.Decides.{nat_tests}
use Rattle.std.specs.List.{All}
use Rattle.std.specs.Map.{lookup}
use Rattle.std.specs.BTreeMap.{is_at}
use Rattle.std.specs.Ordering.{nat_cmp}
use Rattle.bx_layout.specs.declared.block.Block.{Block}
use Rattle.bx_logs.specs.Newest.{Agree, Newest, newest_at}

-- what two logs have with one number is the same, or stands among the entries that are left of the second
pub record IsLeft (one other : Newest) (rest : List (ℕ × Block)) : Type 0 where
  pub has : All (λ e. newest_at other e.0 ≡ Some e.1) rest
  pub agreed : (at : ℕ) (a b : Block) → newest_at one at ≡ Some a → newest_at other at ≡ Some b → (a ≡ b) ⊎ (lookup (is_at (nat_cmp at)) rest ≡ Some b)

pub at_first : (one other : Newest) → All (λ e. newest_at other e.0 ≡ Some e.1) other.entries → IsLeft one other other.entries
at_first one other all = record { has = all; agreed = λ at a b is_a is_b. inr is_b }

pub at_end : (one other : Newest) → IsLeft one other [] → Agree one other
at_end one other left at a b is_a is_b = ⊎_elim (λ same. same) (λ none. absurd (cc)) (left.agreed at a b is_a is_b)

number_at : (a b : ℕ) → is_at (nat_cmp a) b ≡ true → a ≡ b
number_at a b test = grind (arith, nat_tests, test)

some_same : (a b : Block) → Some a ≡ Some b → a ≡ b
some_same a b same = cc

-- one entry less, where the first log has no other block with its number
pub next_left : (one other : Newest) (at : ℕ) (block : Block) (rest : List (ℕ × Block)) → IsLeft one other ((at, block) ∷ rest) → ((a : Block) → newest_at one at ≡ Some a → a ≡ block) → IsLeft one other rest
next_left one other at block rest left same = record {
  has = λ k d less. left.has (suc k) d (omega (arith, less));
  agreed = λ number a b is_a is_b. ⊎_elim (λ already. inl already) (λ found. by number a b is_a (is_at (nat_cmp number) at) refl found) (left.agreed number a b is_a is_b);
}
  where
    by : (number : ℕ) (a b : Block) → newest_at one number ≡ Some a → (t : Bool) → is_at (nat_cmp number) at ≡ t → cond t (Some block) (lookup (is_at (nat_cmp number)) rest) ≡ Some b
        → (a ≡ b) ⊎ (lookup (is_at (nat_cmp number)) rest ≡ Some b)
    by number a b is_a true here found =
        let one_number : number ≡ at = number_at number at here in
        inl (same a (subst (λ (n : ℕ). newest_at one n ≡ Some a) one_number is_a) ∙ some_same block b found)
    by number a b is_a false here found = inr found

pub none_or : (one : Newest) (at : ℕ) (block : Block) → newest_at one at ≡ None → (a : Block) → newest_at one at ≡ Some a → a ≡ block
none_or one at block none a is_a = absurd (cc)

pub one_or : (one : Newest) (at : ℕ) (own block : Block) → newest_at one at ≡ Some own → own ≡ block → (a : Block) → newest_at one at ≡ Some a → a ≡ block
one_or one at own block is_own same a is_a = some_same a own (sym is_a ∙ is_own) ∙ same
