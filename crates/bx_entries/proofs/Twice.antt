-- A file put twice is put once.
use Rattle.std.proofs.Common.{◌≡◌, ℕ, Bool, true, false, List, [], ◌∷◌, refl, sym, ap, ◌∙◌}
use Rattle.std.specs.Prelude.{◌==◌, nat_lt}
use Rattle.bx_tree_files.specs.declared.file.File.{File}
use Rattle.bx_tree_files.specs.Files.{with_file}
use Rattle.bx_truth.proofs.Cases.{eq_true}

pub twice : (files : List File) (a b : File) → a.handle ≡ b.handle → with_file (with_file files a) b ≡ with_file files b
twice [] a b same = rw (eq_true a.handle b.handle same) refl
twice (x ∷ xs) a b same = by (x.handle == a.handle) refl (nat_lt a.handle x.handle) refl (twice xs a b same)
  where
    equal : (x.handle == b.handle) ≡ (x.handle == a.handle)
    equal = ap (λ (n : ℕ). x.handle == n) (sym same)

    less : nat_lt b.handle x.handle ≡ nat_lt a.handle x.handle
    less = ap (λ (n : ℕ). nat_lt n x.handle) (sym same)

    by : (t : Bool) → (x.handle == a.handle) ≡ t → (l : Bool) → nat_lt a.handle x.handle ≡ l → with_file (with_file xs a) b ≡ with_file xs b → with_file (with_file (x ∷ xs) a) b ≡ with_file (x ∷ xs) b
    by true here l lower rest = rw (here, equal ∙ here, eq_true a.handle b.handle same) refl
    by false here true lower rest = rw (here, equal ∙ here, lower, less ∙ lower, eq_true a.handle b.handle same) refl
    by false here false lower rest = rw (here, lower) (rw (equal ∙ here) (rw (less ∙ lower) (ap (λ (l : List File). x ∷ l) rest)))
