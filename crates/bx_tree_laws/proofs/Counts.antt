-- Sums over the files after an edit, and what they count.
use Rattle.std.proofs.Common.{◌≡◌, ℕ, zero, suc, ◌+◌, ◌≤◌, arith, Bool, true, false, cond, List, [], ◌∷◌, Some, None, refl, sym, ap, ◌∙◌, subst, inl, inr}
use Rattle.std.specs.Prelude.{◌==◌, ◌⊎◌, if◌then◌else◌, nat_lt, Contains, sum_by, count_by}
use Rattle.std.proofs.lemmas.List.Sums.{sum_by-cons, get_or-le-sum_by}
use Rattle.bx_model.specs.bx_tree_files.specs.declared.file.File.{File}
use Rattle.bx_model.specs.bx_tree_files.specs.Files.{with_changed, without_file, file_at, with_file}
use Rattle.bx_tree_laws.proofs.Lookups.{SameOr, same_or, some_same}
use Rattle.bx_tree_laws.proofs.Rises.{Rise, Above, rise_head, rise_tail, none_below}

-- ---- of any list

pub contains_later : {X : Type 0} (x y : X) (xs : List X) → Contains xs y → Contains (x ∷ xs) y
contains_later x y xs (k, within, is) = (suc k, omega (arith, within), is)

pub contains_first : {X : Type 0} (x : X) (xs : List X) → Contains (x ∷ xs) x
contains_first x xs = (0, omega arith, refl)

pub none_contained : {X : Type 0} (x : X) → Contains [] x → ⊥
none_contained x (k, within, is) = omega (arith, within)

pub contained_cases : {X : Type 0} (x y : X) (xs : List X) → Contains (x ∷ xs) y → (x ≡ y) ⊎ Contains xs y
contained_cases x y xs (zero, within, is) = inl is
contained_cases x y xs (suc k, within, is) = inr (k, omega (arith, within), is)

-- what is counted is there
pub some_counted : {X : Type 0} (f : X → ℕ) (xs : List X) → 1 ≤ sum_by f xs → (x : X) × Contains xs x × (1 ≤ f x)
some_counted f [] some = absurd (omega (arith, some))
some_counted f (x ∷ xs) some = by (f x) refl (some_counted f xs)
  where
    by : (n : ℕ) → f x ≡ n → (1 ≤ sum_by f xs → (y : _) × Contains xs y × (1 ≤ f y)) → (y : _) × Contains (x ∷ xs) y × (1 ≤ f y)
    by zero e later =
        let more = later (omega (arith, some, e, sum_by-cons f x xs)) in
        (more.0, contains_later x more.0 xs more.1, more.2)
    by (suc n) e later = (x, contains_first x xs, omega (arith, e))

-- and what is there is counted
pub counted : {X : Type 0} (f : X → ℕ) (xs : List X) (x : X) → Contains xs x → f x ≤ sum_by f xs
counted f xs x (k, within, is) = subst (λ (n : ℕ). n ≤ sum_by f xs) (ap f is) (get_or-le-sum_by f xs k x within)

-- two tests that agree at each element count the same
pub count_same : {X : Type 0} (p q : X → Bool) (xs : List X) → ((x : X) → Contains xs x → p x ≡ q x) → count_by p xs ≡ count_by q xs
count_same p q [] agree = refl
count_same p q (x ∷ xs) agree =
    sum_by-cons (λ y. cond (p y) 1 0) x xs
    ∙ ap (λ (b : Bool). cond b 1 0 + count_by p xs) (agree x (contains_first x xs))
    ∙ ap (λ (n : ℕ). cond (q x) 1 0 + n) (count_same p q xs (λ y there. agree y (contains_later x y xs there)))
    ∙ sym (sum_by-cons (λ y. cond (q y) 1 0) x xs)

-- ---- of the files

module _ (f : File → ℕ) where
  -- a file that isn't there is not changed
  none_changed : (files : List File) (at : ℕ) (change : File → File) → file_at files at ≡ None → with_changed files at change ≡ files
  none_changed [] at change none = refl
  none_changed (x ∷ files) at change none = by (same_or x.handle at) (none_changed files at change)
    where
      by : SameOr x.handle at → (file_at files at ≡ None → with_changed files at change ≡ files) → with_changed (x ∷ files) at change ≡ x ∷ files
      by (inl same) later = let some : Some x ≡ None = rw same.0 at none in absurd cc
      by (inr other) later = rw other.0 (ap (λ (l : List File). x ∷ l) (later (rw other.0 at none)))

  none_without : (files : List File) (at : ℕ) → file_at files at ≡ None → without_file files at ≡ files
  none_without [] at none = refl
  none_without (x ∷ files) at none = by (same_or x.handle at) (none_without files at)
    where
      by : SameOr x.handle at → (file_at files at ≡ None → without_file files at ≡ files) → without_file (x ∷ files) at ≡ x ∷ files
      by (inl same) later = let some : Some x ≡ None = rw same.0 at none in absurd cc
      by (inr other) later = rw other.0 (ap (λ (l : List File). x ∷ l) (later (rw other.0 at none)))

  pub sum_changed : (files : List File) (at : ℕ) (change : File → File) (file : File) → Rise files → file_at files at ≡ Some file
      → sum_by f (with_changed files at change) + f file ≡ sum_by f files + f (change file)
  sum_changed [] at change file rise is = absurd cc
  sum_changed (x ∷ files) at change file rise is = by (same_or x.handle at) (sum_changed files at change file (rise_tail x files rise))
    where
      by : SameOr x.handle at → (file_at files at ≡ Some file → sum_by f (with_changed files at change) + f file ≡ sum_by f files + f (change file))
          → sum_by f (with_changed (x ∷ files) at change) + f file ≡ sum_by f (x ∷ files) + f (change file)
      by (inl same) later =
          let x_is : x ≡ file = some_same x file (rw same.0 at is) in
          let rest = none_changed files at change (none_below files at (subst (λ (h : ℕ). Above h files) same.1 (rise_head x files rise))) in
          rw (same.0, rest) (omega (arith, sum_by-cons f (change x) files, sum_by-cons f x files, ap f x_is, ap (λ (y : File). f (change y)) x_is))
      by (inr other) later =
          rw other.0 (omega (arith, sum_by-cons f x (with_changed files at change), sum_by-cons f x files, later (rw other.0 at is)))

  pub sum_without : (files : List File) (at : ℕ) (file : File) → Rise files → file_at files at ≡ Some file → sum_by f (without_file files at) + f file ≡ sum_by f files
  sum_without [] at file rise is = absurd cc
  sum_without (x ∷ files) at file rise is = by (same_or x.handle at) (sum_without files at file (rise_tail x files rise))
    where
      by : SameOr x.handle at → (file_at files at ≡ Some file → sum_by f (without_file files at) + f file ≡ sum_by f files)
          → sum_by f (without_file (x ∷ files) at) + f file ≡ sum_by f (x ∷ files)
      by (inl same) later =
          let x_is : x ≡ file = some_same x file (rw same.0 at is) in
          let rest = none_without files at (none_below files at (subst (λ (h : ℕ). Above h files) same.1 (rise_head x files rise))) in
          rw (same.0, rest) (omega (arith, sum_by-cons f x files, ap f x_is))
      by (inr other) later =
          rw other.0 (omega (arith, sum_by-cons f x (without_file files at), sum_by-cons f x files, later (rw other.0 at is)))

  pub sum_with : (files : List File) (new : File) → file_at files new.handle ≡ None → sum_by f (with_file files new) ≡ sum_by f files + f new
  sum_with [] new none = omega (arith, sum_by-cons f new [])
  sum_with (x ∷ files) new none = by (same_or x.handle new.handle) (nat_lt new.handle x.handle) refl (sum_with files new)
    where
      by : SameOr x.handle new.handle → (b : Bool) → nat_lt new.handle x.handle ≡ b → (file_at files new.handle ≡ None → sum_by f (with_file files new) ≡ sum_by f files + f new)
          → sum_by f (with_file (x ∷ files) new) ≡ sum_by f (x ∷ files) + f new
      by (inl same) b t later = let some : Some x ≡ None = rw same.0 at none in absurd cc
      by (inr other) true t later = rw (other.0, t) (omega (arith, sum_by-cons f new (x ∷ files)))
      by (inr other) false t later = rw (other.0, t) (omega (arith, sum_by-cons f x (with_file files new), sum_by-cons f x files, later (rw other.0 at none)))

  -- a change that keeps what is summed
  pub sum_kept : (files : List File) (at : ℕ) (change : File → File) → ((file : File) → f (change file) ≡ f file) → sum_by f (with_changed files at change) ≡ sum_by f files
  sum_kept [] at change same = refl
  sum_kept (x ∷ files) at change same = by (x.handle == at) (sum_kept files at change same)
    where
      by : (b : Bool) → sum_by f (with_changed files at change) ≡ sum_by f files → sum_by f ((if b then change x else x) ∷ with_changed files at change) ≡ sum_by f (x ∷ files)
      by true later = omega (arith, sum_by-cons f (change x) (with_changed files at change), sum_by-cons f x files, later, same x)
      by false later = omega (arith, sum_by-cons f x (with_changed files at change), sum_by-cons f x files, later)
