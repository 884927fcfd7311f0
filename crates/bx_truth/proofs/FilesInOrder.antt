-- Lists of files in the order of their handles: a file is put.
use Rattle.std.proofs.Common.{◌≡◌, ℕ, suc, ◌<◌, ◌≤◌, ◌⊎◌, inl, inr, arith, Bool, true, false, List, [], ◌∷◌, sym, ap, ◌∙◌, subst, refl, Option, Some}
use Rattle.std.specs.Prelude.{◌≢◌, ◌==◌, nat_lt, if◌then◌else◌, All, AllPairs}
use Rattle.std.proofs.lemmas.Bool.Decides.{nat_tests}
use Rattle.std.proofs.lemmas.List.Kept.{AllPairs-cons}
use Rattle.std.proofs.lemmas.List.Elements.{All-cons, All-head, All-tail}
use Rattle.bx_model.specs.bx_tree_files.specs.declared.file.File.{File}
use Rattle.bx_model.specs.bx_tree_files.specs.Files.{file_at, with_file}
use Rattle.bx_truth.proofs.Cases.{same_or, eq_true, eq_false}

pub file_with : (files : List File) (new : File) (h : ℕ) → file_at (with_file files new) h ≡ (if new.handle == h then Some new else file_at files h)
file_with [] new h = refl
file_with (x ∷ files) new h = by (same_or x.handle new.handle) (lesser new.handle x.handle) (file_with files new h)
  where
    lesser : (n m : ℕ) → (nat_lt n m ≡ true) ⊎ (nat_lt n m ≡ false)
    lesser n m = grind (arith, nat_tests)

    swap : (b c : Bool) (o p q : Option File) → (b ≡ true → c ≡ true → ⊥) → (if c then p else (if b then o else q)) ≡ (if b then o else (if c then p else q))
    swap true true o p q apart = absurd (apart refl refl)
    swap true false o p q apart = refl
    swap false c o p q apart = refl

    both : (n m : ℕ) → n ≢ m → (n == h) ≡ true → (m == h) ≡ true → ⊥
    both n m other is_n is_m = other (grind (arith, nat_tests, is_n, is_m))

    replaced : (b : Bool) (o q : Option File) (y : Option File) → (if b then o else q) ≡ (if b then o else (if b then y else q))
    replaced true o q y = refl
    replaced false o q y = refl

    by : (x.handle ≡ new.handle) ⊎ (x.handle ≢ new.handle) → (nat_lt new.handle x.handle ≡ true) ⊎ (nat_lt new.handle x.handle ≡ false)
        → file_at (with_file files new) h ≡ (if new.handle == h then Some new else file_at files h)
        → file_at (with_file (x ∷ files) new) h ≡ (if new.handle == h then Some new else file_at (x ∷ files) h)
    by (inl same) less rest =
        ap (λ (b : Bool). file_at (if b then new ∷ files else (if nat_lt new.handle x.handle then new ∷ x ∷ files else x ∷ with_file files new)) h) (eq_true x.handle new.handle same)
        ∙ replaced (new.handle == h) (Some new) (file_at files h) (Some x)
        ∙ ap (λ (n : ℕ). if new.handle == h then Some new else (if n == h then Some x else file_at files h)) (sym same)
    by (inr other) (inl less) rest =
        ap (λ (b : Bool). file_at (if b then new ∷ files else (if nat_lt new.handle x.handle then new ∷ x ∷ files else x ∷ with_file files new)) h) (eq_false x.handle new.handle other)
        ∙ ap (λ (b : Bool). file_at (if b then new ∷ x ∷ files else x ∷ with_file files new) h) less
    by (inr other) (inr more) rest =
        ap (λ (b : Bool). file_at (if b then new ∷ files else (if nat_lt new.handle x.handle then new ∷ x ∷ files else x ∷ with_file files new)) h) (eq_false x.handle new.handle other)
        ∙ ap (λ (b : Bool). file_at (if b then new ∷ x ∷ files else x ∷ with_file files new) h) more
        ∙ ap (λ (o : Option File). if x.handle == h then Some x else o) rest
        ∙ swap (new.handle == h) (x.handle == h) (Some new) (Some x) (file_at files h) (both new.handle x.handle (λ e. other (sym e)))

pub all_with : (P : File → Type 0) (files : List File) (new : File) → All P files → P new → All P (with_file files new)
all_with P [] new all is = All-cons P new [] is all
all_with P (x ∷ files) new all is = by (x.handle == new.handle) (nat_lt new.handle x.handle) (all_with P files new (All-tail P x files all) is)
  where
    by : (b c : Bool) → All P (with_file files new) → All P (if b then new ∷ files else (if c then new ∷ x ∷ files else x ∷ with_file files new))
    by true c rest = All-cons P new files is (All-tail P x files all)
    by false true rest = All-cons P new (x ∷ files) is all
    by false false rest = All-cons P x (with_file files new) (All-head P x files all) rest

pub rises_with : (files : List File) (new : File) → AllPairs (λ a b. a.handle < b.handle) files → AllPairs (λ a b. a.handle < b.handle) (with_file files new)
rises_with [] new rises = λ i j d less within. absurd (omega (arith, less, within))
rises_with (x ∷ files) new rises = by (same_or x.handle new.handle) (lesser new.handle x.handle) (rises_with files new (λ i j d less within. rises (suc i) (suc j) d (omega (arith, less)) (omega (arith, within))))
  where
    tail : AllPairs (λ a b. a.handle < b.handle) files
    tail i j d less within = rises (suc i) (suc j) d (omega (arith, less)) (omega (arith, within))

    above : All (λ (b : File). x.handle < b.handle) files
    above k d less = rises 0 (suc k) d (omega arith) (omega (arith, less))

    lesser : (n m : ℕ) → ((nat_lt n m ≡ true) × (n < m)) ⊎ ((nat_lt n m ≡ false) × (m ≤ n))
    lesser n m = grind (arith, nat_tests)

    wider : (n : ℕ) → n < x.handle → All (λ (b : File). n < b.handle) files
    wider n less k d within = let more = above k d within in omega (arith, less, more)

    strict : (n m : ℕ) → n ≢ m → n ≤ m → n < m
    strict n m apart le = grind (arith, le)

    by : (x.handle ≡ new.handle) ⊎ (x.handle ≢ new.handle) → ((nat_lt new.handle x.handle ≡ true) × (new.handle < x.handle)) ⊎ ((nat_lt new.handle x.handle ≡ false) × (x.handle ≤ new.handle))
        → AllPairs (λ a b. a.handle < b.handle) (with_file files new) → AllPairs (λ a b. a.handle < b.handle) (with_file (x ∷ files) new)
    by (inl same) less rest =
        subst (λ (b : Bool). AllPairs (λ a b. a.handle < b.handle) (if b then new ∷ files else (if nat_lt new.handle x.handle then new ∷ x ∷ files else x ∷ with_file files new))) (sym (eq_true x.handle new.handle same))
        (AllPairs-cons (λ (a b : File). a.handle < b.handle) new files (subst (λ (n : ℕ). All (λ (b : File). n < b.handle) files) same above) tail)
    by (inr other) (inl less) rest =
        subst (λ (b : Bool). AllPairs (λ a b. a.handle < b.handle) (if b then new ∷ files else (if nat_lt new.handle x.handle then new ∷ x ∷ files else x ∷ with_file files new))) (sym (eq_false x.handle new.handle other))
        (subst (λ (b : Bool). AllPairs (λ a b. a.handle < b.handle) (if b then new ∷ x ∷ files else x ∷ with_file files new)) (sym less.0)
        (AllPairs-cons (λ (a b : File). a.handle < b.handle) new (x ∷ files) (All-cons (λ (b : File). new.handle < b.handle) x files less.1 (wider new.handle less.1)) rises))
    by (inr other) (inr more) rest =
        subst (λ (b : Bool). AllPairs (λ a b. a.handle < b.handle) (if b then new ∷ files else (if nat_lt new.handle x.handle then new ∷ x ∷ files else x ∷ with_file files new))) (sym (eq_false x.handle new.handle other))
        (subst (λ (b : Bool). AllPairs (λ a b. a.handle < b.handle) (if b then new ∷ x ∷ files else x ∷ with_file files new)) (sym more.0)
        (AllPairs-cons (λ (a b : File). a.handle < b.handle) x (with_file files new) (all_with (λ (b : File). x.handle < b.handle) files new above (strict x.handle new.handle other more.1)) rest))
