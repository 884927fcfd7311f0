-- Counts of 0 behind those that there are.
use Rattle.std.proofs.Common.{◌≡◌, ℕ, ◌-◌, ◌<◌, ◌≤◌, ◌⊎◌, inl, inr, List, ◌++◌, length, take, replicate, refl, sym, ap, ◌∙◌, arith}
use Rattle.std.specs.Prelude.{slice_index}
use Rattle.std.proofs.lemmas.Bool.{cases_lt}
use Rattle.std.proofs.lemmas.List.{get_or-append_right, get_or-replicate, get_or_append_left, length-replicate, take_all}
use Rattle.std.proofs.Math.ListN.{get_or-eq_default}

none_there : (k i : ℕ) → slice_index (replicate k 0) i ≡ 0
none_there k i = by (cases_lt i k)
  where
    by : (i < k) ⊎ (k ≤ i) → slice_index (replicate k 0) i ≡ 0
    by (inl less) = get_or-replicate {A = ℕ} k i 0 0 less
    by (inr beyond) = get_or-eq_default {A = ℕ} (replicate k 0) 0 (let e = length-replicate {A = ℕ} k 0 in omega (arith, e, beyond))

pub same_counts : (xs : List ℕ) (n k d : ℕ) → length xs ≤ n → slice_index (take n xs ++ replicate k 0) d ≡ slice_index xs d
same_counts xs n k d less = ap (λ (l : List ℕ). slice_index (l ++ replicate k 0) d) (take_all n xs less) ∙ by (cases_lt d (length xs))
  where
    by : (d < length xs) ⊎ (length xs ≤ d) → slice_index (xs ++ replicate k 0) d ≡ slice_index xs d
    by (inl within) = get_or_append_left {A = ℕ} xs (replicate k 0) 0 d within
    by (inr beyond) = get_or-append_right {X = ℕ} xs (replicate k 0) (length xs) d 0 refl beyond ∙ none_there k (d - length xs) ∙ sym (get_or-eq_default {A = ℕ} xs 0 beyond)
