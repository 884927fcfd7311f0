-- The middle key of a page with at least two entries.
use Rattle.std.proofs.Common.{◌≡◌, ℕ, zero, suc, ◌<◌, ◌≤◌, false, List, [], ◌∷◌, length, take, drop, get_or, Option, Some, None, refl, ap, ◌∙◌, arith, inl, inr}
use Rattle.std.specs.Prelude.{All, IfSome, slice_get, ◌⊎◌}
use Rattle.std.specs.Option.{option_map}
use Rattle.std.proofs.lemmas.Bool.{cases_lt}
use Rattle.std.proofs.lemmas.List.{get_or_default}
use Rattle.std.proofs.lemmas.Option.{slice_get-get_or}
use Rattle.bx_page.specs.declared.entry.Entry.{Entry}
use Rattle.bx_page.specs.Keys.{is_below, IsBelow}
use Rattle.bx_page.specs.Contents.{IsPage, half}
use Rattle.bx_page.proofs.Order.{not_below_itself}
use Rattle.bx_page.proofs.Cuts.{All-drop_from}
use Rattle.bx_truth.specs.PageTrees.{Node}
use Rattle.bx_blink.proofs.Keys.{le_lt, lt_not}
use Rattle.bx_splits.proofs.Cut.{IsMiddle}

first_take : (n : ℕ) (xs : List Entry) → 0 < n → slice_get (take n xs) 0 ≡ slice_get xs 0
first_take zero xs lt = absurd (omega arith)
first_take (suc n) [] lt = refl
first_take (suc n) (x ∷ xs) lt = refl

first_drop : (n : ℕ) (xs : List Entry) → slice_get (drop n xs) 0 ≡ slice_get xs n
first_drop zero xs = refl
first_drop (suc n) [] = refl
first_drop (suc n) (x ∷ xs) = first_drop n xs

module _ (node : Node) (right : ℕ) (is : IsPage node.page) (two : 2 ≤ length node.page.entries) (lowest : All (λ entry. is_below entry.key node.begins ≡ false) node.page.entries) (d : Entry) where
  abbrev n : ℕ
  n = half node.page

  abbrev pub middle : List ℕ
  middle = (get_or node.page.entries (half node.page) d).key

  within : half node.page < length node.page.entries
  within = omega arith

  some : 0 < half node.page
  some = omega arith

  at_half : slice_get node.page.entries (half node.page) ≡ Some (get_or node.page.entries (half node.page) d)
  at_half = slice_get-get_or node.page.entries (half node.page) d within

  pub is_middle : IsMiddle node right middle
  is_middle = record {
    high = ap (option_map (λ (e : Entry). e.key)) at_half;
    above = le_lt node.begins (get_or node.page.entries 0 d).key middle (lowest 0 d (omega arith)) (is.rises 0 (half node.page) d some within);
    lowest = All-drop_from (λ e. is_below e.key middle ≡ false) node.page.entries (half node.page) (λ k x from there. later k x from there (cases_lt (half node.page) k));
    highest = by_high node.page.high refl;
    left_first = ap (option_map (λ (e : Entry). e.key)) (first_take (half node.page) node.page.entries some);
    right_first = ap (option_map (λ (e : Entry). e.key)) (first_drop (half node.page) node.page.entries ∙ at_half);
  }
    where
      later : (k : ℕ) (x : Entry) → half node.page ≤ k → k < length node.page.entries → (half node.page < k) ⊎ (k ≤ half node.page) → is_below (get_or node.page.entries k x).key middle ≡ false
      later k x from there (inl lt) = lt_not middle (get_or node.page.entries k x).key (rw (get_or_default node.page.entries k x d there) (is.rises (half node.page) k d lt there))
      later k x from there (inr le) =
          let same : k ≡ half node.page = omega arith in
          rw (same, get_or_default node.page.entries (half node.page) x d within) (not_below_itself middle)

      by_high : (o : Option (List ℕ)) → node.page.high ≡ o → IfSome o (IsBelow middle)
      by_high None e = tt
      by_high (Some high) e = (rw e at is.below) (half node.page) d within
