-- The entries of a directory behind a number are what its map has from a key on.
use Rattle.std.proofs.Common.{◌≡◌, ℕ, ◌^◌, ◌<◌, suc, Bool, true, false, eqb, List, [], ◌∷◌, ◌++◌, map, cond, refl, sym, ap, ◌∙◌, Option, Some, None, arith}
use Rattle.std.proofs.Common.{Ordering, Less, Equal, Greater}
use Rattle.std.specs.Prelude.{All, Contains, filter, nat_lt, not}
use Rattle.std.specs.Ordering.{is_lt, nat_cmp, ordering_then}
use Rattle.std.specs.Cmp.Lexicographic.{slice_cmp}
use Rattle.std.proofs.lemmas.Bool.Decides.{nat_tests}
use Rattle.bx_page.specs.declared.entry.Entry.{Entry}
use Rattle.bx_page.specs.Keys.{is_below, IsBelow}
use Rattle.bx_page.specs.Contents.{Rises, above, first, from}
use Rattle.bx_page.proofs.Cuts.{filter_all}
use Rattle.bx_page.proofs.Order.{below_trans, not_below_itself}
use Rattle.bx_tree_files.specs.declared.file.Name.{Name}
use Rattle.bx_tree_files.specs.Entries.{above as numbers_above}
use Rattle.bx_truth.specs.Keys.{entry_key}
use Rattle.bx_truth.specs.Stored.{AreNames}
use Rattle.bx_dirs.specs.Entries.{DoFit, by_number, key_behind}
use Rattle.bx_dirs.proofs.Firsts.{first_from}
use Rattle.bx_dirs.proofs.Names.{some_same, head_in, tail_in}
use Rattle.bx_dirs.proofs.Searched.{first_behind, nothing_behind}

-- ---- keys: those above one are those that aren't below the same with a byte 0 more

not_less : (y : ℕ) (o : Ordering) → is_lt o ≡ false → is_lt (ordering_then (nat_cmp y 0) o) ≡ false
not_less y o later = by (nat_lt y 0) (eqb y 0) (grind (arith, nat_tests))
  where
    by : (t u : Bool) → t ≡ false → is_lt (ordering_then (cond t Less (cond u Equal Greater)) o) ≡ false
    by true u is = absurd cc
    by false true is = later
    by false false is = refl

not_before_none : (ys : List ℕ) → is_lt (slice_cmp nat_cmp ys []) ≡ false
not_before_none [] = refl
not_before_none (y ∷ ys) = refl

flip_by : (x y : ℕ) (o p : Ordering) → is_lt o ≡ not (is_lt p) → is_lt (ordering_then (nat_cmp x y) o) ≡ not (is_lt (ordering_then (nat_cmp y x) p))
flip_by x y o p later = by (nat_lt x y) (eqb x y) (nat_lt y x) (eqb y x) refl refl refl refl
  where
    by : (t u v w : Bool) → nat_lt x y ≡ t → eqb x y ≡ u → nat_lt y x ≡ v → eqb y x ≡ w
        → is_lt (ordering_then (cond t Less (cond u Equal Greater)) o) ≡ not (is_lt (ordering_then (cond v Less (cond w Equal Greater)) p))
    by true u true w a b c d = absurd (grind (arith, nat_tests, a, c))
    by true u false true a b c d = absurd (grind (arith, nat_tests, a, d))
    by true u false false a b c d = refl
    by false true true w a b c d = absurd (grind (arith, nat_tests, b, c))
    by false true false true a b c d = later
    by false true false false a b c d = absurd (grind (arith, nat_tests, b, d))
    by false false true w a b c d = refl
    by false false false w a b c d = absurd (grind (arith, nat_tests, a, b, c))

not_below_next : (a b : List ℕ) → is_below a b ≡ not (is_below b (a ++ 0 ∷ []))
not_below_next [] [] = refl
not_below_next [] (y ∷ ys) = ap not (sym (not_less y (slice_cmp nat_cmp ys []) (not_before_none ys)))
not_below_next (x ∷ xs) [] = refl
not_below_next (x ∷ xs) (y ∷ ys) = flip_by x y (slice_cmp nat_cmp xs ys) (slice_cmp nat_cmp ys (xs ++ 0 ∷ [])) (not_below_next xs ys)

above_is : (es : List Entry) (key : List ℕ) → above es key ≡ from es (key ++ 0 ∷ [])
above_is es key = λ i. filter (λ (x : Entry). not_below_next key x.key i) es

-- ---- the first entry from a key on, and those above its own key

no_both : (b : Bool) → b ≡ true → b ≡ false → ⊥
no_both b is never = let e : true ≡ false = sym is ∙ never in cc

rise_behind : (x : Entry) (xs : List Entry) → Rises (x ∷ xs) → Rises xs
rise_behind x xs rises i j d less within = rises (suc i) (suc j) d (omega (arith, less)) (omega (arith, within))

all_later : (x : Entry) (xs : List Entry) → Rises (x ∷ xs) → All (λ (e : Entry). is_below x.key e.key ≡ true) xs
all_later x xs rises k d less = rises 0 (suc k) d (omega arith) (omega (arith, less))

later_not_below : (a b key : List ℕ) → IsBelow a b → is_below a key ≡ false → not (is_below b key) ≡ true
later_not_below a b key less not_below = by (is_below b key) refl
  where
    by : (t : Bool) → is_below b key ≡ t → not (is_below b key) ≡ true
    by true is = absurd (no_both (is_below a key) (below_trans a b key less is) not_below)
    by false is = ap not is

not_before : (a b key : List ℕ) → is_below b key ≡ true → is_below a key ≡ false → is_below a b ≡ false
not_before a b key below not_below = by (is_below a b) refl
  where
    by : (t : Bool) → is_below a b ≡ t → is_below a b ≡ false
    by true is = absurd (no_both (is_below a key) (below_trans a b key is below) not_below)
    by false is = is

from_first : (es : List Entry) (key : List ℕ) (e : Entry) → Rises es → is_below e.key key ≡ false → first (from es key) ≡ Some e → from es key ≡ e ∷ above es e.key
from_first [] key e rises not_below is = absurd cc
from_first (x ∷ xs) key e rises not_below is = by (is_below x.key key) refl (from_first xs key e (rise_behind x xs rises) not_below)
  where
    by : (t : Bool) → is_below x.key key ≡ t → (first (from xs key) ≡ Some e → from xs key ≡ e ∷ above xs e.key) → from (x ∷ xs) key ≡ e ∷ above (x ∷ xs) e.key
    by true below rest =
        let skip : from (x ∷ xs) key ≡ from xs key = ap (λ (t : Bool). cond (not t) (x ∷ from xs key) (from xs key)) below in
        let pass : above (x ∷ xs) e.key ≡ above xs e.key = ap (λ (t : Bool). cond t (x ∷ above xs e.key) (above xs e.key)) (not_before e.key x.key key below not_below) in
        skip ∙ rest (ap first (sym skip) ∙ is) ∙ ap (λ (l : List Entry). e ∷ l) (sym pass)
    by false stays rest =
        let keep : from (x ∷ xs) key ≡ x ∷ from xs key = ap (λ (t : Bool). cond (not t) (x ∷ from xs key) (from xs key)) stays in
        let same : x ≡ e = some_same x e (ap first (sym keep) ∙ is) in
        let all : from xs key ≡ xs = filter_all (λ (y : Entry). not (is_below y.key key)) xs (λ k d less. later_not_below x.key _ key (all_later x xs rises k d less) stays) in
        let behind : above (x ∷ xs) x.key ≡ xs = ap (λ (t : Bool). cond t (x ∷ above xs x.key) (above xs x.key)) (not_below_itself x.key)
        ∙ filter_all (λ (y : Entry). is_below x.key y.key) xs (all_later x xs rises) in
        keep ∙ ap (λ (l : List Entry). x ∷ l) (all ∙ sym behind) ∙ (λ i. same i ∷ above (x ∷ xs) (same i).key)

first_none : (es : List Entry) → first es ≡ None → es ≡ []
first_none [] none = refl
first_none (x ∷ xs) none = absurd cc

-- ---- entries of a directory

no_names : (n : Name) (ns : List Name) → [] ≡ n ∷ ns → ⊥
no_names n ns e = cc

parts : (n m : Name) (ns ms : List Name) → n ∷ ns ≡ m ∷ ms → (n ≡ m) × (ns ≡ ms)
parts n m ns ms e = (cc, cc)

module _ (es : List Entry) (names : List Name) (rises : Rises es) (are : AreNames es names) where
  pub behind_list : (ns : List Name) (number : ℕ) → number < 2 ^ 32 → numbers_above number names ≡ ns → from es (key_behind number) ≡ map by_number ns
  behind_list [] number fits is = by (first (from es (key_behind number))) refl
    where
      by : (o : Option Entry) → first (from es (key_behind number)) ≡ o → from es (key_behind number) ≡ map by_number []
      by None none = first_none (from es (key_behind number)) none
      by (Some e) found =
          let f = first_behind es names number rises are fits e.key e.value found in
          absurd (no_names f.0 (numbers_above f.0.number names) (sym is ∙ f.4))
  behind_list (m ∷ ms) number fits is = by (first (from es (key_behind number))) refl (behind_list ms)
    where
      by : (o : Option Entry) → first (from es (key_behind number)) ≡ o → ((n : ℕ) → n < 2 ^ 32 → numbers_above n names ≡ ms → from es (key_behind n) ≡ map by_number ms)
          → from es (key_behind number) ≡ map by_number (m ∷ ms)
      by None none rest = absurd (no_names m ms (sym (nothing_behind es names number rises are fits none) ∙ is))
      by (Some e) found rest =
          let f = first_behind es names number rises are fits e.key e.value found in
          let n = f.0 in
          let same = parts n m (numbers_above n.number names) ms (sym f.4 ∙ is) in
          let e_is : e ≡ by_number m = (λ i. record { key = f.2 i; value = f.3 i }) ∙ ap by_number same.0 in
          let key_is : e.key ≡ entry_key n.number = f.2 in
          from_first es (key_behind number) e rises (first_from es (key_behind number) e rises found).from_key found
          ∙ ap (λ (k : List ℕ). e ∷ above es k) key_is
          ∙ ap (λ (l : List Entry). e ∷ l) (above_is es (entry_key n.number) ∙ rest n.number (are.number_fits n f.1) same.1)
          ∙ ap (λ (x : Entry). x ∷ map by_number ms) e_is

  fit_all : (number : ℕ) (ns : List Name) → ((n : Name) → Contains ns n → Contains names n) → DoFit (numbers_above number ns)
  fit_all number [] all = tt
  fit_all number (n ∷ ns) all = by (nat_lt number n.number) (fit_all number ns (λ m there. all m (tail_in m n ns there)))
    where
      by : (t : Bool) → DoFit (numbers_above number ns) → DoFit (cond t (n ∷ numbers_above number ns) (numbers_above number ns))
      by true rest = let there = all n (head_in n ns) in (are.number_fits n there, are.handle_fits n there, rest)
      by false rest = rest

  pub fit_above : (number : ℕ) → DoFit (numbers_above number names)
  fit_above number = fit_all number names (λ n there. there)
