-- What a binary search tells of the entries' keys.
use Rattle.std.proofs.Common.{◌≡◌, ℕ, ◌+◌, ◌<◌, ◌≤◌, Bool, true, false, List, [], length, get_or, Result, Ok, Err, refl, sym, ap, subst, ◌∙◌, arith, inl, inr}
use Rattle.std.specs.Prelude.{All, not, bytes_eq}
use Rattle.std.specs.List.{HoldsAt}
use Rattle.std.specs.List.Sorted.{IsBinarySearchResult, IsNonDecreasingBy, IsSearchInRange}
use Rattle.std.specs.Option.{option_map}
use Rattle.std.specs.Ordering.{nat_cmp, is_lt, ordering_index}
use Rattle.std.specs.Cmp.Lexicographic.{slice_cmp}
use Rattle.std.proofs.lemmas.Bool.{cases_lt}
use Rattle.std.proofs.lemmas.Cmp.{nat_list_cmp_total}
use Rattle.std.proofs.lemmas.List.Sorted.{searchable_from_sorted}
use Rattle.std.proofs.lemmas.Option.{slice_get-get_or}
use Rattle.bx_page.specs.declared.entry.Entry.{Entry}
use Rattle.bx_page.specs.Keys.{is_below, IsBelow}
use Rattle.bx_page.specs.Contents.{Rises, below, above, from}
use Rattle.bx_page.specs.Places.{StandsAt, WouldStandAt, IsPlace}
use Rattle.bx_page.proofs.Order.{not_below_itself, not_below_back, same_from_cmp, not_same_below, not_same_above, same_itself, greater_cmp}
use Rattle.bx_page.proofs.Cuts.{All-take_below, All-drop_from, filter_front, filter_behind, find_none, find_first}

-- entries that rise can be searched
searchable : (es : List Entry) (key : List ℕ) → Rises es → IsNonDecreasingBy (λ e. ordering_index (slice_cmp nat_cmp e.key key)) es
searchable es key rises = searchable_from_sorted nat_list_cmp_total (λ (e : Entry). e.key) es key (λ k d _ lt. not_below_back (get_or es k d).key (get_or es (k + 1) d).key (rises k (k + 1) d (omega arith) lt))

-- What is known of the keys below a place and from another on.
record Apart (es : List Entry) (key : List ℕ) (low high : ℕ) : Type 0 where
  before : (k : ℕ) (d : Entry) → k < low → IsBelow (get_or es k d).key key
  behind : (k : ℕ) (d : Entry) → high ≤ k → k < length es → IsBelow key (get_or es k d).key

not_true : (b : Bool) → b ≡ true → not b ≡ false
not_true b h = rw h refl

not_false : (b : Bool) → b ≡ false → not b ≡ true
not_false b h = rw h refl

-- no key below the place or from it on is the key
not_there : (es : List Entry) (key : List ℕ) (n : ℕ) → Apart es key n n → All (λ e. bytes_eq e.key key ≡ false) es
not_there es key n a = λ k d lt.
    elim (cases_lt k n) [
      | inl below ↦ not_same_below _ key (a.before k d below)
      | inr from ↦ not_same_above _ key (a.behind k d from lt)
    ]

would_stand_apart : (es : List Entry) (key : List ℕ) (n : ℕ) → n ≤ length es → Apart es key n n → WouldStandAt es key n
would_stand_apart es key n le a = record {
  within = le;
  before = filter_front (λ e. is_below e.key key) es n (All-take_below (λ e. is_below e.key key ≡ true) es n le (λ k d lt. a.before k d lt)) (All-drop_from (λ e. is_below e.key key ≡ false) es n (λ k d from lt. not_below_back key _ (a.behind k d from lt)));
  behind = filter_behind (λ e. is_below key e.key) es n (All-take_below (λ e. is_below key e.key ≡ false) es n le (λ k d lt. not_below_back _ key (a.before k d lt))) (All-drop_from (λ e. is_below key e.key ≡ true) es n (λ k d from lt. a.behind k d from lt));
  up_to = filter_front (λ e. not (is_below key e.key)) es n (All-take_below (λ e. not (is_below key e.key) ≡ true) es n le (λ k d lt. not_false _ (not_below_back _ key (a.before k d lt)))) (All-drop_from (λ e. not (is_below key e.key) ≡ false) es n (λ k d from lt. not_true _ (a.behind k d from lt)));
  from = filter_behind (λ e. not (is_below e.key key)) es n (All-take_below (λ e. not (is_below e.key key) ≡ false) es n le (λ k d lt. not_true _ (a.before k d lt))) (All-drop_from (λ e. not (is_below e.key key) ≡ true) es n (λ k d from lt. not_false _ (not_below_back key _ (a.behind k d from lt))));
  value = ap (option_map (λ (e : Entry). e.value)) (find_none (λ e. bytes_eq e.key key) es (not_there es key n a));
}

-- below n + 1 is below n or at n, and from n on is at n or from n + 1 on
here_or_before : (P : ℕ → Type 0) (n k : ℕ) → k < n + 1 → ((j : ℕ) → j < n → P j) → P n → P k
here_or_before P n k lt h here = elim (cases_lt k n) [ inl below ↦ h k below | inr from ↦ (let e : n ≡ k = omega arith in subst P e here) ]

here_or_behind : (P : ℕ → Type 0) (n k : ℕ) → n ≤ k → (n + 1 ≤ k → P k) → P n → P k
here_or_behind P n k le h here = elim (cases_lt n k) [ inl above ↦ h (omega arith) | inr from ↦ (let e : n ≡ k = omega arith in subst P e here) ]

stands_apart : (es : List Entry) (key : List ℕ) (n : ℕ) → n < length es → HoldsAt (λ e. e.key ≡ key) es n → Apart es key n (n + 1) → StandsAt es key n
stands_apart es key n lt here a =
    let itself : (d : Entry) → is_below (get_or es n d).key key ≡ false = λ (d : Entry). rw (here d) (not_below_itself key) in
    let it : (d : Entry) → is_below key (get_or es n d).key ≡ false = λ (d : Entry). rw (here d) (not_below_itself key) in
    let d : Entry = record { key = []; value = [] } in
    record {
      within = lt;
      here = here;
      before = filter_front (λ e. is_below e.key key) es n (All-take_below (λ e. is_below e.key key ≡ true) es n (omega arith) (λ k d below. a.before k d below)) (All-drop_from (λ e. is_below e.key key ≡ false) es n (λ k d from k-lt. here_or_behind (λ j. is_below (get_or es j d).key key ≡ false) n k from (λ above. not_below_back key _ (a.behind k d above k-lt)) (itself d)));
      behind = filter_behind (λ e. is_below key e.key) es (n + 1) (All-take_below (λ e. is_below key e.key ≡ false) es (n + 1) (omega arith) (λ k d k-lt. here_or_before (λ j. is_below key (get_or es j d).key ≡ false) n k k-lt (λ j below. not_below_back _ key (a.before j d below)) (it d))) (All-drop_from (λ e. is_below key e.key ≡ true) es (n + 1) (λ k d from k-lt. a.behind k d from k-lt));
      up_to = filter_front (λ e. not (is_below key e.key)) es (n + 1) (All-take_below (λ e. not (is_below key e.key) ≡ true) es (n + 1) (omega arith) (λ k d k-lt. not_false _ (here_or_before (λ j. is_below key (get_or es j d).key ≡ false) n k k-lt (λ j below. not_below_back _ key (a.before j d below)) (it d)))) (All-drop_from (λ e. not (is_below key e.key) ≡ false) es (n + 1) (λ k d from k-lt. not_true _ (a.behind k d from k-lt)));
      from = filter_behind (λ e. not (is_below e.key key)) es n (All-take_below (λ e. not (is_below e.key key) ≡ false) es n (omega arith) (λ k d below. not_true _ (a.before k d below))) (All-drop_from (λ e. not (is_below e.key key) ≡ true) es n (λ k d from k-lt. not_false _ (here_or_behind (λ j. is_below (get_or es j d).key key ≡ false) n k from (λ above. not_below_back key _ (a.behind k d above k-lt)) (itself d))));
      value = ap (option_map (λ (e : Entry). e.value)) (find_first (λ e. bytes_eq e.key key) es n d lt (All-take_below (λ e. bytes_eq e.key key ≡ false) es n (omega arith) (λ k x below. not_same_below _ key (a.before k x below))) (rw (here d) (same_itself key)) ∙ sym (slice_get-get_or es n d lt));
    }

-- what a search finds is the key's place
pub placed : (es : List Entry) (key : List ℕ) (r : Result ℕ ℕ) → Rises es → IsSearchInRange r (length es) → IsBinarySearchResult (λ e. slice_cmp nat_cmp e.key key) es r → IsPlace es key r
placed es key (Ok n) rises within found =
    let here : (d : Entry) → (get_or es n d).key ≡ key = λ (d : Entry). same_from_cmp _ key (found d) in
    stands_apart es key n within here record {
      before = λ k d lt. rw (← (here d)) (rises k n d lt within);
      behind = λ k d le lt. rw (← (here d)) (rises n k d (omega arith) lt);
    }
placed es key (Err n) rises within found =
    let parted = found (searchable es key rises) in
    would_stand_apart es key n within record {
      before = λ k d lt. ap is_lt (parted.0 k d (omega arith) lt);
      behind = λ k d le lt. greater_cmp _ key (parted.1 k d le lt);
    }
