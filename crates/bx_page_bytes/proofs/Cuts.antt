-- Entries that rise, cut around a key: those below it, the one of the key, and those above it.
use Rattle.std.proofs.Common.{◌≡◌, ℕ, ◌+◌, true, false, List, [], ◌∷◌, ◌++◌, length, drop, sum_by, Option, Some, None, Ordering, Less, Equal, Greater, refl, sym, ap, ◌∙◌, arith}
use Rattle.std.specs.Prelude.{All, IsSome, bytes_eq}
use Rattle.std.specs.Ordering.{nat_cmp}
use Rattle.std.specs.Option.{option_map}
use Rattle.std.specs.Cmp.Lexicographic.{slice_cmp}
use Rattle.std.proofs.lemmas.List.Elements.{All-cons, All-weaker}
use Rattle.std.proofs.lemmas.List.Sums.{sum_by-cons}
use Rattle.bx_page.specs.declared.entry.Entry.{Entry}
use Rattle.bx_page.specs.Keys.{is_below, IsBelow}
use Rattle.bx_page.specs.Contents.{Rises, entry_size, value_of, below, above, first}
use Rattle.bx_page.proofs.Order.{below_trans, not_below_itself, not_below_back, same_from_cmp, not_same_below, not_same_above, same_itself, greater_cmp}
use Rattle.bx_page.proofs.Cuts.{filter_all, filter_none, find_none}
use Rattle.bx_page_bytes.proofs.Searches.{rises_behind, above_first, first_is, no_first}

less_below : (a b : List ℕ) → slice_cmp nat_cmp a b ≡ Less → IsBelow a b
less_below a b is = rw is refl

-- ---- the three cases of the first entry

module _ (e : Entry) (es : List Entry) (key : List ℕ) (rises : Rises (e ∷ es)) where
  record Lesser : Type 0 where
    below_is : below (e ∷ es) key ≡ e ∷ below es key
    above_is : above (e ∷ es) key ≡ above es key
    value_is : value_of (e ∷ es) key ≡ value_of es key

  lesser : slice_cmp nat_cmp e.key key ≡ Less → Lesser
  lesser is =
      let lt : is_below e.key key ≡ true = less_below e.key key is in
      let back : is_below key e.key ≡ false = not_below_back e.key key lt in
      let other : bytes_eq e.key key ≡ false = not_same_below e.key key lt in
      record { below_is = rw lt refl; above_is = rw back refl; value_is = rw other refl }

  above_all : IsBelow key e.key → All (λ x. IsBelow key x.key) (e ∷ es)
  above_all lt = All-cons (λ x. IsBelow key x.key) e es lt (All-weaker (λ x. IsBelow e.key x.key) (λ x. IsBelow key x.key) (λ x h. below_trans key e.key x.key lt h) es (above_first e es rises))

  record Greatest : Type 0 where
    below_is : below (e ∷ es) key ≡ []
    above_is : above (e ∷ es) key ≡ e ∷ es
    value_is : value_of (e ∷ es) key ≡ None

  greatest : slice_cmp nat_cmp e.key key ≡ Greater → Greatest
  greatest is =
      let all = above_all (greater_cmp e.key key is) in
      record {
        below_is = filter_none (λ x. is_below x.key key) (e ∷ es) (All-weaker (λ x. IsBelow key x.key) (λ x. is_below x.key key ≡ false) (λ x h. not_below_back key x.key h) (e ∷ es) all);
        above_is = filter_all (λ x. is_below key x.key) (e ∷ es) all;
        value_is = ap (option_map (λ (x : Entry). x.value)) (find_none (λ x. bytes_eq x.key key) (e ∷ es) (All-weaker (λ x. IsBelow key x.key) (λ x. bytes_eq x.key key ≡ false) (λ x h. not_same_above x.key key h) (e ∷ es) all));
      }

  record Same : Type 0 where
    below_is : below (e ∷ es) key ≡ []
    above_is : above (e ∷ es) key ≡ es
    value_is : value_of (e ∷ es) key ≡ Some e.value

  same : slice_cmp nat_cmp e.key key ≡ Equal → Same
  same is =
      let k : e.key ≡ key = same_from_cmp e.key key is in
      let others : All (λ x. IsBelow key x.key) es = rw k at (above_first e es rises) in
      let not_first : is_below e.key key ≡ false = rw k (not_below_itself key) in
      let not_behind : is_below key e.key ≡ false = rw k (not_below_itself key) in
      let equal : bytes_eq e.key key ≡ true = rw k (same_itself key) in
      record {
        below_is = filter_none (λ x. is_below x.key key) (e ∷ es) (All-cons (λ x. is_below x.key key ≡ false) e es not_first (All-weaker (λ x. IsBelow key x.key) (λ x. is_below x.key key ≡ false) (λ x h. not_below_back key x.key h) es others));
        above_is = rw not_behind (filter_all (λ x. is_below key x.key) es others);
        value_is = rw equal refl;
      }

-- ---- all entries

-- those below the key, the one of the key where there is one, and those above it
pub record Parted (entries : List Entry) (key : List ℕ) : Type 0 where
  pub same : List Entry
  pub parts : entries ≡ below entries key ++ (same ++ above entries key)
  pub absent : value_of entries key ≡ None → same ≡ []
  pub present : IsSome (value_of entries key) → length same ≡ 1

none_not_some : (x : List ℕ) → ◌≡◌ {A = Option (List ℕ)} (Some x) None → ⊥
none_not_some x is = absurd cc

none_is : (o : Option (List ℕ)) → o ≡ None → IsSome o → ⊥
none_is None is some = absurd cc
none_is (Some x) is some = absurd cc

parted_first : (e : Entry) (es : List Entry) (key : List ℕ) → Rises (e ∷ es) → Parted es key → (o : Ordering) → slice_cmp nat_cmp e.key key ≡ o → Parted (e ∷ es) key
parted_first e es key rises others Less is =
    let l = lesser e es key rises is in
    record {
      same = others.same;
      parts = rw (l.below_is, l.above_is) (ap (λ (xs : List Entry). e ∷ xs) others.parts);
      absent = λ none. others.absent (sym l.value_is ∙ none);
      present = λ some. others.present (rw l.value_is at some);
    }
parted_first e es key rises others Equal is =
    let s = same e es key rises is in
    record {
      same = e ∷ [];
      parts = rw (s.below_is, s.above_is) refl;
      absent = λ none. absurd (none_not_some e.value (sym s.value_is ∙ none));
      present = λ some. refl;
    }
parted_first e es key rises others Greater is =
    let g = greatest e es key rises is in
    record {
      same = [];
      parts = rw (g.below_is, g.above_is) refl;
      absent = λ none. refl;
      present = λ some. absurd (none_is (value_of (e ∷ es) key) g.value_is some);
    }

pub parted : (es : List Entry) (key : List ℕ) → Rises es → Parted es key
parted [] key rises = record { same = []; parts = refl; absent = λ none. refl; present = λ some. absurd cc }
parted (e ∷ es) key rises = parted_first e es key rises (parted es key (rises_behind e es rises)) (slice_cmp nat_cmp e.key key) refl

-- ---- the loop

abbrev sizes : List Entry → ℕ
sizes = sum_by entry_size

module _ (all entries : List Entry) (key : List ℕ) (before : ℕ) where
  -- so much of all entries is gone through, and these are left
  pub record Left : Type 0 where
    pub rises : Rises entries
    pub all_is : before + sum_by entry_size entries ≡ sum_by entry_size all
    pub before_is : before + sum_by entry_size (below entries key) ≡ sum_by entry_size (below all key)
    pub behind_is : sum_by entry_size (above entries key) ≡ sum_by entry_size (above all key)

pub record Cut (all : List Entry) (key : List ℕ) (before behind : ℕ) : Type 0 where
  pub before_is : before ≡ sum_by entry_size (below all key)
  pub behind_is : behind + sum_by entry_size (above all key) ≡ sum_by entry_size all

pub passes_by : (all entries : List Entry) (key : List ℕ) (before : ℕ) (e : Entry) (size : ℕ) → Left all entries key before → Some e ≡ first entries → size ≡ entry_size e → slice_cmp nat_cmp e.key key ≡ Less
    → Left all (drop 1 entries) key (before + size)
passes_by all [] key before e size left is size_is less = absurd (no_first e is)
passes_by all (x ∷ es) key before e size left is size_is less =
    let same_one = first_is e x is in
    let l = lesser x es key left.rises (rw same_one at less) in
    let size_x : size ≡ entry_size x = size_is ∙ ap entry_size same_one in
    let whole = left.all_is in
    let front = left.before_is in
    let below_sum : sum_by entry_size (below (x ∷ es) key) ≡ entry_size x + sum_by entry_size (below es key) = ap (sum_by entry_size) l.below_is ∙ sum_by-cons entry_size x (below es key) in
    let all_sum : sum_by entry_size (x ∷ es) ≡ entry_size x + sum_by entry_size es = sum_by-cons entry_size x es in
    record {
      rises = rises_behind x es left.rises;
      all_is = omega (arith, whole, all_sum, size_x);
      before_is = omega (arith, front, below_sum, size_x);
      behind_is = sym (ap (sum_by entry_size) l.above_is) ∙ left.behind_is;
    }

pub cut_same : (all entries : List Entry) (key : List ℕ) (before : ℕ) (e : Entry) (size : ℕ) → Left all entries key before → Some e ≡ first entries → size ≡ entry_size e → slice_cmp nat_cmp e.key key ≡ Equal
    → Cut all key before (before + size)
cut_same all [] key before e size left is size_is equal = absurd (no_first e is)
cut_same all (x ∷ es) key before e size left is size_is equal =
    let same_one = first_is e x is in
    let s = same x es key left.rises (rw same_one at equal) in
    let size_x : size ≡ entry_size x = size_is ∙ ap entry_size same_one in
    let whole = left.all_is in
    let front = left.before_is in
    let behind = left.behind_is in
    let below_sum : sum_by entry_size (below (x ∷ es) key) ≡ 0 = ap (sum_by entry_size) s.below_is in
    let above_sum : sum_by entry_size (above (x ∷ es) key) ≡ sum_by entry_size es = ap (sum_by entry_size) s.above_is in
    let all_sum : sum_by entry_size (x ∷ es) ≡ entry_size x + sum_by entry_size es = sum_by-cons entry_size x es in
    record { before_is = omega (arith, front, below_sum); behind_is = omega (arith, whole, behind, above_sum, all_sum, size_x) }

pub cut_behind : (all entries : List Entry) (key : List ℕ) (before : ℕ) (e : Entry) → Left all entries key before → Some e ≡ first entries → slice_cmp nat_cmp e.key key ≡ Greater → Cut all key before before
cut_behind all [] key before e left is greater = absurd (no_first e is)
cut_behind all (x ∷ es) key before e left is greater =
    let g = greatest x es key left.rises (rw (first_is e x is) at greater) in
    let whole = left.all_is in
    let front = left.before_is in
    let behind = left.behind_is in
    let below_sum : sum_by entry_size (below (x ∷ es) key) ≡ 0 = ap (sum_by entry_size) g.below_is in
    let above_sum : sum_by entry_size (above (x ∷ es) key) ≡ sum_by entry_size (x ∷ es) = ap (sum_by entry_size) g.above_is in
    record { before_is = omega (arith, front, below_sum); behind_is = omega (arith, whole, behind, above_sum) }

pub cut_end : (all entries : List Entry) (key : List ℕ) (before : ℕ) → Left all entries key before → None ≡ first entries → Cut all key before before
cut_end all [] key before left is =
    let whole = left.all_is in
    let front = left.before_is in
    let behind = left.behind_is in
    record { before_is = omega (arith, front); behind_is = omega (arith, whole, behind) }
cut_end all (x ∷ es) key before left is = absurd (no_first x (sym is))
