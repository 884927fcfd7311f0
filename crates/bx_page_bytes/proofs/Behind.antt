-- What is behind the entries of a page, by the list of the entries.
use Rattle.std.proofs.Common.{◌≡◌, ℕ, zero, suc, ◌-◌, ◌+◌, ◌<◌, ◌≤◌, Bool, true, false, cond, ◌&&◌, List, [], ◌∷◌, length, Option, Some, None, refl, sym, ap, ◌∙◌, arith}
use Rattle.std.proofs.lemmas.Option.{some_pair_parts}
use Rattle.bx_base.specs.declared.error.ReadError.{ReadError}
use Rattle.bx_base.specs.declared.error.ReadError.TheVariants.{Malformed}
use Rattle.bx_base.specs.Reading.{◌>>=◌, Fails, list_at}
use Rattle.bx_page.specs.declared.entry.Entry.{Entry}
use Rattle.bx_page.specs.Reading.{entry_at}
use Rattle.bx_base.proofs.Fields.{bind_some}
use Rattle.bx_page_bytes.specs.Entries.{entries_in, with_others}
use Rattle.bx_page_bytes.specs.Checks.{follows, fits_level, ends_below, rest_behind}

-- the entries may stand so, each behind the one before it, in a page of a level with a high key
abbrev pub fits_list : ℕ → Option (List ℕ) → Option (List ℕ) → List Entry → Bool
fits_list level high before [] = ends_below before high
fits_list level high before (entry ∷ entries) = (follows before entry.key && fits_level level entry.value) && fits_list level high (Some entry.key) entries

-- the bytes behind entries that may stand so
abbrev pub picked : ℕ → Option (List ℕ) → Option (List ℕ) → List Entry × List ℕ → Option (List ℕ)
picked level high before found = cond (fits_list level high before found.0) (Some found.1) None

nothing_either : {X : Type 0} (b : Bool) → ◌≡◌ {A = Option X} (cond b None None) None
nothing_either true = refl
nothing_either false = refl

both_tests : {X : Type 0} (a b : Bool) (rest : X) → ◌≡◌ {A = Option X} (cond a (cond b (Some rest) None) None) (cond (a && b) (Some rest) None)
both_tests true b rest = refl
both_tests false b rest = refl

picks_others : (level : ℕ) (high before : Option (List ℕ)) (entry : Entry) (others : Option (List Entry × List ℕ))
    → cond (follows before entry.key && fits_level level entry.value) (others >>= picked level high (Some entry.key)) None
    ≡ ((others >>= λ x. Some (entry ∷ x.0, x.1)) >>= picked level high before)
picks_others level high before entry None = nothing_either (follows before entry.key && fits_level level entry.value)
picks_others level high before entry (Some x) = both_tests (follows before entry.key && fits_level level entry.value) (fits_list level high (Some entry.key) x.0) x.1

behind_first : (level : ℕ) (high : Option (List ℕ)) (n : ℕ) (before : Option (List ℕ)) (first : Option (Entry × List ℕ))
    → ((key rest : List ℕ) → rest_behind level high n (Some key) rest ≡ (list_at n entry_at rest >>= picked level high (Some key)))
    → (first >>= λ x. cond (follows before x.0.key && fits_level level x.0.value) (rest_behind level high n (Some x.0.key) x.1) None)
    ≡ ((first >>= λ x. list_at n entry_at x.1 >>= λ others. Some (x.0 ∷ others.0, others.1)) >>= picked level high before)
behind_first level high n before None others = refl
behind_first level high n before (Some x) others =
    ap (λ (r : Option (List ℕ)). cond (follows before x.0.key && fits_level level x.0.value) r None) (others x.0.key x.1) ∙ picks_others level high before x.0 (list_at n entry_at x.1)

-- what is behind them is what is behind the list, where that may stand so
pub behind_is : (level : ℕ) (high : Option (List ℕ)) (n : ℕ) (before : Option (List ℕ)) (bytes : List ℕ) → rest_behind level high n before bytes ≡ (list_at n entry_at bytes >>= picked level high before)
unfolding rest_behind list_at
behind_is level high zero before bytes = refl
behind_is level high (suc n) before bytes = behind_first level high n before (entry_at bytes) (λ key rest. behind_is level high n (Some key) rest)

-- ---- the list is that of the entries that are there

listed_first : (n : ℕ) (first : Option (Entry × List ℕ)) (entries : List Entry) (rest : List ℕ)
    → ((behind : List ℕ) (others : List Entry) → list_at n entry_at behind ≡ Some (others, rest) → (entries_in n behind ≡ others) × (length others ≡ n))
    → ◌≡◌ {A = Option (List Entry × List ℕ)} (first >>= λ x. list_at n entry_at x.1 >>= λ others. Some (x.0 ∷ others.0, others.1)) (Some (entries, rest))
    → (with_others (λ behind. entries_in n behind) first ≡ entries) × (length entries ≡ suc n)
listed_first n None entries rest others is = absurd cc
listed_first n (Some x) entries rest others is =
    let found = bind_some (list_at n entry_at x.1) (λ more. Some (x.0 ∷ more.0, more.1)) (entries, rest) is in
    let same = some_pair_parts (x.0 ∷ found.0.0) entries found.0.1 rest found.2 in
    let step = others x.1 found.0.0 (found.1 ∙ ap (λ (r : List ℕ). Some (found.0.0, r)) same.1) in
    (ap (λ (es : List Entry). x.0 ∷ es) step.0 ∙ same.0, omega (arith, step.1, ap length same.0))

pub listed : (n : ℕ) (bytes : List ℕ) (entries : List Entry) (rest : List ℕ) → list_at n entry_at bytes ≡ Some (entries, rest) → (entries_in n bytes ≡ entries) × (length entries ≡ n)
unfolding entries_in list_at
listed zero bytes entries rest is =
    let same = some_pair_parts [] entries bytes rest is in
    (same.0, sym (ap length same.0))
listed (suc n) bytes entries rest is = listed_first n (entry_at bytes) entries rest (λ behind others. listed n behind others rest) is

-- ---- the loop

module _ (level : ℕ) (high : Option (List ℕ)) (count i : ℕ) (before : Option (List ℕ)) (bytes : List ℕ) (total : Option (List ℕ)) where
  pub goes_on : (entry : Entry) (rest key value : List ℕ) → key ≡ entry.key → value ≡ entry.value → i < count → entry_at bytes ≡ Some (entry, rest) → follows before key ≡ true → fits_level level value ≡ true
      → rest_behind level high (count - i) before bytes ≡ total → rest_behind level high (count - (i + 1)) (Some key) rest ≡ total
  unfolding rest_behind
  goes_on entry rest key value key_is value_is lt is one other so_far =
      let k : count - i ≡ suc (count - (i + 1)) = omega arith in
      let first : follows before entry.key ≡ true = rw key_is at one in
      let second : fits_level level entry.value ≡ true = rw value_is at other in
      let step : rest_behind level high (count - i) before bytes ≡ rest_behind level high (count - (i + 1)) (Some entry.key) rest = rw (k, is, first, second) refl in
      rw key_is (sym step ∙ so_far)

  pub is_unfit : (entry : Entry) (rest : List ℕ) → i < count → entry_at bytes ≡ Some (entry, rest) → (follows before entry.key && fits_level level entry.value) ≡ false
      → rest_behind level high (count - i) before bytes ≡ total → None ≡ total
  unfolding rest_behind
  is_unfit entry rest lt is not_both so_far =
      let k : count - i ≡ suc (count - (i + 1)) = omega arith in
      let step : rest_behind level high (count - i) before bytes ≡ None = rw (k, is, not_both) refl in
      sym step ∙ so_far

  pub is_missing : (error : ReadError) → i < count → Fails error (entry_at bytes) → error ≡ Malformed → rest_behind level high (count - i) before bytes ≡ total → None ≡ total
  unfolding rest_behind
  is_missing error lt fails is so_far =
      let none : entry_at bytes ≡ None = rw is at fails in
      let k : count - i ≡ suc (count - (i + 1)) = omega arith in
      let step : rest_behind level high (count - i) before bytes ≡ None = rw (k, none) refl in
      sym step ∙ so_far

  pub is_done : count ≤ i → ends_below before high ≡ true → rest_behind level high (count - i) before bytes ≡ total → Some bytes ≡ total
  unfolding rest_behind
  is_done le below so_far =
      let k : count - i ≡ 0 = omega arith in
      let step : rest_behind level high (count - i) before bytes ≡ Some bytes = rw (k, below) refl in
      sym step ∙ so_far

  pub is_above : count ≤ i → ends_below before high ≡ false → rest_behind level high (count - i) before bytes ≡ total → None ≡ total
  unfolding rest_behind
  is_above le below so_far =
      let k : count - i ≡ 0 = omega arith in
      let step : rest_behind level high (count - i) before bytes ≡ None = rw (k, below) refl in
      sym step ∙ so_far

pub one_unfit : (a b : Bool) → a ≡ false → (a && b) ≡ false
one_unfit a b h = rw h refl

pub other_unfit : (a b : Bool) → b ≡ false → (a && b) ≡ false
other_unfit true b h = h
other_unfit false b h = refl
