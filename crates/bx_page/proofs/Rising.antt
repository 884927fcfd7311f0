-- Entries that rise, as loops find it.
use Rattle.std.proofs.Common.{◌≡◌, ℕ, ◌+◌, ◌-◌, ◌<◌, ◌≤◌, List, length, take, get_or, subst, arith, inl, inr}
use Rattle.std.specs.Prelude.{All}
use Rattle.std.proofs.lemmas.Bool.{cases_lt}
use Rattle.std.proofs.lemmas.List.{take_more, get_or-take, length-take, get_or_read}
use Rattle.std.proofs.lemmas.List.Quantifiers.{all_pairs_push}
use Rattle.bx_page.specs.declared.entry.Entry.{Entry}
use Rattle.bx_page.specs.Keys.{IsBelow}
use Rattle.bx_page.specs.Contents.{Rises}
use Rattle.bx_page.proofs.Order.{below_trans}

-- one entry more
pub rises_more : (es : List Entry) (i : ℕ) (x y : Entry) → 1 ≤ i → i < length es → x ≡ get_or es (i - 1) x → y ≡ get_or es i y → IsBelow x.key y.key → Rises (take i es) → Rises (take (i + 1) es)
rises_more es i x y one lt xs ys below rises =
    rw (take_more es i y lt, ← ys) (all_pairs_push (λ a b. IsBelow a.key b.key) (take i es) y rises (λ k d within.
    let k-lt : k < i = omega (arith, length-take i es) in
    let last : x ≡ get_or es (i - 1) d = get_or_read es (i - 1) x (omega arith) xs d in
    let pred : i - 1 < i = omega arith in
    elim (cases_lt k (i - 1)) [
      | inl before ↦ below_trans _ x.key y.key (rw (get_or-take i es (i - 1) d pred, ← last) at (rises k (i - 1) d before (omega (arith, length-take i es)))) below
      | inr from ↦ (let e : i - 1 ≡ k = omega arith in subst (λ (n : ℕ). IsBelow (get_or (take i es) n d).key y.key) e (rw (get_or-take i es (i - 1) d pred, ← last) below))
    ]))

-- where the last key is below a key, all are
pub all_below : (es : List Entry) (x : Entry) (high : List ℕ) → Rises es → 0 < length es → x ≡ get_or es (length es - 1) x → IsBelow x.key high → All (λ e. IsBelow e.key high) es
all_below es x high rises some is below = λ k d lt.
    let last : x ≡ get_or es (length es - 1) d = get_or_read es (length es - 1) x (omega arith) is d in
    elim (cases_lt k (length es - 1)) [
      | inl before ↦ below_trans _ x.key high (rw (← last) at (rises k (length es - 1) d before (omega arith))) below
      | inr from ↦ (let e : length es - 1 ≡ k = omega arith in subst (λ (n : ℕ). IsBelow (get_or es n d).key high) e (rw (← last) below))
    ]

pub last_below : (es : List Entry) (x : Entry) (high : List ℕ) → 0 < length es → x ≡ get_or es (length es - 1) x → All (λ e. IsBelow e.key high) es → IsBelow x.key high
last_below es x high some is all = rw (← is) at (all (length es - 1) x (omega arith))
