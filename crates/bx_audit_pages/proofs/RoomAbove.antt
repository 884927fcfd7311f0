-- The room above keys falls as they rise.
use Rattle.std.proofs.Common.{◌≡◌, ℕ, zero, suc, ◌+◌, ◌-◌, ◌*◌, ◌<◌, ◌≤◌, arith, Bool, true, false, List, [], ◌∷◌, length, Less, Equal, Greater, refl, sym, ◌∙◌, subst}
use Rattle.std.specs.Prelude.{◌==◌, nat_lt, cond}
use Rattle.std.specs.Ordering.{is_lt, nat_cmp, ordering_then}
use Rattle.std.specs.Cmp.Lexicographic.{slice_cmp}
use Rattle.std.proofs.lemmas.Bool.Decides.{nat_tests}
use Rattle.bx_base.specs.Bytes.{IsBytes}
use Rattle.bx_page.specs.Keys.{IsBelow}
use Rattle.bx_audit_pages.specs.Room.{width, rank, room_above}

some_width : (n : ℕ) → 1 ≤ width n
some_width zero = omega arith
some_width (suc n) = let w = some_width n in omega (arith, w)

-- so many times a width, by how many
times : (a b w : ℕ) → a ≤ b → a * w ≤ b * w
times a b w le = grind (arith, le)

rank_fits : (n : ℕ) (key : List ℕ) → IsBytes key → rank n key < width n
rank_fits zero key bytes = omega arith
rank_fits (suc n) [] bytes = let w = some_width n in omega (arith, w)
rank_fits (suc n) (x ∷ key) bytes = fits (x + 1) (width n) (rank n key) (let b = bytes 0 in omega (arith, b)) (rank_fits n key (λ i. bytes (suc i)))
  where
    fits : (a w r : ℕ) → a ≤ 256 → r < w → a * w + r < 257 * w
    fits a w r le less = let t = times a 256 w le in omega (arith, t, less)

lower : (x y w r s : ℕ) → x < y → r < w → (x + 1) * w + r < (y + 1) * w + s
lower x y w r s less fits = let t = times (x + 2) (y + 1) w (omega (arith, less)) in omega (arith, t, fits)

rank_rises : (n : ℕ) (a b : List ℕ) → length a ≤ n → length b ≤ n → IsBytes a → IsBytes b → IsBelow a b → rank n a < rank n b
rank_rises n [] [] la lb ba bb below = absurd cc
rank_rises n (x ∷ xs) [] la lb ba bb below = absurd cc
rank_rises zero [] (y ∷ ys) la lb ba bb below = absurd (omega (arith, lb))
rank_rises zero (x ∷ xs) (y ∷ ys) la lb ba bb below = absurd (omega (arith, lb))
rank_rises (suc n) [] (y ∷ ys) la lb ba bb below = some y (width n) (rank n ys) (some_width n)
  where
    some : (y w s : ℕ) → 1 ≤ w → 0 < (y + 1) * w + s
    some y w s one = let t = times 1 (y + 1) w (omega arith) in omega (arith, t, one)
rank_rises (suc n) (x ∷ xs) (y ∷ ys) la lb ba bb below =
    by (λ is. rank_rises n xs ys (omega (arith, la)) (omega (arith, lb)) (λ i. ba (suc i)) (λ i. bb (suc i)) is) (nat_lt x y) (x == y) refl refl
  where
    tested : (t u : Bool) → nat_lt x y ≡ t → (x == y) ≡ u → is_lt (ordering_then (cond t Less (cond u Equal Greater)) (slice_cmp nat_cmp xs ys)) ≡ true
    tested t u is_t is_u = (λ i. is_lt (ordering_then (cond (sym is_t i) Less (cond (sym is_u i) Equal Greater)) (slice_cmp nat_cmp xs ys))) ∙ below

    by : (IsBelow xs ys → rank n xs < rank n ys) → (t u : Bool) → nat_lt x y ≡ t → (x == y) ≡ u → rank (suc n) (x ∷ xs) < rank (suc n) (y ∷ ys)
    by behind true u is_t is_u = lower x y (width n) (rank n xs) (rank n ys) (grind (arith, nat_tests, is_t)) (rank_fits n xs (λ i. ba (suc i)))
    by behind false true is_t is_u =
        let same : x ≡ y = grind (arith, nat_tests, is_u) in
        let rest = behind (tested false true is_t is_u) in
        subst (λ (z : ℕ). (x + 1) * width n + rank n xs < (z + 1) * width n + rank n ys) same (omega (arith, rest))
    by behind false false is_t is_u = let e = tested false false is_t is_u in absurd cc

falls : (w r s : ℕ) → r < s → s < w → w - s < w - r
falls w r s less fits = omega (arith, less, fits)

pub room_falls : (a b : List ℕ) → length a ≤ 256 → length b ≤ 256 → IsBytes a → IsBytes b → IsBelow a b → room_above b < room_above a
unfolding room_above
room_falls a b la lb ba bb below = falls (width 256) (rank 256 a) (rank 256 b) (rank_rises 256 a b la lb ba bb below) (rank_fits 256 b bb)
