-- Lists that are cut where a test changes its answer.
use Rattle.std.proofs.Common.{◌≡◌, ℕ, ◌+◌, ◌<◌, ◌≤◌, Bool, true, false, List, [], ◌∷◌, ◌++◌, length, take, drop, get_or, Some, None, refl, sym, ap, ◌∙◌, arith}
use Rattle.std.specs.Prelude.{All, filter}
use Rattle.std.specs.List.{find}
use Rattle.std.proofs.lemmas.List.{take-append-drop, get_or-take, get_or-drop, length-take, length-drop, append-nil, drop_more}
use Rattle.std.proofs.lemmas.List.Elements.{filter-append, All-head, All-tail}

-- what holds below a place and from it on
pub All-take_below : {X : Type 0} (P : X → Type 0) (xs : List X) (n : ℕ) → n ≤ length xs → ((k : ℕ) (d : X) → k < n → P (get_or xs k d)) → All P (take n xs)
All-take_below P xs n le h = λ k d lt.
    let below : k < n = omega (arith, length-take n xs) in
    rw (get_or-take n xs k d below) (h k d below)

pub All-drop_from : {X : Type 0} (P : X → Type 0) (xs : List X) (n : ℕ) → ((k : ℕ) (d : X) → n ≤ k → k < length xs → P (get_or xs k d)) → All P (drop n xs)
All-drop_from P xs n h = λ k d lt. rw (get_or-drop n xs k d) (h (n + k) d (omega arith) (omega (arith, length-drop n xs)))

pub filter_all : {X : Type 0} (p : X → Bool) (xs : List X) → All (λ x. p x ≡ true) xs → filter p xs ≡ xs
filter_all p [] a = refl
filter_all p (x ∷ xs) a = rw (All-head (λ x. p x ≡ true) x xs a) (ap (λ ys. x ∷ ys) (filter_all p xs (All-tail (λ x. p x ≡ true) x xs a)))

pub filter_none : {X : Type 0} (p : X → Bool) (xs : List X) → All (λ x. p x ≡ false) xs → filter p xs ≡ []
filter_none p [] a = refl
filter_none p (x ∷ xs) a = rw (All-head (λ x. p x ≡ false) x xs a) (filter_none p xs (All-tail (λ x. p x ≡ false) x xs a))

filter_cut : {X : Type 0} (p : X → Bool) (xs : List X) (n : ℕ) → filter p xs ≡ filter p (take n xs) ++ filter p (drop n xs)
filter_cut p xs n = ap (filter p) (sym (take-append-drop n xs)) ∙ filter-append p (take n xs) (drop n xs)

pub filter_front : {X : Type 0} (p : X → Bool) (xs : List X) (n : ℕ) → All (λ x. p x ≡ true) (take n xs) → All (λ x. p x ≡ false) (drop n xs) → filter p xs ≡ take n xs
filter_front p xs n a b = filter_cut p xs n ∙ rw (filter_all p (take n xs) a, filter_none p (drop n xs) b) (append-nil (take n xs))

pub filter_behind : {X : Type 0} (p : X → Bool) (xs : List X) (n : ℕ) → All (λ x. p x ≡ false) (take n xs) → All (λ x. p x ≡ true) (drop n xs) → filter p xs ≡ drop n xs
filter_behind p xs n a b = filter_cut p xs n ∙ rw (filter_none p (take n xs) a, filter_all p (drop n xs) b) refl

pub find_none : {X : Type 0} (p : X → Bool) (xs : List X) → All (λ x. p x ≡ false) xs → find p xs ≡ None
find_none p [] a = refl
find_none p (x ∷ xs) a = rw (All-head (λ x. p x ≡ false) x xs a) (find_none p xs (All-tail (λ x. p x ≡ false) x xs a))

-- the first element that passes stands behind those that don't
find_behind : {X : Type 0} (p : X → Bool) (front : List X) (x : X) (back : List X) → All (λ y. p y ≡ false) front → p x ≡ true → find p (front ++ x ∷ back) ≡ Some x
find_behind p [] x back a h = rw h refl
find_behind p (y ∷ ys) x back a h = rw (All-head (λ z. p z ≡ false) y ys a) (find_behind p ys x back (All-tail (λ z. p z ≡ false) y ys a) h)

pub find_first : {X : Type 0} (p : X → Bool) (xs : List X) (n : ℕ) (d : X) → n < length xs → All (λ y. p y ≡ false) (take n xs) → p (get_or xs n d) ≡ true → find p xs ≡ Some (get_or xs n d)
find_first p xs n d lt a h =
    ap (find p) (sym (take-append-drop n xs) ∙ ap (λ ys. take n xs ++ ys) (drop_more xs n d lt))
    ∙ find_behind p (take n xs) (get_or xs n d) (drop (n + 1) xs) a h
