-- The last of the entries with keys not above a key is the greatest of them, so what is between the two has no entry.
use Rattle.std.proofs.Common.{◌≡◌, ℕ, suc, Bool, true, false, List, [], ◌∷◌, ◌++◌, Some, None, refl, sym, ap, ◌∙◌, arith}
use Rattle.std.specs.Prelude.{All, AllPairs, not, filter, reverse, slice_get, bytes_eq}
use Rattle.std.specs.Option.{option_map}
use Rattle.std.proofs.lemmas.List.{reverse-append}
use Rattle.std.proofs.lemmas.List.Elements.{All-head, All-tail, All-append, All-cons, All-nil}
use Rattle.std.proofs.lemmas.List.Kept.{AllPairs-filter}
use Rattle.bx_page.specs.declared.entry.Entry.{Entry}
use Rattle.bx_page.specs.Keys.{is_below, IsBelow}
use Rattle.bx_page.specs.Contents.{Rises, up_to, last, value_of}
use Rattle.bx_page.proofs.Cuts.{find_none}
use Rattle.bx_page.proofs.Order.{not_below_back, not_below_itself, not_same_above, not_same_below}
use Rattle.bx_blink.proofs.Keys.{le_lt}
use Rattle.bx_blink.proofs.Last.{first_all}

rev_cons : {X : Type 0} (x : X) (xs : List X) → reverse (x ∷ xs) ≡ reverse xs ++ x ∷ []
rev_cons x xs = reverse-append (x ∷ []) xs

All-reverse : {X : Type 0} (P : X → Type 0) (xs : List X) → All P xs → All P (reverse xs)
All-reverse P [] a = a
All-reverse P (x ∷ xs) a = rw (rev_cons x xs) (All-append P (reverse xs) (x ∷ []) (All-reverse P xs (All-tail P x xs a)) (All-cons P x [] (All-head P x xs a) (All-nil P)))

pairs_head : {X : Type 0} (R : X → X → Type 0) (x : X) (xs : List X) → AllPairs R (x ∷ xs) → All (R x) xs
pairs_head R x xs a = λ k d lt. a 0 (suc k) d (omega arith) (omega arith)

pairs_tail : {X : Type 0} (R : X → X → Type 0) (x : X) (xs : List X) → AllPairs R (x ∷ xs) → AllPairs R xs
pairs_tail R x xs a = λ i j d lt within. a (suc i) (suc j) d (omega arith) (omega arith)

at_front : {X : Type 0} (xs : List X) (w : X) (more : List X) → slice_get ((xs ++ w ∷ []) ++ more) 0 ≡ slice_get (xs ++ w ∷ []) 0
at_front [] w more = refl
at_front (x ∷ xs) w more = refl

some_same : {X : Type 0} (a b : X) → Some a ≡ Some b → a ≡ b
some_same a b e = cc

abbrev AtMost : Entry → Entry → Type 0
AtMost e x = is_below e.key x.key ≡ false

greatest : (es : List Entry) (e : Entry) → Rises es → slice_get (reverse es) 0 ≡ Some e → All (λ x. is_below e.key x.key ≡ false) es
greatest [] e rises is = absurd cc
greatest (y ∷ []) e rises is = let same : y ≡ e = some_same y e is in All-cons (λ (x : Entry). is_below e.key x.key ≡ false) y [] (rw same (not_below_itself e.key)) (All-nil (λ (x : Entry). is_below e.key x.key ≡ false))
greatest (y ∷ z ∷ zs) e rises is =
    let of_rest : slice_get (reverse (z ∷ zs)) 0 ≡ Some e =
    ap (λ (l : List Entry). slice_get l 0) (rev_cons z zs) ∙ sym (at_front (reverse zs) z (y ∷ [])) ∙ ap (λ (l : List Entry). slice_get (l ++ y ∷ []) 0) (sym (rev_cons z zs)) ∙ ap (λ (l : List Entry). slice_get l 0) (sym (rev_cons y (z ∷ zs))) ∙ is in
    let lower : IsBelow y.key e.key = first_all (λ (x : Entry). IsBelow y.key x.key) (reverse (z ∷ zs)) e (All-reverse (λ (x : Entry). IsBelow y.key x.key) (z ∷ zs) (pairs_head (λ (a : Entry) (b : Entry). IsBelow a.key b.key) y (z ∷ zs) rises)) of_rest in
    All-cons (λ (x : Entry). is_below e.key x.key ≡ false) y (z ∷ zs) (not_below_back y.key e.key lower) (greatest (z ∷ zs) e (pairs_tail (λ (a : Entry) (b : Entry). IsBelow a.key b.key) y (z ∷ zs) rises) of_rest)

-- what all that pass have
where_passed : {X : Type 0} (p : X → Bool) (P : X → Type 0) (xs : List X) → All P (filter p xs) → All (λ x. p x ≡ true → P x) xs
where_passed p P [] a = All-nil (λ x. p x ≡ true → P x)
where_passed {X = X} p P (y ∷ ys) a = by_test (p y) refl (where_passed p P ys)
  where
    by_test : (b : Bool) → p y ≡ b → (All P (filter p ys) → All (λ (x : X). p x ≡ true → P x) ys) → All (λ (x : X). p x ≡ true → P x) (y ∷ ys)
    by_test true e rest = let b : All P (y ∷ filter p ys) = rw e at a in All-cons (λ (x : X). p x ≡ true → P x) y ys (λ t. All-head P y (filter p ys) b) (rest (All-tail P y (filter p ys) b))
    by_test false e rest = let b : All P (filter p ys) = rw e at a in All-cons (λ (x : X). p x ≡ true → P x) y ys (λ t. absurd (no_both (sym e ∙ t))) (rest b)
      where
        no_both : false ≡ true → ⊥
        no_both e = cc

All-map : {X : Type 0} (P Q : X → Type 0) (xs : List X) → ((x : X) → P x → Q x) → All P xs → All Q xs
All-map P Q xs f a = λ k d lt. f _ (a k d lt)

-- a key between the greatest entry that isn't above another key, and that key, has no entry
pub between : (entries : List Entry) (key high : List ℕ) (e : Entry) → Rises entries → last (up_to entries key) ≡ Some e → is_below key high ≡ false → IsBelow e.key high → value_of entries high ≡ None
between entries key high e rises is le lt =
    let p : Entry → Bool = λ x. not (is_below key x.key) in
    let all = where_passed p (λ (x : Entry). is_below e.key x.key ≡ false) entries (greatest (filter p entries) e (AllPairs-filter (λ (a : Entry) (b : Entry). IsBelow a.key b.key) p entries rises) is) in
    ap (option_map (λ (x : Entry). x.value))
    (find_none (λ (x : Entry). bytes_eq x.key high) entries (All-map (λ (x : Entry). p x ≡ true → is_below e.key x.key ≡ false) (λ (x : Entry). bytes_eq x.key high ≡ false) entries (λ x f. by_test x (is_below key x.key) refl f) all))
  where
    by_test : (x : Entry) (b : Bool) → is_below key x.key ≡ b → (not (is_below key x.key) ≡ true → is_below e.key x.key ≡ false) → bytes_eq x.key high ≡ false
    by_test x true above f = not_same_above x.key high (le_lt high key x.key le above)
    by_test x false below f = not_same_below x.key high (le_lt x.key e.key high (f (ap not below)) lt)
