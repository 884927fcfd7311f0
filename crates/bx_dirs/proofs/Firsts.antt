-- The first entry from a key on: it is there, and no entry from the key on is below it.
use Rattle.std.proofs.Common.{◌≡◌, ℕ, suc, ◌<◌, ◌⊎◌, inl, inr, arith, Bool, true, false, List, [], ◌∷◌, cond, refl, sym, ap, ◌∙◌, subst, Some, None}
use Rattle.std.specs.Prelude.{All, AllPairs, Contains, bytes_eq, not, nat_lt}
use Rattle.std.specs.List.{find}
use Rattle.std.specs.Option.{option_map}
use Rattle.std.proofs.lemmas.Bool.Decides.{nat_tests}
use Rattle.std.proofs.lemmas.Slice.Eq.{bytes_eq-Decides}
use Rattle.bx_page.specs.declared.entry.Entry.{Entry}
use Rattle.bx_page.specs.Keys.{is_below, IsBelow}
use Rattle.bx_page.specs.Contents.{Rises, first, from, value_of}
use Rattle.bx_page.proofs.Order.{same_itself}
use Rattle.bx_tree_files.specs.declared.file.Name.{Name}
use Rattle.bx_tree_files.specs.Entries.{above}
use Rattle.bx_dirs.proofs.Names.{some_same, in_or, head_in, tail_in}

no_both : (b : Bool) → b ≡ true → b ≡ false → ⊥
no_both b is never = let e : true ≡ false = sym is ∙ never in cc

-- ---- entries

-- the value of a key that isn't the first entry's
value_later : (x : Entry) (xs : List Entry) (key : List ℕ) → bytes_eq x.key key ≡ false → value_of (x ∷ xs) key ≡ value_of xs key
value_later x xs key other = ap (λ (t : Bool). option_map (λ (e : Entry). e.value) (cond t (Some x) (find (λ (e : Entry). bytes_eq e.key key) xs))) other

value_first : (x : Entry) (xs : List Entry) (key : List ℕ) → bytes_eq x.key key ≡ true → value_of (x ∷ xs) key ≡ Some x.value
value_first x xs key same = ap (λ (t : Bool). option_map (λ (e : Entry). e.value) (cond t (Some x) (find (λ (e : Entry). bytes_eq e.key key) xs))) same

-- what holds of all keys holds of one with a value
of_key : (P : List ℕ → Type 0) (xs : List Entry) (key value : List ℕ) → All (λ (e : Entry). P e.key) xs → value_of xs key ≡ Some value → P key
of_key P [] key value all is = absurd cc
of_key P (x ∷ xs) key value all is = by (bytes_eq x.key key) refl (of_key P xs key value (λ k d less. all (suc k) d (omega (arith, less))))
  where
    by : (t : Bool) → bytes_eq x.key key ≡ t → (value_of xs key ≡ Some value → P key) → P key
    by true same rest = subst P ((bytes_eq-Decides x.key key).0 same) (all 0 x (omega arith))
    by false other rest = rest (sym (value_later x xs key other) ∙ is)

-- the first entry from a key on
pub record IsFirstFrom (map : List Entry) (key : List ℕ) (e : Entry) : Type 0 where
  pub value : value_of map e.key ≡ Some e.value
  pub from_key : is_below e.key key ≡ false
  pub least : (k v : List ℕ) → value_of map k ≡ Some v → is_below k key ≡ false → (e.key ≡ k) ⊎ IsBelow e.key k

tail : (x : Entry) (xs : List Entry) → Rises (x ∷ xs) → Rises xs
tail x xs rises i j d less within = rises (suc i) (suc j) d (omega (arith, less)) (omega (arith, within))

head : (x : Entry) (xs : List Entry) → Rises (x ∷ xs) → All (λ (e : Entry). IsBelow x.key e.key) xs
head x xs rises k d less = rises 0 (suc k) d (omega arith) (omega (arith, less))

pub first_from : (map : List Entry) (key : List ℕ) (e : Entry) → Rises map → first (from map key) ≡ Some e → IsFirstFrom map key e
first_from [] key e rises is = absurd cc
first_from (x ∷ xs) key e rises is = by (is_below x.key key) refl (first_from xs key e (tail x xs rises))
  where
    by : (t : Bool) → is_below x.key key ≡ t → (first (from xs key) ≡ Some e → IsFirstFrom xs key e) → IsFirstFrom (x ∷ xs) key e
    by true below rest = record {
      value = value_later x xs e.key (not_first e.key r.from_key) ∙ r.value;
      from_key = r.from_key;
      least = λ k v there above. r.least k v (sym (value_later x xs k (not_first k above)) ∙ there) above;
    }
      where
        r : IsFirstFrom xs key e
        r = rest (sym (ap (λ (t : Bool). first (cond (not t) (x ∷ from xs key) (from xs key))) below) ∙ is)

        not_first : (k : List ℕ) → is_below k key ≡ false → bytes_eq x.key k ≡ false
        not_first k above = cases (bytes_eq x.key k) refl
          where
            cases : (t : Bool) → bytes_eq x.key k ≡ t → t ≡ false
            cases true same = absurd (no_both (is_below x.key key) below (ap (λ (l : List ℕ). is_below l key) ((bytes_eq-Decides x.key k).0 same) ∙ above))
            cases false other = refl
    by false not_below rest = subst (IsFirstFrom (x ∷ xs) key) same (record {
      value = value_first x xs x.key (same_itself x.key);
      from_key = not_below;
      least = λ k v there above. cases k v there (bytes_eq x.key k) refl;
    })
      where
        same : x ≡ e
        same = some_same x e (sym (ap (λ (t : Bool). first (cond (not t) (x ∷ from xs key) (from xs key))) not_below) ∙ is)

        cases : (k v : List ℕ) → value_of (x ∷ xs) k ≡ Some v → (t : Bool) → bytes_eq x.key k ≡ t → (x.key ≡ k) ⊎ IsBelow x.key k
        cases k v there true same = inl ((bytes_eq-Decides x.key k).0 same)
        cases k v there false other = inr (of_key (IsBelow x.key) xs k v (head x xs rises) (sym (value_later x xs k other) ∙ there))

-- there is none
pub none_from : (map : List Entry) (key : List ℕ) → first (from map key) ≡ None → (k v : List ℕ) → value_of map k ≡ Some v → is_below k key ≡ false → ⊥
none_from [] key none k v there above = cc
none_from (x ∷ xs) key none k v there above = by (is_below x.key key) refl (none_from xs key)
  where
    by : (t : Bool) → is_below x.key key ≡ t → (first (from xs key) ≡ None → (k v : List ℕ) → value_of xs k ≡ Some v → is_below k key ≡ false → ⊥) → ⊥
    by true below rest = rest (sym (ap (λ (t : Bool). first (cond (not t) (x ∷ from xs key) (from xs key))) below) ∙ none) k v (cases (bytes_eq x.key k) refl) above
      where
        cases : (t : Bool) → bytes_eq x.key k ≡ t → value_of xs k ≡ Some v
        cases true same = absurd (no_both (is_below x.key key) below (ap (λ (l : List ℕ). is_below l key) ((bytes_eq-Decides x.key k).0 same) ∙ above))
        cases false other = sym (value_later x xs k other) ∙ there
    by false not_below rest = let e : Some x ≡ None = sym (ap (λ (t : Bool). first (cond (not t) (x ∷ from xs key) (from xs key))) not_below) ∙ none in cc

-- ---- names in the order of their numbers

rest_up : (x : Name) (xs : List Name) → AllPairs (λ (a b : Name). a.number < b.number) (x ∷ xs) → AllPairs (λ (a b : Name). a.number < b.number) xs
rest_up x xs up i j d less within = up (suc i) (suc j) d (omega (arith, less)) (omega (arith, within))

first_up : (x : Name) (xs : List Name) → AllPairs (λ (a b : Name). a.number < b.number) (x ∷ xs) → (y : Name) → Contains xs y → x.number < y.number
first_up x xs up y (k, less, is) = subst (λ (z : Name). x.number < z.number) is (up 0 (suc k) y (omega arith) (omega (arith, less)))

-- all entries are above a number, or none is
all_above : (number : ℕ) (names : List Name) → ((x : Name) → Contains names x → number < x.number) → above number names ≡ names
all_above number [] all = refl
all_above number (x ∷ xs) all =
    let less = all x (head_in x xs) in
    let t : nat_lt number x.number ≡ true = grind (arith, nat_tests, less) in
    ap (λ (t : Bool). cond t (x ∷ above number xs) (above number xs)) t ∙ ap (λ (l : List Name). x ∷ l) (all_above number xs (λ y there. all y (tail_in y x xs there)))

pub none_above : (number : ℕ) (names : List Name) → ((x : Name) → Contains names x → number < x.number → ⊥) → above number names ≡ []
none_above number [] never = refl
none_above number (x ∷ xs) never = by (nat_lt number x.number) refl (none_above number xs (λ y there. never y (tail_in y x xs there)))
  where
    by : (t : Bool) → nat_lt number x.number ≡ t → above number xs ≡ [] → above number (x ∷ xs) ≡ []
    by true is rest = absurd (never x (head_in x xs) (grind (arith, nat_tests, is)))
    by false is rest = ap (λ (t : Bool). cond t (x ∷ above number xs) (above number xs)) is ∙ rest

-- the least one above a number is the first there, and behind it come those that are above its own
pub least_above : (number : ℕ) (names : List Name) (n : Name) → AllPairs (λ (a b : Name). a.number < b.number) names → Contains names n → number < n.number
    → ((x : Name) → Contains names x → number < x.number → (n.number ≡ x.number) ⊎ (n.number < x.number)) → above number names ≡ n ∷ above n.number names
least_above number [] n up within less least = absurd (omega (arith, within.1))
least_above number (x ∷ xs) n up within less least =
    by (nat_lt number x.number) refl (λ later. least_above number xs n (rest_up x xs up) later less (λ y there. least y (tail_in y x xs there))) (in_or n x xs within)
  where
    by : (t : Bool) → nat_lt number x.number ≡ t → (Contains xs n → above number xs ≡ n ∷ above n.number xs) → (x ≡ n) ⊎ Contains xs n → above number (x ∷ xs) ≡ n ∷ above n.number (x ∷ xs)
    by true is rest (inl same) =
        let low : number < x.number = grind (arith, nat_tests, is) in
        let none : nat_lt x.number x.number ≡ false = grind (arith, nat_tests) in
        let mine : above x.number (x ∷ xs) ≡ xs =
        ap (λ (t : Bool). cond t (x ∷ above x.number xs) (above x.number xs)) none ∙ all_above x.number xs (first_up x xs up) in
        let now : above number (x ∷ xs) ≡ x ∷ xs = ap (λ (t : Bool). cond t (x ∷ above number xs) (above number xs)) is
        ∙ ap (λ (l : List Name). x ∷ l) (all_above number xs (λ y there. let b = first_up x xs up y there in omega (arith, low, b))) in
        now ∙ ap (λ (l : List Name). x ∷ l) (sym mine) ∙ (λ i. same i ∷ above (same i).number (x ∷ xs))
    by true is rest (inr later) =
        let low : number < x.number = grind (arith, nat_tests, is) in
        let b = first_up x xs up n later in
        absurd (wrong b (least x (head_in x xs) low))
      where
        wrong : x.number < n.number → (n.number ≡ x.number) ⊎ (n.number < x.number) → ⊥
        wrong b (inl same) = omega (arith, b, same)
        wrong b (inr lower) = omega (arith, b, lower)
    by false is rest (inl same) = let e : n.number ≡ x.number = ap (λ (y : Name). y.number) (sym same) in absurd (grind (arith, nat_tests, is, e, less))
    by false is rest (inr later) =
        let b = first_up x xs up n later in
        let none : nat_lt n.number x.number ≡ false = grind (arith, nat_tests, b) in
        ap (λ (t : Bool). cond t (x ∷ above number xs) (above number xs)) is ∙ rest later
        ∙ ap (λ (l : List Name). n ∷ l) (sym (ap (λ (t : Bool). cond t (x ∷ above n.number xs) (above n.number xs)) none))
