-- The entries of a page are a map: what a key's value is once another was put, taken or given away.
use Rattle.std.proofs.Common.{◌≡◌, ℕ, zero, suc, ◌<◌, ◌≤◌, Bool, true, false, List, [], ◌∷◌, ◌++◌, length, take, drop, get_or, Ordering, Less, Equal, Greater, Option, Some, None, refl, sym, ap, ◌∙◌, arith, inl, inr}
use Rattle.std.specs.Prelude.{bytes_eq, filter, if◌then◌else◌, slice_get}
use Rattle.std.specs.List.{find}
use Rattle.std.specs.Option.{option_map}
use Rattle.std.specs.Ordering.{nat_cmp, is_lt}
use Rattle.std.specs.Cmp.Lexicographic.{slice_cmp}
use Rattle.std.proofs.lemmas.Bool.{cases_lt}
use Rattle.std.proofs.lemmas.List.{take-append-drop, get_or_default}
use Rattle.std.proofs.lemmas.Slice.Eq.{bytes_eq-Decides}
use Rattle.bx_page.specs.declared.entry.Entry.{Entry}
use Rattle.bx_page.specs.Keys.{is_below, IsBelow}
use Rattle.bx_page.specs.Contents.{Contents, Rises, below, above, half, value_of, with_value, without_key, first_half, other_half}
use Rattle.bx_page.proofs.Order.{below_trans, not_below_itself, not_below_back, same_from_cmp, not_same_above, same_itself, greater_cmp}
use Rattle.bx_page.proofs.Cuts.{All-take_below, All-drop_from, find_none}

abbrev is_key : List ℕ → Entry → Bool
is_key key entry = bytes_eq entry.key key

no_true : false ≡ true → ⊥
no_true e = cc

found_key : (key : List ℕ) (entry : Entry) → is_key key entry ≡ true → entry.key ≡ key
found_key key entry is = (bytes_eq-Decides entry.key key).0 is

-- ---- searches in lists that are put together

find_here : (p : Entry → Bool) (xs ys : List Entry) (x : Entry) → find p xs ≡ Some x → find p (xs ++ ys) ≡ Some x
find_here p [] ys x e = absurd cc
find_here p (z ∷ zs) ys x e = by_test (p z) refl (λ h. find_here p zs ys x h)
  where
    by_test : (b : Bool) → p z ≡ b → (find p zs ≡ Some x → find p (zs ++ ys) ≡ Some x) → find p ((z ∷ zs) ++ ys) ≡ Some x
    by_test true is rest = rw is (rw is at e)
    by_test false is rest = rw is (rest (rw is at e))

find_later : (p : Entry → Bool) (xs ys : List Entry) → find p xs ≡ None → find p (xs ++ ys) ≡ find p ys
find_later p [] ys e = refl
find_later p (z ∷ zs) ys e = by_test (p z) refl (λ h. find_later p zs ys h)
  where
    by_test : (b : Bool) → p z ≡ b → (find p zs ≡ None → find p (zs ++ ys) ≡ find p ys) → find p ((z ∷ zs) ++ ys) ≡ find p ys
    by_test true is rest = let some : Some z ≡ None = rw is at e in absurd cc
    by_test false is rest = rw is (rest (rw is at e))

find_kept : (p q : Entry → Bool) (xs : List Entry) → ((x : Entry) → p x ≡ true → q x ≡ true) → find p (filter q xs) ≡ find p xs
find_kept p q [] so = refl
find_kept p q (x ∷ xs) so = by_tests (p x) (q x) refl refl (find_kept p q xs so)
  where
    by_tests : (b c : Bool) → p x ≡ b → q x ≡ c → find p (filter q xs) ≡ find p xs → find p (filter q (x ∷ xs)) ≡ find p (x ∷ xs)
    by_tests true true is kept rest = rw (kept, is) refl
    by_tests true false is kept rest = absurd (no_true (sym kept ∙ so x is))
    by_tests false true is kept rest = rw (kept, is) rest
    by_tests false false is kept rest = rw (kept, is) rest

find_left_out : (p q : Entry → Bool) (xs : List Entry) → ((x : Entry) → p x ≡ true → q x ≡ false) → find p (filter q xs) ≡ None
find_left_out p q [] so = refl
find_left_out p q (x ∷ xs) so = by_tests (p x) (q x) refl refl (find_left_out p q xs so)
  where
    by_tests : (b c : Bool) → p x ≡ b → q x ≡ c → find p (filter q xs) ≡ None → find p (filter q (x ∷ xs)) ≡ None
    by_tests true true is kept rest = absurd (no_true (sym (so x is) ∙ kept))
    by_tests true false is kept rest = rw kept rest
    by_tests false true is kept rest = rw (kept, is) rest
    by_tests false false is kept rest = rw kept rest

-- ---- entries below a key, and above it

below_kept : (es : List Entry) (key other : List ℕ) → is_below other key ≡ true → find (is_key other) (below es key) ≡ find (is_key other) es
below_kept es key other lt = find_kept (is_key other) (λ e. is_below e.key key) es (λ e is. ap (λ k. is_below k key) (found_key other e is) ∙ lt)

below_out : (es : List Entry) (key other : List ℕ) → is_below other key ≡ false → find (is_key other) (below es key) ≡ None
below_out es key other not_lt = find_left_out (is_key other) (λ e. is_below e.key key) es (λ e is. ap (λ k. is_below k key) (found_key other e is) ∙ not_lt)

above_kept : (es : List Entry) (key other : List ℕ) → is_below key other ≡ true → find (is_key other) (above es key) ≡ find (is_key other) es
above_kept es key other lt = find_kept (is_key other) (λ e. is_below key e.key) es (λ e is. ap (λ k. is_below key k) (found_key other e is) ∙ lt)

above_out : (es : List Entry) (key other : List ℕ) → is_below key other ≡ false → find (is_key other) (above es key) ≡ None
above_out es key other not_lt = find_left_out (is_key other) (λ e. is_below key e.key) es (λ e is. ap (λ k. is_below key k) (found_key other e is) ∙ not_lt)

-- what is between the entries below a key and those above it has no other key
record LacksOthers (key : List ℕ) (middle : List Entry) : Type 0 where
  lacks : (other : List ℕ) → bytes_eq other key ≡ false → find (is_key other) middle ≡ None

one_entry : (key value : List ℕ) → LacksOthers key (record { key = key; value = value } ∷ [])
one_entry key value = record { lacks = λ other apart. by_test other apart (bytes_eq key other) refl }
  where
    by_test : (other : List ℕ) → bytes_eq other key ≡ false → (b : Bool) → bytes_eq key other ≡ b → find (is_key other) (record { key = key; value = value } ∷ []) ≡ None
    by_test other apart true is = absurd (no_true (sym apart ∙ (bytes_eq-Decides other key).1 (sym ((bytes_eq-Decides key other).0 is))))
    by_test other apart false is = rw is refl

no_entry : (key : List ℕ) → LacksOthers key []
no_entry key = record { lacks = λ other apart. refl }

data Order (a b : List ℕ) : Type 0 where
  lower : is_below a b ≡ true → Order a b
  same : bytes_eq a b ≡ true → Order a b
  higher : is_below b a ≡ true → Order a b

order : (a b : List ℕ) → Order a b
order a b = by_cmp (slice_cmp nat_cmp a b) refl
  where
    by_cmp : (o : Ordering) → slice_cmp nat_cmp a b ≡ o → Order a b
    by_cmp Less is = lower (ap is_lt is)
    by_cmp Equal is = same ((bytes_eq-Decides a b).1 (same_from_cmp a b is))
    by_cmp Greater is = higher (greater_cmp a b is)

-- the value of another key stays
others_stay : (es middle : List Entry) (key other : List ℕ) → LacksOthers key middle → bytes_eq other key ≡ false
    → find (is_key other) (below es key ++ (middle ++ above es key)) ≡ find (is_key other) es
others_stay es middle key other without apart = by_order (order other key)
  where
    in_middle : find (is_key other) (middle ++ above es key) ≡ find (is_key other) (above es key)
    in_middle = find_later (is_key other) middle (above es key) (without.lacks other apart)

    low : is_below other key ≡ true → (o : Option Entry) → find (is_key other) es ≡ o → find (is_key other) (below es key ++ (middle ++ above es key)) ≡ o
    low lt (Some x) found = find_here (is_key other) (below es key) (middle ++ above es key) x (below_kept es key other lt ∙ found)
    low lt None found = find_later (is_key other) (below es key) (middle ++ above es key) (below_kept es key other lt ∙ found) ∙ in_middle ∙ above_out es key other (not_below_back other key lt)

    by_order : Order other key → find (is_key other) (below es key ++ (middle ++ above es key)) ≡ find (is_key other) es
    by_order (lower lt) = low lt (find (is_key other) es) refl
    by_order (same is) = absurd (no_true (sym apart ∙ is))
    by_order (higher gt) = find_later (is_key other) (below es key) (middle ++ above es key) (below_out es key other (not_below_back key other gt)) ∙ in_middle ∙ above_kept es key other gt

pub put_value : (page : Contents) (key value other : List ℕ) → value_of (with_value page key value).entries other ≡ (if bytes_eq other key then Some value else value_of page.entries other)
put_value page key value other = by_test (bytes_eq other key) refl
  where
    entry : Entry
    entry = record { key = key; value = value }

    by_test : (b : Bool) → bytes_eq other key ≡ b → value_of (with_value page key value).entries other ≡ (if b then Some value else value_of page.entries other)
    by_test true is =
        let other_is : other ≡ key = (bytes_eq-Decides other key).0 is in
        let found : find (is_key key) (below page.entries key ++ (record { key = key; value = value } ∷ above page.entries key)) ≡ Some (record { key = key; value = value }) =
        find_later (is_key key) (below page.entries key) (record { key = key; value = value } ∷ above page.entries key) (below_out page.entries key key (not_below_itself key)) ∙ rw (same_itself key) refl in
        rw other_is (ap (option_map (λ (e : Entry). e.value)) found)
    by_test false apart = ap (option_map (λ (e : Entry). e.value)) (others_stay page.entries (record { key = key; value = value } ∷ []) key other (one_entry key value) apart)

pub taken_value : (page : Contents) (key other : List ℕ) → value_of (without_key page key).entries other ≡ (if bytes_eq other key then None else value_of page.entries other)
taken_value page key other = by_test (bytes_eq other key) refl
  where
    by_test : (b : Bool) → bytes_eq other key ≡ b → value_of (without_key page key).entries other ≡ (if b then None else value_of page.entries other)
    by_test true is =
        let other_is : other ≡ key = (bytes_eq-Decides other key).0 is in
        let found : find (is_key key) (below page.entries key ++ above page.entries key) ≡ None =
        find_later (is_key key) (below page.entries key) (above page.entries key) (below_out page.entries key key (not_below_itself key)) ∙ above_out page.entries key key (not_below_itself key) in
        rw other_is (ap (option_map (λ (e : Entry). e.value)) found)
    by_test false apart = ap (option_map (λ (e : Entry). e.value)) (others_stay page.entries [] key other (no_entry key) apart)

-- ---- halves

find_halves : (p : Entry → Bool) (es : List Entry) (n : ℕ) → find p es ≡ find p (take n es ++ drop n es)
find_halves p es n = ap (find p) (sym (take-append-drop n es))

first_value : (es : List Entry) (key : List ℕ) (n : ℕ) (d : Entry) → Rises es → n < length es → IsBelow key (get_or es n d).key
    → find (is_key key) (take n es) ≡ find (is_key key) es
first_value es key n d rises there lt = by_cases (find (is_key key) (take n es)) refl ∙ sym (find_halves (is_key key) es n)
  where
    at_middle : (x : Entry) → IsBelow key (get_or es n x).key
    at_middle x = rw (get_or_default es n x d there) lt

    above_key : (k : ℕ) (x : Entry) → n ≤ k → k < length es → IsBelow key (get_or es k x).key
    above_key k x le k_there =
        elim (cases_lt n k) [
          | inl more ↦ below_trans key (get_or es n x).key (get_or es k x).key (at_middle x) (rises n k x more k_there)
          | inr least ↦ (let is : k ≡ n = omega arith in rw is (at_middle x))
        ]

    none_behind : find (is_key key) (drop n es) ≡ None
    none_behind = find_none (is_key key) (drop n es) (All-drop_from (λ e. is_key key e ≡ false) es n (λ k x le k_there. not_same_above (get_or es k x).key key (above_key k x le k_there)))

    by_cases : (o : Option Entry) → find (is_key key) (take n es) ≡ o → find (is_key key) (take n es) ≡ find (is_key key) (take n es ++ drop n es)
    by_cases (Some x) found = found ∙ sym (find_here (is_key key) (take n es) (drop n es) x found)
    by_cases None found = found ∙ sym (find_later (is_key key) (take n es) (drop n es) found ∙ none_behind)

other_value : (es : List Entry) (key : List ℕ) (n : ℕ) (d : Entry) → Rises es → n < length es → is_below key (get_or es n d).key ≡ false
    → find (is_key key) (drop n es) ≡ find (is_key key) es
other_value es key n d rises there not_lt = sym (find_later (is_key key) (take n es) (drop n es) none_before) ∙ sym (find_halves (is_key key) es n)
  where
    not_key : (k : ℕ) (x : Entry) → k < n → is_key key (get_or es k x) ≡ false
    not_key k x less = by_test (is_key key (get_or es k x)) refl
      where
        by_test : (b : Bool) → is_key key (get_or es k x) ≡ b → is_key key (get_or es k x) ≡ false
        by_test true is =
            let key_is : (get_or es k x).key ≡ key = found_key key (get_or es k x) is in
            let lt : IsBelow key (get_or es n x).key = rw key_is at (rises k n x less there) in
            let same : get_or es n x ≡ get_or es n d = get_or_default es n x d there in
            absurd (no_true (sym not_lt ∙ ap (λ (e : Entry). is_below key e.key) (sym same) ∙ lt))
        by_test false is = is

    none_before : find (is_key key) (take n es) ≡ None
    none_before = find_none (is_key key) (take n es) (All-take_below (λ e. is_key key e ≡ false) es n (omega arith) (λ k x less. not_key k x less))

-- the entry in the middle, where the first half's high key is from
middle_entry : (es : List Entry) (n : ℕ) (middle : List ℕ) → option_map (λ (e : Entry). e.key) (slice_get es n) ≡ Some middle → (d : Entry) × (n < length es) × ((get_or es n d).key ≡ middle)
middle_entry [] n middle is = absurd cc
middle_entry (e ∷ es) zero middle is = (e, omega arith, cc)
middle_entry (e ∷ es) (suc n) middle is = let found = middle_entry es n middle is in (found.0, (let less = found.1 in omega arith), found.2)

pub first_half_value : (page : Contents) (right : ℕ) (key middle : List ℕ) → Rises page.entries → (first_half page right).high ≡ Some middle → IsBelow key middle
    → value_of (first_half page right).entries key ≡ value_of page.entries key
first_half_value page right key middle rises high lt =
    let found = middle_entry page.entries (half page) middle high in
    ap (option_map (λ (e : Entry). e.value)) (first_value page.entries key (half page) found.0 rises found.1 (rw (found.2) lt))

pub other_half_value : (page : Contents) (right : ℕ) (key middle : List ℕ) → Rises page.entries → (first_half page right).high ≡ Some middle → is_below key middle ≡ false
    → value_of (other_half page).entries key ≡ value_of page.entries key
other_half_value page right key middle rises high not_lt =
    let found = middle_entry page.entries (half page) middle high in
    ap (option_map (λ (e : Entry). e.value)) (other_value page.entries key (half page) found.0 rises found.1 (rw (found.2) not_lt))
