-- The entries of a tree are those of names exactly where each has its other one.
use Rattle.std.proofs.Common.{◌≡◌, ℕ, zero, suc, ◌<◌, ◌⊎◌, inl, inr, arith, Bool, true, false, List, [], ◌∷◌, ◌++◌, length, take, drop, get_or, cond, refl, sym, ap, ◌∙◌, subst, Some}
use Rattle.std.specs.Prelude.{All, Contains, bytes_eq, ◌==◌, if◌then◌else◌}
use Rattle.std.specs.Int.{w32, w64, from_be_bytes}
use Rattle.std.specs.List.{find}
use Rattle.std.specs.Option.{option_map}
use Rattle.std.proofs.lemmas.Bool.Decides.{nat_tests}
use Rattle.std.proofs.lemmas.Nat.{from_be_bytes-to_be_bytes_4, from_be_bytes-to_be_bytes_8}
use Rattle.std.proofs.lemmas.Slice.Eq.{bytes_eq-Decides}
use Rattle.bx_page.specs.declared.entry.Entry.{Entry}
use Rattle.bx_page.specs.Contents.{Rises, value_of}
use Rattle.bx_page.proofs.Order.{not_same_below, same_itself}
use Rattle.bx_tree_files.specs.declared.file.Name.{Name}
use Rattle.bx_audit_files.specs.Names.{Fits, IsByNumber, name_of, names_in}

some_same : {X : Type 0} (x y : X) → Some x ≡ Some y → x ≡ y
some_same x y e = cc

-- ---- members

pub head_in : {X : Type 0} (x : X) (xs : List X) → Contains (x ∷ xs) x
head_in x xs = (0, omega arith, refl)

pub tail_in : {X : Type 0} (x y : X) (xs : List X) → Contains xs x → Contains (y ∷ xs) x
tail_in x y xs within = (suc within.0, omega (arith, within.1), within.2)

in_or : {X : Type 0} (x y : X) (xs : List X) → Contains (y ∷ xs) x → (y ≡ x) ⊎ Contains xs x
in_or x y xs (zero, less, is) = inl is
in_or x y xs (suc k, less, is) = inr (k, omega (arith, less), is)

pub of_all : {X : Type 0} (P : X → Type 0) (xs : List X) (x : X) → All P xs → Contains xs x → P x
of_all P xs x all within = subst P within.2 (all within.0 x within.1)

-- ---- values of keys

-- an entry's value is its key's
pub value_at : (entries : List Entry) → Rises entries → (k : ℕ) (d : Entry) → k < length entries → value_of entries (get_or entries k d).key ≡ Some (get_or entries k d).value
value_at [] rises k d less = absurd (omega (arith, less))
value_at (x ∷ xs) rises zero d less = ap (λ (t : Bool). option_map (λ (e : Entry). e.value) (cond t (Some x) (find (λ e. bytes_eq e.key x.key) xs))) (same_itself x.key)
value_at (x ∷ xs) rises (suc k) d less =
    let key = (get_or xs k d).key in
    ap (λ (t : Bool). option_map (λ (e : Entry). e.value) (cond t (Some x) (find (λ e. bytes_eq e.key key) xs))) (not_same_below x.key key (rises 0 (suc k) d (omega arith) less))
    ∙ value_at xs (λ i j d less within. rises (suc i) (suc j) d (omega (arith, less)) (omega (arith, within))) k d (omega (arith, less))

pub value_in : (entries : List Entry) (e : Entry) → Rises entries → Contains entries e → value_of entries e.key ≡ Some e.value
value_in entries e rises within =
    subst (λ (x : Entry). value_of entries x.key ≡ Some x.value) within.2 (value_at entries rises within.0 e within.1)

-- a key with a value is an entry's
pub entry_in : (entries : List Entry) (key value : List ℕ) → value_of entries key ≡ Some value → (e : Entry) × Contains entries e × (e.key ≡ key) × (e.value ≡ value)
entry_in [] key value is = absurd cc
entry_in (x ∷ xs) key value is = by (λ e. entry_in xs key value e) (bytes_eq x.key key) refl
  where
    by : (value_of xs key ≡ Some value → (e : Entry) × Contains xs e × (e.key ≡ key) × (e.value ≡ value)) → (t : Bool) → bytes_eq x.key key ≡ t → (e : Entry) × Contains (x ∷ xs) e × (e.key ≡ key) × (e.value ≡ value)
    by rest true same =
        let e : Some x.value ≡ Some value = sym (ap (λ (t : Bool). option_map (λ (e : Entry). e.value) (cond t (Some x) (find (λ e. bytes_eq e.key key) xs))) same) ∙ is in
        (x, head_in x xs, (bytes_eq-Decides x.key key).0 same, some_same x.value value e)
    by rest false other =
        let e : value_of xs key ≡ Some value = sym (ap (λ (t : Bool). option_map (λ (e : Entry). e.value) (cond t (Some x) (find (λ e. bytes_eq e.key key) xs))) other) ∙ is in
        let r = rest e in (r.0, tail_in r.0 x xs r.1, r.2, r.3)

-- ---- the names that entries by number tell

-- what an entry by number tells is its name
pub tells : (name : Name) (entry : Entry) → Fits name → IsByNumber name entry → name_of entry ≡ name
tells name entry fits is =
    let number : from_be_bytes w32 (drop 1 entry.key) ≡ name.number = ap (λ (l : List ℕ). from_be_bytes w32 (drop 1 l)) is.key ∙ from_be_bytes-to_be_bytes_4 name.number fits.number in
    let handle : from_be_bytes w64 (take 8 entry.value) ≡ name.handle = ap (λ (l : List ℕ). from_be_bytes w64 (take 8 l)) is.value ∙ from_be_bytes-to_be_bytes_8 name.handle fits.handle in
    let text : drop 8 entry.value ≡ name.name = ap (drop 8) is.value in
    λ i. record { number = number i; name = text i; handle = handle i }

pub first_is : (name : Name) (entry : Entry) → IsByNumber name entry → get_or entry.key 0 0 ≡ 2
first_is name entry is = ap (λ (l : List ℕ). get_or l 0 0) is.key

pub name_from : (entries : List Entry) (n : Name) → Contains (names_in entries) n → (e : Entry) × Contains entries e × (get_or e.key 0 0 ≡ 2) × (name_of e ≡ n)
name_from [] n within = absurd (omega (arith, within.1))
name_from (x ∷ xs) n within = by (λ w. name_from xs n w) (get_or x.key 0 0 == 2) refl
  where
    equal : (a b : ℕ) → (a == b) ≡ true → a ≡ b
    equal a b test = grind (arith, nat_tests, test)

    by : (Contains (names_in xs) n → (e : Entry) × Contains xs e × (get_or e.key 0 0 ≡ 2) × (name_of e ≡ n)) → (t : Bool) → (get_or x.key 0 0 == 2) ≡ t
        → (e : Entry) × Contains (x ∷ xs) e × (get_or e.key 0 0 ≡ 2) × (name_of e ≡ n)
    by rest true is = cases (in_or n (name_of x) (names_in xs) (subst (λ (l : List Name). Contains l n) (ap (λ (t : Bool). if t then name_of x ∷ names_in xs else names_in xs) is) within))
      where
        cases : (name_of x ≡ n) ⊎ Contains (names_in xs) n → (e : Entry) × Contains (x ∷ xs) e × (get_or e.key 0 0 ≡ 2) × (name_of e ≡ n)
        cases (inl same) = (x, head_in x xs, equal (get_or x.key 0 0) 2 is, same)
        cases (inr later) = let r = rest later in (r.0, tail_in r.0 x xs r.1, r.2, r.3)
    by rest false is =
        let r = rest (subst (λ (l : List Name). Contains l n) (ap (λ (t : Bool). if t then name_of x ∷ names_in xs else names_in xs) is) within) in
        (r.0, tail_in r.0 x xs r.1, r.2, r.3)

pub name_there : (entries : List Entry) (e : Entry) → Contains entries e → get_or e.key 0 0 ≡ 2 → Contains (names_in entries) (name_of e)
name_there [] e within two = absurd (omega (arith, within.1))
name_there (x ∷ xs) e within two = by (λ w. name_there xs e w two) (in_or e x xs within) (get_or x.key 0 0 == 2) refl
  where
    tested : (a : ℕ) → a ≡ 2 → (a == 2) ≡ true
    tested a same = grind (arith, nat_tests, same)

    by : (Contains xs e → Contains (names_in xs) (name_of e)) → (x ≡ e) ⊎ Contains xs e → (t : Bool) → (get_or x.key 0 0 == 2) ≡ t → Contains (names_in (x ∷ xs)) (name_of e)
    by rest (inl same) true is =
        subst (λ (l : List Name). Contains l (name_of e)) (sym (ap (λ (t : Bool). if t then name_of x ∷ names_in xs else names_in xs) is))
        (subst (λ (n : Name). Contains (n ∷ names_in xs) (name_of e)) (sym (ap name_of same)) (head_in (name_of e) (names_in xs)))
    by rest (inl same) false is =
        let e2 : (get_or x.key 0 0 == 2) ≡ true = tested (get_or x.key 0 0) (ap (λ (y : Entry). get_or y.key 0 0) same ∙ two) in
        let wrong : true ≡ false = sym e2 ∙ is in absurd cc
    by rest (inr later) true is =
        subst (λ (l : List Name). Contains l (name_of e)) (sym (ap (λ (t : Bool). if t then name_of x ∷ names_in xs else names_in xs) is)) (tail_in (name_of e) (name_of x) (names_in xs) (rest later))
    by rest (inr later) false is =
        subst (λ (l : List Name). Contains l (name_of e)) (sym (ap (λ (t : Bool). if t then name_of x ∷ names_in xs else names_in xs) is)) (rest later)

pub names_of_both : (xs ys : List Entry) → names_in (xs ++ ys) ≡ names_in xs ++ names_in ys
names_of_both [] ys = refl
names_of_both (x ∷ xs) ys = by (names_of_both xs ys) (get_or x.key 0 0 == 2)
  where
    by : names_in (xs ++ ys) ≡ names_in xs ++ names_in ys → (t : Bool) → (if t then name_of x ∷ names_in (xs ++ ys) else names_in (xs ++ ys)) ≡ (if t then name_of x ∷ names_in xs else names_in xs) ++ names_in ys
    by rest true = λ i. name_of x ∷ rest i
    by rest false = rest
