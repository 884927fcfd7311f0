-- Entries of a directory: the one with a name, and those that are left without it.
use Rattle.std.proofs.Common.{◌≡◌, ℕ, suc, ◌+◌, arith, Bool, true, false, cond, List, [], ◌∷◌, Some, None, refl, sym, ap, ◌∙◌, subst, inl, inr}
use Rattle.std.specs.Prelude.{◌≢◌, ◌⊎◌, not, bytes_eq, AllPairs, Contains, All, filter, count_by}
use Rattle.std.proofs.lemmas.List.Sums.{sum_by-cons}
use Rattle.std.proofs.lemmas.Slice.Eq.{bytes_eq-Decides}
use Rattle.bx_model.specs.bx_tree_files.specs.declared.file.Name.{Name}
use Rattle.bx_tree_laws.proofs.Lookups.{some_same}
use Rattle.bx_tree_laws.proofs.Counts.{contains_first, contains_later, contained_cases, none_contained}
use Rattle.bx_model.specs.bx_tree_files.specs.Entries.{entry_named}

abbrev pub has_name : List ℕ → Name → Bool
has_name name entry = bytes_eq entry.name name

abbrev pub others : List ℕ → List Name → List Name
others name names = filter (λ entry. not (bytes_eq entry.name name)) names

abbrev pub Apart : List Name → Type 0
Apart names = AllPairs (λ entry later. entry.name ≢ later.name) names

same_name : (entry : Name) (name : List ℕ) → has_name name entry ≡ true → entry.name ≡ name
same_name entry name e = (bytes_eq-Decides entry.name name).0 e

-- the entry that is found is there and has the name
pub entry_found : (names : List Name) (name : List ℕ) (entry : Name) → entry_named names name ≡ Some entry → Contains names entry × (entry.name ≡ name)
entry_found [] name entry e = absurd cc
entry_found (x ∷ names) name entry e = by (has_name name x) refl (entry_found names name entry)
  where
    by : (b : Bool) → has_name name x ≡ b → (entry_named names name ≡ Some entry → Contains names entry × (entry.name ≡ name)) → Contains (x ∷ names) entry × (entry.name ≡ name)
    by true t later =
        let x_is : x ≡ entry = some_same x entry (rw t at e) in
        (subst (Contains (x ∷ names)) x_is (contains_first x names), ap (λ (y : Name). y.name) (sym x_is) ∙ same_name x name t)
    by false t later = let more = later (rw t at e) in (contains_later x entry names more.0, more.1)

-- where none is found, no entry has the name
pub none_found : (names : List Name) (name : List ℕ) (entry : Name) → entry_named names name ≡ None → Contains names entry → entry.name ≢ name
none_found [] name entry e there same = none_contained entry there
none_found (x ∷ names) name entry e there same = by (has_name name x) refl (contained_cases x entry names there) (none_found names name entry)
  where
    by : (b : Bool) → has_name name x ≡ b → (x ≡ entry) ⊎ Contains names entry → (entry_named names name ≡ None → Contains names entry → entry.name ≢ name) → ⊥
    by true t which later = let some : Some x ≡ None = rw t at e in absurd cc
    by false t (inl is) later =
        let yes = (bytes_eq-Decides x.name name).1 (ap (λ (y : Name). y.name) is ∙ same) in
        let no : true ≡ false = sym yes ∙ t in absurd cc
    by false t (inr more) later = later (rw t at e) more same

-- the other entries are among all, and have other names
pub other_contained : (names : List Name) (name : List ℕ) (entry : Name) → Contains (others name names) entry → Contains names entry
other_contained [] name entry there = there
other_contained (x ∷ names) name entry there = by (has_name name x) refl (other_contained names name entry) there
  where
    by : (b : Bool) → has_name name x ≡ b → (Contains (others name names) entry → Contains names entry) → Contains (others name (x ∷ names)) entry → Contains (x ∷ names) entry
    by true t later there = contains_later x entry names (later (rw t at there))
    by false t later there = elim (contained_cases x entry (others name names) (rw t at there)) [
      | inl is ↦ subst (Contains (x ∷ names)) is (contains_first x names)
      | inr more ↦ contains_later x entry names (later more)
    ]

pub other_none : (names : List Name) (name : List ℕ) → entry_named (others name names) name ≡ None
other_none [] name = refl
other_none (x ∷ names) name = by (has_name name x) refl (other_none names name)
  where
    by : (b : Bool) → has_name name x ≡ b → entry_named (others name names) name ≡ None → entry_named (others name (x ∷ names)) name ≡ None
    by true t later = rw t later
    by false t later = rw (t, t) later

-- an entry of another name stays
pub other_found : (names : List Name) (name other : List ℕ) → other ≢ name → entry_named (others name names) other ≡ entry_named names other
other_found [] name other apart = refl
other_found (x ∷ names) name other apart = by (has_name name x) refl (has_name other x) refl (other_found names name other apart)
  where
    by : (b : Bool) → has_name name x ≡ b → (c : Bool) → has_name other x ≡ c → entry_named (others name names) other ≡ entry_named names other
        → entry_named (others name (x ∷ names)) other ≡ entry_named (x ∷ names) other
    by true t true u later = absurd (apart (sym (same_name x other u) ∙ same_name x name t))
    by true t false u later = rw (t, u) later
    by false t true u later = rw (t, u) refl
    by false t false u later = rw (t, u) later

-- a name that isn't there isn't among those that are left
pub other_absent : (names : List Name) (name other : List ℕ) → entry_named names other ≡ None → entry_named (others name names) other ≡ None
other_absent [] name other none = refl
other_absent (x ∷ names) name other none = by (has_name name x) refl (has_name other x) refl (other_absent names name other)
  where
    by : (b : Bool) → has_name name x ≡ b → (c : Bool) → has_name other x ≡ c → (entry_named names other ≡ None → entry_named (others name names) other ≡ None)
        → entry_named (others name (x ∷ names)) other ≡ None
    by b t true u later = let some : Some x ≡ None = rw u at none in absurd cc
    by true t false u later = rw t (later (rw u at none))
    by false t false u later = rw (t, u) (later (rw u at none))

-- no entry has the name: all are left
none_left_out : (names : List Name) (name : List ℕ) → All (λ (e : Name). e.name ≢ name) names → others name names ≡ names
none_left_out [] name apart = refl
none_left_out (x ∷ names) name apart = by (has_name name x) refl (none_left_out names name (λ k d less. apart (suc k) d (omega (arith, less))))
  where
    by : (b : Bool) → has_name name x ≡ b → others name names ≡ names → others name (x ∷ names) ≡ x ∷ names
    by true t later = absurd (apart 0 x (omega arith) (same_name x name t))
    by false t later = rw t (ap (λ (l : List Name). x ∷ l) later)

-- what is counted without the entry of a name
pub count_others : (p : Name → Bool) (names : List Name) (name : List ℕ) (entry : Name) → Apart names → entry_named names name ≡ Some entry
    → count_by p (others name names) + cond (p entry) 1 0 ≡ count_by p names
count_others p [] name entry apart e = absurd cc
count_others p (x ∷ names) name entry apart e =
    by (has_name name x) refl (count_others p names name entry (λ i j d less within. apart (suc i) (suc j) d (omega (arith, less)) (omega (arith, within))))
  where
    by : (b : Bool) → has_name name x ≡ b → (entry_named names name ≡ Some entry → count_by p (others name names) + cond (p entry) 1 0 ≡ count_by p names)
        → count_by p (others name (x ∷ names)) + cond (p entry) 1 0 ≡ count_by p (x ∷ names)
    by true t later =
        let x_is : x ≡ entry = some_same x entry (rw t at e) in
        let left = none_left_out names name (λ k d less same. apart 0 (suc k) d (omega arith) (omega (arith, less)) (same_name x name t ∙ sym same)) in
        rw (t, left) (omega (arith, sum_by-cons (λ (y : Name). cond (p y) 1 0) x names, ap {B = ℕ} (λ (y : Name). cond (p y) 1 0) x_is))
    by false t later =
        rw t (omega (arith, sum_by-cons (λ (y : Name). cond (p y) 1 0) x (others name names), sum_by-cons (λ (y : Name). cond (p y) 1 0) x names, later (rw t at e)))
