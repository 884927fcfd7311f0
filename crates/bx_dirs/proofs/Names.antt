-- The entry with a name, among entries of which no two have one name.
use Rattle.std.proofs.Common.{◌≡◌, ℕ, zero, suc, ◌^◌, ◌<◌, ◌⊎◌, inl, inr, arith, Bool, true, false, List, [], ◌∷◌, take, drop, cond, refl, sym, ap, ◌∙◌, subst, Some, None}
use Rattle.std.specs.Prelude.{◌≢◌, Contains, bytes_eq}
use Rattle.std.specs.Int.{w32, w64, from_be_bytes}
use Rattle.std.specs.List.{find}
use Rattle.std.proofs.lemmas.Nat.{from_be_bytes-to_be_bytes_4, from_be_bytes-to_be_bytes_8}
use Rattle.std.proofs.lemmas.Slice.Eq.{bytes_eq-Decides}
use Rattle.bx_page.specs.declared.entry.Entry.{Entry}
use Rattle.bx_page.specs.Contents.{value_of}
use Rattle.bx_tree_files.specs.declared.file.Name.{Name}
use Rattle.bx_tree_files.specs.Entries.{entry_named}
use Rattle.bx_truth.specs.Keys.{name_key, name_value}
use Rattle.bx_truth.specs.Stored.{AreNames}
use Rattle.bx_truth.proofs.Adding.{name_found, name_absent}

pub some_same : {X : Type 0} (x y : X) → Some x ≡ Some y → x ≡ y
some_same x y e = cc

-- ---- members

pub head_in : {X : Type 0} (x : X) (xs : List X) → Contains (x ∷ xs) x
head_in x xs = (0, omega arith, refl)

pub tail_in : {X : Type 0} (x y : X) (xs : List X) → Contains xs x → Contains (y ∷ xs) x
tail_in x y xs within = (suc within.0, omega (arith, within.1), within.2)

pub in_or : {X : Type 0} (x y : X) (xs : List X) → Contains (y ∷ xs) x → (y ≡ x) ⊎ Contains xs x
in_or x y xs (zero, less, is) = inl is
in_or x y xs (suc k, less, is) = inr (k, omega (arith, less), is)

-- ---- the value of a name's key

pub one_number : (n m h k : ℕ) → n < 2 ^ 32 → m < 2 ^ 32 → name_value n h ≡ name_value m k → n ≡ m
one_number n m h k fits_n fits_m same = sym (from_be_bytes-to_be_bytes_4 n fits_n) ∙ ap (λ (l : List ℕ). from_be_bytes w32 (take 4 l)) same ∙ from_be_bytes-to_be_bytes_4 m fits_m

pub one_handle : (n m h k : ℕ) → h < 2 ^ 64 → k < 2 ^ 64 → name_value n h ≡ name_value m k → h ≡ k
one_handle n m h k fits_h fits_k same = sym (from_be_bytes-to_be_bytes_8 h fits_h) ∙ ap (λ (l : List ℕ). from_be_bytes w64 (drop 4 l)) same ∙ from_be_bytes-to_be_bytes_8 k fits_k

-- ---- look-ups by name

module _ (map : List Entry) (names : List Name) (are : AreNames map names) where
  pub one_name : (x y : Name) → Contains names x → Contains names y → x.name ≡ y.name → x ≡ y
  one_name x y in_x in_y same =
      let values : name_value x.number x.handle ≡ name_value y.number y.handle =
      some_same (name_value x.number x.handle) (name_value y.number y.handle) (sym (are.named x in_x) ∙ ap (λ (t : List ℕ). value_of map (name_key t)) same ∙ are.named y in_y) in
      let number = one_number x.number y.number x.handle y.handle (are.number_fits x in_x) (are.number_fits y in_y) values in
      let handle = one_handle x.number y.number x.handle y.handle (are.handle_fits x in_x) (are.handle_fits y in_y) values in
      λ i. record { number = number i; name = same i; handle = handle i }

-- the one of a list that has a name
pub named_in : (names : List Name) (n : Name) → Contains names n → ((x : Name) → Contains names x → x.name ≡ n.name → x ≡ n) → entry_named names n.name ≡ Some n
named_in [] n within one = absurd (omega (arith, within.1))
named_in (x ∷ xs) n within one = by (bytes_eq x.name n.name) refl (λ w. named_in xs n w (λ y there. one y (tail_in y x xs there)))
  where
    by : (t : Bool) → bytes_eq x.name n.name ≡ t → (Contains xs n → entry_named xs n.name ≡ Some n) → entry_named (x ∷ xs) n.name ≡ Some n
    by true same rest =
        ap (λ (t : Bool). cond t (Some x) (find (λ (e : Name). bytes_eq e.name n.name) xs)) same ∙ ap Some (one x (head_in x xs) ((bytes_eq-Decides x.name n.name).0 same))
    by false other rest = cases (in_or n x xs within)
      where
        cases : (x ≡ n) ⊎ Contains xs n → entry_named (x ∷ xs) n.name ≡ Some n
        cases (inl is) = let yes = (bytes_eq-Decides x.name n.name).1 (ap (λ (e : Name). e.name) is) in absurd cc
        cases (inr later) = ap (λ (t : Bool). cond t (Some x) (find (λ (e : Name). bytes_eq e.name n.name) xs)) other ∙ rest later

-- none has it
pub named_none : (names : List Name) (text : List ℕ) → ((x : Name) → Contains names x → x.name ≢ text) → entry_named names text ≡ None
named_none [] text never = refl
named_none (x ∷ xs) text never = by (bytes_eq x.name text) refl (named_none xs text (λ y there. never y (tail_in y x xs there)))
  where
    by : (t : Bool) → bytes_eq x.name text ≡ t → entry_named xs text ≡ None → entry_named (x ∷ xs) text ≡ None
    by true same rest = absurd (never x (head_in x xs) ((bytes_eq-Decides x.name text).0 same))
    by false other rest = ap (λ (t : Bool). cond t (Some x) (find (λ (e : Name). bytes_eq e.name text) xs)) other ∙ rest

-- and the other way round
pub contained : (names : List Name) (text : List ℕ) (n : Name) → entry_named names text ≡ Some n → Contains names n × (n.name ≡ text)
contained [] text n is = absurd cc
contained (x ∷ xs) text n is = by (bytes_eq x.name text) refl (contained xs text n)
  where
    by : (t : Bool) → bytes_eq x.name text ≡ t → (entry_named xs text ≡ Some n → Contains xs n × (n.name ≡ text)) → Contains (x ∷ xs) n × (n.name ≡ text)
    by true same rest =
        let e : x ≡ n = some_same x n (sym (ap (λ (t : Bool). cond t (Some x) (find (λ (e : Name). bytes_eq e.name text) xs)) same) ∙ is) in
        (subst (Contains (x ∷ xs)) e (head_in x xs), ap (λ (y : Name). y.name) (sym e) ∙ (bytes_eq-Decides x.name text).0 same)
    by false other rest =
        let r = rest (sym (ap (λ (t : Bool). cond t (Some x) (find (λ (e : Name). bytes_eq e.name text) xs)) other) ∙ is) in
        (tail_in n x xs r.0, r.1)

module _ (map : List Entry) (names : List Name) (text : List ℕ) (are : AreNames map names) where
  pub is_named : (number handle : ℕ) → number < 2 ^ 32 → handle < 2 ^ 64 → value_of map (name_key text) ≡ Some (name_value number handle)
      → entry_named names text ≡ Some (record { number = number; name = text; handle = handle })
  is_named number handle fits_n fits_h is = by (name_found map names text (name_value number handle) are is)
    where
      by : (n : Name) × Contains names n × (n.name ≡ text) × (name_value number handle ≡ name_value n.number n.handle) → entry_named names text ≡ Some (record { number = number; name = text; handle = handle })
      by (n, within, name, value) =
          let number_is = one_number number n.number handle n.handle fits_n (are.number_fits n within) value in
          let handle_is = one_handle number n.number handle n.handle fits_h (are.handle_fits n within) value in
          ap (entry_named names) (sym name)
          ∙ named_in names n within (λ x there same. one_name map names are x n there within same)
          ∙ (λ i. Some (record { number = sym number_is i; name = name i; handle = sym handle_is i }))

  pub is_unnamed : value_of map (name_key text) ≡ None → entry_named names text ≡ None
  is_unnamed none = named_none names text (name_absent map names text are none)

  -- what has the name is in the tree
  pub has_value : (n : Name) → entry_named names text ≡ Some n → value_of map (name_key text) ≡ Some (name_value n.number n.handle)
  has_value n is = let c = contained names text n is in ap (λ (t : List ℕ). value_of map (name_key t)) (sym c.1) ∙ are.named n c.0
