-- The entries of a directory, once one is added or taken.
use Rattle.std.proofs.Common.{◌≡◌, ℕ, ◌^◌, ◌<◌, ⊎_elim, inl, inr, arith, Bool, true, false, List, [], ◌∷◌, ◌++◌, take, drop, get_or, sym, ap, ◌∙◌, subst, refl, Some, None}
use Rattle.std.specs.Prelude.{◌≢◌, AllPairs, Contains, bytes_eq, if◌then◌else◌}
use Rattle.std.specs.Int.{w32, from_be_bytes}
use Rattle.std.proofs.lemmas.List.Elements.{Contains-append_left, Contains-get_or, Contains-push, Contains-push_cases}
use Rattle.std.proofs.lemmas.List.Quantifiers.{all_pairs_push}
use Rattle.std.proofs.lemmas.Nat.{from_be_bytes-to_be_bytes_4}
use Rattle.std.proofs.lemmas.Slice.Eq.{bytes_eq-Decides}
use Rattle.bx_model.specs.bx_tree_files.specs.declared.file.Name.{Name}
use Rattle.bx_page.specs.declared.entry.Entry.{Entry}
use Rattle.bx_page.specs.Contents.{with_entry, Contents, value_of}
use Rattle.bx_page.proofs.Maps.{put_value, taken_value}
use Rattle.bx_truth.specs.Keys.{name_key, name_value, entry_key, entry_value}
use Rattle.bx_truth.specs.Stored.{AreNames, IsOfName}
use Rattle.bx_truth.specs.PageTrees.{map_without}

abbrev page_of : List Entry → Contents
page_of map = record { level = 0; right = 0; high = None; entries = map }

pub value_with : (map : List Entry) (key value other : List ℕ) → value_of (with_entry map key value) other ≡ (if bytes_eq other key then Some value else value_of map other)
value_with map key value other = put_value (page_of map) key value other

pub value_without : (map : List Entry) (key other : List ℕ) → value_of (map_without map key) other ≡ (if bytes_eq other key then None else value_of map other)
value_without map key other = taken_value (page_of map) key other

yes : (a b : List ℕ) → a ≡ b → bytes_eq a b ≡ true
yes a b same = (bytes_eq-Decides a b).1 same

no : (a b : List ℕ) → a ≢ b → bytes_eq a b ≡ false
no a b other = by (bytes_eq a b) refl
  where
    by : (t : Bool) → bytes_eq a b ≡ t → t ≡ false
    by true is = absurd (other ((bytes_eq-Decides a b).0 is))
    by false is = refl

one_number : (n m : ℕ) → n < 2 ^ 32 → m < 2 ^ 32 → entry_key n ≡ entry_key m → n ≡ m
one_number n m fits_n fits_m same = sym (from_be_bytes-to_be_bytes_4 n fits_n) ∙ ap (λ (l : List ℕ). from_be_bytes w32 (drop 1 l)) same ∙ from_be_bytes-to_be_bytes_4 m fits_m

other_kind : (n : ℕ) (text : List ℕ) → entry_key n ≢ name_key text
other_kind n text same = let first : 2 ≡ 1 = ap (λ (l : List ℕ). get_or l 0 0) same in omega (arith, first)

kind_other : (n : ℕ) (text : List ℕ) → name_key text ≢ entry_key n
kind_other n text same = other_kind n text (sym same)

some_same : {X : Type 0} (x y : X) → Some x ≡ Some y → x ≡ y
some_same x y e = cc

front_number : (n m h k : ℕ) → n < 2 ^ 32 → m < 2 ^ 32 → name_value n h ≡ name_value m k → n ≡ m
front_number n m h k fits_n fits_m same = sym (from_be_bytes-to_be_bytes_4 n fits_n) ∙ ap (λ (l : List ℕ). from_be_bytes w32 (take 4 l)) same ∙ from_be_bytes-to_be_bytes_4 m fits_m

one_text : (a b : List ℕ) → name_key a ≡ name_key b → a ≡ b
one_text a b same = ap (drop 1) same

-- ---- an entry is added

module _ (before after : List Entry) (names : List Name) (n : Name) (are : AreNames before names) (number_fits : n.number < 2 ^ 32) (handle_fits : n.handle < 2 ^ 64)
    (above : (x : Name) → Contains names x → x.number < n.number) (absent : value_of before (name_key n.name) ≡ None)
    (values : (key : List ℕ) → value_of after key ≡ (if bytes_eq key (entry_key n.number) then Some (entry_value n.handle n.name) else (if bytes_eq key (name_key n.name) then Some (name_value n.number n.handle) else value_of before key))) where
  at_number : value_of after (entry_key n.number) ≡ Some (entry_value n.handle n.name)
  at_number = values (entry_key n.number)
      ∙ ap (λ (t : Bool). if t then Some (entry_value n.handle n.name) else (if bytes_eq (entry_key n.number) (name_key n.name) then Some (name_value n.number n.handle) else value_of before (entry_key n.number)))
      (yes (entry_key n.number) (entry_key n.number) refl)

  at_name : value_of after (name_key n.name) ≡ Some (name_value n.number n.handle)
  at_name = values (name_key n.name)
      ∙ ap (λ (t : Bool). if t then Some (entry_value n.handle n.name) else (if bytes_eq (name_key n.name) (name_key n.name) then Some (name_value n.number n.handle) else value_of before (name_key n.name)))
      (no (name_key n.name) (entry_key n.number) (kind_other n.number n.name))
      ∙ ap (λ (t : Bool). if t then Some (name_value n.number n.handle) else value_of before (name_key n.name)) (yes (name_key n.name) (name_key n.name) refl)

  elsewhere : (key : List ℕ) → key ≢ entry_key n.number → key ≢ name_key n.name → value_of after key ≡ value_of before key
  elsewhere key number name = values key
      ∙ ap (λ (t : Bool). if t then Some (entry_value n.handle n.name) else (if bytes_eq key (name_key n.name) then Some (name_value n.number n.handle) else value_of before key)) (no key (entry_key n.number) number)
      ∙ ap (λ (t : Bool). if t then Some (name_value n.number n.handle) else value_of before key) (no key (name_key n.name) name)

  old_number : (x : Name) → Contains names x → value_of after (entry_key x.number) ≡ Some (entry_value x.handle x.name)
  old_number x within = elsewhere (entry_key x.number)
      (λ same. let less = above x within in let e = one_number x.number n.number (are.number_fits x within) number_fits same in omega (arith, less, e))
      (other_kind x.number n.name) ∙ are.numbered x within

  old_name : (x : Name) → Contains names x → value_of after (name_key x.name) ≡ Some (name_value x.number x.handle)
  old_name x within = elsewhere (name_key x.name) (kind_other n.number x.name)
      (λ same. let there : None ≡ Some (name_value x.number x.handle) = sym absent ∙ ap (value_of before) (sym same) ∙ are.named x within in absurd cc) ∙ are.named x within

  only_now : (key value : List ℕ) → value_of after key ≡ Some value → (x : Name) × Contains (names ++ n ∷ []) x × IsOfName x key value
  only_now key value is = by (bytes_eq key (entry_key n.number)) (bytes_eq key (name_key n.name)) refl refl
    where
      by : (t u : Bool) → bytes_eq key (entry_key n.number) ≡ t → bytes_eq key (name_key n.name) ≡ u → (x : Name) × Contains (names ++ n ∷ []) x × IsOfName x key value
      by true u is_t is_u =
          let same : key ≡ entry_key n.number = (bytes_eq-Decides key (entry_key n.number)).0 is_t in
          let e : Some (entry_value n.handle n.name) ≡ Some value = sym at_number ∙ ap (value_of after) (sym same) ∙ is in
          (n, Contains-push names n, inl (same, sym (some_same (entry_value n.handle n.name) value e)))
      by false true is_t is_u =
          let same : key ≡ name_key n.name = (bytes_eq-Decides key (name_key n.name)).0 is_u in
          let e : Some (name_value n.number n.handle) ≡ Some value = sym at_name ∙ ap (value_of after) (sym same) ∙ is in
          (n, Contains-push names n, inr (same, sym (some_same (name_value n.number n.handle) value e)))
      by false false is_t is_u =
          let old : value_of before key ≡ Some value = sym (elsewhere key
          (λ same. let e = yes key (entry_key n.number) same in absurd cc) (λ same. let e = yes key (name_key n.name) same in absurd cc)) ∙ is in
          let o = are.only key value old in
          (o.0, Contains-append_left names (n ∷ []) o.0 o.1, o.2)

  each : (P : Name → Type 0) → ((x : Name) → Contains names x → P x) → P n → (x : Name) → Contains (names ++ n ∷ []) x → P x
  each P old new x within = ⊎_elim (old x) (λ same. subst P same new) (Contains-push_cases names n x within)

  pub names_added : AreNames after (names ++ n ∷ [])
  names_added = record {
    numbered = each (λ x. value_of after (entry_key x.number) ≡ Some (entry_value x.handle x.name)) old_number at_number;
    named = each (λ x. value_of after (name_key x.name) ≡ Some (name_value x.number x.handle)) old_name at_name;
    only = only_now;
    number_fits = each (λ x. x.number < 2 ^ 32) are.number_fits number_fits;
    handle_fits = each (λ x. x.handle < 2 ^ 64) are.handle_fits handle_fits;
    in_order = all_pairs_push (λ (a b : Name). a.number < b.number) names n are.in_order (λ k d less. above (get_or names k d) (Contains-get_or names k d less));
  }

-- ---- an entry is taken

module _ (before after : List Entry) (names left : List Name) (n : Name) (are : AreNames before names) (within : Contains names n)
    (left_are : (x : Name) → Contains left x → Contains names x × (x.number ≢ n.number)) (left_all : (x : Name) → Contains names x → x.number ≢ n.number → Contains left x)
    (left_rise : AllPairs (λ a b. a.number < b.number) left)
    (values : (key : List ℕ) → value_of after key ≡ (if bytes_eq key (entry_key n.number) then None else (if bytes_eq key (name_key n.name) then None else value_of before key))) where
  stays : (key : List ℕ) → key ≢ entry_key n.number → key ≢ name_key n.name → value_of after key ≡ value_of before key
  stays key number name = values key
      ∙ ap (λ (t : Bool). if t then None else (if bytes_eq key (name_key n.name) then None else value_of before key)) (no key (entry_key n.number) number)
      ∙ ap (λ (t : Bool). if t then None else value_of before key) (no key (name_key n.name) name)

  -- another entry has another name
  other_name : (x : Name) → Contains names x → x.number ≢ n.number → x.name ≢ n.name
  other_name x there other same =
      let e : Some (name_value x.number x.handle) ≡ Some (name_value n.number n.handle) = sym (are.named x there) ∙ ap (λ (t : List ℕ). value_of before (name_key t)) same ∙ are.named n within in
      other (front_number x.number n.number x.handle n.handle (are.number_fits x there) (are.number_fits n within) (some_same (name_value x.number x.handle) (name_value n.number n.handle) e))

  only_left : (key value : List ℕ) → value_of after key ≡ Some value → (x : Name) × Contains left x × IsOfName x key value
  only_left key value is = by (bytes_eq key (entry_key n.number)) (bytes_eq key (name_key n.name)) refl refl
    where
      gone : (t u : Bool) → bytes_eq key (entry_key n.number) ≡ t → bytes_eq key (name_key n.name) ≡ u → (if t then None else (if u then None else value_of before key)) ≡ Some value
      gone t u is_t is_u = (λ i. if (sym is_t i) then None else (if (sym is_u i) then None else value_of before key)) ∙ sym (values key) ∙ is

      of_left : (x : Name) → Contains names x → IsOfName x key value → x.number ≢ n.number → (y : Name) × Contains left y × IsOfName y key value
      of_left x there has other = (x, left_all x there other, has)

      by : (t u : Bool) → bytes_eq key (entry_key n.number) ≡ t → bytes_eq key (name_key n.name) ≡ u → (x : Name) × Contains left x × IsOfName x key value
      by true u is_t is_u = let e = gone true u is_t is_u in absurd cc
      by false true is_t is_u = let e = gone false true is_t is_u in absurd cc
      by false false is_t is_u =
          let o = are.only key value (gone false false is_t is_u) in
          of_left o.0 o.1 o.2 (λ same. not_it o.0 o.1 same o.2)
        where
          -- an entry with this number is the one that is taken
          not_it : (x : Name) → Contains names x → x.number ≡ n.number → IsOfName x key value → ⊥
          not_it x there same (inl (k, v)) = let e = yes key (entry_key n.number) (k ∙ ap entry_key same) in absurd cc
          not_it x there same (inr (k, v)) =
              let f : Some (entry_value x.handle x.name) ≡ Some (entry_value n.handle n.name) = sym (are.numbered x there) ∙ ap (λ (m : ℕ). value_of before (entry_key m)) same ∙ are.numbered n within in
              let g : x.name ≡ n.name = ap (drop 8) (some_same (entry_value x.handle x.name) (entry_value n.handle n.name) f) in
              let e = yes key (name_key n.name) (k ∙ ap name_key g) in absurd cc

  pub names_taken : AreNames after left
  names_taken = record {
    numbered = λ x there. let l = left_are x there in stays (entry_key x.number) (λ same. l.1 (one_number x.number n.number (are.number_fits x l.0) (are.number_fits n within) same)) (other_kind x.number n.name) ∙ are.numbered x l.0;
    named = λ x there. let l = left_are x there in stays (name_key x.name) (kind_other n.number x.name) (λ same. other_name x l.0 l.1 (one_text x.name n.name same)) ∙ are.named x l.0;
    only = only_left;
    number_fits = λ x there. are.number_fits x (left_are x there).0;
    handle_fits = λ x there. are.handle_fits x (left_are x there).0;
    in_order = left_rise;
  }
