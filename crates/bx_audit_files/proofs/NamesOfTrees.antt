-- A directory's entries are the names that its tree's entries by number tell.
use Rattle.std.proofs.Common.{◌≡◌, ℕ, suc, ◌+◌, ◌*◌, ◌/◌, ◌%◌, ◌^◌, ◌<◌, ◌⊎◌, inl, inr, arith, Bool, true, false, List, [], ◌∷◌, length, take, drop, get_or, Result, Ok, Err, cond, refl, sym, ap, ◌∙◌, subst, Option, Some, None}
use Rattle.std.proofs.Common.{Less, Equal, Greater}
use Rattle.std.specs.Prelude.{All, AllPairs, IfOk, IfSome, IfNone, Contains, ◌==◌, nat_lt, if◌then◌else◌}
use Rattle.std.specs.Int.{w32, w64, to_be_bytes, from_be_bytes}
use Rattle.std.specs.Ordering.{is_lt, nat_cmp, ordering_then}
use Rattle.std.specs.Cmp.Lexicographic.{slice_cmp}
use Rattle.std.proofs.lemmas.Bool.Decides.{nat_tests}
use Rattle.std.proofs.lemmas.List.Elements.{Contains-get_or}
use Rattle.std.proofs.lemmas.List.Kept.{AllPairs-cons}
use Rattle.std.proofs.lemmas.Nat.{from_be_bytes-to_be_bytes_4, from_be_bytes-to_be_bytes_8}
use Rattle.bx_page.specs.declared.entry.Entry.{Entry}
use Rattle.bx_page.specs.Keys.{IsBelow}
use Rattle.bx_page.specs.Contents.{Rises, value_of}
use Rattle.bx_tree_files.specs.declared.file.Name.{Name}
use Rattle.bx_truth.specs.Keys.{name_key, name_value, entry_key, entry_value}
use Rattle.bx_truth.specs.Stored.{AreNames, IsOfName}
use Rattle.bx_audit_files.specs.Names.{Fits, IsByNumber, IsByName, IsPaired, ByNumber, ByName, name_of, names_in}
use Rattle.bx_audit_files.proofs.PairedEntries.{of_all, value_at, value_in, entry_in, tells, first_is, name_from, name_there}

-- ---- numbers rise with their keys

one_step : (x y : ℕ) (xs ys : List ℕ) → IsBelow (x ∷ xs) (y ∷ ys) → (x < y) ⊎ ((x ≡ y) × IsBelow xs ys)
one_step x y xs ys below = by (nat_lt x y) (x == y) refl refl
  where
    tested : (t u : Bool) → nat_lt x y ≡ t → (x == y) ≡ u → is_lt (ordering_then (cond t Less (cond u Equal Greater)) (slice_cmp nat_cmp xs ys)) ≡ true
    tested t u is_t is_u = (λ i. is_lt (ordering_then (cond (sym is_t i) Less (cond (sym is_u i) Equal Greater)) (slice_cmp nat_cmp xs ys))) ∙ below

    by : (t u : Bool) → nat_lt x y ≡ t → (x == y) ≡ u → (x < y) ⊎ ((x ≡ y) × IsBelow xs ys)
    by true u is_t is_u = inl (grind (arith, nat_tests, is_t))
    by false true is_t is_u = inr (grind (arith, nat_tests, is_u), tested false true is_t is_u)
    by false false is_t is_u = let e = tested false false is_t is_u in absurd cc

four : (a b c d e f g h : ℕ) → b < 256 → c < 256 → d < 256 → IsBelow (a ∷ b ∷ c ∷ d ∷ []) (e ∷ f ∷ g ∷ h ∷ [])
    → a * 16777216 + b * 65536 + c * 256 + d < e * 16777216 + f * 65536 + g * 256 + h
four a b c d e f g h fb fc fd below = one (one_step a e (b ∷ c ∷ d ∷ []) (f ∷ g ∷ h ∷ []) below)
  where
    one : (a < e) ⊎ ((a ≡ e) × IsBelow (b ∷ c ∷ d ∷ []) (f ∷ g ∷ h ∷ [])) → a * 16777216 + b * 65536 + c * 256 + d < e * 16777216 + f * 65536 + g * 256 + h
    one (inl less) = omega (arith, less, fb, fc, fd)
    one (inr (same, rest)) = two same (one_step b f (c ∷ d ∷ []) (g ∷ h ∷ []) rest)
      where
        two : a ≡ e → (b < f) ⊎ ((b ≡ f) × IsBelow (c ∷ d ∷ []) (g ∷ h ∷ [])) → a * 16777216 + b * 65536 + c * 256 + d < e * 16777216 + f * 65536 + g * 256 + h
        two same (inl less) = omega (arith, same, less, fc, fd)
        two same (inr (next, rest)) = three same next (one_step c g (d ∷ []) (h ∷ []) rest)
          where
            three : a ≡ e → b ≡ f → (c < g) ⊎ ((c ≡ g) × IsBelow (d ∷ []) (h ∷ [])) → a * 16777216 + b * 65536 + c * 256 + d < e * 16777216 + f * 65536 + g * 256 + h
            three same next (inl less) = omega (arith, same, next, less, fd)
            three same next (inr (third, rest)) = last (one_step d h [] [] rest)
              where
                last : (d < h) ⊎ ((d ≡ h) × IsBelow [] []) → a * 16777216 + b * 65536 + c * 256 + d < e * 16777216 + f * 65536 + g * 256 + h
                last (inl less) = omega (arith, same, next, third, less)
                last (inr (_, none)) = absurd cc

numbers_rise : (n m : ℕ) → n < 2 ^ 32 → m < 2 ^ 32 → IsBelow (entry_key n) (entry_key m) → n < m
numbers_rise n m fits_n fits_m below = by (one_step 2 2 (to_be_bytes w32 n) (to_be_bytes w32 m) below)
  where
    by : (2 < 2) ⊎ ((◌≡◌ {A = ℕ} 2 2) × IsBelow (to_be_bytes w32 n) (to_be_bytes w32 m)) → n < m
    by (inl less) = absurd (omega (arith, less))
    by (inr (same, rest)) =
        let value = four (n / 16777216 % 256) (n / 65536 % 256) (n / 256 % 256) (n % 256) (m / 16777216 % 256) (m / 65536 % 256) (m / 256 % 256) (m % 256) (omega arith) (omega arith) (omega arith) rest in
        omega (arith, value, fits_n, fits_m)

-- ---- where each entry has its other one, the names are the directory's

module _ (entries : List Entry) (rises : Rises entries) where
  -- an entry by number that has its other one
  by_number : (e : Entry) → IsPaired entries e → get_or e.key 0 0 ≡ 2
      → (name : Name) × Fits name × IsByNumber name e × (value_of entries (name_key name.name) ≡ Some (name_value name.number name.handle)) × (name_of e ≡ name)
  by_number e (ByNumber name fits is other) two = (name, fits, is, other, tells name e fits is)
  by_number e (ByName name fits is other) two =
      let one : 1 ≡ 2 = sym (ap (λ (l : List ℕ). get_or l 0 0) is.key) ∙ two in absurd (omega (arith, one))

  names_rise : (rest : List Entry) → Rises rest → All (IsPaired entries) rest → AllPairs (λ (a b : Name). a.number < b.number) (names_in rest)
  names_rise [] up all = λ i j d less within. absurd (omega (arith, less, within))
  names_rise (x ∷ xs) up all = by (names_rise xs (λ i j d less within. up (suc i) (suc j) d (omega (arith, less)) (omega (arith, within))) (λ k d less. all (suc k) d (omega (arith, less)))) (get_or x.key 0 0 == 2) refl
    where
      equal : (a b : ℕ) → (a == b) ≡ true → a ≡ b
      equal a b test = grind (arith, nat_tests, test)

      above : get_or x.key 0 0 ≡ 2 → (n : Name) → Contains (names_in xs) n → (name_of x).number < n.number
      above two n within =
          let a = by_number x (all 0 x (omega arith)) two in
          let f = name_from xs n within in
          let b = by_number f.0 (of_all (IsPaired entries) xs f.0 (λ k d less. all (suc k) d (omega (arith, less))) f.1) f.2 in
          let below : IsBelow x.key f.0.key = of_all (λ (e : Entry). IsBelow x.key e.key) xs f.0 (λ k d less. up 0 (suc k) d (omega arith) (omega (arith, less))) f.1 in
          let keys : IsBelow (entry_key a.0.number) (entry_key b.0.number) = subst (λ (k : List ℕ). IsBelow k (entry_key b.0.number)) a.2.key (subst (IsBelow x.key) b.2.key below) in
          let less = numbers_rise a.0.number b.0.number a.1.number b.1.number keys in
          let same_a : (name_of x).number ≡ a.0.number = ap (λ (m : Name). m.number) a.4 in
          let same_b : b.0.number ≡ n.number = ap (λ (m : Name). m.number) (sym b.4 ∙ f.3) in
          omega (arith, less, same_a, same_b)

      by : AllPairs (λ (a b : Name). a.number < b.number) (names_in xs) → (t : Bool) → (get_or x.key 0 0 == 2) ≡ t → AllPairs (λ (a b : Name). a.number < b.number) (names_in (x ∷ xs))
      by rest true is =
          subst (AllPairs (λ (a b : Name). a.number < b.number)) (sym (ap (λ (t : Bool). if t then name_of x ∷ names_in xs else names_in xs) is))
          (AllPairs-cons (λ (a b : Name). a.number < b.number) (name_of x) (names_in xs)
          (λ k d less. above (equal (get_or x.key 0 0) 2 is) (get_or (names_in xs) k d) (at_in (names_in xs) k d less)) rest)
        where
          at_in : (xs : List Name) (k : ℕ) (d : Name) → k < length xs → Contains xs (get_or xs k d)
          at_in xs k d less = Contains-get_or xs k d less
      by rest false is = subst (AllPairs (λ (a b : Name). a.number < b.number)) (sym (ap (λ (t : Bool). if t then name_of x ∷ names_in xs else names_in xs) is)) rest

  pub are_names : All (IsPaired entries) entries → AreNames entries (names_in entries)
  are_names all = record {
    numbered = λ n within. (of n within).0;
    named = λ n within. (of n within).1;
    only = only;
    number_fits = λ n within. (of n within).2;
    handle_fits = λ n within. (of n within).3;
    in_order = names_rise entries rises all;
  }
    where
      of : (n : Name) → Contains (names_in entries) n
          → (value_of entries (entry_key n.number) ≡ Some (entry_value n.handle n.name)) × (value_of entries (name_key n.name) ≡ Some (name_value n.number n.handle)) × (n.number < 2 ^ 32) × (n.handle < 2 ^ 64)
      of n within =
          let f = name_from entries n within in
          let b = by_number f.0 (of_all (IsPaired entries) entries f.0 all f.1) f.2 in
          let same : b.0 ≡ n = sym b.4 ∙ f.3 in
          let here : value_of entries (entry_key b.0.number) ≡ Some (entry_value b.0.handle b.0.name) =
          ap (value_of entries) (sym b.2.key) ∙ value_in entries f.0 rises f.1 ∙ ap Some b.2.value in
          subst (λ (m : Name). (value_of entries (entry_key m.number) ≡ Some (entry_value m.handle m.name)) × (value_of entries (name_key m.name) ≡ Some (name_value m.number m.handle)) × (m.number < 2 ^ 32) × (m.handle < 2 ^ 64)) same
          (here, b.3, b.1.number, b.1.handle)

      only : (key value : List ℕ) → value_of entries key ≡ Some value → (n : Name) × Contains (names_in entries) n × IsOfName n key value
      only key value is =
          let e = entry_in entries key value is in
          by e.0 e.1 e.2 e.3 (of_all (IsPaired entries) entries e.0 all e.1)
        where
          by : (e : Entry) → Contains entries e → e.key ≡ key → e.value ≡ value → IsPaired entries e → (n : Name) × Contains (names_in entries) n × IsOfName n key value
          by e within same_key same_value (ByNumber name fits is other) =
              (name, subst (Contains (names_in entries)) (tells name e fits is) (name_there entries e within (first_is name e is)), inl (sym same_key ∙ is.key, sym same_value ∙ is.value))
          by e within same_key same_value (ByName name fits is other) =
              let f = entry_in entries (entry_key name.number) (entry_value name.handle name.name) other in
              let numbered : IsByNumber name f.0 = record { key = f.2; value = f.3 } in
              (name, subst (Contains (names_in entries)) (tells name f.0 fits numbered) (name_there entries f.0 f.1 (first_is name f.0 numbered)), inr (sym same_key ∙ is.key, sym same_value ∙ is.value))

  -- where the tree has the entries of any names, each entry has its other one
  pub are_paired : (names : List Name) → AreNames entries names → All (IsPaired entries) entries
  are_paired names are k d less = by (are.only (get_or entries k d).key (get_or entries k d).value (value_at entries rises k d less))
    where
      by : (n : Name) × Contains names n × IsOfName n (get_or entries k d).key (get_or entries k d).value → IsPaired entries (get_or entries k d)
      by (n, within, inl (key, value)) = ByNumber n record { number = are.number_fits n within; handle = are.handle_fits n within } record { key = key; value = value } (are.named n within)
      by (n, within, inr (key, value)) = ByName n record { number = are.number_fits n within; handle = are.handle_fits n within } record { key = key; value = value } (are.numbered n within)

-- an entry whose other one isn't there is no name's
same_name : (entry : Entry) (one name : Name) → Fits one → Fits name → IsByNumber one entry → IsByNumber name entry → one ≡ name
same_name entry one name fits_one fits is_one is = sym (tells one entry fits_one is_one) ∙ tells name entry fits is

pub not_by_number : (entries : List Entry) (entry : Entry) (name : Name) → Fits name → IsByNumber name entry → (value_of entries (name_key name.name) ≡ Some (name_value name.number name.handle) → ⊥) → IsPaired entries entry → ⊥
not_by_number entries entry name fits is never (ByNumber one fits_one is_one other) =
    never (subst (λ (n : Name). value_of entries (name_key n.name) ≡ Some (name_value n.number n.handle)) (same_name entry one name fits_one fits is_one is) other)
not_by_number entries entry name fits is never (ByName one fits_one is_one other) =
    let wrong : 1 ≡ 2 = sym (ap (λ (l : List ℕ). get_or l 0 0) is_one.key) ∙ ap (λ (l : List ℕ). get_or l 0 0) is.key in absurd (omega (arith, wrong))

front : (n m : ℕ) (h k : ℕ) → n < 2 ^ 32 → m < 2 ^ 32 → name_value n h ≡ name_value m k → n ≡ m
front n m h k fits_n fits_m same = sym (from_be_bytes-to_be_bytes_4 n fits_n) ∙ ap (λ (l : List ℕ). from_be_bytes w32 (take 4 l)) same ∙ from_be_bytes-to_be_bytes_4 m fits_m

back : (n m : ℕ) (h k : ℕ) → h < 2 ^ 64 → k < 2 ^ 64 → name_value n h ≡ name_value m k → h ≡ k
back n m h k fits_h fits_k same = sym (from_be_bytes-to_be_bytes_8 h fits_h) ∙ ap (λ (l : List ℕ). from_be_bytes w64 (drop 4 l)) same ∙ from_be_bytes-to_be_bytes_8 k fits_k

same_named : (entry : Entry) (one name : Name) → Fits one → Fits name → IsByName one entry → IsByName name entry → one ≡ name
same_named entry one name fits_one fits is_one is =
    let text : one.name ≡ name.name = ap (drop 1) (sym is_one.key ∙ is.key) in
    let values : name_value one.number one.handle ≡ name_value name.number name.handle = sym is_one.value ∙ is.value in
    let number = front one.number name.number one.handle name.handle fits_one.number fits.number values in
    let handle = back one.number name.number one.handle name.handle fits_one.handle fits.handle values in
    λ i. record { number = number i; name = text i; handle = handle i }

pub not_by_name : (entries : List Entry) (entry : Entry) (name : Name) → Fits name → IsByName name entry → (value_of entries (entry_key name.number) ≡ Some (entry_value name.handle name.name) → ⊥) → IsPaired entries entry → ⊥
not_by_name entries entry name fits is never (ByName one fits_one is_one other) =
    never (subst (λ (n : Name). value_of entries (entry_key n.number) ≡ Some (entry_value n.handle n.name)) (same_named entry one name fits_one fits is_one is) other)
not_by_name entries entry name fits is never (ByNumber one fits_one is_one other) =
    let wrong : 2 ≡ 1 = sym (ap (λ (l : List ℕ). get_or l 0 0) is_one.key) ∙ ap (λ (l : List ℕ). get_or l 0 0) is.key in absurd (omega (arith, wrong))

-- an entry that is of neither kind isn't either
pub of_no_kind : (entries : List Entry) (entry : Entry) → ((name : Name) → Fits name → IsByNumber name entry → ⊥) → ((name : Name) → Fits name → IsByName name entry → ⊥) → IsPaired entries entry → ⊥
of_no_kind entries entry no_number no_name (ByNumber one fits is other) = no_number one fits is
of_no_kind entries entry no_number no_name (ByName one fits is other) = no_name one fits is

pub if_ok : {A E : Type 0} (P Q : A → Type 0) (r : Result A E) → ((x : A) → P x → Q x) → IfOk r P → IfOk r Q
if_ok P Q (Ok x) implies is = implies x is
if_ok P Q (Err e) implies is = is

pub if_some : {A : Type 0} (P Q : A → Type 0) (o : Option A) → ((x : A) → P x → Q x) → IfSome o P → IfSome o Q
if_some P Q (Some x) implies is = implies x is
if_some P Q None implies is = is

pub if_none : {A : Type 0} (P Q : Type 0) (o : Option A) → (P → Q) → IfNone o P → IfNone o Q
if_none P Q (Some x) implies is = is
if_none P Q None implies is = implies is
