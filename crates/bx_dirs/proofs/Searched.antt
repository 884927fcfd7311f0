-- What searches in a directory's tree say of its entries.
use Rattle.std.proofs.Common.{◌≡◌, ℕ, ◌^◌, ◌<◌, ◌⊎◌, inl, inr, true, false, List, [], ◌∷◌, drop, take, sym, ap, ◌∙◌, subst, Option, Some, None}
use Rattle.std.specs.Prelude.{Contains, Result, Err}
use Rattle.std.specs.Int.{w64, from_be_bytes}
use Rattle.std.proofs.lemmas.Nat.{from_be_bytes-to_be_bytes_8}
use Rattle.bx_page.specs.declared.entry.Entry.{Entry}
use Rattle.bx_page.specs.Keys.{is_below, IsBelow}
use Rattle.bx_page.specs.Contents.{Rises, first, from, value_of}
use Rattle.bx_tree_files.specs.declared.file.Name.{Name}
use Rattle.bx_tree_files.specs.Entries.{above}
use Rattle.bx_truth.specs.Keys.{name_key, entry_key, entry_value}
use Rattle.bx_truth.specs.Stored.{AreNames, IsOfName}
use Rattle.bx_leaves.specs.bx_blink.specs.Answers.{FindsAt, FindsIn}
use Rattle.bx_leaves.specs.bx_blink.specs.Runs.{NextIn}
use Rattle.bx_leaves.specs.bx_blink.specs.declared.error.BlinkError.{BlinkError}
use Rattle.bx_leaves.specs.bx_blink.specs.declared.error.BlinkError.TheVariants.{Need, Stale, Full, NoRoom, Absent, Present, OutOfMemory, Crowded}
use Rattle.bx_leaves.specs.bx_blink.specs.declared.steps.End.{End}
use Rattle.bx_dirs.specs.Entries.{IsNoNumbered, IsNoPlace, key_behind}
use Rattle.bx_dirs.specs.Searches.{FollowsAt, FollowsIn, LooksUpAt, LooksUpIn}
use Rattle.bx_dirs.proofs.Firsts.{IsFirstFrom, first_from, least_above, none_above, none_from}
use Rattle.bx_dirs.proofs.Names.{is_unnamed}
use Rattle.bx_dirs.proofs.Ordered.{is_above, name_below, not_behind, numbers_rise, same_number}
use Rattle.bx_truth.proofs.Adding.{name_found}

-- ---- by name

pub error_at : (E : End → Type 0) (key : List ℕ) (error : BlinkError) → FindsAt E key (Err error) → LooksUpAt E key (Err error)
error_at E key Absent at = at
error_at E key (Need n mode) at = at
error_at E key Stale at = inl at
error_at E key OutOfMemory at = tt
error_at E key (Full spare) at = at
error_at E key (NoRoom leaf) at = at
error_at E key Present at = at
error_at E key Crowded at = at

module _ (map : List Entry) (names : List Name) (text : List ℕ) (are : AreNames map names) where
  pub error_in : (error : BlinkError) → FindsIn map (name_key text) (Err error) → LooksUpIn names text (Err error)
  error_in Absent is = is_unnamed map names text are is
  error_in (Need n mode) is = tt
  error_in Stale is = is
  error_in OutOfMemory is = tt
  error_in (Full spare) is = is
  error_in (NoRoom leaf) is = is
  error_in Present is = is
  error_in Crowded is = is

  -- each value of a name's key is one
  pub no_stray : (value : List ℕ) → value_of map (name_key text) ≡ Some value → IsNoPlace value → ⊥
  no_stray value is none = let f = name_found map names text value are is in none f.0.number f.0.handle (are.number_fits f.0 f.1) (are.handle_fits f.0 f.1) f.3

-- ---- behind a number

pub next_error_at : (Next : Result (Option (List ℕ × List ℕ)) BlinkError → Type 0) (error : BlinkError) → (Next (Err Absent) → ⊥) → (Next (Err Present) → ⊥) → (Next (Err Crowded) → ⊥)
    → ((spare : ℕ) → Next (Err (Full spare)) → ⊥) → ((leaf : ℕ) → Next (Err (NoRoom leaf)) → ⊥) → Next (Err error) → FollowsAt Next (Err error)
next_error_at Next (Need n mode) a b c d e at = at
next_error_at Next Stale a b c d e at = inl at
next_error_at Next OutOfMemory a b c d e at = tt
next_error_at Next Absent a b c d e at = a at
next_error_at Next Present a b c d e at = b at
next_error_at Next Crowded a b c d e at = c at
next_error_at Next (Full spare) a b c d e at = d spare at
next_error_at Next (NoRoom leaf) a b c d e at = e leaf at

module _ (map : List Entry) (names : List Name) (number : ℕ) (rises : Rises map) (are : AreNames map names) (fits : number < 2 ^ 32) where
  pub next_error_in : (error : BlinkError) → NextIn map (key_behind number) (Err error) → FollowsIn names number (Err error)
  next_error_in (Need n mode) is = tt
  next_error_in Stale is = is
  next_error_in OutOfMemory is = tt
  next_error_in Absent is = is
  next_error_in (Full spare) is = is
  next_error_in (NoRoom leaf) is = is
  next_error_in Present is = is
  next_error_in Crowded is = is

  pub nothing_behind : first (from map (key_behind number)) ≡ None → above number names ≡ []
  nothing_behind none = none_above number names (λ x there less.
      none_from map (key_behind number) none (entry_key x.number) (entry_value x.handle x.name) (are.numbered x there) (not_behind x.number number (are.number_fits x there) fits less))

  -- the first entry from the key on is that of a name by its number, the least one above
  found_behind : (key value : List ℕ) → IsFirstFrom map (key_behind number) (record { key = key; value = value })
      → (n : Name) × Contains names n × (key ≡ entry_key n.number) × (value ≡ entry_value n.handle n.name) × (above number names ≡ n ∷ above n.number names)
  found_behind key value f = by (are.only key value f.value)
    where
      Found : Type 0
      Found = (n : Name) × Contains names n × (key ≡ entry_key n.number) × (value ≡ entry_value n.handle n.name) × (above number names ≡ n ∷ above n.number names)

      by : (n : Name) × Contains names n × IsOfName n key value
          → (n : Name) × Contains names n × (key ≡ entry_key n.number) × (value ≡ entry_value n.handle n.name) × (above number names ≡ n ∷ above n.number names)
      by (n, there, inr (k, v)) =
          let e : true ≡ false = sym (name_below n.name number) ∙ ap (λ (l : List ℕ). is_below l (key_behind number)) (sym k) ∙ f.from_key in absurd cc
      by (n, there, inl (k, v)) = (
        n,
        there,
        k,
        v,
        least_above number names n are.in_order there
            (is_above n.number number (are.number_fits n there) fits (ap (λ (l : List ℕ). is_below l (key_behind number)) (sym k) ∙ f.from_key))
            (λ x in_x less. least x in_x (f.least (entry_key x.number) (entry_value x.handle x.name) (are.numbered x in_x) (not_behind x.number number (are.number_fits x in_x) fits less))),
      )
        where
          least : (x : Name) → Contains names x → (key ≡ entry_key x.number) ⊎ IsBelow key (entry_key x.number) → (n.number ≡ x.number) ⊎ (n.number < x.number)
          least x in_x (inl same) = inl (same_number n.number x.number (are.number_fits n there) (are.number_fits x in_x) (sym k ∙ same))
          least x in_x (inr below) = inr (numbers_rise n.number x.number (are.number_fits n there) (are.number_fits x in_x) (subst (λ (l : List ℕ). IsBelow l (entry_key x.number)) k below))

  pub first_behind : (key value : List ℕ) → first (from map (key_behind number)) ≡ Some (record { key = key; value = value })
      → (n : Name) × Contains names n × (key ≡ entry_key n.number) × (value ≡ entry_value n.handle n.name) × (above number names ≡ n ∷ above n.number names)
  first_behind key value is = found_behind key value (first_from map (key_behind number) (record { key = key; value = value }) rises is)

  pub no_stray_behind : (key value : List ℕ) → first (from map (key_behind number)) ≡ Some (record { key = key; value = value }) → IsNoNumbered key value → ⊥
  no_stray_behind key value is none = let f = first_behind key value is in none f.0 (are.number_fits f.0 f.1) (are.handle_fits f.0 f.1) f.2 f.3

  pub follows : (entry : Name) (key value : List ℕ) → entry.number < 2 ^ 32 → entry.handle < 2 ^ 64 → key ≡ entry_key entry.number → value ≡ entry_value entry.handle entry.name
      → first (from map (key_behind number)) ≡ Some (record { key = key; value = value }) → above number names ≡ entry ∷ above entry.number names
  follows entry key value fits_number fits_handle key_is value_is is =
      let f = first_behind key value is in
      let n = f.0 in
      let number_is : n.number ≡ entry.number = same_number n.number entry.number (are.number_fits n f.1) fits_number (sym f.2 ∙ key_is) in
      let values : entry_value n.handle n.name ≡ entry_value entry.handle entry.name = sym f.3 ∙ value_is in
      let handle_is : n.handle ≡ entry.handle =
      sym (from_be_bytes-to_be_bytes_8 n.handle (are.handle_fits n f.1)) ∙ ap (λ (l : List ℕ). from_be_bytes w64 (take 8 l)) values ∙ from_be_bytes-to_be_bytes_8 entry.handle fits_handle in
      let name_is : n.name ≡ entry.name = ap (drop 8) values in
      f.4 ∙ (λ i. record { number = number_is i; name = name_is i; handle = handle_is i } ∷ above (number_is i) names)
