-- Entries with lesser ones before them and greater ones behind them: what a key's place is in all of them is its place in
-- those in the middle.
use Rattle.std.proofs.Common.{◌≡◌, ℕ, Bool, true, false, List, [], ◌∷◌, ◌++◌, Some, None, refl, ap, ◌∙◌}
use Rattle.std.specs.Prelude.{All, not, filter, bytes_eq}
use Rattle.std.specs.List.{find}
use Rattle.std.specs.Option.{option_map}
use Rattle.std.proofs.lemmas.List.{append-nil}
use Rattle.std.proofs.lemmas.List.Elements.{filter-append, All-weaker}
use Rattle.bx_page.specs.declared.entry.Entry.{Entry}
use Rattle.bx_page.specs.Keys.{is_below, IsBelow}
use Rattle.bx_page.specs.Contents.{below, above, from, value_of}
use Rattle.bx_page.proofs.Order.{not_below_back, not_same_below, not_same_above}
use Rattle.bx_page.proofs.Cuts.{filter_all, filter_none, find_none}

-- all before are below the key, and all behind are above it
pub record Surrounds (key : List ℕ) (front back : List Entry) : Type 0 where
  pub before : All (λ entry. IsBelow entry.key key) front
  pub behind : All (λ entry. IsBelow key entry.key) back

find_later : (p : Entry → Bool) (xs ys : List Entry) → find p xs ≡ None → find p (xs ++ ys) ≡ find p ys
find_later p [] ys e = refl
find_later p (z ∷ zs) ys e = by_test (p z) refl (λ h. find_later p zs ys h)
  where
    by_test : (b : Bool) → p z ≡ b → (find p zs ≡ None → find p (zs ++ ys) ≡ find p ys) → find p ((z ∷ zs) ++ ys) ≡ find p ys
    by_test true is rest = let some : Some z ≡ None = rw is at e in absurd cc
    by_test false is rest = rw is (rest (rw is at e))

find_sooner : (p : Entry → Bool) (xs ys : List Entry) → find p ys ≡ None → find p (xs ++ ys) ≡ find p xs
find_sooner p [] ys e = e
find_sooner p (z ∷ zs) ys e = by_test (p z) refl (find_sooner p zs ys e)
  where
    by_test : (b : Bool) → p z ≡ b → find p (zs ++ ys) ≡ find p zs → find p ((z ∷ zs) ++ ys) ≡ find p (z ∷ zs)
    by_test true is rest = rw is refl
    by_test false is rest = rw is rest

module _ (key : List ℕ) (front es back : List Entry) (s : Surrounds key front back) where
  not_front : All (λ entry. is_below key entry.key ≡ false) front
  not_front = All-weaker (λ e. IsBelow e.key key) (λ e. is_below key e.key ≡ false) (λ e h. not_below_back e.key key h) front s.before

  not_back : All (λ entry. is_below entry.key key ≡ false) back
  not_back = All-weaker (λ e. IsBelow key e.key) (λ e. is_below e.key key ≡ false) (λ e h. not_below_back key e.key h) back s.behind

  pub below_within : below (front ++ (es ++ back)) key ≡ front ++ below es key
  below_within =
      let p : Entry → Bool = λ e. is_below e.key key in
      filter-append p front (es ++ back)
      ∙ rw (filter_all p front s.before) (ap (λ ys. front ++ ys) (filter-append p es back ∙ rw (filter_none p back not_back) (append-nil (filter p es))))

  pub above_within : above (front ++ (es ++ back)) key ≡ above es key ++ back
  above_within =
      let p : Entry → Bool = λ e. is_below key e.key in
      filter-append p front (es ++ back)
      ∙ rw (filter_none p front not_front) (filter-append p es back ∙ rw (filter_all p back s.behind) refl)

  pub from_within : from (front ++ (es ++ back)) key ≡ from es key ++ back
  from_within =
      let p : Entry → Bool = λ e. not (is_below e.key key) in
      filter-append p front (es ++ back)
      ∙ rw (filter_none p front (All-weaker (λ e. IsBelow e.key key) (λ e. p e ≡ false) (λ e h. ap not h) front s.before))
      (filter-append p es back ∙ rw (filter_all p back (All-weaker (λ e. is_below e.key key ≡ false) (λ e. p e ≡ true) (λ e h. ap not h) back not_back)) refl)

  pub value_within : value_of (front ++ (es ++ back)) key ≡ value_of es key
  value_within =
      let p : Entry → Bool = λ e. bytes_eq e.key key in
      ap (option_map (λ (e : Entry). e.value))
      (find_later p front (es ++ back) (find_none p front (All-weaker (λ e. IsBelow e.key key) (λ e. p e ≡ false) (λ e h. not_same_below e.key key h) front s.before))
      ∙ find_sooner p es back (find_none p back (All-weaker (λ e. IsBelow key e.key) (λ e. p e ≡ false) (λ e h. not_same_above e.key key h) back s.behind)))
