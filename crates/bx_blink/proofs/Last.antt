-- The last of the entries with keys not above a key.
use Rattle.std.proofs.Common.{◌≡◌, ℕ, Bool, true, false, List, [], ◌∷◌, ◌++◌, Some, refl, sym, ap, ◌∙◌}
use Rattle.std.specs.Prelude.{All, not, filter, reverse, slice_get}
use Rattle.std.specs.Option.{option_map}
use Rattle.std.proofs.lemmas.List.{reverse-append}
use Rattle.std.proofs.lemmas.List.Elements.{All-head, All-tail, All-append, All-cons, All-nil, All-filter, filter_passes}
use Rattle.bx_page.specs.declared.entry.Entry.{Entry}
use Rattle.bx_page.specs.Keys.{is_below}
use Rattle.bx_page.specs.Contents.{up_to, first, last}

rev_cons : {X : Type 0} (x : X) (xs : List X) → reverse (x ∷ xs) ≡ reverse xs ++ x ∷ []
rev_cons x xs = reverse-append (x ∷ []) xs

All-reverse : {X : Type 0} (P : X → Type 0) (xs : List X) → All P xs → All P (reverse xs)
All-reverse P [] a = a
All-reverse P (x ∷ xs) a = rw (rev_cons x xs) (All-append P (reverse xs) (x ∷ []) (All-reverse P xs (All-tail P x xs a)) (All-cons P x [] (All-head P x xs a) (All-nil P)))

pub first_all : {X : Type 0} (P : X → Type 0) (xs : List X) (x : X) → All P xs → slice_get xs 0 ≡ Some x → P x
first_all P [] x a is = absurd cc
first_all P (y ∷ ys) x a is = let e : y ≡ x = cc in rw (← e) (All-head P y ys a)

snoc_some : {X : Type 0} (xs : List X) (y : X) → (x : X) × (slice_get (xs ++ y ∷ []) 0 ≡ Some x)
snoc_some [] y = (y, refl)
snoc_some (x ∷ xs) y = (x, refl)

-- the last of some entries that pass: it is there, passes, and has what all have
pub record LastUpTo (P : Entry → Type 0) (key : List ℕ) (entries : List Entry) : Type 0 where
  pub entry : Entry
  pub is : last (up_to entries key) ≡ Some entry
  pub has : P entry
  pub up_to_key : is_below key entry.key ≡ false

no_true : true ≡ false → ⊥
no_true e = cc

not_true : (b : Bool) → not b ≡ true → b ≡ false
not_true true h = absurd (no_true (sym h))
not_true false h = refl

pub last_up_to : (P : Entry → Type 0) (key begins : List ℕ) (entries : List Entry) → All P entries → option_map (λ (e : Entry). e.key) (first entries) ≡ Some begins → is_below key begins ≡ false → LastUpTo P key entries
last_up_to P key begins [] a is le = absurd cc
last_up_to P key begins (e ∷ es) a is le =
    let key_is : e.key ≡ begins = (let both : Some e.key ≡ Some begins = is in cc) in
    let passes : not (is_below key e.key) ≡ true = rw (key_is, le) refl in
    let p : Entry → Bool = λ x. not (is_below key x.key) in
    let rest : List Entry = filter p es in
    let list_is : filter p (e ∷ es) ≡ e ∷ rest = rw passes refl in
    let found = snoc_some (reverse rest) e in
    let last_is : last (up_to (e ∷ es) key) ≡ Some found.0 = ap (λ (xs : List Entry). slice_get (reverse xs) 0) list_is ∙ ap (λ (xs : List Entry). slice_get xs 0) (rev_cons e rest) ∙ found.1 in
    record {
      entry = found.0;
      is = last_is;
      has = first_all P (reverse (filter p (e ∷ es))) found.0 (All-reverse P (filter p (e ∷ es)) (All-filter p P (e ∷ es) a)) last_is;
      up_to_key = not_true (is_below key (found.0).key) (first_all (λ (x : Entry). p x ≡ true) (reverse (filter p (e ∷ es))) found.0 (All-reverse (λ (x : Entry). p x ≡ true) (filter p (e ∷ es)) (filter_passes p (e ∷ es))) last_is);
    }
