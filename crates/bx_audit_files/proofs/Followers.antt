-- Entries of directories, one behind the other.
use Rattle.std.proofs.Common.{◌≡◌, ℕ, zero, suc, ◌-◌, ◌^◌, ◌<◌, ◌≤◌, ◌⊎◌, inl, inr, arith, List, [], ◌∷◌, ◌++◌, length, take, get_or, sym, ap, ◌∙◌, subst, refl, Bool, true, false, cond, Some, None}
use Rattle.std.specs.Prelude.{All, ◌≢◌, bytes_eq}
use Rattle.std.specs.Int.{w32, from_be_bytes}
use Rattle.std.proofs.lemmas.List.{length-take, get_or-take, get_or_default}
use Rattle.std.proofs.lemmas.List.Elements.{All-cons, Contains-get_or}
use Rattle.std.proofs.lemmas.List.Quantifiers.{all_pairs_push}
use Rattle.std.proofs.lemmas.Slice.Eq.{bytes_eq-Decides}
use Rattle.std.proofs.lemmas.Nat.{from_be_bytes-to_be_bytes_4}
use Rattle.bx_page.specs.declared.entry.Entry.{Entry}
use Rattle.bx_page.specs.Contents.{value_of}
use Rattle.bx_page.proofs.Cuts.{find_none}
use Rattle.bx_tree_files.specs.declared.file.Name.{Name}
use Rattle.bx_tree_files.specs.Entries.{AreBelow, entry_named}
use Rattle.bx_truth.specs.Keys.{name_key, name_value}
use Rattle.bx_truth.specs.Stored.{AreNames}
use Rattle.bx_truth.proofs.PieceKeys.{not_yes}
use Rattle.bx_audit_files.specs.Lists.{AreListed, CanFollow}

pub all_below : (least more : ℕ) (names : List Name) → least ≤ more → AreBelow least names → AreBelow more names
all_below least more [] le below = tt
all_below least more (x ∷ xs) le below = (omega (arith, below.0, le), all_below least more xs le below.1)

pub below_push : (least : ℕ) (names : List Name) (name : Name) → AreBelow least names → name.number < least → AreBelow least (names ++ name ∷ [])
below_push least [] name below less = (less, tt)
below_push least (x ∷ xs) name below less = (below.0, below_push least xs name below.1 less)

below_at : (least : ℕ) (names : List Name) → AreBelow least names → (k : ℕ) (d : Name) → k < length names → (get_or names k d).number < least
below_at least [] below k d less = absurd (omega (arith, less))
below_at least (x ∷ xs) below zero d less = below.0
below_at least (x ∷ xs) below (suc k) d less = below_at least xs below.1 k d (omega (arith, less))

not_named : (names : List Name) (text : List ℕ) → All (λ n. n.name ≢ text) names → entry_named names text ≡ None
not_named names text all = find_none (λ entry. bytes_eq entry.name text) names (λ k d less. not_yes (get_or names k d).name text (all k d less))

-- where entries are listed, each may come behind those before it
pub follows : (names : List Name) (k least next : ℕ) (name : Name) → k < length names → name ≡ get_or names k name → ((d : Name) → 0 < k → least ≡ suc (get_or names (k - 1) d).number) → (k ≡ 0 → least ≡ 0)
    → AreListed next names → CanFollow (take k names) least next name
follows names k least next name less is last first listed = record { number = by (side k); below = subst (λ (n : Name). n.number < next) (sym is) (below_at next names listed.below k name less); apart = not_named (take k names) name.name others }
  where
    side : (n : ℕ) → (n ≡ 0) ⊎ (0 < n)
    side n = grind arith

    by : (k ≡ 0) ⊎ (0 < k) → least ≤ name.number
    by (inl none) = omega (arith, first none)
    by (inr some) = let up = listed.rise (k - 1) k name (omega (arith, some)) less in omega (arith, up, last name some, ap (λ (n : Name). n.number) is)

    others : All (λ n. n.name ≢ name.name) (take k names)
    others i d within same =
        let long = length-take k names in
        let i_less : i < k = omega (arith, within, long, less) in
        listed.apart i k name i_less less (ap (λ (n : Name). n.name) (get_or_default names i name d (omega (arith, i_less, less)) ∙ sym (get_or-take k names i d i_less)) ∙ same ∙ ap (λ (n : Name). n.name) is)

-- the entries of a directory's tree are listed, where their numbers are below the next one
pub names_listed : (entries : List Entry) (names : List Name) (next : ℕ) → AreNames entries names → AreBelow next names → AreListed next names
names_listed entries names next are below = record {
  rise = are.in_order;
  apart = λ i j d less within same.
      let a = get_or names i d in
      let b = get_or names j d in
      let in_a = Contains-get_or names i d (omega (arith, less, within)) in
      let in_b = Contains-get_or names j d within in
      let values = some_same (name_value a.number a.handle) (name_value b.number b.handle) (sym (are.named a in_a) ∙ ap (λ (t : List ℕ). value_of entries (name_key t)) same ∙ are.named b in_b) in
      let numbers : a.number ≡ b.number = front a.number b.number a.handle b.handle (are.number_fits a in_a) (are.number_fits b in_b) values in
      let up = are.in_order i j d less within in
      absurd (omega (arith, numbers, up));
  below = below;
}
  where
    some_same : (x y : List ℕ) → Some x ≡ Some y → x ≡ y
    some_same x y e = cc

    front : (n m h k : ℕ) → n < 2 ^ 32 → m < 2 ^ 32 → name_value n h ≡ name_value m k → n ≡ m
    front n m h k fits_n fits_m same =
        sym (from_be_bytes-to_be_bytes_4 n fits_n) ∙ ap (λ (l : List ℕ). from_be_bytes w32 (take 4 l)) same ∙ from_be_bytes-to_be_bytes_4 m fits_m

bytes_same : (a b : List ℕ) → a ≡ b → bytes_eq a b ≡ true
bytes_same a b same = (bytes_eq-Decides a b).1 same

apart_by : (x : Name) (xs : List Name) (text : List ℕ) (t : Bool) → bytes_eq x.name text ≡ t → cond t (Some x) (entry_named xs text) ≡ None → (entry_named xs text ≡ None → All (λ n. n.name ≢ text) xs)
    → All (λ n. n.name ≢ text) (x ∷ xs)
apart_by x xs text true is none rest = absurd cc
apart_by x xs text false is none rest = All-cons (λ (n : Name). n.name ≢ text) x xs (λ same. let e : true ≡ false = sym (bytes_same x.name text same) ∙ is in absurd cc) (rest none)

-- where no entry has a name, none of them has it
named_apart : (xs : List Name) (text : List ℕ) → entry_named xs text ≡ None → All (λ n. n.name ≢ text) xs
named_apart [] text none = λ k d less. absurd (omega (arith, less))
named_apart (x ∷ xs) text none = apart_by x xs text (bytes_eq x.name text) refl none (named_apart xs text)

-- an entry that may come behind others is listed behind them
pub one_listed : (least next : ℕ) (names : List Name) (name : Name) → AreListed next names → AreBelow least names → least ≤ name.number → name.number < next → entry_named names name.name ≡ None
    → AreListed next (names ++ name ∷ [])
one_listed least next names name listed below above under apart = record {
  rise = all_pairs_push (λ (a b : Name). a.number < b.number) names name listed.rise (λ k d less. let lower = below_at least names below k d less in omega (arith, lower, above));
  apart = all_pairs_push (λ (a b : Name). a.name ≢ b.name) names name listed.apart (named_apart names name.name apart);
  below = below_push next names name listed.below under;
}
