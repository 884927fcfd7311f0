-- Members of levels, and what a page says of a key.
use Rattle.std.proofs.Common.{◌≡◌, ℕ, ◌≤◌, Bool, true, false, List, [], ◌∷◌, ◌++◌, length, Option, Some, None, refl, ap, ◌∙◌, arith}
use Rattle.std.specs.Prelude.{not, IfSome}
use Rattle.std.specs.Option.{option_map, unwrap_or}
use Rattle.std.specs.Int.{w64, from_be_bytes}
use Rattle.bx_page.specs.declared.entry.Entry.{Entry}
use Rattle.bx_page.specs.Keys.{is_below, IsBelow}
use Rattle.bx_page.specs.Contents.{Contents, up_to, last}
use Rattle.bx_truth.specs.PageTrees.{Node, IsIn, IsLast, handle_in}
use Rattle.bx_blink.specs.Hints.{Place}
use Rattle.bx_blink.specs.Walks.{passes, child_of}

pub alone : (x y : Node) → IsIn x (y ∷ []) → x ≡ y
alone x y i = by_parts i.before i.behind i.parts
  where
    by_parts : (before behind : List Node) → y ∷ [] ≡ before ++ x ∷ behind → x ≡ y
    by_parts [] behind e = cc
    by_parts (z ∷ []) behind e = absurd cc
    by_parts (z ∷ w ∷ zs) behind e = absurd cc

pub two : (before : List Node) (x y : Node) (more : List Node) (top : Node) → before ++ x ∷ (y ∷ more) ≡ top ∷ [] → ⊥
two [] x y more top e = absurd cc
two (z ∷ []) x y more top e = absurd cc
two (z ∷ w ∷ zs) x y more top e = absurd cc

-- what the high key says of a key that is or isn't below it
pub not_true : (b : Bool) → not b ≡ true → b ≡ false
not_true true h = absurd cc
not_true false h = refl

pub not_false : (b : Bool) → not b ≡ false → b ≡ true
not_false true h = refl
not_false false h = absurd cc

pub passed : (page : Contents) (key high : List ℕ) → page.high ≡ Some high → passes page key ≡ true → is_below key high ≡ false
passed page key high e h = not_true (is_below key high) (rw e at h)

pub kept : (page : Contents) (key : List ℕ) → passes page key ≡ false → IfSome page.high (IsBelow key)
kept page key h = by_high page.high refl
  where
    by_high : (o : Option (List ℕ)) → page.high ≡ o → IfSome o (IsBelow key)
    by_high None e = tt
    by_high (Some high) e = not_false (is_below key high) (rw e at h)

pub passes_last : (page : Contents) (key : List ℕ) → IsLast page → passes page key ≡ true → ⊥
passes_last page key last h = let no : false ≡ true = rw last.high at h in absurd cc

pub le_same : (a b c : ℕ) → a ≡ b → b ≤ c → a ≤ c
le_same a b c e le = omega arith

pub le_le_nat : (a b c : ℕ) → a ≤ b → b ≤ c → a ≤ c
le_le_nat a b c x y = omega arith

pub handle_is : (value : List ℕ) (handle : ℕ) → length value ≡ 8 → from_be_bytes w64 value ≡ handle → handle_in value ≡ handle
handle_is value handle eight is = rw eight is

pub child_handle : (page : Contents) (key : List ℕ) (entry : Entry) (handle : ℕ) → last (up_to page.entries key) ≡ Some entry → length entry.value ≡ 8 → from_be_bytes w64 entry.value ≡ handle → child_of page key ≡ handle
child_handle page key entry handle e eight is = ap (λ (o : Option Entry). unwrap_or (option_map (λ (x : Entry). handle_in x.value) o) 0) e ∙ handle_is entry.value handle eight is

-- the child that a key leads to has its home
pub child_home : (home : ℕ → Option Place) (page : Contents) (key : List ℕ) (entry : Entry) (handle : ℕ) (place : Place) → last (up_to page.entries key) ≡ Some entry → length entry.value ≡ 8 → from_be_bytes w64 entry.value ≡ handle
    → home handle ≡ Some place → home (child_of page key) ≡ Some place
child_home home page key entry handle place e eight is there = ap home (child_handle page key entry handle e eight is) ∙ there

pub not_below_empty : (key : List ℕ) → is_below key [] ≡ false
not_below_empty [] = refl
not_below_empty (k ∷ ks) = refl
