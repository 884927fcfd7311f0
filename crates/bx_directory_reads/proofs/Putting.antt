-- The entries of a leaf as they are put on a page.
use Rattle.std.proofs.Common.{◌≡◌, ℕ, ◌+◌, ◌-◌, ◌^◌, ◌<◌, ◌≤◌, leb, Bool, true, false, cond, List, [], ◌∷◌, drop, take, length, map, refl, sym, ap, ◌∙◌, subst, Some, None, arith}
use Rattle.std.specs.Int.{w64, from_be_bytes}
use Rattle.std.proofs.lemmas.Bool.Decides.{nat_tests}
use Rattle.std.proofs.lemmas.Nat.{from_be_bytes-to_be_bytes_8}
use Rattle.bx_dirs.specs.Entries.{DoFit, IsNoNumbered, by_number}
use Rattle.bx_dirs.proofs.Ordered.{same_number}
use Rattle.bx_model.specs.Directories.{cost}
use Rattle.bx_page.specs.declared.entry.Entry.{Entry}
use Rattle.bx_page.specs.Contents.{first}
use Rattle.bx_tree_files.specs.declared.file.Name.{Name}
use Rattle.bx_truth.specs.Keys.{entry_key, entry_value}
use Rattle.bx_call_parts.specs.declared.pages.Page.{Page}
use Rattle.bx_call_parts.specs.Pages.{filled, with_listed}
use Rattle.bx_call_parts.proofs.Filled.{one_fits, one_stops, same_answer, same_page}

-- those that are left, of entries that are put on a page
pub record Going (page now : Page) (names : List Name) (left : List Entry) : Type 0 where
  pub rest : List Name
  pub fit : DoFit rest
  pub same : filled page names ≡ filled now rest
  pub left_is : left ≡ map by_number rest

-- ---- the next of them

record IsNext (left : List Entry) (entry : Entry) (rest : List Name) : Type 0 where
  name : Name
  names : List Name
  parts : rest ≡ name ∷ names
  is : entry ≡ by_number name
  others : drop 1 left ≡ map by_number names

some_entry : (x y : Entry) → Some x ≡ Some y → x ≡ y
some_entry x y e = cc

no_entry : (x : Entry) → Some x ≡ None → ⊥
no_entry x e = cc

next_of : (left : List Entry) (entry : Entry) (rest : List Name) → left ≡ map by_number rest → Some entry ≡ first left → IsNext left entry rest
next_of left entry [] is found = absurd (no_entry entry (found ∙ ap first is))
next_of left entry (n ∷ ns) is found = record { name = n; names = ns; parts = refl; is = some_entry entry (by_number n) (found ∙ ap first is); others = ap (drop 1) is }

-- ---- one entry, read from its key and its value

abbrev pub entry_of : ℕ → ℕ → List ℕ → Name
entry_of number handle name = record { number = number; name = name; handle = handle }

name_is : (n : Name) (number handle : ℕ) (name : List ℕ) → n.number < 2 ^ 32 → n.handle < 2 ^ 64 → number < 2 ^ 32 → handle < 2 ^ 64 → entry_key n.number ≡ entry_key number → entry_value n.handle n.name ≡ entry_value handle name
    → n ≡ entry_of number handle name
name_is n number handle name a b c d keys values =
    let number_is : n.number ≡ number = same_number n.number number a c keys in
    let handle_is : n.handle ≡ handle = sym (from_be_bytes-to_be_bytes_8 n.handle b) ∙ ap (λ (l : List ℕ). from_be_bytes w64 (take 8 l)) values ∙ from_be_bytes-to_be_bytes_8 handle d in
    let name_is : n.name ≡ name = ap (drop 8) values in
    λ i. record { number = number_is i; name = name_is i; handle = handle_is i }

module _ (page now : Page) (names : List Name) (left : List Entry) (entry : Entry) (going : Going page now names left) (found : Some entry ≡ first left) where
  next : IsNext left entry going.rest
  next = next_of left entry going.rest going.left_is found

  rest_fit : DoFit (next.name ∷ next.names)
  rest_fit = subst DoFit next.parts going.fit

  pub no_stray : IsNoNumbered entry.key entry.value → ⊥
  no_stray none = none next.name rest_fit.0 rest_fit.1 (ap (λ (e : Entry). e.key) next.is) (ap (λ (e : Entry). e.value) next.is)

  module _ (number handle : ℕ) (name : List ℕ) (number_fits : number < 2 ^ 32) (handle_fits : handle < 2 ^ 64) (key_is : entry.key ≡ entry_key number) (value_is : entry.value ≡ entry_value handle name) where
    rest_is : going.rest ≡ entry_of number handle name ∷ next.names
    rest_is =
        next.parts
        ∙ ap (λ (n : Name). n ∷ next.names)
        (name_is next.name number handle name rest_fit.0 rest_fit.1 number_fits handle_fits (sym (ap (λ (e : Entry). e.key) next.is) ∙ key_is) (sym (ap (λ (e : Entry). e.value) next.is) ∙ value_is))

    pub goes_on : (after : Page) (entries : List Entry) → entries ≡ drop 1 left → ◌≡◌ {A = Bool × Page} (true, after) (filled now (entry_of number handle name ∷ [])) → Going page after names entries
    goes_on after entries are put = record {
      rest = next.names;
      fit = rest_fit.2;
      same = going.same ∙ ap (filled now) rest_is ∙ one_fits now after (entry_of number handle name) next.names put;
      left_is = are ∙ next.others;
    }

    pub stops : (after : Page) → ◌≡◌ {A = Bool × Page} (false, after) (filled now (entry_of number handle name ∷ [])) → ◌≡◌ {A = Bool × Page} (false, after) (filled page names)
    stops after put = one_stops now after (entry_of number handle name) next.names put ∙ ap (filled now) (sym rest_is) ∙ sym going.same

-- ---- the room that is left

true_false : true ≡ false → ⊥
true_false e = absurd cc

less_by : (fits : Bool) (now after : Page) (e : Name) → leb (cost e) now.room ≡ fits → ◌≡◌ {A = Bool × Page} (true, after) (cond fits (true, with_listed now e) (false, now)) → after.room < now.room
less_by true now after e fits is =
    let room_is : after.room ≡ now.room - cost e = ap (λ (p : Page). p.room) (same_page true true after (with_listed now e) is) in
    let enough : cost e ≤ now.room = grind (arith, nat_tests, fits) in
    omega (arith, room_is, enough)
less_by false now after e fits is = absurd (true_false (same_answer true false after now is))

room_less : (now after : Page) (e : Name) → ◌≡◌ {A = Bool × Page} (true, after) (filled now (e ∷ [])) → after.room < now.room
room_less now after e is = less_by (leb (cost e) now.room) now after e refl is

one_less : (left : List Entry) (entry : Entry) → Some entry ≡ first left → length (drop 1 left) + 1 ≡ length left
one_less [] entry found = absurd (no_entry entry found)
one_less (x ∷ xs) entry found = omega arith

pub less_room : (page now after : Page) (e : Name) (all left others : List Entry) (entry : Entry) → now.room + length all ≤ page.room + length left → Some entry ≡ first left → others ≡ drop 1 left
    → ◌≡◌ {A = Bool × Page} (true, after) (filled now (e ∷ [])) → after.room + length all ≤ page.room + length others
less_room page now after e all left others entry so found are is =
    let less = room_less now after e is in
    let fewer = one_less left entry found in
    let long : length others ≡ length (drop 1 left) = ap length are in
    omega (arith, so, less, fewer, long)
