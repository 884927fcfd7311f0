-- The first entry of a page.
use Rattle.std.proofs.Common.{◌≡◌, ◌<◌, List, [], ◌∷◌, length, Some, subst, refl, arith}
use Rattle.std.specs.Prelude.{All, slice_get}
use Rattle.std.proofs.lemmas.List.Elements.{All-head}
use Rattle.bx_page.specs.Contents.{Contents, IsEntry, IsPage}
use Rattle.bx_page.specs.declared.entry.Entry.{Entry}

-- what all entries have it has
pub first_has : (P : Entry → Type 0) (es : List Entry) (e : Entry) → All P es → Some e ≡ slice_get es 0 → P e
first_has P [] e all is = absurd cc
first_has P (x ∷ xs) e all is = let same : x ≡ e = cc in subst P same (All-head P x xs all)

pub first_fits : (p : Contents) (e : Entry) → IsPage p → Some e ≡ slice_get p.entries 0 → IsEntry e
first_fits p e is first = first_has IsEntry p.entries e is.entries first

pub first_child : (p : Contents) (e : Entry) → IsPage p → Some e ≡ slice_get p.entries 0 → 0 < p.level → length e.value ≡ 8
first_child p e is first above = first_has (λ (x : Entry). length x.value ≡ 8) p.entries e (is.children above) first

-- a list without members
pub none_there : {X : Type 0} (xs : List X) → length xs ≡ 0 → xs ≡ []
none_there [] none = refl
none_there (x ∷ xs) none = absurd (omega (arith, none))
