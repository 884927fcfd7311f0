-- A page of a tree gives way to its halves: a key of its range is in the range of one of them.
use Rattle.std.proofs.Common.{◌≡◌, ℕ, Bool, true, false, List, refl, sym, subst}
use Rattle.std.specs.Prelude.{if◌then◌else◌}
use Rattle.bx_records.specs.Drafts.{Changed}
use Rattle.bx_page.specs.Contents.{Contents, first_half, other_half}
use Rattle.bx_truth.specs.PageTrees.{PageTree}
use Rattle.bx_views.specs.Truths.{Truth, Held, Hints}
use Rattle.bx_blink.specs.Places.{IsPlaceOf}
use Rattle.bx_blink.specs.Walks.{passes}
use Rattle.bx_splits.specs.Halves.{halves_of, half_in}
use Rattle.bx_splits.specs.Splits.{GrowsTree}

-- a tree grows by the halves of a page, and each key of its range has its place in one of them
pub record GrowsHalves (areas : ℕ) (held : Held) (hints : Hints) (truth : Truth) (old new : List Changed) (root : ℕ) (tree : PageTree) (changed : ℕ) (IsNew : ℕ → Type 0) (page : Contents) (left right : ℕ) : Type 0 where
  pub grows : GrowsTree areas held hints truth old new root tree changed IsNew
  pub places : (level : ℕ) (key : List ℕ) (was : Contents) → IsPlaceOf tree level key changed was → IsPlaceOf grows.after level key (half_in (halves_of page left right) key).0 (half_in (halves_of page left right) key).1

abbrev placed : PageTree → ℕ → List ℕ → ℕ × Contents → Type 0
placed after level key half = IsPlaceOf after level key half.0 half.1

pub by_half : (after : PageTree) (level : ℕ) (key : List ℕ) (page : Contents) (left right : ℕ) → (passes (first_half page right) key ≡ false → IsPlaceOf after level key left (first_half page right))
    → (passes (first_half page right) key ≡ true → IsPlaceOf after level key right (other_half page)) → IsPlaceOf after level key (half_in (halves_of page left right) key).0 (half_in (halves_of page left right) key).1
by_half after level key page left right first other = by_test (passes (first_half page right) key) refl
  where
    by_test : (b : Bool) → passes (first_half page right) key ≡ b → placed after level key (half_in (halves_of page left right) key)
    by_test false e = subst (λ (t : Bool). placed after level key (if t then (right, other_half page) else (left, first_half page right))) (sym e) (first e)
    by_test true e = subst (λ (t : Bool). placed after level key (if t then (right, other_half page) else (left, first_half page right))) (sym e) (other e)
