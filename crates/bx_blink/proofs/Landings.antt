-- What is known where a walk lands, on any content.
use Rattle.std.proofs.Common.{◌≡◌, ℕ, zero, suc, List, Some, refl, sym, ap, subst, ◌∙◌, inl, inr}
use Rattle.std.specs.Prelude.{IfSome}
use Rattle.bx_base.specs.declared.names.Mode.{Mode}
use Rattle.bx_base.specs.declared.names.Mode.TheVariants.{Shared}
use Rattle.bx_truth.specs.bx_layout.specs.declared.block.Block.{Block}
use Rattle.bx_page.specs.Keys.{IsBelow}
use Rattle.bx_page.specs.Contents.{Contents}
use Rattle.bx_blink.specs.declared.steps.Spot.{Spot}
use Rattle.bx_blink.specs.declared.steps.Found.{Found}
use Rattle.bx_blink.specs.declared.steps.Found.TheVariants.{Held}
use Rattle.bx_blink.specs.declared.steps.End.TheVariants.{Lands}
use Rattle.bx_blink.specs.declared.steps.Out.{Out}
use Rattle.bx_blink.specs.declared.steps.Out.TheVariants.{Goes, Stops}
use Rattle.bx_truth.specs.Chunks.{block_at}
use Rattle.bx_truth.specs.PageTrees.{HasPage}
use Rattle.bx_blink.specs.Walks.{Reads, Finds, decide, Follows, Ends, landed, OnPath}
use Rattle.bx_blink.proofs.Handles.{kept}
use Rattle.bx_blink.proofs.Landed.{lands_here}

-- The page is held under this handle, is of the level, and the key is below its high key; its block is on the path, as the call
-- asks for it.
pub record IsLanding (reads : Reads) (target : ℕ) (asked : Mode) (key : List ℕ) (n : ℕ) (spot : Spot) (handle : ℕ) (page : Contents) : Type 0 where
  pub block : Block
  pub there : reads.held (block_at handle) Shared ≡ Some block
  pub header : block.handle ≡ handle
  pub has : HasPage page block
  pub same_level : page.level ≡ target
  pub below : IfSome page.high (IsBelow key)
  pub path : OnPath reads target asked key n spot (block_at handle) asked

module _ (reads : Reads) (target : ℕ) (asked : Mode) (key : List ℕ) where
  stops_here : (n : ℕ) (spot : Spot) (found : Found) (handle : ℕ) (page : Contents) → Finds reads target spot found → decide target asked key spot found ≡ Stops (Lands handle page)
      → IsLanding reads target asked key (suc n) spot handle page
  unfolding OnPath
  stops_here n spot found handle page f d =
      let h = lands_here reads target asked key spot found handle page f d in
      let is_held : Finds reads target spot (Held page) = subst (λ (g : Found). Finds reads target spot g) h.found_is f in
      record {
        block = is_held.block;
        there = subst (λ (k : ℕ). reads.held (block_at k) Shared ≡ Some is_held.block) (sym h.handle_is) is_held.there;
        header = (is_held.is).0 ∙ sym h.handle_is;
        has = (is_held.is).1;
        same_level = h.same_level;
        below = kept page key h.keeps;
        path = subst (λ (k : ℕ). OnPath reads target asked key (suc n) spot (block_at k) asked) (sym h.handle_is) (inl (landed page is_held h.same_level));
      }

  goes_on : (n : ℕ) (spot next : Spot) (found : Found) (handle : ℕ) (page : Contents) → Finds reads target spot found → decide target asked key spot found ≡ Goes next
      → IsLanding reads target asked key n next handle page → IsLanding reads target asked key (suc n) spot handle page
  unfolding OnPath
  goes_on n spot next found handle page f d l =
      record { block = l.block; there = l.there; header = l.header; has = l.has; same_level = l.same_level; below = l.below; path = inr (found, f, next, d, l.path) }

  pub landing : (n : ℕ) (spot : Spot) (handle : ℕ) (page : Contents) → Ends reads target asked key n spot (Lands handle page) → IsLanding reads target asked key n spot handle page
  unfolding Ends
  landing zero spot handle page e = absurd cc
  landing (suc n) spot handle page e = by_out (decide target asked key spot e.0) refl e.2 (λ next. landing n next handle page)
    where
      by_out : (out : Out) → decide target asked key spot e.0 ≡ out → Follows (λ next. Ends reads target asked key n next (Lands handle page)) (Lands handle page) out
          → ((next : Spot) → Ends reads target asked key n next (Lands handle page) → IsLanding reads target asked key n next handle page) → IsLanding reads target asked key (suc n) spot handle page
      by_out (Goes next) d f rest = goes_on n spot next e.0 handle page e.1 d (rest next f)
      by_out (Stops end) d f rest = stops_here n spot e.0 handle page e.1 (d ∙ ap Stops (sym f))
