-- A walk that lands has found the page, held, of the wanted level, and the key isn't passed on to the right.
use Rattle.std.proofs.Common.{◌≡◌, ℕ, ◌-◌, ◌<◌, Bool, true, false, eqb, List, Option, Some, None, refl, sym, ap, ◌∙◌, arith, eqb-true}
use Rattle.std.proofs.lemmas.Bool.{ne_eqb}
use Rattle.bx_base.specs.declared.names.Mode.{Mode}
use Rattle.bx_page.specs.Contents.{Contents}
use Rattle.bx_blink.specs.declared.steps.Spot.{Spot}
use Rattle.bx_blink.specs.declared.steps.Found.{Found}
use Rattle.bx_blink.specs.declared.steps.Found.TheVariants.{Missing, Strays, NoPage, Held, Hinted}
use Rattle.bx_blink.specs.declared.steps.End.TheVariants.{Lands}
use Rattle.bx_blink.specs.declared.steps.Out.TheVariants.{Goes, Stops}
use Rattle.bx_truth.specs.Chunks.{block_at}
use Rattle.bx_blink.specs.Walks.{Reads, Finds, passes, mode_at, child_of, onward, strayed, decide}

-- a walk that lands has found the page, held
pub record IsHere (target : ℕ) (key : List ℕ) (found : Found) (spot : Spot) (handle : ℕ) (page : Contents) : Type 0 where
  pub found_is : found ≡ Held page
  pub handle_is : handle ≡ spot.handle
  pub same_level : page.level ≡ target
  pub keeps : passes page key ≡ false

same_lands : (h k : ℕ) (p q : Contents) → Stops (Lands h p) ≡ Stops (Lands k q) → (h ≡ k) × (p ≡ q)
same_lands h k p q e = (cc, cc)

module _ (reads : Reads) (target : ℕ) (asked : Mode) (key : List ℕ) where
  from_held : (spot : Spot) (handle : ℕ) (q page : Contents) → (p : Bool) → passes page key ≡ p → (t : Bool) → eqb page.level target ≡ t → onward target asked key spot None page ≡ Stops (Lands handle q)
      → IsHere target key (Held page) spot handle q
  from_held spot handle q page true e t d s = let both : Goes (record { handle = page.right; via = None; mode = mode_at target asked page.level }) ≡ Stops (Lands handle q) = rw e at s in absurd cc
  from_held spot handle q page false e false d s = let both : Goes (record { handle = child_of page key; via = None; mode = mode_at target asked (page.level - 1) }) ≡ Stops (Lands handle q) = rw (e, d) at s in absurd cc
  from_held spot handle q page false e true d s =
      let both : Stops (Lands spot.handle page) ≡ Stops (Lands handle q) = rw (e, d) at s in
      let same = same_lands spot.handle handle page q both in
      record {
        found_is = ap Held same.1;
        handle_is = sym same.0;
        same_level = ap (λ (c : Contents). c.level) (sym same.1) ∙ eqb-true page.level target d;
        keeps = ap (λ (c : Contents). passes c key) (sym same.1) ∙ e;
      }

  not_hinted : (spot : Spot) (via : Option ℕ) (handle : ℕ) (q page : Contents) → target < page.level → (p : Bool) → passes page key ≡ p → onward target asked key spot via page ≡ Stops (Lands handle q) → ⊥
  not_hinted spot via handle q page lt true e s = let both : Goes (record { handle = page.right; via = via; mode = mode_at target asked page.level }) ≡ Stops (Lands handle q) = rw e at s in absurd cc
  not_hinted spot via handle q page lt false e s =
      let other : eqb page.level target ≡ false = ne_eqb page.level target (λ d. omega arith) in
      let both : Goes (record { handle = child_of page key; via = via; mode = mode_at target asked (page.level - 1) }) ≡ Stops (Lands handle q) = rw (e, other) at s in absurd cc

  not_strayed : (via : Option ℕ) (handle : ℕ) (q : Contents) → Stops (strayed via) ≡ Stops (Lands handle q) → ⊥
  not_strayed None handle q s = absurd cc
  not_strayed (Some via) handle q s = absurd cc

  pub lands_here : (spot : Spot) (found : Found) (handle : ℕ) (q : Contents) → Finds reads target spot found → decide target asked key spot found ≡ Stops (Lands handle q) → IsHere target key found spot handle q
  lands_here spot Missing handle q f s = absurd cc
  lands_here spot NoPage handle q f s = absurd cc
  lands_here spot (Held page) handle q f s = from_held spot handle q page (passes page key) refl (eqb page.level target) refl s
  lands_here spot Strays handle q f s = absurd (not_strayed spot.via handle q s)
  lands_here spot (Hinted page) handle q f s = absurd (not_hinted spot (Some (block_at spot.handle)) handle q page (f.1).above (passes page key) refl s)
