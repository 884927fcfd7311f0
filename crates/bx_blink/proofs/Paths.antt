-- What a walk needs is on its path, and isn't held so.
use Rattle.std.proofs.Common.{◌≡◌, ℕ, zero, suc, ◌-◌, Bool, true, false, eqb, List, Option, Some, None, refl, sym, ap, subst, ◌∙◌, inl, inr}
use Rattle.std.specs.Prelude.{◌⊎◌}
use Rattle.bx_base.specs.declared.names.Mode.{Mode}
use Rattle.bx_base.specs.declared.names.Mode.TheVariants.{Shared}
use Rattle.bx_page.specs.Contents.{Contents}
use Rattle.bx_blink.specs.declared.steps.Spot.{Spot}
use Rattle.bx_blink.specs.declared.steps.Found.{Found}
use Rattle.bx_blink.specs.declared.steps.Found.TheVariants.{Missing, Strays, NoPage, Held, Hinted}
use Rattle.bx_blink.specs.declared.steps.End.TheVariants.{Needs, Lands}
use Rattle.bx_blink.specs.declared.steps.Out.{Out}
use Rattle.bx_blink.specs.declared.steps.Out.TheVariants.{Goes, Stops}
use Rattle.bx_truth.specs.Chunks.{block_at}
use Rattle.bx_blink.specs.Walks.{Reads, Finds, passes, mode_at, child_of, onward, strayed, decide, Follows, Ends, MayAsk, as_said, shared, OnPath, start}

-- a spot that a hint led to: the hinted page's block isn't held, and is on the path
unfoldable pub Led : Reads → (ℕ → Mode → Type 0) → Spot → Type 0
Led reads P spot = (via : ℕ) → spot.via ≡ Some via → (reads.held via Shared ≡ None) × P via Shared

module _ (reads : Reads) (target : ℕ) (asked : Mode) (key : List ℕ) where
  -- no page of a step wants anything
  onward_needs : (spot : Spot) (via : Option ℕ) (page : Contents) (at : ℕ) (mode : Mode) → (p : Bool) → passes page key ≡ p → (t : Bool) → eqb page.level target ≡ t → Stops (Needs at mode) ≡ onward target asked key spot via page → ⊥
  onward_needs spot via page at mode true e t f s = let both : Stops (Needs at mode) ≡ Goes (record { handle = page.right; via = via; mode = mode_at target asked page.level }) = rw e at s in absurd cc
  onward_needs spot via page at mode false e true f s = let both : Stops (Needs at mode) ≡ Stops (Lands spot.handle page) = rw (e, f) at s in absurd cc
  onward_needs spot via page at mode false e false f s = let both : Stops (Needs at mode) ≡ Goes (record { handle = child_of page key; via = via; mode = mode_at target asked (page.level - 1) }) = rw (e, f) at s in absurd cc

  same_needs : (a b : ℕ) (m n : Mode) → Stops (Needs a m) ≡ Stops (Needs b n) → (a ≡ b) × (m ≡ n)
  same_needs a b m n e = (cc, cc)

  pub stop : (P : ℕ → Mode → Type 0) (spot : Spot) (found : Found) (at : ℕ) (mode : Mode) → Finds reads target spot found → Stops (Needs at mode) ≡ decide target asked key spot found → Led reads P spot
      → (reads.held at Shared ≡ None) × (P at mode ⊎ MayAsk reads target asked spot at mode)
  unfolding Led
  stop P spot Missing at mode f s led =
      let same = same_needs at (block_at spot.handle) mode spot.mode s in
      rw (same.0, same.1) (f.0, inr as_said)
  stop P spot Strays at mode f s led = by_via spot.via refl s
    where
      by_via : (via : Option ℕ) → spot.via ≡ via → Stops (Needs at mode) ≡ Stops (strayed via) → (reads.held at Shared ≡ None) × (P at mode ⊎ MayAsk reads target asked spot at mode)
      by_via None e q = absurd cc
      by_via (Some via) e q =
          let same = same_needs at via mode Shared q in
          let l = led via e in
          rw (same.0, same.1) (l.0, inl l.1)
  stop P spot NoPage at mode f s led = absurd cc
  stop P spot (Held page) at mode f s led = absurd (onward_needs spot None page at mode (passes page key) refl (eqb page.level target) refl s)
  stop P spot (Hinted page) at mode f s led = absurd (onward_needs spot (Some (block_at spot.handle)) page at mode (passes page key) refl (eqb page.level target) refl s)

  onward_via : (spot next : Spot) (via : Option ℕ) (page : Contents) → (p : Bool) → passes page key ≡ p → (t : Bool) → eqb page.level target ≡ t → onward target asked key spot via page ≡ Goes next → next.via ≡ via
  onward_via spot next via page true e t f s = let both : Goes (record { handle = page.right; via = via; mode = mode_at target asked page.level }) ≡ Goes next = rw e at s in via_is (record { handle = page.right; via = via; mode = mode_at target asked page.level }) next both
    where
      via_is : (a b : Spot) → Goes a ≡ Goes b → b.via ≡ a.via
      via_is a b q = let same : a ≡ b = cc in ap (λ (x : Spot). x.via) (sym same)
  onward_via spot next via page false e true f s = let both : Stops (Lands spot.handle page) ≡ Goes next = rw (e, f) at s in absurd cc
  onward_via spot next via page false e false f s = let both : Goes (record { handle = child_of page key; via = via; mode = mode_at target asked (page.level - 1) }) ≡ Goes next = rw (e, f) at s in via_is (record { handle = child_of page key; via = via; mode = mode_at target asked (page.level - 1) }) next both
    where
      via_is : (a b : Spot) → Goes a ≡ Goes b → b.via ≡ a.via
      via_is a b q = let same : a ≡ b = cc in ap (λ (x : Spot). x.via) (sym same)

  some_is : (a b : ℕ) → Some a ≡ Some b → a ≡ b
  some_is a b e = cc

  -- the next spot is led to by a hint, or by none
  pub next_led : (P : ℕ → Mode → Type 0) (spot next : Spot) (found : Found) → Finds reads target spot found → decide target asked key spot found ≡ Goes next → P (block_at spot.handle) Shared → Led reads P next
  unfolding Led
  next_led P spot next Missing f d p = absurd cc
  next_led P spot next Strays f d p = absurd cc
  next_led P spot next NoPage f d p = absurd cc
  next_led P spot next (Held page) f d p = λ via e. let none : None ≡ Some via = sym (onward_via spot next None page (passes page key) refl (eqb page.level target) refl d) ∙ e in absurd cc
  next_led P spot next (Hinted page) f d p = λ via e.
      let same : block_at spot.handle ≡ via = some_is (block_at spot.handle) via (sym (onward_via spot next (Some (block_at spot.handle)) page (passes page key) refl (eqb page.level target) refl d) ∙ e) in
      (subst (λ (a : ℕ). reads.held a Shared ≡ None) same f.0, subst (λ (a : ℕ). P a Shared) same p)

  -- What a walk needs isn't held and is on the path, or on what was passed before.
  pub needs : (P : ℕ → Mode → Type 0) (n : ℕ) (spot : Spot) (at : ℕ) (mode : Mode) → Ends reads target asked key n spot (Needs at mode) → Led reads P spot → ((a : ℕ) (m : Mode) → OnPath reads target asked key n spot a m → P a m)
      → (reads.held at Shared ≡ None) × P at mode
  unfolding Ends OnPath
  needs P zero spot at mode e led all = absurd cc
  needs P (suc n) spot at mode e led all = by_out (decide target asked key spot e.0) refl e.2 (λ next. needs P n next at mode)
    where
      by_out : (out : Out) → decide target asked key spot e.0 ≡ out → Follows (λ next. Ends reads target asked key n next (Needs at mode)) (Needs at mode) out
          → ((next : Spot) → Ends reads target asked key n next (Needs at mode) → Led reads P next → ((a : ℕ) (m : Mode) → OnPath reads target asked key n next a m → P a m) → (reads.held at Shared ≡ None) × P at mode)
          → (reads.held at Shared ≡ None) × P at mode
      by_out (Goes next) d f rest = rest next f (next_led P spot next e.0 e.1 d (all (block_at spot.handle) Shared (inl shared))) (λ a m o. all a m (inr (e.0, e.1, next, d, o)))
      by_out (Stops end) d f rest =
          let s = stop P spot e.0 at mode e.1 (ap Stops f ∙ sym d) led in
          (s.0, elim s.1 [ inl p ↦ p | inr a ↦ all at mode (inl a) ])

-- no hint led to the root
pub not_led : (reads : Reads) (P : ℕ → Mode → Type 0) (root : ℕ) (asked : Mode) → Led reads P (start root asked)
unfolding Led
not_led reads P root asked = λ via e. absurd (none_some via e)
  where
    none_some : (via : ℕ) → None ≡ Some via → ⊥
    none_some via e = cc
