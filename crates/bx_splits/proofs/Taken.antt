-- A split takes slots near an area; the pages that it puts stand in the place of pages, or of what was taken.
use Rattle.std.proofs.Common.{◌≡◌, ℕ, List, sym, subst, arith, inl, inr}
use Rattle.std.specs.Prelude.{Result, Ok, Err, OnOk, ◌⊎◌, ◌≢◌}
use Rattle.bx_base.specs.declared.names.Mode.TheVariants.{Exclusive}
use Rattle.bx_records.specs.Drafts.{Changed}
use Rattle.bx_page.specs.Contents.{Contents}
use Rattle.bx_truth.specs.Chunks.{block_at}
use Rattle.bx_views.specs.Truths.{Held, Hints}
use Rattle.bx_chunks.specs.Taking.{IsNoArea, TakesSlots, more, none}
use Rattle.bx_chunks.proofs.FairNeeds.{Shares}
use Rattle.bx_chunks.proofs.TakenSlots.{new_none, puts_other, read_none, still_none, taken_none}
use Rattle.bx_blink.specs.declared.error.BlinkError.{BlinkError}
use Rattle.bx_leaves.specs.Leaves.{PutsPage}
use Rattle.bx_splits.specs.declared.halves.Halves.{Halves}
use Rattle.bx_splits.specs.Cutting.{CutsAt, CutsPage, CutsRoot, RaisesAt, SplitsAt}
use Rattle.bx_splits.specs.Halves.{HalvesAt}

-- a page's kind is no area's
pub page_kind : (kind : ℕ) → kind ≡ 2 → kind ≢ 4
page_kind kind two four = omega (arith, two, four)

-- a page that is put
pub page_none : (held : Held) (old new : List Changed) (handle at : ℕ) (page : Contents) → PutsPage old new handle page → IsNoArea held old at → IsNoArea held new at
page_none held old new handle at page p is = subst (λ (d : List Changed). IsNoArea held d at) (sym p.put) (still_none held old at (block_at handle) p.block (page_kind p.block.kind p.has.kind) is)

pub page_taken : (held : Held) (near areas : ℕ) (from old new : List Changed) (handle : ℕ) (page : Contents) → PutsPage old new handle page → IsNoArea held old (block_at handle) → TakesSlots held near areas from old → TakesSlots held near areas from new
page_taken held near areas from old new handle page p is taken =
    subst (λ (d : List Changed). TakesSlots held near areas from d) (sym p.put) (puts_other held near areas from old (block_at handle) p.block taken is (page_kind p.block.kind p.has.kind))

module _ (areas near : ℕ) (held : Held) (old new : List Changed) (root handle : ℕ) (page : Contents) (is : IsNoArea held old (block_at handle)) where
  root_taken : handle ≡ root → (c : CutsRoot held old new root page near areas) → TakesSlots held near areas old new × IsNoArea held new (block_at c.left) × IsNoArea held new (block_at c.right)
  root_taken at_root c =
      let one = c.allots.0 in
      let two = c.two in
      let left_one = new_none held old one near areas c.left c.allots.1 in
      let left_two = taken_none held one two near areas c.right c.allots.2 (block_at c.left) left_one in
      let right_two = new_none held one two near areas c.right c.allots.2 in
      let root_two = taken_none held one two near areas c.right c.allots.2 (block_at root) (taken_none held old one near areas c.left c.allots.1 (block_at root) (subst (λ (h : ℕ). IsNoArea held old (block_at h)) at_root is)) in
      let left_four = page_none held c.three c.four c.right (block_at c.left) _ c.puts_other (page_none held two c.three c.left (block_at c.left) _ c.puts_first left_two) in
      let right_three = page_none held two c.three c.left (block_at c.right) _ c.puts_first right_two in
      let right_four = page_none held c.three c.four c.right (block_at c.right) _ c.puts_other right_three in
      let root_four = page_none held c.three c.four c.right (block_at root) _ c.puts_other (page_none held two c.three c.left (block_at root) _ c.puts_first root_two) in
      let taken_two = more one two c.right (more old one c.left none c.allots.1) c.allots.2 in
      let taken_three = page_taken held near areas old two c.three c.left _ c.puts_first left_two taken_two in
      let taken_four = page_taken held near areas old c.three c.four c.right _ c.puts_other right_three taken_three in (
        page_taken held near areas old c.four new root _ c.puts_root root_four taken_four,
        page_none held c.four new root (block_at c.left) _ c.puts_root left_four,
        page_none held c.four new root (block_at c.right) _ c.puts_root right_four,
      )

  page_cut_taken : (c : CutsPage held old new handle page near areas) → TakesSlots held near areas old new × IsNoArea held new (block_at handle) × IsNoArea held new (block_at c.right)
  page_cut_taken c =
      let right_one = new_none held old c.one near areas c.right c.allots in
      let here_one = taken_none held old c.one near areas c.right c.allots (block_at handle) is in
      let right_two = page_none held c.one c.two c.right (block_at c.right) _ c.puts_other right_one in
      let here_two = page_none held c.one c.two c.right (block_at handle) _ c.puts_other here_one in
      let taken_two = page_taken held near areas old c.one c.two c.right _ c.puts_other right_one (more old c.one c.right none c.allots) in (
        page_taken held near areas old c.two new handle _ c.puts_first here_two taken_two,
        page_none held c.two new handle (block_at handle) _ c.puts_first here_two,
        page_none held c.two new handle (block_at c.right) _ c.puts_first right_two,
      )

  pub cut_taken : (result : Result Unit BlinkError) → ((handle ≡ root) × RaisesAt held old new root page near areas result) ⊎ ((handle ≢ root) × CutsAt held old new handle page near areas result) → OnOk result (TakesSlots held near areas old new)
  cut_taken (Err e) c = tt
  cut_taken (Ok done) c = elim c [ inl r ↦ (root_taken r.0 r.1).0 | inr r ↦ (page_cut_taken r.1).0 ]

  -- the halves of a page
  pub halves_taken : (halves : Halves) → HalvesAt held old new root handle page near areas (Ok halves) → TakesSlots held near areas old new × IsNoArea held new (block_at halves.left) × IsNoArea held new (block_at halves.right)
  halves_taken halves h = elim h [
    | inl r ↦ (let c = root_taken r.0 (r.1).cuts in subst (λ (x : Halves). TakesSlots held near areas old new × IsNoArea held new (block_at x.left) × IsNoArea held new (block_at x.right)) (sym (r.1).halves_are) c)
    | inr r ↦ (let c = page_cut_taken (r.1).cuts in subst (λ (x : Halves). TakesSlots held near areas old new × IsNoArea held new (block_at x.left) × IsNoArea held new (block_at x.right)) (sym (r.1).halves_are) c)
  ]

pub split_taken : (areas near : ℕ) (held : Held) (hints : Hints) (old new : List Changed) (root handle : ℕ) → Shares held → (result : Result Unit BlinkError) → SplitsAt held hints old new root handle near areas result
    → OnOk result (TakesSlots held near areas old new)
split_taken areas near held hints old new root handle shares (Err e) s = tt
split_taken areas near held hints old new root handle shares (Ok done) s =
    let o = s.owned in
    cut_taken areas near held old new root handle s.page (read_none held old (block_at handle) Exclusive o.block shares o.there (page_kind o.block.kind o.has.kind)) (Ok done) s.cuts
