-- A post takes slots near an area; the pages that it puts stand in the place of pages, or of what was taken.
use Rattle.std.proofs.Common.{◌≡◌, ℕ, Bool, true, false, List, refl, sym, subst, inl, inr}
use Rattle.std.specs.Prelude.{Result, Ok, Err, OnOk}
use Rattle.bx_base.specs.declared.names.Mode.TheVariants.{Exclusive}
use Rattle.bx_records.specs.Drafts.{Changed}
use Rattle.bx_page.specs.Contents.{Contents}
use Rattle.bx_truth.specs.Chunks.{block_at}
use Rattle.bx_views.specs.Truths.{Held, Hints}
use Rattle.bx_chunks.specs.Taking.{IsNoArea, TakesSlots, none}
use Rattle.bx_chunks.proofs.FairNeeds.{Shares}
use Rattle.bx_chunks.proofs.TakenSlots.{read_none}
use Rattle.bx_blink.specs.declared.error.BlinkError.{BlinkError}
use Rattle.bx_blink.specs.Walks.{Reads, reads_with, passes, most, start}
use Rattle.bx_blink.proofs.Landings.{landing}
use Rattle.bx_splits.specs.declared.halves.Halves.{Halves}
use Rattle.bx_splits.specs.Halves.{half_in}
use Rattle.bx_splits.proofs.Taken.{halves_taken, page_kind, page_taken}
use Rattle.bx_posts.specs.declared.posting.Posted.{Posted}
use Rattle.bx_posts.specs.declared.posting.Posted.TheVariants.{Put, SplitAlone}
use Rattle.bx_posts.specs.declared.separators.Separator.{Separator}
use Rattle.bx_posts.specs.Parents.{PutsAt, PutsInHalf, PutsInParent}
use Rattle.bx_posts.specs.Posts.{PostsAt}

put_taken : (held : Held) (near areas : ℕ) (from old new : List Changed) (h : ℕ) (contents : Contents) (separator : Separator) (posted : Posted) → TakesSlots held near areas from old → IsNoArea held old (block_at h)
    → PutsAt old new h contents separator (Ok posted) → TakesSlots held near areas from new
put_taken held near areas from old new h contents separator Put taken is s = page_taken held near areas from old new h _ s is taken
put_taken held near areas from old new h contents separator SplitAlone taken is s = subst (λ (d : List Changed). TakesSlots held near areas from d) (sym s.0) taken

half_none : (held : Held) (draft : List Changed) (halves : Halves) (key : List ℕ) → IsNoArea held draft (block_at halves.left) → IsNoArea held draft (block_at halves.right) → IsNoArea held draft (block_at (half_in halves key).0)
half_none held draft halves key left right = by_test (passes halves.first key) refl
  where
    by_test : (b : Bool) → passes halves.first key ≡ b → IsNoArea held draft (block_at (half_in halves key).0)
    by_test false e = rw e left
    by_test true e = rw e right

module _ (areas near : ℕ) (held : Held) (hints : Hints) (old new : List Changed) (root handle : ℕ) (shares : Shares held) where
  in_half : (p : ℕ) (contents : Contents) (separator : Separator) (posted : Posted) → IsNoArea held old (block_at p) → PutsInHalf held old new root p contents separator near areas (Ok posted) → TakesSlots held near areas old new
  in_half p contents separator posted is q =
      let h = halves_taken areas near held old q.mid root p contents is q.halves q.splits in
      put_taken held near areas old q.mid new (half_in q.halves separator.key).0 (half_in q.halves separator.key).1 separator posted h.0 (half_none held q.mid q.halves separator.key h.1 h.2) q.puts

  there : (p : ℕ) (contents : Contents) (separator : Separator) (posted : Posted) → IsNoArea held old (block_at p) → PutsInParent held old new root p contents separator near areas (Ok posted) → TakesSlots held near areas old new
  there p contents separator Put is s = elim s [ inl r ↦ put_taken held near areas old old new p contents separator Put none is r.1 | inr t ↦ in_half p contents separator Put is t.1 ]
  there p contents separator SplitAlone is s = in_half p contents separator SplitAlone is s.1

  pub post_taken : (result : Result Posted BlinkError) → PostsAt held hints old new root handle near areas result → OnOk result (TakesSlots held near areas old new)
  post_taken (Err e) s = tt
  post_taken (Ok posted) s =
      let reads : Reads = reads_with held hints old in
      let found = (s.finds).found in
      let l = landing reads s.separator.level Exclusive s.separator.key most (start root Exclusive) s.parent s.page found.end in
      there s.parent s.page s.separator posted (read_none held old (block_at s.parent) _ l.block shares l.there (page_kind l.block.kind l.has.kind)) s.puts
