-- What `split` does to a tree, by what it answers on any content.
use Rattle.std.proofs.Common.{◌≡◌, ℕ, ◌+◌, ◌<◌, ◌≤◌, List, length, Some, sym, ap, subst, ◌∙◌, inl, inr}
use Rattle.std.specs.Prelude.{Result, Ok, Err}
use Rattle.bx_base.specs.declared.names.Mode.TheVariants.{Exclusive}
use Rattle.bx_layout.specs.declared.block.Block.{Block}
use Rattle.bx_records.specs.Drafts.{Changed}
use Rattle.bx_page.specs.Contents.{Contents, size}
use Rattle.bx_page.proofs.Whole.{one_page}
use Rattle.bx_truth.specs.Chunks.{block_at, chunks_of}
use Rattle.bx_truth.specs.PageTrees.{Chunks, HasPage, IsNode, Node, PageTree, IsPageOf}
use Rattle.bx_views.specs.Truths.{Truth, Held, Hints, with_draft}
use Rattle.bx_blink.specs.declared.error.BlinkError.{BlinkError}
use Rattle.bx_blink.specs.declared.error.BlinkError.TheVariants.{Need, Stale, Full, NoRoom, Absent, Present, OutOfMemory, Crowded}
use Rattle.bx_blink.specs.Walks.{Reads, reads_with}
use Rattle.bx_blink.specs.Hints.{Under}
use Rattle.bx_blink.proofs.Under.{agrees}
use Rattle.bx_splits.specs.Cutting.{IsOwnPage, IsOther, CutsOwned, SplitsAt}
use Rattle.bx_splits.specs.Splits.{page, top, SplitsIn}
use Rattle.bx_splits.proofs.Enough.{enough}
use Rattle.bx_splits.proofs.HalvesTree.{halves_fail, page_halves, root_halves}

module _ (areas near : ℕ) (held : Held) (hints : Hints) (truth : Truth) (old new : List Changed) (root : ℕ) (tree : PageTree) (handle : ℕ) (u : Under areas held hints truth old root tree)
    (node : Node) (i : IsPageOf tree node) (there : node.handle ≡ handle)
    (full : (contents : Contents) → IsOwnPage (reads_with held hints old) handle contents → 4096 < size contents + 544) where
  abbrev reads : Reads
  reads = reads_with held hints old

  abbrev chunks : Chunks
  chunks = chunks_of areas (with_draft truth old)

  n : IsNode (chunks_of areas (with_draft truth old)) i.level node
  n = ((u.is).levels i.level i.within).nodes_are node i.there

  -- what is held is the page
  same_block : (block : Block) → reads.held (block_at handle) Exclusive ≡ Some block → block ≡ n.block
  same_block block e = ((agrees areas held hints truth old root tree u).sees).same handle Exclusive block n.block e (ap chunks (sym there) ∙ n.chunk)

  same_contents : (contents : Contents) → IsOwnPage (reads_with held hints old) handle contents → contents ≡ node.page
  same_contents contents o = one_page contents node.page (n.block).payload (subst (λ (b : Block). HasPage contents b) (same_block o.block o.there) o.has).spells (n.has).spells

  not_other : IsOther (reads_with held hints old) handle → ⊥
  not_other o = elim o.other [
    | inl differs ↦ differs (ap (λ (b : Block). b.handle) (same_block o.block o.there) ∙ ((agrees areas held hints truth old root tree u).sees).header handle n.block (ap chunks (sym there) ∙ n.chunk))
    | inr none ↦ none node.page (subst (λ (b : Block). HasPage node.page b) (sym (same_block o.block o.there)) n.has)
  ]

  more : (contents : Contents) → IsOwnPage (reads_with held hints old) handle contents → 2 ≤ length node.page.entries
  more contents o = subst (λ (c : Contents). 2 ≤ length c.entries) (same_contents contents o) (enough reads handle contents o (full contents o))

  owned_in : (result : Result Unit BlinkError) → CutsOwned held hints old new root handle near areas result → SplitsIn areas held hints truth old new root tree handle result
  owned_in (Ok done) c =
      let same = same_contents c.page c.owned in
      let enough = more c.page c.owned in
      elim c.cuts [
        | inl r ↦ top (r.1).left (r.1).right r.0 (root_halves areas near held hints truth old new root tree handle u node i there c.page same enough r.0 r.1).grows
        | inr r ↦ page (r.1).right r.0 (page_halves areas near held hints truth old new root tree handle u node i there c.page same enough r.0 r.1).grows
      ]
  owned_in (Err e) c = halves_fail areas near held hints truth old new root tree handle u node i there c.page (same_contents c.page c.owned) e c.cuts

pub splits_in : (areas near : ℕ) (held : Held) (hints : Hints) (truth : Truth) (old new : List Changed) (root : ℕ) (tree : PageTree) (handle : ℕ) → Under areas held hints truth old root tree
    → (node : Node) → IsPageOf tree node → node.handle ≡ handle → ((contents : Contents) → IsOwnPage (reads_with held hints old) handle contents → 4096 < size contents + 544)
    → (result : Result Unit BlinkError) → SplitsAt held hints old new root handle near areas result → SplitsIn areas held hints truth old new root tree handle result
splits_in areas near held hints truth old new root tree handle u node i there full (Ok done) s = owned_in areas near held hints truth old new root tree handle u node i there full (Ok done) s
splits_in areas near held hints truth old new root tree handle u node i there full (Err (Full spare)) s = elim s [ inl o ↦ absurd o | inr c ↦ owned_in areas near held hints truth old old root tree handle u node i there full (Err (Full spare)) c ]
splits_in areas near held hints truth old new root tree handle u node i there full (Err (Need at mode)) s = tt
splits_in areas near held hints truth old new root tree handle u node i there full (Err Crowded) s = tt
splits_in areas near held hints truth old new root tree handle u node i there full (Err OutOfMemory) s = tt
splits_in areas near held hints truth old new root tree handle u node i there full (Err Stale) s = elim s [
  | inl o ↦ not_other areas near held hints truth old new root tree handle u node i there full o
  | inr c ↦ owned_in areas near held hints truth old old root tree handle u node i there full (Err Stale) c
]
splits_in areas near held hints truth old new root tree handle u node i there full (Err (NoRoom leaf)) s = elim s [ inl o ↦ absurd o | inr c ↦ owned_in areas near held hints truth old old root tree handle u node i there full (Err (NoRoom leaf)) c ]
splits_in areas near held hints truth old new root tree handle u node i there full (Err Absent) s = elim s [ inl o ↦ absurd o | inr c ↦ owned_in areas near held hints truth old old root tree handle u node i there full (Err Absent) c ]
splits_in areas near held hints truth old new root tree handle u node i there full (Err Present) s = elim s [ inl o ↦ absurd o | inr c ↦ owned_in areas near held hints truth old old root tree handle u node i there full (Err Present) c ]
