-- A page without a right neighbour mayn't be posted.
use Rattle.std.proofs.Common.{◌≡◌, ℕ, List, Option, Some, None, true, false}
use Rattle.std.specs.Prelude.{IsSome, IsTrue, ◌↔◌}
use Rattle.bx_base.specs.declared.names.Mode.TheVariants.{Shared}
use Rattle.bx_layout.specs.declared.block.Block.{Block}
use Rattle.bx_page.specs.Contents.{Contents}
use Rattle.bx_truth.specs.Chunks.{block_at}
use Rattle.bx_truth.specs.PageTrees.{HasPage}
use Rattle.bx_blink.specs.Walks.{Reads}
use Rattle.bx_posts.specs.Separators.{MayPost}

no_some : (o : Option (List ℕ)) → o ≡ None → IsSome o → ⊥
no_some None e s = let both : false ≡ true = s in absurd cc
no_some (Some x) e s = absurd cc

pub last_page : (reads : Reads) (handle : ℕ) (block : Block) (page : Contents) → reads.held (block_at handle) Shared ≡ Some block → block.handle ≡ handle → HasPage page block → page.high ≡ None → IsTrue false ↔ MayPost reads handle
last_page reads handle block page there header has is = (
  (λ t. let both : false ≡ true = t in absurd cc),
  (λ may. absurd (no_some page.high is (may page (record { block = block; there = there; header = header; has = has })))),
)
