-- What the steps of a change come to.
use Rattle.std.proofs.Common.{◌≡◌, ℕ, ◌+◌, List, Some, sym, ap, subst, ◌∙◌, arith}
use Rattle.std.specs.Prelude.{Result, Ok, Err, IsTrue, nat_lt, ◌↔◌}
use Rattle.std.proofs.lemmas.Bool.Decides.{nat_tests}
use Rattle.bx_base.specs.declared.names.Mode.TheVariants.{Exclusive}
use Rattle.bx_layout.specs.declared.block.Block.{Block}
use Rattle.bx_records.specs.Drafts.{Changed}
use Rattle.bx_page.specs.Contents.{Contents, size, with_value}
use Rattle.bx_page.proofs.Whole.{one_page}
use Rattle.bx_blink.specs.bx_truth.specs.Chunks.{block_at}
use Rattle.bx_blink.specs.bx_truth.specs.PageTrees.{HasPage}
use Rattle.bx_blink.specs.bx_views.specs.Truths.{Held, Hints}
use Rattle.bx_blink.specs.declared.error.BlinkError.{BlinkError}
use Rattle.bx_blink.specs.declared.error.BlinkError.TheVariants.{Need, Stale, Full, NoRoom, Absent, Present, OutOfMemory, Crowded}
use Rattle.bx_blink.specs.Walks.{reads_with}
use Rattle.bx_leaves.specs.Leaves.{IsPageNearlyFull, TakesEntry, PutsOrNot, InsertsAt}

same_block : (a b : Block) → Some a ≡ Some b → a ≡ b
same_block a b e = cc

pub nearly_full : (held : Held) (handle : ℕ) (block : Block) (page : Contents) (room : ℕ) → held (block_at handle) Exclusive ≡ Some block → block.handle ≡ handle → HasPage page block → room + size page ≡ 4096
    → IsTrue (nat_lt room 544) ↔ IsPageNearlyFull held handle
nearly_full held handle block page room there header has sum = (
  (λ less. record { block = block; there = there; header = header; page = page; has = has; full = grind (arith, nat_tests, less, sum) }),
  (λ n.
      let blocks : n.block ≡ block = same_block n.block block (sym n.there ∙ there) in
      let pages : n.page ≡ page = one_page n.page page block.payload (subst (λ (b : Block). HasPage n.page b) blocks n.has).spells has.spells in
      let sizes : size n.page ≡ size page = ap size pages in
      let full = n.full in
      grind (arith, nat_tests, sizes, full, sum)),
)

pub put_then : (held : Held) (hints : Hints) (old new : List Changed) (root : ℕ) (key value : List ℕ) (handle : ℕ) (page : Contents) → TakesEntry held (reads_with held hints old) root key value handle page
    → (result : Result Unit BlinkError) → PutsOrNot old new handle (with_value page key value) result → InsertsAt held hints old new root key value result
put_then held hints old new root key value handle page takes (Ok done) p = record { handle = handle; page = page; takes = takes; puts = p }
put_then held hints old new root key value handle page takes (Err Crowded) p = (handle, page, takes, p)
put_then held hints old new root key value handle page takes (Err OutOfMemory) p = tt
put_then held hints old new root key value handle page takes (Err (Need at mode)) p = absurd p
put_then held hints old new root key value handle page takes (Err Stale) p = absurd p
put_then held hints old new root key value handle page takes (Err (Full spare)) p = absurd p
put_then held hints old new root key value handle page takes (Err (NoRoom leaf)) p = absurd p
put_then held hints old new root key value handle page takes (Err Absent) p = absurd p
put_then held hints old new root key value handle page takes (Err Present) p = absurd p
