-- A leaf that refused an entry for want of room may be split.
use Rattle.std.proofs.Common.{◌≡◌, ℕ, ◌+◌, ◌<◌, ◌≤◌, List, [], length, Some, sym, ap, subst, ◌∙◌, arith, inl, inr}
use Rattle.bx_base.specs.declared.names.Mode.TheVariants.{Shared, Exclusive}
use Rattle.bx_layout.specs.declared.block.Block.{Block}
use Rattle.bx_page.specs.Contents.{Contents, size}
use Rattle.bx_page.proofs.Room.{size_with-le}
use Rattle.bx_page.proofs.Whole.{one_page}
use Rattle.bx_truth.specs.PageTrees.{HasPage}
use Rattle.bx_views.specs.Truths.{Held, Hints}
use Rattle.bx_blink.specs.Walks.{Reads, reads_with, most, start}
use Rattle.bx_blink.proofs.Landings.{landing}
use Rattle.bx_leaves.specs.Leaves.{RefusesEntry}
use Rattle.bx_splits.specs.Cutting.{IsOwnPage}

some_same : (a b : Block) → Some a ≡ Some b → a ≡ b
some_same a b e = cc

same_page : (a b : Block) (p q : Contents) → a ≡ b → HasPage p a → HasPage q b → p ≡ q
same_page a b p q e hp hq = one_page p q b.payload (subst (λ (x : Block). HasPage p x) e hp).spells hq.spells

pub refused_full : (held : Held) (hints : Hints) (root : ℕ) (key value : List ℕ) (handle : ℕ) → ((at : ℕ) (block : Block) → held at Exclusive ≡ Some block → held at Shared ≡ Some block) → length key + length value ≤ 268
    → RefusesEntry held (reads_with held hints []) root key value handle → (contents : Contents) → IsOwnPage (reads_with held hints []) handle contents → 4096 < size contents + 544
refused_full held hints root key value handle shares both r contents o = elim r.full [
  | inl n ↦ (
      let same : n.page ≡ contents = same_page n.block o.block n.page contents (some_same n.block o.block (sym n.there ∙ o.there)) n.has o.has in
      let sizes : size n.page ≡ size contents = ap size same in
      let full = n.full in
      omega (arith, sizes, full))
  | inr more ↦ (
      let reads : Reads = reads_with held hints [] in
      let l = landing reads 0 Exclusive key most (start root Exclusive) handle r.page ((r.lacks).leaf).end in
      let same : r.page ≡ contents = same_page l.block o.block r.page contents (some_same l.block o.block (sym l.there ∙ shares _ o.block o.there)) l.has o.has in
      let sizes : size r.page ≡ size contents = ap size same in
      let le = size_with-le r.page key value in
      omega (arith, sizes, le, more, both))
]
