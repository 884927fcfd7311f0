-- What a node may change: blocks of the volume, where it holds them.
use Rattle.std.proofs.Common.{◌≡◌, ◌∙◌, ℕ, ◌≤◌, false, true, List, Option, Some, None, IfSome, IsSome, sym, subst, arith}
use Rattle.bx_base.specs.declared.names.Mode.{Mode}
use Rattle.bx_base.specs.declared.names.Mode.TheVariants.{Shared, Exclusive}
use Rattle.bx_layout.specs.Blocks.{HasParts}
use Rattle.bx_layout.specs.declared.block.Block.{Block}
use Rattle.bx_node_cache.specs.Kept.{CacheView, held_in, kept_in, shown, shown_of}
use Rattle.bx_node_cache.specs.declared.cache.Kept.{Kept}
use Rattle.bx_places.specs.Places.{IsBlock}
use Rattle.bx_records.specs.Drafts.{Changed, block_in}
use Rattle.bx_records.specs.Runs.{KindAndRuns}
use Rattle.bx_redo.specs.Steps.{AreBlocksOf, Steps, with_work, writes}
use Rattle.bx_redo.specs.View.{LogView}
use Rattle.bx_redo.specs.declared.work.Move.{Move}
use Rattle.bx_redo.specs.declared.work.Move.TheVariants.{Write}
use Rattle.bx_redo.specs.declared.work.Work.{Work}
use Rattle.bx_views.specs.Attempts.{IsHeldDraft}

shows_it : (mode way : Mode) (block other : Block) → shown mode way block ≡ Some other → block ≡ other
shows_it Exclusive way block other is = cc
shows_it Shared Shared block other is = cc
shows_it Shared Exclusive block other is = absurd cc

module _ (cache : CacheView) (are : (at : ℕ) → IfSome (kept_in cache.kept at) (λ one. IsBlock cache.areas at × HasParts one.block)) where
  parts : (at : ℕ) (mode : Mode) (block : Block) → held_in cache.kept at mode ≡ Some block → HasParts block
  parts at mode block is = by (kept_in cache.kept at) (are at) is
    where
      by : (found : Option Kept) → IfSome found (λ one. IsBlock cache.areas at × HasParts one.block) → shown_of found mode ≡ Some block → HasParts block
      by None none shows = absurd cc
      by (Some one) whole shows = subst HasParts (shows_it one.mode mode one.block block shows) whole.1

  is_block : (at : ℕ) → IsSome (held_in cache.kept at Exclusive) → IsBlock cache.areas at
  is_block at some = by (kept_in cache.kept at) (are at) some
    where
      by : (found : Option Kept) → IfSome found (λ one. IsBlock cache.areas at × HasParts one.block) → IsSome (shown_of found Exclusive) → IsBlock cache.areas at
      by None none shows = absurd cc
      by (Some one) whole shows = whole.0

  some_in : (found : Option Block) (block : Block) → found ≡ Some block → IsSome found
  some_in found block is = cc

  -- A draft of blocks that are held is one of blocks of the volume.
  pub held_blocks : (draft : List Changed) → IsHeldDraft (held_in cache.kept) draft → AreBlocksOf cache.areas draft
  held_blocks draft held at block is = (is_block at (held.each at (some_in (block_in draft at) block is)), held.parts (λ one mode found shows. parts one mode found shows) at block is)

-- So it is of some volume.
pub of_some : (areas : ℕ) (draft : List Changed) → areas ≤ 64 → AreBlocksOf areas draft → AreBlocksOf 64 draft
of_some areas draft few are at block is =
    let both = are at block is in
    (record { area = (let a = both.0.area in omega (arith, a, few)); slot = both.0.slot }, both.1)

-- Writes of the same runs.
pub one_write : (a b : KindAndRuns) → Write a ≡ Write b → a ≡ b
one_write a b e = cc

-- A work that a log was given asks for its write first.
pub asks_first : (old begun log : LogView) (work : Work) (move : Move) (runs : KindAndRuns) → begun ≡ with_work old work → Steps begun.out false begun log move → move ≡ Write runs
    → (log ≡ record old { work = work; out = true }) × (runs ≡ writes (with_work old work) work)
asks_first old begun log work move runs is steps wrote =
    let asks = subst (λ (b : LogView). Steps b.out false b log move) is steps in
    (asks.now, sym (one_write (writes (with_work old work) work) runs (sym asks.asks ∙ wrote)))
