-- Chunks by the headers of blocks.
use Rattle.std.proofs.Common.{◌≡◌, ℕ, refl, Option, Some, None}
use Rattle.bx_layout.specs.declared.block.Block.{Block}
use Rattle.bx_truth.specs.PageTrees.{Chunks}
use Rattle.bx_homes.specs.Slots.{StaysSo}
use Rattle.bx_audit_pages.specs.Shown.{Shows}

-- what names no block
pub names_none : (chunks : Chunks) (handle : ℕ) → ((block : Block) → chunks handle ≡ Some block → ⊥) → chunks handle ≡ None
names_none chunks handle never = by (chunks handle) refl
  where
    by : (o : Option Block) → chunks handle ≡ o → chunks handle ≡ None
    by None is = is
    by (Some block) is = absurd (never block is)

-- what stays is shown as before
pub still_shows : (told now_told : Type 0) (areas : ℕ) (before now : ℕ → Block → Type 0) (chunks : Chunks) → (told → now_told) → (told → StaysSo before now) → Shows told areas before chunks → Shows now_told areas now chunks
still_shows told now_told areas before now chunks keeps stays shows = record {
  told = keeps shows.told;
  each = λ handle block is.
      let x = shows.each handle block is in record { slot = x.slot; some = x.some; there = (stays shows.told _ block).0 x.there; header = x.header };
  all = λ handle block is. shows.all handle block record { slot = is.slot; some = is.some; there = (stays shows.told _ block).1 is.there; header = is.header };
  none = shows.none;
}
