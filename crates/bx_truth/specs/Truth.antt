-- Truths of a volume: what its blocks are, wherever they stand. Numbers that are no block's of the volume tell nothing.
use Rattle.std.specs.Prelude.{◌≡◌, ℕ}
use Rattle.bx_places.specs.Places.{IsBlock}
use Rattle.bx_views.specs.Truths.{Truth}

-- The two are the same on the blocks of a volume with so many areas.
abbrev pub AreSame : ℕ → Truth → Truth → Type 0
AreSame areas one other = (at : ℕ) → IsBlock areas at → one at ≡ other at
