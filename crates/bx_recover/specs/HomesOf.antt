-- The newest blocks of records, and the runs that bring them home.
use Rattle.std.specs.Prelude.{◌≡◌, ℕ, List, map, reverse, Option}
use Rattle.std.specs.BTreeMap.{is_at}
use Rattle.std.specs.List.Sorted.{IsStrictlySortedBy}
use Rattle.std.specs.Map.{keys_of, lookup}
use Rattle.std.specs.Ordering.{nat_cmp}
use Rattle.bx_layout.specs.declared.block.Block.{Block}
use Rattle.bx_records.specs.Drafts.{Changed}
use Rattle.bx_records.specs.declared.runs.Run.{Run}
use Rattle.bx_redo.specs.Homes.{home_run}
use Rattle.bx_redo.specs.bx_volume.specs.Records.{Logged, newest_in}

-- the block with a number among others
abbrev pub numbered_in : List Changed → ℕ → Option Block
numbered_in blocks at = lookup (is_at (nat_cmp at)) blocks

-- These are the newest blocks of the records, the oldest of which comes first: each number once, in their order.
pub record AreNewestOf (records : List Logged) (blocks : List Changed) : Type 0 where
  pub each : (at : ℕ) → numbered_in blocks at ≡ newest_in (reverse records) at
  pub order : IsStrictlySortedBy nat_cmp (keys_of blocks)

-- the runs that write blocks into their homes
abbrev pub home_runs : ℕ → List Changed → List Run
home_runs devices blocks = map (λ block. home_run devices block.0 block.1) blocks
