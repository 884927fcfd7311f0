-- What a cache keeps: the blocks that are held, and hints of others.
use Rattle.std.specs.Prelude.{◌≡◌, ◌≢◌, ◌⊎◌, ℕ, false, true, List, Contains, Option, Some, None, IfSome, filter, if◌then◌else◌, map, option_map}
use Rattle.std.specs.BTreeMap.{is_at}
use Rattle.std.specs.Map.{lookup}
use Rattle.std.specs.Ordering.{nat_cmp}
use Rattle.bx_base.specs.declared.names.Mode.{Mode}
use Rattle.bx_base.specs.declared.names.Mode.TheVariants.{Shared, Exclusive}
use Rattle.bx_layout.specs.declared.block.Block.{Block}
use Rattle.bx_layout.specs.Blocks.{HasParts}
use Rattle.bx_node_cache.specs.declared.cache.Kept.{Kept}
use Rattle.bx_places.specs.Places.{IsBlock, IsVolume}
use Rattle.bx_records.specs.Drafts.{Changed, block_in}
use Rattle.bx_records.specs.declared.runs.Run.{Run}
use Rattle.bx_redo.specs.Homes.{home_run}
use Rattle.bx_views.specs.Truths.{Held, Hints}

-- how a cache is seen: what is held and what is hinted, in the order of the blocks' numbers
pub record CacheView : Type 0 where
  pub devices : ℕ
  pub areas : ℕ
  pub kept : List (ℕ × Kept)
  pub hinted : List (ℕ × Block)

-- what is kept of a block
abbrev pub kept_in : List (ℕ × Kept) → ℕ → Option Kept
kept_in kept at = lookup (is_at (nat_cmp at)) kept

-- A block that is held exclusively may be had in both modes, a shared one as shared.
abbrev pub shown : Mode → Mode → Block → Option Block
shown Exclusive mode block = Some block
shown Shared Shared block = Some block
shown Shared Exclusive block = None

abbrev pub shown_of : Option Kept → Mode → Option Block
shown_of None mode = None
shown_of (Some one) mode = shown one.mode mode one.block

abbrev pub held_in : List (ℕ × Kept) → Held
held_in kept at mode = shown_of (kept_in kept at) mode

abbrev pub hint_in : List (ℕ × Block) → Hints
hint_in hinted at = lookup (is_at (nat_cmp at)) hinted

-- a block, where it was committed and isn't home yet
abbrev pub away_of : Option Kept → Option Block
away_of None = None
away_of (Some one) = if one.committed then Some one.block else None

abbrev pub away_in : List (ℕ × Kept) → ℕ → Option Block
away_in kept at = away_of (kept_in kept at)

-- the writes that bring home what was committed, in order
abbrev pub home_runs : ℕ → List (ℕ × Kept) → List Run
home_runs devices kept = map (λ (one : ℕ × Kept). home_run devices one.0 one.1.block) (filter (λ (one : ℕ × Kept). one.1.committed) kept)

-- A run is the home of a block that isn't home yet.
pub record IsHomeOf (devices areas : ℕ) (away : ℕ → Option Block) (run : Run) : Type 0 where
  pub at : ℕ
  pub is : IsBlock areas at
  pub block : Block
  pub parts : HasParts block
  pub is_away : away at ≡ Some block
  pub run_is : run ≡ home_run devices at block

-- The runs are the homes of all blocks that aren't home yet, and of no others.
pub record AreHomesOf (devices areas : ℕ) (away : ℕ → Option Block) (runs : List Run) : Type 0 where
  pub each : (run : Run) → Contains runs run → IsHomeOf devices areas away run
  pub all : (at : ℕ) (block : Block) → away at ≡ Some block → Contains runs (home_run devices at block)

-- Each block that is kept is one of the volume.
pub record IsCache (view : CacheView) : Type 0 where
  pub volume : IsVolume view.devices view.areas
  pub each : (at : ℕ) → IfSome (kept_in view.kept at) (λ one. IsBlock view.areas at × HasParts one.block)

-- One of the blocks is kept otherwise, and no other.
pub record OnlyKept (at : ℕ) (one : Option Kept) (old new : List (ℕ × Kept)) : Type 0 where
  pub here : kept_in new at ≡ one
  pub others : (other : ℕ) → other ≢ at → kept_in new other ≡ kept_in old other

-- what a draft that is committed makes of what was kept at a block
abbrev pub changed_at : Option Block → Option Kept → Option Kept
changed_at None before = before
changed_at (Some block) before = Some (record { mode = Exclusive; block = block; committed = true })

-- A draft is committed.
pub record Commits (draft : List Changed) (old new : List (ℕ × Kept)) : Type 0 where
  pub each : (at : ℕ) → kept_in new at ≡ changed_at (block_in draft at) (kept_in old at)

-- a block that is home
abbrev pub settled : Kept → Kept
settled one = record { mode = one.mode; block = one.block; committed = false }

-- All that is kept is home.
pub record Settles (old new : List (ℕ × Kept)) : Type 0 where
  pub each : (at : ℕ) → kept_in new at ≡ option_map settled (kept_in old at)

-- A block that is let go stays as a hint of itself, or leaves the hint that there was, where memory ran out.
abbrev pub LeavesHint : Option Kept → Option Block → Option Block → Type 0
LeavesHint None before after = after ≡ before
LeavesHint (Some one) before after = (after ≡ Some one.block) ⊎ (after ≡ before)

-- No hint but that of one block is another.
pub record OnlyHinted (at : ℕ) (old new : List (ℕ × Block)) : Type 0 where
  pub others : (other : ℕ) → other ≢ at → hint_in new other ≡ hint_in old other
