-- The newest blocks of logs, by number.
use Rattle.std.specs.Prelude.{◌≡◌, ℕ, ◌<◌, reverse, length, List, [], ◌∷◌, Option, Some, None, slice_get}
use Rattle.std.specs.BTreeMap.{BTreeMap, get}
use Rattle.std.specs.Ordering.{nat_cmp}
use Rattle.bx_layout.specs.declared.block.Block.{Block}
use Rattle.bx_homes.specs.bx_volume.specs.Records.{Logged, newest_in, or_older}

-- the newest blocks that a log has, by their numbers
abbrev pub Newest : Type 0
Newest = BTreeMap ℕ Block

-- the one with a number
abbrev pub newest_at : Newest → ℕ → Option Block
newest_at log at = get nat_cmp log at

-- the block of the first log that has one with a number
abbrev pub first_in : List Newest → ℕ → Option Block
first_in [] at = None
first_in (log ∷ others) at = or_older (newest_at log at) (first_in others at)

-- two logs have the same block where both have one with a number
abbrev pub Agree : Newest → Newest → Type 0
Agree one other = (at : ℕ) (a b : Block) → newest_at one at ≡ Some a → newest_at other at ≡ Some b → a ≡ b

-- any two of the logs of the slots below a bound do
abbrev pub AreAgreed : List Newest → ℕ → Type 0
AreAgreed logs bound = (slot later : ℕ) (one other : Newest) → slot < later → later < bound → slice_get logs slot ≡ Some one → slice_get logs later ≡ Some other → Agree one other

-- two logs have different blocks with a number, of which the second has this handle in its header
pub record Differ (one other : Newest) (at handle : ℕ) : Type 0 where
  pub a : Block
  pub b : Block
  pub one_has : newest_at one at ≡ Some a
  pub other_has : newest_at other at ≡ Some b
  pub apart : a ≡ b → ⊥
  pub handle_is : handle ≡ b.handle

-- The logs of some slot and of a later one, the first of which that is true, have different blocks with a number; the later one has
-- this handle in its block's header.
pub record IsClash (logs : List Newest) (at handle : ℕ) : Type 0 where
  pub slot : ℕ
  pub later : ℕ
  pub one : Newest
  pub other : Newest
  pub order : slot < later
  pub one_there : slice_get logs slot ≡ Some one
  pub other_there : slice_get logs later ≡ Some other
  pub differ : Differ one other at handle
  pub before : AreAgreed logs later

-- of each log the newest blocks, slot by slot; the oldest record of a log comes first
pub record AreNewest (logs : List (List Logged)) (newest : List Newest) : Type 0 where
  pub count : length newest ≡ length logs
  pub each : (slot at : ℕ) (log : Newest) (records : List Logged) → slice_get newest slot ≡ Some log → slice_get logs slot ≡ Some records → newest_at log at ≡ newest_in (reverse records) at
