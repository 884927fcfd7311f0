-- How a node's latest requests are kept: each with a turn, in the order of the turns, and the turn of each block.
use Rattle.std.specs.Prelude.{◌≡◌, ℕ, ◌<◌, false, nat_eq, map, List, [], ◌∷◌, Option, Some, None, if◌then◌else◌}
use Rattle.std.specs.List.{AllByRecursion}
use Rattle.std.specs.BTreeMap.{BTreeMap, IsOrdered, get, keys}
use Rattle.std.specs.Ordering.{nat_cmp}
use Rattle.bx_clerk.specs.declared.requests.Asking.{Asking}

abbrev pub Turns : Type 0
Turns = List (ℕ × (ℕ × Asking))

-- the turn of a block
abbrev pub turn_of : ℕ → Turns → Option ℕ
turn_of block [] = None
turn_of block (turn ∷ turns) = if nat_eq block turn.1.0 then Some turn.0 else turn_of block turns

abbrev pub blocks_of : Turns → List ℕ
blocks_of turns = map (λ turn. turn.1.0) turns

-- a block has one request
abbrev pub AreOnce : List ℕ → Type 0
AreOnce [] = Unit {0}
AreOnce (block ∷ blocks) = AllByRecursion (λ other. nat_eq block other ≡ false) blocks × AreOnce blocks

-- the request of a turn
abbrev pub asking_of : Option (ℕ × Asking) → Option Asking
asking_of None = None
asking_of (Some entry) = Some entry.1

-- Turns rise, and the next one is above them; a block has one request, and its turn is found.
pub record AreKept (next : ℕ) (line : BTreeMap ℕ (ℕ × Asking)) (turns : BTreeMap ℕ ℕ) : Type 0 where
  pub rises : IsOrdered nat_cmp line
  pub below : AllByRecursion (λ turn. turn < next) (keys line)
  pub once : AreOnce (blocks_of line.entries)
  pub by_block : (block : ℕ) → get nat_cmp turns block ≡ turn_of block line.entries
