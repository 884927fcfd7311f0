-- Bytes with others written over them.
use Rattle.std.specs.Prelude.{◌≡◌, ℕ, ◌+◌, ◌-◌, ◌<◌, ◌≤◌, List, length, slice_index, Option}
use Rattle.bx_layout.specs.declared.block.Block.{Block}
use Rattle.bx_truth.specs.Stored.{byte_in}

-- the bytes with others over them from a place on, which reach no further than they
pub record IsOver (bytes : List ℕ) (from : ℕ) (written now : List ℕ) : Type 0 where
  pub long : length now ≡ length bytes
  pub below : (place : ℕ) → place < from → slice_index now place ≡ slice_index bytes place
  pub within : (place : ℕ) → from ≤ place → place < from + length written → slice_index now place ≡ slice_index written (place - from)
  pub behind : (place : ℕ) → from + length written ≤ place → slice_index now place ≡ slice_index bytes place

-- the payload of a piece with bytes written over what it had, if there was one, from a place on
pub record IsPayload (before : Option Block) (from : ℕ) (written payload : List ℕ) : Type 0 where
  pub long : length payload ≡ 4096
  pub below : (place : ℕ) → place < from → slice_index payload place ≡ byte_in before place
  pub within : (place : ℕ) → from ≤ place → place < from + length written → slice_index payload place ≡ slice_index written (place - from)
  pub behind : (place : ℕ) → from + length written ≤ place → place < 4096 → slice_index payload place ≡ byte_in before place
