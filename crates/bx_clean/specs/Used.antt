-- How many slots are in use, and steps of cleaning one after the other.
use Rattle.std.specs.Prelude.{ℕ, zero, suc, ◌+◌, ◌*◌, ◌&&◌, if◌then◌else◌, Bool}
use Rattle.bx_clean.specs.Falling.{FreesOne, StripsOne}
use Rattle.bx_layout.specs.Areas.{in_use}
use Rattle.bx_truth.specs.Chunks.{is_slot, word_at}
use Rattle.bx_views.specs.Truths.{Truth}

-- a block is a slot's of the volume, which is in use
abbrev pub is_in_use : ℕ → Truth → ℕ → Bool
is_in_use areas truth block = is_slot areas block && in_use (word_at truth block)

-- how many blocks below a number are
unfoldable pub used_below : ℕ → Truth → ℕ → ℕ
used_below areas truth zero = 0
used_below areas truth (suc block) = used_below areas truth block + (if is_in_use areas truth block then 1 else 0)

-- how many slots of a volume are in use
abbrev pub used_slots : ℕ → Truth → ℕ
used_slots areas truth = used_below areas truth (1024 * areas)

-- steps from one truth to another, of which so many free a slot
pub data CleansInSteps (areas : ℕ) : ℕ → Truth → Truth → Type 0 where
  none : (truth : Truth) → CleansInSteps areas 0 truth truth
  frees : (steps : ℕ) (truth next last : Truth) → FreesOne areas truth next → CleansInSteps areas steps next last → CleansInSteps areas (steps + 1) truth last
  strips : (steps : ℕ) (truth next last : Truth) → StripsOne areas truth next → CleansInSteps areas steps next last → CleansInSteps areas steps truth last
