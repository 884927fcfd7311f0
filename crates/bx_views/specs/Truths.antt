-- Truths: what each block of a volume holds, once all that was acknowledged is home.
use Rattle.std.specs.Prelude.{◌≡◌, ℕ, ◌==◌, List, Option, Some, None, unwrap_or, if◌then◌else◌}
use Rattle.bx_records.specs.bx_base.specs.declared.names.Mode.{Mode}
use Rattle.bx_records.specs.Drafts.{Block}
pub use Rattle.bx_records.specs.Drafts.{Changed, block_in}

abbrev pub Truth : Type 0
Truth = ℕ → Block

-- the truth that a draft leaves
abbrev pub with_draft : Truth → List Changed → Truth
with_draft truth draft at = unwrap_or (block_in draft at) (truth at)

-- what a view holds, by block and mode
abbrev pub Held : Type 0
Held = ℕ → Mode → Option Block

-- what it has hints of: each is what a block held at some time
abbrev pub Hints : Type 0
Hints = ℕ → Option Block

-- no hints; hints without that of one block; and with one
abbrev pub no_hints : Hints
no_hints at = None

abbrev pub without_hint : ℕ → Hints → Hints
without_hint block hints at = if at == block then None else hints at

abbrev pub with_hint : ℕ → Block → Hints → Hints
with_hint number block hints at = if at == number then Some block else hints at

-- What a view holds is what the truth has there.
pub record IsTruth (held : Held) (truth : Truth) : Type 0 where
  pub each : (at : ℕ) (mode : Mode) (block : Block) → held at mode ≡ Some block → truth at ≡ block
