-- How many slots are free where one more is wanted and none is left.
use Rattle.std.specs.Prelude.{◌≡◌, ℕ, ◌<◌, Result, Ok, Err}
use Rattle.bx_blink.specs.declared.error.BlinkError.{BlinkError}
use Rattle.bx_blink.specs.declared.error.BlinkError.TheVariants.{Need, Stale, Full, NoRoom, Absent, Present, OutOfMemory, Crowded}
use Rattle.bx_chunks.specs.Counting.{free_slots}
use Rattle.bx_views.specs.Truths.{Truth}

-- so many slots of a truth are free, which are fewer than 8
abbrev pub TellsFew : ℕ → Truth → ℕ → Type 0
TellsFew areas truth spare = (spare ≡ free_slots areas truth) × (spare < 8)

-- what holds of the number that is told where no slot is left
abbrev pub IfNoSlot : {X : Type 0} → (ℕ → Type 0) → Result X BlinkError → Type 0
IfNoSlot Holds (Err (Full spare)) = Holds spare
IfNoSlot Holds (Err (Need at mode)) = Unit {0}
IfNoSlot Holds (Err Stale) = Unit {0}
IfNoSlot Holds (Err (NoRoom leaf)) = Unit {0}
IfNoSlot Holds (Err Absent) = Unit {0}
IfNoSlot Holds (Err Present) = Unit {0}
IfNoSlot Holds (Err OutOfMemory) = Unit {0}
IfNoSlot Holds (Err Crowded) = Unit {0}
IfNoSlot Holds (Ok value) = Unit {0}
