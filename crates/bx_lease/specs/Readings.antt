-- Readings of clocks, in milliseconds. They are numbers of any size, so no sum wraps.
use Rattle.std.specs.Prelude.{ℕ, ◌+◌, ◌-◌, ◌<◌}

-- a reading lies more than 500 ms behind the greatest so far
abbrev pub IsTooFarBack : ℕ → ℕ → Type 0
IsTooFarBack greatest reading = reading + 500 < greatest

-- by how much more than 500 ms
abbrev pub back_by : ℕ → ℕ → ℕ
back_by greatest reading = greatest - (reading + 500)

-- the last word of a machine came more than 2000 ms before a reading
abbrev pub IsSilent : ℕ → ℕ → Type 0
IsSilent last reading = last + 2000 < reading
