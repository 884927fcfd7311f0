-- A clock in memory.
use Rattle.std.specs.Prelude.{◌≡◌, ℕ, ◌+◌, ◌<◌, nat_lt, if◌then◌else◌, List, ◌++◌, length, get_or, take, replicate}

-- its readings, and the place of the next one, which of the last is its own
pub record Ticking : Type 0 where
  pub readings : List ℕ
  pub at : ℕ

-- the next reading
abbrev pub reading_of : Ticking → ℕ
reading_of clock = get_or clock.readings clock.at 0

-- the clock behind it
abbrev pub after_tick : Ticking → Ticking
after_tick clock = record { readings = clock.readings; at = if nat_lt (clock.at + 1) (length clock.readings) then clock.at + 1 else clock.at }

-- It gave the readings before the next one, and then that as often as you like, where it is the last one; else not yet.
pub record MayHaveGiven (clock : Ticking) (readings : List ℕ) : Type 0 where
  pub times : ℕ
  pub are : readings ≡ take clock.at clock.readings ++ replicate times (reading_of clock)
  pub only_last : clock.at + 1 < length clock.readings → times ≡ 0
