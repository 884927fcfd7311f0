-- Times: seconds and microseconds.
use Rattle.std.specs.Prelude.{ℕ, ◌*◌, ◌/◌, ◌%◌, ◌==◌, nat_le, Bool, not, if◌then◌else◌}

abbrev pub Time : Type 0
Time = ℕ × ℕ

-- the time of a moment in milliseconds
abbrev pub time_of : ℕ → Time
time_of moment = (moment / 1000, 1000 * (moment % 1000))

-- whether a word of the attributes to set is given; of a time, its seconds decide
abbrev pub is_given : ℕ → Bool
is_given word = not (word == 4294967295)

-- what is stored of a time that is given
abbrev pub stored : Time → Time
stored time = (time.0, if nat_le time.1 999999 then time.1 else 0)
