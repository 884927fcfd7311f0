-- How much room is above a key: a number that falls as keys of at most 256 bytes rise.
use Rattle.std.specs.Prelude.{ℕ, zero, suc, ◌+◌, ◌-◌, ◌*◌, List, [], ◌∷◌}

-- how many keys of at most so many bytes there are, and more
abbrev pub width : ℕ → ℕ
width zero = 1
width (suc places) = 257 * width places

-- how many of them are at least before a key
abbrev pub rank : ℕ → List ℕ → ℕ
rank zero key = 0
rank (suc places) [] = 0
rank (suc places) (x ∷ key) = (x + 1) * width places + rank places key

unfoldable pub room_above : List ℕ → ℕ
room_above key = width 256 - rank 256 key
