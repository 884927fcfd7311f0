-- Bytes that are written at a place.
use Rattle.std.specs.Prelude.{◌≡◌, ℕ, ◌+◌, ◌-◌, ◌≤◌, List, ◌++◌, length, take, slice_index, replicate}

-- The bytes from `at` on are written over, up to `end`: what is before them stays, and so does what is behind them.
pub record Writes (old new : List ℕ) (at end : ℕ) (bytes : List ℕ) : Type 0 where
  pub len : length new ≡ length old
  pub place : end ≡ at + length bytes
  pub front : take end new ≡ take at old ++ bytes
  pub behind : (i : ℕ) → end ≤ i → slice_index new i ≡ slice_index old i

-- the bytes with zeros behind them, so many in all
abbrev pub padded : ℕ → List ℕ → List ℕ
padded size bytes = bytes ++ replicate (size - length bytes) 0
