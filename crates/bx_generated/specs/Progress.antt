-- How far a generated schedule is made.
use Rattle.std.specs.Prelude.{ℕ}

-- its seed, how many nodes and calls it has, and how many calls are made
pub record Progress : Type 0 where
  pub seed : ℕ
  pub nodes : ℕ
  pub calls : ℕ
  pub made : ℕ
