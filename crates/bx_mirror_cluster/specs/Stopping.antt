-- A member stops.
use Rattle.std.specs.Prelude.{◌≡◌, ◌≢◌, ℕ, [], None}
use Rattle.bx_mirror_member.specs.Standing.{MemberView as Serving}
use Rattle.bx_mirror_cluster.specs.Fitting.{Parts}

-- What one member knew and owed is gone, and all others are as they were.
pub record Stops (parts : Parts) (members : ℕ → Serving) (n : ℕ) : Type 0 where
  pub row : (members n).row ≡ None
  pub owed : (members n).owed ≡ []
  pub lasts : (members n).lasts ≡ []
  pub others : (k : ℕ) → k ≢ n → members k ≡ parts.members k
