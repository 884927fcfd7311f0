-- Records in doubt, by their sessions.
use Rattle.std.proofs.Common.{◌≡◌, ℕ, true, false, Option, None, refl, arith}
use Rattle.std.specs.Prelude.{◌==◌, if◌then◌else◌}
use Rattle.std.proofs.lemmas.Bool.Decides.{nat_tests}
use Rattle.bx_world_views.specs.Views.{Unacknowledged, OnlyOf}

-- all doubts but one
abbrev pub without_doubt : (ℕ → Option Unacknowledged) → ℕ → ℕ → Option Unacknowledged
without_doubt doubts session other = if other == session then None else doubts other

pub without_only : (doubts : ℕ → Option Unacknowledged) (session : ℕ) → OnlyOf session None doubts (without_doubt doubts session)
without_only doubts session = record {
  here = let t : (session == session) ≡ true = grind (arith, nat_tests) in rw t refl;
  others = λ other apart. let t : (other == session) ≡ false = grind (arith, nat_tests, apart) in rw t refl;
}
