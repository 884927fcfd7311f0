-- The machines that are made.
use Rattle.std.proofs.Common.{◌≡◌, ℕ, zero, suc, ◌<◌, List, [], ◌∷◌, length, refl, ap, arith}
use Rattle.std.specs.Prelude.{slice_index_or}
use Rattle.bx_clerk.specs.Clerks as clerks
use Rattle.bx_clerk.specs.Clerks.{Clerking}
use Rattle.bx_global.specs.declared.state.GlobalState.{GlobalState}
use Rattle.bx_master.specs.Masters as masters
use Rattle.bx_master.specs.Masters.{Mastering}
use Rattle.bx_locks.specs.Machines.{AreMade, no_clerk, no_master}

-- so many clerks are made
pub record AreClerks (s : GlobalState) (count : ℕ) (made : List Clerking) : Type 0 where
  pub length_is : length made ≡ count
  pub each : (node : ℕ) → node < count → slice_index_or made node (no_clerk node) ≡ clerks.made node s

pub no_clerks : (s : GlobalState) (made : List Clerking) → made ≡ [] → AreClerks s 0 made
no_clerks s made none = record { length_is = ap length none; each = λ node less. absurd (omega (arith, less)) }

pub server_made : (s : GlobalState) (server : ℕ) → server < 2 → slice_index_or (masters.made 0 s ∷ masters.made 1 s ∷ []) server (no_master server) ≡ masters.made server s
server_made s zero less = refl
server_made s (suc zero) less = refl
server_made s (suc (suc n)) less = absurd (omega (arith, less))

pub all_made : (s : GlobalState) (nodes : ℕ) (made : List Clerking) → AreClerks s nodes made → AreMade nodes s (record { masters = masters.made 0 s ∷ masters.made 1 s ∷ []; clerks = made })
all_made s nodes made are = record { nodes_are = are.length_is; clerks = are.each; masters = server_made s }
