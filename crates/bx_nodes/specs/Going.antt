-- What attempts leave of the calls of a node.
use Rattle.std.specs.Prelude.{ℕ, Option, Some, None}
use Rattle.bx_node_tries.specs.Tries.{AllGo, AreNone}
use Rattle.bx_node_tries.specs.declared.round.Round.{Round}
use Rattle.bx_nodes.specs.declared.answers.Attempted.{Attempted}
use Rattle.bx_node_steps.specs.declared.machine.Machine.{Machine}

-- Each call that waited still waits, in its order, or is answered at this moment, or begins a record; and it waits where it is newer than a number, where one is told.
pub record AllSettle (newest : Option ℕ) (moment : ℕ) (old new : Machine) (attempted : Attempted) : Type 0 where
  pub first : Round
  pub none : AreNone first
  pub go : AllGo newest moment old.calls.items first (record { said = attempted.said; waiting = new.calls; begun = attempted.begun; needs = attempted.needs })

abbrev pub Settle : Option ℕ → ℕ → Option Machine → Option Machine → Attempted → Type 0
Settle newest moment None new attempted = ⊥
Settle newest moment (Some old) None attempted = ⊥
Settle newest moment (Some old) (Some new) attempted = AllSettle newest moment old new attempted
