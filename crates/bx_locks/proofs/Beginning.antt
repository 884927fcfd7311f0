-- Machines that are made for the states that a cluster begins with.
use Rattle.std.proofs.Common.{◌≡◌, ℕ, ◌≤◌, None, sym, ap, subst, lit≤}
use Rattle.bx_clerk.specs.Clerks.{Clerking}
use Rattle.bx_global.specs.Opening.{formatted_state, opening_state}
use Rattle.bx_global.specs.declared.state.GlobalState.{GlobalState}
use Rattle.bx_lock_machines.proofs.Openings.{formatted_start, opening_start}
use Rattle.bx_locks.specs.Laws.{nobody}
use Rattle.bx_locks.specs.Machines.{AreMade, LockMachines, clerk_of, no_clerk}
use Rattle.bx_locks.specs.Meanings.{AreNew, IsFor}

pub opening_for : (nodes devices : ℕ) (o : LockMachines) → AreMade nodes (opening_state nodes devices) o → IsFor nodes (opening_state nodes devices) o
opening_for nodes devices o made = record { made = made; start = opening_start nodes devices; index_fits = lit≤ tt }

pub formatted_for : (nodes devices : ℕ) (o : LockMachines) → AreMade nodes (formatted_state devices) o → IsFor nodes (formatted_state devices) o
formatted_for nodes devices o made = record { made = made; start = formatted_start devices; index_fits = lit≤ tt }

pub are_new : (nodes : ℕ) (s : GlobalState) (o : LockMachines) → AreMade nodes s o → AreNew o
are_new nodes s o made = record { state = s; made = subst (λ (n : ℕ). AreMade n s o) (sym made.nodes_are) made }

pub none_beyond : (nodes node : ℕ) (s : GlobalState) (o : LockMachines) → AreMade nodes s o → nodes ≤ node → (clerk_of o node).session ≡ None
none_beyond nodes node s o made beyond = ap (λ (c : Clerking). c.session) (nobody o.clerks node (no_clerk node) (subst (λ (n : ℕ). n ≤ node) (sym made.nodes_are) beyond))
