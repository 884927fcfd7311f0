-- Lock servers and mirrored devices let machines start again.
use Rattle.std.proofs.Common.{refl}
use Rattle.bx_closings.specs.bx_devices.specs.contracts.store.DevicesStore.TheImpl as devices
use Rattle.bx_closings.specs.bx_locks.specs.Laws.{above}
use Rattle.bx_closings.specs.bx_locks.specs.contracts.owners.LocksOwners.TheImpl as locks
use Rattle.bx_closings.specs.bx_world.specs.Room.{LetRestart}

pub let_restart : LetRestart locks.ghosts devices.ghosts
let_restart = record { by = refl; separate = (tt, tt); above = above }
