-- New machines, and what each asks of a state.
use Rattle.bx_global.specs.declared.state.GlobalState.{GlobalState}
use Rattle.bx_locking.specs.Owned.{AreSingle}
use Rattle.bx_mirror_cluster.specs.Fitting.{AreAllRead}
use Rattle.bx_devices.specs.Machines.{AreMade, DeviceMachines, IsShape, made_of}

-- New ones, in a cluster that begins with some state.
pub record AreNew (o : DeviceMachines) : Type 0 where
  pub state : GlobalState
  pub made : AreMade (made_of o) state o
  pub shape : IsShape o

-- They are made for a state, in which each member is read, and at most one session of a node and boot lives.
pub record IsFor (s : GlobalState) (o : DeviceMachines) : Type 0 where
  pub made : AreMade (made_of o) s o
  pub single : AreSingle 0 s
  pub all_read : AreAllRead s
