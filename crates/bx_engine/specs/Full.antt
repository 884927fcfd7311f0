-- The calls for which no slot is left.
use Rattle.std.specs.Prelude.{ℕ, List}
use Rattle.bx_attempts.specs.Calls.{IsChanging}
use Rattle.bx_attempts.specs.Full.{IsFullFor}
use Rattle.bx_model.specs.declared.call.Call.{Call}
use Rattle.bx_nfs.specs.Wire.{ReadsAs}
use Rattle.bx_views.specs.Truths.{Held, Hints}

-- the call changes the tree, and no slot is left where it takes one; so many were free
pub record LacksRoom (held : Held) (hints : Hints) (volume areas : ℕ) (call : Call) (spare : ℕ) : Type 0 where
  pub changes : IsChanging call
  pub full : IsFullFor held hints volume areas call.args spare

-- the datagram is such a call
pub record IsFullCall (held : Held) (hints : Hints) (volume areas : ℕ) (bytes : List ℕ) (spare : ℕ) : Type 0 where
  pub xid : ℕ
  pub call : Call
  pub reads : ReadsAs bytes xid call
  pub lacks : LacksRoom held hints volume areas call spare
