-- A datagram is one call at most, so what is said of its call is said of it.
use Rattle.std.proofs.Common.{ℕ, List, subst}
use Rattle.bx_base.specs.declared.names.Mode.{Mode}
use Rattle.bx_engine.specs.Calls.{AsksSpace, IsAtOnce, IsAtOnceCall, IsReadCall, IsReading, IsSpaceCall}
use Rattle.bx_engine.specs.Paths.{IsOnPath, PathOf}
use Rattle.bx_model.specs.declared.call.Call.{Call}
use Rattle.bx_nfs.specs.Wire.{ReadsAs}
use Rattle.bx_nfs.proofs.Reading.{reads_once}
use Rattle.bx_views.specs.Truths.{Held, Hints}

module _ (bytes : List ℕ) (xid : ℕ) (call : Call) (reads : ReadsAs bytes xid call) where
  pub reading_as : IsReadCall bytes → IsReading call
  reading_as is = subst IsReading (reads_once bytes is.xid xid is.call call is.reads reads).1 is.reading

  pub at_once_as : IsAtOnceCall bytes → IsAtOnce call
  at_once_as is = subst IsAtOnce (reads_once bytes is.xid xid is.call call is.reads reads).1 is.at_once

  pub on_path : (held : Held) (hints : Hints) (volume areas at : ℕ) (mode : Mode) → PathOf held hints volume areas call.procedure call.args at mode → IsOnPath held hints volume areas bytes at mode
  on_path held hints volume areas at mode on = record { xid = xid; call = call; reads = reads; on = on }

  pub path_of : (held : Held) (hints : Hints) (volume areas at : ℕ) (mode : Mode) → IsOnPath held hints volume areas bytes at mode → PathOf held hints volume areas call.procedure call.args at mode
  path_of held hints volume areas at mode is = subst (λ (c : Call). PathOf held hints volume areas c.procedure c.args at mode) (reads_once bytes is.xid xid is.call call is.reads reads).1 is.on

-- a datagram that is a STATFS is this call
module _ (bytes : List ℕ) (xid : ℕ) (call : Call) (reads : ReadsAs bytes xid call) where
  pub asks_as : (at : List ℕ) → IsSpaceCall bytes at → AsksSpace call at
  asks_as at is = subst (λ (c : Call). AsksSpace c at) (reads_once bytes is.xid xid is.call call is.reads reads).1 is.asks
