-- The calls for which blocks are to be written first, and those that change something at once, by their bytes.
use Rattle.std.specs.Prelude.{ℕ, List}
use Rattle.bx_attempts.specs.First.{PreparesFirst, ReadyBy}
use Rattle.bx_model.specs.declared.call.Call.{Call}
use Rattle.bx_model.specs.declared.tree.Tree.{Tree}
use Rattle.bx_nfs.specs.Wire.{ReadsAs}
use Rattle.bx_records.specs.Drafts.{Changed}
use Rattle.bx_views.specs.Truths.{Truth, Held, Hints}

-- the datagram is a call that comes to no error, and a draft prepares it
pub record IsFirstCall (volume areas : ℕ) (held : Held) (hints : Hints) (truth : Truth) (tree : Tree) (bytes : List ℕ) (moment : ℕ) (new : List Changed) : Type 0 where
  pub xid : ℕ
  pub call : Call
  pub reads : ReadsAs bytes xid call
  pub first : PreparesFirst volume areas held hints truth tree call moment new

-- the datagram is a call for which nothing is wanted first
pub record IsReadyCall (volume areas : ℕ) (truth : Truth) (tree : Tree) (bytes : List ℕ) : Type 0 where
  pub xid : ℕ
  pub call : Call
  pub reads : ReadsAs bytes xid call
  pub ready : ReadyBy volume areas truth tree call.procedure call.args
