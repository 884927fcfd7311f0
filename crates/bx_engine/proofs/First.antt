-- Blocks to be written first are those of the datagram's call, and a change is its change; neither comes of a call that changes nothing.
use Rattle.std.proofs.Common.{ℕ, List}
use Rattle.bx_attempts.specs.First.{PreparesFirst, ReadyBy}
use Rattle.bx_model.specs.declared.call.Call.{Call}
use Rattle.bx_model.specs.declared.tree.Tree.{Tree}
use Rattle.bx_nfs.specs.Wire.{ReadsAs}
use Rattle.bx_records.specs.Drafts.{Changed}
use Rattle.bx_views.specs.declared.attempt.Attempt.{Attempt}
use Rattle.bx_views.specs.declared.attempt.Attempt.TheVariants.{Need, Change, Inner, Answer}
use Rattle.bx_views.specs.Attempts.{ChangesNothing, IfChange, IfInner}
use Rattle.bx_views.specs.Truths.{Held, Hints, Truth}
use Rattle.bx_engine.specs.First.{IsFirstCall, IsReadyCall}

pub quiet_first : (Holds : List Changed → Type 0) (attempt : Attempt) → ChangesNothing attempt → IfInner Holds attempt
quiet_first Holds (Need wants) quiet = tt
quiet_first Holds (Change draft acted) quiet = tt
quiet_first Holds (Inner draft) quiet = absurd quiet
quiet_first Holds (Answer acted) quiet = tt

pub quiet_ready : (Holds : Type 0) (attempt : Attempt) → ChangesNothing attempt → IfChange Holds attempt
quiet_ready Holds (Need wants) quiet = tt
quiet_ready Holds (Change draft acted) quiet = absurd quiet
quiet_ready Holds (Inner draft) quiet = tt
quiet_ready Holds (Answer acted) quiet = tt

pub first_call : (volume areas : ℕ) (held : Held) (hints : Hints) (truth : Truth) (tree : Tree) (bytes : List ℕ) (moment xid : ℕ) (call : Call) → ReadsAs bytes xid call → (attempt : Attempt)
    → IfInner (PreparesFirst volume areas held hints truth tree call moment) attempt → IfInner (IsFirstCall volume areas held hints truth tree bytes moment) attempt
first_call volume areas held hints truth tree bytes moment xid call reads (Need wants) first = tt
first_call volume areas held hints truth tree bytes moment xid call reads (Change draft acted) first = tt
first_call volume areas held hints truth tree bytes moment xid call reads (Inner draft) first = record { xid = xid; call = call; reads = reads; first = first }
first_call volume areas held hints truth tree bytes moment xid call reads (Answer acted) first = tt

pub ready_call : (volume areas : ℕ) (truth : Truth) (tree : Tree) (bytes : List ℕ) (xid : ℕ) (call : Call) → ReadsAs bytes xid call → (attempt : Attempt)
    → IfChange (ReadyBy volume areas truth tree call.procedure call.args) attempt → IfChange (IsReadyCall volume areas truth tree bytes) attempt
ready_call volume areas truth tree bytes xid call reads (Need wants) ready = tt
ready_call volume areas truth tree bytes xid call reads (Change draft acted) ready = record { xid = xid; call = call; reads = reads; ready = ready }
ready_call volume areas truth tree bytes xid call reads (Inner draft) ready = tt
ready_call volume areas truth tree bytes xid call reads (Answer acted) ready = tt
