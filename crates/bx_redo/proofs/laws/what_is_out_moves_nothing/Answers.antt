use Rattle.bx_facts.specs.Writes.{IsSettled}
use Rattle.bx_redo.proofs.Begun.{stays}
use Rattle.bx_redo.proofs.laws.what_is_out_moves_nothing.Goals as goal

pub returns : goal.returns
returns c = λ disks disks_then state state_then devices areas rows before logs truth more log out st is_out.
    stays (IsSettled disks state) (IsSettled disks_then state_then) devices areas rows before logs truth more log out st is_out
