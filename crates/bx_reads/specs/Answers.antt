-- What a procedure that changes nothing answers.
use Rattle.std.specs.Prelude.{◌≡◌, Result, Ok, Err}
use Rattle.bx_files.specs.bx_inodes.specs.declared.stop.Stop.{Stop}
use Rattle.bx_files.specs.bx_inodes.specs.declared.stop.Stop.TheVariants.{Need, Inner, Status, OutOfMemory}
use Rattle.bx_model.specs.declared.reply.Reply.{Reply}
use Rattle.bx_model.specs.declared.tree.Tree.{Tree}
use Rattle.bx_model.specs.Steps.{Outcome}

-- The answer is what the procedure comes to, and the tree stays.
abbrev pub IsOutcome : Tree → Outcome → Result Reply Stop → Type 0
IsOutcome tree outcome (Ok reply) = outcome ≡ Ok (reply, tree)
IsOutcome tree outcome (Err (Status status)) = outcome ≡ Err status
IsOutcome tree outcome (Err (Need at mode)) = Unit {0}
IsOutcome tree outcome (Err (Inner blocks)) = ⊥
IsOutcome tree outcome (Err OutOfMemory) = Unit {0}
