-- How the errors of drafts are those of trees.
use Rattle.bx_truth.specs.bx_records.specs.declared.draft.DraftError.{DraftError}
use Rattle.bx_truth.specs.bx_records.specs.declared.draft.DraftError.TheVariants.{Crowded as DraftCrowded, OutOfMemory as DraftOutOfMemory}
use Rattle.bx_blink.specs.declared.error.BlinkError.{BlinkError}
use Rattle.bx_blink.specs.declared.error.BlinkError.TheVariants.{OutOfMemory, Crowded}

abbrev pub of_draft : DraftError → BlinkError
of_draft DraftCrowded = Crowded
of_draft DraftOutOfMemory = OutOfMemory
