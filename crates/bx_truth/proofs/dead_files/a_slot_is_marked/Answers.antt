use Rattle.bx_truth.proofs.Marking.{chunk_marked, marks_set, kept_then_marked, marked_then_kept}
use Rattle.bx_truth.proofs.dead_files.a_slot_is_marked.Goals as goal

pub returns-clause-chunks : goal.returns-clause-chunks
returns-clause-chunks c = chunk_marked

pub returns-clause-marks : goal.returns-clause-marks
returns-clause-marks c = marks_set

pub returns-clause-behind : goal.returns-clause-behind
returns-clause-behind c = kept_then_marked

pub returns-clause-before : goal.returns-clause-before
returns-clause-before c = marked_then_kept
