use Rattle.std.proofs.Common.{◌≡◌, ◌++◌, length, take}
use Rattle.std.specs.Int.{w32, to_be_bytes}
use Rattle.std.specs.List.{flat_map}
use Rattle.bx_rows.specs.Spelling.{session_text}
use Rattle.bx_rows.proofs.writing.push_sessions.Given as goal

abbrev pub invariant-loop-row : goal.invariant-loop-row
invariant-loop-row l = l.out.items ≡ l.fn.out.items ++ (to_be_bytes w32 (length l.rows) ++ flat_map session_text (take l.row-index l.rows))
