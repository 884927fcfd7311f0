use Rattle.std.proofs.Common.{◌≡◌, List, ◌++◌, length, subst}
use Rattle.std.proofs.lemmas.List.{take_all}
use Rattle.std.specs.Int.{w32, to_be_bytes}
use Rattle.std.specs.List.{flat_map}
use Rattle.bx_rows.specs.declared.session.SessionRow.{SessionRow}
use Rattle.bx_rows.specs.Spelling.{session_text, sessions_text}
use Rattle.bx_rows.proofs.writing.push_sessions.Goals as goal

pub returns : goal.returns
unfolding sessions_text
returns c =
    let rows = c.args.rows.now in
    subst (λ (all : List SessionRow). c.loop-row.out.items ≡ c.args.out.now.items ++ (to_be_bytes w32 (length rows) ++ flat_map session_text all))
    (take_all c.loop-row.row-index rows c.loop-row-test.false)
    c.loop-row.invariant
