use Rattle.std.proofs.Common.{List, [], Option}
use Rattle.bx_records.specs.Drafts.{Changed}
use Rattle.bx_entries.proofs.First.{lacking, leaves, stopped, under}
use Rattle.bx_ready.specs.Lacking.{MakesRoom}
use Rattle.bx_chunks.specs.Taking.{NoSlots, TakesSlots}
use Rattle.bx_entries.proofs.Lacks.{not_first}
use Rattle.bx_entries.proofs.Stopped.{full_stops}
use Rattle.bx_entries.proofs.rooms.room_at.Goals as goal

pub returns-in-Err-clause-step : goal.returns-in-Err-clause-step
returns-in-Err-clause-step g c = λ volume truth tree handle inode d root_is.
    stopped volume c.args.at.now.areas (g.V.View.held c.args.view.now) (g.V.View.hints c.args.view.now) truth tree handle inode d c.args.at.now.root root_is c.args.at.now.key.now c.in-Err.error c.of_tree.result
    (λ pages u. c.in-Err.ensures.map truth pages u) c.args.at.now.near c.in-Err.ensures.fair c.of_tree.ensures

pub returns-in-Ok-Some-clause-step : goal.returns-in-Ok-Some-clause-step
returns-in-Ok-Some-clause-step g c = λ volume truth tree handle inode d root_is.
    leaves volume c.args.at.now.areas (g.V.View.held c.args.view.now) (g.V.View.hints c.args.view.now) truth tree handle inode d c.args.at.now.root root_is c.in-Ok-Some.draft (rw c.in-Ok-Some.field-0-is at c.in-Ok-Some.ensures.files)

pub returns-in-Ok-None-clause-step : goal.returns-in-Ok-None-clause-step
returns-in-Ok-None-clause-step g c = λ volume truth tree handle inode d root_is pages is.
    (rw c.in-Ok-None.field-0-is at c.in-Ok-None.ensures.map) truth pages
    (under volume c.args.at.now.areas (g.V.View.held c.args.view.now) (g.V.View.hints c.args.view.now) truth tree handle inode d c.args.at.now.root root_is pages is)

pub returns-in-Err-clause-lacks : goal.returns-in-Err-clause-lacks
returns-in-Err-clause-lacks g c = λ volume truth tree handle inode d root_is.
    not_first c.args.at.now.areas (MakesRoom c.args.at.now.areas (g.V.View.held c.args.view.now) (g.V.View.hints c.args.view.now) truth c.args.at.now.root c.args.at.now.key.now) c.in-Err.error c.of_tree.result c.of_tree.ensures

pub returns-in-Ok-Some-clause-lacks : goal.returns-in-Ok-Some-clause-lacks
returns-in-Ok-Some-clause-lacks g c = λ volume truth tree handle inode d root_is.
    lacking volume c.args.at.now.areas (g.V.View.held c.args.view.now) (g.V.View.hints c.args.view.now) truth tree handle inode d c.args.at.now.root root_is c.args.at.now.key.now c.in-Ok-Some.field-0 c.in-Ok-Some.draft c.in-Ok-Some.field-0-is
    c.in-Ok-Some.ensures.lacks

pub returns-in-Err-clause-taken : goal.returns-in-Err-clause-taken
returns-in-Err-clause-taken g c = not_first c.args.at.now.areas (TakesSlots (g.V.View.held c.args.view.now) c.args.at.now.near c.args.at.now.areas []) c.in-Err.error c.of_tree.result c.of_tree.ensures

pub returns-in-Ok-Some-clause-taken : goal.returns-in-Ok-Some-clause-taken
returns-in-Ok-Some-clause-taken g c = rw c.in-Ok-Some.field-0-is at c.in-Ok-Some.ensures.taken

pub returns-in-Err-clause-full : goal.returns-in-Err-clause-full
returns-in-Err-clause-full g c = full_stops (Option (List Changed)) c.args.at.now.areas (NoSlots (g.V.View.held c.args.view.now) c.args.at.now.near c.args.at.now.areas []) c.in-Err.error c.of_tree.result c.in-Err.ensures.full c.of_tree.ensures
