use Rattle.std.proofs.Common.{◌∙◌, ℕ, List, [], Option, Err, ap, subst, sym}
use Rattle.bx_files.specs.Reads.{Tells}
use Rattle.bx_page.specs.Contents.{value_of}
use Rattle.bx_truth.specs.PageTrees.{handle_in, map_of}
use Rattle.bx_chunks.specs.Taking.{TakesSlots}
use Rattle.bx_writes.proofs.First.{found_first, value_first}
use Rattle.bx_writes.proofs.Missing.{entry_found, entry_makes, entry_there, found_in, misses_in, value_stops}
use Rattle.bx_entries.proofs.Lacks.{full_if}
use Rattle.bx_writes.proofs.Known.{found_full, none_known, some_known}
use Rattle.bx_writes.specs.Lacking.{MakesEntry}
use Rattle.bx_writes.proofs.preparing.prepare.Goals as goal

pub returns-in-Err-clause-step : goal.returns-in-Err-clause-step
returns-in-Err-clause-step g c = λ volume truth tree handle inode r root_is.
    value_stops volume c.args.near.1 (g.V.View.held c.args.view.now) (g.V.View.hints c.args.view.now) truth tree handle inode r c.args.root root_is c.args.place.0 c.args.place.1 c.args.part.now c.in-Err.stop
    (λ pages u. subst (λ (k : List ℕ). Tells (value_of (map_of pages) k) (Err c.in-Err.stop)) c.content_key.ensures (c.in-Err.ensures.map truth pages u))

pub returns-in-Ok-Some-clause-step : goal.returns-in-Ok-Some-clause-step
returns-in-Ok-Some-clause-step g c = λ volume truth tree handle inode r root_is.
    found_in volume c.args.near.1 (g.V.View.held c.args.view.now) (g.V.View.hints c.args.view.now) truth tree handle inode r c.args.root root_is c.args.place.0 c.args.place.1 c.args.part.now c.in-Ok-Some.value c.handle_in.result
    (c.handle_in.ensures ∙ ap handle_in c.bytes.ensures)
    (λ pages u. sym (rw (c.in-Ok-Some.field-0-is, c.content_key.ensures) at (c.in-Ok-Some.ensures.map truth pages u))) c.found.result c.found.ensures.at

pub returns-in-Ok-None-clause-step : goal.returns-in-Ok-None-clause-step
returns-in-Ok-None-clause-step g c = λ volume truth tree handle inode r root_is.
    misses_in volume c.args.near.1 (g.V.View.held c.args.view.now) (g.V.View.hints c.args.view.now) truth tree handle inode r c.args.root root_is c.args.place.0 c.args.place.1 c.args.part.now
    (λ pages u. sym (rw (c.in-Ok-None.field-0-is, c.content_key.ensures) at (c.in-Ok-None.ensures.map truth pages u))) c.missing.result c.missing.ensures.none (c.missing.ensures.step volume truth tree handle inode r root_is)

pub returns-in-Err-clause-lacks : goal.returns-in-Err-clause-lacks
returns-in-Err-clause-lacks g c = λ volume truth tree handle inode r root_is.
    value_first (Option (List ℕ)) (MakesEntry c.args.near.1 (g.V.View.held c.args.view.now) (g.V.View.hints c.args.view.now) truth c.args.root c.args.place.0) c.in-Err.stop c.in-Err.ensures.inner

pub returns-in-Ok-Some-clause-lacks : goal.returns-in-Ok-Some-clause-lacks
returns-in-Ok-Some-clause-lacks g c = λ volume truth tree handle inode r root_is.
    found_first (MakesEntry c.args.near.1 (g.V.View.held c.args.view.now) (g.V.View.hints c.args.view.now) truth c.args.root c.args.place.0) c.args.near.1 (g.V.View.held c.args.view.now) c.handle_in.result c.args.place.1
    c.args.part.now c.found.result c.found.ensures.at

pub returns-in-Ok-None-clause-lacks : goal.returns-in-Ok-None-clause-lacks
returns-in-Ok-None-clause-lacks g c = λ volume truth tree handle inode r root_is.
    entry_makes volume c.args.near.1 (g.V.View.held c.args.view.now) (g.V.View.hints c.args.view.now) truth tree handle inode r c.args.root root_is c.args.place.0
    (λ pages u. sym (rw (c.in-Ok-None.field-0-is, c.content_key.ensures) at (c.in-Ok-None.ensures.map truth pages u))) c.missing.result (c.missing.ensures.lacks volume truth tree handle inode r root_is)

pub returns-in-Ok-Some-clause-finds : goal.returns-in-Ok-Some-clause-finds
returns-in-Ok-Some-clause-finds g c = λ volume truth tree handle inode r root_is.
    entry_there volume c.args.near.1 (g.V.View.held c.args.view.now) (g.V.View.hints c.args.view.now) truth tree handle inode r c.args.root root_is c.args.place.0 c.in-Ok-Some.value
    (λ pages u. sym (rw (c.in-Ok-Some.field-0-is, c.content_key.ensures) at (c.in-Ok-Some.ensures.map truth pages u))) c.found.result

pub returns-in-Ok-None-clause-finds : goal.returns-in-Ok-None-clause-finds
returns-in-Ok-None-clause-finds g c = λ volume truth tree handle inode r root_is.
    entry_found volume c.args.near.1 (g.V.View.held c.args.view.now) (g.V.View.hints c.args.view.now) truth tree handle inode r c.args.root root_is c.args.place.0 c.missing.result
    (c.missing.ensures.finds volume truth tree handle inode r root_is)

pub returns-in-Ok-None-clause-full : goal.returns-in-Ok-None-clause-full
returns-in-Ok-None-clause-full g c = full_if (λ spare none. (rw (c.in-Ok-None.field-0-is, c.content_key.ensures) at c.in-Ok-None.ensures.finds, none)) c.missing.result c.missing.ensures.full

pub returns-in-Ok-None-clause-known : goal.returns-in-Ok-None-clause-known
returns-in-Ok-None-clause-known g c = none_known (g.V.View.held c.args.view.now) (g.V.View.hints c.args.view.now) c.args.root c.args.place.0 c.missing.result c.missing.ensures.none (rw (c.in-Ok-None.field-0-is, c.content_key.ensures) at c.in-Ok-None.ensures.finds)

pub returns-in-Ok-Some-clause-known : goal.returns-in-Ok-Some-clause-known
returns-in-Ok-Some-clause-known g c =
    some_known (g.V.View.held c.args.view.now) (g.V.View.hints c.args.view.now) c.args.near.1 c.args.root c.args.place.0 c.args.place.1 c.args.part.now c.in-Ok-Some.value c.handle_in.result (c.handle_in.ensures ∙ ap handle_in c.bytes.ensures)
    (rw (c.in-Ok-Some.field-0-is, c.content_key.ensures) at c.in-Ok-Some.ensures.finds) c.found.result c.found.ensures.at

pub returns-in-Ok-Some-clause-full : goal.returns-in-Ok-Some-clause-full
returns-in-Ok-Some-clause-full g c = found_full c.args.near.1 (g.V.View.held c.args.view.now) c.handle_in.result c.args.place.1 c.args.part.now _ c.found.result c.found.ensures.at

pub returns-in-Err-clause-taken : goal.returns-in-Err-clause-taken
returns-in-Err-clause-taken g c = value_first (Option (List ℕ)) (TakesSlots (g.V.View.held c.args.view.now) c.args.near.0 c.args.near.1 []) c.in-Err.stop c.in-Err.ensures.inner

pub returns-in-Ok-Some-clause-taken : goal.returns-in-Ok-Some-clause-taken
returns-in-Ok-Some-clause-taken g c =
    found_first (TakesSlots (g.V.View.held c.args.view.now) c.args.near.0 c.args.near.1 []) c.args.near.1 (g.V.View.held c.args.view.now) c.handle_in.result c.args.place.1 c.args.part.now c.found.result c.found.ensures.at
