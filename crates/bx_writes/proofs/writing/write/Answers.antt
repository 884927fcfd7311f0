use Rattle.std.proofs.Common.{◌≡◌, List, subst, sym}
use Rattle.std.specs.Prelude.{Err}
use Rattle.bx_base.specs.declared.names.Mode.TheVariants.{Exclusive}
use Rattle.bx_blink.specs.Walks.{reads_with}
use Rattle.bx_inodes.specs.Inodes.{IsInodeOf, LiveAt}
use Rattle.bx_changes.specs.bx_reads.proofs.Told.{over_none}
use Rattle.bx_records.specs.Drafts.{Changed}
use Rattle.bx_views.specs.Truths.{with_draft}
use Rattle.bx_model.specs.Writing.{write}
use Rattle.bx_sizes.proofs.First.{no_inode_stops}
use Rattle.bx_writes.proofs.Near.{named_laid, named_readied, no_inode_first}
use Rattle.bx_writes.specs.Near.{IsReadiedNear}
use Rattle.bx_writes.proofs.First.{named_first, named_ready}
use Rattle.bx_writes.specs.Lacking.{PreparesWriting, PreparesWritten}
use Rattle.bx_writes.proofs.Wrote.{full_writing, no_name, on_writing, stopped}
use Rattle.bx_writes.proofs.writing.write.Goals as goal

pub returns-in_default-clause-step : goal.returns-in_default-clause-step
returns-in_default-clause-step g c = λ truth tree few same s fit.
    no_name c.args.volume.0 tree c.args.at.now c.args.call.now c.args.offset c.args.written.now c.args.now s.volume_is c.in_default.ensures

pub returns-in-Err-clause-step : goal.returns-in-Err-clause-step
returns-in-Err-clause-step g c = λ truth tree few same s fit.
    stopped c.args.volume.0 tree c.args.at.now c.args.call.now c.args.offset c.args.written.now c.args.now s.volume_is c.args.volume.1 (with_draft truth c.new-none.result) truth c.in-Some.handle c.in-Err.stop c.in-Some.ensures
    (c.in-Err.ensures.tree truth tree same (over_none c.args.volume.1 truth tree c.new-none.result c.new-none.ensures s.is))

pub returns-clause-step : goal.returns-clause-step
returns-clause-step g c = λ truth tree few same s fit.
    let f = c.in-Ok.ensures.tree truth tree same (over_none c.args.volume.1 truth tree c.new-none.result c.new-none.ensures s.is) in
    c.write_file.ensures.step truth tree c.args.at.now few same s fit (subst (λ (d : List Changed). IsInodeOf c.args.volume.1 (with_draft truth d) tree c.in-Some.handle c.in-Ok.inode) c.new-none.ensures f) (sym c.in-Some.ensures)

pub returns-clause-hints : goal.returns-clause-hints
returns-clause-hints g c = λ hints truth tree few same s fit all.
    let f = c.in-Ok.ensures.tree truth tree same (over_none c.args.volume.1 truth tree c.new-none.result c.new-none.ensures s.is) in
    c.write_file.ensures.hints hints truth tree few same s fit (subst (λ (d : List Changed). IsInodeOf c.args.volume.1 (with_draft truth d) tree c.in-Some.handle c.in-Ok.inode) c.new-none.ensures f) all

pub returns-clause-need : goal.returns-clause-need
returns-clause-need g c =
    let held = g.V.View.held c.args.view.now in
    let hints = g.V.View.hints c.args.view.now in
    on_writing held hints c.args.volume.0 c.args.volume.1 c.args.at.now c.args.offset c.args.written.now c.in-Some.handle c.in-Ok.inode (sym c.in-Some.ensures)
    (subst (λ (d : List Changed). LiveAt (reads_with held hints d) c.args.volume.1 c.in-Some.handle Exclusive c.in-Ok.inode) c.new-none.ensures c.in-Ok.ensures.at) c.write_file.result c.write_file.ensures.need

pub returns-in-Err-clause-lacks : goal.returns-in-Err-clause-lacks
returns-in-Err-clause-lacks g c = λ truth tree few same s fit.
    no_inode_stops (λ status. write tree c.args.call.now c.args.at.now c.args.offset c.args.written.now c.args.now 8 ≡ Err status)
    (PreparesWriting c.args.volume.0 c.args.volume.1 (g.V.View.held c.args.view.now) (g.V.View.hints c.args.view.now) truth c.args.at.now c.args.offset c.args.written.now)
    (reads_with (g.V.View.held c.args.view.now) (g.V.View.hints c.args.view.now) c.new-none.result) c.args.volume.1 c.in-Some.handle Exclusive c.in-Err.stop c.in-Err.ensures.at

pub returns-clause-lacks : goal.returns-clause-lacks
returns-clause-lacks g c = λ truth tree few same s fit.
    let f = subst (λ (d : List Changed). IsInodeOf c.args.volume.1 (with_draft truth d) tree c.in-Some.handle c.in-Ok.inode) c.new-none.ensures
    (c.in-Ok.ensures.tree truth tree same (over_none c.args.volume.1 truth tree c.new-none.result c.new-none.ensures s.is)) in
    named_first (λ status. write tree c.args.call.now c.args.at.now c.args.offset c.args.written.now c.args.now 8 ≡ Err status)
    (PreparesWritten c.args.volume.1 (g.V.View.held c.args.view.now) (g.V.View.hints c.args.view.now) truth c.in-Some.handle c.args.offset c.args.written.now)
    (PreparesWriting c.args.volume.0 c.args.volume.1 (g.V.View.held c.args.view.now) (g.V.View.hints c.args.view.now) truth c.args.at.now c.args.offset c.args.written.now)
    (λ new prepares. record { handle = c.in-Some.handle; is_named = sym c.in-Some.ensures; prepares = prepares }) c.write_file.result
    (c.write_file.ensures.lacks truth tree c.args.at.now few same s fit f (sym c.in-Some.ensures))

pub returns-clause-ready : goal.returns-clause-ready
returns-clause-ready g c = λ truth tree few same s fit.
    let f = subst (λ (d : List Changed). IsInodeOf c.args.volume.1 (with_draft truth d) tree c.in-Some.handle c.in-Ok.inode) c.new-none.ensures
    (c.in-Ok.ensures.tree truth tree same (over_none c.args.volume.1 truth tree c.new-none.result c.new-none.ensures s.is)) in
    named_ready c.args.volume.0 c.args.volume.1 truth c.args.at.now c.in-Some.handle c.args.offset c.args.written.now (sym c.in-Some.ensures) c.write_file.result
    (c.write_file.ensures.ready truth tree c.args.at.now few same s fit f (sym c.in-Some.ensures))

pub returns-clause-full : goal.returns-clause-full
returns-clause-full g c =
    let held = g.V.View.held c.args.view.now in
    let hints = g.V.View.hints c.args.view.now in
    full_writing held hints c.args.volume.0 c.args.volume.1 c.args.at.now c.args.offset c.args.written.now c.in-Some.handle c.in-Ok.inode (sym c.in-Some.ensures)
    (subst (λ (d : List Changed). LiveAt (reads_with held hints d) c.args.volume.1 c.in-Some.handle Exclusive c.in-Ok.inode) c.new-none.ensures c.in-Ok.ensures.at) c.write_file.result c.write_file.ensures.full

pub returns-clause-laid : goal.returns-clause-laid
returns-clause-laid g c =
    let held = g.V.View.held c.args.view.now in
    let hints = g.V.View.hints c.args.view.now in
    named_laid held hints c.args.volume.0 c.args.volume.1 c.args.at.now c.args.offset c.args.written.now c.in-Some.handle c.in-Ok.inode (sym c.in-Some.ensures)
    (subst (λ (d : List Changed). LiveAt (reads_with held hints d) c.args.volume.1 c.in-Some.handle Exclusive c.in-Ok.inode) c.new-none.ensures c.in-Ok.ensures.at) c.write_file.result c.write_file.ensures.laid

pub returns-in-Err-clause-taken : goal.returns-in-Err-clause-taken
returns-in-Err-clause-taken g c =
    no_inode_first (IsReadiedNear (g.V.View.held c.args.view.now) (g.V.View.hints c.args.view.now) c.args.volume.0 c.args.volume.1 c.args.at.now c.args.offset c.args.written.now)
    (reads_with (g.V.View.held c.args.view.now) (g.V.View.hints c.args.view.now) c.new-none.result) c.args.volume.1 c.in-Some.handle Exclusive c.in-Err.stop c.in-Err.ensures.at

pub returns-clause-taken : goal.returns-clause-taken
returns-clause-taken g c =
    let held = g.V.View.held c.args.view.now in
    let hints = g.V.View.hints c.args.view.now in
    named_readied held hints c.args.volume.0 c.args.volume.1 c.args.at.now c.args.offset c.args.written.now c.in-Some.handle c.in-Ok.inode (sym c.in-Some.ensures)
    (subst (λ (d : List Changed). LiveAt (reads_with held hints d) c.args.volume.1 c.in-Some.handle Exclusive c.in-Ok.inode) c.new-none.ensures c.in-Ok.ensures.at) c.write_file.result c.write_file.ensures.taken
