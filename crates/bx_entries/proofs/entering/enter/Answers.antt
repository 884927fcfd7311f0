use Rattle.std.proofs.Common.{arith, subst}
use Rattle.bx_entries.proofs.Entered.{above, directory, enters, has_numbers, listed, stopped}
use Rattle.bx_entries.proofs.Stopped.{added_more, full_stops, inode_more, needs_stop, never_full}
use Rattle.bx_directory_reads.specs.bx_dirs.specs.Changes.{OnAddPath, entry_of}
use Rattle.bx_inodes.specs.Writing.{PutsInode}
use Rattle.bx_layout.specs.declared.inode.Inode.{Inode}
use Rattle.bx_entries.proofs.entering.enter.Goals as goal

pub returns-in_default-clause-step : goal.returns-in_default-clause-step
returns-in_default-clause-step g c = λ truth tree file e.
    c.in_default.ensures.none
    (has_numbers c.args.areas (g.V.View.held c.args.view.now) (g.V.View.hints c.args.view.now) truth c.args.draft tree c.args.directory.handle c.args.directory.inode file c.args.name.now c.args.made c.args.counts c.args.now e)

pub returns-in-Err-clause-step : goal.returns-in-Err-clause-step
returns-in-Err-clause-step g c = λ truth tree file e.
    stopped c.args.areas (g.V.View.held c.args.view.now) (g.V.View.hints c.args.view.now) truth c.args.draft tree c.args.directory.handle c.args.directory.inode file c.args.name.now c.args.made c.args.counts c.args.now e
    c.add.new.draft c.in-Err.error c.of_tree.result c.requires.few c.requires.name c.in-Err.ensures.ends
    (c.in-Err.ensures.list c.args.areas truth e.names
    (listed c.args.areas (g.V.View.held c.args.view.now) (g.V.View.hints c.args.view.now) truth c.args.draft tree c.args.directory.handle c.args.directory.inode file c.args.name.now c.args.made c.args.counts c.args.now e)
    (above c.args.areas (g.V.View.held c.args.view.now) (g.V.View.hints c.args.view.now) truth c.args.draft tree c.args.directory.handle c.args.directory.inode file c.args.name.now c.args.made c.args.counts c.args.now e))
    c.in-Err.ensures.fair c.of_tree.ensures

pub returns-in-Err-clause-need : goal.returns-in-Err-clause-need
returns-in-Err-clause-need g c =
    needs_stop (Unit {0}) c.args.areas (g.V.View.held c.args.view.now)
    (OnAddPath (g.V.View.held c.args.view.now) (g.V.View.hints c.args.view.now) c.args.draft c.args.directory.inode.tree (entry_of c.args.directory.inode.next c.args.name.now c.args.made)) c.in-Err.error c.of_tree.result c.in-Err.ensures.fair
    c.of_tree.ensures

pub returns-in-Err-clause-full : goal.returns-in-Err-clause-full
returns-in-Err-clause-full g c =
    full_stops (Unit {0}) c.args.areas (λ spare. ⊥) c.in-Err.error c.of_tree.result
    (never_full (g.V.View.held c.args.view.now) (g.V.View.hints c.args.view.now) c.args.draft c.add.new.draft c.args.directory.inode.tree (entry_of c.args.directory.inode.next c.args.name.now c.args.made) c.in-Err.error c.in-Err.ensures.ends)
    c.of_tree.ensures

pub put_inode-requires-clause-room : goal.put_inode-requires-clause-room
put_inode-requires-clause-room g c =
    let few = c.requires.few in
    let more = added_more (g.V.View.held c.args.view.now) (g.V.View.hints c.args.view.now) c.args.draft c.add.new.draft c.args.directory.inode.tree (entry_of c.args.directory.inode.next c.args.name.now c.args.made) c.in-Ok.ensures.ends in
    omega (arith, few, more)

pub returns-clause-step : goal.returns-clause-step
returns-clause-step g c = λ truth tree file e.
    enters c.args.areas (g.V.View.held c.args.view.now) (g.V.View.hints c.args.view.now) truth c.args.draft tree c.args.directory.handle c.args.directory.inode file c.args.name.now c.args.made c.args.counts c.args.now e c.add.new.draft
    c.put_inode.new.draft
    (c.in-Ok.ensures.tree c.args.areas truth tree c.args.directory.handle file e.parent e.next e.names
    (directory c.args.areas (g.V.View.held c.args.view.now) (g.V.View.hints c.args.view.now) truth c.args.draft tree c.args.directory.handle c.args.directory.inode file c.args.name.now c.args.made c.args.counts c.args.now e)
    (above c.args.areas (g.V.View.held c.args.view.now) (g.V.View.hints c.args.view.now) truth c.args.draft tree c.args.directory.handle c.args.directory.inode file c.args.name.now c.args.made c.args.counts c.args.now e))
    (subst (λ (i : Inode). PutsInode c.add.new.draft c.put_inode.new.draft c.args.directory.handle i) c.in-Some.ensures.some.0 c.in-Ok-put_inode.ensures.puts)

pub returns-clause-few : goal.returns-clause-few
returns-clause-few g c =
    let more = added_more (g.V.View.held c.args.view.now) (g.V.View.hints c.args.view.now) c.args.draft c.add.new.draft c.args.directory.inode.tree (entry_of c.args.directory.inode.next c.args.name.now c.args.made) c.in-Ok.ensures.ends in
    let one = inode_more c.add.new.draft c.put_inode.new.draft c.args.directory.handle c.in-Some.changed c.in-Ok-put_inode.ensures.puts in
    omega (arith, more, one)

pub returns-clause-ends : goal.returns-clause-ends
returns-clause-ends g c = record {
  mid = c.add.new.draft;
  adds = c.in-Ok.ensures.ends;
  puts = subst (λ (i : Inode). PutsInode c.add.new.draft c.put_inode.new.draft c.args.directory.handle i) c.in-Some.ensures.some.0 c.in-Ok-put_inode.ensures.puts;
}
