use Rattle.std.proofs.Common.{ap}
use Rattle.bx_node_steps.proofs.Drafted.{asks_first, held_blocks, of_some}
use Rattle.bx_node_steps.specs.declared.machine.Stage.TheVariants.{Records}
use Rattle.bx_redo.specs.Steps.{record_of}
use Rattle.bx_redo.specs.View.{LogView}
use Rattle.bx_redo.specs.declared.work.Work.TheVariants.{Body}
use Rattle.bx_volume.specs.Records.{logged_text}
use Rattle.bx_node_steps.proofs.machine.Machine.begin.Goals as goal

pub append-requires-clause-blocks : goal.append-requires-clause-blocks
append-requires-clause-blocks c = of_some c.args.self.now.cache.areas c.args.recording.pending.draft c.are_blocks.ensures.volume.most_areas
    (held_blocks c.args.self.now.cache c.are_blocks.ensures.blocks c.args.recording.pending.draft c.requires.held)

pub returns : goal.returns
returns c =
    let recording = c.args.recording in
    let more = record_of recording.point recording.pending.draft in
    let first = asks_first c.args.self.now.log c.append.new.self c.next.new.self (Body (logged_text more) recording.point) c.in_ok-runs.field-0 c.in-Write.runs c.in_ok-append.ensures.ok c.in_ok-runs.ensures.ok c.in-Write.is in
    record {
      only = ap (λ (l : LogView). record c.args.self.now { calls = c.wait_on.new.calls; log = l; stage = Records recording.pending }) first.0;
      calls = c.in_ok-wait_on.ensures;
      asks = first.1;
      logged = c.in_ok-append.ensures.logged c.args.self.now.cache.areas (held_blocks c.args.self.now.cache c.are_blocks.ensures.blocks recording.pending.draft c.requires.held);
    }
