use Rattle.std.proofs.Common.{sym, ◌∙◌}
use Rattle.bx_devices.proofs.Calling.{done_none, none_done}
use Rattle.bx_devices.specs.Machines.{stream_of}
use Rattle.bx_devices.proofs.store.DevicesStore.done.Goals as goal

pub returns-clause-no_write : goal.returns-clause-no_write
returns-clause-no_write c = λ is. done_none (stream_of c.args.self.now c.args.node).out (sym c.done.ensures ∙ is)

pub returns-clause-out : goal.returns-clause-out
returns-clause-out c = λ none. c.done.ensures ∙ none_done (stream_of c.args.self.now c.args.node).out none
