use Rattle.std.proofs.Common.{◌∙◌}
use Rattle.bx_devices.proofs.Calling.{reading_is}
use Rattle.bx_devices.specs.Machines.{stream_of}
use Rattle.bx_devices.proofs.store.DevicesStore.is_reading.Goals as goal

pub returns : goal.returns
returns c = c.is_reading.ensures ∙ reading_is (stream_of c.args.self.now c.args.node).asks
