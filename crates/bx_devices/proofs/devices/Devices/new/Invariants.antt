use Rattle.bx_devices.proofs.Making.{AreMembers, AreStreams}
use Rattle.bx_devices.proofs.devices.Devices.new.Given as goal

abbrev pub invariant-loop-number : goal.invariant-loop-number
invariant-loop-number l = AreMembers (record { volume = l.volume; nodes = l.nodes; devices = l.devices; areas = l.areas }) l.number l.members.items

abbrev pub invariant-loop-node : goal.invariant-loop-node
invariant-loop-node l = AreStreams l.first l.node l.streams.items
