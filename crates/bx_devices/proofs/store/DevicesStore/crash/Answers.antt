use Rattle.std.proofs.Common.{subst}
use Rattle.bx_devices.proofs.Calling.{other_node, stops_member, stops_needs, stops_node}
use Rattle.bx_devices.proofs.Leaving.{owes_only}
use Rattle.bx_devices.proofs.Stopped.{crashed}
use Rattle.bx_devices.specs.Machines.{IsShape}
use Rattle.bx_devices.proofs.store.DevicesStore.crash.Goals as goal

pub returns-clause-keeps : goal.returns-clause-keeps
returns-clause-keeps c = λ x past keeps. (crashed c.args.self.now c.crash.new.self x past keeps (subst IsShape c.self.view_is c.self.invariant) c.args.who c.crash.ensures.stops c.crash.ensures.only).fits

pub returns-clause-settled : goal.returns-clause-settled
returns-clause-settled c = λ x past device sector content keeps is. (crashed c.args.self.now c.crash.new.self x past keeps (subst IsShape c.self.view_is c.self.invariant) c.args.who c.crash.ensures.stops c.crash.ensures.only).settled device sector content is

pub returns-clause-stands : goal.returns-clause-stands
returns-clause-stands c = λ x past device sector content index keeps is. (crashed c.args.self.now c.crash.new.self x past keeps (subst IsShape c.self.view_is c.self.invariant) c.args.who c.crash.ensures.stops c.crash.ensures.only).stands device sector content index is

pub returns-clause-reads : goal.returns-clause-reads
returns-clause-reads c = λ x past reader sector content apart keeps will. (crashed c.args.self.now c.crash.new.self x past keeps (subst IsShape c.self.view_is c.self.invariant) c.args.who c.crash.ensures.stops c.crash.ensures.only).reads reader sector content apart will

pub returns-clause-others : goal.returns-clause-others
returns-clause-others c = λ node apart. other_node c.args.who c.args.self.now c.crash.new.self node c.crash.ensures.only apart

pub returns-clause-needs : goal.returns-clause-needs
returns-clause-needs c = stops_needs c.args.who c.args.self.now c.crash.new.self c.crash.ensures.stops c.crash.ensures.only

pub returns-clause-owes : goal.returns-clause-owes
returns-clause-owes c = λ separate. owes_only c.args.who c.args.self.now c.crash.new.self c.crash.ensures.only

pub returns-clause-ended : goal.returns-clause-ended
returns-clause-ended c = λ node is. stops_node c.args.who c.args.self.now c.crash.new.self node is c.crash.ensures.stops

pub returns-clause-down : goal.returns-clause-down
returns-clause-down c = λ member is. stops_member c.args.who c.args.self.now c.crash.new.self member is c.crash.ensures.stops
