use Rattle.std.proofs.Common.{subst}
use Rattle.bx_devices.proofs.Called.{answer_promised, answered_after, answered_before, answered_fits, answered_goes_on}
use Rattle.bx_devices.proofs.Calling.{answered_stays, node_away, node_owes, other_read}
use Rattle.bx_devices.specs.Machines.{IsShape}
use Rattle.bx_devices.proofs.store.DevicesStore.arrived.Goals as goal

pub returns-clause-keeps : goal.returns-clause-keeps
returns-clause-keeps c = λ x past keeps. answered_fits c.args.self.now c.arrived-answer.new.self x past c.args.node keeps c.arrived-answer.ensures.only c.arrived-answer.ensures.left (subst IsShape c.self.view_is c.self.invariant)

pub returns-clause-goes_on : goal.returns-clause-goes_on
returns-clause-goes_on c = λ x past keeps. answered_goes_on c.args.self.now c.arrived-answer.new.self x past c.args.node keeps c.arrived-answer.ensures.only c.arrived-answer.ensures.left

pub returns-clause-promise : goal.returns-clause-promise
returns-clause-promise c = λ x past sector content asks keeps will asked low high. answer_promised c.args.self.now x past c.args.node sector content asks c.arrived-answer.result c.arrived-answer.ensures.answer will asked low high

pub returns-clause-taken : goal.returns-clause-taken
returns-clause-taken c = λ some. answered_after c.args.self.now c.arrived-answer.new.self c.args.node c.arrived-answer.result c.arrived-answer.ensures.answer c.arrived-answer.ensures.left some

pub returns-clause-not_yet : goal.returns-clause-not_yet
returns-clause-not_yet c = λ none. answered_before c.args.self.now c.arrived-answer.new.self c.args.node c.arrived-answer.result c.arrived-answer.ensures.answer c.arrived-answer.ensures.left none

pub returns-clause-others : goal.returns-clause-others
returns-clause-others c = λ reader apart. other_read c.args.node reader c.args.self.now c.arrived-answer.new.self c.arrived-answer.ensures.only apart

pub returns-clause-stays : goal.returns-clause-stays
returns-clause-stays c = λ other. answered_stays c.args.node other c.args.self.now c.arrived-answer.new.self c.arrived-answer.ensures.only c.arrived-answer.ensures.left

pub returns-clause-owes : goal.returns-clause-owes
returns-clause-owes c = λ separate other. node_owes c.args.node c.args.self.now c.arrived-answer.new.self other c.arrived-answer.ensures.only

pub returns-clause-needs : goal.returns-clause-needs
returns-clause-needs c = node_away c.args.node c.args.self.now c.arrived-answer.new.self c.arrived-answer.ensures.only
