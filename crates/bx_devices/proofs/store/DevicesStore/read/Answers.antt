use Rattle.std.proofs.Common.{subst}
use Rattle.bx_devices.proofs.Called.{no_read, read_fits, read_goes, read_promise}
use Rattle.bx_devices.proofs.Calling.{asked_is, node_away, node_owes, other_read, own_there, read_stays}
use Rattle.bx_devices.proofs.Results.{on_all, on_ok}
use Rattle.bx_devices.specs.Machines.{IsShape, stream_of}
use Rattle.bx_devices.proofs.store.DevicesStore.read.Goals as goal

pub read-result-requires-clause-none_out : goal.read-result-requires-clause-none_out
read-result-requires-clause-none_out c = no_read (stream_of c.args.self.now c.args.node).asks c.requires.none_out

pub returns-clause-keeps : goal.returns-clause-keeps
returns-clause-keeps c = λ x past keeps up. on_all c.read-result.result (λ reads sends numbers.
    let own = own_there c.args.self.now c.args.node c.requires.session in
    read_fits c.args.self.now c.read-result.new.self x past c.args.out.now c.read-result.new.out c.args.node own.0 c.args.device c.args.place c.args.sectors keeps (subst IsShape c.self.view_is c.self.invariant) c.read-result.ensures.only own.1 c.requires.none_out reads sends numbers)
    c.read-result.ensures.reads c.read-result.ensures.sends c.read-result.ensures.numbers

pub returns-clause-goes_on : goal.returns-clause-goes_on
returns-clause-goes_on c = λ x past keeps up. on_all c.read-result.result (λ reads sends numbers.
    let own = own_there c.args.self.now c.args.node c.requires.session in
    read_goes c.args.self.now c.read-result.new.self x past c.args.out.now c.read-result.new.out c.args.node own.0 c.args.device c.args.place c.args.sectors keeps (subst IsShape c.self.view_is c.self.invariant) c.read-result.ensures.only own.1 c.requires.none_out reads sends numbers)
    c.read-result.ensures.reads c.read-result.ensures.sends c.read-result.ensures.numbers

pub returns-clause-promise : goal.returns-clause-promise
returns-clause-promise c = λ x past sector content index keeps up low high only stands knows. on_all c.read-result.result (λ reads sends numbers.
    let own = own_there c.args.self.now c.args.node c.requires.session in
    read_promise c.args.self.now c.read-result.new.self x past c.args.out.now c.read-result.new.out c.args.node own.0 c.args.device c.args.place c.args.sectors keeps (subst IsShape c.self.view_is c.self.invariant) c.read-result.ensures.only own.1 c.requires.none_out reads sends numbers sector content index stands knows)
    c.read-result.ensures.reads c.read-result.ensures.sends c.read-result.ensures.numbers

pub returns-clause-asks : goal.returns-clause-asks
returns-clause-asks c = on_ok c.read-result.result (λ reads. let own = own_there c.args.self.now c.args.node c.requires.session in asked_is c.args.self.now c.read-result.new.self c.args.node own.0 c.args.device c.args.place c.args.sectors own.1 reads) c.read-result.ensures.reads

pub returns-clause-others : goal.returns-clause-others
returns-clause-others c = λ reader apart. other_read c.args.node reader c.args.self.now c.read-result.new.self c.read-result.ensures.only apart

pub returns-clause-stays : goal.returns-clause-stays
returns-clause-stays c = λ other. read_stays c.args.node other c.args.self.now c.read-result.new.self c.read-result.ensures.only c.read-result.ensures.stays

pub returns-clause-owes : goal.returns-clause-owes
returns-clause-owes c = λ separate other. node_owes c.args.node c.args.self.now c.read-result.new.self other c.read-result.ensures.only

pub returns-clause-needs : goal.returns-clause-needs
returns-clause-needs c = node_away c.args.node c.args.self.now c.read-result.new.self c.read-result.ensures.only
