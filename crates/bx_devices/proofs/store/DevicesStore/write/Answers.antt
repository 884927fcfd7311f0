use Rattle.std.proofs.Common.{subst}
use Rattle.bx_devices.proofs.Called.{no_write, write_fits, write_goes}
use Rattle.bx_devices.proofs.Calling.{node_away, node_owes, other_out, sent_is, write_stays}
use Rattle.bx_devices.proofs.Results.{on_all, on_ok}
use Rattle.bx_devices.specs.Machines.{IsShape, stream_of}
use Rattle.bx_devices.proofs.store.DevicesStore.write.Goals as goal

pub write-result-requires-clause-none_out : goal.write-result-requires-clause-none_out
write-result-requires-clause-none_out c = no_write (stream_of c.args.self.now c.args.node).out c.requires.none_out

pub returns-clause-keeps : goal.returns-clause-keeps
returns-clause-keeps c = λ x past session keeps up own may. on_all c.write-result.result (λ writes sends numbers.
    write_fits c.args.self.now c.write-result.new.self x past c.args.out.now c.write-result.new.out c.args.node session c.args.until c.args.runs.now keeps (subst IsShape c.self.view_is c.self.invariant) c.write-result.ensures.only own c.requires.none_out c.requires.runs may writes sends numbers)
    c.write-result.ensures.writes c.write-result.ensures.sends c.write-result.ensures.numbers

pub returns-clause-goes_on : goal.returns-clause-goes_on
returns-clause-goes_on c = λ x past session keeps up own may. on_all c.write-result.result (λ writes sends numbers.
    write_goes c.args.self.now c.write-result.new.self x past c.args.out.now c.write-result.new.out c.args.node session c.args.until c.args.runs.now keeps (subst IsShape c.self.view_is c.self.invariant) c.write-result.ensures.only own c.requires.none_out c.requires.runs may writes sends numbers)
    c.write-result.ensures.writes c.write-result.ensures.sends c.write-result.ensures.numbers

pub returns-clause-is_out : goal.returns-clause-is_out
returns-clause-is_out c = λ session own. on_ok c.write-result.result (λ writes. sent_is c.args.self.now c.write-result.new.self c.args.node session c.args.until c.args.runs.now own writes) c.write-result.ensures.writes

pub returns-clause-others : goal.returns-clause-others
returns-clause-others c = λ other apart. other_out c.args.node other c.args.self.now c.write-result.new.self c.write-result.ensures.only apart

pub returns-clause-stays : goal.returns-clause-stays
returns-clause-stays c = λ other. write_stays c.args.node other c.args.self.now c.write-result.new.self c.write-result.ensures.only c.write-result.ensures.stays

pub returns-clause-owes : goal.returns-clause-owes
returns-clause-owes c = λ separate other. node_owes c.args.node c.args.self.now c.write-result.new.self other c.write-result.ensures.only

pub returns-clause-needs : goal.returns-clause-needs
returns-clause-needs c = node_away c.args.node c.args.self.now c.write-result.new.self c.write-result.ensures.only
