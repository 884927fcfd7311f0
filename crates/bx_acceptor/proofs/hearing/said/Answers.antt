use Rattle.std.proofs.Common.{subst}
use Rattle.bx_packets.proofs.Spelled.{one_message}
use Rattle.bx_packets.specs.declared.message.Message.{Message}
use Rattle.bx_acceptor.specs.Standing.{IsTaken}
use Rattle.bx_acceptor.proofs.hearing.said.Goals as goal

pub returns-then-not-is_taken-clause-none : goal.returns-then-not-is_taken-clause-none
returns-then-not-is_taken-clause-none c = λ other spells taken.
    let packet = c.args.packet.now in
    let found = rw c.in-Some.is at c.in_ok-message.ensures.some in
    let same = one_message other c.in-Some.message packet.kind packet.body c.args.devices c.args.devices spells (rw c.bytes.ensures at found) in
    let here : IsTaken c.args.number c.in-Some.message = subst (λ (m : Message). IsTaken c.args.number m) same taken in
    let yes = c.is_taken.ensures.1 here in
    let no = c.if-not-is_taken.true in
    absurd cc
