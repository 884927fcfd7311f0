use Rattle.bx_paxos_found.proofs.Labelling.{unread_off}
use Rattle.bx_paxos_found.proofs.looking.look.Goals as goal

pub returns-in-Ok-false-clause-seen : goal.returns-in-Ok-false-clause-seen
returns-in-Ok-false-clause-seen g c = λ tells first same.
    let off = c.in-Ok-false.ensures.is (c.in_ok-seen.ensures.rack.keeps_telling tells) in
    unread_off c.args.devices (g.R.Rack.state c.args.rack.now) (g.R.Rack.state c.cell_on.new.rack) c.args.replica c.args.first.now (c.in_ok-seen.ensures.disks tells) first
    (λ spells. let yes = off.1 spells in let no = c.in-Ok-false.field-0-test in absurd cc)
