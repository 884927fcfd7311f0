use Rattle.std.proofs.Common.{refl}
use Rattle.bx_world_machines.proofs.at_once.try_over_none.Goals as goal

pub returns-clause-leads : goal.returns-clause-leads
returns-clause-leads g c = λ truth tree stands.
    let gives = c.in_ok-found.ensures.gives truth tree (record { each = λ at mode block is. absurd cc }) stands in
    let acts = rw (c.in-Some-Answer.is, c.in-Some-Answer.field-0-is, c.bytes.ensures.bytes) at gives in
    record {
      last = acts.next;
      leads = (tree, refl, rw c.into_bytes.ensures acts.step);
      all = λ hints stood. acts.leads.each hints stood;
      spares = (acts.spare, tt);
    }
