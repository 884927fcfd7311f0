use Rattle.std.proofs.Common.{◌≡◌, ◌∙◌, true, refl, sym, ap, subst}
use Rattle.std.specs.Prelude.{not}
use Rattle.bx_node_calls.specs.bx_nodes.specs.bx_node_openings.specs.Opening.{opening_clocks}
use Rattle.bx_world_machines.specs.Machines.{is_up}
use Rattle.bx_world_machines.proofs.Doubts.{in_doubt_none}
use Rattle.bx_world_machines.proofs.Beginning.{all_there, only_there}
use Rattle.bx_world_machines.proofs.machines.Machines.begin.Goals as goal

pub returns-clause-stands : goal.returns-clause-stands
returns-clause-stands g c = λ letters x course tree stands came none known. (
  record {
    clocks = opening_clocks;
    course = course;
    are_clocks = record {
      down = λ who has. sym (ap not (ap (λ l. is_up l who) c.in_ok-up.ensures ∙ all_there c.args.count c.args.devices who has));
      boots = refl;
      greatest = sym c.new.ensures;
    };
    stands = stands;
    came = came;
    doubts = in_doubt_none 0 c.args.nodes.machines.items course none;
    known = known;
  },
  refl,
)

pub returns-clause-ready : goal.returns-clause-ready
returns-clause-ready g c = λ sizes nodes counted devices none replicas members. record {
  are_ready = record {
    nodes = nodes;
    counted = counted;
    members = devices;
    few = c.requires.few;
    there = λ who up. only_there c.args.count c.args.devices who (subst (λ l. is_up l who ≡ true) c.in_ok-up.ensures up);
    quiet = λ node call is_down waits. absurd (none node call waits);
    numbered = record { least = λ node call waits. absurd (none node call waits); most = λ node call waits. absurd (none node call waits); alone = λ node other call twin waits also same. absurd (none node call waits) };
  };
  replicas = replicas;
  members = members;
}
