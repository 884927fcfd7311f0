use Rattle.std.proofs.Common.{rules}
use Rattle.bx_facts.specs.Pasts.{register_with}
use Rattle.bx_tests_stores.proofs.Together.{not_offered, sends_none}
use Rattle.bx_tests_stores.proofs.toy.propose.Goals as goal

pub returns-in-Ok-2 : goal.returns-in-Ok-2
returns-in-Ok-2 g c = record {
  keeps = λ x past fits up.
      let refused = c.in-Ok.ensures.refused x past fits (search rules) in
      not_offered (λ offered out. g.G.Register.keeps c.propose.new.self x (register_with offered out)) c.args.change past c.args.out.now c.propose.new.out refused.0 refused.1;
  knows = c.in-Ok.ensures.knows;
  sent = λ x past fits. let refused = c.in-Ok.ensures.refused x past fits (search rules) in sends_none c.args.out.now c.propose.new.out refused.1;
  nodes = c.in-Ok.ensures.made.1;
  needs = c.in-Ok.ensures.needs;
}
