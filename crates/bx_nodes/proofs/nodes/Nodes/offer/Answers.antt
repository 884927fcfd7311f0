use Rattle.std.proofs.Common.{rules, ◌≡◌, false, Option, sym, subst}
use Rattle.bx_disk.specs.Disks.{Disks}
use Rattle.bx_facts.specs.Chains.{with_change}
use Rattle.bx_facts.specs.Pasts.{RegisterPast, register_with}
use Rattle.bx_global.specs.declared.change.Change.{Change}
use Rattle.bx_nodes.proofs.nodes.Nodes.offer.Goals as goal

pub returns-in-Ok-clause-proposes : goal.returns-in-Ok-clause-proposes
returns-in-Ok-clause-proposes g c = record {
  proposal = c.args.change;
  is_offered = λ one is. is;
  holds = subst (λ (offer : Option Change). (x : Disks) (past : RegisterPast) → g.G.Register.keeps c.args.self.now.register x (register_with past c.args.out.now) → past.down c.args.at ≡ false
      → g.G.Register.keeps c.propose.new.self x (register_with (record past { proposed = with_change offer past.proposed }) c.propose.new.out))
      (sym c.in-Some.is) (λ x past keeps up. let kept = c.propose.ensures.keeps x past keeps up in (search rules));
}
