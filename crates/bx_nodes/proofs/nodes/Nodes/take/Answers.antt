use Rattle.std.proofs.Common.{◌∙◌, ⊎_elim, inl, inr, ◌++◌, IfSome, sym, ap, subst}
use Rattle.std.specs.Prelude.{slice_get}
use Rattle.bx_node_steps.specs.Calls.{AreApart}
use Rattle.bx_node_events.proofs.Works.{keeps_on}
use Rattle.bx_facts.specs.Chains.{Chain, GrowsBy, last}
use Rattle.bx_nodes.specs.Taking.{with_reading}
use Rattle.bx_nodes.proofs.nodes.Nodes.take.Goals as goal

pub returns-then-matches-clause-stopped : goal.returns-then-matches-clause-stopped
returns-then-matches-clause-stopped g c = λ letters clocks course tree tells up steady comes stands fault.
    let heard = c.hand-taken.ensures.faulted letters clocks course tree tells up steady comes stands fault in
    let all = c.crash.ensures.stops (g.R.Rack.state c.hand-taken.new.rack) (letters ++ c.args.out.now) (with_reading clocks c.args.input.now) heard.later tree heard.stands in
    let known = c.crash.ensures.knows c.args.at in
    let told = ⊎_elim (λ same. inl (all.chain ∙ same)) (λ is. inr (known ∙ is ∙ ap (λ (chain : Chain). last chain) (sym all.chain))) heard.told in
    record { later = all.later; grows = subst (λ (chain : Chain). GrowsBy course.register.proposed course.register.chain chain) (sym all.chain) heard.grows; told = told; logs = all.logs ∙ heard.logs; works = keeps_on _ _ _ heard.works all.works; stands = all.stands }

pub returns-then-matches-clause-apart : goal.returns-then-matches-clause-apart
returns-then-matches-clause-apart g c = λ node apart.
    c.crash.ensures.apart node (subst (λ m. IfSome (slice_get m.items node) AreApart) (sym c.hand-taken.ensures.machines.0) apart)
