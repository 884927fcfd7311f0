use Rattle.std.proofs.Common.{◌≡◌, ◌∙◌, None, Some, ap, subst, rules}
use Rattle.std.specs.BTreeMap.{get}
use Rattle.std.specs.Ordering.{nat_cmp}
use Rattle.bx_clerk.specs.Requests.{Requests, without_request}
use Rattle.bx_clerk.proofs.Turns.{none_goes, out_kept, out_values}
use Rattle.bx_clerk.proofs.requests.Requests.take_out.Goals as goal

pub returns-in_default : goal.returns-in_default
returns-in_default c =
    let none : get nat_cmp c.self.inside.turns c.args.block ≡ None = search rules in
    subst (λ (rs : Requests). rs ≡ without_request rs c.args.block) c.self.view_is (none_goes c.self.inside.next c.self.inside.line c.self.inside.turns c.self.invariant c.args.block none)

pub invariant_of-self : goal.invariant_of-self
invariant_of-self c =
    let found : get nat_cmp c.self.inside.turns c.args.block ≡ Some c.in-Some.turn = search rules in
    out_kept c.self.inside.next c.self.inside.line c.self.inside.turns c.self.invariant c.args.block c.in-Some.turn found c.remove-2.new.self c.remove-2.ensures.ordered c.remove-2.ensures.entries c.remove.new.self c.remove.ensures.updates

pub returns : goal.returns
returns c =
    let found : get nat_cmp c.self.inside.turns c.args.block ≡ Some c.in-Some.turn = search rules in
    out_values c.self.inside.next c.self.inside.line c.self.inside.turns c.self.invariant c.args.block c.in-Some.turn found c.remove-2.new.self c.remove-2.ensures.ordered c.remove-2.ensures.entries ∙ ap (λ (rs : Requests). without_request rs c.args.block) c.self.view_is
