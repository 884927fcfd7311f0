use Rattle.std.proofs.Common.{◌≡◌, ◌∙◌, List, None, Some, ap, rules}
use Rattle.std.specs.BTreeMap.{get}
use Rattle.std.specs.Ordering.{nat_cmp}
use Rattle.bx_facts.specs.Holds.{without_block}
use Rattle.bx_clerk.specs.Places.{Place, without_places}
use Rattle.bx_clerk.proofs.Placing.{none_asks, out_asks, out_kept}
use Rattle.bx_clerk.proofs.asks.Asks.drop_block.Goals as goal

pub invariant_of-self : goal.invariant_of-self
invariant_of-self c =
    let found : get nat_cmp c.self.inside.blocks c.args.block ≡ Some c.in-Some.places = search rules in
    let goes = c.take_each.ensures.entries ∙ ap (λ (places : List Place). without_places places c.self.inside.line.entries) c.as_slice.ensures.value in
    out_kept c.self.inside.next c.self.inside.line c.self.inside.blocks c.self.invariant c.args.block c.remove.new.self c.remove.ensures.updates c.in-Some.places found c.take_each.new.line goes c.take_each.ensures.ordered

pub returns-in-Some : goal.returns-in-Some
returns-in-Some c =
    let found : get nat_cmp c.self.inside.blocks c.args.block ≡ Some c.in-Some.places = search rules in
    let goes = c.take_each.ensures.entries ∙ ap (λ (places : List Place). without_places places c.self.inside.line.entries) c.as_slice.ensures.value in
    out_asks c.self.inside.next c.self.inside.line c.self.inside.blocks c.self.invariant c.args.block c.remove.new.self c.remove.ensures.updates c.in-Some.places found c.take_each.new.line goes ∙ ap (without_block c.args.block) c.self.view_is

pub returns-in_default : goal.returns-in_default
returns-in_default c =
    let none : get nat_cmp c.self.inside.blocks c.args.block ≡ None = search rules in
    none_asks c.self.inside.next c.self.inside.line c.self.inside.blocks c.self.invariant c.args.block none ∙ ap (without_block c.args.block) c.self.view_is
