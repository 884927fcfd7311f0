use Rattle.std.proofs.Common.{◌≡◌, ◌+◌, ◌∙◌, None, Some, ap, rules}
use Rattle.std.specs.BTreeMap.{get, insert_entry}
use Rattle.std.specs.Ordering.{nat_cmp}
use Rattle.bx_clerk.specs.Requests.{Requests, with_request}
use Rattle.bx_clerk.proofs.Turns.{new_kept, new_values, put_kept, put_values}
use Rattle.bx_clerk.proofs.requests.Requests.put.Goals as goal

pub invariant_of-self-in-Some : goal.invariant_of-self-in-Some
invariant_of-self-in-Some c =
    let found : get nat_cmp c.self.inside.turns c.args.block ≡ Some c.in-Some.turn = search rules in
    put_kept c.self.inside.next c.self.inside.line c.self.inside.turns c.self.invariant c.args.block c.in-Some.turn found c.insert.new.self c.insert.ensures.ordered c.args.asking c.in_ok-insert.ensures.entries

pub returns-in-Some-clause-ok : goal.returns-in-Some-clause-ok
returns-in-Some-clause-ok c =
    let found : get nat_cmp c.self.inside.turns c.args.block ≡ Some c.in-Some.turn = search rules in
    put_values c.self.inside.next c.self.inside.line c.self.inside.turns c.self.invariant c.args.block c.in-Some.turn found c.insert.new.self c.insert.ensures.ordered c.args.asking c.in_ok-insert.ensures.entries ∙ ap (λ (rs : Requests). with_request rs c.args.block c.args.asking) c.self.view_is

pub invariant_of-self-2 : goal.invariant_of-self-2
invariant_of-self-2 c =
    let none : get nat_cmp c.self.inside.turns c.args.block ≡ None = search rules in
    let comes : c.insert-3.new.self.entries ≡ insert_entry nat_cmp c.self.inside.line.entries c.self.inside.next (c.args.block, c.args.asking) = search rules in
    let bound : c.in-Some-checked_add.next ≡ c.self.inside.next + 1 = search rules in
    new_kept c.self.inside.next c.self.inside.line c.self.inside.turns c.self.invariant c.args.block none c.insert-2.new.self c.in_ok-insert-2.ensures.updates c.insert-3.new.self c.insert-3.ensures.ordered c.args.asking comes c.in-Some-checked_add.next bound

pub returns-clause-ok : goal.returns-clause-ok
returns-clause-ok c =
    let none : get nat_cmp c.self.inside.turns c.args.block ≡ None = search rules in
    let comes : c.insert-3.new.self.entries ≡ insert_entry nat_cmp c.self.inside.line.entries c.self.inside.next (c.args.block, c.args.asking) = search rules in
    new_values c.self.inside.next c.self.inside.line c.self.inside.turns c.self.invariant c.args.block none c.insert-2.new.self c.in_ok-insert-2.ensures.updates c.insert-3.new.self c.insert-3.ensures.ordered c.args.asking comes ∙ ap (λ (rs : Requests). with_request rs c.args.block c.args.asking) c.self.view_is
