use Rattle.std.proofs.Common.{◌≡◌, ◌∙◌, None, Some, ap, sym}
use Rattle.std.specs.BTreeMap.{get}
use Rattle.std.specs.Ordering.{nat_cmp}
use Rattle.bx_clerk.specs.Requests.{Requests, request_in}
use Rattle.bx_clerk.proofs.Turns.{none_is, one_is}
use Rattle.bx_clerk.proofs.requests.Requests.get.Goals as goal

pub returns-in-None : goal.returns-in-None
returns-in-None c =
    let none : get nat_cmp c.self.inside.turns c.args.block ≡ None = sym c.in-None.ensures.value in
    sym (none_is c.self.inside.next c.self.inside.line c.self.inside.turns c.self.invariant c.args.block none) ∙ ap (λ (rs : Requests). request_in rs c.args.block) c.self.view_is

pub returns-in-Some : goal.returns-in-Some
returns-in-Some c =
    let found : get nat_cmp c.self.inside.turns c.args.block ≡ Some c.in-Some.turn.now = sym c.in-Some.ensures.value in
    c.asking_at.ensures ∙ one_is c.self.inside.next c.self.inside.line c.self.inside.turns c.self.invariant c.args.block c.in-Some.turn.now found ∙ ap (λ (rs : Requests). request_in rs c.args.block) c.self.view_is
