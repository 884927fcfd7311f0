use Rattle.std.proofs.Common.{◌≡◌, ◌∙◌, [], ◌∷◌, Some, Option, Vec, Global, ap, rules, subst}
use Rattle.std.specs.BTreeMap.{UpdatesBy}
use Rattle.std.specs.Ordering.{nat_cmp}
use Rattle.bx_clerk.specs.Places.{Place, items_or_none, put_place}
use Rattle.bx_clerk.proofs.Placing.{Blocks, puts}
use Rattle.bx_clerk.proofs.places.put_at.Goals as goal

pub returns-clause-ok : goal.returns-clause-ok
returns-clause-ok c =
    let same = c.get_mut.follows.holds-at-none in
    let updates = subst (λ (m : Blocks). UpdatesBy nat_cmp (nat_cmp c.args.block) m c.insert.new.self (Some c.in_ok-places.places)) same c.in_ok-insert.ensures.updates in
    let one : c.in_ok-places.places.items ≡ c.args.place ∷ [] = search rules in
    puts c.args.blocks.now c.insert.new.self c.args.block (Some c.in_ok-places.places) updates c.args.place (one ∙ ap (λ (o : Option (Vec Place Global)). put_place c.args.place (items_or_none o)) c.in_default.ensures.value)
