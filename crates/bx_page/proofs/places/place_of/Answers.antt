use Rattle.std.proofs.Common.{rules}
use Rattle.std.specs.Ordering.{nat_cmp}
use Rattle.std.specs.Cmp.Lexicographic.{slice_cmp}
use Rattle.std.proofs.lemmas.Fn.{always_returns_same}
use Rattle.bx_page.proofs.places.place_of.Goals as goal
use Rattle.bx_page.proofs.Placed.{placed}

pub returns : goal.returns
returns c = placed c.args.entries.now c.args.key.now c.binary_search_by.result c.requires c.binary_search_by.ensures.bound (c.binary_search_by.ensures.position (λ entry. slice_cmp nat_cmp entry.key c.args.key.now) (always_returns_same _ _ _ (λ a r f k. (search rules, search rules))))
