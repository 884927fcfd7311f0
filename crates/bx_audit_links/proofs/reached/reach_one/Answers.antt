use Rattle.std.proofs.Common.{ℕ, List, ◌∙◌, ap, sym}
use Rattle.std.specs.BTreeMap.{is_at}
use Rattle.std.specs.List.{list_any}
use Rattle.std.specs.Ordering.{nat_cmp}
use Rattle.bx_audit_links.proofs.ReachedOnes.{reaches_not}
use Rattle.bx_audit_links.proofs.reached.reach_one.Goals as goal

pub returns-else-remove-clause-reaches : goal.returns-else-remove-clause-reaches
returns-else-remove-clause-reaches c = reaches_not c.args.handle _ _ _ (sym c.remove.ensures.test ∙ c.if-remove.false) (λ handle. ap (λ (keys : List ℕ). list_any (is_at (nat_cmp handle)) keys) c.if-remove.ensures.unchanged)
