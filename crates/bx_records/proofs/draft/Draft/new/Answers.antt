use Rattle.std.proofs.Common.{arith, sym, subst}
use Rattle.std.specs.List.{IsDistinct}
use Rattle.bx_records.specs.Drafts.{IsDraft}
use Rattle.bx_records.proofs.draft.Draft.new.Goals as goal

pub invariant_of-result : goal.invariant_of-result
unfolding IsDistinct
invariant_of-result c = subst IsDraft (sym c.new.ensures) (record { most = omega arith; apart = tt })
