use Rattle.std.proofs.Common.{◌∙◌, sym, arith}
use Rattle.std.proofs.lemmas.Bool.Decides.{Decides-eqb}
use Rattle.std.proofs.lemmas.Slice.Eq.{slice_eq-Decides}
use Rattle.bx_members.proofs.Kept.{first_sector}
use Rattle.bx_members.proofs.members.has_bytes.Goals as goal

pub returns-clause-same : goal.returns-clause-same
returns-clause-same g c = λ tells is.
    first_sector _ _ _ _ (omega arith) (c.in_ok-read_sectors.ensures.bytes tells) ∙ sym c.as_slice.ensures ∙ (slice_eq-Decides Decides-eqb _ _ _ c.eq.ensures).0 is

pub returns-clause-other : goal.returns-clause-other
returns-clause-other g c = λ tells is same.
    let equal = (slice_eq-Decides Decides-eqb _ _ _ c.eq.ensures).1 (c.as_slice.ensures ∙ sym (first_sector _ _ _ _ (omega arith) (c.in_ok-read_sectors.ensures.bytes tells)) ∙ same) in
    absurd cc
