-- A step of cleaning that writes nothing isn't one.
use Rattle.std.proofs.Common.{◌≡◌, ℕ, ◌∙◌, Some, length, sym, ap, subst, arith, inl, inr}
use Rattle.bx_attempts.specs.bx_clean.specs.Falling.{Falls, HoldsPageOf}
use Rattle.bx_layout.specs.declared.block.Block.{Block}
use Rattle.bx_page.specs.Contents.{Contents}
use Rattle.bx_page.proofs.Whole.{one_page}
use Rattle.bx_truth.specs.PageTrees.{HasPage}
use Rattle.bx_views.specs.Truths.{Truth}

same_page : (areas handle : ℕ) (truth : Truth) (page other : Contents) → HoldsPageOf areas truth handle page → HoldsPageOf areas truth handle other → page ≡ other
same_page areas handle truth page other one two =
    let chunks : Some one.block ≡ Some two.block = sym one.chunk ∙ two.chunk in
    let same : one.block ≡ two.block = cc in
    one_page page other two.block.payload (subst (λ (b : Block). HasPage page b) same one.has).spells two.has.spells

pub falls_not : (areas : ℕ) (truth : Truth) → Falls areas truth truth → ⊥
falls_not areas truth (inl frees) = frees.was frees.none
falls_not areas truth (inr strips) =
    let same = ap (λ (p : Contents). length p.entries) (same_page areas strips.handle truth strips.page strips.page_now strips.was strips.is) in
    let many = strips.many in
    let one = strips.one in
    absurd (omega (arith, same, many, one))
