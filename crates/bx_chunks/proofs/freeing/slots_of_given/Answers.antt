use Rattle.std.proofs.Common.{sym, subst, ◌∙◌, ◌≡◌, true, false}
use Rattle.bx_layout.specs.declared.area.AreaBlock.{AreaBlock}
use Rattle.bx_chunks.specs.Freeing.{IsGiven}
use Rattle.bx_chunks.proofs.OneArea.{one_area}
use Rattle.bx_chunks.proofs.Uses.{not_given}
use Rattle.bx_chunks.proofs.freeing.slots_of_given.Goals as goal

pub returns-in-None-2 : goal.returns-in-None-2
returns-in-None-2 g c =
    not_given (g.V.View.held c.args.view.now) c.args.draft.now c.args.handle c.of-parts.result c.own_block-own.result c.in-Some.block.now c.of-parts.ensures c.own_block-own.ensures c.in-Some.ensures
    (λ slots has given. (rw c.in-None-2.is at c.in_ok-slots_of-in-Some.ensures.none) slots has)

pub returns-else-is_given : goal.returns-else-is_given
returns-else-is_given g c =
    not_given (g.V.View.held c.args.view.now) c.args.draft.now c.args.handle c.of-parts.result c.own_block-own.result c.in-Some.block.now c.of-parts.ensures c.own_block-own.ensures c.in-Some.ensures
    (λ slots has given.
    let here = rw c.in-Some-2.is at c.in_ok-slots_of-in-Some.ensures.some in
    let same = one_area slots c.in-Some-2.slots c.in-Some.block.now.payload has.spells here.spells in
    let yes : c.is_given.result ≡ true = c.is_given.ensures.1 (subst (λ (s : AreaBlock). IsGiven s c.of-parts.result) same given) in
    let no : true ≡ false = sym yes ∙ c.if-is_given.false in
    absurd cc)
