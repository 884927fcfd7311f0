use Rattle.std.proofs.Common.{length, ap, subst, ◌∙◌, arith, get_or}
use Rattle.std.proofs.lemmas.List.Sums.{get_or-le-sum_by}
use Rattle.bx_page.specs.Contents.{Contents, entry_size}
use Rattle.bx_page.specs.Places.{IsPlace}
use Rattle.bx_page.proofs.Edits.{size_there}
use Rattle.bx_page.proofs.page.Page.size_with.Goals as goal

pub returns-in-Ok : goal.returns-in-Ok
returns-in-Ok c =
    let page = c.args.self.now in
    let key = c.args.key.now in
    let x = c.index.result.now in
    let at = subst (IsPlace page.entries key) c.in-Ok.is c.requires.place in
    let here = c.index.ensures ∙ ap (λ (p : Contents). get_or p.entries c.in-Ok.place x) c.self.view_is in
    let sum = size_there page key c.args.value.now c.in-Ok.place x at here in
    omega (arith, sum, get_or-le-sum_by entry_size page.entries c.in-Ok.place x at.within, ap entry_size here, c.used.ensures.used, ap length c.bytes.ensures)
