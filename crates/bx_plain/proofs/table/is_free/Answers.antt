use Rattle.std.proofs.Common.{List, sym, subst}
use Rattle.bx_plain.specs.declared.rows.Row.{Row}
use Rattle.bx_plain.specs.Rows.{AllLet}
use Rattle.bx_plain.proofs.AtBlock.{let_at}
use Rattle.bx_plain.proofs.table.is_free.Goals as goal

pub loop-row-init : goal.loop-row-init
loop-row-init c =
    let at = let_at c.args.session c.args.block c.args.mode c.args.rows.now in
    let Let : List Row → Type 0 = λ rows. AllLet c.args.session c.args.block c.args.mode rows in
    (c.at-row-items.ensures.own, (λ all. at.1 (subst Let c.at-row-items.ensures.rows all)), (λ all. subst Let (sym c.at-row-items.ensures.rows) (at.0 all)))
