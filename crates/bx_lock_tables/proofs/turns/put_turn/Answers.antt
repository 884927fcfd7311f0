use Rattle.std.proofs.Common.{rules, sym, subst}
use Rattle.std.specs.BTreeMap.{UpdatesBy}
use Rattle.std.specs.Ordering.{nat_cmp}
use Rattle.std.specs.Prelude.{Some}
use Rattle.bx_lock_tables.proofs.ByBlock.{Blocks, put_first}
use Rattle.bx_lock_tables.proofs.turns.put_turn.Goals as goal

pub returns-clause-ok : goal.returns-clause-ok
returns-clause-ok c =
    let same = c.get_mut.follows.holds-at-none in
    let updates = subst (λ (m : Blocks). UpdatesBy nat_cmp (nat_cmp c.args.want.now.block) m c.insert.new.self (Some c.in_ok-turns.turns)) same c.in_ok-insert.ensures.updates in
    put_first c.args.blocks.now c.insert.new.self c.args.want.now.block c.in_ok-turns.turns updates (c.args.turn, c.args.want.now) (sym c.in_default.ensures.value) (search rules)
