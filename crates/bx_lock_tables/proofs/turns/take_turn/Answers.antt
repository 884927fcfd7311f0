use Rattle.std.proofs.Common.{rules, sym}
use Rattle.std.proofs.lemmas.Fn.{filter_same}
use Rattle.bx_lock_tables.proofs.ByBlock.{none_filtered, put_filtered}
use Rattle.bx_lock_tables.proofs.Waiting.{other}
use Rattle.bx_lock_tables.proofs.turns.take_turn.Goals as goal

pub returns-in_default : goal.returns-in_default
returns-in_default c = none_filtered c.args.blocks.now c.get_mut.follows.lender-at-none c.args.want.now.block (other c.args.want.now) c.get_mut.follows.holds-at-none (sym c.in_default.ensures.value)

pub returns-in-Some : goal.returns-in-Some
returns-in-Some c =
    let updates = (c.get_mut.follows.holds c.retain.new.self).3 (search rules) in
    let left = filter_same _ (other c.args.want.now) _ (λ x b f h. search rules) _ _ c.retain.ensures.filtered in
    put_filtered c.args.blocks.now (c.get_mut.follows.lender c.retain.new.self) c.args.want.now.block c.retain.new.self updates (other c.args.want.now) c.in-Some.turns.now (sym c.in-Some.ensures.value) left
