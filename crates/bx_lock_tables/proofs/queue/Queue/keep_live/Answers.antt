use Rattle.std.proofs.lemmas.List.{drop_more, take_more}
use Rattle.bx_lock_tables.proofs.Waiting.{kept_on}
use Rattle.bx_lock_tables.proofs.queue.Queue.keep_live.Goals as goal

pub loop-want-preserved : goal.loop-want-preserved
loop-want-preserved c =
    let all = c.deref-want-items.result.now in
    let i = c.loop-want.want-index in
    kept_on c.args.known.now all i _ c.loop-want.self c.drop_dead.new.self (drop_more all i _ c.loop-want-test.true) (take_more all i _ c.loop-want-test.true) c.loop-want.invariant c.drop_dead.ensures
