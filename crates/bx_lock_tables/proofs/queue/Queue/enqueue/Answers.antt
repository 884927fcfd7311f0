use Rattle.std.proofs.Common.{◌≡◌, sym, subst}
use Rattle.bx_lock_words.specs.declared.words.Want.{Want}
use Rattle.std.specs.Prelude.{List}
use Rattle.bx_lock_tables.specs.Queue.{without}
use Rattle.bx_lock_tables.proofs.Waiting.{without_twice}
use Rattle.bx_lock_tables.proofs.queue.Queue.enqueue.Goals as goal

pub push-requires : goal.push-requires
push-requires c = subst (λ (l : List Want). without c.args.want.now l ≡ l) (sym c.drop_request.ensures) (without_twice c.args.want.now c.args.self.now)
