use Rattle.std.proofs.Common.{◌≡◌, ◌∙◌, ap, Vec, Global}
use Rattle.std.specs.Map.{values_of}
use Rattle.std.proofs.lemmas.Result.{IfOk-weaker}
use Rattle.bx_lock_words.specs.declared.words.Want.{Want}
use Rattle.bx_lock_tables.specs.Queue.{turns_at, wants_at}
use Rattle.bx_lock_tables.proofs.ByBlock.{found_at}
use Rattle.bx_lock_tables.proofs.queue.Queue.at_block.Goals as goal

pub returns-clause-is : goal.returns-clause-is
returns-clause-is c =
    let found = found_at c.self.inside.next c.self.inside.line c.self.inside.blocks c.self.invariant c.args.block ∙ ap (wants_at c.args.block) c.self.view_is in
    IfOk-weaker {X = Vec Want Global} c.wants_in.result (λ wants. wants.items ≡ values_of (turns_at c.self.inside.blocks c.args.block)) (λ wants. wants.items ≡ wants_at c.args.block c.args.self.now) (λ wants is. is ∙ found) c.wants_in.ensures
