use Rattle.std.proofs.Common.{rules}
use Rattle.std.proofs.lemmas.Fn.{filter_same}
use Rattle.bx_post.specs.Slots.{slot_waits}
use Rattle.bx_post.proofs.post.keep_waiting.Goals as goal

pub returns : goal.returns
returns c = filter_same _ slot_waits _ (λ x b f h. search rules) _ _ c.retain.ensures.filtered
