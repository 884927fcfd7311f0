use Rattle.std.proofs.Common.{sym, ◌∙◌}
use Rattle.bx_replies.proofs.Keeping.{length-kept, apart-kept}
use Rattle.bx_replies.proofs.replies.Replies.len.Goals as goal

pub returns-clause-len : goal.returns-clause-len
returns-clause-len c = rw (← c.self.view_is) (c.len.ensures.len ∙ sym (length-kept c.self.inside.cache.entries))

pub returns-clause-apart : goal.returns-clause-apart
returns-clause-apart c = rw (← c.self.view_is) (apart-kept c.self.inside.cache.entries c.len.ensures.valid.0)
