use Rattle.std.proofs.Common.{arith}
use Rattle.bx_replies.specs.Calls.{kept}
use Rattle.bx_replies.proofs.Keeping.{put_keeps, reply_of-with_answer}
use Rattle.bx_replies.proofs.replies.Replies.keep.Goals as goal

pub returns-clause-ok : goal.returns-clause-ok
returns-clause-ok c =
    rw (c.in_ok-put.ensures.entries, ← c.self.view_is) (put_keeps c.self.inside.cache record { client = c.args.client; bytes = c.args.call } c.args.reply c.self.invariant c.len-count.ensures.valid.0 (omega (arith, c.len-count.ensures.valid.1)))

pub returns-clause-found : goal.returns-clause-found
returns-clause-found c =
    rw (c.in_ok-put.ensures.entries, put_keeps c.self.inside.cache record { client = c.args.client; bytes = c.args.call } c.args.reply c.self.invariant c.len-count.ensures.valid.0 (omega (arith, c.len-count.ensures.valid.1)))
    (reply_of-with_answer (kept c.self.inside.cache.entries) record { client = c.args.client; call = c.args.call; reply = c.args.reply })
