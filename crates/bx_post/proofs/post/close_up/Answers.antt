use Rattle.std.proofs.Common.{sym, ap, ◌∙◌, length}
use Rattle.bx_post.specs.Slots.{count_from, waiting_from, posted}
use Rattle.bx_post.proofs.Posts.{as_many, all_wait}
use Rattle.bx_post.proofs.Slots.{left_over}
use Rattle.bx_post.proofs.post.close_up.Goals as goal

pub returns-clause-left : goal.returns-clause-left
returns-clause-left c = c.number_anew.ensures.same ∙ ap posted c.keep_waiting.ensures ∙ left_over c.args.slots.now.items

pub returns-clause-kept : goal.returns-clause-kept
returns-clause-kept c =
    let long = ap length c.requires.pending ∙ as_many 1 (posted c.args.slots.now.items) in
    record {
      numbers = c.number_anew.ensures.numbers;
      pending = c.count_up.ensures ∙ ap (count_from 1) long ∙ sym (all_wait 1 (posted c.args.slots.now.items)) ∙ ap (waiting_from 1) (sym (returns-clause-left c));
    }
