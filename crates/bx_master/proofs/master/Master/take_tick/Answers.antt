use Rattle.std.proofs.Common.{ℕ, List, ◌++◌, ap, ◌∙◌}
use Rattle.bx_lock_words.specs.declared.words.Word.{Word}
use Rattle.bx_master.specs.Steps.{letters_of}
use Rattle.bx_master.proofs.Steps.{ticked}
use Rattle.bx_master.proofs.master.Master.take_tick.Goals as goal

pub returns : goal.returns
returns c =
    let sends = c.in_ok-send_each.ensures
    ∙ ap (λ (n : ℕ). c.args.out.now ++ letters_of n c.args.known.now c.as_slice.result.now) c.server-server.ensures
    ∙ ap (λ (words : List Word). c.args.out.now ++ letters_of c.args.self.now.server c.args.known.now words) c.as_slice.ensures.value in
    ticked c.args.known.now c.args.reading c.args.self.now c.catch_up.new.self c.tick.new.self c.mark.new.self c.new-words.result.items c.catch_up.new.words.items c.tick.new.words.items c.change_of-change.result c.args.out.now c.send_each.new.out c.new-words.ensures.items c.in_ok-catch_up.ensures c.in_ok-tick.ensures c.change_of-change.ensures c.in_ok-mark.ensures sends
