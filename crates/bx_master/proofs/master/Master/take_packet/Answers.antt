use Rattle.std.proofs.Common.{ℕ, List, ◌++◌, ap, subst, ◌∙◌}
use Rattle.bx_lock_words.specs.declared.words.Word.{Word}
use Rattle.bx_master.specs.Steps.{SaysOr, letters_of}
use Rattle.bx_master.proofs.Steps.{heard}
use Rattle.bx_master.proofs.master.Master.take_packet.Goals as goal

pub returns : goal.returns
returns c =
    let sends = c.in_ok-send_each.ensures
    ∙ ap (λ (n : ℕ). c.args.out.now ++ letters_of n c.args.known.now c.as_slice.result.now) c.server-server.ensures
    ∙ ap (λ (words : List Word). c.args.out.now ++ letters_of c.args.self.now.server c.args.known.now words) c.as_slice.ensures.value in
    heard c.args.known.now c.args.packet.now.kind c.args.reading c.args.packet.now.body c.read-said.result c.args.self.now c.catch_up.new.self c.hear_as.new.self c.new-words.result.items c.catch_up.new.words.items c.hear_as.new.words.items c.args.out.now c.send_each.new.out (subst (λ (body : List ℕ). SaysOr c.args.packet.now.kind body c.read-said.result) c.bytes.ensures c.read-said.ensures) c.new-words.ensures.items c.in_ok-catch_up.ensures c.in_ok-hear_as.ensures sends
