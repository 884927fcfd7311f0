use Rattle.std.proofs.Common.{ℕ, List, ◌++◌, ap, subst, ◌∙◌}
use Rattle.bx_lock_words.specs.declared.words.Word.{Word}
use Rattle.bx_clerk.specs.Clerks.{Clerking, letters_of}
use Rattle.bx_clerk.specs.Events.{SaysOr}
use Rattle.bx_clerk.proofs.Steps.{heard}
use Rattle.bx_clerk.proofs.clerk.Clerk.take_packet.Goals as goal

pub returns : goal.returns
returns c =
    let sends = c.in_ok-send_each.ensures
    ∙ ap (λ (k : Clerking). c.args.out.now ++ letters_of k c.as_slice.result.now) c.self.view_is
    ∙ ap (λ (words : List Word). c.args.out.now ++ letters_of c.args.self.now words) c.as_slice.ensures.value in
    heard c.args.packet.now.kind c.args.reading c.args.packet.now.body c.read-said.result c.args.self.now c.hear.new.self c.new-words.result.items c.hear.new.words.items c.args.out.now c.send_each.new.out (subst (λ (body : List ℕ). SaysOr c.args.packet.now.kind body c.read-said.result) c.bytes.ensures c.read-said.ensures) c.new-words.ensures.items c.in_ok-hear.ensures sends
