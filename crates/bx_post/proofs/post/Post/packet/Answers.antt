use Rattle.std.proofs.Common.{arith, sym, ap, ◌∙◌, ◌-◌}
use Rattle.std.specs.Option.{option_map}
use Rattle.bx_post.proofs.Slots.{packet_at, packet_of, packet_none}
use Rattle.bx_post.proofs.post.Post.packet.Goals as goal

pub returns-then-number-eq0 : goal.returns-then-number-eq0
returns-then-number-eq0 c = sym (packet_none 1 c.args.number c.args.self.now (omega arith))

pub returns-in-Some : goal.returns-in-Some
returns-in-Some c =
    let at = packet_at 1 c.args.number (c.args.number - 1) c.self.inside.slots.items c.self.invariant.kept.numbers (omega arith) in
    rw (← c.self.view_is) (ap (option_map packet_of) c.in-Some.ensures ∙ sym at)

pub returns-in-None : goal.returns-in-None
returns-in-None c =
    let at = packet_at 1 c.args.number (c.args.number - 1) c.self.inside.slots.items c.self.invariant.kept.numbers (omega arith) in
    rw (← c.self.view_is) (ap (option_map packet_of) c.in-None.ensures ∙ sym at)
