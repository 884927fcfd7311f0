use Rattle.std.proofs.Common.{◌≡◌, ◌+◌, ◌-◌, arith, length, ap, ◌∙◌}
use Rattle.bx_tree_parts.specs.Contents.{written_over}
use Rattle.bx_tree_parts.specs.Pieces.{byte_at}
use Rattle.bx_tree_parts.proofs.Contents.{is_written}
use Rattle.bx_tree_parts.proofs.Places.{same_bytes}
use Rattle.bx_tree_parts.proofs.content.Content.write.Goals as goal

pub returns-then-self-end-clause-ok : goal.returns-then-self-end-clause-ok
returns-then-self-end-clause-ok c =
    let size : c.args.offset + length c.args.written.now ≡ c.args.offset + length c.args.written.now + (c.self.inside.size - (c.args.offset + length c.args.written.now)) =
    omega (arith, c.if-self-end.true) in
    is_written (byte_at c.hold_all.new.self) (byte_at c.put_all.new.self) c.self.inside.size (c.args.offset + length c.args.written.now) c.args.offset c.args.written.now
    (λ place behind. c.in_ok-hold_all.ensures.same place ∙ c.self.invariant.behind place behind) c.put_all.ensures.put size
    ∙ ap (written_over c.args.offset c.args.written.now) (same_bytes (byte_at c.hold_all.new.self) (byte_at c.self.inside.pieces) 0 c.self.inside.size (λ i less. c.in_ok-hold_all.ensures.same (0 + i)) ∙ c.self.view_is)

pub returns-else-self-end-clause-ok : goal.returns-else-self-end-clause-ok
returns-else-self-end-clause-ok c =
    let size : c.self.inside.size ≡ c.args.offset + length c.args.written.now + (c.self.inside.size - (c.args.offset + length c.args.written.now)) = omega (arith, c.if-self-end.false) in
    is_written (byte_at c.hold_all.new.self) (byte_at c.put_all.new.self) c.self.inside.size c.self.inside.size c.args.offset c.args.written.now
    (λ place behind. c.in_ok-hold_all.ensures.same place ∙ c.self.invariant.behind place behind) c.put_all.ensures.put size
    ∙ ap (written_over c.args.offset c.args.written.now) (same_bytes (byte_at c.hold_all.new.self) (byte_at c.self.inside.pieces) 0 c.self.inside.size (λ i less. c.in_ok-hold_all.ensures.same (0 + i)) ∙ c.self.view_is)
