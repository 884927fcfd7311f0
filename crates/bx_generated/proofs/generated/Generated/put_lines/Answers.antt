use Rattle.std.proofs.Common.{◌<◌, arith}
use Rattle.bx_generated.proofs.generated.Generated.put_lines.Goals as goal

pub overflow_add-number : goal.overflow_add-number
overflow_add-number c =
    let left : c.self.inside.made < c.self.inside.calls = rw (← c.self.view_is) at c.requires in
    omega (arith, left, c.self.invariant.6)
