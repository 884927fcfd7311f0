use Rattle.std.proofs.Common.{◌∙◌, ap, ltb, not}
use Rattle.std.specs.Prelude.{◌&&◌}
use Rattle.std.specs.List.{list_any}
use Rattle.bx_lock_tables.specs.Queue.{Turns, has_newer, is_other}
use Rattle.bx_lock_tables.proofs.Waiting.{newer_found}
use Rattle.bx_lock_tables.proofs.queue.Queue.is_newer_waiting.Goals as goal

pub returns : goal.returns
returns c =
    let w = c.args.want.now in
    c.is_newer_at.ensures
    ∙ ap (λ (l : Turns). list_any (λ turn. not (is_other w turn.1) && not (ltb turn.1.number w.number)) l) (c.self.invariant.by_block w.block)
    ∙ newer_found w c.self.inside.line.entries
    ∙ ap (has_newer w) c.self.view_is
