use Rattle.std.proofs.Common.{ap, sym, ◌∙◌}
use Rattle.bx_layout.specs.declared.label.Label.{Label}
use Rattle.bx_rack_audit.proofs.laws.one_own_state.Goals as goal

pub returns : goal.returns
returns c = λ sizes image a b is also.
    let first = c.one_first_label.ensures sizes image is.first also.first is.is_first also.is_first in
    c.one_state_is_read.ensures.one a b sizes image a b (is.devices ∙ ap (λ (l : Label). l.devices) first ∙ sym also.devices) is.reads also.reads
