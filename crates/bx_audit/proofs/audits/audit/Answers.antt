use Rattle.std.proofs.Common.{⊎_elim, ◌∙◌}
use Rattle.bx_audit.proofs.Shown.{err_too, ok_too}
use Rattle.bx_audit.proofs.audits.audit.Goals as goal

pub returns-clause-stands : goal.returns-clause-stands
returns-clause-stands g c = λ tells tree stands.
    let disks = g.R.Rack.state c.args.rack.now in
    ok_too _ _ c.listed_by.result (λ listed is. is.text_is ∙ c.one_tree_stands.ensures.listing disks.sizes disks.reads c.args.state.now is.tree tree is.stands stands) (c.listed_by.ensures.ok tells)

pub returns-clause-breaks : goal.returns-clause-breaks
returns-clause-breaks g c = λ tells tree stands.
    err_too _ _ c.listed_by.result (λ error. ⊎_elim (λ broke. broke) (λ refusal. absurd (refusal.none tree stands))) (c.listed_by.ensures.err tells)
