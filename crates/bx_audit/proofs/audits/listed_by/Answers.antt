use Rattle.std.proofs.Common.{◌⊎◌, ⊎_elim, inl, inr, Err, ap, sym, subst, ◌∙◌}
use Rattle.std.proofs.lemmas.Result.{err_from_is_err_and}
use Rattle.bx_audit.specs.Audited.{IsAuditRefusal}
use Rattle.bx_audit.specs.Blocks.{IsTornBlock, StandForNoTree, blocks_of}
use Rattle.bx_audit.proofs.Shown.{are_open, if_err, none_stands, refused, stand_for, wrong_blocks}
use Rattle.bx_audit.specs.Walked.{AreHeaded, AreMet, IsRightFromRoot, IsWrongFromRoot}
use Rattle.bx_audit_owners.specs.Holding.{holdings_of}
use Rattle.bx_audit_owners.specs.Walks.{IsWalkedOn}
use Rattle.bx_audit_owners.specs.Words.{AreWorded}
use Rattle.bx_disk.specs.Disks.{Disks}
use Rattle.bx_homes.specs.Slots.{AreBlocks}
use Rattle.bx_model.specs.declared.tree.Tree.{Tree}
use Rattle.bx_model.specs.FileTrees.{IsFileTree}
use Rattle.bx_overlay.specs.declared.error.AuditError.{AuditError}
use Rattle.bx_overlay.specs.Refusals.{IsBreak}
use Rattle.bx_truth.specs.Stands.{StandsFor}
use Rattle.bx_views.specs.Truths.{Truth}
use Rattle.bx_audit.proofs.audits.listed_by.Goals as goal

pub returns-in_err-read-clause-err : goal.returns-in_err-read-clause-err
returns-in_err-read-clause-err g c = λ tells.
    let p = err_from_is_err_and c.from_residual.result c.from_residual.ensures.1 in
    let disks = g.R.Rack.state c.args.rack.now in
    let state = c.args.state.now in
    let error = c.in_err-read.field-0.0 in
    if_err (λ (e : AuditError). IsBreak e ⊎ IsAuditRefusal disks state e) error c.from_residual.result (p.1 ∙ ap Err p.2)
    (⊎_elim (λ broke. inl broke) (λ why. inr (refused disks state error (c.refused_disks_show_no_tree.ensures disks state error) why)) (c.in_err-read.ensures.err tells))

pub returns-in_err-tree-clause-err : goal.returns-in_err-tree-clause-err
returns-in_err-tree-clause-err g c = λ tells.
    let p = err_from_is_err_and c.from_residual-in_err-tree.result c.from_residual-in_err-tree.ensures.1 in
    let disks = g.R.Rack.state c.args.rack.now in
    let state = c.args.state.now in
    let read = c.in_ok-read.read in
    let is = c.in_ok-read.ensures.ok tells in
    let blocks = c.what_is_read_is_shown.ensures.blocks disks state read in
    let truth_of = c.what_is_read_is_shown.ensures.truth disks state read in
    let one = c.one_first_label.ensures disks.sizes disks.reads in
    let keeps = c.in_ok-read.ensures.rack.keeps_telling tells in
    let met : AreMet read.members.areas (blocks_of disks read) c.in_ok-walked.walked.tree = record {
      holdings = holdings_of c.in_ok-walked.walked.holders;
      walked = λ chunks headed. c.in_ok-walked.ensures.ok keeps chunks (subst (λ (d : Disks). AreHeaded read.members.areas (blocks_of d read) chunks) (sym c.in_ok-read.ensures.stays) headed);
    } in
    let words = subst (λ (d : Disks). AreWorded read.members.areas (blocks_of d read) (holdings_of c.in_ok-walked.walked.holders)) c.in_ok-read.ensures.stays (c.in_ok-walked.ensures.words keeps) in
    let right : IsRightFromRoot read.members.areas (blocks_of disks read) = record { tree = c.in_ok-walked.walked.tree; met = met; words = words; is = c.in_ok-walked.ensures.is } in
    let started = subst (λ (d : Disks). IsWalkedOn (Unit {0}) read.members.areas (blocks_of d read) c.in_ok-walked.walked) (sym c.in_ok-walked.ensures.rack.stays) (c.in_ok-walked.ensures.ok keeps) in
    let keeps_then = c.in_ok-walked.ensures.rack.keeps_telling keeps in
    let same_then = c.in_ok-walked.ensures.rack.stays ∙ c.in_ok-read.ensures.stays in
    let error = c.in_err-tree.field-0.0 in
    let why = subst (λ (d : Disks). IsBreak error ⊎ (IsTornBlock read.members.areas (blocks_of d read) error × StandForNoTree read.members.areas (blocks_of d read))) same_then (c.in_err-tree.ensures.err keeps_then started) in
    if_err (λ (e : AuditError). IsBreak e ⊎ IsAuditRefusal disks state e) error c.from_residual-in_err-tree.result (p.1 ∙ ap Err p.2)
    (⊎_elim (λ broke. inl broke) (λ torn. inr (wrong_blocks disks state read is blocks truth_of one error (inr record { right = right; why = torn.0 }) (none_stands disks state read is blocks truth_of one torn.1))) why)

pub returns-clause-ok : goal.returns-clause-ok
returns-clause-ok g c = λ tells.
    let disks = g.R.Rack.state c.args.rack.now in
    let state = c.args.state.now in
    let read = c.in_ok-read.read in
    let is = c.in_ok-read.ensures.ok tells in
    let blocks = c.what_is_read_is_shown.ensures.blocks disks state read in
    let truth_of = c.what_is_read_is_shown.ensures.truth disks state read in
    let one = c.one_first_label.ensures disks.sizes disks.reads in
    let tree = c.in_ok-tree.tree in
    let keeps = c.in_ok-read.ensures.rack.keeps_telling tells in
    let started = subst (λ (d : Disks). IsWalkedOn (Unit {0}) read.members.areas (blocks_of d read) c.in_ok-walked.walked) (sym c.in_ok-walked.ensures.rack.stays) (c.in_ok-walked.ensures.ok keeps) in
    let keeps_then = c.in_ok-walked.ensures.rack.keeps_telling keeps in
    let same_then = c.in_ok-walked.ensures.rack.stays ∙ c.in_ok-read.ensures.stays in
    let any = subst (λ (d : Disks). (truth : Truth) → AreBlocks read.members.areas (blocks_of d read) truth → StandsFor read.members.areas truth tree) same_then
    (c.in_ok-tree.ensures.any keeps_then started) in
    let there = subst (λ (d : Disks). (truth : Truth) × AreBlocks read.members.areas (blocks_of d read) truth) same_then (c.in_ok-tree.ensures.there keeps_then) in
    record {
      tree = tree;
      stands = stand_for disks state read is blocks truth_of one there.0 tree there.1 (any there.0 there.1) (subst IsFileTree (sym c.in_ok-tree.ensures.is) c.in_ok-walked.ensures.is)
          (ap (λ (t : Tree). t.volume) c.in_ok-tree.ensures.is ∙ c.in_ok-walked.ensures.tree.volume_is);
      text_is = c.in_ok-text.ensures;
      doubt = are_open disks state read is blocks truth_of one;
    }

pub returns-in_err-walked-clause-err : goal.returns-in_err-walked-clause-err
returns-in_err-walked-clause-err g c = λ tells.
    let p = err_from_is_err_and c.from_residual-in_err-walked.result c.from_residual-in_err-walked.ensures.1 in
    let disks = g.R.Rack.state c.args.rack.now in
    let state = c.args.state.now in
    let read = c.in_ok-read.read in
    let is = c.in_ok-read.ensures.ok tells in
    let blocks = c.what_is_read_is_shown.ensures.blocks disks state read in
    let truth_of = c.what_is_read_is_shown.ensures.truth disks state read in
    let one = c.one_first_label.ensures disks.sizes disks.reads in
    let error = c.in_err-walked.field-0.0 in
    let why = subst (λ (d : Disks). IsBreak error ⊎ (IsWrongFromRoot read.members.areas (blocks_of d read) error × StandForNoTree read.members.areas (blocks_of d read))) c.in_ok-read.ensures.stays
    (c.in_err-walked.ensures.err (c.in_ok-read.ensures.rack.keeps_telling tells)) in
    if_err (λ (e : AuditError). IsBreak e ⊎ IsAuditRefusal disks state e) error c.from_residual-in_err-walked.result (p.1 ∙ ap Err p.2)
    (⊎_elim (λ broke. inl broke) (λ torn. inr (wrong_blocks disks state read is blocks truth_of one error (inl torn.0) (none_stands disks state read is blocks truth_of one torn.1))) why)
