use Rattle.std.proofs.Common.{◌⊎◌, ⊎_elim, inl, inr, Err, ap, subst, ◌∙◌}
use Rattle.std.proofs.lemmas.Result.{err_from_is_err_and}
use Rattle.bx_audit.specs.Blocks.{StandForNoTree, blocks_of}
use Rattle.bx_audit.specs.Walked.{IsWrongFromRoot, NamesFile, TellsSlot}
use Rattle.bx_audit.proofs.Ordered.{in_order}
use Rattle.bx_audit.proofs.Shown.{if_err}
use Rattle.bx_audit.proofs.Walked.{none_linked, none_worded, wrong_slot}
use Rattle.bx_audit_owners.specs.Holding.{holdings_of}
use Rattle.bx_audit_owners.specs.Words.{AreWorded}
use Rattle.bx_disk.specs.Disks.{Disks}
use Rattle.bx_logs.specs.Members.{held_by}
use Rattle.bx_model.specs.FileTrees.{IsFileTree}
use Rattle.bx_overlay.specs.declared.error.AuditError.{AuditError}
use Rattle.bx_overlay.specs.OneOver.{one_over}
use Rattle.bx_overlay.specs.Refusals.{IsBreak}
use Rattle.bx_audit.proofs.walks.walked_in.Goals as goal

pub check_links-requires-clause-order : goal.check_links-requires-clause-order
check_links-requires-clause-order g c = in_order c.in_ok-walked.walked.tree c.in_ok-walked.ensures.tree.ordered

pub returns-in_err-walked-clause-err : goal.returns-in_err-walked-clause-err
returns-in_err-walked-clause-err g c = λ tells.
    let p = err_from_is_err_and c.from_residual.result c.from_residual.ensures.1 in
    let read = c.args.read.now in
    let stands = blocks_of (g.R.Rack.state c.args.rack.now) read in
    if_err (λ (e : AuditError). IsBreak e ⊎ (IsWrongFromRoot read.members.areas stands e × StandForNoTree read.members.areas stands)) c.in_err-walked.field-0.0 c.from_residual.result (p.1 ∙ ap Err p.2)
    (⊎_elim (λ broke. inl broke) (λ torn. inr (inl torn.0, torn.1)) (c.in_err-walked.ensures.err tells))

pub returns-in_err-check_words_in-clause-err : goal.returns-in_err-check_words_in-clause-err
returns-in_err-check_words_in-clause-err g c = λ tells.
    let p = err_from_is_err_and c.from_residual-in_err-check_words_in.result c.from_residual-in_err-check_words_in.ensures.1 in
    let read = c.args.read.now in
    let disks = g.R.Rack.state c.args.rack.now in
    let stands = blocks_of disks read in
    let walked = c.in_ok-walked.walked in
    let error = c.in_err-check_words_in.field-0.0 in
    let is_walked = c.in_ok-walked.ensures.ok tells in
    let why = subst (λ (d : Disks). IsBreak error ⊎ TellsSlot read.members.areas (blocks_of d read) (holdings_of walked.holders) error) c.in_ok-walked.ensures.rack.stays
    (c.in_err-check_words_in.ensures.err (c.in_ok-walked.ensures.rack.keeps_telling tells)) in
    if_err (λ (e : AuditError). IsBreak e ⊎ (IsWrongFromRoot read.members.areas stands e × StandForNoTree read.members.areas stands)) error c.from_residual-in_err-check_words_in.result (p.1 ∙ ap Err p.2)
    (⊎_elim (λ broke. inl broke)
    (λ torn. inr (
      inr (inl (wrong_slot read.members.areas stands walked error is_walked torn)),
      none_worded read.members.areas stands walked c.requires.volume.most_areas (one_over (held_by disks.reads read.members) read.members.devices read.newest) is_walked torn.at torn.found torn.wanted torn.torn,
    ))
    why)

pub returns-clause-words : goal.returns-clause-words
returns-clause-words g c = λ tells.
    let read = c.args.read.now in
    subst (λ (d : Disks). AreWorded read.members.areas (blocks_of d read) (holdings_of c.in_ok-walked.walked.holders)) c.in_ok-walked.ensures.rack.stays
    (c.in_ok-check_words_in.ensures.ok (c.in_ok-walked.ensures.rack.keeps_telling tells))

pub returns-in_err-check_links-clause-err : goal.returns-in_err-check_links-clause-err
returns-in_err-check_links-clause-err g c = λ tells.
    let p = err_from_is_err_and c.from_residual-in_err-check_links.result c.from_residual-in_err-check_links.ensures.1 in
    let read = c.args.read.now in
    let disks = g.R.Rack.state c.args.rack.now in
    let stands = blocks_of disks read in
    let walked = c.in_ok-walked.walked in
    let error = c.in_err-check_links.field-0.0 in
    let is_walked = c.in_ok-walked.ensures.ok tells in
    let keeps = c.in_ok-walked.ensures.rack.keeps_telling tells in
    let words = subst (λ (d : Disks). AreWorded read.members.areas (blocks_of d read) (holdings_of walked.holders)) c.in_ok-walked.ensures.rack.stays (c.in_ok-check_words_in.ensures.ok keeps) in
    let why = subst (λ (d : Disks). IsBreak error ⊎ (NamesFile read.members.areas (blocks_of d read) walked.tree error × (IsFileTree walked.tree → ⊥)))
    (c.in_ok-check_words_in.ensures.rack.stays ∙ c.in_ok-walked.ensures.rack.stays)
    (c.in_err-check_links.ensures.err (c.in_ok-check_words_in.ensures.rack.keeps_telling keeps)) in
    if_err (λ (e : AuditError). IsBreak e ⊎ (IsWrongFromRoot read.members.areas stands e × StandForNoTree read.members.areas stands)) error c.from_residual-in_err-check_links.result (p.1 ∙ ap Err p.2)
    (⊎_elim (λ broke. inl broke)
    (λ torn. inr (
      inr (inr record { tree = walked.tree; met = record { holdings = holdings_of walked.holders; walked = is_walked }; words = words; none = torn.1; names = torn.0 }),
      none_linked read.members.areas read.first.volume stands walked c.requires.volume.most_areas (one_over (held_by disks.reads read.members) read.members.devices read.newest) is_walked c.in_ok-walked.ensures.tree torn.1,
    ))
    why)
