use Rattle.std.proofs.Common.{◌≡◌, ◌⊎◌, ℕ, inl, inr, Err, None, Some, length, ap, sym, subst, refl, ◌∙◌}
use Rattle.std.proofs.lemmas.Result.{err_from_is_err_and}
use Rattle.std.specs.BTreeMap.{BTreeMap}
use Rattle.bx_audit_bodies.specs.Outlines.{ArePartsAt, IsOutlineAt, IsRight, IsUnreadFile}
use Rattle.bx_audit_bodies.specs.Reading.{IsReadAs}
use Rattle.bx_audit_owners.specs.declared.holders.Holder.{Holder}
use Rattle.bx_audit_owners.specs.declared.holders.Holder.TheVariants.{File as OfFile}
use Rattle.bx_audit_owners.specs.Found.{IsFound}
use Rattle.bx_audit_owners.specs.Holding.{AddsHolder, holdings_of}
use Rattle.bx_audit_owners.specs.Walks.{IsTakenFile, New}
use Rattle.bx_audit_owners.proofs.Steps.{with_inode}
use Rattle.bx_audit_owners.proofs.Walking.{dead_has_none, file_named, none_dead, other_has_none, other_is_wrong, wrong_file}
use Rattle.bx_audit_pages.proofs.Ends.{both_torn, if_torn}
use Rattle.bx_audit_owners.proofs.walks.meet.Goals as goal

pub returns-in_err-has_holder-clause-torn : goal.returns-in_err-has_holder-clause-torn
returns-in_err-has_holder-clause-torn g c = λ chunks shows found met.
    let p = err_from_is_err_and c.from_residual.result c.from_residual.ensures.1 in
    if_torn _ _ c.in_err-has_holder.field-0.0 c.from_residual.result (p.1 ∙ ap Err p.2) (λ at wrong wanted has. inl record {
      handle = c.args.handle;
      met = met;
      none = other_has_none chunks (holdings_of c.args.found.now.holders) c.args.found.now.files found c.args.handle has.0.other has.0.there has.0.apart;
      part = inl has.1;
      fault = other_is_wrong chunks (holdings_of c.args.found.now.holders) c.args.found.now.files found c.args.handle has.0.other wanted has.0.there has.0.apart has.1;
    }) c.in_err-has_holder.ensures.torn

pub returns-in_err-outline-clause-torn : goal.returns-in_err-outline-clause-torn
returns-in_err-outline-clause-torn g c = λ chunks shows found met.
    let p = err_from_is_err_and c.from_residual-in_err-outline.result c.from_residual-in_err-outline.ensures.1 in
    if_torn _ _ c.in_err-outline.field-0.0 c.from_residual-in_err-outline.result (p.1 ∙ ap Err p.2)
    (λ at wrong wanted both. inl record { handle = c.args.handle; met = met; none = λ owner stored file. both.0 owner stored (Some file); part = both.1.0; fault = inl both.1.1 })
    (both_torn _ _ c.in_err-outline.field-0.0 (c.in_err-outline.ensures.torn chunks shows)
    (both_torn _ _ c.in_err-outline.field-0.0 (c.in_err-outline.ensures.part chunks shows) (c.in_err-outline.ensures.fault chunks shows)))

pub returns-in_default-clause-torn : goal.returns-in_default-clause-torn
returns-in_default-clause-torn g c = λ chunks shows found met.
    let claims = c.in_default.field-0.items in
    let read : IsReadAs chunks c.args.handle None claims = subst (IsOutlineAt chunks c.args.handle) c.in_default.is (c.in_ok-outline.ensures.ok chunks shows) in
    rw c.torn_at.ensures (inl record {
      handle = c.args.handle;
      met = met;
      none = dead_has_none chunks c.args.handle claims read;
      part = inl refl;
      fault = inr record { claims = claims; read = read; wanted_is = refl };
    })

pub returns-in_err-file-clause-torn : goal.returns-in_err-file-clause-torn
returns-in_err-file-clause-torn g c = λ chunks shows found met.
    let p = err_from_is_err_and c.from_residual-in_err-file.result c.from_residual-in_err-file.ensures.1 in
    let before = holdings_of c.args.found.now.holders in
    let outline = c.in-File.outline in
    let handle_is : outline.handle ≡ c.args.handle = (subst (IsRight c.args.handle) c.in-File.is c.in_ok-outline.ensures.right).0 in
    let at : ArePartsAt chunks c.args.handle outline.parts outline.claims.items = subst (IsOutlineAt chunks c.args.handle) c.in-File.is (c.in_ok-outline.ensures.ok chunks shows) in
    if_torn _ _ c.in_err-file.field-0.0 c.from_residual-in_err-file.result (p.1 ∙ ap Err p.2)
    (λ block wrong wanted is. wrong_file chunks before c.args.found.now.files c.args.handle wanted found met
    (subst (λ (n : ℕ). IsUnreadFile chunks n wanted ⊎ IsTakenFile chunks before n wanted) handle_is is))
    (c.in_err-file.ensures.torn chunks (c.in_ok-outline.ensures.shows chunks shows)
    (subst (λ (n : ℕ). ArePartsAt chunks n outline.parts outline.claims.items) (sym handle_is) at))

pub returns-clause-ok : goal.returns-clause-ok
returns-clause-ok g c = λ chunks shows found.
    let before = holdings_of c.args.found.now.holders in
    let now = holdings_of c.claimed_file.new.holders in
    let outline = c.in-File.outline in
    let claims = outline.claims.items in
    let handle_is : outline.handle ≡ c.args.handle = (subst (IsRight c.args.handle) c.in-File.is c.in_ok-outline.ensures.right).0 in
    let at : ArePartsAt chunks c.args.handle outline.parts claims = subst (IsOutlineAt chunks c.args.handle) c.in-File.is (c.in_ok-outline.ensures.ok chunks shows) in
    let read : IsReadAs chunks c.args.handle (Some c.in_ok-file.file) claims = subst (λ (n : ℕ). IsReadAs chunks n (Some c.in_ok-file.file) claims) handle_is
    (c.in_ok-file.ensures.ok chunks (c.in_ok-outline.ensures.shows chunks shows) (subst (λ (n : ℕ). ArePartsAt chunks n outline.parts claims) (sym handle_is) at)) in
    let adds = subst (λ (n : ℕ). AddsHolder before n OfFile claims (length claims) now) handle_is c.in_ok-file.ensures.adds in
    subst (λ (m : BTreeMap ℕ Holder). IsFound chunks (holdings_of m) c.put_file.new.found.files) (sym c.in_ok-put_file.ensures.holders)
    (with_inode chunks before c.args.found.now.files c.args.handle claims found now c.put_file.new.found.files (Some c.in_ok-file.file) read
    (c.in_ok-has_holder.ensures.no c.if-branch.false) adds c.in_ok-put_file.ensures.with tt)

pub returns-clause-step : goal.returns-clause-step
returns-clause-step g c =
    let before = holdings_of c.args.found.now.holders in
    let now = holdings_of c.claimed_file.new.holders in
    let outline = c.in-File.outline in
    let claims = outline.claims.items in
    let handle_is : outline.handle ≡ c.args.handle = (subst (IsRight c.args.handle) c.in-File.is c.in_ok-outline.ensures.right).0 in
    let adds = subst (λ (n : ℕ). AddsHolder before n OfFile claims (length claims) now) handle_is c.in_ok-file.ensures.adds in
    let same = ap (λ (m : BTreeMap ℕ Holder). holdings_of m) c.in_ok-put_file.ensures.holders in
    New c.in_ok-file.file
    (λ chunks shows.
    let at : ArePartsAt chunks c.args.handle outline.parts claims = subst (IsOutlineAt chunks c.args.handle) c.in-File.is (c.in_ok-outline.ensures.ok chunks shows) in
    let read : IsReadAs chunks c.args.handle (Some c.in_ok-file.file) claims = subst (λ (n : ℕ). IsReadAs chunks n (Some c.in_ok-file.file) claims) handle_is
    (c.in_ok-file.ensures.ok chunks (c.in_ok-outline.ensures.shows chunks shows) (subst (λ (n : ℕ). ArePartsAt chunks n outline.parts claims) (sym handle_is) at)) in
    record { claims = claims; is = read; handle_is = file_named chunks before now c.args.handle c.in_ok-file.file claims read adds })
    c.in_ok-put_file.ensures.with c.in_ok-put_names.ensures
    (ap (λ h. h c.args.handle) same ∙ adds.itself) (λ at was. ap (λ h. h at) same ∙ adds.still at OfFile was)
    (λ at dead. none_dead before now c.args.handle claims (length claims) adds at (sym (ap (λ h. h at) same) ∙ dead))

pub returns-in_err-file-clause-shows : goal.returns-in_err-file-clause-shows
returns-in_err-file-clause-shows g c = λ chunks shows. c.in_err-file.ensures.shows chunks (c.in_ok-outline.ensures.shows chunks shows)

pub returns-in_err-put_names-clause-shows : goal.returns-in_err-put_names-clause-shows
returns-in_err-put_names-clause-shows g c = λ chunks shows. c.in_ok-file.ensures.shows chunks (c.in_ok-outline.ensures.shows chunks shows)

pub returns-in_err-put_file-clause-shows : goal.returns-in_err-put_file-clause-shows
returns-in_err-put_file-clause-shows g c = λ chunks shows. c.in_ok-file.ensures.shows chunks (c.in_ok-outline.ensures.shows chunks shows)

pub returns-clause-shows : goal.returns-clause-shows
returns-clause-shows g c = λ chunks shows. c.in_ok-file.ensures.shows chunks (c.in_ok-outline.ensures.shows chunks shows)
