use Rattle.std.proofs.Common.{◌≡◌, ℕ, Err, List, None, Some, length, ap, sym, subst, refl, ◌∙◌}
use Rattle.std.proofs.lemmas.Result.{err_from_is_err_and}
use Rattle.bx_audit_bodies.specs.Parts.{IsTornDead}
use Rattle.bx_audit_bodies.specs.Outlines.{ArePartsAt, IsOutlineAt, IsRight, IsUnreadFile}
use Rattle.bx_audit_bodies.specs.Reading.{IsReadAs}
use Rattle.bx_audit_bodies.specs.bx_audit_files.specs.Inodes.{IsInodeAt}
use Rattle.bx_layout.specs.declared.inode.Inode.{Inode}
use Rattle.bx_audit_owners.specs.Dead.{Held, Live, Taken, Unread}
use Rattle.bx_audit_bodies.specs.declared.claims.Claim.{Claim}
use Rattle.bx_audit_owners.specs.declared.holders.Holder.TheVariants.{Dead as OfDead}
use Rattle.bx_audit_owners.specs.Holding.{AddsHolder, Clashes, holdings_of}
use Rattle.bx_audit_owners.proofs.Ends.{each_torn, ok_too, torn_too}
use Rattle.bx_audit_owners.proofs.Steps.{with_inode}
use Rattle.bx_audit_pages.proofs.Ends.{both_torn, if_torn}
use Rattle.bx_audit_owners.proofs.dead.read_one.Goals as goal

pub returns-in_err-has_holder-clause-torn : goal.returns-in_err-has_holder-clause-torn
returns-in_err-has_holder-clause-torn g c = λ chunks files shows found.
    let p = err_from_is_err_and c.from_residual.result c.from_residual.ensures.1 in
    if_torn _ _ c.in_err-has_holder.field-0.0 c.from_residual.result (p.1 ∙ ap Err p.2) (λ at wrong wanted has. Held has.0.other has.0.there has.0.apart has.1) c.in_err-has_holder.ensures.torn

pub returns-in_err-claims-clause-torn : goal.returns-in_err-claims-clause-torn
returns-in_err-claims-clause-torn g c = λ chunks files shows found.
    let p = err_from_is_err_and c.from_residual-in_err-claims.result c.from_residual-in_err-claims.ensures.1 in
    if_torn _ _ c.in_err-claims.field-0.0 c.from_residual-in_err-claims.result (p.1 ∙ ap Err p.2)
    (λ at wrong wanted both. Unread record { none = λ owner stored. both.0 owner stored None; part = both.1.0; fault = both.1.1.0; first = λ inode is zero. both.1.1.1 inode (is, zero) })
    (both_torn _ _ c.in_err-claims.field-0.0 (c.in_err-claims.ensures.torn chunks shows) (both_torn _ _ c.in_err-claims.field-0.0 (c.in_err-claims.ensures.part chunks shows)
    (both_torn _ _ c.in_err-claims.field-0.0 (c.in_err-claims.ensures.fault chunks shows)
    (each_torn c.in_err-claims.field-0.0 Inode (λ inode. IsInodeAt chunks c.args.handle inode × (inode.kind ≡ 0)) (λ inode wanted. IsTornDead chunks inode.tree wanted)
    (λ inode is. c.in_err-claims.ensures.dead chunks shows inode is.0 is.1)))))

pub returns-in-Dead-clause-torn : goal.returns-in-Dead-clause-torn
returns-in-Dead-clause-torn g c = λ chunks files shows found.
    let before = holdings_of c.args.holders.now in
    let claims = c.in-Dead.claims.items in
    let read : IsReadAs chunks c.args.handle None claims = subst (IsOutlineAt chunks c.args.handle) c.in-Dead.is (c.in_ok-claims.ensures.ok chunks shows) in
    torn_too _ _ c.put_inode.result
    (λ at wrong wanted both.
    let clash = subst (λ (l : List Claim). (clash : Clashes before c.args.handle OfDead l) × (wanted ≡ clash.claim.handle)) c.as_slice.ensures.value both in
    Taken record { claims = claims; read = read; clash = clash.0; wanted_is = clash.1 })
    c.put_inode.ensures.torn

pub returns-in-Dead-clause-ok : goal.returns-in-Dead-clause-ok
returns-in-Dead-clause-ok g c = λ chunks files shows found.
    let before = holdings_of c.args.holders.now in
    let now = holdings_of c.put_inode.new.holders in
    let claims = c.in-Dead.claims.items in
    let read : IsReadAs chunks c.args.handle None claims = subst (IsOutlineAt chunks c.args.handle) c.in-Dead.is (c.in_ok-claims.ensures.ok chunks shows) in
    ok_too _ _ c.put_inode.result
    (λ is.
    let adds = subst (λ (l : List Claim). AddsHolder before c.args.handle OfDead l (length l) now) c.as_slice.ensures.value is in
    with_inode chunks before files c.args.handle claims found now files None read (c.in_ok-has_holder.ensures.no c.if-branch.false) adds tt refl)
    c.put_inode.ensures.ok

pub returns-in_err-check_file-in-File-clause-torn : goal.returns-in_err-check_file-in-File-clause-torn
returns-in_err-check_file-in-File-clause-torn g c = λ chunks files shows found.
    let p = err_from_is_err_and c.from_residual-in_err-check_file-in-File.result c.from_residual-in_err-check_file-in-File.ensures.1 in
    let outline = c.in-File.outline in
    let handle_is : outline.handle ≡ c.args.handle = (subst (IsRight c.args.handle) c.in-File.is c.in_ok-claims.ensures.right).0 in
    let at : ArePartsAt chunks c.args.handle outline.parts outline.claims.items = subst (IsOutlineAt chunks c.args.handle) c.in-File.is (c.in_ok-claims.ensures.ok chunks shows) in
    if_torn _ _ c.in_err-check_file-in-File.field-0.0 c.from_residual-in_err-check_file-in-File.result (p.1 ∙ ap Err p.2)
    (λ block wrong wanted unread.
    let is : IsUnreadFile chunks c.args.handle wanted = subst (λ (n : ℕ). IsUnreadFile chunks n wanted) handle_is unread in
    Unread record { none = λ owner stored. is.none owner stored None; part = is.part; fault = is.fault; first = λ inode there zero. absurd (is.live inode there zero) })
    (c.in_err-check_file-in-File.ensures.torn chunks (c.in_ok-claims.ensures.shows chunks shows)
    (subst (λ (n : ℕ). ArePartsAt chunks n outline.parts outline.claims.items) (sym handle_is) at))

pub returns-in_ok-check_file-in-File-clause-torn : goal.returns-in_ok-check_file-in-File-clause-torn
returns-in_ok-check_file-in-File-clause-torn g c = λ chunks files shows found.
    let outline = c.in-File.outline in
    let handle_is : outline.handle ≡ c.args.handle = (subst (IsRight c.args.handle) c.in-File.is c.in_ok-claims.ensures.right).0 in
    let at : ArePartsAt chunks c.args.handle outline.parts outline.claims.items = subst (IsOutlineAt chunks c.args.handle) c.in-File.is (c.in_ok-claims.ensures.ok chunks shows) in
    let readable = c.in_ok-check_file-in-File.ensures.ok chunks (c.in_ok-claims.ensures.shows chunks shows)
    (subst (λ (n : ℕ). ArePartsAt chunks n outline.parts outline.claims.items) (sym handle_is) at) in
    rw c.torn_at.ensures (Live readable.file outline.claims.items (subst (λ (n : ℕ). IsReadAs chunks n (Some readable.file) outline.claims.items) handle_is readable.read) refl)

pub returns-in_err-check_file-in-File-clause-shows : goal.returns-in_err-check_file-in-File-clause-shows
returns-in_err-check_file-in-File-clause-shows g c = λ chunks shows. c.in_err-check_file-in-File.ensures.shows chunks (c.in_ok-claims.ensures.shows chunks shows)

pub returns-in_ok-check_file-in-File-clause-shows : goal.returns-in_ok-check_file-in-File-clause-shows
returns-in_ok-check_file-in-File-clause-shows g c = λ chunks shows. c.in_ok-check_file-in-File.ensures.shows chunks (c.in_ok-claims.ensures.shows chunks shows)
