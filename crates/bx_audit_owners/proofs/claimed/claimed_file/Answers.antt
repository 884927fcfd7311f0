use Rattle.std.proofs.Common.{◌≡◌, inl, inr, List, Err, subst}
use Rattle.bx_audit_bodies.specs.declared.claims.Claim.{Claim}
use Rattle.bx_audit_owners.specs.declared.holders.Holder.TheVariants.{File as OfFile}
use Rattle.bx_audit_owners.specs.Holding.{Clashes, holdings_of}
use Rattle.bx_audit_owners.proofs.Ends.{torn_too}
use Rattle.bx_tree_files.specs.declared.file.File.{File}
use Rattle.bx_audit_owners.proofs.claimed.claimed_file.Goals as goal

pub returns-in-Ok-clause-torn : goal.returns-in-Ok-clause-torn
returns-in-Ok-clause-torn g c = λ chunks shows is. torn_too _ _ c.file_of.result (λ at found wanted unread. inl unread) (c.file_of.ensures.torn chunks shows is)

pub returns-in_ok-check_file-in-Err-clause-torn : goal.returns-in_ok-check_file-in-Err-clause-torn
returns-in_ok-check_file-in-Err-clause-torn g c = λ chunks shows is.
    let before = holdings_of c.args.holders.now in
    let claims = c.args.outline.claims.items in
    let readable = c.in_ok-check_file-in-Err.ensures.ok chunks shows is in
    torn_too {A = File} _ _ (Err c.in-Err.error)
    (λ at found wanted both.
    let clash = subst (λ (l : List Claim). (clash : Clashes before c.args.outline.handle OfFile l) × (wanted ≡ clash.claim.handle)) c.as_slice-claims.ensures.value both in
    inr record { file = readable.file; claims = claims; read = readable.read; clash = clash.0; wanted_is = clash.1 })
    c.in-Err.ensures.torn
