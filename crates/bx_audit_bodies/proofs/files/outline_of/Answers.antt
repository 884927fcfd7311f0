use Rattle.std.proofs.Common.{arith, ◌≡◌, ⊎_elim, inl, inr, Option, Some, None, sym, ap, subst, ◌∙◌, Err}
use Rattle.std.proofs.lemmas.Result.{err_from_is_err_and}
use Rattle.bx_audit_pages.proofs.Ends.{both_torn, if_torn}
use Rattle.bx_audit_files.proofs.NamesOfTrees.{if_ok}
use Rattle.bx_audit_bodies.proofs.Cases.{torn_too}
use Rattle.bx_audit_bodies.proofs.Outlined.{outlined}
use Rattle.bx_audit_bodies.proofs.ReadFiles.{not_stored, same_at}
use Rattle.bx_layout.specs.declared.block.Block.{Block}
use Rattle.bx_audit_bodies.specs.Faults.{Missing, Within}
use Rattle.bx_audit_bodies.specs.Parts.{IsTornDead}
use Rattle.bx_audit_pages.specs.Errors.{IfTorn}
use Rattle.bx_layout.specs.declared.inode.Inode.{Inode}
use Rattle.bx_audit_bodies.proofs.files.outline_of.Goals as goal

not_both : (found : Option Block) (block : Block) → found ≡ Some block → found ≡ None → ⊥
not_both found block some none = absurd cc

pub returns-in_err-inode-clause-torn : goal.returns-in_err-inode-clause-torn
returns-in_err-inode-clause-torn g c = λ chunks shows.
    let p = err_from_is_err_and c.from_residual.result c.from_residual.ensures.1 in
    if_torn _ _ c.in_err-inode.field-0.0 c.from_residual.result (p.1 ∙ ap Err p.2)
    (λ at found wanted never owner stored file is. never stored.inode (record { block = is.block; chunk = is.chunk; has = is.inode })) (c.in_err-inode.ensures.torn chunks shows)

pub returns-in-1-clause-ok : goal.returns-in-1-clause-ok
returns-in-1-clause-ok g c = λ chunks shows.
    if_ok _ _ c.regular_of.result (outlined chunks c.args.handle c.in_ok-inode.inode (c.in_ok-inode.ensures.ok chunks shows))
    (c.regular_of.ensures.ok chunks (c.in_ok-inode.ensures.shows chunks shows))

pub returns-in-1-clause-torn : goal.returns-in-1-clause-torn
returns-in-1-clause-torn g c = λ chunks shows.
    torn_too _ _ c.regular_of.result (λ at found wanted never. not_stored chunks c.args.handle c.in_ok-inode.inode (c.in_ok-inode.ensures.ok chunks shows) never)
    (c.regular_of.ensures.torn chunks (c.in_ok-inode.ensures.shows chunks shows))

pub returns-in-2-clause-ok : goal.returns-in-2-clause-ok
returns-in-2-clause-ok g c = λ chunks shows.
    if_ok _ _ c.directory_of.result (outlined chunks c.args.handle c.in_ok-inode.inode (c.in_ok-inode.ensures.ok chunks shows))
    (c.directory_of.ensures.ok chunks (c.in_ok-inode.ensures.shows chunks shows))

pub returns-in-2-clause-torn : goal.returns-in-2-clause-torn
returns-in-2-clause-torn g c = λ chunks shows.
    torn_too _ _ c.directory_of.result (λ at found wanted never. not_stored chunks c.args.handle c.in_ok-inode.inode (c.in_ok-inode.ensures.ok chunks shows) never)
    (c.directory_of.ensures.torn chunks (c.in_ok-inode.ensures.shows chunks shows))

pub returns-in-5-clause-ok : goal.returns-in-5-clause-ok
returns-in-5-clause-ok g c = λ chunks shows.
    if_ok _ _ c.link_of.result (outlined chunks c.args.handle c.in_ok-inode.inode (c.in_ok-inode.ensures.ok chunks shows))
    (c.link_of.ensures.ok chunks)

pub returns-in-5-clause-torn : goal.returns-in-5-clause-torn
returns-in-5-clause-torn g c = λ chunks shows.
    torn_too _ _ c.link_of.result (λ at found wanted never. not_stored chunks c.args.handle c.in_ok-inode.inode (c.in_ok-inode.ensures.ok chunks shows) never) (c.link_of.ensures.torn chunks)

pub returns-in_default-clause-ok : goal.returns-in_default-clause-ok
returns-in_default-clause-ok g c = λ chunks shows.
    if_ok _ _ c.dead_of.result (outlined chunks c.args.handle c.in_ok-inode.inode (c.in_ok-inode.ensures.ok chunks shows))
    (c.dead_of.ensures.ok chunks (c.in_ok-inode.ensures.shows chunks shows))

pub returns-in_default-clause-torn : goal.returns-in_default-clause-torn
returns-in_default-clause-torn g c = λ chunks shows.
    torn_too _ _ c.dead_of.result (λ at found wanted never. not_stored chunks c.args.handle c.in_ok-inode.inode (c.in_ok-inode.ensures.ok chunks shows) never)
    (c.dead_of.ensures.torn chunks (c.in_ok-inode.ensures.shows chunks shows))

pub returns-in-1-clause-names : goal.returns-in-1-clause-names
returns-in-1-clause-names g c = λ chunks shows none. let is = c.in_ok-inode.ensures.ok chunks shows in absurd (not_both (chunks c.args.handle) is.block is.chunk none)

pub returns-in-2-clause-names : goal.returns-in-2-clause-names
returns-in-2-clause-names g c = λ chunks shows none. let is = c.in_ok-inode.ensures.ok chunks shows in absurd (not_both (chunks c.args.handle) is.block is.chunk none)

pub returns-in-5-clause-names : goal.returns-in-5-clause-names
returns-in-5-clause-names g c = λ chunks shows none. let is = c.in_ok-inode.ensures.ok chunks shows in absurd (not_both (chunks c.args.handle) is.block is.chunk none)

pub returns-in_default-clause-names : goal.returns-in_default-clause-names
returns-in_default-clause-names g c = λ chunks shows none. let is = c.in_ok-inode.ensures.ok chunks shows in absurd (not_both (chunks c.args.handle) is.block is.chunk none)

pub returns-in_err-inode-clause-part : goal.returns-in_err-inode-clause-part
returns-in_err-inode-clause-part g c = λ chunks shows.
    let p = err_from_is_err_and c.from_residual.result c.from_residual.ensures.1 in
    if_torn _ _ c.in_err-inode.field-0.0 c.from_residual.result (p.1 ∙ ap Err p.2) (λ at found wanted is. inl is) c.in_err-inode.ensures.names

pub returns-in-1-clause-part : goal.returns-in-1-clause-part
returns-in-1-clause-part g c = λ chunks shows. torn_too _ _ c.regular_of.result (λ at found wanted. ⊎_elim (λ itself. inl itself) (λ led. inr (c.in_ok-inode.inode, c.in_ok-inode.ensures.ok chunks shows, led))) (c.regular_of.ensures.part chunks (c.in_ok-inode.ensures.shows chunks shows))

pub returns-in-2-clause-part : goal.returns-in-2-clause-part
returns-in-2-clause-part g c = λ chunks shows. torn_too _ _ c.directory_of.result (λ at found wanted. ⊎_elim (λ itself. inl itself) (λ led. inr (c.in_ok-inode.inode, c.in_ok-inode.ensures.ok chunks shows, led))) (c.directory_of.ensures.part chunks (c.in_ok-inode.ensures.shows chunks shows))

pub returns-in-5-clause-part : goal.returns-in-5-clause-part
returns-in-5-clause-part g c = λ chunks shows. torn_too _ _ c.link_of.result (λ at found wanted itself. inl itself) (c.link_of.ensures.part)

pub returns-in_default-clause-part : goal.returns-in_default-clause-part
returns-in_default-clause-part g c = λ chunks shows. torn_too _ _ c.dead_of.result (λ at found wanted. ⊎_elim (λ itself. inl itself) (λ led. inr (c.in_ok-inode.inode, c.in_ok-inode.ensures.ok chunks shows, led))) (c.dead_of.ensures.part chunks (c.in_ok-inode.ensures.shows chunks shows))

pub returns-in-1-clause-shows : goal.returns-in-1-clause-shows
returns-in-1-clause-shows g c = λ chunks shows. c.regular_of.ensures.shows chunks (c.in_ok-inode.ensures.shows chunks shows)

pub returns-in-2-clause-shows : goal.returns-in-2-clause-shows
returns-in-2-clause-shows g c = λ chunks shows. c.directory_of.ensures.shows chunks (c.in_ok-inode.ensures.shows chunks shows)

pub returns-in_default-clause-shows : goal.returns-in_default-clause-shows
returns-in_default-clause-shows g c = λ chunks shows. c.dead_of.ensures.shows chunks (c.in_ok-inode.ensures.shows chunks shows)

pub returns-in_err-inode-clause-dead : goal.returns-in_err-inode-clause-dead
returns-in_err-inode-clause-dead g c = λ chunks shows inode is zero.
    let p = err_from_is_err_and c.from_residual.result c.from_residual.ensures.1 in
    if_torn _ _ c.in_err-inode.field-0.0 c.from_residual.result (p.1 ∙ ap Err p.2) (λ at found wanted never. absurd (never inode is)) (c.in_err-inode.ensures.torn chunks shows)

pub returns-in_default-clause-dead : goal.returns-in_default-clause-dead
returns-in_default-clause-dead g c = λ chunks shows inode is zero.
    subst (λ (i : Inode). IfTorn c.dead_of.result (λ at found wanted. IsTornDead chunks i.tree wanted)) (sym (same_at chunks c.args.handle c.in_ok-inode.inode (c.in_ok-inode.ensures.ok chunks shows) inode is))
    (c.dead_of.ensures.first chunks (c.in_ok-inode.ensures.shows chunks shows))

pub returns-in-1-clause-dead : goal.returns-in-1-clause-dead
returns-in-1-clause-dead g c = λ chunks shows inode is zero.
    let same = same_at chunks c.args.handle c.in_ok-inode.inode (c.in_ok-inode.ensures.ok chunks shows) inode is in
    let e : 0 ≡ 1 = sym zero ∙ ap (λ (i : Inode). i.kind) same ∙ c.in-1.is in
    absurd (omega (arith, e))

pub returns-in-2-clause-dead : goal.returns-in-2-clause-dead
returns-in-2-clause-dead g c = λ chunks shows inode is zero.
    let same = same_at chunks c.args.handle c.in_ok-inode.inode (c.in_ok-inode.ensures.ok chunks shows) inode is in
    let e : 0 ≡ 2 = sym zero ∙ ap (λ (i : Inode). i.kind) same ∙ c.in-2.is in
    absurd (omega (arith, e))

pub returns-in-5-clause-dead : goal.returns-in-5-clause-dead
returns-in-5-clause-dead g c = λ chunks shows inode is zero.
    let same = same_at chunks c.args.handle c.in_ok-inode.inode (c.in_ok-inode.ensures.ok chunks shows) inode is in
    let e : 0 ≡ 5 = sym zero ∙ ap (λ (i : Inode). i.kind) same ∙ c.in-5.is in
    absurd (omega (arith, e))

pub returns-in_err-inode-clause-fault : goal.returns-in_err-inode-clause-fault
returns-in_err-inode-clause-fault g c = λ chunks shows.
    let p = err_from_is_err_and c.from_residual.result c.from_residual.ensures.1 in
    if_torn _ _ c.in_err-inode.field-0.0 c.from_residual.result (p.1 ∙ ap Err p.2) (λ at found wanted both. Missing both.0 both.1)
    (both_torn _ _ c.in_err-inode.field-0.0 (c.in_err-inode.ensures.torn chunks shows) c.in_err-inode.ensures.names)

pub returns-in-1-clause-fault : goal.returns-in-1-clause-fault
returns-in-1-clause-fault g c = λ chunks shows.
    torn_too _ _ c.regular_of.result (λ at found wanted fault. Within c.in_ok-inode.inode (c.in_ok-inode.ensures.ok chunks shows) fault)
    (c.regular_of.ensures.fault chunks (c.in_ok-inode.ensures.shows chunks shows))

pub returns-in-2-clause-fault : goal.returns-in-2-clause-fault
returns-in-2-clause-fault g c = λ chunks shows.
    torn_too _ _ c.directory_of.result (λ at found wanted fault. Within c.in_ok-inode.inode (c.in_ok-inode.ensures.ok chunks shows) fault)
    (c.directory_of.ensures.fault chunks (c.in_ok-inode.ensures.shows chunks shows))

pub returns-in-5-clause-fault : goal.returns-in-5-clause-fault
returns-in-5-clause-fault g c = λ chunks shows.
    torn_too _ _ c.link_of.result (λ at found wanted fault. Within c.in_ok-inode.inode (c.in_ok-inode.ensures.ok chunks shows) fault) (c.link_of.ensures.fault chunks)

pub returns-in_default-clause-fault : goal.returns-in_default-clause-fault
returns-in_default-clause-fault g c = λ chunks shows.
    torn_too _ _ c.dead_of.result (λ at found wanted fault. Within c.in_ok-inode.inode (c.in_ok-inode.ensures.ok chunks shows) fault)
    (c.dead_of.ensures.fault chunks (c.in_ok-inode.ensures.shows chunks shows))
