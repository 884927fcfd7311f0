use Rattle.std.proofs.Common.{◌≡◌, ◌∙◌, ℕ, List, ap, inl, inr, subst, sym}
use Rattle.std.specs.Prelude.{Result}
use Rattle.std.proofs.lemmas.Result.{IfErr-weaker, IfOk-weaker}
use Rattle.bx_attempts.specs.Calls.{HasChangeArgs}
use Rattle.bx_attempts.specs.First.{PreparesFirst}
use Rattle.bx_attempts.specs.Paths.{ChangePathOf}
use Rattle.bx_attempts.specs.Replies.{IsOutcome}
use Rattle.bx_attempts.proofs.Acting.{create_acts, link_acts, mkdir_acts, remove_acts, rename_acts, rmdir_acts, setattr_acts, symlink_acts, write_acts}
use Rattle.bx_attempts.proofs.Attempted.{by_change, by_making, by_stopping, by_wider, change_or, is_attempt, never_holds, never_prepares, on_wider}
use Rattle.bx_attempts.proofs.First.{create_first, create_ready, link_first, mkdir_first, mkdir_ready, rename_first, setattr_first, symlink_first, write_first}
use Rattle.bx_changes.specs.declared.error.ChangeError.{ChangeError}
use Rattle.bx_changes.specs.declared.error.ChangeError.TheVariants.{Stopped}
use Rattle.bx_creating.specs.Paths.{OnCreate}
use Rattle.bx_creating.specs.Making.{OnMaking}
use Rattle.bx_creating.specs.bx_entries.specs.Finding.{OnRemoval}
use Rattle.bx_creating.specs.bx_entries.specs.declared.finding.Removable.TheVariants as removable
use Rattle.bx_model.specs.declared.call.Args.TheVariants.{Link, Make, Name, Rename, Set, Symlink, Write}
use Rattle.bx_model.specs.declared.reply.Reply.{Reply}
use Rattle.bx_model.specs.Making.{create, link, mkdir, symlink}
use Rattle.bx_model.specs.Removing.{remove, rmdir}
use Rattle.bx_model.specs.Renaming.{rename}
use Rattle.bx_model.specs.Writing.{setattr, write}
use Rattle.bx_records.specs.Drafts.{Changed}
use Rattle.bx_tree_files.specs.Times.{time_of}
use Rattle.bx_attempts.proofs.calls.act.Goals as goal

pub returns-in-Write : goal.returns-in-Write
returns-in-Write g c =
    let a = c.args in
    let held = g.V.View.held a.view.now in
    let hints = g.V.View.hints a.view.now in
    let call = a.call.now in
    let at = c.bytes-at-in-Write.result.now in
    let written = c.bytes-written.result.now in
    let same : call.args ≡ Write at c.in-Write.field-1 c.in-Write.offset c.in-Write.field-3 written = c.in-Write.is ∙ (λ i. Write (sym c.bytes-at-in-Write.ensures i) c.in-Write.field-1 c.in-Write.offset c.in-Write.field-3 (sym c.bytes-written.ensures i)) in
    λ xid attempt is.
    is_attempt a.volume a.areas held hints call a.moment (Write at c.in-Write.field-1 c.in-Write.offset c.in-Write.field-3 written) same _
    (by_change a.volume a.areas held hints call a.moment (Write at c.in-Write.field-1 c.in-Write.offset c.in-Write.field-3 written) (λ tree spare. write tree call at c.in-Write.offset written (time_of a.moment) spare) (λ tree spare. write_acts tree call a.moment at c.in-Write.field-1 c.in-Write.offset c.in-Write.field-3 written spare same) c.write.result
    (λ truth tree agrees s. rw c.time_of-now.ensures at (c.write.ensures.step truth tree c.requires.areas agrees s.stands s.fit))
    (λ truth tree agrees s other fit. c.write.ensures.hints other truth tree c.requires.areas agrees s.stands s.fit fit)
    (λ truth tree agrees s. IfErr-weaker c.write.result _ _ (write_first a.volume a.areas held hints truth tree call a.moment at c.in-Write.field-1 c.in-Write.offset c.in-Write.field-3 written same) (rw c.time_of-now.ensures at (c.write.ensures.lacks truth tree c.requires.areas agrees s.stands s.fit)))
    (λ truth tree agrees s. c.write.ensures.ready truth tree c.requires.areas agrees s.stands s.fit)
    c.write.ensures.need c.write.ensures.first c.write.ensures.held c.write.ensures.full)
    c.requires.moment xid attempt (subst (λ (r : Result (List Changed × Reply × ℕ) ChangeError). IsOutcome xid r attempt) c.with_no_file.ensures is)

pub returns-in-Rename : goal.returns-in-Rename
returns-in-Rename g c =
    let a = c.args in
    let held = g.V.View.held a.view.now in
    let hints = g.V.View.hints a.view.now in
    let call = a.call.now in
    let from = c.bytes-from.result.now in
    let name = c.bytes-name-in-Rename.result.now in
    let to = c.bytes-to.result.now in
    let new_name = c.bytes-new_name.result.now in
    let same : call.args ≡ Rename from name to new_name = c.in-Rename.is ∙ (λ i. Rename (sym c.bytes-from.ensures i) (sym c.bytes-name-in-Rename.ensures i) (sym c.bytes-to.ensures i) (sym c.bytes-new_name.ensures i)) in
    λ xid attempt is.
    is_attempt a.volume a.areas held hints call a.moment (Rename from name to new_name) same _
    (by_change a.volume a.areas held hints call a.moment (Rename from name to new_name) (λ tree spare. rename tree call from name to new_name (time_of a.moment) spare) (λ tree spare. rename_acts tree call a.moment from name to new_name spare same) c.rename.result
    (λ truth tree agrees s. rw c.time_of-now.ensures at (c.rename.ensures.step truth tree agrees s.stands s.fit))
    (λ truth tree agrees s other fit. c.rename.ensures.hints other truth tree agrees s.stands s.fit fit)
    (λ truth tree agrees s. IfErr-weaker c.rename.result _ _ (rename_first a.volume a.areas held hints truth tree call a.moment from name to new_name same) (rw c.time_of-now.ensures at (c.rename.ensures.lacks truth tree agrees s.stands s.fit)))
    (λ truth tree agrees s. c.rename.ensures.ready truth tree agrees s.stands s.fit)
    c.rename.ensures.need c.rename.ensures.first c.rename.ensures.held c.rename.ensures.full)
    c.requires.moment xid attempt (subst (λ (r : Result (List Changed × Reply × ℕ) ChangeError). IsOutcome xid r attempt) c.with_no_file-in-Rename.ensures is)

pub returns-in-Link : goal.returns-in-Link
returns-in-Link g c =
    let a = c.args in
    let held = g.V.View.held a.view.now in
    let hints = g.V.View.hints a.view.now in
    let call = a.call.now in
    let from = c.bytes-from-in-Link.result.now in
    let at = c.bytes-at-in-Link.result.now in
    let name = c.bytes-name-in-Link.result.now in
    let same : call.args ≡ Link from at name = c.in-Link.is ∙ (λ i. Link (sym c.bytes-from-in-Link.ensures i) (sym c.bytes-at-in-Link.ensures i) (sym c.bytes-name-in-Link.ensures i)) in
    λ xid attempt is.
    is_attempt a.volume a.areas held hints call a.moment (Link from at name) same _
    (by_change a.volume a.areas held hints call a.moment (Link from at name) (λ tree spare. link tree call from at name (time_of a.moment) spare) (λ tree spare. link_acts tree call a.moment from at name spare same) c.link.result
    (λ truth tree agrees s. rw c.time_of-now.ensures at (c.link.ensures.step truth tree agrees s.stands s.fit))
    (λ truth tree agrees s other fit. c.link.ensures.hints other truth tree agrees s.stands s.fit fit)
    (λ truth tree agrees s. IfErr-weaker c.link.result _ _ (link_first a.volume a.areas held hints truth tree call a.moment from at name same) (rw c.time_of-now.ensures at (c.link.ensures.lacks truth tree agrees s.stands s.fit)))
    (λ truth tree agrees s. c.link.ensures.ready truth tree agrees s.stands s.fit)
    c.link.ensures.need c.link.ensures.first c.link.ensures.held c.link.ensures.full)
    c.requires.moment xid attempt (subst (λ (r : Result (List Changed × Reply × ℕ) ChangeError). IsOutcome xid r attempt) c.with_no_file-in-Link.ensures is)

pub returns-in-Set : goal.returns-in-Set
returns-in-Set g c =
    let a = c.args in
    let held = g.V.View.held a.view.now in
    let hints = g.V.View.hints a.view.now in
    let call = a.call.now in
    let at = c.bytes-at.result.now in
    let sattr = c.in-Set.sattr in
    let same : call.args ≡ Set at sattr = c.in-Set.is ∙ ap (λ (b : List ℕ). Set b sattr) (sym c.bytes-at.ensures) in
    λ xid attempt is.
    is_attempt a.volume a.areas held hints call a.moment (Set at sattr) same _
    (by_stopping a.volume a.areas held hints call a.moment (Set at sattr) (λ tree. setattr tree call at sattr (time_of a.moment)) (λ tree. setattr_acts tree call a.moment at sattr 8 same) c.setattr.result
    (λ truth tree agrees s. rw c.time_of-now.ensures at (c.setattr.ensures.step truth tree c.requires.areas agrees s.stands s.fit))
    (λ truth tree agrees s other fit. c.setattr.ensures.hints other truth tree c.requires.areas agrees s.stands s.fit fit)
    (λ truth tree agrees s. IfErr-weaker c.setattr.result _ _ (λ stop first. setattr_first a.volume a.areas held hints truth tree call a.moment at sattr same (Stopped stop) first)
    (rw c.time_of-now.ensures at (c.setattr.ensures.lacks truth tree c.requires.areas agrees s.stands s.fit)))
    (λ truth tree agrees s. c.setattr.ensures.ready truth tree c.requires.areas agrees s.stands s.fit)
    c.setattr.ensures.need c.setattr.ensures.first c.setattr.ensures.held)
    c.requires.moment xid attempt (subst (λ (r : Result (List Changed × Reply × ℕ) ChangeError). IsOutcome xid r attempt) c.stopping.ensures is)

pub returns-then-call-eq-REMOVE : goal.returns-then-call-eq-REMOVE
returns-then-call-eq-REMOVE g c =
    let a = c.args in
    let held = g.V.View.held a.view.now in
    let hints = g.V.View.hints a.view.now in
    let call = a.call.now in
    let at = c.bytes-at-in-Name.result.now in
    let name = c.bytes-name.result.now in
    let same : call.args ≡ Name at name = c.in-Name.is ∙ (λ i. Name (sym c.bytes-at-in-Name.ensures i) (sym c.bytes-name.ensures i)) in
    let number : call.procedure ≡ 10 = c.if-call-eq-REMOVE.true in
    λ xid attempt is.
    is_attempt a.volume a.areas held hints call a.moment (Name at name) same _
    (by_stopping a.volume a.areas held hints call a.moment (Name at name) (λ tree. remove tree call at name (time_of a.moment)) (λ tree. remove_acts tree call a.moment at name 8 same number) c.remove.result
    (λ truth tree agrees s. change_or a.volume a.areas truth tree (remove tree call at name (time_of a.moment)) c.remove.result (rw c.time_of-now.ensures at (c.remove.ensures.step truth tree agrees s.stands s.fit)))
    (λ truth tree agrees s other fit. c.remove.ensures.hints other truth tree agrees s.stands s.fit fit)
    (λ truth tree agrees s. never_prepares (PreparesFirst a.volume a.areas held hints truth tree call a.moment) c.remove.result c.remove.ensures.inner)
    (λ truth tree agrees s. IfOk-weaker c.remove.result _ _ (λ made kept. tt) c.remove.ensures.held)
    (on_wider a.areas held (OnRemoval removable.Plain held hints a.volume a.areas at name) (ChangePathOf held hints a.volume a.areas call.procedure (Name at name)) (λ block mode on. inl (number, on)) c.remove.result c.remove.ensures.need)
    (never_holds held c.remove.result c.remove.ensures.inner) c.remove.ensures.held)
    c.requires.moment xid attempt (subst (λ (r : Result (List Changed × Reply × ℕ) ChangeError). IsOutcome xid r attempt) c.stopping-then-call-eq-REMOVE.ensures is)

pub returns-else-call-eq-REMOVE : goal.returns-else-call-eq-REMOVE
returns-else-call-eq-REMOVE g c =
    let a = c.args in
    let held = g.V.View.held a.view.now in
    let hints = g.V.View.hints a.view.now in
    let call = a.call.now in
    let at = c.bytes-at-in-Name.result.now in
    let name = c.bytes-name.result.now in
    let same : call.args ≡ Name at name = c.in-Name.is ∙ (λ i. Name (sym c.bytes-at-in-Name.ensures i) (sym c.bytes-name.ensures i)) in
    let number : call.procedure ≡ 15 = elim (subst (HasChangeArgs call) c.in-Name.is c.requires.changing) [ inl ten ↦ absurd (c.if-call-eq-REMOVE.false ten.procedure) | inr other ↦ other.procedure ] in
    λ xid attempt is.
    is_attempt a.volume a.areas held hints call a.moment (Name at name) same _
    (by_stopping a.volume a.areas held hints call a.moment (Name at name) (λ tree. rmdir tree call at name (time_of a.moment)) (λ tree. rmdir_acts tree call a.moment at name 8 same number) c.remove-else-call-eq-REMOVE.result
    (λ truth tree agrees s. change_or a.volume a.areas truth tree (rmdir tree call at name (time_of a.moment)) c.remove-else-call-eq-REMOVE.result (rw c.time_of-now.ensures at (c.remove-else-call-eq-REMOVE.ensures.step truth tree agrees s.stands s.fit)))
    (λ truth tree agrees s other fit. c.remove-else-call-eq-REMOVE.ensures.hints other truth tree agrees s.stands s.fit fit)
    (λ truth tree agrees s. never_prepares (PreparesFirst a.volume a.areas held hints truth tree call a.moment) c.remove-else-call-eq-REMOVE.result c.remove-else-call-eq-REMOVE.ensures.inner)
    (λ truth tree agrees s. IfOk-weaker c.remove-else-call-eq-REMOVE.result _ _ (λ made kept. tt) c.remove-else-call-eq-REMOVE.ensures.held)
    (on_wider a.areas held (OnRemoval removable.Directory held hints a.volume a.areas at name) (ChangePathOf held hints a.volume a.areas call.procedure (Name at name)) (λ block mode on. inr (number, on)) c.remove-else-call-eq-REMOVE.result c.remove-else-call-eq-REMOVE.ensures.need)
    (never_holds held c.remove-else-call-eq-REMOVE.result c.remove-else-call-eq-REMOVE.ensures.inner) c.remove-else-call-eq-REMOVE.ensures.held)
    c.requires.moment xid attempt (subst (λ (r : Result (List Changed × Reply × ℕ) ChangeError). IsOutcome xid r attempt) c.stopping-else-call-eq-REMOVE.ensures is)

pub returns-in-Symlink : goal.returns-in-Symlink
returns-in-Symlink g c =
    let a = c.args in
    let held = g.V.View.held a.view.now in
    let hints = g.V.View.hints a.view.now in
    let call = a.call.now in
    let at = c.bytes-at-in-Symlink.result.now in
    let name = c.bytes-name-in-Symlink.result.now in
    let path = c.bytes-path.result.now in
    let sattr = c.in-Symlink.sattr in
    let same : call.args ≡ Symlink at name path sattr = c.in-Symlink.is ∙ (λ i. Symlink (sym c.bytes-at-in-Symlink.ensures i) (sym c.bytes-name-in-Symlink.ensures i) (sym c.bytes-path.ensures i) sattr) in
    λ xid attempt is.
    is_attempt a.volume a.areas held hints call a.moment (Symlink at name path sattr) same _
    (by_making a.volume a.areas held hints call a.moment (Symlink at name path sattr) (λ tree spare. symlink tree call at name path sattr (time_of a.moment) spare) (λ tree spare made. symlink_acts tree call a.moment at name path sattr spare made same) c.symlink.result
    (λ truth tree agrees s. rw c.time_of-now.ensures at (c.symlink.ensures.step truth tree agrees s.stands s.fit))
    (λ truth tree agrees s other fit. c.symlink.ensures.hints other truth tree agrees s.stands s.fit fit)
    (λ truth tree agrees s. IfErr-weaker c.symlink.result _ _ (symlink_first a.volume a.areas held hints truth tree call a.moment at name path sattr same) (rw c.time_of-now.ensures at (c.symlink.ensures.lacks truth tree agrees s.stands s.fit)))
    (λ truth tree agrees s. c.symlink.ensures.ready truth tree agrees s.stands s.fit)
    c.symlink.ensures.need c.symlink.ensures.first c.symlink.ensures.held c.symlink.ensures.full)
    c.requires.moment xid attempt is

pub returns-then-call-eq-MKDIR : goal.returns-then-call-eq-MKDIR
returns-then-call-eq-MKDIR g c =
    let a = c.args in
    let held = g.V.View.held a.view.now in
    let hints = g.V.View.hints a.view.now in
    let call = a.call.now in
    let at = c.bytes-at-in-Make.result.now in
    let name = c.bytes-name-in-Make.result.now in
    let sattr = c.in-Make.sattr in
    let same : call.args ≡ Make at name sattr = c.in-Make.is ∙ (λ i. Make (sym c.bytes-at-in-Make.ensures i) (sym c.bytes-name-in-Make.ensures i) sattr) in
    let number : call.procedure ≡ 14 = c.if-call-eq-MKDIR.true in
    λ xid attempt is.
    is_attempt a.volume a.areas held hints call a.moment (Make at name sattr) same _
    (by_making a.volume a.areas held hints call a.moment (Make at name sattr) (λ tree spare. mkdir tree call at name sattr (time_of a.moment) spare) (λ tree spare made. mkdir_acts tree call a.moment at name sattr spare made same number) c.mkdir.result
    (λ truth tree agrees s. rw c.time_of-now.ensures at (c.mkdir.ensures.step truth tree agrees s.stands s.fit))
    (λ truth tree agrees s other fit. c.mkdir.ensures.hints other truth tree agrees s.stands s.fit fit)
    (λ truth tree agrees s. IfErr-weaker c.mkdir.result _ _ (mkdir_first a.volume a.areas held hints truth tree call a.moment at name sattr same number) (rw c.time_of-now.ensures at (c.mkdir.ensures.lacks truth tree agrees s.stands s.fit)))
    (λ truth tree agrees s. IfOk-weaker c.mkdir.result _ _ (λ made enters. mkdir_ready a.volume a.areas truth tree call.procedure at name sattr number enters) (c.mkdir.ensures.ready truth tree agrees s.stands s.fit))
    (IfErr-weaker c.mkdir.result _ _ (by_wider a.areas held (OnMaking held hints a.volume a.areas at name) (ChangePathOf held hints a.volume a.areas call.procedure (Make at name sattr)) (λ block mode on. inl (number, on))) c.mkdir.ensures.need)
    c.mkdir.ensures.first c.mkdir.ensures.held c.mkdir.ensures.full)
    c.requires.moment xid attempt is

pub returns-else-call-eq-MKDIR : goal.returns-else-call-eq-MKDIR
returns-else-call-eq-MKDIR g c =
    let a = c.args in
    let held = g.V.View.held a.view.now in
    let hints = g.V.View.hints a.view.now in
    let call = a.call.now in
    let at = c.bytes-at-in-Make.result.now in
    let name = c.bytes-name-in-Make.result.now in
    let sattr = c.in-Make.sattr in
    let same : call.args ≡ Make at name sattr = c.in-Make.is ∙ (λ i. Make (sym c.bytes-at-in-Make.ensures i) (sym c.bytes-name-in-Make.ensures i) sattr) in
    let number : call.procedure ≡ 9 = elim (subst (HasChangeArgs call) c.in-Make.is c.requires.changing).0 [ inl other ↦ absurd (c.if-call-eq-MKDIR.false other.procedure) | inr nine ↦ nine.procedure ] in
    λ xid attempt is.
    is_attempt a.volume a.areas held hints call a.moment (Make at name sattr) same _
    (by_making a.volume a.areas held hints call a.moment (Make at name sattr) (λ tree spare. create tree call at name sattr (time_of a.moment) spare) (λ tree spare made. create_acts tree call a.moment at name sattr spare made same number) c.create.result
    (λ truth tree agrees s. rw c.time_of-now.ensures at (c.create.ensures.step truth tree agrees s.stands s.fit))
    (λ truth tree agrees s other fit. c.create.ensures.hints other truth tree agrees s.stands s.fit fit)
    (λ truth tree agrees s. IfErr-weaker c.create.result _ _ (create_first a.volume a.areas held hints truth tree call a.moment at name sattr same number) (rw c.time_of-now.ensures at (c.create.ensures.lacks truth tree agrees s.stands s.fit)))
    (λ truth tree agrees s. IfOk-weaker c.create.result _ _ (λ made enters. create_ready a.volume a.areas truth tree call.procedure at name sattr number enters) (c.create.ensures.ready truth tree agrees s.stands s.fit))
    (IfErr-weaker c.create.result _ _ (by_wider a.areas held (OnCreate held hints a.volume a.areas at name sattr.size) (ChangePathOf held hints a.volume a.areas call.procedure (Make at name sattr)) (λ block mode on. inr (number, on))) c.create.ensures.need)
    c.create.ensures.first c.create.ensures.held c.create.ensures.full)
    c.requires.moment xid attempt is
