use Rattle.std.proofs.Common.{◌≡◌, ◌∙◌, ℕ, List, refl, sym, ap, subst}
use Rattle.std.specs.Prelude.{Ok, IfOk}
use Rattle.std.proofs.lemmas.Result.{IfOk-weaker}
use Rattle.bx_chunks.specs.Counting.{free_slots}
use Rattle.bx_attempts.specs.bx_directory_reads.specs.Listings.{OnListing}
use Rattle.bx_attempts.specs.bx_directory_reads.specs.Lookups.{OnLooking}
use Rattle.bx_engine.proofs.Along.{fair_along}
use Rattle.bx_engine.proofs.Acting.{gives_by, lookup_acts, mount_acts, nothing_acts, read_acts, readdir_acts, refused_acts}
use Rattle.bx_engine.proofs.Stopping.{answered_comes, replied_comes, replied_enough, replied_fair, replied_keeps, told_enough}
use Rattle.bx_engine.specs.Calls.{HasReadArgs}
use Rattle.bx_engine.specs.Outcomes.{told_free}
use Rattle.bx_engine.specs.Paths.{ReadPathOf}
use Rattle.bx_model.specs.declared.call.Args.{Args}
use Rattle.bx_model.specs.declared.call.Args.TheVariants.{Handle, List as Listing, Name, Path, Read}
use Rattle.bx_model.specs.declared.reply.Reply.TheVariants as replies
use Rattle.bx_model.specs.Directories.{readdir}
use Rattle.bx_model.specs.Mounting.{mount, plain}
use Rattle.bx_model.specs.Reading.{lookup, read, statfs}
use Rattle.bx_model.specs.Steps.{Outcome}
use Rattle.bx_reads.specs.Bytes.{OnReading}
use Rattle.bx_views.specs.Attempts.{IfActed, IsFair}
use Rattle.bx_engine.proofs.engine.BoxFs.answer.Goals as goal

pub returns-in-Refused-clause-gives : goal.returns-in-Refused-clause-gives
returns-in-Refused-clause-gives g c = λ client moment bytes truth tree fits reads same s.
    let fs = c.args.self.now in
    let call = c.args.call.now in
    let reply = replies.Refused c.in-Refused.number call.program in
    let outcome : Outcome = Ok (reply, tree) in
    gives_by fs.volume fs.areas client bytes moment (free_slots fs.areas truth) truth tree c.args.xid call outcome reads fits
    (refused_acts tree call moment c.in-Refused.number c.in-Refused.is) s.stands c.answered.result
    (answered_comes tree c.args.xid reply c.answered.result c.answered.ensures)

pub returns-in-Nothing-clause-gives : goal.returns-in-Nothing-clause-gives
returns-in-Nothing-clause-gives g c = λ client moment bytes truth tree fits reads same s.
    let fs = c.args.self.now in
    let call = c.args.call.now in
    let reply = plain call.program call.procedure in
    let outcome : Outcome = Ok (reply, tree) in
    gives_by fs.volume fs.areas client bytes moment (free_slots fs.areas truth) truth tree c.args.xid call outcome reads fits
    (nothing_acts tree call moment c.in-Nothing.is) s.stands c.answered-in-Nothing.result
    (answered_comes tree c.args.xid reply c.answered-in-Nothing.result (rw c.plain.ensures at c.answered-in-Nothing.ensures))

pub returns-in_ok-reply-in-Path-clause-gives : goal.returns-in_ok-reply-in-Path-clause-gives
returns-in_ok-reply-in-Path-clause-gives g c = λ client moment bytes truth tree fits reads same s.
    let fs = c.args.self.now in
    let call = c.args.call.now in
    let path = c.bytes.result.now in
    let is : call.args ≡ Path path = c.in-Path.is ∙ ap (λ (b : List ℕ). Path b) (sym c.bytes.ensures) in
    let reply = mount tree call.procedure path in
    let outcome : Outcome = Ok (reply, tree) in
    gives_by fs.volume fs.areas client bytes moment (free_slots fs.areas truth) truth tree c.args.xid call outcome reads fits
    (mount_acts tree call moment path is) s.stands c.answered-in-Path.result
    (answered_comes tree c.args.xid reply c.answered-in-Path.result (rw (c.in_ok-reply-in-Path.ensures tree s.stands.volume_is s.stands.is.root_is) at c.answered-in-Path.ensures))

pub about_file-requires-clause-handle : goal.about_file-requires-clause-handle
about_file-requires-clause-handle g c = c.in-Handle.is ∙ ap (λ (b : List ℕ). Handle b) (sym c.bytes-in-Handle.ensures)

pub about_file-requires-clause-procedure : goal.about_file-requires-clause-procedure
about_file-requires-clause-procedure g c = (subst (HasReadArgs c.args.call.now) c.in-Handle.is c.requires.reading).procedure

pub returns-in-Handle-clause-gives : goal.returns-in-Handle-clause-gives
returns-in-Handle-clause-gives g c = λ client moment bytes truth tree fits reads same s.
    c.about_file.ensures.gives client moment bytes truth tree fits reads same s.stands

pub returns-in-Handle-clause-fair : goal.returns-in-Handle-clause-fair
returns-in-Handle-clause-fair g c =
    let fs = c.args.self.now in
    let is : c.args.call.now.args ≡ Handle c.bytes-in-Handle.result.now = c.in-Handle.is ∙ ap (λ (b : List ℕ). Handle b) (sym c.bytes-in-Handle.ensures) in
    subst (λ (args : Args). IfOk c.about_file.result (IsFair fs.areas (g.V.View.held c.args.view.now) (ReadPathOf (g.V.View.held c.args.view.now) (g.V.View.hints c.args.view.now) fs.volume fs.areas c.args.call.now.procedure args))) (sym is) c.about_file.ensures.fair

pub returns-in-Handle-clause-free : goal.returns-in-Handle-clause-free
returns-in-Handle-clause-free g c = λ at truth tree asks same s.
    let fs = c.args.self.now in
    let free = free_slots fs.areas truth in
    let is : c.args.call.now.args ≡ Handle c.bytes-in-Handle.result.now = c.in-Handle.is ∙ ap (λ (b : List ℕ). Handle b) (sym c.bytes-in-Handle.ensures) in
    let here : Handle c.bytes-in-Handle.result.now ≡ Handle at = sym is ∙ asks.args in
    let one : c.bytes-in-Handle.result.now ≡ at = cc in
    subst (λ (bytes : List ℕ). IfOk c.about_file.result (IfActed (λ done. done.spare ≡ told_free free (statfs tree bytes free)))) one (c.about_file.ensures.free truth tree asks.is.procedure same s)

pub returns-in-Refused-clause-free : goal.returns-in-Refused-clause-free
returns-in-Refused-clause-free g c = λ at truth tree asks same s. let never = sym c.in-Refused.is ∙ asks.args in absurd cc

pub returns-in-Nothing-clause-free : goal.returns-in-Nothing-clause-free
returns-in-Nothing-clause-free g c = λ at truth tree asks same s. let never = sym c.in-Nothing.is ∙ asks.args in absurd cc

pub returns-in_ok-reply-in-Path-clause-free : goal.returns-in_ok-reply-in-Path-clause-free
returns-in_ok-reply-in-Path-clause-free g c = λ at truth tree asks same s. let never = sym c.in-Path.is ∙ asks.args in absurd cc

pub returns-in-Read-clause-gives : goal.returns-in-Read-clause-gives
returns-in-Read-clause-gives g c = λ client moment bytes truth tree fits reads same s.
    let fs = c.args.self.now in
    let call = c.args.call.now in
    let at = c.bytes-in-Read.result.now in
    let is : call.args ≡ Read at c.in-Read.offset c.in-Read.count c.in-Read.field-3 = c.in-Read.is ∙ ap (λ (b : List ℕ). Read b c.in-Read.offset c.in-Read.count c.in-Read.field-3) (sym c.bytes-in-Read.ensures) in
    gives_by fs.volume fs.areas client bytes moment (free_slots fs.areas truth) truth tree c.args.xid call (read tree call at c.in-Read.offset c.in-Read.count) reads fits
    (read_acts tree call moment at c.in-Read.offset c.in-Read.count c.in-Read.field-3 is) s.stands c.replied.result
    (IfOk-weaker c.replied.result _ _ (λ attempt is. replied_comes c.args.xid attempt tree (read tree call at c.in-Read.offset c.in-Read.count) c.read.result (c.read.ensures.step truth tree same s.stands s.fit) is) c.replied.ensures)

pub returns-in-Read-clause-fair : goal.returns-in-Read-clause-fair
returns-in-Read-clause-fair g c =
    let fs = c.args.self.now in
    let is : c.args.call.now.args ≡ Read c.bytes-in-Read.result.now c.in-Read.offset c.in-Read.count c.in-Read.field-3 =
    c.in-Read.is ∙ ap (λ (b : List ℕ). Read b c.in-Read.offset c.in-Read.count c.in-Read.field-3) (sym c.bytes-in-Read.ensures) in
    let held = g.V.View.held c.args.view.now in
    let hints = g.V.View.hints c.args.view.now in
    subst (λ (args : Args). IfOk c.replied.result (IsFair fs.areas held (ReadPathOf held hints fs.volume fs.areas c.args.call.now.procedure args))) (sym is)
    (IfOk-weaker c.replied.result _ _ (λ attempt so. replied_fair c.args.xid attempt fs.areas held (OnReading held hints fs.volume fs.areas c.bytes-in-Read.result.now c.in-Read.offset c.in-Read.count) c.read.result c.read.ensures.need c.read.ensures.inner so) c.replied.ensures)

pub returns-in-Read-clause-free : goal.returns-in-Read-clause-free
returns-in-Read-clause-free g c = λ at truth tree asks same s. let never = sym c.in-Read.is ∙ asks.args in absurd cc

pub returns-in-Name-clause-gives : goal.returns-in-Name-clause-gives
returns-in-Name-clause-gives g c = λ client moment bytes truth tree fits reads same s.
    let fs = c.args.self.now in
    let call = c.args.call.now in
    let is : call.args ≡ Name c.bytes-in-Name.result.now c.bytes-in-Name-2.result.now = c.in-Name.is ∙ (λ i. Name (sym c.bytes-in-Name.ensures i) (sym c.bytes-in-Name-2.ensures i)) in
    gives_by fs.volume fs.areas client bytes moment (free_slots fs.areas truth) truth tree c.args.xid call (lookup tree call c.bytes-in-Name.result.now c.bytes-in-Name-2.result.now) reads fits
    (lookup_acts tree call moment c.bytes-in-Name.result.now c.bytes-in-Name-2.result.now is (subst (HasReadArgs call) c.in-Name.is c.requires.reading).procedure) s.stands c.replied-in-Name.result
    (IfOk-weaker c.replied-in-Name.result _ _ (λ attempt is. replied_comes c.args.xid attempt tree (lookup tree call c.bytes-in-Name.result.now c.bytes-in-Name-2.result.now) c.lookup.result (c.lookup.ensures.step truth tree same s.stands s.fit) is) c.replied-in-Name.ensures)

pub returns-in-Name-clause-fair : goal.returns-in-Name-clause-fair
returns-in-Name-clause-fair g c =
    let fs = c.args.self.now in
    let held = g.V.View.held c.args.view.now in
    let hints = g.V.View.hints c.args.view.now in
    let at = c.bytes-in-Name.result.now in
    let name = c.bytes-in-Name-2.result.now in
    let is : c.args.call.now.args ≡ Name at name = c.in-Name.is ∙ (λ i. Name (sym c.bytes-in-Name.ensures i) (sym c.bytes-in-Name-2.ensures i)) in
    let four = (subst (HasReadArgs c.args.call.now) c.in-Name.is c.requires.reading).procedure in
    subst (λ (args : Args). IfOk c.replied-in-Name.result (IsFair fs.areas held (ReadPathOf held hints fs.volume fs.areas c.args.call.now.procedure args))) (sym is)
    (IfOk-weaker c.replied-in-Name.result _ _ (λ attempt so. fair_along (OnLooking held hints fs.volume fs.areas at name) (ReadPathOf held hints fs.volume fs.areas c.args.call.now.procedure (Name at name)) (λ block mode on. (four, on)) fs.areas held attempt
    (replied_fair c.args.xid attempt fs.areas held (OnLooking held hints fs.volume fs.areas at name) c.lookup.result c.lookup.ensures.need c.lookup.ensures.inner so)) c.replied-in-Name.ensures)

pub returns-in-Name-clause-free : goal.returns-in-Name-clause-free
returns-in-Name-clause-free g c = λ at truth tree asks same s. let never = sym c.in-Name.is ∙ asks.args in absurd cc

pub returns-in-List-clause-gives : goal.returns-in-List-clause-gives
returns-in-List-clause-gives g c = λ client moment bytes truth tree fits reads same s.
    let fs = c.args.self.now in
    let call = c.args.call.now in
    let at = c.bytes-in-List.result.now in
    let is : call.args ≡ Listing at c.in-List.cookie c.in-List.count = c.in-List.is ∙ ap (λ (b : List ℕ). Listing b c.in-List.cookie c.in-List.count) (sym c.bytes-in-List.ensures) in
    gives_by fs.volume fs.areas client bytes moment (free_slots fs.areas truth) truth tree c.args.xid call (readdir tree call at c.in-List.cookie c.in-List.count) reads fits
    (readdir_acts tree call moment at c.in-List.cookie c.in-List.count is) s.stands c.replied-in-List.result
    (IfOk-weaker c.replied-in-List.result _ _ (λ attempt is. replied_comes c.args.xid attempt tree (readdir tree call at c.in-List.cookie c.in-List.count) c.readdir.result (c.readdir.ensures.step truth tree same s.stands s.fit) is) c.replied-in-List.ensures)

pub returns-in-List-clause-fair : goal.returns-in-List-clause-fair
returns-in-List-clause-fair g c =
    let fs = c.args.self.now in
    let is : c.args.call.now.args ≡ Listing c.bytes-in-List.result.now c.in-List.cookie c.in-List.count =
    c.in-List.is ∙ ap (λ (b : List ℕ). Listing b c.in-List.cookie c.in-List.count) (sym c.bytes-in-List.ensures) in
    let held = g.V.View.held c.args.view.now in
    let hints = g.V.View.hints c.args.view.now in
    subst (λ (args : Args). IfOk c.replied-in-List.result (IsFair fs.areas held (ReadPathOf held hints fs.volume fs.areas c.args.call.now.procedure args))) (sym is)
    (IfOk-weaker c.replied-in-List.result _ _ (λ attempt so. replied_fair c.args.xid attempt fs.areas held (OnListing held hints fs.volume fs.areas c.bytes-in-List.result.now c.in-List.cookie) c.readdir.result c.readdir.ensures.need c.readdir.ensures.inner so) c.replied-in-List.ensures)

pub returns-in-List-clause-free : goal.returns-in-List-clause-free
returns-in-List-clause-free g c = λ at truth tree asks same s. let never = sym c.in-List.is ∙ asks.args in absurd cc

pub returns-in-Refused-clause-enough : goal.returns-in-Refused-clause-enough
returns-in-Refused-clause-enough g c = λ none. told_enough _ c.answered.result c.answered.ensures refl

pub returns-in-Nothing-clause-enough : goal.returns-in-Nothing-clause-enough
returns-in-Nothing-clause-enough g c = λ none. told_enough _ c.answered-in-Nothing.result c.answered-in-Nothing.ensures refl

pub returns-in_ok-reply-in-Path-clause-enough : goal.returns-in_ok-reply-in-Path-clause-enough
returns-in_ok-reply-in-Path-clause-enough g c = λ none. told_enough _ c.answered-in-Path.result c.answered-in-Path.ensures refl

pub returns-in-Handle-clause-enough : goal.returns-in-Handle-clause-enough
returns-in-Handle-clause-enough g c = λ none.
    let is : c.args.call.now.args ≡ Handle c.bytes-in-Handle.result.now = c.in-Handle.is ∙ ap (λ (b : List ℕ). Handle b) (sym c.bytes-in-Handle.ensures) in
    let about = subst (HasReadArgs c.args.call.now) c.in-Handle.is c.requires.reading in
    c.about_file.ensures.enough (λ asks. none c.bytes-in-Handle.result.now (record { args = is; is = record { program = about.program; procedure = asks } }))

pub returns-in-Read-clause-keeps : goal.returns-in-Read-clause-keeps
returns-in-Read-clause-keeps g c = IfOk-weaker c.replied.result _ _ (λ attempt is. replied_keeps c.args.xid attempt c.read.result c.read.ensures.inner is) c.replied.ensures

pub returns-in-Read-clause-enough : goal.returns-in-Read-clause-enough
returns-in-Read-clause-enough g c = λ none. IfOk-weaker c.replied.result _ _ (λ attempt is. replied_enough c.args.xid attempt c.read.result is) c.replied.ensures

pub returns-in-Name-clause-keeps : goal.returns-in-Name-clause-keeps
returns-in-Name-clause-keeps g c = IfOk-weaker c.replied-in-Name.result _ _ (λ attempt is. replied_keeps c.args.xid attempt c.lookup.result c.lookup.ensures.inner is) c.replied-in-Name.ensures

pub returns-in-Name-clause-enough : goal.returns-in-Name-clause-enough
returns-in-Name-clause-enough g c = λ none. IfOk-weaker c.replied-in-Name.result _ _ (λ attempt is. replied_enough c.args.xid attempt c.lookup.result is) c.replied-in-Name.ensures

pub returns-in-List-clause-keeps : goal.returns-in-List-clause-keeps
returns-in-List-clause-keeps g c = IfOk-weaker c.replied-in-List.result _ _ (λ attempt is. replied_keeps c.args.xid attempt c.readdir.result c.readdir.ensures.inner is) c.replied-in-List.ensures

pub returns-in-List-clause-enough : goal.returns-in-List-clause-enough
returns-in-List-clause-enough g c = λ none. IfOk-weaker c.replied-in-List.result _ _ (λ attempt is. replied_enough c.args.xid attempt c.readdir.result is) c.replied-in-List.ensures
