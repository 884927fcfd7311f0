use Rattle.std.proofs.Common.{◌≡◌, ℕ, inl, inr, arith}
use Rattle.std.proofs.lemmas.Result.{IfOk-weaker}
use Rattle.bx_base.specs.declared.names.Mode.TheVariants.{Shared}
use Rattle.bx_chunks.specs.Counting.{free_slots}
use Rattle.bx_engine.proofs.Acting.{getattr_acts, gives_by, readlink_acts}
use Rattle.bx_engine.proofs.Along.{fair_along}
use Rattle.bx_engine.proofs.Stopping.{replied_comes, replied_enough, replied_fair, replied_keeps}
use Rattle.bx_engine.proofs.Spaces.{space_gives, space_on, space_tells}
use Rattle.bx_engine.specs.Calls.{IsAboutFile}
use Rattle.bx_engine.specs.Paths.{ReadPathOf}
use Rattle.bx_inodes.specs.Stops.{OnInode}
use Rattle.bx_model.specs.declared.call.Args.TheVariants.{Handle}
use Rattle.bx_model.specs.Reading.{getattr, readlink}
use Rattle.bx_reads.specs.Space.{OnSpace}
use Rattle.bx_engine.proofs.engine.BoxFs.about_file.Goals as goal

pub returns-then-call-eq-READLINK-clause-gives : goal.returns-then-call-eq-READLINK-clause-gives
returns-then-call-eq-READLINK-clause-gives g c = λ client moment bytes truth tree fits reads same s.
    let fs = c.args.self.now in
    let call = c.args.call.now in
    gives_by fs.volume fs.areas client bytes moment (free_slots fs.areas truth) truth tree c.args.xid call (readlink tree c.args.at.now) reads fits
    (readlink_acts tree call moment c.args.at.now c.requires.handle c.if-call-eq-READLINK.true) s c.replied.result
    (IfOk-weaker c.replied.result _ _ (λ attempt is. replied_comes c.args.xid attempt tree (readlink tree c.args.at.now) c.readlink.result (c.readlink.ensures.step truth tree same s) is) c.replied.ensures)

pub returns-then-call-eq-READLINK-clause-fair : goal.returns-then-call-eq-READLINK-clause-fair
returns-then-call-eq-READLINK-clause-fair g c =
    let fs = c.args.self.now in
    let held = g.V.View.held c.args.view.now in
    let Path = OnInode fs.volume c.args.at.now Shared in
    IfOk-weaker c.replied.result _ _ (λ attempt so. fair_along Path (ReadPathOf held (g.V.View.hints c.args.view.now) fs.volume fs.areas c.args.call.now.procedure (Handle c.args.at.now)) (λ at mode on. inl on) fs.areas held attempt
    (replied_fair c.args.xid attempt fs.areas held Path c.readlink.result c.readlink.ensures.need c.readlink.ensures.inner so)) c.replied.ensures

pub returns-then-call-eq-READLINK-clause-free : goal.returns-then-call-eq-READLINK-clause-free
returns-then-call-eq-READLINK-clause-free g c = λ truth tree asks same s. absurd (omega (arith, asks, c.if-call-eq-READLINK.true))

pub returns-then-call-eq-STATFS-clause-gives : goal.returns-then-call-eq-STATFS-clause-gives
returns-then-call-eq-STATFS-clause-gives g c = λ client moment bytes truth tree fits reads same s.
    let fs = c.args.self.now in
    IfOk-weaker c.statfs.result _ _
    (space_gives fs.volume fs.areas client bytes moment (free_slots fs.areas truth) truth tree c.args.xid c.args.call.now c.args.at.now reads fits c.requires.handle c.if-call-eq-STATFS.true)
    (c.statfs.ensures.comes truth tree same s)

pub returns-then-call-eq-STATFS-clause-fair : goal.returns-then-call-eq-STATFS-clause-fair
returns-then-call-eq-STATFS-clause-fair g c =
    let fs = c.args.self.now in
    IfOk-weaker c.statfs.result _ _ (fair_along (OnSpace fs.volume fs.areas c.args.at.now) (ReadPathOf (g.V.View.held c.args.view.now) (g.V.View.hints c.args.view.now) fs.volume fs.areas c.args.call.now.procedure (Handle c.args.at.now)) (space_on (g.V.View.held c.args.view.now) (g.V.View.hints c.args.view.now) fs.volume fs.areas c.args.at.now c.args.call.now.procedure c.if-call-eq-STATFS.true) fs.areas (g.V.View.held c.args.view.now)) c.statfs.ensures.fair

pub returns-then-call-eq-STATFS-clause-free : goal.returns-then-call-eq-STATFS-clause-free
returns-then-call-eq-STATFS-clause-free g c = λ truth tree asks same s.
    IfOk-weaker c.statfs.result _ _ (space_tells tree (free_slots c.args.self.now.areas truth) c.args.at.now c.args.xid) (c.statfs.ensures.comes truth tree same s)

pub returns-else-call-eq-STATFS-clause-gives : goal.returns-else-call-eq-STATFS-clause-gives
returns-else-call-eq-STATFS-clause-gives g c = λ client moment bytes truth tree fits reads same s.
    let fs = c.args.self.now in
    let call = c.args.call.now in
    gives_by fs.volume fs.areas client bytes moment (free_slots fs.areas truth) truth tree c.args.xid call (getattr tree c.args.at.now) reads fits
    (getattr_acts tree call moment c.args.at.now c.requires.handle (by c.requires.procedure c.if-call-eq-READLINK.false c.if-call-eq-STATFS.false)) s c.replied-else-call-eq-STATFS.result
    (IfOk-weaker c.replied-else-call-eq-STATFS.result _ _ (λ attempt is. replied_comes c.args.xid attempt tree (getattr tree c.args.at.now) c.getattr.result (c.getattr.ensures.step truth tree same s) is) c.replied-else-call-eq-STATFS.ensures)
  where
    by : {n : ℕ} → IsAboutFile n → (n ≡ 5 → ⊥) → (n ≡ 17 → ⊥) → n ≡ 1
    by (inl one) not other = one
    by (inr (inl five)) not other = absurd (not five)
    by (inr (inr space)) not other = absurd (other space)

pub returns-else-call-eq-STATFS-clause-fair : goal.returns-else-call-eq-STATFS-clause-fair
returns-else-call-eq-STATFS-clause-fair g c =
    let fs = c.args.self.now in
    let held = g.V.View.held c.args.view.now in
    let Path = OnInode fs.volume c.args.at.now Shared in
    IfOk-weaker c.replied-else-call-eq-STATFS.result _ _ (λ attempt so. fair_along Path (ReadPathOf held (g.V.View.hints c.args.view.now) fs.volume fs.areas c.args.call.now.procedure (Handle c.args.at.now)) (λ at mode on. inl on) fs.areas held attempt
    (replied_fair c.args.xid attempt fs.areas held Path c.getattr.result c.getattr.ensures.need c.getattr.ensures.inner so)) c.replied-else-call-eq-STATFS.ensures

pub returns-else-call-eq-STATFS-clause-free : goal.returns-else-call-eq-STATFS-clause-free
returns-else-call-eq-STATFS-clause-free g c = λ truth tree asks same s. absurd (c.if-call-eq-STATFS.false asks)

pub returns-then-call-eq-STATFS-clause-enough : goal.returns-then-call-eq-STATFS-clause-enough
returns-then-call-eq-STATFS-clause-enough g c = λ other. absurd (other c.if-call-eq-STATFS.true)

pub returns-then-call-eq-READLINK-clause-keeps : goal.returns-then-call-eq-READLINK-clause-keeps
returns-then-call-eq-READLINK-clause-keeps g c = IfOk-weaker c.replied.result _ _ (λ attempt is. replied_keeps c.args.xid attempt c.readlink.result c.readlink.ensures.inner is) c.replied.ensures

pub returns-then-call-eq-READLINK-clause-enough : goal.returns-then-call-eq-READLINK-clause-enough
returns-then-call-eq-READLINK-clause-enough g c = λ other. IfOk-weaker c.replied.result _ _ (λ attempt is. replied_enough c.args.xid attempt c.readlink.result is) c.replied.ensures

pub returns-else-call-eq-STATFS-clause-keeps : goal.returns-else-call-eq-STATFS-clause-keeps
returns-else-call-eq-STATFS-clause-keeps g c = IfOk-weaker c.replied-else-call-eq-STATFS.result _ _ (λ attempt is. replied_keeps c.args.xid attempt c.getattr.result c.getattr.ensures.inner is) c.replied-else-call-eq-STATFS.ensures

pub returns-else-call-eq-STATFS-clause-enough : goal.returns-else-call-eq-STATFS-clause-enough
returns-else-call-eq-STATFS-clause-enough g c = λ other. IfOk-weaker c.replied-else-call-eq-STATFS.result _ _ (λ attempt is. replied_enough c.args.xid attempt c.getattr.result is) c.replied-else-call-eq-STATFS.ensures
