use Rattle.std.proofs.Common.{ℕ, List, ◌∙◌, sym, ap, arith}
use Rattle.bx_calls.specs.Laws.{keeps_all}
use Rattle.bx_disk.specs.Disks.{Disks}
use Rattle.bx_members.proofs.Kept.{first_sector}
use Rattle.bx_mirror_disks.proofs.Labelling.{all_after, images_after, sure_after, sure_images, written_after}
use Rattle.bx_mirror_disks.proofs.labels.label_own.Goals as goal

pub returns-then-branch-clause-label : goal.returns-then-branch-clause-label
returns-then-branch-clause-label g c = λ tells.
    let told = c.has_bytes.ensures.rack.keeps_telling tells in
    let same = ap (λ (reads : ℕ → ℕ → List ℕ). reads c.args.disk 0) (c.sync_disk.ensures.keeps told).reads in
    record { is = c.requires.label; parts = same ∙ ap (λ (z : Disks). z.reads c.args.disk 0) (c.has_bytes.ensures.stays tells) ∙ c.in_ok-has_bytes.ensures.same tells c.if-branch.true ∙ c.write.ensures }

pub returns-then-branch-clause-had_label : goal.returns-then-branch-clause-had_label
returns-then-branch-clause-had_label g c = λ tells spelled.
    let told = c.has_bytes.ensures.rack.keeps_telling tells in
    all_after _ _ _ c.args.disk (c.has_bytes.ensures.stays tells) (c.sync_disk.ensures.keeps told)

pub returns-then-branch-clause-keeps : goal.returns-then-branch-clause-keeps
returns-then-branch-clause-keeps g c = λ tells.
    let told = c.has_bytes.ensures.rack.keeps_telling tells in
    keeps_all _ _ c.args.disk 0 1 (all_after _ _ _ c.args.disk (c.has_bytes.ensures.stays tells) (c.sync_disk.ensures.keeps told))

pub returns-then-branch-clause-any_moment : goal.returns-then-branch-clause-any_moment
returns-then-branch-clause-any_moment g c = λ tells.
    let told = c.has_bytes.ensures.rack.keeps_telling tells in
    sure_images _ _ _ _ _ c.args.disk (images_after _ _ _ _ _ _ _ _ (c.has_bytes.ensures.stays tells) (c.has_bytes.ensures.any_moment tells) (c.sync_disk.ensures.any_moment told))

pub returns-then-branch-clause-had_moment : goal.returns-then-branch-clause-had_moment
returns-then-branch-clause-had_moment g c = λ tells spelled.
    let told = c.has_bytes.ensures.rack.keeps_telling tells in
    images_after _ _ _ _ _ _ _ _ (c.has_bytes.ensures.stays tells) (c.has_bytes.ensures.any_moment tells) (c.sync_disk.ensures.any_moment told)

pub returns-in_err-sync_disk-clause-had_label : goal.returns-in_err-sync_disk-clause-had_label
returns-in_err-sync_disk-clause-had_label g c = λ tells spelled.
    let told = c.has_bytes.ensures.rack.keeps_telling tells in
    all_after _ _ _ c.args.disk (c.has_bytes.ensures.stays tells) (c.sync_disk.ensures.keeps told)

pub returns-in_err-sync_disk-clause-keeps : goal.returns-in_err-sync_disk-clause-keeps
returns-in_err-sync_disk-clause-keeps g c = λ tells.
    let told = c.has_bytes.ensures.rack.keeps_telling tells in
    keeps_all _ _ c.args.disk 0 1 (all_after _ _ _ c.args.disk (c.has_bytes.ensures.stays tells) (c.sync_disk.ensures.keeps told))

pub returns-in_err-sync_disk-clause-any_moment : goal.returns-in_err-sync_disk-clause-any_moment
returns-in_err-sync_disk-clause-any_moment g c = λ tells.
    let told = c.has_bytes.ensures.rack.keeps_telling tells in
    sure_images _ _ _ _ _ c.args.disk (images_after _ _ _ _ _ _ _ _ (c.has_bytes.ensures.stays tells) (c.has_bytes.ensures.any_moment tells) (c.sync_disk.ensures.any_moment told))

pub returns-in_err-sync_disk-clause-had_moment : goal.returns-in_err-sync_disk-clause-had_moment
returns-in_err-sync_disk-clause-had_moment g c = λ tells spelled.
    let told = c.has_bytes.ensures.rack.keeps_telling tells in
    images_after _ _ _ _ _ _ _ _ (c.has_bytes.ensures.stays tells) (c.has_bytes.ensures.any_moment tells) (c.sync_disk.ensures.any_moment told)

pub returns-clause-label : goal.returns-clause-label
returns-clause-label g c = λ tells.
    let told = c.has_bytes.ensures.rack.keeps_telling tells in
    let y : Disks = g.R.Rack.state c.write_through.new.rack in
    record { is = c.requires.label; parts = first_sector y.reads c.args.disk 0 c.write.new.into (omega arith) (c.in_ok-write_through.ensures.written told) ∙ c.write.ensures }

pub returns-clause-had_label : goal.returns-clause-had_label
returns-clause-had_label g c = λ tells spelled.
    absurd (c.in_ok-has_bytes.ensures.other tells c.if-branch.false (spelled.parts ∙ sym c.write.ensures))

pub returns-clause-keeps : goal.returns-clause-keeps
returns-clause-keeps g c = λ tells.
    let told = c.has_bytes.ensures.rack.keeps_telling tells in
    sure_after _ _ _ c.args.disk _ (c.has_bytes.ensures.stays tells) (omega arith) (c.write_through.ensures.keeps told)

pub returns-clause-any_moment : goal.returns-clause-any_moment
returns-clause-any_moment g c = λ tells.
    let told = c.has_bytes.ensures.rack.keeps_telling tells in
    written_after _ _ _ _ _ _ _ _ c.args.disk _ (c.has_bytes.ensures.stays tells) (omega arith) (c.has_bytes.ensures.any_moment tells) (c.write_through.ensures.any_moment told)

pub returns-clause-had_moment : goal.returns-clause-had_moment
returns-clause-had_moment g c = λ tells spelled.
    absurd (c.in_ok-has_bytes.ensures.other tells c.if-branch.false (spelled.parts ∙ sym c.write.ensures))

pub returns-in_err-write_through-clause-had_label : goal.returns-in_err-write_through-clause-had_label
returns-in_err-write_through-clause-had_label g c = λ tells spelled.
    absurd (c.in_ok-has_bytes.ensures.other tells c.if-branch.false (spelled.parts ∙ sym c.write.ensures))

pub returns-in_err-write_through-clause-keeps : goal.returns-in_err-write_through-clause-keeps
returns-in_err-write_through-clause-keeps g c = λ tells.
    let told = c.has_bytes.ensures.rack.keeps_telling tells in
    sure_after _ _ _ c.args.disk _ (c.has_bytes.ensures.stays tells) (omega arith) (c.write_through.ensures.keeps told)

pub returns-in_err-write_through-clause-any_moment : goal.returns-in_err-write_through-clause-any_moment
returns-in_err-write_through-clause-any_moment g c = λ tells.
    let told = c.has_bytes.ensures.rack.keeps_telling tells in
    written_after _ _ _ _ _ _ _ _ c.args.disk _ (c.has_bytes.ensures.stays tells) (omega arith) (c.has_bytes.ensures.any_moment tells) (c.write_through.ensures.any_moment told)

pub returns-in_err-write_through-clause-had_moment : goal.returns-in_err-write_through-clause-had_moment
returns-in_err-write_through-clause-had_moment g c = λ tells spelled.
    absurd (c.in_ok-has_bytes.ensures.other tells c.if-branch.false (spelled.parts ∙ sym c.write.ensures))
