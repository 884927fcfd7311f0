use Rattle.std.proofs.Common.{ℕ, reverse, subst}
use Rattle.bx_volume.specs.Overlay.{IsOverlaidTruth}
use Rattle.bx_logs.specs.Logs.{log_in}
use Rattle.bx_logs.specs.Members.{held_by}
use Rattle.bx_overlay.proofs.Over.{are_blocks, is_truth}
use Rattle.bx_overlay.proofs.Shown.{shown_truth}
use Rattle.bx_overlay.proofs.laws.what_is_read_is_shown.Goals as goal

pub returns-clause-blocks : goal.returns-clause-blocks
returns-clause-blocks c = λ disks state read second tree is from shows.
    let over = is.overlay in
    let one = c.one_first_label.ensures disks.sizes disks.reads shows.first read.first shows.shows.is_first is.is_first in
    are_blocks disks.reads read.members state.sessions over.logs read.newest over.are over.of shows.truth shows.logs
    (shown_truth disks state second tree from shows read.first one read.members is.members is.there.volume.least_devices)

pub returns-clause-truth : goal.returns-clause-truth
returns-clause-truth c = λ disks state read truth is blocks.
    let over = is.overlay in
    let here = is_truth disks.reads read.members state.sessions over.logs read.newest over.are over.of truth over.agreed blocks in
    record {
      logs = λ slot. reverse (log_in over.logs slot);
      is_truth = subst (λ (n : ℕ). IsOverlaidTruth (held_by disks.reads read.members) n read.first.areas state.sessions (λ slot. reverse (log_in over.logs slot)) truth) is.members.devices
          (subst (λ (n : ℕ). IsOverlaidTruth (held_by disks.reads read.members) read.members.devices n state.sessions (λ slot. reverse (log_in over.logs slot)) truth) is.members.areas here);
    }
