use Rattle.std.proofs.Common.{sym, subst}
use Rattle.bx_disk.specs.Disks.{Image}
use Rattle.bx_places.specs.Places.{disk_count}
use Rattle.bx_format.specs.Formats.{HasLabels}
use Rattle.bx_format.proofs.Whole.{behind_reads, behind_same, behind_then}
use Rattle.bx_format.proofs.Spared.{leaves_again, leaves_labelled, leaves_synced}
use Rattle.bx_format.proofs.volumes.label_disks.Goals as goal

pub returns-clause-labels : goal.returns-clause-labels
returns-clause-labels g c = λ tells.
    let told = c.sync_all.ensures.rack.keeps_telling tells in
    let labelled = c.write_labels.ensures.rack.keeps_telling told in
    subst (λ (image : Image). HasLabels image (record { volume = c.args.volume; disk = 0; devices = c.args.devices; areas = c.args.areas }) (disk_count c.args.devices))
    (sym (c.in_ok-sync_all-2.ensures.reads labelled)) (c.in_ok-write_labels.ensures.labels told)

pub returns-in_err-sync_all-clause-behind : goal.returns-in_err-sync_all-clause-behind
returns-in_err-sync_all-clause-behind g c = λ tells. behind_reads (g.R.Rack.state c.args.rack.now) (g.R.Rack.state c.sync_all.new.rack) (c.sync_all.ensures.reads tells)

pub returns-in_err-write_labels-clause-behind : goal.returns-in_err-write_labels-clause-behind
returns-in_err-write_labels-clause-behind g c = λ tells.
    behind_same (g.R.Rack.state c.args.rack.now) (g.R.Rack.state c.sync_all.new.rack) (g.R.Rack.state c.write_labels.new.rack) (c.sync_all.ensures.reads tells)
    (c.write_labels.ensures.behind (c.sync_all.ensures.rack.keeps_telling tells))

pub returns-in_err-sync_all-2-clause-behind : goal.returns-in_err-sync_all-2-clause-behind
returns-in_err-sync_all-2-clause-behind g c = λ tells.
    let told = c.sync_all.ensures.rack.keeps_telling tells in
    behind_same (g.R.Rack.state c.args.rack.now) (g.R.Rack.state c.sync_all.new.rack) (g.R.Rack.state c.sync_all-2.new.rack) (c.sync_all.ensures.reads tells)
    (behind_then (g.R.Rack.state c.sync_all.new.rack) (g.R.Rack.state c.write_labels.new.rack) (g.R.Rack.state c.sync_all-2.new.rack) (c.write_labels.ensures.behind told)
    (c.sync_all-2.ensures.reads (c.write_labels.ensures.rack.keeps_telling told)))

pub returns-clause-behind : goal.returns-clause-behind
returns-clause-behind g c = λ tells.
    let told = c.sync_all.ensures.rack.keeps_telling tells in
    behind_same (g.R.Rack.state c.args.rack.now) (g.R.Rack.state c.sync_all.new.rack) (g.R.Rack.state c.sync_all-2.new.rack) (c.sync_all.ensures.reads tells)
    (behind_then (g.R.Rack.state c.sync_all.new.rack) (g.R.Rack.state c.write_labels.new.rack) (g.R.Rack.state c.sync_all-2.new.rack) (c.write_labels.ensures.behind told)
    (c.sync_all-2.ensures.reads (c.write_labels.ensures.rack.keeps_telling told)))

pub returns-clause-sure : goal.returns-clause-sure
returns-clause-sure g c = λ d s tells. c.in_ok-sync_all-2.ensures.sure d s (c.write_labels.ensures.rack.keeps_telling (c.sync_all.ensures.rack.keeps_telling tells))

pub returns-in_err-sync_all-clause-moments : goal.returns-in_err-sync_all-clause-moments
returns-in_err-sync_all-clause-moments g c = λ tells. leaves_synced (g.R.Rack.state c.args.rack.now) (g.R.Rack.state c.sync_all.new.rack) _ _ _ _ (c.sync_all.ensures.spares tells)

pub returns-in_err-write_labels-clause-moments : goal.returns-in_err-write_labels-clause-moments
returns-in_err-write_labels-clause-moments g c = λ tells.
    let told = c.sync_all.ensures.rack.keeps_telling tells in
    leaves_labelled (g.R.Rack.state c.args.rack.now) (g.R.Rack.state c.sync_all.new.rack) _ _ _ _ (c.sync_all.ensures.spares tells) (λ d s. c.in_ok-sync_all.ensures.sure d s tells) (g.R.Rack.state c.write_labels.new.rack) _ _ (c.write_labels.ensures.spares told)

pub returns-in_err-sync_all-2-clause-moments : goal.returns-in_err-sync_all-2-clause-moments
returns-in_err-sync_all-2-clause-moments g c = λ tells.
    let told = c.sync_all.ensures.rack.keeps_telling tells in
    leaves_again (g.R.Rack.state c.args.rack.now) (g.R.Rack.state c.sync_all.new.rack) _ _ _ _ (c.sync_all.ensures.spares tells) (λ d s. c.in_ok-sync_all.ensures.sure d s tells) (g.R.Rack.state c.write_labels.new.rack) _ _ (c.write_labels.ensures.spares told) (g.R.Rack.state c.sync_all-2.new.rack) _ _ (c.sync_all-2.ensures.spares (c.write_labels.ensures.rack.keeps_telling told))

pub returns-clause-moments : goal.returns-clause-moments
returns-clause-moments g c = λ tells.
    let told = c.sync_all.ensures.rack.keeps_telling tells in
    leaves_again (g.R.Rack.state c.args.rack.now) (g.R.Rack.state c.sync_all.new.rack) _ _ _ _ (c.sync_all.ensures.spares tells) (λ d s. c.in_ok-sync_all.ensures.sure d s tells) (g.R.Rack.state c.write_labels.new.rack) _ _ (c.write_labels.ensures.spares told) (g.R.Rack.state c.sync_all-2.new.rack) _ _ (c.sync_all-2.ensures.spares (c.write_labels.ensures.rack.keeps_telling told))
