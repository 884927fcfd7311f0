use Rattle.std.proofs.Common.{◌≡◌, ℕ, ◌∙◌, ap, length, arith}
use Rattle.bx_base.specs.Writing.{padded}
use Rattle.bx_layout.specs.Labels.{label_text}
use Rattle.bx_format.proofs.Labelled.{behind_more, labels_more}
use Rattle.bx_format.proofs.Spared.{spares_label, spares_then}
use Rattle.bx_format.specs.Moments.{IsBehindLabel}
use Rattle.bx_format.proofs.labels.write_labels.Goals as goal

pub loop-disk-preserved : goal.loop-disk-preserved
loop-disk-preserved g c =
    let long : length c.write.new.into ≡ 512 = c.write.auto.into ∙ c.loop-disk.invariant.sector in
    record {
      labels = λ tells.
          let told = c.loop-disk.invariant.rack.keeps_telling tells in
          labels_more (g.R.Rack.state c.loop-disk.rack) (g.R.Rack.state c.write_some.new.rack) (record { volume = c.args.volume; disk = 0; devices = c.args.devices; areas = c.args.areas }) c.loop-disk.disk c.write.new.into long
          (c.write.ensures ∙ ap (λ (n : ℕ). padded 512 (label_text (record { volume = c.args.volume; disk = c.loop-disk.disk; devices = c.args.devices; areas = n }))) c.from.ensures)
          (c.write_some.ensures.keeps told)
          (c.in_ok-write_some.ensures.written told) (c.loop-disk.invariant.labels tells);
      behind = λ tells.
          let told = c.loop-disk.invariant.rack.keeps_telling tells in
          behind_more (g.R.Rack.state c.args.rack.now) (g.R.Rack.state c.loop-disk.rack) (g.R.Rack.state c.write_some.new.rack) c.loop-disk.disk c.write.new.into long (c.write_some.ensures.keeps told)
          (c.loop-disk.invariant.behind tells);
      sector = long;
      spares = λ tells.
          let told = c.loop-disk.invariant.rack.keeps_telling tells in
          spares_then IsBehindLabel _ _ _ _ _ _ _ _ _ (c.loop-disk.invariant.spares tells) (spares_label _ _ c.loop-disk.disk _ _ _ _ _ (omega (arith, long)) (c.write_some.ensures.keeps told) (c.write_some.ensures.any_moment told));
      rack = grind arith;
    }

pub returns-in_err-write_some-clause-spares : goal.returns-in_err-write_some-clause-spares
returns-in_err-write_some-clause-spares g c = λ tells.
    let told = c.loop-disk.invariant.rack.keeps_telling tells in
    let long : length c.write.new.into ≡ 512 = c.write.auto.into ∙ c.loop-disk.invariant.sector in
    spares_then IsBehindLabel _ _ _ _ _ _ _ _ _ (c.loop-disk.invariant.spares tells) (spares_label _ _ c.loop-disk.disk _ _ _ _ _ (omega (arith, long)) (c.write_some.ensures.keeps told) (c.write_some.ensures.any_moment told))

pub returns-clause-spares : goal.returns-clause-spares
returns-clause-spares g c = c.loop-disk.invariant.spares
