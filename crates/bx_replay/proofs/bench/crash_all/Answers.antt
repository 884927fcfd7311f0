use Rattle.std.proofs.Common.{ℕ, List, refl, sym, ◌∙◌, ap, arith, length}
use Rattle.bx_disk.specs.Crash.{crashed}
use Rattle.bx_disk.specs.Disks.{Disks}
use Rattle.bx_format.proofs.Sure.{all_sure}
use Rattle.bx_replay.specs.Bench.{after_crashes}
use Rattle.bx_replay.proofs.Held.{crashed_unsure, image_before, one_crash, one_more, reads_are, stays_sure}
use Rattle.bx_replay.proofs.bench.crash_all.Goals as goal

pub loop-disk-init : goal.loop-disk-init
loop-disk-init g c = record {
  within = omega arith;
  noise = λ tells. refl;
  left = λ tells. reads_are (g.B.Rack.state c.args.bench.now) (λ d s unsure. g.met.B.Rack.whole c.args.bench.now d s tells (g.met.B.Rack.there c.args.bench.now d s tells unsure));
  mostly = λ tells d s sure. sure;
  sure = λ tells d s below. absurd (omega (arith, below));
  no_fault = refl;
  sizes = refl;
  tells = λ tells. tells;
}

pub loop-disk-preserved : goal.loop-disk-preserved
loop-disk-preserved g c = record {
  within = omega (arith, c.disks-disk-end.ensures, c.loop-disk-test.true);
  noise = λ tells.
      c.in_ok-crash.ensures.crashed (c.loop-disk.invariant.tells tells) ∙ ap (λ (disks : Disks). crashed disks c.loop-disk.disk c.args.noise) (c.loop-disk.invariant.noise tells)
      ∙ sym (one_crash (g.B.Rack.state c.args.bench.now) c.args.noise c.loop-disk.disk);
  left = λ tells.
      let told = c.loop-disk.invariant.tells tells in
      image_before (g.B.Rack.state c.args.bench.now) (g.B.Rack.state c.loop-disk.bench) _ (c.loop-disk.invariant.left tells) (c.loop-disk.invariant.mostly tells) (c.in_ok-crash.ensures.image told);
  mostly = λ tells d s sure.
      ap (λ (disks : Disks). disks.unsure d s) (c.in_ok-crash.ensures.crashed (c.loop-disk.invariant.tells tells)) ∙ crashed_unsure (g.B.Rack.state c.loop-disk.bench) c.loop-disk.disk c.args.noise d s ∙ stays_sure _ _ (c.loop-disk.invariant.mostly tells d s sure);
  sure = λ tells d s below.
      ap (λ (disks : Disks). disks.unsure d s) (c.in_ok-crash.ensures.crashed (c.loop-disk.invariant.tells tells))
      ∙ crashed_unsure (g.B.Rack.state c.loop-disk.bench) c.loop-disk.disk c.args.noise d s ∙ one_more c.loop-disk.disk d _ below (λ before. c.loop-disk.invariant.sure tells d s before);
  no_fault = c.crash.ensures.no_fault.all ∙ c.loop-disk.invariant.no_fault;
  sizes = c.crash.ensures.sizes ∙ c.loop-disk.invariant.sizes;
  tells = λ tells. c.crash.ensures.keeps_telling (c.loop-disk.invariant.tells tells);
}

pub returns-clause-noise : goal.returns-clause-noise
returns-clause-noise g c = λ tells.
    c.loop-disk.invariant.noise tells
    ∙ ap (λ (n : ℕ). after_crashes (g.B.Rack.state c.args.bench.now) c.args.noise n) (omega (arith, c.loop-disk.invariant.within, c.disks-disk-end.ensures, c.loop-disk-test.false))

pub returns-clause-crashed : goal.returns-clause-crashed
returns-clause-crashed g c = λ tells. record {
  sizes = c.loop-disk.invariant.sizes;
  left = c.loop-disk.invariant.left tells;
  sure = λ d s.
      let sizes = ap (λ (l : List ℕ). length l) c.loop-disk.invariant.sizes in
      all_sure (g.B.Rack.state c.loop-disk.bench) (λ disk sector. g.met.B.Rack.there c.loop-disk.bench disk sector (c.loop-disk.invariant.tells tells))
      (λ disk sector below. c.loop-disk.invariant.sure tells disk sector (omega (arith, below, sizes, c.disks-disk-end.ensures, c.loop-disk-test.false))) d s;
}
