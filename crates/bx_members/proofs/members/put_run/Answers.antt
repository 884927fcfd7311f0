use Rattle.std.proofs.Common.{◌∙◌, sym, ℕ, ◌+◌, List, length, arith, ap, subst, refl, below_more}
use Rattle.bx_disk.specs.Disks.{sector_of}
use Rattle.bx_calls.specs.Laws.{keeps_part, leaves_part, inside_by}
use Rattle.bx_members.specs.Members.{IsBrought}
use Rattle.bx_members.proofs.Kept.{keeps_then, leaves_next, run_brings}
use Rattle.bx_members.proofs.members.put_run.Goals as goal

pub returns-in_err-put_sector-clause-keeps : goal.returns-in_err-put_sector-clause-keeps
returns-in_err-put_sector-clause-keeps g c = λ writes greatest second tells is taken.
    let told = c.loop-i.invariant.rack.keeps_telling tells in
    let long = ap (λ (l : List ℕ). length l) c.bytes-bytes.ensures in
    let brought = subst (λ (b : List ℕ). IsBrought writes greatest c.args.run.now.device (c.args.run.now.place + c.loop-i.i) b) (ap (λ (b : List ℕ). sector_of b c.loop-i.i) (sym c.bytes-bytes.ensures) ∙ sym c.sector_in.ensures.is) (run_brings writes greatest c.args.run.now c.loop-i.i taken (omega (arith, long))) in
    keeps_then _ _ _ _ _ (c.loop-i.invariant.keeps writes greatest second tells is taken) (c.put_sector.ensures.keeps writes greatest c.args.run.now.device second told is brought)

pub returns-in_err-put_sector-clause-any_moment : goal.returns-in_err-put_sector-clause-any_moment
returns-in_err-put_sector-clause-any_moment g c = λ writes greatest second tells is taken.
    let told = c.loop-i.invariant.rack.keeps_telling tells in
    let long = ap (λ (l : List ℕ). length l) c.bytes-bytes.ensures in
    let brought = subst (λ (b : List ℕ). IsBrought writes greatest c.args.run.now.device (c.args.run.now.place + c.loop-i.i) b) (ap (λ (b : List ℕ). sector_of b c.loop-i.i) (sym c.bytes-bytes.ensures) ∙ sym c.sector_in.ensures.is) (run_brings writes greatest c.args.run.now c.loop-i.i taken (omega (arith, long))) in
    leaves_next _ _ _ _ _ _ _ _ _ _ (c.loop-i.invariant.any_moment writes greatest second tells is taken) (c.loop-i.invariant.keeps writes greatest second tells is taken) (c.put_sector.ensures.any_moment writes greatest c.args.run.now.device second told is brought)

pub returns-in_err-put_sector-clause-sure_moment : goal.returns-in_err-put_sector-clause-sure_moment
returns-in_err-put_sector-clause-sure_moment g c = λ tells.
    let told = c.loop-i.invariant.rack.keeps_telling tells in
    let long = ap (λ (l : List ℕ). length l) c.bytes-bytes.ensures in
    leaves_part _ _ _ _ _ _ _ _ _ _ _ _ _ _ (c.loop-i.invariant.sure_moment tells) (c.loop-i.invariant.elsewhere tells) (c.put_sector.ensures.sure_moment told) (inside_by _ _ _ _ _ _ refl (omega arith) (omega (arith, long)))

pub loop-i-preserved : goal.loop-i-preserved
loop-i-preserved g c =
    let bytes_are = ap (λ (b : List ℕ). sector_of b c.loop-i.i) (sym c.bytes-bytes.ensures) ∙ sym c.sector_in.ensures.is in
    record {
      written = λ tells.
          let told = c.loop-i.invariant.rack.keeps_telling tells in
          below_more _ _
          (λ j less. let out = c.put_sector.ensures.elsewhere told in out.reads.before (c.args.run.now.place + j) (omega (arith, less)) ∙ c.loop-i.invariant.written tells j less)
          (c.in_ok-put_sector.ensures.written told ∙ sym bytes_are);
      elsewhere = λ tells.
          let told = c.loop-i.invariant.rack.keeps_telling tells in
          keeps_part _ _ _ _ _ _ _ _ _ (c.loop-i.invariant.elsewhere tells) (c.put_sector.ensures.elsewhere told) (let long = ap (λ (l : List ℕ). length l) c.bytes-bytes.ensures in inside_by _ _ _ _ _ _ refl (omega arith) (omega (arith, long)));
      keeps = λ writes greatest second tells is taken.
          let told = c.loop-i.invariant.rack.keeps_telling tells in
          let long = ap (λ (l : List ℕ). length l) c.bytes-bytes.ensures in
          let brought = subst (λ (b : List ℕ). IsBrought writes greatest c.args.run.now.device (c.args.run.now.place + c.loop-i.i) b) bytes_are (run_brings writes greatest c.args.run.now c.loop-i.i taken (omega (arith, long))) in
          keeps_then _ _ _ _ _ (c.loop-i.invariant.keeps writes greatest second tells is taken) (c.put_sector.ensures.keeps writes greatest c.args.run.now.device second told is brought);
      any_moment = λ writes greatest second tells is taken.
          let told = c.loop-i.invariant.rack.keeps_telling tells in
          let long = ap (λ (l : List ℕ). length l) c.bytes-bytes.ensures in
          let brought = subst (λ (b : List ℕ). IsBrought writes greatest c.args.run.now.device (c.args.run.now.place + c.loop-i.i) b) bytes_are (run_brings writes greatest c.args.run.now c.loop-i.i taken (omega (arith, long))) in
          leaves_next _ _ _ _ _ _ _ _ _ _ (c.loop-i.invariant.any_moment writes greatest second tells is taken) (c.loop-i.invariant.keeps writes greatest second tells is taken) (c.put_sector.ensures.any_moment writes greatest c.args.run.now.device second told is brought);
      sure_moment = λ tells.
          let told = c.loop-i.invariant.rack.keeps_telling tells in
          let long = ap (λ (l : List ℕ). length l) c.bytes-bytes.ensures in
          leaves_part _ _ _ _ _ _ _ _ _ _ _ _ _ _ (c.loop-i.invariant.sure_moment tells) (c.loop-i.invariant.elsewhere tells) (c.put_sector.ensures.sure_moment told) (inside_by _ _ _ _ _ _ refl (omega arith) (omega (arith, long)));
      rack = grind arith;
    }
