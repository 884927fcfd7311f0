use Rattle.std.proofs.Common.{ℕ, Err, arith, sym, ap, subst, ◌∙◌}
use Rattle.std.proofs.lemmas.Result.{err_from_is_err_and}
use Rattle.bx_audit_slots.specs.Told.{IsTold}
use Rattle.bx_audit_slots.proofs.InUse.{all_used}
use Rattle.bx_views.specs.Truths.{Truth}
use Rattle.bx_audit_pages.proofs.Ends.{if_torn}
use Rattle.bx_audit_slots.proofs.slots.used_slots.Goals as goal

pub returns-in_err-put_area-clause-torn : goal.returns-in_err-put_area-clause-torn
returns-in_err-put_area-clause-torn g c = λ truth told.
    let p = err_from_is_err_and c.from_residual-in_err-put_area.result c.from_residual-in_err-put_area.ensures.1 in
    let here = subst (λ (n : ℕ). IsTold (g.B.Blocks.tells c.loop-area.blocks) n (g.B.Blocks.stands c.loop-area.blocks) truth) (sym (c.loop-area.invariant.blocks.keeps_areas ∙ c.requires.blocks.areas_are)) (c.loop-area.invariant.told truth told) in
    if_torn _ _ c.in_err-put_area.field-0.0 c.from_residual-in_err-put_area.result (p.1 ∙ ap Err p.2) (λ at found wanted free. free)
    (c.in_err-put_area.ensures.torn c.args.areas truth (omega (arith, c.loop-area-test.true)) (c.in_ok-slots.ensures.spells truth here))

pub loop-area-preserved : goal.loop-area-preserved
loop-area-preserved g c =
    let same = c.loop-area.invariant.blocks.keeps_areas ∙ c.requires.blocks.areas_are in
    let here = λ (truth : Truth) (told : IsTold (g.B.Blocks.tells c.args.blocks.now) c.args.areas (g.B.Blocks.stands c.args.blocks.now) truth).
    subst (λ (n : ℕ). IsTold (g.B.Blocks.tells c.loop-area.blocks) n (g.B.Blocks.stands c.loop-area.blocks) truth) (sym same) (c.loop-area.invariant.told truth told) in
    record {
      blocks = grind arith;
      told = λ truth told.
          subst (λ (n : ℕ). IsTold (g.B.Blocks.tells c.slots_of.new.blocks) n (g.B.Blocks.stands c.slots_of.new.blocks) truth) same (c.in_ok-slots.ensures.told truth (here truth told));
      done = λ truth told.
          c.in_ok-put_area.ensures.ok c.args.areas truth (omega (arith, c.loop-area-test.true)) (c.in_ok-slots.ensures.spells truth (here truth told)) (c.loop-area.invariant.done truth told);
    }

pub returns-clause-ok : goal.returns-clause-ok
returns-clause-ok g c = λ truth told. all_used c.args.areas truth c.loop-area.area c.loop-area.used.items (omega (arith, c.loop-area-test.false)) (c.loop-area.invariant.done truth told)
