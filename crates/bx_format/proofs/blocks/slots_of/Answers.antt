use Rattle.std.proofs.Common.{◌≡◌, ℕ, Bool, sym, ap, ◌∙◌, refl, if◌then◌else◌, ◌∷◌}
use Rattle.std.specs.Prelude.{◌≢◌, ◌^◌, ◌+◌, replicate, slice_index}
use Rattle.bx_layout.specs.declared.area.AreaBlock.{AreaBlock}
use Rattle.bx_layout.specs.Areas.{taken_word, with_word}
use Rattle.bx_truth.specs.Opening.{opening_slots}
use Rattle.bx_truth.proofs.Cases.{eq_false}
use Rattle.bx_format.proofs.blocks.slots_of.Goals as goal
use Rattle.bx_format.proofs.blocks.slots_of.Goals.{then-area-eq0, else-area-eq0}

-- a slot is taken
took : AreaBlock → ℕ → AreaBlock
took area slot = with_word area slot (taken_word (slice_index area.words slot))

none : AreaBlock
none = record { words = replicate 960 0; dead = replicate 120 0 }

both : took (took none 0) 1 ≡ opening_slots 0
unfolding took none
both = refl

others : (area : ℕ) → area ≢ 0 → opening_slots area ≡ record { words = replicate 960 0; dead = replicate 120 0 }
others area other = ap (λ (t : Bool). record { words = if t then (2 ^ 31 + 1) ∷ (2 ^ 31 + 1) ∷ replicate 958 0 else replicate 960 0; dead = replicate 120 0 }) (eq_false area 0 other)

pub returns-clause-slots : goal.returns-clause-slots
unfolding took none
returns-clause-slots c = elim c.if-area-eq0.branch [
  | then-area-eq0 w ↦ w.slots-is ∙ w.take-then-area-eq0.ensures.taken ∙ ap (λ (a : AreaBlock). took a 1) (w.take.ensures.taken ∙ ap (λ (a : AreaBlock). took a 0) c.in_ok-slots.ensures.empty) ∙ both ∙ ap opening_slots (sym w.if-area-eq0.true)
  | else-area-eq0 w ↦ w.slots-is ∙ c.in_ok-slots.ensures.empty ∙ sym (others c.args.area w.if-area-eq0.false)
]
