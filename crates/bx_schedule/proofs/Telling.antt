-- Lines of the trace, one behind the other.
use Rattle.std.proofs.Common.{◌≡◌, List, [], ◌∷◌, ◌++◌, map, reverse, ap, ◌∙◌, sym, subst}
use Rattle.std.proofs.lemmas.List.{map-append, reverse-append}
use Rattle.std.specs.List.{AllByRecursion}
use Rattle.bx_base.proofs.Lines.{text_of-append}
use Rattle.bx_base.specs.Text.{text_of}
use Rattle.bx_cluster.specs.Steps.{lines_in}
use Rattle.bx_driver.specs.Steps.{EventStep, parts_with}
use Rattle.bx_history.specs.Parts.{trace_of}
use Rattle.bx_script.specs.TraceText.{InTraceRange, trace_spelling, trace_text}
use Rattle.bx_script.specs.declared.trace_line.TraceLine.{TraceLine}
use Rattle.bx_schedule.specs.Places.{lines_by}

pub text_both : (a b : List TraceLine) → trace_text (a ++ b) ≡ trace_text a ++ trace_text b
text_both a b = ap text_of (map-append trace_spelling a b) ∙ text_of-append (map trace_spelling a) (map trace_spelling b)

-- those of one step more come behind the others
pub text_more : (step : EventStep) (steps : List EventStep) → trace_text (lines_by (step ∷ steps)) ≡ trace_text (lines_by steps) ++ trace_text (reverse (lines_in step.event step.outcome))
text_more step steps = ap trace_text (reverse-append (lines_in step.event step.outcome) (trace_of (parts_with steps []))) ∙ text_both (lines_by steps) (reverse (lines_in step.event step.outcome))

all_both : {X : Type 0} (P : X → Type 0) (a b : List X) → AllByRecursion P a → AllByRecursion P b → AllByRecursion P (a ++ b)
all_both P [] b one two = two
all_both P (x ∷ a) b one two = (one.0, all_both P a b one.1 two)

pub range_more : (step : EventStep) (steps : List EventStep) → AllByRecursion InTraceRange (lines_by steps) → AllByRecursion InTraceRange (reverse (lines_in step.event step.outcome)) → AllByRecursion InTraceRange (lines_by (step ∷ steps))
range_more step steps one two =
    subst (AllByRecursion InTraceRange) (sym (reverse-append (lines_in step.event step.outcome) (trace_of (parts_with steps [])))) (all_both InTraceRange (lines_by steps) (reverse (lines_in step.event step.outcome)) one two)
