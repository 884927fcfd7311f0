-- Texts of lines.
use Rattle.std.proofs.Common.{◌≡◌, ℕ, suc, ◌+◌, List, [], ◌∷◌, ◌++◌, refl, sym, ap, ◌∙◌, append_assoc, add-one}
use Rattle.std.specs.Prelude.{map}
use Rattle.std.proofs.lemmas.List.{append-nil}
use Rattle.bx_base.specs.Text.{ended, text_of}
use Rattle.bx_base.specs.declared.names.Actor.TheVariants.{Node}
use Rattle.bx_script.specs.declared.line.Line.{Line}
use Rattle.bx_script.specs.ScheduleLine.{spelling}
use Rattle.bx_generated.specs.Schedules.{node_ticks, text_of_lines, tick_lines}

pub text_of_lines-append : (a b : List Line) → text_of_lines (a ++ b) ≡ text_of_lines a ++ text_of_lines b
text_of_lines-append [] b = refl
text_of_lines-append (line ∷ a) b = ap (λ (t : List ℕ). ended (spelling line) ++ t) (text_of_lines-append a b) ∙ sym (append_assoc (ended (spelling line)) (text_of_lines a) (text_of_lines b))

pub node_step : (number n : ℕ) → text_of_lines (node_ticks number (n + 1)) ≡ text_of_lines (node_ticks number n) ++ text_of_lines (tick_lines number (Node n))
unfolding node_ticks
node_step number n = rw add-one (text_of_lines-append (node_ticks number n) (tick_lines number (Node n)))
