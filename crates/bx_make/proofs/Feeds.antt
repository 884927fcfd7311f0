-- The text of a generated schedule, as it is made call by call.
use Rattle.std.proofs.Common.{◌≡◌, ℕ, zero, suc, ◌+◌, ◌-◌, ◌<◌, ◌≤◌, List, [], ◌∷◌, ◌++◌, length, drop, refl, sym, ap, subst, ◌∙◌, arith, append_assoc, add-one}
use Rattle.std.specs.Prelude.{map}
use Rattle.std.proofs.lemmas.List.{append-nil, length-append}
use Rattle.bx_base.specs.Text.{ended}
use Rattle.bx_script.specs.ScheduleLine.{spelling}
use Rattle.bx_script.specs.declared.line.Line.{Line}
use Rattle.bx_script.specs.declared.line.Line.TheVariants.{Heading}
use Rattle.bx_generated.specs.Draws.{draw_behind}
use Rattle.bx_generated.specs.Progress.{Progress}
use Rattle.bx_generated.specs.Schedules.{again_lines, call_line, call_lines, crash_lines, freed_lines, generated, generated_text, held_lines, lines_behind, lines_to, run_line, text_of_lines, ticks}
use Rattle.bx_generated.proofs.Texts.{text_of_lines-append}
use Rattle.bx_make.specs.Feeding.{text_left, text_of_next}

-- nothing is left where all calls are made
pub none_left : (progress : Progress) → progress.calls ≤ progress.made → text_left progress ≡ []
unfolding text_of_next
none_left progress done =
    let zero : progress.calls - progress.made ≡ 0 = omega (arith, done) in
    ap (text_of_next progress) zero

-- the next call, and what is left behind it
pub one_left : (progress : Progress) → progress.made < progress.calls
    → text_left progress ≡ text_of_lines (lines_behind progress.seed progress.nodes progress.calls progress.made) ++ text_left (record progress { made = progress.made + 1 })
unfolding text_of_next
one_left progress more =
    let one : progress.calls - progress.made ≡ suc (progress.calls - (progress.made + 1)) = omega (arith, more) in
    ap (text_of_next progress) one

-- a call has some bytes
some_line : (line : Line) (lines : List Line) → 1 ≤ length (text_of_lines (line ∷ lines))
some_line line lines = omega (arith, length-append (ended (spelling line)) (text_of_lines lines), length-append (spelling line) (10 ∷ []))

some_held : (held : List Line) (line : Line) (more rest : List Line) → 1 ≤ length (text_of_lines ((held ++ line ∷ more) ++ rest))
some_held [] line more rest = some_line line (more ++ rest)
some_held (x ∷ held) line more rest = some_line x ((held ++ line ∷ more) ++ rest)

pub some_bytes : (seed nodes calls others : ℕ) → 1 ≤ length (text_of_lines (lines_behind seed nodes calls others))
unfolding lines_behind call_lines
some_bytes seed nodes calls others =
    let draw = draw_behind seed nodes others in
    some_held (held_lines draw) (call_line seed (others + 1) draw) (run_line (others + 1) ∷ (again_lines seed (others + 1) draw ++ freed_lines draw)) (ticks nodes (others + 1) ++ crash_lines nodes calls (others + 1))

module _ (seed nodes calls : ℕ) where
  at_call : ℕ → Progress
  at_call made = record { seed = seed; nodes = nodes; calls = calls; made = made }

  whole_from : (n made : ℕ) → text_of_lines (lines_to seed nodes calls made) ++ text_of_next (at_call made) n ≡ text_of_lines (lines_to seed nodes calls (made + n))
  unfolding text_of_next lines_to at_call
  whole_from zero made =
      let same : made ≡ made + 0 = omega arith in
      append-nil (text_of_lines (lines_to seed nodes calls made)) ∙ ap (λ (k : ℕ). text_of_lines (lines_to seed nodes calls k)) same
  whole_from (suc n) made =
      let later = whole_from n (made + 1) in
      let next : text_of_lines (lines_to seed nodes calls (made + 1)) ≡ text_of_lines (lines_to seed nodes calls made) ++ text_of_lines (lines_behind seed nodes calls made) =
      rw add-one (text_of_lines-append (lines_to seed nodes calls made) (lines_behind seed nodes calls made)) in
      let same : made + 1 + n ≡ made + suc n = omega arith in
      sym (append_assoc (text_of_lines (lines_to seed nodes calls made)) (text_of_lines (lines_behind seed nodes calls made)) (text_of_next (at_call (made + 1)) n))
      ∙ ap (λ (t : List ℕ). t ++ text_of_next (at_call (made + 1)) n) (sym next) ∙ later ∙ ap (λ (k : ℕ). text_of_lines (lines_to seed nodes calls k)) same

  -- the heading, and all that is made then, is the schedule
  pub whole : ended (spelling (Heading seed nodes 1 2)) ++ text_left (record { seed = seed; nodes = nodes; calls = calls; made = 0 }) ≡ generated_text seed nodes calls
  unfolding generated lines_to at_call
  whole =
      let off : calls - 0 ≡ calls = omega arith in
      let from : 0 + calls ≡ calls = omega arith in
      let left : text_of_next (at_call 0) (calls - 0) ≡ text_of_next (at_call 0) calls = ap (text_of_next (at_call 0)) off in
      let all : text_of_next (at_call 0) calls ≡ text_of_lines (lines_to seed nodes calls calls) = whole_from calls 0 ∙ ap (λ (k : ℕ). text_of_lines (lines_to seed nodes calls k)) from in
      ap (λ (t : List ℕ). ended (spelling (Heading seed nodes 1 2)) ++ t) (left ∙ all)
