-- Lines that are done, one after the other, are the first lines of a schedule.
use Rattle.std.proofs.Common.{◌≡◌, ◌≤◌, ◌==◌, false, List, [], ◌∷◌, ◌++◌, length, arith}
use Rattle.std.specs.Prelude.{reverse}
use Rattle.std.specs.List.{AllByRecursion}
use Rattle.std.proofs.lemmas.Bool.{ne_eqb}
use Rattle.std.proofs.lemmas.List.{length-reverse, reverse-append, reverse-reverse}
use Rattle.bx_script.specs.declared.line.Line.{Line}
use Rattle.bx_script.specs.Schedule.{HasPlace, BeginsSchedule}
use Rattle.bx_history.specs.Along.{AllowedNewest}
use Rattle.bx_replay.specs.Lines.{Allows, AreDone}

pub all_push : {A : Type 0} (P : A → Type 0) (xs : List A) (x : A) → AllByRecursion P xs → P x → AllByRecursion P (xs ++ x ∷ [])
all_push P [] x h p = (p, tt)
all_push P (y ∷ ys) x h p = (h.0, all_push P ys x h.1 p)

begins_push : (lines : List Line) (line : Line) → BeginsSchedule lines → HasPlace (length lines == 0) line → BeginsSchedule (lines ++ line ∷ [])
begins_push [] line begins place = (place, tt)
begins_push (first ∷ lines) line begins place =
    let later : (length (first ∷ lines) == 0) ≡ false = ne_eqb (length (first ∷ lines)) 0 (λ e. omega arith) in
    (begins.0, all_push (HasPlace false) lines line begins.1 (rw later at place))

module _ (MayStop : Type 0) where
  pub begins_newest : (newest : List Line) → AllowedNewest (Allows MayStop) newest → BeginsSchedule (reverse newest)
  begins_newest [] done = tt
  begins_newest (line ∷ before) done =
      let place : HasPlace (length (reverse before) == 0) line = rw (length-reverse before) done.0.in_place in
      rw (reverse-append (line ∷ []) before) (begins_push (reverse before) line (begins_newest before done.1) place)

  pub few_newest : (newest : List Line) → AllowedNewest (Allows MayStop) newest → length newest ≤ 4294967295
  few_newest [] done = omega arith
  few_newest (line ∷ before) done = let few = done.0.few in omega arith

  -- with the oldest first
  pub are_done : (newest : List Line) → AllowedNewest (Allows MayStop) newest → AreDone MayStop (reverse newest)
  are_done newest all = rw (reverse-reverse newest) all
