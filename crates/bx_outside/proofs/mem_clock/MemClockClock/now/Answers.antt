use Rattle.std.proofs.Common.{◌≡◌, ℕ, ◌+◌, ◌≤◌, List, [], ◌∷◌, ◌++◌, length, take, replicate, ap, sym, refl, ◌∙◌, subst, arith}
use Rattle.std.proofs.lemmas.List.{append_assoc, get_or_read_under, replicate_more}
use Rattle.bx_outside.specs.Clocks.{Ticking, MayHaveGiven, reading_of}
use Rattle.bx_outside.proofs.mem_clock.MemClockClock.now.Goals as goal

-- the last reading may be given again
again : (clock : Ticking) (readings : List ℕ) → length clock.readings ≤ clock.at + 1 → MayHaveGiven clock readings → MayHaveGiven clock (readings ++ reading_of clock ∷ [])
again clock readings last gave = record {
  times = gave.times + 1;
  are = ap (λ (l : List ℕ). l ++ reading_of clock ∷ []) gave.are ∙ append_assoc (take clock.at clock.readings) (replicate gave.times (reading_of clock)) (reading_of clock ∷ [])
      ∙ ap (λ (l : List ℕ). take clock.at clock.readings ++ l) (replicate_more gave.times (reading_of clock));
  only_last = λ more. absurd (omega (arith, last, more));
}

pub returns-else-self-len-clause-gave : goal.returns-else-self-len-clause-gave
returns-else-self-len-clause-gave c =
    let here : Ticking = record { readings = c.self.inside.readings.items; at = c.self.inside.at } in
    let reading : reading_of here ≡ c.index-reading.result.now = sym (get_or_read_under c.self.inside.readings.items c.self.inside.at (length c.self.inside.readings.items) c.index-reading.result.now 0 c.index-reading.ensures c.self.invariant refl) in
    let last : length here.readings ≤ here.at + 1 = omega (arith, c.len.ensures, c.if-self-len.false) in
    rw (← c.self.view_is) (λ readings gave. subst (λ (n : ℕ). MayHaveGiven here (readings ++ n ∷ [])) reading (again here readings last gave))
