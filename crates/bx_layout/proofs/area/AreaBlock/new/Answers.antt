use Rattle.std.proofs.Common.{◌≡◌, ℕ, replicate, rules, ap, ◌∙◌, refl, arith}
use Rattle.bx_layout.proofs.SlotWords.{zero_area}
use Rattle.bx_layout.proofs.area.AreaBlock.new.Goals as goal

pub returns-clause-is : goal.returns-clause-is
returns-clause-is c =
    let count : c.loop.counter ≡ 960 = omega arith in
    let words : c.loop.words ≡ replicate 960 0 = c.loop.invariant ∙ ap (λ (n : ℕ). replicate n 0) count in
    let dead : c.in_ok-dead.dead ≡ replicate 120 0 = search rules in
    rw (words, dead) (zero_area 960 120 refl refl)

pub returns-clause-empty : goal.returns-clause-empty
returns-clause-empty c =
    let count : c.loop.counter ≡ 960 = omega arith in
    let words : c.loop.words ≡ replicate 960 0 = c.loop.invariant ∙ ap (λ (n : ℕ). replicate n 0) count in
    let dead : c.in_ok-dead.dead ≡ replicate 120 0 = search rules in
    rw (words, dead) refl
