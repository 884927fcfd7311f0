-- Cells of a volume that was found: some are still as they were found, and behind the first state.
use Rattle.std.proofs.Common.{◌≡◌, ℕ, ◌<◌, ◌≤◌, sym, ap, subst, ◌∙◌, inl, inr, arith}
use Rattle.std.specs.Prelude.{Option, Some}
use Rattle.bx_answers.specs.Handling.{AtMost}
use Rattle.bx_global.specs.declared.held.Held.{Held}
use Rattle.bx_facts.specs.Chains.{last, IsNext}
use Rattle.bx_agreement.specs.Cells.{CatchUp}
use Rattle.bx_agreement.specs.History.{History}
use Rattle.bx_agreement.specs.Sound.{IsSound, IsAhead, IsLevel, HasTwo}
use Rattle.bx_agreement.proofs.Readings.{ahead, level}

module _ (h : History) (cells : ℕ → Option Held) (sound : IsSound h cells) (seen : ℕ → Option Held) (within : (n : ℕ) (held : Held) → seen n ≡ Some held → cells n ≡ Some held)
    (k l : ℕ) (one other : Held) (readable : HasTwo seen k l one other) (raw : ℕ → Option Held) (touched : ℕ → Type 0) (catch : CatchUp h.chain.first raw seen touched) where
  -- an accepted state that is above the decided one of a cell that was touched is one of a cell that was touched
  pub found_ahead : (n : ℕ) (held : Held) (t : ℕ) (their : Held) → raw t ≡ Some their → h.chain.first.index ≤ their.decided.index → IsAhead raw n held → IsNext h.proposed (last h.chain) held.accepted
  found_ahead n held t their is high up =
      let above = up.above t their is in
      elim (catch.kinds n held up.is) [
        | inr was ↦ absurd (omega (arith, high, above, was.0.accepted up.flag))
        | inl touch ↦ ahead h cells sound seen within k l one other readable n held record {
          is = touch.1;
          flag = up.flag;
          above = λ m held_m e. let w = catch.whole m held_m e in elim w.2 [
            | inl same ↦ subst (λ (x : Held). x.decided.index < held.accepted.index) (sym same) (up.above m w.0 w.1)
            | inr caught ↦ subst (λ (x : Held). x.decided.index < held.accepted.index) (sym caught.0) (omega (arith, high, above))
          ];
          greatest = λ m held_m e flag. let w = catch.whole m held_m e in elim w.2 [
            | inl same ↦ subst (λ (x : Held). x.accepted.index ≤ held.accepted.index) (sym same) (up.greatest m w.0 w.1 (ap (λ (x : Held). x.flag) (sym same) ∙ flag))
            | inr caught ↦ let zero_is : 0 ≡ held_m.flag = ap (λ (x : Held). x.flag) (sym caught.0) in absurd (omega (arith, zero_is, flag))
          ];
          highest = λ m held_m e flag index. let w = catch.whole m held_m e in elim w.2 [
            | inl same ↦ subst (λ (x : Held). AtMost x.ballot held.ballot) (sym same) (up.highest m w.0 w.1 (ap (λ (x : Held). x.flag) (sym same) ∙ flag) (ap (λ (x : Held). x.accepted.index) (sym same) ∙ index))
            | inr caught ↦ let zero_is : 0 ≡ held_m.flag = ap (λ (x : Held). x.flag) (sym caught.0) in absurd (omega (arith, zero_is, flag))
          ];
        }
      ]

  -- a decided state of a cell that was touched, where it is the greatest
  pub found_level : (n : ℕ) (held : Held) → seen n ≡ Some held → h.chain.first.index ≤ held.decided.index → IsLevel raw n held → held.decided ≡ last h.chain
  found_level n held is high flat = level h cells sound seen within k l one other readable n held record {
    is = is;
    greatest = λ m held_m e. let w = catch.whole m held_m e in elim w.2 [
      | inl same ↦ subst (λ (x : Held). x.decided.index ≤ held.decided.index) (sym same) (flat.greatest m w.0 w.1)
      | inr caught ↦ subst (λ (x : Held). x.decided.index ≤ held.decided.index) (sym caught.0) high
    ];
    none = λ m held_m e flag. let w = catch.whole m held_m e in elim w.2 [
      | inl same ↦ subst (λ (x : Held). x.accepted.index ≤ held.decided.index) (sym same) (flat.none m w.0 w.1 (ap (λ (x : Held). x.flag) (sym same) ∙ flag))
      | inr caught ↦ let zero_is : 0 ≡ held_m.flag = ap (λ (x : Held). x.flag) (sym caught.0) in absurd (omega (arith, zero_is, flag))
    ];
  }
