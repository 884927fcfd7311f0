-- A put of one replica: what images are read as at any moment.
use Rattle.std.proofs.Common.{◌≡◌, ◌≢◌, ℕ, List, refl, sym, subst, ◌∙◌, inl, inr}
use Rattle.std.specs.Prelude.{Option, Some, None}
use Rattle.std.proofs.lemmas.Bool.Decides.{eqb_tells}
use Rattle.bx_global.specs.Bytes.{SpellsHeld, held_text}
use Rattle.bx_global.specs.declared.held.Held.{Held}
use Rattle.bx_agreement.specs.Cells.{AreCells, placed}
use Rattle.bx_agreement.specs.History.{History}
use Rattle.bx_agreement.specs.Sound.{IsSound, IsCell, Puts}
use Rattle.bx_agreement.proofs.Cells.{put}

pub placed_at : (n : ℕ) (held : Held) (cells : ℕ → Option Held) → Puts n held cells (placed n held cells)
placed_at n held cells = record {
  at = elim (eqb_tells n n) [ inl same ↦ rw same.0 refl | inr apart ↦ absurd (apart.1 refl) ];
  others = λ m differ. elim (eqb_tells m n) [ inl same ↦ absurd (differ same.1) | inr apart ↦ rw apart.0 refl ];
}

-- An image that has a cell's new value, and elsewhere what an image had before, is as sound.
pub moment : (h : History) (devices : ℕ) (before now : ℕ → Option (List ℕ)) (cells : ℕ → Option Held) (n : ℕ) (new : Held) → IsSound h cells → AreCells devices before cells
    → IsCell h n new → SpellsHeld new (held_text new) devices → now n ≡ Some (held_text new) → ((m : ℕ) → m ≢ n → now m ≡ before m)
    → (made : ℕ → Option Held) × AreCells devices now made × IsSound h made
moment h devices before now cells n new sound are is spells at others = (
  placed n new cells,
  record {
    some = λ m held e. elim (eqb_tells m n) [
      | inl same ↦ let one : Some new ≡ Some held = sym (subst (λ (k : ℕ). placed n new cells k ≡ Some new) (sym same.1) puts.at) ∙ e in
          let held_is : new ≡ held = cc in
          (held_text new, subst (λ (k : ℕ). now k ≡ Some (held_text new)) (sym same.1) at, subst (λ (x : Held). SpellsHeld x (held_text new) devices) held_is spells)
      | inr apart ↦ let k = are.some m held (sym (puts.others m apart.1) ∙ e) in (k.0, others m apart.1 ∙ k.1, k.2)
    ];
    none = λ m held bytes e value. elim (eqb_tells m n) [
      | inl same ↦ let bad : Some new ≡ None = sym (subst (λ (k : ℕ). placed n new cells k ≡ Some new) (sym same.1) puts.at) ∙ e in absurd cc
      | inr apart ↦ are.none m held bytes (sym (puts.others m apart.1) ∙ e) (sym (others m apart.1) ∙ value)
    ];
  },
  put h cells (placed n new cells) n new sound puts is,
)
  where
    puts : Puts n new cells (placed n new cells)
    puts = placed_at n new cells
