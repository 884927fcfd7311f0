-- What an event makes of the parts.
use Rattle.std.proofs.Common.{◌≡◌, ℕ, Bool, true, false, List, Option, sym, ◌∙◌, ap, subst}
use Rattle.std.specs.Prelude.{◌&&◌}
use Rattle.bx_base.specs.declared.names.Actor.{Actor}
use Rattle.bx_base.specs.declared.names.Actor.TheVariants.{Node}
use Rattle.bx_global.specs.declared.state.GlobalState.{GlobalState}
use Rattle.bx_facts.specs.declared.input.Input.{Input}
use Rattle.bx_plain_store.specs.declared.writes.Write.{Write}
use Rattle.bx_plain_store.specs.declared.inquiries.Inquiry.{Inquiry}
use Rattle.bx_plain_store.specs.Steps.{IsStep, Meets, Serves}
use Rattle.bx_plain_store.specs.Waiting.{all_up, is_sync}

module _ (known : GlobalState) (who : Actor) (input : Input) (greatest : ℕ) (down : List Bool) (owns owns_then : List (Option ℕ)) (slots slots_then : List (Option Write)) (inquiries inquiries_then : List (Option Inquiry)) where
  -- no node's event is a sync
  no_sync : (node : ℕ) → who ≡ Node node → (is_sync who input && all_up down) ≡ true → ⊥
  no_sync node is served_now = let none : (is_sync who input && all_up down) ≡ false = ap (λ (w : Actor). is_sync w input && all_up down) is in let h = sym none ∙ served_now in absurd cc

  pub step_met : (node : ℕ) → who ≡ Node node → Meets known node owns owns_then slots slots_then inquiries inquiries_then → IsStep known who input greatest down owns owns_then slots slots_then inquiries inquiries_then
  step_met node is met = record {
    meets = λ other is_other. let same : node ≡ other = (let h = sym is ∙ is_other in cc) in subst (λ (n : ℕ). Meets known n owns owns_then slots slots_then inquiries inquiries_then) same met;
    serves = λ served_now. absurd (no_sync node is served_now);
    still = λ none left. absurd (none node is);
  }

  pub step_served : ((node : ℕ) → who ≡ Node node → ⊥) → (is_sync who input && all_up down) ≡ true → owns_then ≡ owns → Serves known greatest slots slots_then inquiries inquiries_then → IsStep known who input greatest down owns owns_then slots slots_then inquiries inquiries_then
  step_served none served_now same served = record {
    meets = λ node is. absurd (none node is);
    serves = λ also. (same, served);
    still = λ other left. absurd (let h = sym served_now ∙ left in cc);
  }

  pub step_still : ((node : ℕ) → who ≡ Node node → ⊥) → (is_sync who input && all_up down) ≡ false → owns_then ≡ owns → slots_then ≡ slots → inquiries_then ≡ inquiries → IsStep known who input greatest down owns owns_then slots slots_then inquiries inquiries_then
  step_still none left owned out asked = record {
    meets = λ node is. absurd (none node is);
    serves = λ served_now. absurd (let h = sym served_now ∙ left in cc);
    still = λ other also. (owned, out, asked);
  }
