-- The cells to begin with.
use Rattle.std.proofs.Common.{◌≡◌, ℕ, ◌+◌, refl, sym, ap, ◌∙◌, inl, arith}
use Rattle.std.specs.Prelude.{Option, Some}
use Rattle.bx_answers.specs.Handling.{caught_up}
use Rattle.bx_global.specs.declared.held.Held.{Held}
use Rattle.bx_global.specs.declared.state.GlobalState.{GlobalState}
use Rattle.bx_agreement.specs.Cells.{KnowsFirst, opening}
use Rattle.bx_agreement.specs.Sound.{IsSound}

pub begins : (found : ℕ) (first : GlobalState) (cells : ℕ → Option Held) → ((n : ℕ) (held : Held) → cells n ≡ Some held → KnowsFirst first held) → IsSound (opening found first) cells
begins found first cells each = record {
  cell = λ n held e. let k = each n held e in record {
    index = k.index ∙ ap (λ (x : GlobalState). x.index + 1) (sym k.decided);
    place = k.decided;
    accepted = λ flag. absurd (omega (arith, flag, k.flag));
    votes = λ b s voted. absurd voted.is;
    promises = λ p has. absurd has.is;
  };
  silent = λ n b voted. absurd voted.is;
  voted = λ n b voted. absurd voted.is;
  promises = λ p has. absurd has.is;
  single = λ b s t proposed. absurd proposed.is;
  backed = λ b s proposed. absurd proposed.is;
  next = λ b s proposed. absurd proposed.is;
  safe = λ b c s t proposed. absurd proposed.is;
  changes = λ p sent. absurd sent.is;
  legal = tt;
  chosen = λ s place. inl place;
}

-- what was found catches up with the first state
pub found_knows : (first : GlobalState) (held : Held) → KnowsFirst first (caught_up first held)
found_knows first held = record { index = refl; decided = refl; flag = refl }
