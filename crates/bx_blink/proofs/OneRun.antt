-- A run has one end.
use Rattle.std.proofs.Common.{◌≡◌, ℕ, zero, suc, List, sym, subst, ◌∙◌}
use Rattle.bx_base.specs.declared.names.Mode.TheVariants.{Shared}
use Rattle.bx_blink.specs.declared.steps.Spot.{Spot}
use Rattle.bx_blink.specs.declared.steps.Found.{Found}
use Rattle.bx_blink.specs.declared.runs.RunEnd.{RunEnd}
use Rattle.bx_blink.specs.declared.runs.Turn.{Turn}
use Rattle.bx_blink.specs.declared.runs.Turn.TheVariants.{Moves, Rests}
use Rattle.bx_blink.specs.Walks.{Reads, decide}
use Rattle.bx_blink.specs.Runs.{follow, Turns, Runs}
use Rattle.bx_blink.proofs.OneEnd.{one_found}

pub one_run : (reads : Reads) (key : List ℕ) (n : ℕ) (spot : Spot) (a b : RunEnd) → Runs reads n key spot a → Runs reads n key spot b → a ≡ b
unfolding Runs
one_run reads key zero spot a b x y = x ∙ sym y
one_run reads key (suc n) spot a b x y =
    let same : x.0 ≡ y.0 = one_found reads 0 Shared key spot x.0 y.0 x.1 y.1 in
    by_turn (follow key (decide 0 Shared key spot x.0)) x.2 (subst (λ (f : Found). Turns (λ k s. Runs reads n k s b) b (follow key (decide 0 Shared key spot f))) (sym same) y.2) (λ other next. one_run reads other n next a b)
  where
    by_turn : (t : Turn) → Turns (λ k s. Runs reads n k s a) a t → Turns (λ k s. Runs reads n k s b) b t
        → ((other : List ℕ) (next : Spot) → Runs reads n other next a → Runs reads n other next b → a ≡ b) → a ≡ b
    by_turn (Moves other next) f g rest = rest other next f g
    by_turn (Rests here) f g rest = f ∙ sym g
