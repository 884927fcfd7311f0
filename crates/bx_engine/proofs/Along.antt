-- What holds along a path holds along a wider one.
use Rattle.std.proofs.Common.{ℕ}
use Rattle.bx_base.specs.declared.names.Mode.{Mode}
use Rattle.bx_views.specs.declared.attempt.Attempt.{Attempt}
use Rattle.bx_views.specs.declared.attempt.Attempt.TheVariants.{Need, Change, Inner, Answer}
use Rattle.bx_views.specs.Attempts.{IsFair}
use Rattle.bx_views.specs.Truths.{Held}

module _ (Path Wider : ℕ → Mode → Type 0) (wider : (at : ℕ) (mode : Mode) → Path at mode → Wider at mode) where
  pub fair_along : (areas : ℕ) (held : Held) (attempt : Attempt) → IsFair areas held Path attempt → IsFair areas held Wider attempt
  fair_along areas held (Need wants) fair = record {
    some = fair.some;
    each = λ at mode there. let lacks = fair.each at mode there in (lacks.0, lacks.1, wider at mode lacks.2);
  }
  fair_along areas held (Change draft acted) fair = fair
  fair_along areas held (Inner draft) fair = fair
  fair_along areas held (Answer acted) fair = fair
