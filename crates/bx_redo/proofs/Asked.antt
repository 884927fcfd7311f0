-- What a log asks for.
use Rattle.std.proofs.Common.{◌≡◌, ℕ, ◌/◌, [], ◌∷◌, length, arith, ap, refl}
use Rattle.std.specs.Prelude.{◌≢◌}
use Rattle.std.proofs.lemmas.List.{length-replicate}
use Rattle.bx_redo.specs.View.{LogView}
use Rattle.bx_redo.specs.Steps.{shut_text, writes}
use Rattle.bx_redo.specs.Stands.{bytes_of, run_of, sectors_of}
use Rattle.bx_redo.specs.declared.work.Work.{Work}
use Rattle.bx_redo.specs.declared.work.Work.TheVariants.{Idle, Body, Opens, Closes, Shuts}

pub one_asked : (log : LogView) (work : Work) → work ≢ Idle → (writes log work).1 ≡ run_of log work ∷ []
one_asked log Idle some = absurd (some refl)
one_asked log (Body text point) some = refl
one_asked log (Opens point) some = refl
one_asked log Closes some = ap (λ (n : ℕ). (record { device = log.device; place = n; bytes = bytes_of Closes } ∷ [])) (omega arith)
one_asked log Shuts some = refl

pub as_many : (work : Work) → length (bytes_of work) / 512 ≡ sectors_of work
unfolding shut_text
as_many Idle = refl
as_many (Body text point) = refl
as_many (Opens point) = refl
as_many Closes = omega (arith, length-replicate {A = ℕ} 512 0)
as_many Shuts = omega (arith, length-replicate {A = ℕ} 3584 0)
