use Rattle.std.proofs.Common.{List, ◌++◌, map, ap, sym}
use Rattle.std.proofs.lemmas.List.{append-nil}
use Rattle.bx_cluster.specs.Steps.{part_at}
use Rattle.bx_driver.specs.Steps.{EventStep}
use Rattle.bx_history.specs.Parts.{Part}
use Rattle.bx_schedule.proofs.laws.parts_stand_apart.Goals as goal

pub returns : goal.returns
returns c = λ steps parts. ap (λ (l : List Part). l ++ parts) (sym (append-nil (map (λ (step : EventStep). part_at step.event step.outcome) steps)))
