use Rattle.std.proofs.Common.{◌≡◌, ℕ, ◌<◌, Ok}
use Rattle.bx_disk.specs.Kept.{Faults}
use Rattle.bx_facts.specs.Labelled.{IsOwnLabel}
use Rattle.bx_layout.specs.declared.label.Label.{Label}
use Rattle.bx_paxos_found.proofs.labels.first_label.Given as goal

abbrev pub invariant-loop-replica : goal.invariant-loop-replica
invariant-loop-replica g l = record {
  stays : g.R.Rack.state l.rack ≡ g.R.Rack.state l.fn.rack;
  rack : Faults {A = Unit {0}} g.R.Rack l.fn.rack l.rack (Ok tt);
  none : g.R.Rack.tells l.fn.rack → (n : ℕ) (label : Label) → n < l.replica → IsOwnLabel (g.R.Rack.state l.fn.rack).sizes (g.R.Rack.state l.fn.rack).reads n label → ⊥;
}
