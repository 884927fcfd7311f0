use Rattle.std.proofs.Common.{◌≡◌, ℕ, ◌<◌, Ok}
use Rattle.bx_layout.specs.declared.label.Label.{Label}
use Rattle.bx_volume.specs.Images.{IsOwnLabel}
use Rattle.bx_disk.specs.Kept.{Faults}
use Rattle.bx_homes.proofs.labels.first_label.Given as goal

abbrev pub invariant-loop-disk : goal.invariant-loop-disk
invariant-loop-disk g l = record {
  stays : g.R.Rack.state l.rack ≡ g.R.Rack.state l.fn.rack;
  rack : Faults {A = Unit {0}} g.R.Rack l.fn.rack l.rack (Ok tt);
  none : g.R.Rack.tells l.fn.rack → (disk : ℕ) (label : Label) → disk < l.disk → IsOwnLabel (g.R.Rack.state l.fn.rack).sizes (g.R.Rack.state l.fn.rack).reads disk label → ⊥;
}
