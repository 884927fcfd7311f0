use Rattle.std.proofs.Common.{◌≡◌, replicate}
use Rattle.bx_global.specs.Opening.{first_device}
use Rattle.bx_global_laws.proofs.begin.first_devices.Given as goal

abbrev pub invariant-loop : goal.invariant-loop
invariant-loop l = l.rows ≡ replicate l.counter first_device
