-- What nodes tell of the calls that wait.
use Rattle.std.specs.Prelude.{ℕ, ◌==◌, Bool, false, List, Option, None, Some}
use Rattle.std.specs.List.{list_any}
use Rattle.bx_node_steps.specs.Calls.{call_written}
use Rattle.bx_node_steps.specs.declared.machine.Machine.{Machine}
use Rattle.bx_node_tries.specs.declared.round.Waiting.{Waiting}

-- whether this is the call with a number
abbrev pub is_of : ℕ → Option Waiting → Bool
is_of number None = false
is_of number (Some call) = call.number == number

-- the call with a number lacks its point: some node writes its record
abbrev pub lacks_in : List Machine → ℕ → Bool
lacks_in machines number = list_any (λ machine. is_of number (call_written machine.stage)) machines
