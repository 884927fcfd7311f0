-- What becomes of a node that meets another session.
use Rattle.std.specs.Prelude.{◌≡◌, ◌≢◌, ℕ, Bool, Option, Some, None}
use Rattle.bx_global.specs.declared.state.GlobalState.{GlobalState}
use Rattle.bx_node_steps.specs.Anew.{BeginsAnew}
use Rattle.bx_node_steps.specs.declared.machine.Machine.{Machine}
use Rattle.bx_rows.specs.Words.{row_in}
use Rattle.bx_rows.specs.declared.session.SessionRow.{SessionRow}

-- the row of a node's own session, in a state
abbrev pub own_row : Option ℕ → GlobalState → Option SessionRow
own_row None s = None
own_row (Some session) s = row_in s.sessions session

-- A node goes on under the session that it has what it has under, where that is its own; else it begins anew under its own, by the row of that in the
-- state that it knows, while a read of it is out or not.
pub data Renews (own : Option ℕ) (known : GlobalState) (reads : Bool) (old new : Machine) : Type 0 where
  Stays : old.session ≡ own → new ≡ old → Renews own known reads old new
  Anew : old.session ≢ own → BeginsAnew (own_row own known) reads old new → Renews own known reads old new
