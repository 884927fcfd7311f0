-- What an event of a machine makes of a store on one machine.
use Rattle.std.specs.Prelude.{◌≡◌, ◌≢◌, ℕ, ◌<◌, Bool, true, false, ◌&&◌, List, length, Option, Some, None, IsSome}
use Rattle.bx_base.specs.declared.names.Actor.{Actor}
use Rattle.bx_base.specs.declared.names.Actor.TheVariants.{Node}
use Rattle.bx_global.specs.declared.state.GlobalState.{GlobalState}
use Rattle.bx_facts.specs.declared.input.Input.{Input}
use Rattle.bx_facts.specs.Chains.{any_session_of}
use Rattle.bx_facts.specs.Writes.{Asked, IsOver}
use Rattle.bx_plain_store.specs.declared.writes.Write.{Write}
use Rattle.bx_plain_store.specs.Out.{at, sent_of}
use Rattle.bx_plain_store.specs.declared.inquiries.Inquiry.{Inquiry}
use Rattle.bx_plain_store.specs.Parts.{answer_at, asked_at}
use Rattle.bx_plain_store.specs.Waiting.{all_up, is_sync}

-- A node has the session of the state; what it had out of another is forgotten, and all else is as it was.
pub record Meets (known : GlobalState) (node : ℕ) (owns owns_then : List (Option ℕ)) (slots slots_then : List (Option Write)) (inquiries inquiries_then : List (Option Inquiry)) : Type 0 where
  pub own : at owns_then node ≡ any_session_of known node
  pub another : at owns node ≢ any_session_of known node → (at slots_then node ≡ None) × (at inquiries_then node ≡ None)
  pub same : at owns node ≡ any_session_of known node → (at slots_then node ≡ at slots node) × (at inquiries_then node ≡ at inquiries node)
  pub others : (other : ℕ) → other ≢ node → (at owns_then other ≡ at owns other) × (at slots_then other ≡ at slots other) × (at inquiries_then other ≡ at inquiries other)

-- A write that isn't over is written where it wasn't yet, and else it is out no more; one that is over waits. Each read of a device that is there
-- is answered.
pub record Serves (known : GlobalState) (greatest : ℕ) (slots slots_then : List (Option Write)) (inquiries inquiries_then : List (Option Inquiry)) : Type 0 where
  pub first : (node : ℕ) (write : Write) → at slots node ≡ Some write → (IsOver greatest (sent_of write) → ⊥) → write.is_written ≡ false → at slots_then node ≡ Some (record write { is_written = true })
  pub second : (node : ℕ) (write : Write) → at slots node ≡ Some write → (IsOver greatest (sent_of write) → ⊥) → write.is_written ≡ true → at slots_then node ≡ None
  pub over : (node : ℕ) (write : Write) → at slots node ≡ Some write → IsOver greatest (sent_of write) → at slots_then node ≡ Some write
  pub asks : (node : ℕ) → asked_at inquiries_then node ≡ asked_at inquiries node
  pub answered : (node : ℕ) (asks : Asked) → asked_at inquiries node ≡ Some asks → asks.device < length known.devices → IsSome (answer_at inquiries_then node)

-- A node meets its session. The sync of a member serves all nodes, while all members are up. Else nothing changes.
pub record IsStep (known : GlobalState) (who : Actor) (input : Input) (greatest : ℕ) (down : List Bool) (owns owns_then : List (Option ℕ)) (slots slots_then : List (Option Write)) (inquiries inquiries_then : List (Option Inquiry)) : Type 0 where
  pub meets : (node : ℕ) → who ≡ Node node → Meets known node owns owns_then slots slots_then inquiries inquiries_then
  pub serves : (is_sync who input && all_up down) ≡ true → (owns_then ≡ owns) × Serves known greatest slots slots_then inquiries inquiries_then
  pub still : ((node : ℕ) → who ≢ Node node) → (is_sync who input && all_up down) ≡ false → (owns_then ≡ owns) × (slots_then ≡ slots) × (inquiries_then ≡ inquiries)
