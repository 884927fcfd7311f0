-- What a course has of calls in records whose gates may be open, and in logs, by what the nodes have under way.
use Rattle.std.specs.Prelude.{◌≡◌, ◌⊎◌, ℕ, ◌≤◌, true, List, Contains, Option, Some}
use Rattle.bx_facts.specs.Chains.{last}
use Rattle.bx_global.specs.bx_rows.specs.Words.{row_in}
use Rattle.bx_global.specs.bx_rows.specs.declared.session.SessionRow.{SessionRow}
use Rattle.bx_node_calls.specs.Turns.{acting_at, session_at}
use Rattle.bx_node_steps.specs.Calls.{Acting, IsAnswered}
use Rattle.bx_node_steps.specs.declared.machine.Machine.{Machine}
use Rattle.bx_node_tries.specs.declared.round.Said.{Said}
use Rattle.bx_facts.specs.declared.owners.Owners as owners
use Rattle.bx_node_calls.specs.bx_nodes.specs.Turns.{IsOldOrTold}
use Rattle.bx_node_calls.specs.bx_nodes.specs.declared.nodes.Nodes.{Nodes}
use Rattle.bx_views.specs.Attempts.{Deed}
use Rattle.bx_world_machines.specs.Acts.{MayActAt, OpensAt}
use Rattle.bx_world_standing.specs.Standing.{Course}
use Rattle.bx_world_standing.specs.bx_volume.specs.Records.{Logged}
use Rattle.bx_world_standing.specs.bx_world_logs.specs.Logs.{Slot, opens}
use Rattle.bx_world_standing.specs.bx_world_views.specs.Views.{Unacknowledged, OfCall}

-- a session's record in doubt is of this call, and its gate may be open: it was sent
pub record MayBeOpen (rows : List SessionRow) (slots : ℕ → Slot) (doubts : ℕ → Option Unacknowledged) (session : ℕ) (doubt : Unacknowledged) (deed : Deed) : Type 0 where
  pub row : SessionRow
  pub has_row : row_in rows session ≡ Some row
  pub sent : opens (slots row.slot).activity ≡ true
  pub is : doubts session ≡ Some doubt
  pub act : doubt.act ≡ OfCall deed

-- so it is by a course
abbrev pub IsOpenIn : Course → ℕ → Unacknowledged → Deed → Type 0
IsOpenIn c = MayBeOpen (last c.register.chain).sessions c.slots c.doubts

-- A call in doubt came, and may act no more. Where a node still writes its record, that is the session's under which the node has what it has. No two records in doubt are of one call.
pub record AreInDoubt (latest : ℕ) (machines : List Machine) (c : Course) : Type 0 where
  pub came : (session : ℕ) (doubt : Unacknowledged) (deed : Deed) → IsOpenIn c session doubt deed → doubt.call ≤ latest
  pub over : (session node : ℕ) (doubt : Unacknowledged) (deed : Deed) → IsOpenIn c session doubt deed → MayActAt machines node doubt.call → ⊥
  pub opening : (session node : ℕ) (doubt : Unacknowledged) (deed : Deed) → IsOpenIn c session doubt deed → OpensAt machines node doubt.call → session_at machines node ≡ Some (Some session)
  pub once : (session other : ℕ) (doubt twin : Unacknowledged) (deed act : Deed) → IsOpenIn c session doubt deed → IsOpenIn c other twin act → twin.call ≡ doubt.call → other ≡ session

-- A record in doubt is that which some node writes: of the call that acts there, at its point.
pub record IsOfActing (machines : List Machine) (doubt : Unacknowledged) (deed : Deed) : Type 0 where
  pub node : ℕ
  pub acts : Acting
  pub is : acting_at machines node ≡ Some acts
  pub call : doubt.call ≡ acts.call.number
  pub client : deed.client ≡ acts.call.client
  pub bytes : deed.call ≡ acts.call.bytes
  pub moment : deed.moment ≡ acts.point.moment

-- From the one course to the other: a record whose gate may be open then is one whose gate might be before, and its call isn't answered; or one that a node writes then. A record of a log
-- was in it before, or is of a call that is answered, or of none.
pub record DoubtsGo (said : List Said) (machines : List Machine) (old new : Course) : Type 0 where
  pub doubted : (session : ℕ) (doubt : Unacknowledged) (deed : Deed) → IsOpenIn new session doubt deed → (IsOpenIn old session doubt deed × (IsAnswered said doubt.call → ⊥)) ⊎ IsOfActing machines doubt deed
  pub logged : (slot : ℕ) (one : Logged) → Contains (new.logs slot) one → IsOldOrTold old.logs said slot one

-- A node has what it has under this session, which owners know as its own.
abbrev pub IsUsed : {G O S E T : Type 0} → owners.Ghosts O → Nodes G O S E T → ℕ → ℕ → Type 0
IsUsed o nodes node session = (o.own nodes.owners node ≡ Some session) × (session_at nodes.machines.items node ≡ Some (Some session))
