-- What a node sends: the body of a record that begins, and what its log asks for next.
use Rattle.std.specs.Prelude.{◌≡◌, ℕ, Option, Some, None}
use Rattle.bx_facts.specs.Writes.{Sent}
use Rattle.bx_node_cache.specs.Kept.{held_in, hint_in}
use Rattle.bx_node_machines.specs.Machines.{act_of}
use Rattle.bx_node_steps.specs.Logging.{Begins, IsRecordingOf, LogGoes}
use Rattle.bx_node_steps.specs.Seen.{replying}
use Rattle.bx_node_steps.specs.declared.machine.Machine.{Machine}
use Rattle.bx_node_steps.specs.declared.recording.Recording.{Recording}
use Rattle.bx_node_tries.specs.declared.round.Begun.{Begun}
use Rattle.bx_node_tries.specs.declared.round.Said.{Said}
use Rattle.bx_records.specs.Runs.{KindAndRuns}
use Rattle.bx_views.specs.Truths.{IsTruth, Truth}
use Rattle.bx_views.specs.declared.engine.Engine as engine
use Rattle.bx_world_views.specs.Views.{Works}

-- A write is out that was sent of the node's session, until then; or none is.
abbrev pub IsSentBy : Option ℕ → ℕ → Option KindAndRuns → Option Sent → Type 0
IsSentBy own until None out = out ≡ None
IsSentBy own until (Some runs) out = (session : ℕ) → own ≡ Some session → out ≡ Some (record { session = session; until = until; runs = runs.1 })

-- A record begins, and its body is sent.
pub record SendsBody (recording : Recording) (own : Option ℕ) (until : ℕ) (out : Option Sent) (old new : Machine) : Type 0 where
  pub runs : KindAndRuns
  pub begins : Begins recording old new runs
  pub sent : IsSentBy own until (Some runs) out

-- A call begins a record at a moment, and its body is sent.
pub record BeginsBy (moment : ℕ) (begun : Begun) (own : Option ℕ) (until : ℕ) (out : Option Sent) (old new : Machine) : Type 0 where
  pub recording : Recording
  pub asks : IsRecordingOf moment begun.call begun.attempt recording
  pub sends : SendsBody recording own until out old new

-- A record does what it says over each truth that what a machine holds is of: its call's step, or nothing that the tree shows.
abbrev pub WorksOver : {E T : Type 0} → engine.Ghosts E T → E → Recording → Machine → Type 0
WorksOver {T = T} e engine_is recording machine = (truth : Truth) (tree : T) → IsTruth (held_in machine.cache.kept) truth → e.stands engine_is truth (hint_in machine.cache.hinted) tree
    → Works (e.stands engine_is) (e.step engine_is) (act_of (replying recording.pending.call) recording.point) recording.pending.draft truth tree

-- The log goes on where no write is out, and what it asks for is sent; else nothing happens.
abbrev pub StepsLog : Option ℕ → ℕ → Option Sent → Option Sent → Machine → Machine → Option Said → Type 0
StepsLog own until None out_then old new said = (runs : Option KindAndRuns) × LogGoes old new runs said × IsSentBy own until runs out_then
StepsLog own until (Some write) out_then old new said = (new ≡ old) × (said ≡ None) × (out_then ≡ Some write)
