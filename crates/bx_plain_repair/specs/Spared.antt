-- What a recovery of the log in slot 0 leaves alone, on a volume of one device and one area.
use Rattle.std.specs.Prelude.{ℕ, ◌<◌, ◌≤◌, List}
use Rattle.bx_disk.specs.Disks.{Disks}
use Rattle.bx_facts.specs.Writes.{IsSettled}
use Rattle.bx_global.specs.declared.state.GlobalState.{GlobalState}
use Rattle.bx_places.specs.Places.{log_start}
use Rattle.bx_plain_store.specs.Out.{KeepsReplicas}

-- What is settled in the other log slots stays so. The disks of replicas are kept.
pub record SparesOthers (old new : Disks) : Type 0 where
  pub slots : (s : GlobalState) (sector : ℕ) (content : List ℕ) → log_start 1 ≤ sector → sector < log_start 8 → IsSettled old s 0 sector content → IsSettled new s 0 sector content
  pub replicas : KeepsReplicas old new
