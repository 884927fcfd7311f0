-- How a `check` ends, by its exit status.
use Rattle.std.specs.Prelude.{◌≡◌, ◌≢◌, ◌⊎◌, ℕ, [], ◌∷◌, ◌++◌}
use Rattle.bx_rack_commands.specs.bx_audit.specs.declared.listing.Listing.{Listing}
use Rattle.bx_base.specs.Faults.{Rose}
use Rattle.bx_disk.specs.declared.rack.Rack as racks
use Rattle.bx_model.specs.declared.tree.Tree.{Tree}
use Rattle.bx_model.specs.Listing.{listing}
use Rattle.bx_outside.specs.declared.sink.Sink as sinks
use Rattle.bx_rack_commands.specs.bx_rack_audit.specs.Alone.{IsListedAlone, StandAlone}
use Rattle.bx_rack_commands.specs.Checks.{AreRefused, IsPart}
use Rattle.bx_rack_commands.specs.declared.failure.Refusal.{Refusal}
use Rattle.bx_statuses.specs.Report.{IsAmong, IsTold, refusal_line}

-- The listing of the file tree that the rack holds was to be written to the output.
pub record CheckEnds {R K : Type 0} (rack : racks.Ghosts R) (sink : sinks.Ghosts K) (old new : R) (out out_new err err_new : K) (status : ℕ) : Type 0 where
  pub among : IsAmong (0 ∷ 4 ∷ 5 ∷ 7 ∷ 9 ∷ []) status
  -- done: the output has the listing of what the disks stand for, in the state that their cells tell
  pub listed : status ≡ 0 → rack.tells old → (listed : Listing) × IsListedAlone (rack.state old) listed × (sink.tells out → sink.written out_new ≡ sink.written out ++ listed.text)
  pub stands : status ≡ 0 → rack.tells old → sink.tells out → (tree : Tree) → StandAlone (rack.state old) tree → sink.written out_new ≡ sink.written out ++ listing tree
  -- the disks are refused, for this reason, and stand for no file tree
  pub refused : status ≡ 7 → (refusal : Refusal) × (rack.tells old → AreRefused (rack.state old) refusal)
      × (sink.tells err → IsTold (sink.written err) (sink.written err_new) (sink.faults err) (sink.faults err_new) (refusal_line refusal))
  -- disks that stand for a file tree are never refused, and all others are, unless a fault or want of memory comes before
  pub complete : rack.tells old → (tree : Tree) → StandAlone (rack.state old) tree
      → (Rose (rack.faults old) (rack.faults new) → ⊥) → (Rose (sink.faults out) (sink.faults out_new) → ⊥) → (status ≡ 0) ⊎ (status ≡ 9)
  pub refuses : rack.tells old → ((tree : Tree) → StandAlone (rack.state old) tree → ⊥)
      → (Rose (rack.faults old) (rack.faults new) → ⊥) → (Rose (sink.faults out) (sink.faults out_new) → ⊥) → (status ≡ 7) ⊎ (status ≡ 9)
  -- a fault of the rack or of the output gives its status and no other
  pub disk_fault : status ≡ 5 → Rose (rack.faults old) (rack.faults new)
  pub disk_first : status ≢ 5 → rack.faults new ≡ rack.faults old
  pub write_fault : status ≡ 4 → Rose (sink.faults out) (sink.faults out_new)
  pub sink_first : status ≢ 4 → sink.faults out_new ≡ sink.faults out
  -- what stops short left a part of the listing where the output failed, and nothing else
  pub part : status ≡ 4 → rack.tells old → sink.tells out → IsPart (rack.state old) (sink.written out) (sink.written out_new)
  pub nothing : (status ≡ 5) ⊎ ((status ≡ 7) ⊎ (status ≡ 9)) → rack.tells old → sink.tells out → sink.written out_new ≡ sink.written out
  -- the disks stay as they were
  pub stays : rack.state new ≡ rack.state old
  pub keeps_telling : rack.tells old → rack.tells new
