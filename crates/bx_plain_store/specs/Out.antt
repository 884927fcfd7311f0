-- Writes that are out, and how they lie on the disks of members.
use Rattle.std.specs.Prelude.{◌≡◌, ◌≢◌, ◌⊎◌, ℕ, zero, suc, [], ◌∷◌, ◌+◌, ◌*◌, ◌/◌, ◌%◌, ◌<◌, ◌≤◌, Bool, List, Contains, length, Option, Some, None, option_map, slice_get, slice_index}
use Rattle.bx_disk.specs.Disks.{Disks}
use Rattle.bx_facts.specs.Disks.{IsKept}
use Rattle.bx_facts.specs.Writes.{IsOnly, IsOver, Sent, Writes, WritesTo, member_disk}
use Rattle.bx_records.specs.declared.runs.Run.{Run}
use Rattle.bx_plain_store.specs.declared.writes.Write.{Write}

-- A run of whole sectors, which lies on both disks of one of so many devices.
pub record IsFitting (devices : ℕ) (sizes : List ℕ) (run : Run) : Type 0 where
  pub device : run.device < devices
  pub disk : 4 + 2 * run.device < length sizes
  pub whole : length run.bytes % 512 ≡ 0
  pub first : run.place + length run.bytes / 512 ≤ slice_index sizes (3 + 2 * run.device)
  pub second : run.place + length run.bytes / 512 ≤ slice_index sizes (4 + 2 * run.device)

-- The write is one of these, isn't over, and nothing else is brought to its sectors.
pub record IsAlone (writes : List Sent) (greatest : ℕ) (write : Sent) : Type 0 where
  pub there : Contains writes write
  pub not_over : IsOver greatest write → ⊥
  pub only : (device sector : ℕ) (content : List ℕ) → WritesTo write device sector content → IsOnly writes greatest device sector content

-- Both members read as the first so many of the runs.
pub record AreWritten (x : Disks) (runs : List Run) (count : ℕ) : Type 0 where
  pub each : (j : ℕ) (run : Run) (device sector : ℕ) (content : List ℕ) (second : Bool) → j < count → slice_get runs j ≡ Some run → Writes run device sector content
      → x.reads (member_disk device second) sector ≡ content

-- a write, as others see it
abbrev pub sent_of : Write → Sent
sent_of write = record { session = write.session; until = write.until; runs = write.runs }

-- the write that is out
abbrev pub out_in : Option Write → Option Sent
out_in slot = option_map sent_of slot

-- A write that is out is alone, if it isn't over.
pub record IsFree (writes : List Sent) (greatest : ℕ) (slot : Option Write) : Type 0 where
  pub alone : (write : Write) → slot ≡ Some write → (IsOver greatest (sent_of write) → ⊥) → IsAlone writes greatest (sent_of write)

-- what a list has for a node
abbrev pub at : {X : Type 0} → List (Option X) → ℕ → Option X
at [] node = None
at (x ∷ xs) zero = x
at (x ∷ xs) (suc node) = at xs node

abbrev pub out_at : List (Option Write) → ℕ → Option Sent
out_at slots node = out_in (at slots node)

-- the writes that are out
abbrev pub outs : List (Option Write) → List Sent
outs [] = []
outs (None ∷ slots) = outs slots
outs (Some write ∷ slots) = sent_of write ∷ outs slots

-- Two nodes' writes have a sector in common only if one is over, and no write brings two contents to a sector.
pub record AreApart (greatest : ℕ) (slots : List (Option Write)) : Type 0 where
  pub nodes : (node other : ℕ) (w v : Sent) (device sector : ℕ) (content also : List ℕ) → node ≢ other → out_at slots node ≡ Some w → out_at slots other ≡ Some v
      → WritesTo w device sector content → WritesTo v device sector also → IsOver greatest w ⊎ IsOver greatest v
  pub once : (node : ℕ) (w : Sent) (device sector : ℕ) (content also : List ℕ) → out_at slots node ≡ Some w → WritesTo w device sector content → WritesTo w device sector also → also ≡ content

-- The disks of replicas are kept.
pub record KeepsReplicas (old new : Disks) : Type 0 where
  pub each : (d sector : ℕ) → d < 3 → IsKept old new d sector
