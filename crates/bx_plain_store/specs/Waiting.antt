-- What members wait for, and what is needed of their disks.
use Rattle.std.specs.Prelude.{ℕ, ◌+◌, ◌-◌, ◌*◌, Bool, true, false, not, ◌&&◌, ◌||◌, ◌==◌, nat_lt, List, [], ◌∷◌, Option, Some, None, is_some, length, if◌then◌else◌, slice_get}
use Rattle.std.specs.List.{list_all, list_any}
use Rattle.bx_base.specs.declared.names.Actor.{Actor}
use Rattle.bx_base.specs.declared.names.Actor.TheVariants.{Node, Replica, Server, Member}
use Rattle.bx_records.specs.declared.runs.Run.{Run}
use Rattle.bx_facts.specs.declared.input.Input.{Input}
use Rattle.bx_facts.specs.declared.input.Input.TheVariants.{Packet, Tick, Synced}
use Rattle.bx_facts.specs.Writes.{Made, store_room}
use Rattle.bx_plain_store.specs.declared.writes.Write.{Write}
use Rattle.bx_plain_store.specs.declared.inquiries.Inquiry.{Inquiry}

-- no member is down
abbrev pub all_up : List Bool → Bool
all_up down = list_all not down

-- the device of the first run, or the first device
abbrev pub first_device : List Run → ℕ
first_device [] = 0
first_device (run ∷ runs) = run.device

-- a write that isn't over waits for the first member of its first device; a read without an answer for that of its device
abbrev pub is_due : ℕ → ℕ → Option Write → Bool
is_due greatest member None = false
is_due greatest member (Some write) = not (nat_lt (write.until + 500) greatest) && (2 * first_device write.runs == member)

abbrev pub is_unanswered : ℕ → Option Inquiry → Bool
is_unanswered member None = false
is_unanswered member (Some inquiry) = not (is_some inquiry.answer) && (2 * inquiry.ask.device == member)

-- a machine owes an answer to a sync: a member of the store for which something waits, while all members are up
abbrev pub owes_in : ℕ → List (Option Write) → List (Option Inquiry) → List Bool → Actor → Bool
owes_in greatest slots inquiries down (Node n) = false
owes_in greatest slots inquiries down (Replica n) = false
owes_in greatest slots inquiries down (Server n) = false
owes_in greatest slots inquiries down (Member n) = nat_lt n (length down) && all_up down && (list_any (is_due greatest n) slots || list_any (is_unanswered n) inquiries)

-- a disk of a member has finished a sync
abbrev pub is_sync : Actor → Input → Bool
is_sync (Node n) input = false
is_sync (Replica n) input = false
is_sync (Server n) input = false
is_sync (Member n) (Packet packet reading) = false
is_sync (Member n) (Tick reading) = false
is_sync (Member n) Synced = true

-- so many sectors of a disk whose member is there and up
abbrev pub if_up : Option Bool → ℕ → ℕ
if_up None sectors = 0
if_up (Some true) sectors = 0
if_up (Some false) sectors = sectors

-- how many sectors are needed of a disk
abbrev pub needs_of : Made → List Bool → ℕ → ℕ
needs_of made down disk = if nat_lt disk 3 then 0 else if_up (slice_get down (disk - 3)) (store_room made)
