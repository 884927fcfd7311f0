-- What a store on one machine has of each node, and of which shape it is.
use Rattle.std.specs.Prelude.{◌≡◌, ℕ, ◌+◌, ◌-◌, ◌*◌, ◌<◌, ◌≤◌, Bool, List, Contains, length, Option, Some, None, slice_index}
use Rattle.bx_disk.specs.Disks.{Disks, sector_of}
use Rattle.bx_global.specs.declared.state.GlobalState.{GlobalState}
use Rattle.bx_records.specs.declared.runs.Run.{Run}
use Rattle.bx_facts.specs.Writes.{Asked, IsRun, IsSettled, Made, Sent, store_room}
use Rattle.bx_plain_store.specs.declared.reads.Ask.{Ask}
use Rattle.bx_plain_store.specs.declared.writes.Write.{Write}
use Rattle.bx_plain_store.specs.Out.{at, out_at}
use Rattle.bx_plain_store.specs.declared.inquiries.Inquiry.{Inquiry}

-- what a store is made for
abbrev pub made_of : ℕ → ℕ → ℕ → ℕ → Made
made_of volume nodes devices areas = record { volume = volume; nodes = nodes; devices = devices; areas = areas }

-- a read, as others see it
abbrev pub asked_of : Ask → Asked
asked_of ask = record { device = ask.device; place = ask.place; count = ask.count }

-- the read of an inquiry, and its answer
abbrev pub asked_in : Option Inquiry → Option Asked
asked_in None = None
asked_in (Some inquiry) = Some (asked_of inquiry.ask)

abbrev pub answer_in : Option Inquiry → Option (List ℕ)
answer_in None = None
answer_in (Some inquiry) = inquiry.answer

-- those of a node
abbrev pub asked_at : List (Option Inquiry) → ℕ → Option Asked
asked_at inquiries node = asked_in (at inquiries node)

abbrev pub answer_at : List (Option Inquiry) → ℕ → Option (List ℕ)
answer_at inquiries node = answer_in (at inquiries node)

-- The read lies in a device.
pub record IsAsk (made : Made) (asks : Asked) : Type 0 where
  pub device : asks.device < made.devices
  pub within : asks.place + asks.count ≤ store_room made

-- Both disks of its device have what it reads.
pub record IsReadable (sizes : List ℕ) (ask : Ask) : Type 0 where
  pub disk : 4 + 2 * ask.device < length sizes
  pub first : ask.place + ask.count ≤ slice_index sizes (3 + 2 * ask.device)
  pub second : ask.place + ask.count ≤ slice_index sizes (4 + 2 * ask.device)

-- The read is the same, an answer stays, and one that came has what was settled.
pub record IsAnswered (x : Disks) (s : GlobalState) (old new : Option Inquiry) : Type 0 where
  pub asks : asked_in new ≡ asked_in old
  pub kept : (bytes : List ℕ) → answer_in old ≡ Some bytes → answer_in new ≡ Some bytes
  pub came : (asks : Asked) (bytes : List ℕ) (sector : ℕ) (content : List ℕ) → asked_in old ≡ Some asks → answer_in old ≡ None → answer_in new ≡ Some bytes
      → IsSettled x s asks.device sector content → asks.place ≤ sector → sector < asks.place + asks.count → sector_of bytes (sector - asks.place) ≡ content

-- The parts have the shape of a store that is made so: one place for each node, one for each member, and all writes and reads lie in devices.
pub record IsShape (made : Made) (owns : List (Option ℕ)) (slots : List (Option Write)) (inquiries : List (Option Inquiry)) (down : List Bool) : Type 0 where
  pub least_devices : 1 ≤ made.devices
  pub most_devices : made.devices ≤ 4
  pub least_areas : 1 ≤ made.areas
  pub most_areas : made.areas ≤ 64
  pub owns_long : length owns ≡ made.nodes
  pub slots_long : length slots ≡ made.nodes
  pub inquiries_long : length inquiries ≡ made.nodes
  pub down_long : length down ≡ 2 * made.devices
  pub runs : (node : ℕ) (sent : Sent) (run : Run) → out_at slots node ≡ Some sent → Contains sent.runs run → IsRun made run
  pub asks : (node : ℕ) (asks : Asked) → asked_at inquiries node ≡ Some asks → IsAsk made asks
