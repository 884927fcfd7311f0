-- What nodes and members of mirrored devices say, and the kind and the body of each. Of each number the highest byte comes first.
use Rattle.std.specs.Prelude.{◌≡◌, ℕ, ◌/◌, ◌%◌, ◌^◌, ◌<◌, ◌≤◌, List, [], ◌++◌, length}
use Rattle.std.specs.List.{AllByRecursion, flat_map}
use Rattle.std.specs.Int.{w32, w64, to_be_bytes}
use Rattle.bx_base.specs.declared.names.Actor.{Actor}
use Rattle.bx_post.specs.declared.packets.Letter.{Letter}
use Rattle.bx_records.specs.declared.runs.Run.{Run}
use Rattle.bx_rows.specs.Conditions.{Fits}
use Rattle.bx_rows.specs.Spelling.{pair_text}
use Rattle.bx_mirror_packets.specs.declared.message.WriteBody.{WriteBody}
use Rattle.bx_mirror_packets.specs.declared.message.WroteBody.{WroteBody}
use Rattle.bx_mirror_packets.specs.declared.message.ReadBody.{ReadBody}
use Rattle.bx_mirror_packets.specs.declared.message.DataBody.{DataBody}
use Rattle.bx_mirror_packets.specs.declared.message.CopyBody.{CopyBody}
use Rattle.bx_mirror_packets.specs.declared.message.CopiedBody.{CopiedBody}
use Rattle.bx_mirror_packets.specs.declared.message.DeviceMessage.{DeviceMessage}
use Rattle.bx_mirror_packets.specs.declared.message.DeviceMessage.TheVariants.{Write, Wrote, Read, Data, Copy, Copied, Alive}

-- ---- the conditions

-- on a run of a packet: it is on the packet's device, and of whole sectors, at least one
pub record IsRunOf (device : ℕ) (run : Run) : Type 0 where
  pub on : run.device ≡ device
  pub place : Fits run.place
  pub whole : length run.bytes % 512 ≡ 0
  pub some : 1 ≤ length run.bytes / 512
  pub count : length run.bytes / 512 < 2 ^ 32

-- on a write
pub record IsWriteBody (w : WriteBody) : Type 0 where
  pub least : 14 ≤ w.runs.0
  pub most : w.runs.0 ≤ 18
  pub session : Fits w.session
  pub device : w.device < 2 ^ 32
  pub epoch : Fits w.epoch
  pub sequence : Fits w.sequence
  pub until : Fits w.until
  pub count : length w.runs.1 < 2 ^ 32
  pub each : AllByRecursion (IsRunOf w.device) w.runs.1

-- on what else is said: its numbers fit their fields, and a piece of a copy has whole sectors
abbrev pub IsWroteBody : WroteBody → Type 0
IsWroteBody w = Fits w.session × (w.device < 2 ^ 32) × Fits w.epoch × Fits w.sequence

abbrev pub IsReadBody : ReadBody → Type 0
IsReadBody r = Fits r.session × (r.device < 2 ^ 32) × Fits r.epoch × Fits r.tag × Fits r.place × (r.sectors < 2 ^ 32)

abbrev pub IsDataBody : DataBody → Type 0
IsDataBody d = Fits d.session × (d.device < 2 ^ 32) × Fits d.epoch × Fits d.tag

abbrev pub IsCopyBody : CopyBody → Type 0
IsCopyBody c = (c.device < 2 ^ 32) × Fits c.epoch × Fits c.place × (length c.bytes % 512 ≡ 0)

abbrev pub IsCopiedBody : CopiedBody → Type 0
IsCopiedBody c = (c.device < 2 ^ 32) × Fits c.epoch × Fits c.place

abbrev pub IsDeviceMessage : DeviceMessage → Type 0
IsDeviceMessage (Write w) = IsWriteBody w
IsDeviceMessage (Wrote w) = IsWroteBody w
IsDeviceMessage (Read r) = IsReadBody r
IsDeviceMessage (Data d) = IsDataBody d
IsDeviceMessage (Copy c) = IsCopyBody c
IsDeviceMessage (Copied c) = IsCopiedBody c
IsDeviceMessage Alive = Unit {0}

-- ---- kinds and bodies

abbrev pub kind_of : DeviceMessage → ℕ
kind_of (Write w) = w.runs.0
kind_of (Wrote w) = 19
kind_of (Read r) = 20
kind_of (Data d) = 21
kind_of (Copy c) = 22
kind_of (Copied c) = 23
kind_of Alive = 24

-- what writes and reads and their answers begin with: a session, a device and its epoch, and the number of the write or the read
unfoldable pub head_text : ℕ → ℕ → ℕ → ℕ → List ℕ
head_text session device epoch number = to_be_bytes w64 session ++ (pair_text device epoch ++ to_be_bytes w64 number)

-- what pieces of copies begin with: a device and its epoch, and the piece's first sector
unfoldable pub piece_text : ℕ → ℕ → ℕ → List ℕ
piece_text device epoch place = pair_text device epoch ++ to_be_bytes w64 place

-- a run: its place, the number of its sectors, and the bytes
unfoldable pub run_text : Run → List ℕ
run_text run = to_be_bytes w64 run.place ++ (to_be_bytes w32 (length run.bytes / 512) ++ run.bytes)

-- how many runs there are, and the runs
unfoldable pub runs_text : List Run → List ℕ
runs_text runs = to_be_bytes w32 (length runs) ++ flat_map run_text runs

unfoldable pub write_text : WriteBody → List ℕ
write_text w = head_text w.session w.device w.epoch w.sequence ++ (to_be_bytes w64 w.until ++ runs_text w.runs.1)

abbrev pub wrote_text : WroteBody → List ℕ
wrote_text w = head_text w.session w.device w.epoch w.sequence

unfoldable pub read_text : ReadBody → List ℕ
read_text r = head_text r.session r.device r.epoch r.tag ++ (to_be_bytes w64 r.place ++ to_be_bytes w32 r.sectors)

unfoldable pub data_text : DataBody → List ℕ
data_text d = head_text d.session d.device d.epoch d.tag ++ d.bytes

unfoldable pub copy_text : CopyBody → List ℕ
copy_text c = piece_text c.device c.epoch c.place ++ c.bytes

abbrev pub copied_text : CopiedBody → List ℕ
copied_text c = piece_text c.device c.epoch c.place

abbrev pub body_text : DeviceMessage → List ℕ
body_text (Write w) = write_text w
body_text (Wrote w) = wrote_text w
body_text (Read r) = read_text r
body_text (Data d) = data_text d
body_text (Copy c) = copy_text c
body_text (Copied c) = copied_text c
body_text Alive = []

-- How many runs there are, and how many sectors in each, are numbers of four bytes.
abbrev pub HasSectors : Run → Type 0
HasSectors run = length run.bytes / 512 < 2 ^ 32

abbrev pub HasCounts : DeviceMessage → Type 0
HasCounts (Write w) = (length w.runs.1 < 2 ^ 32) × AllByRecursion HasSectors w.runs.1
HasCounts (Wrote w) = Unit {0}
HasCounts (Read r) = Unit {0}
HasCounts (Data d) = Unit {0}
HasCounts (Copy c) = Unit {0}
HasCounts (Copied c) = Unit {0}
HasCounts Alive = Unit {0}

-- The kind and the body are those of this message, which meets the conditions.
pub record Spells (message : DeviceMessage) (kind : ℕ) (body : List ℕ) : Type 0 where
  pub is : IsDeviceMessage message
  pub kind_is : kind ≡ kind_of message
  pub body_is : body ≡ body_text message

-- the letter that says it
abbrev pub letter_with : Actor → Actor → DeviceMessage → Letter
letter_with from to message = record { from = from; to = to; kind = kind_of message; body = body_text message }
