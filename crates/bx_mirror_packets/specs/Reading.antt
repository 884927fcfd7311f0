-- Reading the parts of bodies from the front of bytes.
use Rattle.std.specs.Prelude.{◌≡◌, ℕ, ◌*◌, Bool, nat_lt, List}
use Rattle.std.specs.Int.{w32, w64}
use Rattle.bx_base.specs.Reading.{Reader, as_at, bytes_at, list_at, number_at, sized_at, tested_at, then_at}
use Rattle.bx_base.specs.declared.error.ReadError.{ReadError}
use Rattle.bx_base.specs.declared.error.ReadError.TheVariants as errors
use Rattle.bx_records.specs.declared.runs.Run.{Run}
use Rattle.bx_rows.specs.Reading.{pair_at}
use Rattle.bx_mirror_packets.specs.declared.message.DeviceMessage.{DeviceMessage}
use Rattle.bx_mirror_packets.specs.declared.parts.Head.{Head}
use Rattle.bx_mirror_packets.specs.declared.parts.Piece.{Piece}
use Rattle.bx_mirror_packets.specs.declared.message.WriteBody.{WriteBody}
use Rattle.bx_mirror_packets.specs.DeviceMessages.{IsWriteBody, Spells}

-- what writes and reads and their answers begin with
abbrev pub HeadFields : Type 0
HeadFields = ℕ × ((ℕ × ℕ) × ℕ)

abbrev pub head_with : HeadFields → Head
head_with x = record { session = x.0; device = x.1.0.0; epoch = x.1.0.1; number = x.1.1 }

abbrev pub head_fields : Head → HeadFields
head_fields h = (h.session, ((h.device, h.epoch), h.number))

unfoldable pub head_at : Reader Head
head_at bytes = as_at head_with (then_at (number_at w64) (then_at pair_at (number_at w64))) bytes

-- what pieces of copies begin with
abbrev pub piece_with : (ℕ × ℕ) × ℕ → Piece
piece_with x = record { device = x.0.0; epoch = x.0.1; place = x.1 }

abbrev pub piece_fields : Piece → (ℕ × ℕ) × ℕ
piece_fields p = ((p.device, p.epoch), p.place)

unfoldable pub piece_at : Reader Piece
piece_at bytes = as_at piece_with (then_at pair_at (number_at w64)) bytes

-- a read, behind its head: the first sector, and how many
unfoldable pub extent_at : Reader (ℕ × ℕ)
extent_at bytes = then_at (number_at w64) (number_at w32) bytes

-- the sectors of a run: how many, at least one, and their bytes
abbrev pub is_some : ℕ → Bool
is_some n = nat_lt 0 n

unfoldable pub sectors_at : Reader (List ℕ)
sectors_at bytes = sized_at (tested_at is_some (number_at w32)) (λ count. bytes_at (512 * count)) bytes

-- a run on a device
abbrev pub run_with : ℕ → ℕ × List ℕ → Run
run_with device x = record { device = device; place = x.0; bytes = x.1 }

unfoldable pub run_at : ℕ → Reader Run
run_at device bytes = as_at (run_with device) (then_at (number_at w64) sectors_at) bytes

-- how many runs there are, and the runs
unfoldable pub runs_at : ℕ → Reader (List Run)
runs_at device bytes = sized_at (number_at w32) (λ count. list_at count (run_at device)) bytes

-- a write, behind its head: until when it is taken, and its runs
unfoldable pub writing_at : ℕ → Reader (ℕ × List Run)
writing_at device bytes = then_at (number_at w64) (runs_at device) bytes

-- a write of a kind
abbrev pub IsWriteOf : ℕ → WriteBody → Type 0
IsWriteOf kind w = IsWriteBody w × (w.runs.0 ≡ kind)

-- The bytes are the text of what fits, and no more.
pub record IsText {X : Type 0} (Fit : X → Type 0) (text : X → List ℕ) (x : X) (bytes : List ℕ) : Type 0 where
  pub is : Fit x
  pub parts : bytes ≡ text x

-- what an error says of the bytes: they are no such text, unless memory ran out
abbrev pub NoText : {X : Type 0} → (X → Type 0) → (X → List ℕ) → ReadError → List ℕ → Type 0
NoText {X} Fit text errors.OutOfMemory bytes = Unit {0}
NoText {X} Fit text errors.Malformed bytes = (x : X) → IsText Fit text x bytes → ⊥

-- what an error says of a packet: it is no message, unless memory ran out
abbrev pub NoneSpells : ReadError → ℕ → List ℕ → Type 0
NoneSpells errors.OutOfMemory kind body = Unit {0}
NoneSpells errors.Malformed kind body = (message : DeviceMessage) → Spells message kind body → ⊥
