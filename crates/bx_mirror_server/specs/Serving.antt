-- What a member of a mirrored device does in one event. What is said of its disk holds where the rack tells what its disks hold (Told).
use Rattle.std.specs.Prelude.{◌≡◌, ℕ, ◌*◌, ◌⊎◌, false, List, [], ◌∷◌, ◌++◌, length, MatchOption, Option, Some, None}
use Rattle.bx_base.specs.declared.names.Actor.{Actor}
use Rattle.bx_calls.specs.Regions.{ReadsAs}
use Rattle.bx_disk.specs.Disks.{Disks}
use Rattle.bx_facts.specs.declared.input.Input.{Input}
use Rattle.bx_facts.specs.declared.input.Input.TheVariants.{Packet, Tick, Synced}
use Rattle.bx_global.specs.declared.change.Change.{Change}
use Rattle.bx_global.specs.declared.state.GlobalState.{GlobalState}
use Rattle.bx_post.specs.declared.packets.Letter.{Letter}
use Rattle.bx_records.specs.declared.runs.Run.{Run}
use Rattle.bx_mirror_disks.specs.Puts.{PutsRuns}
use Rattle.bx_mirror_packets.specs.DeviceMessages.{Spells, letter_with}
use Rattle.bx_mirror_packets.specs.declared.message.WriteBody.{WriteBody}
use Rattle.bx_mirror_packets.specs.declared.message.ReadBody.{ReadBody}
use Rattle.bx_mirror_packets.specs.declared.message.CopyBody.{CopyBody}
use Rattle.bx_mirror_packets.specs.declared.message.CopiedBody.{CopiedBody}
use Rattle.bx_mirror_packets.specs.declared.message.DeviceMessage.{DeviceMessage}
use Rattle.bx_mirror_packets.specs.declared.message.DeviceMessage.TheVariants.{Write, Wrote, Read, Data, Copy, Copied, Alive}
use Rattle.bx_mirror_member.specs.declared.copies.Piece.{Piece}
use Rattle.bx_mirror_member.specs.declared.copies.Progress.{Progress}
use Rattle.bx_mirror_member.specs.declared.copies.Progress.TheVariants.{Unchanged, Next, Whole}
use Rattle.bx_mirror_member.specs.declared.judging.Judgement.{Judgement}
use Rattle.bx_mirror_member.specs.declared.judging.Judgement.TheVariants.{Taken, Repeated, Refused}
use Rattle.bx_mirror_member.specs.Acting.{IsCopiedHere, IsReadHere, IsTaken, Judges}
use Rattle.bx_mirror_member.specs.Standing.{MemberView, current_piece, device_in, disk_in, first_piece, hearing, learned, me, partner}
use Rattle.bx_mirror_member.specs.Steps.{IsProgress, Repeats, alive_letter, copied_of, gone_on, owed_letters, proposes_in, released, with_piece, with_write}

-- Nothing is done.
pub record Passes (m new : MemberView) (before after : List Letter) (old now : Disks) : Type 0 where
  pub member : new ≡ m
  pub sends : after ≡ before
  pub disk : now ≡ old

-- ---- pieces of a copy that it makes

-- A piece is sent: what its sectors read as.
pub record SendsPiece (Told : Type 0) (m : MemberView) (piece : Piece) (disks : Disks) (before after : List Letter) : Type 0 where
  pub bytes : List ℕ
  pub long : length bytes ≡ 512 * piece.sectors
  pub reads : Told → ReadsAs disks.reads (disk_in m) piece.place bytes
  pub sends : after ≡ before ++ letter_with (me m) (partner m) (Copy (record { device = device_in m; epoch = piece.epoch; place = piece.place; bytes = bytes })) ∷ []

-- .. where there is one
abbrev pub SendsAny : Type 0 → MemberView → Option Piece → Disks → List Letter → List Letter → Type 0
SendsAny Told m None disks before after = after ≡ before
SendsAny Told m (Some piece) disks before after = SendsPiece Told m piece disks before after

abbrev pub piece_of : Progress → Option Piece
piece_of Unchanged = None
piece_of (Next piece) = Some piece
piece_of (Whole change) = None

abbrev pub change_of : Progress → Option Change
change_of Unchanged = None
change_of (Next piece) = None
change_of (Whole change) = Some change

-- An answer to a piece comes: the next piece goes, or both members are whole.
pub record TakesCopied (Told : Type 0) (c : CopiedBody) (m new : MemberView) (change : Option Change) (before after : List Letter) (old now : Disks) : Type 0 where
  pub progress : Progress
  pub is : IsProgress m c progress
  pub member : new ≡ gone_on progress m
  pub sends : SendsAny Told m (piece_of progress) old before after
  pub hands : change ≡ change_of progress
  pub disk : now ≡ old

-- ---- writes

-- A write is taken: its runs stand on the disk, where a sector that read so already stays as it was, and its answer is owed.
pub record PutsWrite (Told : Type 0) (from : Actor) (w : WriteBody) (m new : MemberView) (before after : List Letter) (old now : Disks) : Type 0 where
  pub member : new ≡ with_write from w m
  pub sends : after ≡ before
  pub puts : Told → PutsRuns (disk_in m) (device_in m) w.runs.1 old now

pub record RepeatsWrite (from : Actor) (w : WriteBody) (m new : MemberView) (before after : List Letter) (old now : Disks) : Type 0 where
  pub repeats : Repeats from w m new before after
  pub disk : now ≡ old

abbrev pub DoesWrite : Type 0 → Judgement → Actor → WriteBody → MemberView → MemberView → List Letter → List Letter → Disks → Disks → Type 0
DoesWrite Told Taken from w m new before after old now = PutsWrite Told from w m new before after old now
DoesWrite Told Repeated from w m new before after old now = RepeatsWrite from w m new before after old now
DoesWrite Told Refused from w m new before after old now = Passes m new before after old now

pub record OfWrite (Told : Type 0) (reading : ℕ) (from : Actor) (w : WriteBody) (m new : MemberView) (before after : List Letter) (old now : Disks) : Type 0 where
  pub judgement : Judgement
  pub judged : Judges m reading w judgement
  pub does : DoesWrite Told judgement from w m new before after old now

-- ---- reads

-- A read is answered: what its sectors read as.
pub record AnswersRead (Told : Type 0) (from : Actor) (r : ReadBody) (m new : MemberView) (before after : List Letter) (old now : Disks) : Type 0 where
  pub bytes : List ℕ
  pub long : length bytes ≡ 512 * r.sectors
  pub reads : Told → ReadsAs old.reads (disk_in m) r.place bytes
  pub sends : after ≡ before ++ letter_with (me m) from (Data (record { session = r.session; device = r.device; epoch = r.epoch; tag = r.tag; bytes = bytes })) ∷ []
  pub member : new ≡ m
  pub disk : now ≡ old

abbrev pub OfRead : Type 0 → Actor → ReadBody → MemberView → MemberView → List Letter → List Letter → Disks → Disks → Type 0
OfRead Told from r m new before after old now =
    (IsReadHere m r × AnswersRead Told from r m new before after old now) ⊎ ((IsReadHere m r → ⊥) × Passes m new before after old now)

-- ---- pieces of a copy that its partner makes

-- a piece is a run
abbrev pub run_of : CopyBody → Run
run_of c = record { device = c.device; place = c.place; bytes = c.bytes }

-- A piece is taken: it stands on the disk, where a sector that read so already stays as it was, and its answer is owed.
pub record PutsCopy (Told : Type 0) (from : Actor) (c : CopyBody) (m new : MemberView) (old now : Disks) : Type 0 where
  pub member : new ≡ with_piece from (copied_of c) m
  pub puts : Told → PutsRuns (disk_in m) (device_in m) (run_of c ∷ []) old now

abbrev pub OfCopy : Type 0 → Actor → CopyBody → MemberView → MemberView → Disks → Disks → Type 0
OfCopy Told from c m new old now =
    (IsCopiedHere m c × PutsCopy Told from c m new old now) ⊎ ((IsCopiedHere m c → ⊥) × (new ≡ m) × (now ≡ old))

-- ---- all messages: writes, reads, pieces and their answers count, and signs of life

abbrev pub OfMessage : Type 0 → ℕ → Actor → DeviceMessage → MemberView → MemberView → Option Change → List Letter → List Letter → Disks → Disks → Type 0
OfMessage Told reading from (Write w) m new change before after old now = OfWrite Told reading from w m new before after old now × (change ≡ None)
OfMessage Told reading from (Wrote w) m new change before after old now = Passes m new before after old now × (change ≡ None)
OfMessage Told reading from (Read r) m new change before after old now = OfRead Told from r m new before after old now × (change ≡ None)
OfMessage Told reading from (Data d) m new change before after old now = Passes m new before after old now × (change ≡ None)
OfMessage Told reading from (Copy c) m new change before after old now = OfCopy Told from c m new old now × (after ≡ before) × (change ≡ None)
OfMessage Told reading from (Copied c) m new change before after old now = TakesCopied Told c m new change before after old now
OfMessage Told reading from Alive m new change before after old now = Passes (hearing reading m) new before after old now × (change ≡ None)

-- what a packet says, or that it says nothing
abbrev pub SaysOr : ℕ → List ℕ → Option DeviceMessage → Type 0
SaysOr kind body said = MatchOption said ((message : DeviceMessage) → Spells message kind body → ⊥) (λ message. Spells message kind body)

abbrev pub OfSaid : Type 0 → ℕ → Actor → Option DeviceMessage → MemberView → MemberView → Option Change → List Letter → List Letter → Disks → Disks → Type 0
OfSaid Told reading from None m new change before after old now = Passes m new before after old now × (change ≡ None)
OfSaid Told reading from (Some message) m new change before after old now = OfMessage Told reading from message m new change before after old now

pub record OfPacket (Told : Type 0) (reading : ℕ) (from : Actor) (kind : ℕ) (body : List ℕ) (m new : MemberView) (change : Option Change) (before after : List Letter) (old now : Disks) : Type 0 where
  pub said : Option DeviceMessage
  pub says : SaysOr kind body said
  pub does : OfSaid Told reading from said m new change before after old now

-- ---- ticks and syncs

-- A tick: a sign of life, the current piece of a copy again, and what is proposed.
pub record OfTick (Told : Type 0) (reading : ℕ) (m new : MemberView) (change : Option Change) (before after : List Letter) (old now : Disks) : Type 0 where
  pub member : new ≡ m
  pub sends : SendsAny Told m (current_piece m) old (before ++ alive_letter m ∷ []) after
  pub hands : change ≡ proposes_in m m.row reading
  pub disk : now ≡ old

-- A sync: nothing on the disk is unsure, and all that was owed goes.
pub record OfSync (Told : Type 0) (m new : MemberView) (change : Option Change) (before after : List Letter) (old now : Disks) : Type 0 where
  pub member : new ≡ released m
  pub sends : after ≡ before ++ owed_letters m
  pub hands : change ≡ None
  pub reads : Told → now.reads ≡ old.reads
  pub sure : (sector : ℕ) → Told → now.unsure (disk_in m) sector ≡ false

-- ---- all of it

abbrev pub OfInput : Type 0 → Input → MemberView → MemberView → Option Change → List Letter → List Letter → Disks → Disks → Type 0
OfInput Told (Packet packet reading) m new change before after old now = OfPacket Told reading packet.now.from packet.now.kind packet.now.body m new change before after old now
OfInput Told (Tick reading) m new change before after old now = OfTick Told reading m new change before after old now
OfInput Told Synced m new change before after old now = OfSync Told m new change before after old now

-- All that a member does in one event: it learns the state, where the copy that begins there sends its first piece; and it takes what comes.
pub record Does (Told : Type 0) (known : GlobalState) (input : Input) (m new : MemberView) (change : Option Change) (before after : List Letter) (old now : Disks) : Type 0 where
  pub between : List Letter
  pub begins : SendsAny Told (learned known m) (first_piece known m) old before between
  pub does : OfInput Told input (learned known m) new change between after old now

-- ---- what an input brings to the disk: nothing, or the runs of a write that is taken, or of a piece of a copy

abbrev pub BringsWrite : MemberView → ℕ → WriteBody → List Run → Type 0
BringsWrite m reading w runs = (runs ≡ []) ⊎ (IsTaken m reading w × (runs ≡ w.runs.1))

abbrev pub BringsPiece : MemberView → CopyBody → List Run → Type 0
BringsPiece m c runs = (runs ≡ []) ⊎ (IsCopiedHere m c × (runs ≡ run_of c ∷ []))

abbrev pub BringsOf : MemberView → ℕ → DeviceMessage → List Run → Type 0
BringsOf m reading (Write w) runs = BringsWrite m reading w runs
BringsOf m reading (Wrote w) runs = runs ≡ []
BringsOf m reading (Read r) runs = runs ≡ []
BringsOf m reading (Data d) runs = runs ≡ []
BringsOf m reading (Copy c) runs = BringsPiece m c runs
BringsOf m reading (Copied c) runs = runs ≡ []
BringsOf m reading Alive runs = runs ≡ []

abbrev pub BringsIn : MemberView → ℕ → ℕ → List ℕ → List Run → Type 0
BringsIn m reading kind body runs = (runs ≡ []) ⊎ ((message : DeviceMessage) × Spells message kind body × BringsOf m reading message runs)

abbrev pub BringsOnly : MemberView → Input → List Run → Type 0
BringsOnly m (Packet packet reading) runs = BringsIn m reading packet.now.kind packet.now.body runs
BringsOnly m (Tick reading) runs = runs ≡ []
BringsOnly m Synced runs = runs ≡ []
