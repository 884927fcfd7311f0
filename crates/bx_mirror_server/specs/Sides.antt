-- A member with its disk, as the laws of mirrored devices speak of it.
use Rattle.std.specs.Prelude.{◌≡◌, ℕ, ◌⊎◌, not, Bool, true, List, [], ◌∷◌}
use Rattle.bx_disk.specs.Disks.{Disks}
use Rattle.bx_facts.specs.Writes.{WritesIn}
use Rattle.bx_records.specs.declared.runs.Run.{Run}
use Rattle.bx_rows.specs.declared.device.DeviceRow.{DeviceRow}
use Rattle.bx_rows.specs.Modes.{IsReachable, IsSource}
use Rattle.bx_global.specs.declared.change.Change.{Change}
use Rattle.bx_mirror_laws.specs.Sides.{Copied, CopyLetter, Side, WriteLetter, Wrote}
use Rattle.bx_mirror_laws.specs.Steps.{TakesWrite}
use Rattle.bx_mirror_packets.specs.declared.message.CopyBody.{CopyBody}
use Rattle.bx_mirror_packets.specs.declared.message.WriteBody.{WriteBody}
use Rattle.bx_mirror_tables.specs.declared.answers.Answer.{Answer}
use Rattle.bx_mirror_tables.specs.declared.answers.Answer.TheVariants as answers
use Rattle.bx_mirror_tables.specs.declared.answers.Owing.{Owing}
use Rattle.bx_mirror_tables.specs.Lasts.{last_in}
use Rattle.bx_mirror_member.specs.Standing.{MemberView, disk_in, is_second}
use Rattle.bx_mirror_member.specs.Steps.{shift}

-- the answers to writes that are owed, and those to pieces of copies
abbrev pub with_wrote : Bool → Answer → List Wrote → List Wrote
with_wrote b (answers.Wrote w) all = record { by = b; session = w.session; epoch = w.epoch; sequence = w.sequence } ∷ all
with_wrote b (answers.Copied c) all = all

abbrev pub wrote_in : Bool → List Owing → List Wrote
wrote_in b [] = []
wrote_in b (o ∷ owed) = with_wrote b o.answer (wrote_in b owed)

abbrev pub with_copied : Bool → Answer → List Copied → List Copied
with_copied b (answers.Wrote w) all = all
with_copied b (answers.Copied c) all = record { by = b; epoch = c.epoch; place = c.place } ∷ all

abbrev pub copied_in : Bool → List Owing → List Copied
copied_in b [] = []
copied_in b (o ∷ owed) = with_copied b o.answer (copied_in b owed)

-- a member that is up or down, with its disk
abbrev pub side_of : Bool → MemberView → Disks → Side
side_of up m disks = record {
  up = up;
  boot = m.boot;
  row = m.row;
  lasts = last_in m.lasts;
  wrote = wrote_in (is_second m) m.owed;
  copied = copied_in (is_second m) m.owed;
  place = m.place;
  reads = disks.reads (disk_in m);
  unsure = disks.unsure (disk_in m);
}

-- the letter of a write to it, and that of a piece from its partner
abbrev pub letter_to : MemberView → WriteBody → WriteLetter
letter_to m w = record { at = is_second m; session = w.session; epoch = w.epoch; sequence = w.sequence; until = w.until; runs = w.runs.1 }

abbrev pub piece_from : Bool → CopyBody → CopyLetter
piece_from by c = record { by = by; epoch = c.epoch; place = c.place; bytes = c.bytes }

-- no sector is written with two contents
abbrev pub IsOnce : List Run → ℕ → Type 0
IsOnce runs device = (sector : ℕ) (content other : List ℕ) → WritesIn runs device sector content → WritesIn runs device sector other → other ≡ content

-- A write is one that the laws let this member take, in some row.
pub record MayTakeWrite (greatest : ℕ) (m : MemberView) (disks : Disks) (w : WriteBody) : Type 0 where
  pub row : DeviceRow
  pub takes : TakesWrite greatest (side_of true m disks) row (letter_to m w)

-- A change shifts the row's mode by one step, and who is read afterwards was read before.
pub record IsStep (m : MemberView) (row : DeviceRow) (change : Change) : Type 0 where
  pub mode : ℕ
  pub is : change ≡ shift m row mode
  pub reaches : IsReachable row.mode mode
  pub sources : (b : Bool) → IsSource mode b → IsSource row.mode b

-- A copy makes both members whole: who is read afterwards was read before, or is the copy's target.
pub record IsWhole (m : MemberView) (row : DeviceRow) (mode : ℕ) : Type 0 where
  pub reaches : IsReachable row.mode mode
  pub sources : (b : Bool) → IsSource mode b → IsSource row.mode b ⊎ (is_second m ≡ not b)
