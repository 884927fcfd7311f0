-- What a member does, its disk apart.
use Rattle.std.specs.Prelude.{◌≡◌, ℕ, ◌+◌, ◌<◌, ◌≤◌, ◌==◌, ◌&&◌, ◌||◌, not, ltb, Bool, true, false, Contains, List, [], ◌∷◌, ◌++◌, map, Option, Some, None, if◌then◌else◌}
use Rattle.bx_base.specs.declared.names.Actor.{Actor}
use Rattle.bx_facts.specs.Writes.{only_other}
use Rattle.bx_global.specs.declared.change.Change.{Change}
use Rattle.bx_global.specs.declared.change.Change.TheVariants.{Shift}
use Rattle.bx_post.specs.declared.packets.Letter.{Letter}
use Rattle.bx_rows.specs.declared.device.DeviceRow.{DeviceRow}
use Rattle.bx_rows.specs.Modes.{both}
use Rattle.bx_mirror_packets.specs.DeviceMessages.{letter_with}
use Rattle.bx_mirror_packets.specs.declared.message.WriteBody.{WriteBody}
use Rattle.bx_mirror_packets.specs.declared.message.CopyBody.{CopyBody}
use Rattle.bx_mirror_packets.specs.declared.message.CopiedBody.{CopiedBody}
use Rattle.bx_mirror_packets.specs.declared.message.DeviceMessage.TheVariants.{Alive}
use Rattle.bx_mirror_tables.specs.declared.answers.Answer.{Answer}
use Rattle.bx_mirror_tables.specs.declared.answers.Answer.TheVariants.{Wrote, Copied}
use Rattle.bx_mirror_tables.specs.declared.answers.Owing.{Owing}
use Rattle.bx_mirror_tables.specs.Lasts.{noted}
use Rattle.bx_mirror_tables.specs.Owed.{message_of}
use Rattle.bx_mirror_member.specs.declared.copies.Progress.{Progress}
use Rattle.bx_mirror_member.specs.declared.copies.Progress.TheVariants.{Unchanged, Next, Whole}
use Rattle.bx_mirror_member.specs.Acting.{IsNoted}
use Rattle.bx_mirror_member.specs.Standing.{MemberView, copy_from, device_in, is_named, is_second, me, partner, piece_at, room_in}

-- ---- answers

abbrev pub owing : Actor → Answer → Owing
owing to answer = record { to = to; answer = answer }

-- the answer to a write, and to a piece of a copy
abbrev pub wrote_to : WriteBody → Answer
wrote_to w = Wrote (record { session = w.session; device = w.device; epoch = w.epoch; sequence = w.sequence })

abbrev pub copied_of : CopyBody → CopiedBody
copied_of c = record { device = c.device; epoch = c.epoch; place = c.place }

abbrev pub answer_letter : MemberView → Owing → Letter
answer_letter m o = letter_with (me m) o.to (message_of o.answer)

-- a write, or a piece, stands on the disk: its answer waits for a sync
abbrev pub with_write : Actor → WriteBody → MemberView → MemberView
with_write from w m = record m { lasts = noted m.lasts w.session w.sequence; owed = m.owed ++ owing from (wrote_to w) ∷ []; due = true }

abbrev pub with_piece : Actor → CopiedBody → MemberView → MemberView
with_piece from c m = record m { owed = m.owed ++ owing from (Copied c) ∷ []; due = true }

abbrev pub with_owing : Owing → MemberView → MemberView
with_owing o m = record m { owed = m.owed ++ o ∷ [] }

-- A write came before: it is answered at once, or with the sync that is owed, and then once.
pub record Repeats (from : Actor) (w : WriteBody) (m new : MemberView) (before after : List Letter) : Type 0 where
  pub at_once : m.due ≡ false → (new ≡ m) × (after ≡ before ++ answer_letter m (owing from (wrote_to w)) ∷ [])
  pub waits : m.due ≡ true → after ≡ before
  pub once : m.due ≡ true → Contains m.owed (owing from (wrote_to w)) → new ≡ m
  pub owes : m.due ≡ true → (Contains m.owed (owing from (wrote_to w)) → ⊥) → new ≡ with_owing (owing from (wrote_to w)) m

-- the disk was synced: all that is owed goes, in its order
abbrev pub released : MemberView → MemberView
released m = record m { owed = []; due = false }

abbrev pub owed_letters : MemberView → List Letter
owed_letters m = map (answer_letter m) m.owed

-- ---- changes of the mode

abbrev pub shift : MemberView → DeviceRow → ℕ → Change
shift m row mode = Shift (device_in m) row.epoch mode (is_second m) m.boot

-- this member alone
abbrev pub only : Bool → ℕ
only second = only_other (not second)

-- it may go on alone: both are written, or it makes a copy
abbrev pub may_alone : MemberView → DeviceRow → Bool
may_alone m row = (row.mode == both) || (row.mode == copy_from (is_second m))

-- its partner was heard more than 2000 ms before a reading
abbrev pub is_silent : MemberView → ℕ → Bool
is_silent m reading = ltb (m.heard + 2000) reading

-- What it proposes at a tick. Where it is left out, a copy onto itself; where its boot isn't named, its own boot in the same mode; where its
-- partner is silent, itself alone.
abbrev pub proposes : MemberView → DeviceRow → ℕ → Option Change
proposes m row reading =
    if row.mode == only_other (is_second m) then Some (shift m row (copy_from (not (is_second m))))
    else if not (is_named m row) then Some (shift m row row.mode)
    else if may_alone m row && is_silent m reading then Some (shift m row (only (is_second m)))
    else None

abbrev pub proposes_in : MemberView → Option DeviceRow → ℕ → Option Change
proposes_in m None reading = None
proposes_in m (Some row) reading = proposes m row reading

-- the sign of life
abbrev pub alive_letter : MemberView → Letter
alive_letter m = letter_with (me m) (partner m) Alive

-- ---- a copy goes on

-- no piece stands behind the current one
abbrev pub is_last_piece : MemberView → Bool
is_last_piece m = not (ltb (m.place + 64) (room_in m))

-- What an answer to a piece makes of a copy. Behind the last piece both members are whole, and the last piece stays the current one.
abbrev pub progress_in : MemberView → DeviceRow → Progress
progress_in m row = if is_last_piece m then Whole (shift m row both) else Next (piece_at m row.epoch (m.place + 64))

pub record IsProgress (m : MemberView) (c : CopiedBody) (progress : Progress) : Type 0 where
  pub noted : (row : DeviceRow) → IsNoted m c row → progress ≡ progress_in m row
  pub ignored : ((row : DeviceRow) → IsNoted m c row → ⊥) → progress ≡ Unchanged

abbrev pub gone_on : Progress → MemberView → MemberView
gone_on Unchanged m = m
gone_on (Next piece) m = record m { place = piece.place }
gone_on (Whole change) m = m

-- a piece that is next begins and ends within the device
abbrev pub IsWithin : ℕ → Progress → Type 0
IsWithin room Unchanged = Unit {0}
IsWithin room (Next piece) = (piece.place < room) × (piece.place + piece.sectors ≤ room)
IsWithin room (Whole change) = Unit {0}
