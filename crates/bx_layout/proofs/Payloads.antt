-- What is read of all the bytes of a payload.
use Rattle.std.proofs.Common.{◌≡◌, ℕ, ◌-◌, ◌≤◌, List, length, Some, None, ap, ◌∙◌, arith}
use Rattle.std.specs.Prelude.{replicate}
use Rattle.std.proofs.lemmas.List.{length-append}
use Rattle.bx_base.specs.Bytes.{IsBytes}
use Rattle.bx_base.specs.Writing.{padded}
use Rattle.bx_base.proofs.Whole.{padded_read, padded_same, padded_none, length-padded}
use Rattle.bx_layout.specs.declared.area.AreaBlock.{AreaBlock}
use Rattle.bx_layout.specs.declared.inode.Inode.{Inode}
use Rattle.bx_layout.specs.Areas.{SpellsArea, area_text}
use Rattle.bx_layout.specs.AreaReading.{area_at}
use Rattle.bx_layout.specs.Inodes.{SpellsInode, inode_text}
use Rattle.bx_layout.specs.InodeReading.{inode_at}
use Rattle.bx_layout.proofs.AreaFields.{area_field, length-area_text}
use Rattle.bx_layout.proofs.InodeFields.{inode_field, parts_of, inode_from, length-inode_text}

-- what has zeros behind it isn't longer than all of it
within : (size : ℕ) (bytes text : List ℕ) → length bytes ≡ size → bytes ≡ padded size text → length text ≤ size
within size bytes text len is = omega (arith, ap length is, length-append text (replicate (size - length text) 0))

-- ---- areas

pub area_read : (payload rest : List ℕ) (area : AreaBlock) → IsBytes payload → length payload ≡ 4096 → area_at payload ≡ Some (area, rest) → rest ≡ replicate (length rest) 0 → SpellsArea area payload
area_read payload rest area fits len e zeros =
    let r = padded_read area_field payload rest area fits e zeros in
    record { is = r.1; parts = r.0 ∙ ap (λ (n : ℕ). padded n (area_text area)) len }

pub area_same : (payload rest : List ℕ) (one other : AreaBlock) → area_at payload ≡ Some (one, rest) → SpellsArea other payload → (one ≡ other) × (rest ≡ replicate (length rest) 0)
area_same payload rest one other e s = padded_same area_field 4096 payload rest one other e s.parts s.is

pub area_none : (payload : List ℕ) (area : AreaBlock) → area_at payload ≡ None → SpellsArea area payload → ⊥
area_none payload area e s = padded_none area_field 4096 payload area e s.parts s.is

pub area_len : (payload : List ℕ) (area : AreaBlock) → SpellsArea area payload → length payload ≡ 4096
area_len payload area s = ap length s.parts ∙ length-padded 4096 (area_text area) (omega (arith, length-area_text area s.is))

-- ---- inodes

pub inode_read : (payload rest : List ℕ) (inode : Inode) → IsBytes payload → length payload ≡ 4096 → inode_at payload ≡ Some (inode, rest) → rest ≡ replicate (length rest) 0 → SpellsInode inode payload
inode_read payload rest inode fits len e zeros =
    let r = padded_read inode_field payload rest inode fits e zeros in
    let parts : payload ≡ padded 4096 (inode_text inode) = r.0 ∙ ap (λ (n : ℕ). padded n (inode_text inode)) len in
    record { is = inode_from inode r.1 (omega (arith, within 4096 payload (inode_text inode) len parts, length-inode_text inode)); parts = parts }

pub inode_same : (payload rest : List ℕ) (one other : Inode) → inode_at payload ≡ Some (one, rest) → SpellsInode other payload → (one ≡ other) × (rest ≡ replicate (length rest) 0)
inode_same payload rest one other e s = padded_same inode_field 4096 payload rest one other e s.parts (parts_of other s.is)

pub inode_none : (payload : List ℕ) (inode : Inode) → inode_at payload ≡ None → SpellsInode inode payload → ⊥
inode_none payload inode e s = padded_none inode_field 4096 payload inode e s.parts (parts_of inode s.is)
