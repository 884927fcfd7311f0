-- What is read of all the bytes of a sector.
use Rattle.std.proofs.Common.{◌≡◌, ℕ, List, length, Some, None, ap, ◌∙◌, arith}
use Rattle.std.specs.Prelude.{replicate}
use Rattle.bx_layout.specs.bx_base.specs.Bytes.{IsBytes}
use Rattle.bx_layout.specs.bx_base.specs.Writing.{padded}
use Rattle.bx_layout.specs.bx_base.proofs.Whole.{padded_read, padded_same, padded_none, length-padded}
use Rattle.bx_records.specs.declared.record_head.RecordHead.{RecordHead}
use Rattle.bx_records.specs.Records.{SpellsHead, head_text}
use Rattle.bx_records.specs.RecordReading.{head_at}
use Rattle.bx_records.proofs.HeadFields.{head_field, length-head_text}

pub head_read : (sector rest : List ℕ) (head : RecordHead) → IsBytes sector → length sector ≡ 512 → head_at sector ≡ Some (head, rest) → rest ≡ replicate (length rest) 0 → SpellsHead head sector
head_read sector rest head fits len e zeros =
    let r = padded_read head_field sector rest head fits e zeros in
    record { is = r.1; parts = r.0 ∙ ap (λ (n : ℕ). padded n (head_text head)) len }

pub head_same : (sector rest : List ℕ) (one other : RecordHead) → head_at sector ≡ Some (one, rest) → SpellsHead other sector → (one ≡ other) × (rest ≡ replicate (length rest) 0)
head_same sector rest one other e s = padded_same head_field 512 sector rest one other e s.parts s.is

pub head_none : (sector : List ℕ) (head : RecordHead) → head_at sector ≡ None → SpellsHead head sector → ⊥
head_none sector head e s = padded_none head_field 512 sector head e s.parts s.is

pub head_len : (sector : List ℕ) (head : RecordHead) → SpellsHead head sector → length sector ≡ 512
head_len sector head s = ap length s.parts ∙ length-padded 512 (head_text head) (omega (arith, length-head_text head, s.is.count))
