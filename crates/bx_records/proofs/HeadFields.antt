-- The header of a record as a field.
use Rattle.std.proofs.Common.{◌≡◌, ◌+◌, ◌*◌, ◌^◌, ◌<◌, ◌≤◌, ◌++◌, length, refl, arith, nat_le}
use Rattle.std.specs.List.{flat_map, AllByRecursion}
use Rattle.std.specs.Int.{w32, w64, to_be_bytes}
use Rattle.std.proofs.lemmas.Bool.{and_parts, and_from, ltb-true, lt-ltb, leb-true, le-leb}
use Rattle.bx_layout.specs.bx_base.proofs.Fields.{IsField, as_field, then_field, tested_field, fits_field, sized_field, list_field, field32, field64}
use Rattle.bx_records.specs.declared.record_head.RecordHead.{RecordHead}
use Rattle.bx_layout.specs.bx_places.specs.Places.{IsBlock, is_block}
use Rattle.bx_records.specs.Records.{IsHead, head_text}
use Rattle.bx_records.proofs.Lengths.{length-numbers}
use Rattle.bx_records.specs.RecordReading.{number_of_block_at, count_at, blocks_at, pair_at, head_with, head_fields, head_at}

number_of_block_field : IsField number_of_block_at (to_be_bytes w64) (IsBlock 64)
unfolding number_of_block_at
number_of_block_field =
    fits_field (IsBlock 64) (λ n fits. fits.1) (λ n is. (omega (arith, is.area, is.slot), is))
    (tested_field (is_block 64) (IsBlock 64)
    (λ n t. record { area = ltb-true _ _ (and_parts _ _ t).0; slot = leb-true _ _ (and_parts _ _ t).1 })
    (λ n is. and_from _ _ (lt-ltb _ _ is.area) (le-leb _ _ is.slot)) field64)

count_field : IsField count_at (to_be_bytes w32) (λ n. n ≤ 16)
unfolding count_at
count_field =
    fits_field (λ n. n ≤ 16) (λ n fits. fits.1) (λ n is. (omega arith, is))
    (tested_field (λ n. nat_le n 16) (λ n. n ≤ 16) (λ n t. leb-true _ _ t) (λ n is. le-leb _ _ is) field32)

blocks_field : IsField blocks_at (λ blocks. to_be_bytes w32 (length blocks) ++ flat_map (to_be_bytes w64) blocks) (λ blocks. (length blocks ≤ 16) × AllByRecursion (IsBlock 64) blocks)
unfolding blocks_at
blocks_field = sized_field length count_field (λ n. list_field n number_of_block_field)

pair_field : IsField pair_at (λ x. to_be_bytes w64 x.0 ++ to_be_bytes w64 x.1) (λ x. (x.0 < 2 ^ 64) × (x.1 < 2 ^ 64))
unfolding pair_at
pair_field = then_field field64 field64

pub head_field : IsField head_at head_text IsHead
unfolding head_at
head_field =
    fits_field IsHead
    (λ x fits. record { call = fits.0.0; moment = fits.0.1; spare = fits.1.0.0; made = fits.1.0.1; count = fits.1.1.0; each = fits.1.1.1 })
    (λ x is. ((is.call, is.moment), ((is.spare, is.made), (is.count, is.each))))
    (as_field head_with head_fields (λ x. refl) (λ y. refl) (then_field pair_field (then_field pair_field blocks_field)))

pub length-head_text : (head : RecordHead) → length (head_text head) ≡ 36 + 8 * length head.blocks
length-head_text head = omega (arith, length-numbers head.blocks)
