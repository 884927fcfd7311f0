-- Reading the header of a record.
use Rattle.std.specs.Prelude.{ℕ, nat_le, List}
use Rattle.std.specs.Int.{w32, w64}
use Rattle.bx_layout.specs.bx_base.specs.Reading.{Reader, number_at, then_at, as_at, tested_at, sized_at, list_at}
use Rattle.bx_layout.specs.bx_places.specs.Places.{is_block}
use Rattle.bx_records.specs.declared.record_head.RecordHead.{RecordHead}

-- the number of a block of some volume
unfoldable pub number_of_block_at : Reader ℕ
number_of_block_at bytes = tested_at (is_block 64) (number_at w64) bytes

-- how many blocks there are, at most 16
unfoldable pub count_at : Reader ℕ
count_at bytes = tested_at (λ n. nat_le n 16) (number_at w32) bytes

-- the blocks behind their number
unfoldable pub blocks_at : Reader (List ℕ)
blocks_at bytes = sized_at count_at (λ n. list_at n number_of_block_at) bytes

-- two numbers
unfoldable pub pair_at : Reader (ℕ × ℕ)
pair_at bytes = then_at (number_at w64) (number_at w64) bytes

abbrev pub HeadFields : Type 0
HeadFields = (ℕ × ℕ) × ((ℕ × ℕ) × List ℕ)

abbrev pub head_with : HeadFields → RecordHead
head_with x = record { call = x.0.0; moment = x.0.1; spare = x.1.0.0; made = x.1.0.1; blocks = x.1.1 }

abbrev pub head_fields : RecordHead → HeadFields
head_fields head = ((head.call, head.moment), ((head.spare, head.made), head.blocks))

unfoldable pub head_at : Reader RecordHead
head_at bytes = as_at head_with (then_at pair_at (then_at pair_at blocks_at)) bytes
