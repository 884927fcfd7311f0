use Rattle.bx_layout.specs.bx_base.proofs.Whole.{padded_again}
use Rattle.bx_records.proofs.HeadFields.{head_field}
use Rattle.bx_records.proofs.Sectors.{head_same}
use Rattle.bx_records.proofs.readings.one_reading.Goals as goal

pub returns : goal.returns
returns c = λ a b sector s t. (head_same sector _ a b (padded_again head_field 512 sector a s.parts s.is) t).0
