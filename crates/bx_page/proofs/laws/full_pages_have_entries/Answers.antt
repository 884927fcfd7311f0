use Rattle.std.proofs.Common.{arith}
use Rattle.bx_page.proofs.Room.{size-le}
use Rattle.bx_page.proofs.laws.full_pages_have_entries.Goals as goal

pub returns : goal.returns
returns c = λ page is full. omega (arith, size-le page is)
