use Rattle.bx_page.proofs.Whole.{page_written}
use Rattle.bx_page.proofs.laws.written_reads.Goals as goal

pub returns : goal.returns
returns c = λ page is. page_written page is
