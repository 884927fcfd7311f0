use Rattle.std.proofs.Common.{◌∙◌}
use Rattle.bx_page.proofs.Whole.{one_page}
use Rattle.bx_page_bytes.specs.Pages.{contents_of}
use Rattle.bx_page_bytes.proofs.page.PageBytes.copied.Goals as goal

pub returns : goal.returns
returns c = one_page c.in-Some.page (contents_of c.self.inside) c.self.inside.payload.now (rw c.in-Some.is at c.in_ok-page.ensures.some) c.self.invariant.spells ∙ c.self.view_is
