use Rattle.std.proofs.Common.{ap, ◌∙◌, List, Option}
use Rattle.std.specs.Prelude.{is_some}
use Rattle.bx_plain_store.specs.Out.{at}
use Rattle.bx_plain_store.specs.declared.inquiries.Inquiry.{Inquiry}
use Rattle.bx_plain_store.proofs.Answering.{is_asked}
use Rattle.bx_plain_store.proofs.store.PlainStoreStore.is_reading.Goals as goal

pub returns : goal.returns
returns c = c.is_there.ensures ∙ ap (λ (xs : List (Option Inquiry)). is_some (at xs c.args.node)) c.deref.ensures.value ∙ is_asked (at c.args.self.now.inquiries.items c.args.node)
