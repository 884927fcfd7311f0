-- What a call on a tree rests on, for a truth, is an agreement of what it reads with chunks.
use Rattle.std.proofs.Common.{ℕ, List}
use Rattle.bx_truth.specs.bx_records.specs.Drafts.{Changed}
use Rattle.bx_truth.specs.bx_views.specs.Truths.{Truth, Held, Hints, with_draft}
use Rattle.bx_truth.specs.Chunks.{chunks_of}
use Rattle.bx_truth.specs.PageTrees.{PageTree}
use Rattle.bx_blink.specs.Walks.{reads_with}
use Rattle.bx_blink.specs.Hints.{Agrees, Under}
use Rattle.bx_blink.proofs.Sees.{sees}

pub agrees : (areas : ℕ) (held : Held) (hints : Hints) (truth : Truth) (draft : List Changed) (root : ℕ) (tree : PageTree) → Under areas held hints truth draft root tree
    → Agrees areas (reads_with held hints draft) (chunks_of areas (with_draft truth draft)) root tree
agrees areas held hints truth draft root tree u = record { few = u.few; sees = sees areas held hints truth draft (record { same = u.same; chunked = u.chunked }); is = u.is; hints = (u.hints).agree }
