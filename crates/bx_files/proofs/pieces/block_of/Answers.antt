use Rattle.std.proofs.Common.{◌≡◌, Option, None, Some, sym, ◌∙◌}
use Rattle.bx_layout.specs.declared.block.Block.{Block}
use Rattle.bx_chunks.specs.bx_truth.specs.Chunks.{chunks_of}
use Rattle.bx_files.proofs.pieces.block_of.Goals as goal

pub returns-in-Err-Stale-clause-chunk : goal.returns-in-Err-Stale-clause-chunk
returns-in-Err-Stale-clause-chunk g c = λ truth block same chunked there.
    let none : ◌≡◌ {A = Option Block} (chunks_of c.args.areas truth c.args.handle) None = rw c.in-Err-Stale.field-0-is at (c.in-Err-Stale.ensures.map c.args.areas truth same chunked) in
    let both : ◌≡◌ {A = Option Block} None (Some block) = sym none ∙ there in
    absurd cc
