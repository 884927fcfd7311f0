use Rattle.std.proofs.Common.{◌≡◌, Option, Some, sym, subst, ◌∙◌, ap}
use Rattle.std.specs.Option.{option_copied}
use Rattle.std.specs.Result.{result_map_both}
use Rattle.bx_layout.specs.declared.block.Block.{Block}
use Rattle.bx_page.specs.Contents.{value_of}
use Rattle.bx_chunks.specs.bx_truth.specs.Chunks.{chunks_of}
use Rattle.bx_chunks.specs.bx_truth.specs.PageTrees.{handle_in, map_of}
use Rattle.bx_chunks.specs.bx_truth.specs.Stored.{piece_of}
use Rattle.bx_files.specs.Reads.{Tells}
use Rattle.bx_files.proofs.Told.{no_piece, piece_block, piece_is, stops_told}
use Rattle.bx_files.proofs.pieces.piece_at.Goals as goal

pub returns-in-Err-clause-tree : goal.returns-in-Err-clause-tree
returns-in-Err-clause-tree g c = λ truth owner handle stored u has.
    stops_told (value_of (map_of stored.tree) c.content_key-key.result) (piece_of (chunks_of c.args.areas truth) stored.tree c.args.index) c.in-Err.stop (c.in-Err.ensures.map truth stored.tree u)

pub returns-in-Ok-None-clause-tree : goal.returns-in-Ok-None-clause-tree
returns-in-Ok-None-clause-tree g c = λ truth owner handle stored u has.
    no_piece (chunks_of c.args.areas truth) stored.tree c.args.index (sym (rw (c.in-Ok-None.field-0-is, c.content_key-key.ensures) at (c.in-Ok-None.ensures.map truth stored.tree u)))

pub returns-in-Ok-Some-clause-tree : goal.returns-in-Ok-Some-clause-tree
returns-in-Ok-Some-clause-tree g c = λ truth owner handle stored u has.
    let chunks = chunks_of c.args.areas truth in
    let found = rw (c.in-Ok-Some.field-0-is, c.content_key-key.ensures) at (c.in-Ok-Some.ensures.map truth stored.tree u) in
    let b = piece_block chunks owner handle stored c.args.index c.in-Ok-Some.value has (sym found) in
    let named : chunks c.handle_in.result ≡ Some b.0 = ap chunks (c.handle_in.ensures ∙ ap handle_in c.bytes.ensures) ∙ b.1 in
    let same : Some b.0 ≡ piece_of chunks stored.tree c.args.index = sym (piece_is chunks stored.tree c.args.index c.in-Ok-Some.value (sym found) ∙ b.1) in
    subst (λ (o : Option Block). Tells o (result_map_both (λ found. option_copied found) (λ stop. stop) c.block_of.result)) same (c.block_of.ensures.chunk truth b.0 u.same u.chunked named)
