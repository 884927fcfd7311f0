use Rattle.std.proofs.Common.{◌≡◌, arith}
use Rattle.bx_layout.specs.Blocks.{SpellsHeader}
use Rattle.bx_layout.proofs.BlockHeaders.{handle_in, kind_in}
use Rattle.bx_layout.proofs.block.header_of.Goals as goal

pub returns-else-is_header-clause-none : goal.returns-else-is_header-clause-none
returns-else-is_header-clause-none c = λ handle kind s.
    let sector = c.args.sector.now in
    let same : c.read_u64-handle.result ≡ handle = omega (arith, c.read_u64-handle.ensures, handle_in handle kind sector s) in
    let alike : c.read_u32-kind.result ≡ kind = omega (arith, c.read_u32-kind.ensures, kind_in handle kind sector s) in
    let again : SpellsHeader c.read_u64-handle.result c.read_u32-kind.result sector = rw (same, alike) s in
    let is = c.is_header.ensures.1 again in
    let other = c.if-is_header.false in
    absurd cc
