use Rattle.std.proofs.Common.{◌≡◌, length, sym, subst}
use Rattle.bx_tree_parts.proofs.Updated.{Long, part_put, part_keeps, part_whole}
use Rattle.bx_tree_parts.proofs.pieces.Pieces.put.Goals as goal

pub returns : goal.returns
returns c =
    let old = c.args.self.now.by_index in
    let new = c.get_mut.follows.lender c.put_over.new.bytes in
    let updates = (c.get_mut.follows.holds c.put_over.new.bytes).3 c.requires.held in
    let there = sym c.in-Some.ensures.value in
    let long : length c.in-Some.piece.now.items ≡ 4096 = subst Long there (c.requires.whole c.args.index) in
    record {
      put = part_put old new c.args.index c.args.inner c.args.part.now c.in-Some.piece.now c.put_over.new.bytes updates there long c.requires.fits c.put_over.ensures;
      keeps = part_keeps old new c.args.index c.args.inner c.args.part.now c.in-Some.piece.now c.put_over.new.bytes updates there long c.requires.fits c.put_over.ensures;
      whole = part_whole old new c.args.index c.args.inner c.args.part.now c.in-Some.piece.now c.put_over.new.bytes updates there long c.requires.fits c.put_over.ensures c.requires.whole;
    }
