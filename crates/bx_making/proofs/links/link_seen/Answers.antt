use Rattle.std.proofs.Common.{List, length, subst, ap, arith, refl, inr, Ok}
use Rattle.bx_records.specs.Drafts.{Changed}
use Rattle.bx_chunks.specs.Allocating.{AllocatesAt}
use Rattle.bx_making.proofs.links.link_seen.Goals as goal

pub returns-then-blocks-ge-MOST_BLOCKS-clause-at : goal.returns-then-blocks-ge-MOST_BLOCKS-clause-at
returns-then-blocks-ge-MOST_BLOCKS-clause-at g c =
    let full = c.if-blocks-ge-MOST_BLOCKS.true in
    let e = ap length c.blocks-2.ensures.is in
    inr (
      refl,
      record {
        handle = c.in-Ok.handle;
        one = c.allocate.new.draft;
        first = subst (λ (d : List Changed). AllocatesAt (g.V.View.held c.args.view.now) d c.allocate.new.draft c.args.near.0 c.args.near.1 (Ok c.in-Ok.handle)) (c.in_ok-next.ensures c.blocks-blocks.ensures.draft) c.in-Ok.ensures.at;
        many = omega (arith, full, e);
      },
    )

pub put_inode-requires-clause-room : goal.put_inode-requires-clause-room
put_inode-requires-clause-room g c = let less = c.if-blocks-ge-MOST_BLOCKS.false in let e = ap length c.blocks-2.ensures.is in omega (arith, less, e)

pub returns-clause-at : goal.returns-clause-at
returns-clause-at g c = record {
  one = c.allocate.new.draft;
  first = subst (λ (d : List Changed). AllocatesAt (g.V.View.held c.args.view.now) d c.allocate.new.draft c.args.near.0 c.args.near.1 (Ok c.in-Ok.handle)) (c.in_ok-next.ensures c.blocks-blocks.ensures.draft) c.in-Ok.ensures.at;
  puts = c.in_ok-put_inode.ensures.puts;
}
