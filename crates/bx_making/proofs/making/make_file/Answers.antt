use Rattle.std.proofs.Common.{List, subst, inl, inr, Ok, Err}
use Rattle.bx_records.specs.Drafts.{Changed}
use Rattle.bx_chunks.specs.Allocating.{AllocatesAt}
use Rattle.bx_making.proofs.Steps.{fills_same}
use Rattle.bx_making.proofs.making.make_file.Goals as goal

pub returns-in-Err-allocate-clause-at : goal.returns-in-Err-allocate-clause-at
returns-in-Err-allocate-clause-at g c = inr (inl (record {
  handle = c.in-Ok.handle;
  one = c.allocate.new.draft;
  first = subst (λ (d : List Changed). AllocatesAt (g.V.View.held c.args.view.now) d c.allocate.new.draft c.args.near.0 c.args.near.1 (Ok c.in-Ok.handle)) (c.in_ok-next.ensures c.blocks-blocks.ensures.draft) c.in-Ok.ensures.at;
  second = subst (λ (d : List Changed). AllocatesAt (g.V.View.held c.args.view.now) c.allocate.new.draft d c.args.near.0 c.args.near.1 (Err c.in-Err-allocate.error)) c.in-Err-allocate.ensures.err c.in-Err-allocate.ensures.at;
}))

pub returns-in-Err-fill-clause-at : goal.returns-in-Err-fill-clause-at
returns-in-Err-fill-clause-at g c = inr (inr (record {
  handle = c.in-Ok.handle;
  one = c.allocate.new.draft;
  first = subst (λ (d : List Changed). AllocatesAt (g.V.View.held c.args.view.now) d c.allocate.new.draft c.args.near.0 c.args.near.1 (Ok c.in-Ok.handle)) (c.in_ok-next.ensures c.blocks-blocks.ensures.draft) c.in-Ok.ensures.at;
  page = c.in-Ok-allocate.page;
  two = c.allocate-2.new.draft;
  second = c.in-Ok-allocate.ensures.at;
  fills = fills_same c.allocate-2.new.draft c.fill.new.draft c.in-Ok.handle c.in-Ok-allocate.page c.args.inode c.in-Err-fill.error c.in-Err-fill.ensures;
}))

pub returns-in-Ok-fill-clause-at : goal.returns-in-Ok-fill-clause-at
returns-in-Ok-fill-clause-at g c = record {
  one = c.allocate.new.draft;
  first = subst (λ (d : List Changed). AllocatesAt (g.V.View.held c.args.view.now) d c.allocate.new.draft c.args.near.0 c.args.near.1 (Ok c.in-Ok.handle)) (c.in_ok-next.ensures c.blocks-blocks.ensures.draft) c.in-Ok.ensures.at;
  page = c.in-Ok-allocate.page;
  two = c.allocate-2.new.draft;
  second = c.in-Ok-allocate.ensures.at;
  fills = c.in-Ok-fill.ensures;
}
