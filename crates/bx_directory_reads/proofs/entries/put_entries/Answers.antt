use Rattle.std.proofs.Common.{List, subst, sym}
use Rattle.bx_directory_reads.specs.Listings.{IsReached, root_first}
use Rattle.bx_directory_reads.proofs.Along.{ends_so, fills_last, fills_part, goes_right, reaches, starts, stops_so, strays_not}
use Rattle.bx_tree_files.specs.Entries.{above}
use Rattle.bx_directory_reads.proofs.entries.put_entries.Goals as goal

pub leaves-init : goal.leaves-init
leaves-init g c = record {
  done = λ truth names has.
      starts (g.V.View.held c.args.view.now) (g.V.View.hints c.args.view.now) c.args.areas truth c.args.root c.args.cookie names c.args.page.now c.in_ok-key.key has c.ranges.cookie.fits c.in_ok-key.ensures;
  reached = subst (λ (k : List _). IsReached (g.V.View.held c.args.view.now) (g.V.View.hints c.args.view.now) c.args.root c.args.cookie c.args.root k) (sym c.in_ok-key.ensures) root_first;
}

pub returns-in-Err-clause-list : goal.returns-in-Err-clause-list
returns-in-Err-clause-list g c = λ truth names has.
    stops_so c.args.root has.tree (above c.args.cookie names) c.args.page.now c.leaves.page c.leaves.handle c.leaves.key (c.leaves.invariant.done truth names has) c.bytes.result.now c.bytes.ensures
    c.in-Err.stop (c.in-Err.ensures.map truth c.args.root has.tree has.under)

pub returns-in-Ok-None-clause-list : goal.returns-in-Ok-None-clause-list
returns-in-Ok-None-clause-list g c = λ truth names has.
    ends_so c.args.root has.tree (above c.args.cookie names) c.args.page.now c.leaves.page c.leaves.handle c.leaves.key (c.leaves.invariant.done truth names has) c.bytes.result.now c.bytes.ensures
    c.in-Ok-None.field-0 c.in-Ok-None.field-0-is (c.in-Ok-None.ensures.map truth c.args.root has.tree has.under)

pub returns-in-Stray-clause-list : goal.returns-in-Stray-clause-list
returns-in-Stray-clause-list g c = λ truth names has.
    strays_not c.args.root has.tree (above c.args.cookie names) c.args.page.now c.leaves.page c.leaves.handle c.leaves.key (c.leaves.invariant.done truth names has) c.bytes.result.now c.bytes.ensures
    c.in-Ok-Some.from c.in-Ok-Some.leaf c.in-Ok-Some.field-0 c.in-Ok-Some.field-0-is (c.in-Ok-Some.ensures.map truth c.args.root has.tree has.under) c.bytes-in-Ok-Some.result.now c.bytes-in-Ok-Some.ensures
    c.from-in-Ok-Some.result c.from-in-Ok-Some.ensures c.in_ok-put_leaf-in-Ok-Some.field-0 c.put_leaf.new.page c.in_ok-put_leaf-in-Ok-Some.ensures.list
    c.in-Stray.is

pub returns-in-Part-clause-list : goal.returns-in-Part-clause-list
returns-in-Part-clause-list g c = λ truth names has.
    fills_part c.args.root has.tree (above c.args.cookie names) c.args.page.now c.leaves.page c.leaves.handle c.leaves.key (c.leaves.invariant.done truth names has) c.bytes.result.now c.bytes.ensures
    c.in-Ok-Some.from c.in-Ok-Some.leaf c.in-Ok-Some.field-0 c.in-Ok-Some.field-0-is (c.in-Ok-Some.ensures.map truth c.args.root has.tree has.under) c.bytes-in-Ok-Some.result.now c.bytes-in-Ok-Some.ensures
    c.from-in-Ok-Some.result c.from-in-Ok-Some.ensures c.in_ok-put_leaf-in-Ok-Some.field-0 c.put_leaf.new.page c.in_ok-put_leaf-in-Ok-Some.ensures.list
    c.in-Part.is

pub returns-in-None-clause-list : goal.returns-in-None-clause-list
returns-in-None-clause-list g c = λ truth names has.
    fills_last c.args.root has.tree (above c.args.cookie names) c.args.page.now c.leaves.page c.leaves.handle c.leaves.key (c.leaves.invariant.done truth names has) c.bytes.result.now c.bytes.ensures
    c.in-Ok-Some.from c.in-Ok-Some.leaf c.in-Ok-Some.field-0 c.in-Ok-Some.field-0-is (c.in-Ok-Some.ensures.map truth c.args.root has.tree has.under) c.bytes-in-Ok-Some.result.now c.bytes-in-Ok-Some.ensures
    c.from-in-Ok-Some.result c.from-in-Ok-Some.ensures c.in_ok-put_leaf-in-Ok-Some.field-0 c.put_leaf.new.page c.in_ok-put_leaf-in-Ok-Some.ensures.list
    c.in-All.is c.in-None.ensures

pub leaves-preserved : goal.leaves-preserved
leaves-preserved g c = record {
  done = λ truth names has.
      goes_right c.args.root has.tree (above c.args.cookie names) c.args.page.now c.leaves.page c.leaves.handle c.leaves.key (c.leaves.invariant.done truth names has) c.bytes.result.now c.bytes.ensures
      c.in-Ok-Some.from c.in-Ok-Some.leaf c.in-Ok-Some.field-0 c.in-Ok-Some.field-0-is (c.in-Ok-Some.ensures.map truth c.args.root has.tree has.under) c.bytes-in-Ok-Some.result.now c.bytes-in-Ok-Some.ensures
      c.from-in-Ok-Some.result c.from-in-Ok-Some.ensures c.in_ok-put_leaf-in-Ok-Some.field-0 c.put_leaf.new.page c.in_ok-put_leaf-in-Ok-Some.ensures.list
      c.in-All.is c.in-Some.high.now c.in-Some.ensures c.right-handle.result c.right-handle.ensures c.in_ok-key-in-Some.key c.in_ok-key-in-Some.ensures;
  reached =
      reaches (g.V.View.held c.args.view.now) (g.V.View.hints c.args.view.now) c.args.root c.args.cookie c.leaves.handle c.leaves.key c.bytes.result.now c.in-Ok-Some.from c.in-Ok-Some.leaf c.in-Ok-Some.field-0
      c.leaves.invariant.reached c.bytes.ensures c.in-Ok-Some.field-0-is c.in-Ok-Some.ensures.finds c.in-Some.high.now c.in-Some.ensures c.right-handle.result c.right-handle.ensures c.in_ok-key-in-Some.key c.in_ok-key-in-Some.ensures;
}
