-- The leaf that a search for a key finds.
use Rattle.std.proofs.Common.{ℕ, List, refl, arith, subst}
use Rattle.std.specs.Prelude.{IfSome, Result, Ok, Err}
use Rattle.bx_base.specs.declared.names.Mode.TheVariants.{Shared}
use Rattle.bx_page.specs.Contents.{Contents, IsInOrder}
use Rattle.bx_page.specs.Keys.{IsBelow}
use Rattle.bx_blink.specs.declared.error.BlinkError.{BlinkError}
use Rattle.bx_blink.specs.declared.error.BlinkError.TheVariants.{Need, Stale, Full, NoRoom, Absent, Present, OutOfMemory, Crowded}
use Rattle.bx_truth.specs.PageTrees.{Chunks, PageTree}
use Rattle.bx_blink.specs.Answers.{NeedsFairly}
use Rattle.bx_blink.specs.Hints.{Agrees}
use Rattle.bx_blink.specs.Leaves.{LandsIn, LeafHas}
use Rattle.bx_blink.specs.Walks.{Reads, Ends, start, most, OnPath}
use Rattle.bx_blink.proofs.Found.{place}
use Rattle.bx_blink.proofs.Leaves.{next_leaf}
use Rattle.bx_blink.proofs.Paths.{needs, not_led}
use Rattle.bx_blink.proofs.Tired.{never_lost}

pub leaf_found : (areas : ℕ) (reads : Reads) (chunks : Chunks) (root : ℕ) (tree : PageTree) (key : List ℕ) (result : Result Contents BlinkError) → Agrees areas reads chunks root tree
    → LandsIn (Ends reads 0 Shared key most (start root Shared)) result → LeafHas tree key result
leaf_found areas reads chunks root tree key (Ok page) a f =
    let p = place areas reads chunks root tree 0 Shared key a (omega arith) f.handle page f.end in
    let node = (a.is.levels 0 p.within).nodes_are p.node p.there in
    record {
      entries = (next_leaf chunks root tree a.is key f.handle page p).entries;
      below = subst (λ (c : Contents). IfSome c.high (IsBelow key)) p.page_is p.to;
      in_order = subst IsInOrder p.page_is (record { rises = node.has.spells.is.rises; below = node.has.spells.is.below });
    }
leaf_found areas reads chunks root tree key (Err (Need at mode)) a f = tt
leaf_found areas reads chunks root tree key (Err Stale) a f = never_lost areas reads chunks root tree 0 Shared key a.few a.sees a.is a.hints 61440 refl (omega arith) f
leaf_found areas reads chunks root tree key (Err OutOfMemory) a f = tt
leaf_found areas reads chunks root tree key (Err Absent) a f = f
leaf_found areas reads chunks root tree key (Err (Full spare)) a f = f
leaf_found areas reads chunks root tree key (Err (NoRoom leaf)) a f = f
leaf_found areas reads chunks root tree key (Err Present) a f = f
leaf_found areas reads chunks root tree key (Err Crowded) a f = f

-- what it needs isn't held, and is on its path
pub leaf_fairly : (reads : Reads) (root : ℕ) (key : List ℕ) (result : Result Contents BlinkError) → LandsIn (Ends reads 0 Shared key most (start root Shared)) result
    → NeedsFairly reads.held (OnPath reads 0 Shared key most (start root Shared)) result
leaf_fairly reads root key (Ok page) f = tt
leaf_fairly reads root key (Err (Need at mode)) f =
    needs reads 0 Shared key (OnPath reads 0 Shared key most (start root Shared)) most (start root Shared) at mode f (not_led reads (OnPath reads 0 Shared key most (start root Shared)) root Shared) (λ a m o. o)
leaf_fairly reads root key (Err Stale) f = tt
leaf_fairly reads root key (Err OutOfMemory) f = tt
leaf_fairly reads root key (Err Absent) f = tt
leaf_fairly reads root key (Err (Full spare)) f = f
leaf_fairly reads root key (Err (NoRoom leaf)) f = f
leaf_fairly reads root key (Err Present) f = f
leaf_fairly reads root key (Err Crowded) f = f
