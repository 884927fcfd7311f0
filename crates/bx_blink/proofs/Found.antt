-- What a walk's end tells of the map.
use Rattle.std.proofs.Common.{◌≡◌, ℕ, ◌≤◌, List, [], None, refl, ◌∙◌, arith, inl, inr}
use Rattle.std.specs.Prelude.{Result, Ok, Err, ◌⊎◌}
use Rattle.bx_base.specs.declared.names.Mode.{Mode}
use Rattle.bx_page.specs.Contents.{Contents}
use Rattle.bx_blink.specs.declared.error.BlinkError.{BlinkError}
use Rattle.bx_blink.specs.declared.error.BlinkError.TheVariants.{Need, Stale, Full, NoRoom, Absent, Present, OutOfMemory, Crowded}
use Rattle.bx_blink.specs.declared.steps.End.TheVariants.{Lost, Lands}
use Rattle.bx_truth.specs.PageTrees.{Chunks, PageTree, map_of}
use Rattle.bx_truth.specs.bx_views.specs.Truths.{Held, Hints}
use Rattle.bx_blink.specs.Walks.{Reads, reads_with, Ends, start, most, OnPath}
use Rattle.bx_blink.specs.Places.{IsPlaceOf}
use Rattle.bx_blink.proofs.OnWay.{IsRightEnd}
use Rattle.bx_blink.proofs.Paths.{needs, not_led}
use Rattle.bx_base.specs.declared.names.Mode.TheVariants.{Shared}
use Rattle.bx_blink.specs.Hints.{Agrees}
use Rattle.bx_blink.specs.Answers.{FindsAt, FindsIn, NeedsFairly}
use Rattle.bx_blink.proofs.Rights.{right, on_way}
use Rattle.bx_blink.proofs.Tired.{never_lost}
use Rattle.bx_blink.proofs.Places.{value_here}

module _ (areas : ℕ) (reads : Reads) (chunks : Chunks) (root : ℕ) (tree : PageTree) (target : ℕ) (asked : Mode) (key : List ℕ) (a : Agrees areas reads chunks root tree) (enough : target ≤ tree.height) where
  -- a walk lands at the key's page
  pub place : (handle : ℕ) (page : Contents) → Ends reads target asked key most (start root asked) (Lands handle page) → IsPlaceOf tree target key handle page
  place handle page e = by_end (right areas reads chunks root tree target asked key a.sees a.is a.hints most None (start root asked) (Lands handle page) e (on_way areas reads chunks root tree target asked key a.sees a.is a.hints enough))
    where
      by_end : IsRightEnd tree target key (Lands handle page) ⊎ (Lands handle page ≡ Lost) → IsPlaceOf tree target key handle page
      by_end (inl p) = p
      by_end (inr tired) = absurd cc

pub finds : (areas : ℕ) (reads : Reads) (chunks : Chunks) (root : ℕ) (tree : PageTree) (asked : Mode) (key : List ℕ) (result : Result (List ℕ) BlinkError) → Agrees areas reads chunks root tree
    → FindsAt (Ends reads 0 asked key most (start root asked)) key result → FindsIn (map_of tree) key result
finds areas reads chunks root tree asked key (Ok value) a f = value_here chunks root tree key f.handle f.page a.is (place areas reads chunks root tree 0 asked key a (omega arith) f.handle f.page f.end) ∙ f.value
finds areas reads chunks root tree asked key (Err Absent) a f = value_here chunks root tree key f.handle f.page a.is (place areas reads chunks root tree 0 asked key a (omega arith) f.handle f.page f.end) ∙ f.value
finds areas reads chunks root tree asked key (Err (Need at mode)) a f = tt
finds areas reads chunks root tree asked key (Err Stale) a f = never_lost areas reads chunks root tree 0 asked key a.few a.sees a.is a.hints 61440 refl (omega arith) f
finds areas reads chunks root tree asked key (Err OutOfMemory) a f = tt
finds areas reads chunks root tree asked key (Err (Full spare)) a f = f
finds areas reads chunks root tree asked key (Err (NoRoom leaf)) a f = f
finds areas reads chunks root tree asked key (Err Present) a f = f
finds areas reads chunks root tree asked key (Err Crowded) a f = f

-- what a search needs isn't held, and is on its path
pub fair : (held : Held) (hints : Hints) (root : ℕ) (key : List ℕ) (result : Result (List ℕ) BlinkError)
    → FindsAt (Ends (reads_with held hints []) 0 Shared key most (start root Shared)) key result → NeedsFairly held (OnPath (reads_with held hints []) 0 Shared key most (start root Shared)) result
fair held hints root key (Ok value) f = tt
fair held hints root key (Err (Need at mode)) f =
    let reads : Reads = reads_with held hints [] in
    needs reads 0 Shared key (OnPath reads 0 Shared key most (start root Shared)) most (start root Shared) at mode f (not_led reads (OnPath reads 0 Shared key most (start root Shared)) root Shared) (λ a m o. o)
fair held hints root key (Err Absent) f = tt
fair held hints root key (Err Stale) f = tt
fair held hints root key (Err OutOfMemory) f = tt
fair held hints root key (Err (Full spare)) f = f
fair held hints root key (Err (NoRoom leaf)) f = f
fair held hints root key (Err Present) f = f
fair held hints root key (Err Crowded) f = f
