-- What the end of a walk to a leaf tells of the map: what was put in or taken out, and what was refused.
use Rattle.std.proofs.Common.{◌≡◌, ℕ, List, refl, sym, subst, ◌∙◌, arith}
use Rattle.std.specs.Prelude.{Option, Result, Ok, Err, IsSome}
use Rattle.bx_base.specs.declared.names.Mode.TheVariants.{Exclusive}
use Rattle.bx_records.specs.Drafts.{Changed}
use Rattle.bx_page.specs.Contents.{Contents, value_of, with_entry}
use Rattle.bx_blink.specs.bx_truth.specs.Chunks.{chunks_of}
use Rattle.bx_blink.specs.bx_truth.specs.PageTrees.{PageTree, map_of, map_without}
use Rattle.bx_blink.specs.bx_views.specs.Truths.{Truth, Held, Hints, with_draft}
use Rattle.bx_blink.specs.declared.error.BlinkError.{BlinkError}
use Rattle.bx_blink.specs.declared.error.BlinkError.TheVariants.{Need, Stale, Full, NoRoom, Absent, Present, OutOfMemory, Crowded}
use Rattle.bx_blink.specs.declared.steps.End.TheVariants.{Lost}
use Rattle.bx_blink.specs.Hints.{Under}
use Rattle.bx_blink.specs.Places.{IsPlaceOf}
use Rattle.bx_blink.specs.Walks.{Reads, reads_with}
use Rattle.bx_blink.proofs.Found.{place}
use Rattle.bx_blink.proofs.Places.{value_here}
use Rattle.bx_blink.proofs.Tired.{never_lost}
use Rattle.bx_blink.proofs.Under.{agrees}
use Rattle.bx_leaves.specs.Leaves.{LeafEnds, IsLeafAt, InsertsAt, RemovesAt}
use Rattle.bx_leaves.specs.Changes.{MakesMap, InsertsIn, RemovesIn}
use Rattle.bx_leaves.proofs.LeafMaps.{inserted, removed}

module _ (areas : ℕ) (held : Held) (hints : Hints) (truth : Truth) (old new : List Changed) (root : ℕ) (tree : PageTree) (key : List ℕ) (u : Under areas held hints truth old root tree) where
  abbrev reads : Reads
  reads = reads_with held hints old

  place_of : (handle : ℕ) (page : Contents) → IsLeafAt (reads_with held hints old) root key handle page → IsPlaceOf tree 0 key handle page
  place_of handle page l =
      place areas reads (chunks_of areas (with_draft truth old)) root tree 0 Exclusive key (agrees areas held hints truth old root tree u) (omega arith) handle page l.end

  value_is : (handle : ℕ) (page : Contents) → IsLeafAt (reads_with held hints old) root key handle page → value_of (map_of tree) key ≡ value_of page.entries key
  value_is handle page l = value_here (chunks_of areas (with_draft truth old)) root tree key handle page u.is (place_of handle page l)

  not_lost : LeafEnds (reads_with held hints old) root key Lost → ⊥
  not_lost e =
      let a = agrees areas held hints truth old root tree u in
      never_lost areas reads (chunks_of areas (with_draft truth old)) root tree 0 Exclusive key a.few a.sees a.is a.hints 61440 refl (omega arith) e

  some_there : (handle : ℕ) (page : Contents) → IsLeafAt (reads_with held hints old) root key handle page → IsSome (value_of page.entries key) → IsSome (value_of (map_of tree) key)
  some_there handle page l some = subst (λ (o : Option (List ℕ)). IsSome o) (sym (value_is handle page l)) some

  pub inserts_in : (value : List ℕ) (result : Result Unit BlinkError) → InsertsAt held hints old new root key value result → InsertsIn areas held hints truth old new root tree key value result
  inserts_in value (Ok done) f =
      let l = ((f.takes).lacks).leaf in (
        value_is f.handle f.page l ∙ ((f.takes).lacks).absent,
        subst (λ (d : List Changed). MakesMap areas held hints truth old d root tree (with_entry (map_of tree) key value)) (sym (f.puts).put)
            (inserted areas held hints truth old root tree u key f.handle f.page (place_of f.handle f.page l) value (f.puts).block (f.puts).header (f.puts).has),
      )
  inserts_in value (Err Present) f = some_there f.0 f.1 (f.2).leaf (f.2).has
  inserts_in value (Err (NoRoom handle)) f = (
    value_is handle f.page (f.lacks).leaf ∙ (f.lacks).absent,
    record { page = f.page; place = place_of handle f.page (f.lacks).leaf; full = f.full },
  )
  inserts_in value (Err Crowded) f = (value_is f.0 f.1 ((f.2).lacks).leaf ∙ ((f.2).lacks).absent, (f.3).many)
  inserts_in value (Err (Need at mode)) f = tt
  inserts_in value (Err OutOfMemory) f = tt
  inserts_in value (Err Stale) f = not_lost f
  inserts_in value (Err (Full spare)) f = f
  inserts_in value (Err Absent) f = f

  pub removes_in : (result : Result Unit BlinkError) → RemovesAt held hints old new root key result → RemovesIn areas held hints truth old new root tree key result
  removes_in (Ok done) f =
      let l = (f.has).leaf in (
        some_there f.handle f.page l (f.has).has,
        subst (λ (d : List Changed). MakesMap areas held hints truth old d root tree (map_without (map_of tree) key)) (sym (f.puts).put)
            (removed areas held hints truth old root tree u key f.handle f.page (place_of f.handle f.page l) (f.puts).block (f.puts).header (f.puts).has),
      )
  removes_in (Err Absent) f = value_is f.0 f.1 (f.2).leaf ∙ (f.2).absent
  removes_in (Err Crowded) f = (some_there f.0 f.1 (f.2).leaf (f.2).has, (f.3).many)
  removes_in (Err (Need at mode)) f = tt
  removes_in (Err OutOfMemory) f = tt
  removes_in (Err Stale) f = not_lost f
  removes_in (Err (Full spare)) f = f
  removes_in (Err (NoRoom leaf)) f = f
  removes_in (Err Present) f = f
