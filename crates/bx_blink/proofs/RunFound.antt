-- A run in a tree ends with the first entry from its key on, or needs a block; it never passes more pages than a volume has slots.
use Rattle.std.proofs.Common.{◌≡◌, ℕ, zero, suc, ◌+◌, ◌≤◌, List, [], ◌∷◌, length, Option, Some, None, refl, sym, ap, subst, ◌∙◌, arith, inl, inr}
use Rattle.std.specs.Prelude.{Result, Ok, Err}
use Rattle.std.specs.List.{AllByRecursion}
use Rattle.bx_base.specs.declared.names.Mode.TheVariants.{Shared}
use Rattle.bx_page.specs.Contents.{Contents, first, from}
use Rattle.bx_blink.specs.declared.error.BlinkError.{BlinkError}
use Rattle.bx_blink.specs.declared.error.BlinkError.TheVariants.{Need, Stale, Full, NoRoom, Absent, Present, OutOfMemory, Crowded}
use Rattle.bx_blink.specs.declared.steps.Spot.{Spot}
use Rattle.bx_blink.specs.declared.runs.RunEnd.{RunEnd}
use Rattle.bx_blink.specs.declared.runs.RunEnd.TheVariants.{Wants, Broken, First, Nothing}
use Rattle.bx_blink.specs.declared.runs.Turn.{Turn}
use Rattle.bx_blink.specs.declared.runs.Turn.TheVariants.{Moves, Rests}
use Rattle.bx_truth.specs.PageTrees.{Chunks, PageTree, IsTree, map_of}
use Rattle.bx_blink.specs.Walks.{Reads, decide, start, most}
use Rattle.bx_blink.specs.Runs.{follow, Turns, Runs, NextAt, NextIn}
use Rattle.bx_blink.specs.Hints.{Sees, Place, HintsAgree, Agrees}
use Rattle.bx_blink.specs.Leaves.{BeginsAt, LeafAt, LeafIn}
use Rattle.bx_blink.proofs.Begins.{Begun, at_leaf, at_root, begun}
use Rattle.bx_blink.proofs.OnWay.{Behind, IsOnWay}
use Rattle.bx_blink.proofs.Rights.{on_way}
use Rattle.bx_blink.proofs.RunRights.{IsFirst, Turned, run_step}
use Rattle.bx_blink.proofs.Visits.{Visit, Was, numbers, length_numbers, slot_of_spot, apart, later, below_all}
use Rattle.bx_blink.proofs.Pigeons.{Distinct, pigeons}

-- with a key from which on there are the same entries, the first entry is the same
same_first : (tree : PageTree) (key other : List ℕ) (end : RunEnd) → from (map_of tree) key ≡ from (map_of tree) other → IsFirst tree other end → IsFirst tree key end
same_first tree key other (Wants at mode) same f = tt
same_first tree key other Broken same f = f
same_first tree key other (First last page entry) same f = record { first_is = ap first same ∙ f.first_is; leaf = record { entries = same ∙ f.leaf.entries; onward = f.leaf.onward } }
same_first tree key other Nothing same f = same ∙ f

module _ (areas : ℕ) (reads : Reads) (chunks : Chunks) (root : ℕ) (tree : PageTree) (few : areas ≤ 64) (sees : Sees areas reads chunks) (is : IsTree chunks root tree) (hints : HintsAgree areas reads.hint chunks root tree) where
  runs_on : (n : ℕ) (p : Place) (key : List ℕ) (spot : Spot) (end : RunEnd) → Runs reads n key spot end → (w : IsOnWay hints.home root hints.most tree 0 key (Some p) spot) → (vs : List Visit) → AllByRecursion (Was areas reads hints.home root w.level w.begins) vs
      → Distinct (numbers vs) → length vs + n ≡ 61441 → IsFirst tree key end
  unfolding Runs numbers
  runs_on zero p key spot end e w vs a d count = absurd (let most = pigeons 61440 (numbers vs) d (below_all areas reads chunks root tree 0 Shared key few sees is hints vs w.level w.begins a) in omega (arith, most, length_numbers vs, count))
  runs_on (suc n) p key spot end e w vs a d count = by_turn (follow key (decide 0 Shared key spot e.0)) e.2 (run_step areas reads chunks root tree key sees is hints (Some p) spot e.0 e.1 w)
      (λ other next f wn us au du c. runs_on n (record { level = w.rank; begins = w.begins }) other next end f wn us au du c)
    where
      by_turn : (t : Turn) → Turns (λ k s. Runs reads n k s end) end t → Turned reads hints.home root hints.most tree (record { level = w.rank; begins = w.begins }) spot key t
          → ((other : List ℕ) (next : Spot) → Runs reads n other next end → (wn : IsOnWay hints.home root hints.most tree 0 other (Some (record { level = w.rank; begins = w.begins })) next) → (us : List Visit) → AllByRecursion (Was areas reads hints.home root wn.level wn.begins) us → Distinct (numbers us) → length us + n ≡ 61441 → IsFirst tree other end)
          → IsFirst tree key end
      by_turn (Rests here) f turned rest = subst (λ (x : RunEnd). IsFirst tree key x) (sym f) turned
      by_turn (Moves other next) f turned rest =
          let after = turned.way in
          let s = slot_of_spot areas reads chunks root tree 0 Shared key few sees is hints (Some p) spot w in
          let v : Visit = record { handle = spot.handle; place = record { level = w.rank; begins = w.begins } } in
          let behind : Behind (record { level = w.level; begins = w.begins }) after.level after.begins = subst (λ (k : ℕ). Behind (record { level = k; begins = w.begins }) after.level after.begins) (w.since).2 (after.since).0 in
          same_first tree key other end turned.same
          (rest other next f after (v ∷ vs) (
            record { slot = s; header = turned.header; homed = inl ((w.since).1 ∙ ap (λ (k : ℕ). Some (record { level = k; begins = w.begins })) (sym (w.since).2)); behind = (after.since).0 },
            later areas reads chunks root tree 0 Shared key few sees is hints w.level w.begins after.level after.begins behind vs a,
          )
          (apart areas reads chunks root tree 0 Shared key few sees is hints w.level w.begins spot.handle s turned.header (w.since).1 vs a, d)
          (omega (arith, count)))

  pub runs_right : (n : ℕ) → n ≡ 61440 → (key : List ℕ) (end : RunEnd) → Runs reads (suc n) key (start root Shared) end → IsFirst tree key end
  unfolding Runs numbers
  runs_right n many key end e =
      let w = on_way areas reads chunks root tree 0 Shared key sees is hints (omega arith) in
      by_turn w (follow key (decide 0 Shared key (start root Shared) e.0)) e.2 (run_step areas reads chunks root tree key sees is hints None (start root Shared) e.0 e.1 w)
    where
      by_turn : (w : IsOnWay hints.home root hints.most tree 0 key None (start root Shared)) → (t : Turn) → Turns (λ k s. Runs reads n k s end) end t → Turned reads hints.home root hints.most tree (record { level = w.rank; begins = w.begins }) (start root Shared) key t → IsFirst tree key end
      by_turn w (Rests here) f turned = subst (λ (x : RunEnd). IsFirst tree key x) (sym f) turned
      by_turn w (Moves other next) f turned =
          let after = turned.way in
          let v : Visit = record { handle = root; place = record { level = w.rank; begins = w.begins } } in
          same_first tree key other end turned.same
          (runs_on n (record { level = w.rank; begins = w.begins }) other next end f after (v ∷ [])
          (record { slot = slot_of_spot areas reads chunks root tree 0 Shared key few sees is hints None (start root Shared) w; header = turned.header; homed = inr refl; behind = (after.since).0 }, tt)
          (tt, tt)
          (omega (arith, many)))

  -- so does one that begins at a leaf
  pub runs_from : (key : List ℕ) (handle : ℕ) (end : RunEnd) → BeginsAt root tree key handle → Runs reads most key (start handle Shared) end → IsFirst tree key end
  unfolding numbers
  runs_from key handle end b e = by_begun (begun areas reads chunks root tree is hints key handle b)
    where
      by_begun : Begun hints.home root hints.most tree key handle → IsFirst tree key end
      by_begun (at_root here) = runs_right 61440 refl key end (subst (λ (h : ℕ). Runs reads most key (start h Shared) end) here e)
      by_begun (at_leaf p w) = runs_on 61441 p key (start handle Shared) end e w [] tt tt refl

pub next_in : (areas : ℕ) (reads : Reads) (chunks : Chunks) (root : ℕ) (tree : PageTree) (key : List ℕ) (result : Result (Option (List ℕ × List ℕ)) BlinkError) → Agrees areas reads chunks root tree
    → NextAt (Runs reads most key (start root Shared)) result → NextIn (map_of tree) key result
next_in areas reads chunks root tree key (Ok (Some entry)) a f = (runs_right areas reads chunks root tree a.few a.sees a.is a.hints 61440 refl key (First f.key f.page (record { key = entry.0; value = entry.1 })) f.end).first_is
next_in areas reads chunks root tree key (Ok None) a f = ap first (runs_right areas reads chunks root tree a.few a.sees a.is a.hints 61440 refl key Nothing f)
next_in areas reads chunks root tree key (Err (Need at mode)) a f = tt
next_in areas reads chunks root tree key (Err Stale) a f = runs_right areas reads chunks root tree a.few a.sees a.is a.hints 61440 refl key Broken f
next_in areas reads chunks root tree key (Err OutOfMemory) a f = tt
next_in areas reads chunks root tree key (Err Absent) a f = f
next_in areas reads chunks root tree key (Err (Full spare)) a f = f
next_in areas reads chunks root tree key (Err (NoRoom leaf)) a f = f
next_in areas reads chunks root tree key (Err Present) a f = f
next_in areas reads chunks root tree key (Err Crowded) a f = f

module _ (areas : ℕ) (reads : Reads) (chunks : Chunks) (root : ℕ) (tree : PageTree) (key : List ℕ) (handle : ℕ) (a : Agrees areas reads chunks root tree) (begins : BeginsAt root tree key handle) where
  so : (end : RunEnd) → Runs reads most key (start handle Shared) end → IsFirst tree key end
  so end e = runs_from areas reads chunks root tree a.few a.sees a.is a.hints key handle end begins e

  pub leaf_in : (result : Result (Option (List ℕ × Contents)) BlinkError) → LeafAt (Runs reads most key (start handle Shared)) result → LeafIn tree key result
  leaf_in (Ok (Some found)) f = (so (First found.0 found.1 f.entry) f.end).leaf
  leaf_in (Ok None) f = so Nothing f
  leaf_in (Err (Need at mode)) f = tt
  leaf_in (Err Stale) f = so Broken f
  leaf_in (Err OutOfMemory) f = tt
  leaf_in (Err Absent) f = f
  leaf_in (Err (Full spare)) f = f
  leaf_in (Err (NoRoom leaf)) f = f
  leaf_in (Err Present) f = f
  leaf_in (Err Crowded) f = f
