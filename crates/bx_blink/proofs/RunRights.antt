-- A run in a tree ends with the first entry from its key on, or needs a block: one step.
use Rattle.std.proofs.Common.{◌≡◌, ℕ, Bool, true, false, eqb, List, [], Option, Some, None, refl, sym, ap, subst, ◌∙◌, arith}
use Rattle.bx_base.specs.declared.names.Mode.{Mode}
use Rattle.bx_base.specs.declared.names.Mode.TheVariants.{Shared}
use Rattle.bx_page.specs.declared.entry.Entry.{Entry}
use Rattle.bx_page.specs.Keys.{IsBelow}
use Rattle.bx_page.specs.Contents.{Contents, first, from}
use Rattle.bx_page.proofs.Order.{not_below_itself, not_below_back}
use Rattle.bx_page.proofs.Whole.{one_page}
use Rattle.bx_blink.specs.declared.steps.Spot.{Spot}
use Rattle.bx_blink.specs.declared.steps.Found.{Found}
use Rattle.bx_blink.specs.declared.steps.Found.TheVariants.{Held}
use Rattle.bx_blink.specs.declared.steps.End.TheVariants.{Needs, Lost, Lands}
use Rattle.bx_blink.specs.declared.steps.Out.{Out}
use Rattle.bx_blink.specs.declared.steps.Out.TheVariants.{Goes, Stops}
use Rattle.bx_blink.specs.declared.runs.RunEnd.{RunEnd}
use Rattle.bx_blink.specs.declared.runs.RunEnd.TheVariants.{Wants, Broken, First, Nothing}
use Rattle.bx_blink.specs.declared.runs.Turn.{Turn}
use Rattle.bx_blink.specs.declared.runs.Turn.TheVariants.{Moves, Rests}
use Rattle.bx_truth.specs.Chunks.{block_at}
use Rattle.bx_truth.specs.PageTrees.{Chunks, PageTree, IsTree, map_of}
use Rattle.bx_blink.specs.Walks.{Reads, Finds, passes, mode_at, decide}
use Rattle.bx_blink.specs.Runs.{at_leaf, follow}
use Rattle.bx_blink.specs.Hints.{Sees, Place, HintsAgree}
use Rattle.bx_blink.specs.Leaves.{IsNextLeaf}
use Rattle.bx_blink.specs.Places.{IsPlaceOf}
use Rattle.bx_blink.proofs.OnWay.{IsOnWay, After}
use Rattle.bx_blink.proofs.FromPages.{from_page}
use Rattle.bx_blink.proofs.Rights.{stands, chunk_of, has_page, step}
use Rattle.bx_blink.proofs.Leaves.{here, next_leaf, nowhere, beyond}
use Rattle.bx_blink.proofs.Visits.{headed, header_of, headed_held}
use Rattle.bx_blink.proofs.Landed.{lands_here}

-- an entry is the first from a key on, and in the next leaf
pub record Starts (tree : PageTree) (key other : List ℕ) (page : Contents) (entry : Entry) : Type 0 where
  pub first_is : first (from (map_of tree) key) ≡ Some entry
  pub leaf : IsNextLeaf tree key other page

-- the first entry from a key on, or none
abbrev pub IsFirst : PageTree → List ℕ → RunEnd → Type 0
IsFirst tree key (Wants at mode) = Unit {0}
IsFirst tree key Broken = ⊥
IsFirst tree key (First other page entry) = Starts tree key other page entry
IsFirst tree key Nothing = from (map_of tree) key ≡ []

-- a run goes on from a page, behind it, with a key from which on there are the same entries
pub record Onwards (reads : Reads) (home : ℕ → Option Place) (root most : ℕ) (tree : PageTree) (here : Place) (spot : Spot) (key other : List ℕ) (next : Spot) : Type 0 where
  pub way : IsOnWay home root most tree 0 other (Some here) next
  pub same : from (map_of tree) key ≡ from (map_of tree) other
  pub header : headed reads (block_at spot.handle) ≡ Some spot.handle

abbrev pub Turned : Reads → (ℕ → Option Place) → ℕ → ℕ → PageTree → Place → Spot → List ℕ → Turn → Type 0
Turned reads home root most tree here spot key (Moves other next) = Onwards reads home root most tree here spot key other next
Turned reads home root most tree here spot key (Rests end) = IsFirst tree key end

mode_shared : (level : ℕ) → mode_at 0 Shared level ≡ Shared
mode_shared level = by_test (eqb level 0) refl
  where
    by_test : (t : Bool) → eqb level 0 ≡ t → mode_at 0 Shared level ≡ Shared
    by_test true e = rw e refl
    by_test false e = rw e refl

module _ (areas : ℕ) (reads : Reads) (chunks : Chunks) (root : ℕ) (tree : PageTree) (key : List ℕ) (sees : Sees areas reads chunks) (is : IsTree chunks root tree) (hints : HintsAgree areas reads.hint chunks root tree) where
  moved : (rank : ℕ) (high b begins : List ℕ) (node page : Contents) → node ≡ page → b ≡ begins
      → IsOnWay hints.home root hints.most tree 0 high (Some (record { level = rank; begins = b })) (record { handle = node.right; via = None; mode = mode_at 0 Shared node.level })
      → IsOnWay hints.home root hints.most tree 0 high (Some (record { level = rank; begins = begins })) (record { handle = page.right; via = None; mode = Shared })
  moved rank high b begins node page same at_key way =
      subst (λ (k : List ℕ). IsOnWay hints.home root hints.most tree 0 high (Some (record { level = rank; begins = k })) (record { handle = page.right; via = None; mode = Shared })) at_key
      (subst (λ (m : Mode). IsOnWay hints.home root hints.most tree 0 high (Some (record { level = rank; begins = b })) (record { handle = page.right; via = None; mode = m })) (mode_shared page.level)
      (subst (λ (c : Contents). IsOnWay hints.home root hints.most tree 0 high (Some (record { level = rank; begins = b })) (record { handle = c.right; via = None; mode = mode_at 0 Shared c.level })) same way))

  -- at a leaf that has no entry from the key on, a run goes to the right with its high key
  right_of : (low : Option Place) (spot : Spot) (page : Contents) (high : List ℕ) → Finds reads 0 spot (Held page) → (w : IsOnWay hints.home root hints.most tree 0 key low spot) → page.level ≡ 0 → page.high ≡ Some high
      → IsOnWay hints.home root hints.most tree 0 high (Some (record { level = w.rank; begins = w.begins })) (record { handle = page.right; via = None; mode = Shared })
  right_of low spot page high f w leaf is_high =
      let chunk = chunk_of areas reads chunks root tree 0 Shared key sees is hints spot w.level w.begins f.block w.onto f.there (f.is).0 in
      let s = stands areas reads chunks root tree 0 Shared key sees is hints spot w.level w.begins f.block w.onto chunk in
      let has = has_page areas reads chunks root tree 0 Shared key sees is hints spot w.level w.begins f.block s chunk in
      let same : (s.node).page ≡ page = one_page (s.node).page page (f.block).payload has.spells ((f.is).1).spells in
      let nd = (is.levels w.level s.within).nodes_are s.node s.there in
      let node_high : (s.node).page.high ≡ Some high = ap (λ (c : Contents). c.high) same ∙ is_high in
      let above : IsBelow (s.node).begins high = rw node_high at nd.highest in
      let goes : passes (s.node).page high ≡ true = rw (node_high, not_below_itself high) refl in
      let after = from_page areas reads chunks root tree 0 Shared high is hints spot w.rank w.level s.node w.ranked s.within s.there s.handle_is (omega arith) (not_below_back (s.node).begins high above) true goes (eqb (s.node).page.level 0) refl in
      moved w.rank high (s.node).begins w.begins (s.node).page page same s.begins_is (rw goes at after)

  -- one step of a run
  pub run_step : (low : Option Place) (spot : Spot) (found : Found) → Finds reads 0 spot found → (w : IsOnWay hints.home root hints.most tree 0 key low spot)
      → Turned reads hints.home root hints.most tree (record { level = w.rank; begins = w.begins }) spot key (follow key (decide 0 Shared key spot found))
  run_step low spot found f w = by_out (decide 0 Shared key spot found) refl (step areas reads chunks root tree 0 Shared key sees is hints low spot found f w)
    where
      place : Place
      place = record { level = w.rank; begins = w.begins }

      by_leaf : (handle : ℕ) (page : Contents) → Finds reads 0 spot (Held page) → IsPlaceOf tree 0 key handle page → page.level ≡ 0 → (o : Option Entry) → first (from page.entries key) ≡ o → (high : Option (List ℕ)) → page.high ≡ high
          → Turned reads hints.home root hints.most tree (record { level = w.rank; begins = w.begins }) spot key (at_leaf key page o high)
      by_leaf handle page g p leaf (Some entry) e high is_high = record { first_is = here chunks root tree is key handle page entry p e; leaf = next_leaf chunks root tree is key handle page p }
      by_leaf handle page g p leaf None e None is_high = nowhere chunks root tree is key handle page p e is_high
      by_leaf handle page g p leaf None e (Some high) is_high = record { way = right_of low spot page high g w leaf is_high; same = beyond chunks root tree is key handle page high p e is_high; header = headed_held reads spot page g }

      by_out : (out : Out) → decide 0 Shared key spot found ≡ out → After hints.home root hints.most tree 0 key (record { level = w.rank; begins = w.begins }) out
          → Turned reads hints.home root hints.most tree (record { level = w.rank; begins = w.begins }) spot key (follow key out)
      by_out (Goes next) e a = record { way = a; same = refl; header = header_of reads 0 Shared key spot next found f e }
      by_out (Stops (Needs at mode)) e a = tt
      by_out (Stops Lost) e a = absurd a
      by_out (Stops (Lands handle page)) e a =
          let h = lands_here reads 0 Shared key spot found handle page f e in
          by_leaf handle page (subst (λ (x : Found). Finds reads 0 spot x) h.found_is f) a (leaf_level handle page a) (first (from page.entries key)) refl page.high refl
        where
          leaf_level : (handle : ℕ) (page : Contents) → IsPlaceOf tree 0 key handle page → page.level ≡ 0
          leaf_level handle page p = ap (λ (c : Contents). c.level) (sym p.page_is) ∙ ((is.levels 0 p.within).nodes_are p.node p.there).same_level
