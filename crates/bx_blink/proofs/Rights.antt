-- A walk in a tree ends at the key's page, or needs a block.
use Rattle.std.proofs.Common.{◌≡◌, ℕ, zero, suc, ◌<◌, ◌≤◌, eqb, List, [], ◌∷◌, Option, Some, None, refl, sym, ap, subst, ◌∙◌, arith, inl, inr}
use Rattle.std.specs.Prelude.{◌⊎◌}
use Rattle.std.proofs.lemmas.Bool.{cases_lt}
use Rattle.bx_base.specs.declared.names.Mode.{Mode}
use Rattle.bx_base.specs.declared.names.Mode.TheVariants.{Shared}
use Rattle.bx_truth.specs.bx_layout.specs.declared.block.Block.{Block}
use Rattle.bx_page.specs.Contents.{Contents}
use Rattle.bx_page.proofs.Whole.{one_page}
use Rattle.bx_blink.specs.declared.steps.Spot.{Spot}
use Rattle.bx_blink.specs.declared.steps.Found.{Found}
use Rattle.bx_blink.specs.declared.steps.Found.TheVariants.{Missing, Strays, NoPage, Held, Hinted}
use Rattle.bx_blink.specs.declared.steps.End.{End}
use Rattle.bx_blink.specs.declared.steps.End.TheVariants.{Lost}
use Rattle.bx_blink.specs.declared.steps.Out.{Out}
use Rattle.bx_blink.specs.declared.steps.Out.TheVariants.{Goes, Stops}
use Rattle.bx_truth.specs.PageTrees.{Chunks, Node, IsIn, HasPage, PageTree, IsTree}
use Rattle.bx_blink.specs.Walks.{Reads, IsTaken, Finds, passes, onward, strayed, decide, Follows, Ends, start}
use Rattle.bx_truth.specs.Chunks.{block_at}
use Rattle.bx_blink.specs.Hints.{Sees, Place, IsOld, PlaceStands, HintsAgree}
use Rattle.bx_blink.proofs.OnWay.{Onto, known, old, IsOnWay, After, IsRightEnd}
use Rattle.bx_blink.proofs.Handles.{alone, le_same, le_le_nat, handle_is, not_below_empty}
use Rattle.bx_blink.proofs.FromPages.{from_page}
use Rattle.bx_blink.proofs.FromHints.{from_hint}

module _ (areas : ℕ) (reads : Reads) (chunks : Chunks) (root : ℕ) (tree : PageTree) (target : ℕ) (asked : Mode) (key : List ℕ) (sees : Sees areas reads chunks) (is : IsTree chunks root tree) (hints : HintsAgree areas reads.hint chunks root tree) where
  -- a page in use that a walk is at is a page of the tree
  pub stands : (spot : Spot) (level : ℕ) (begins : List ℕ) (block : Block) → Onto hints.home tree spot level begins → chunks spot.handle ≡ Some block → PlaceStands tree spot.handle (record { level = level; begins = begins })
  stands spot level begins block (known node there within handle_is begins_is) chunk = record { node = node; within = within; there = there; handle_is = handle_is; begins_is = begins_is }
  stands spot level begins block (old via via_is home_is) chunk = hints.stands spot.handle (record { level = level; begins = begins }) block home_is chunk

  -- a held block whose header names the handle is its chunk
  pub chunk_of : (spot : Spot) (level : ℕ) (begins : List ℕ) (block : Block) → Onto hints.home tree spot level begins → reads.held (block_at spot.handle) Shared ≡ Some block → block.handle ≡ spot.handle → chunks spot.handle ≡ Some block
  chunk_of spot level begins block (known node there within handle_is begins_is) held header =
      let nd = (is.levels level within).nodes_are node there in
      let chunk : chunks spot.handle ≡ Some nd.block = ap chunks (sym handle_is) ∙ nd.chunk in
      chunk ∙ ap Some (sym (sees.same spot.handle Shared block nd.block held chunk))
  chunk_of spot level begins block (old via via_is home_is) held header = sees.named spot.handle Shared block (hints.names spot.handle (record { level = level; begins = begins }) home_is) held header

  -- its block is that page
  pub has_page : (spot : Spot) (level : ℕ) (begins : List ℕ) (block : Block) (s : PlaceStands tree spot.handle (record { level = level; begins = begins })) → chunks spot.handle ≡ Some block → HasPage (s.node).page block
  has_page spot level begins block s chunk =
      let nd = (is.levels level s.within).nodes_are s.node s.there in
      let both : Some nd.block ≡ Some block = sym nd.chunk ∙ ap chunks s.handle_is ∙ chunk in
      let same : nd.block ≡ block = cc in
      subst (λ (b : Block). HasPage (s.node).page b) same nd.has

  -- a hint that is taken is an old page
  is_old : (spot : Spot) (rank level : ℕ) (begins : List ℕ) (page : Contents) → level ≤ rank → (spot.handle ≡ root → hints.most ≤ rank) → Onto hints.home tree spot level begins → IsTaken reads target spot page → (page.level ≤ rank) × IsOld hints.home begins page
  is_old spot rank level begins page ranked rooted (old via via_is home_is) t =
      let h = hints.hints spot.handle (record { level = level; begins = begins }) t.block page home_is t.there t.header t.has (omega (arith, t.above)) in
      (le_same page.level level rank h.0 ranked, h.1)
  is_old spot rank level begins page ranked rooted (known node there within handle_is begins_is) t = by_level (cases_lt level tree.height)
    where
      by_level : (level < tree.height) ⊎ (tree.height ≤ level) → (page.level ≤ rank) × IsOld hints.home begins page
      by_level (inl lt) =
          let place = hints.placed level node lt there in
          let home_is : hints.home spot.handle ≡ Some (record { level = level; begins = begins }) = rw (handle_is, begins_is) at place in
          let h = hints.hints spot.handle (record { level = level; begins = begins }) t.block page home_is t.there t.header t.has (omega (arith, t.above)) in
          (le_same page.level level rank h.0 ranked, h.1)
      by_level (inr ge) =
          let same : level ≡ tree.height = omega arith in
          let at_top : IsIn node (is.top ∷ []) = rw is.root_alone at (subst (λ (l : ℕ). IsIn node (tree.level l)) same there) in
          let node_is : node ≡ is.top = alone node is.top at_top in
          let chain = rw is.root_alone at (is.levels tree.height (omega arith)).chain in
          let empty : begins ≡ [] = sym begins_is ∙ ap (λ (n : Node). n.begins) node_is ∙ chain.0 in
          let at_root : root ≡ spot.handle = sym is.root_is ∙ ap (λ (n : Node). n.handle) (sym node_is) ∙ handle_is in
          let h = hints.root_hints t.block page (subst (λ (h : ℕ). reads.hint (block_at h) ≡ Some t.block) (sym at_root) t.there) (t.header ∙ sym at_root) t.has (omega (arith, t.above)) in
          (le_le_nat page.level hints.most rank h.0 (rooted (sym at_root)), subst (λ (k : List ℕ). IsOld hints.home k page) (sym empty) h.1)

  -- one step
  pub step : (low : Option Place) (spot : Spot) (found : Found) → Finds reads target spot found → (w : IsOnWay hints.home root hints.most tree target key low spot) → After hints.home root hints.most tree target key (record { level = w.rank; begins = w.begins }) (decide target asked key spot found)
  step low spot Missing f w = tt
  step low spot Strays f w = by_onto w.onto
    where
      by_onto : Onto hints.home tree spot w.level w.begins → IsRightEnd tree target key (strayed spot.via)
      by_onto (known node there within handle_is begins_is) =
          let nd = (is.levels w.level within).nodes_are node there in
          let chunk : chunks spot.handle ≡ Some nd.block = ap chunks (sym handle_is) ∙ nd.chunk in
          let same : f.block ≡ nd.block = sees.same spot.handle Shared f.block nd.block f.there chunk in
          absurd (f.is (ap (λ (b : Block). b.handle) same ∙ sees.header spot.handle nd.block chunk))
      by_onto (old via via_is home_is) = rw via_is tt
  step low spot NoPage f w =
      let chunk = chunk_of spot w.level w.begins f.block w.onto f.there (f.is).0 in
      let s = stands spot w.level w.begins f.block w.onto chunk in
      (f.is).1 (s.node).page (has_page spot w.level w.begins f.block s chunk)
  step low spot (Held page) f w =
      let chunk = chunk_of spot w.level w.begins f.block w.onto f.there (f.is).0 in
      let s = stands spot w.level w.begins f.block w.onto chunk in
      let has = has_page spot w.level w.begins f.block s chunk in
      let same : (s.node).page ≡ page = one_page (s.node).page page (f.block).payload has.spells ((f.is).1).spells in
      subst (λ (k : List ℕ). After hints.home root hints.most tree target key (record { level = w.rank; begins = k }) (onward target asked key spot None page)) s.begins_is
      (subst (λ (p : Contents). After hints.home root hints.most tree target key (record { level = w.rank; begins = (s.node).begins }) (onward target asked key spot None p)) same
      (from_page areas reads chunks root tree target asked key is hints spot w.rank w.level s.node w.ranked s.within s.there s.handle_is w.enough (rw s.begins_is w.from) (passes (s.node).page key) refl (eqb (s.node).page.level target) refl))
  step low spot (Hinted page) f w = (let o = is_old spot w.rank w.level w.begins page w.ranked w.rooted w.onto f.1 in from_hint areas reads chunks root tree target asked key hints spot w.rank w.begins page o.0 (f.1).above o.1 w.from (passes page key) refl)

  -- all steps
  pub right : (n : ℕ) (low : Option Place) (spot : Spot) (end : End) → Ends reads target asked key n spot end → IsOnWay hints.home root hints.most tree target key low spot → IsRightEnd tree target key end ⊎ (end ≡ Lost)
  unfolding Ends
  right zero low spot end e w = inr e
  right (suc n) low spot end e w = by_out (decide target asked key spot e.0) e.2 (step low spot e.0 e.1 w) (λ next. right n (Some (record { level = w.rank; begins = w.begins })) next end)
    where
      by_out : (out : Out) → Follows (λ next. Ends reads target asked key n next end) end out → After hints.home root hints.most tree target key (record { level = w.rank; begins = w.begins }) out
          → ((next : Spot) → Ends reads target asked key n next end → IsOnWay hints.home root hints.most tree target key (Some (record { level = w.rank; begins = w.begins })) next → IsRightEnd tree target key end ⊎ (end ≡ Lost)) → IsRightEnd tree target key end ⊎ (end ≡ Lost)
      by_out (Goes next) f a rest = rest next f a
      by_out (Stops here) f a rest = inl (subst (λ (x : End). IsRightEnd tree target key x) (sym f) a)

  -- a walk from the root is on its way
  pub on_way : target ≤ tree.height → IsOnWay hints.home root hints.most tree target key None (start root asked)
  on_way le =
      let chain = rw is.root_alone at (is.levels tree.height (omega arith)).chain in
      record {
        level = tree.height;
        begins = [];
        enough = le;
        from = not_below_empty key;
        onto = known is.top (subst (λ (ns : List Node). IsIn is.top ns) (sym is.root_alone) (record { before = []; behind = []; parts = refl })) (omega arith) is.root_is chain.0;
        rank = hints.most;
        ranked = hints.highest;
        rooted = λ e. omega arith;
        since = tt;
      }
