-- Where something is to be written first, the entry isn't ready, and that makes it so; where nothing is, it is ready.
use Rattle.std.proofs.Common.{◌≡◌, ℕ, ◌≤◌, true, false, List, [], Option, Some, None, sym, ap, ◌∙◌, subst, arith, inl, inr}
use Rattle.std.specs.Prelude.{◌⊎◌, ◌+◌, IfOk, IfSome, IfNone, Result, Ok, Err}
use Rattle.bx_blink.specs.Hints.{Under}
use Rattle.bx_blink.specs.Places.{IsPlaceOf}
use Rattle.bx_blink.specs.Walks.{child_of}
use Rattle.bx_blink.specs.declared.error.BlinkError.{BlinkError}
use Rattle.bx_layout.specs.declared.block.Block.{Block}
use Rattle.bx_page.proofs.Whole.{one_page}
use Rattle.bx_page.specs.Contents.{Contents, size}
use Rattle.bx_page.specs.Keys.{IsBelow, is_below}
use Rattle.bx_records.specs.Drafts.{Changed}
use Rattle.bx_truth.specs.Chunks.{chunks_of}
use Rattle.bx_truth.specs.PageTrees.{HasPage, IsIn, Node, PageTree}
use Rattle.bx_views.specs.Truths.{Held, Hints, Truth, with_draft}
use Rattle.bx_ready.specs.Lacking.{FindsRoom, MakesRoom}
use Rattle.bx_ready.specs.Ready.{IsReady, ReadiesIn, SplitsReady}
use Rattle.bx_ready.specs.Rooms.{LeafHasRoom, IsFull}
use Rattle.bx_ready.specs.Separators.{HasSeparators, LacksSeparator, PostsMissing}
use Rattle.bx_ready.proofs.Places.{one_place, ready_in}

some_same : (a b : Block) → Some a ≡ Some b → a ≡ b
some_same a b e = cc

not_below : (key high : List ℕ) → is_below key high ≡ false → IsBelow key high → ⊥
not_below key high above below = let both : true ≡ false = sym below ∙ above in absurd cc

module _ (areas : ℕ) (held : Held) (hints : Hints) (truth : Truth) (root : ℕ) (tree : PageTree) (key : List ℕ) (u : Under areas held hints truth [] root tree) where
  -- two pages of a level with one handle are one
  same_page : (level : ℕ) → level ≤ tree.height → (a b : Node) → IsIn a (tree.level level) → IsIn b (tree.level level) → a.handle ≡ b.handle → a.page ≡ b.page
  same_page level within a b ia ib same =
      let na = (u.is.levels level within).nodes_are a ia in
      let nb = (u.is.levels level within).nodes_are b ib in
      let block : na.block ≡ nb.block = some_same na.block nb.block (sym na.chunk ∙ ap (chunks_of areas (with_draft truth [])) same ∙ nb.chunk) in
      one_page a.page b.page nb.block.payload (subst (λ (x : Block). HasPage a.page x) block na.has).spells nb.has.spells

  -- a separator that is missing isn't there
  pub no_separator : (node : Node) → LacksSeparator tree key node → HasSeparators tree key → ⊥
  no_separator node l has =
      let below = l.below in
      let s = has l.level l.below in
      let up = one_place (chunks_of areas (with_draft truth [])) root tree (l.level + 1) key l.named.parent s.named.parent l.named.page s.named.page u.is l.named.above s.named.above in
      let handle : s.place.node.handle ≡ node.handle = s.place.handle_is ∙ sym s.named.names ∙ ap (λ (p : Contents). child_of p key) up.1 ∙ l.named.names in
      let page : s.place.node.page ≡ node.page = same_page l.level (omega (arith, below)) s.place.node node s.place.there l.there handle in
      let to : IfSome node.page.high (IsBelow key) = subst (λ (p : Contents). IfSome p.high (IsBelow key)) page s.place.to in
      not_below key l.high l.passed (rw l.high_is at to)

  -- a full leaf has no room
  pub no_room : (handle : ℕ) (page : Contents) → IsPlaceOf tree 0 key handle page → IsFull page → LeafHasRoom tree key → ⊥
  no_room handle page place full r =
      let same = one_place (chunks_of areas (with_draft truth [])) root tree 0 key handle r.handle page r.page u.is place r.place in
      let sizes : size r.page ≡ size page = ap size same.1 in
      let room = r.room in
      omega (arith, sizes, full, room)

  lacking : (new : List Changed) → PostsMissing areas held hints truth new root tree key ⊎ SplitsReady areas held hints truth new root tree key → IsReady tree key → ⊥
  lacking new (inl p) ready = no_separator p.node p.lacks ready.posted
  lacking new (inr s) ready = no_room s.splits.handle s.splits.page s.splits.place s.splits.full ready.room

  pub lacks : (result : Result (Option (List Changed)) BlinkError) → ReadiesIn areas held hints truth root tree key result → IfOk result (λ found. IfSome found (MakesRoom areas held hints truth root key))
  lacks (Err error) r = tt
  lacks (Ok None) r = tt
  lacks (Ok (Some new)) r = record { pages = tree; is = u.is; lacks = lacking new r; makes = r }

  pub finds : (result : Result (Option (List Changed)) BlinkError) → ReadiesIn areas held hints truth root tree key result → IfOk result (λ found. IfNone found (FindsRoom areas truth root key))
  finds (Err error) r = tt
  finds (Ok (Some new)) r = tt
  finds (Ok None) r = λ pages is. ready_in (chunks_of areas truth) root tree pages key u.is is r
