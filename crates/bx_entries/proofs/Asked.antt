-- What adding an entry and looking for room ask for are blocks of the volume.
use Rattle.std.proofs.Common.{◌≡◌, ℕ, zero, suc, ◌≤◌, true, List, [], Option, Some, None, sym, ap, ◌∙◌, subst, arith, inl, inr}
use Rattle.std.specs.Prelude.{Ok}
use Rattle.bx_base.specs.declared.names.Mode.{Mode}
use Rattle.bx_base.specs.declared.names.Mode.TheVariants.{Exclusive}
use Rattle.bx_blink.specs.Hints.{HintsAgree, Place, Sees, Under}
use Rattle.bx_blink.specs.Walks.{MayAsk, OnPath, Reads, as_said, landed, most, reads_with, shared, start}
use Rattle.bx_blink.proofs.OnWay.{After, IsOnWay}
use Rattle.bx_blink.proofs.Rights.{on_way, step}
use Rattle.bx_blink.proofs.Under.{agrees}
use Rattle.bx_blink.proofs.Visits.{slot_of_spot}
use Rattle.bx_chunks.proofs.TakenSlots.{slots_block}
use Rattle.bx_directory_reads.specs.bx_dirs.specs.Changes.{OnAddPath}
use Rattle.bx_entries.proofs.Leaves.{leaf_block}
use Rattle.bx_changes.specs.bx_files.proofs.Slots.{slot_is_block}
use Rattle.bx_layout.specs.declared.block.Block.{Block}
use Rattle.bx_leaves.proofs.Done.{inserts_in}
use Rattle.bx_page.specs.Contents.{Contents}
use Rattle.bx_page.proofs.Whole.{one_page}
use Rattle.bx_places.specs.Places.{is_block}
use Rattle.bx_ready.specs.bx_posts.specs.Posts.{OnPostPath, page, parent, slot}
use Rattle.bx_ready.specs.bx_posts.specs.Separators.{ShowsSeparator}
use Rattle.bx_records.specs.Drafts.{Changed}
use Rattle.bx_ready.specs.Ready.{OnReadyPath}
use Rattle.bx_ready.specs.Rooms.{OnSplitPath}
use Rattle.bx_ready.specs.Separators.{IsLedTo, OnPostForPath}
use Rattle.bx_ready.proofs.Line.{IsShortOf, line, short}
use Rattle.bx_tree_files.specs.declared.file.Name.{Name}
use Rattle.bx_truth.specs.Chunks.{IsSlot, block_at, chunks_of}
use Rattle.bx_truth.specs.Keys.{entry_key, name_key, name_value}
use Rattle.bx_truth.specs.PageTrees.{Chunks, HasPage, IsIn, IsTree, Node, PageTree}
use Rattle.bx_views.specs.Truths.{Held, Hints, Truth, with_draft}

-- ---- an entry is added

pub add_block : (areas : ℕ) (held : Held) (hints : Hints) (truth : Truth) (old : List Changed) (root : ℕ) (tree : PageTree) (entry : Name) (at : ℕ) (mode : Mode) → Under areas held hints truth old root tree
    → OnAddPath held hints old root entry at mode → is_block areas at ≡ true
add_block areas held hints truth old root tree entry at mode u (inl on) = leaf_block areas held hints truth old root tree (name_key entry.name) at mode u on
add_block areas held hints truth old root tree entry at mode u (inr on) =
    let one = inserts_in areas held hints truth old on.mid root tree (name_key entry.name) u (name_value entry.number entry.handle) (Ok tt) on.named in
    leaf_block areas held hints truth on.mid root one.1.after (entry_key entry.number) at mode one.1.under on.numbered

-- ---- walks to a page of any level

module _ (areas : ℕ) (reads : Reads) (chunks : Chunks) (root : ℕ) (tree : PageTree) (target : ℕ) (asked : Mode) (key : List ℕ) (few : areas ≤ 64) (sees : Sees areas reads chunks) (is : IsTree chunks root tree) (hints : HintsAgree areas reads.hint chunks root tree) where
  asked_slot : (low : Option Place) (spot : _) (at : ℕ) (mode : Mode) → IsOnWay hints.home root hints.most tree target key low spot → MayAsk reads target asked spot at mode → IsSlot areas at
  asked_slot low spot at mode w as_said = slot_of_spot areas reads chunks root tree target asked key few sees is hints low spot w
  asked_slot low spot at mode w shared = slot_of_spot areas reads chunks root tree target asked key few sees is hints low spot w
  asked_slot low spot at mode w (landed found finds level) = slot_of_spot areas reads chunks root tree target asked key few sees is hints low spot w

  path_slot : (n : ℕ) (low : Option Place) (spot : _) (at : ℕ) (mode : Mode) → OnPath reads target asked key n spot at mode → IsOnWay hints.home root hints.most tree target key low spot → IsSlot areas at
  unfolding OnPath
  path_slot zero low spot at mode on w = absurd on
  path_slot (suc n) low spot at mode (inl may) w = asked_slot low spot at mode w may
  path_slot (suc n) low spot at mode (inr on) w =
      path_slot n (Some (record { level = w.rank; begins = w.begins })) on.2 at mode on.4
      (subst (After hints.home root hints.most tree target key (record { level = w.rank; begins = w.begins })) on.3 (step areas reads chunks root tree target asked key sees is hints low spot on.0 on.1 w))

module _ (areas : ℕ) (held : Held) (hints : Hints) (truth : Truth) (root : ℕ) (tree : PageTree) (key : List ℕ) (u : Under areas held hints truth [] root tree) where
  level_block : (target : ℕ) (asked : Mode) (wanted : List ℕ) (at : ℕ) (mode : Mode) → target ≤ tree.height → OnPath (reads_with held hints []) target asked wanted most (start root asked) at mode → is_block areas at ≡ true
  level_block target asked wanted at mode within on =
      let a = agrees areas held hints truth [] root tree u in
      slot_is_block areas at
      (path_slot areas (reads_with held hints []) (chunks_of areas (with_draft truth [])) root tree target asked wanted a.few a.sees a.is a.hints most None (start root asked) at mode on
      (on_way areas (reads_with held hints []) (chunks_of areas (with_draft truth [])) root tree target asked wanted a.sees a.is a.hints within))

  -- a page of the tree is in a block of the volume
  page_block : (level : ℕ) (node : Node) (handle : ℕ) → level ≤ tree.height → IsIn node (tree.level level) → node.handle ≡ handle → is_block areas (block_at handle) ≡ true
  page_block level node handle within there at =
      let n = (u.is.levels level within).nodes_are node there in
      slot_is_block areas (block_at handle) ((agrees areas held hints truth [] root tree u).sees.slot handle n.block (ap (chunks_of areas (with_draft truth [])) (sym at) ∙ n.chunk))

  led_block : (at : ℕ) (mode : Mode) → IsLedTo held root key at mode → is_block areas at ≡ true
  led_block at mode l =
      let o = line areas held hints truth root tree key u l.depth l.handle l.leads in
      let sum = o.sum in
      subst (λ (n : ℕ). is_block areas n ≡ true) (sym l.at_is) (page_block o.level o.node l.handle (omega (arith, sum)) o.there o.handle_is)

  same_block : (a b : Block) → a ≡ b → (p q : Contents) → HasPage p a → HasPage q b → p ≡ q
  same_block a b e p q hp hq = one_page p q b.payload (subst (λ (x : Block). HasPage p x) e hp).spells hq.spells

  -- the level of a separator is one of the tree
  separator_within : (handle : ℕ) (separator : _) (s : IsShortOf areas held hints truth root tree key u handle) → ShowsSeparator (reads_with held hints []) handle separator → separator.level ≤ tree.height
  separator_within handle separator s shows =
      let l = s.lacks in
      let below = l.below in
      let n = (u.is.levels l.level (omega (arith, below))).nodes_are s.node l.there in
      let block = (agrees areas held hints truth [] root tree u).sees.same handle _ shows.shown.block n.block shows.shown.there (ap (chunks_of areas (with_draft truth [])) (sym s.handle_is) ∙ n.chunk) in
      let pages = same_block shows.shown.block n.block block shows.page s.node.page shows.shown.has n.has in
      let level = ap (λ (c : Contents). c.level) pages ∙ n.same_level in
      let up = shows.is.level in
      omega (arith, level, up, below)

  post_block : (near handle at : ℕ) (mode : Mode) → IsShortOf areas held hints truth root tree key u handle → OnPostPath held hints [] root handle near areas at mode → is_block areas at ≡ true
  post_block near handle _ _ s page = page_block s.level s.node handle s.within s.there s.handle_is
  post_block near handle _ _ s (parent separator at mode shows on) = level_block separator.level Exclusive separator.key at mode (separator_within handle separator s shows) on
  post_block near handle _ _ s (slot at mode on) = slots_block held near areas [] at mode on

  posts_block : (near at : ℕ) (mode : Mode) → OnPostForPath near areas held hints root key at mode → is_block areas at ≡ true
  posts_block near at mode (inl led) = led_block at mode led
  posts_block near at mode (inr p) = post_block near p.page at mode (short areas held hints truth root tree key u p.page p.short) p.on

  splits_block : (near at : ℕ) (mode : Mode) → OnSplitPath near areas held hints root key at mode → is_block areas at ≡ true
  splits_block near at mode (inl on) = leaf_block areas held hints truth [] root tree key at mode u on
  splits_block near at mode (inr on) = slots_block held near areas [] at mode on

  pub ready_block : (near at : ℕ) (mode : Mode) → OnReadyPath near areas held hints root key at mode → is_block areas at ≡ true
  ready_block near at mode (inl on) = posts_block near at mode on
  ready_block near at mode (inr on) = splits_block near at mode on
