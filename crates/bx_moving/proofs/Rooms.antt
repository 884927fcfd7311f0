-- Room for an entry stays where another one is taken out of the same directory.
use Rattle.std.proofs.Common.{◌≡◌, ℕ, ◌+◌, ◌≤◌, Bool, true, false, cond, List, [], ◌∷◌, Option, Some, refl, sym, ap, ◌∙◌, subst, arith}
use Rattle.std.specs.Prelude.{◌≢◌, All, Ok, sum_by}
use Rattle.std.proofs.lemmas.List.Elements.{All-append, All-filter}
use Rattle.std.proofs.lemmas.List.Sums.{sum_by-append, sum_by-cons}
use Rattle.bx_entries.specs.Rooms.{HasRooms, HasSpace}
use Rattle.bx_entries.proofs.Spaces.{same_space, space_stays}
use Rattle.bx_base.specs.declared.names.Mode.TheVariants.{Exclusive}
use Rattle.bx_blink.specs.Hints.{Under}
use Rattle.bx_blink.specs.Places.{IsPlaceOf}
use Rattle.bx_blink.specs.Walks.{reads_with}
use Rattle.bx_blink.proofs.Found.{place}
use Rattle.bx_blink.proofs.Under.{agrees}
use Rattle.bx_entries.specs.Taking.{IsEntryOf, TakesOutAt, inode_without}
use Rattle.bx_entries.proofs.Taken.{listed}
use Rattle.bx_entries.specs.bx_dirs.specs.Entries.{HasEntries}
use Rattle.bx_inodes.specs.Inodes.{HoldsInode}
use Rattle.bx_layout.specs.Inodes.{SpellsInode}
use Rattle.bx_layout.specs.declared.block.Block.{Block}
use Rattle.bx_layout.specs.declared.inode.Inode.{Inode}
use Rattle.bx_leaves.specs.Changes.{MakesMap}
use Rattle.bx_leaves.specs.Leaves.{TakesOut}
use Rattle.bx_leaves.proofs.Done.{removes_in}
use Rattle.bx_entries.specs.bx_making.proofs.Puts.{put_chunk}
use Rattle.bx_model.specs.declared.tree.Tree.{Tree}
use Rattle.bx_page.specs.Contents.{Contents, above, below, entry_size, size, without_key}
use Rattle.bx_page.specs.Keys.{is_below}
use Rattle.bx_page.specs.declared.entry.Entry.{Entry}
use Rattle.bx_page.proofs.Order.{not_below_back}
use Rattle.bx_records.specs.Drafts.{Changed}
use Rattle.bx_tree_files.specs.declared.file.File.{File}
use Rattle.bx_tree_files.specs.Times.{Time}
use Rattle.bx_truth.specs.Chunks.{chunks_of}
use Rattle.bx_truth.specs.Edits.{ChunkAnew}
use Rattle.bx_truth.specs.Keys.{entry_key, name_key}
use Rattle.bx_truth.specs.PageTrees.{Chunks, IsNode, IsPageOf, IsTree, Node, PageTree, map_of, map_without}
use Rattle.bx_truth.proofs.Frames.{tree_kept}
use Rattle.bx_truth.proofs.OneFiles.{one_inode}
use Rattle.bx_views.specs.Truths.{Held, Hints, Truth, with_draft}
use Rattle.bx_moving.specs.Edits.{HasRoomFor}

-- ---- a page without an entry is no bigger

both_absurd : ◌≡◌ {A = Bool} true false → ⊥
both_absurd e = absurd cc

parted : (b c : Bool) (x : Entry) (us vs : List Entry) (n : ℕ) → (b ≡ true → c ≡ false) → sum_by entry_size us + sum_by entry_size vs ≤ n
    → sum_by entry_size (cond b (x ∷ us) us) + sum_by entry_size (cond c (x ∷ vs) vs) ≤ entry_size x + n
parted true true x us vs n apart le = absurd (both_absurd (apart refl))
parted true false x us vs n apart le = omega (arith, sum_by-cons entry_size x us)
parted false true x us vs n apart le = omega (arith, sum_by-cons entry_size x vs)
parted false false x us vs n apart le = omega arith

others-le : (es : List Entry) (key : List ℕ) → sum_by entry_size (below es key) + sum_by entry_size (above es key) ≤ sum_by entry_size es
others-le [] key = omega arith
others-le (e ∷ es) key =
    let step = parted (is_below e.key key) (is_below key e.key) e (below es key) (above es key) (sum_by entry_size es) (λ h. not_below_back e.key key h) (others-le es key) in
    omega (arith, step, sum_by-cons entry_size e es)

size_without-le : (p : Contents) (key : List ℕ) → size (without_key p key) + 544 ≤ size p + 544
size_without-le p key = omega (arith, others-le p.entries key, sum_by-append entry_size (below p.entries key) (above p.entries key))

-- ---- one key is taken out

-- a page of a tree isn't a chunk of another kind
not_page : (chunks : Chunks) (root : ℕ) (tree : PageTree) (node : Node) (handle : ℕ) (block : Block) → IsTree chunks root tree → IsPageOf tree node → chunks handle ≡ Some block → block.kind ≡ 1 → handle ≢ node.handle
not_page chunks root tree node handle block is page some one same =
    let n = (is.levels page.level page.within).nodes_are node page.there in
    let both : ◌≡◌ {A = Option Block} (Some block) (Some n.block) = sym some ∙ ap chunks same ∙ n.chunk in
    let blocks : block ≡ n.block = cc in
    let kinds = ap (λ (b : Block). b.kind) blocks in
    let two = n.has.kind in
    omega (arith, kinds, one, two)

module _ (areas : ℕ) (held : Held) (hints : Hints) (truth : Truth) (old new : List Changed) (root : ℕ) (tree : PageTree) (u : Under areas held hints truth old root tree) (at : List ℕ)
    (t : TakesOut (reads_with held hints old) old new root at) where
  there : IsPlaceOf tree 0 at t.handle t.page
  there = place areas (reads_with held hints old) (chunks_of areas (with_draft truth old)) root tree 0 Exclusive at (agrees areas held hints truth old root tree u) (omega arith) t.handle t.page t.has.leaf.end

  node : IsNode (chunks_of areas (with_draft truth old)) 0 there.node
  node = (u.is.levels 0 there.within).nodes_are there.node there.there

  anew : ChunkAnew (chunks_of areas (with_draft truth old)) (chunks_of areas (with_draft truth new)) t.handle t.puts.block
  anew = put_chunk areas held truth old new t.handle node.block t.puts.block (record { same = u.same; chunked = u.chunked })
      (ap (chunks_of areas (with_draft truth old)) (sym there.handle_is) ∙ node.chunk) t.puts.header t.puts.put

  abbrev P : Entry → Type 0
  P = λ entry. is_below entry.key there.node.begins ≡ false

  low : All (λ (entry : Entry). is_below entry.key there.node.begins ≡ false) t.page.entries
  low = subst (λ (c : Contents). All (λ (entry : Entry). is_below entry.key there.node.begins ≡ false) c.entries) there.page_is node.lowest

  lowest : All (λ (entry : Entry). is_below entry.key there.node.begins ≡ false) (without_key t.page at).entries
  lowest = All-append P (below t.page.entries at) (above t.page.entries at) (All-filter (λ e. is_below e.key at) P t.page.entries low) (All-filter (λ e. is_below at e.key) P t.page.entries low)

  pub space_after : (key : List ℕ) (other : PageTree) → HasSpace held tree key 544 → IsTree (chunks_of areas (with_draft truth new)) root other → HasSpace held other key 544
  space_after key other s is_other =
      space_stays (chunks_of areas (with_draft truth old)) (chunks_of areas (with_draft truth new)) root held tree u.is at t.handle t.page (without_key t.page at) t.puts.block there anew t.puts.has refl refl refl lowest
      key 544 544 s (omega arith) (size_without-le t.page at) other is_other

-- ---- an entry is taken out, under both its keys, and the inode is put

some_same : (a b : Block) → Some a ≡ Some b → a ≡ b
some_same a b e = cc

module _ (areas : ℕ) (held : Held) (hints : Hints) (truth : Truth) (old new : List Changed) (tree : Tree) (handle : ℕ) (inode : Inode) (file : File) (number : ℕ) (name : List ℕ) (counts : Bool) (now : Time)
    (e : IsEntryOf areas held hints truth old tree handle inode file number name) (t : TakesOutAt held hints old new handle inode number name counts now) where
  abbrev root : ℕ
  root = inode.tree

  abbrev chunks : List Changed → Chunks
  chunks draft = chunks_of areas (with_draft truth draft)

  abbrev pages : HasEntries areas held hints truth old inode.tree e.names
  pages = listed areas held hints truth old tree handle inode file number name counts now e

  one : MakesMap areas held hints truth old t.takes.mid inode.tree pages.tree (map_without (map_of pages.tree) (name_key name))
  one = (removes_in areas held hints truth old t.takes.mid inode.tree pages.tree (name_key name) pages.under (Ok tt) t.takes.named).1

  two : MakesMap areas held hints truth t.takes.mid t.mid inode.tree one.after (map_without (map_of one.after) (entry_key number))
  two = (removes_in areas held hints truth t.takes.mid t.mid inode.tree one.after (entry_key number) one.under (Ok tt) t.takes.numbered).1

  -- the inode is there until it is put
  chunk_one : chunks t.takes.mid handle ≡ Some e.holds.block
  chunk_one = one.others handle (not_page (chunks old) root pages.tree one.page handle e.holds.block pages.under.is one.there e.holds.chunk e.holds.has.kind) ∙ e.holds.chunk

  chunk_two : chunks t.mid handle ≡ Some e.holds.block
  chunk_two = two.others handle (not_page (chunks t.takes.mid) root one.after two.page handle e.holds.block one.under.is two.there chunk_one e.holds.has.kind) ∙ chunk_one

  holds_mid : HoldsInode areas (with_draft truth t.mid) handle inode
  holds_mid = record { block = e.holds.block; chunk = chunk_two; has = e.holds.has }

  put_anew : ChunkAnew (chunks t.mid) (chunks new) handle t.puts.block
  put_anew = put_chunk areas held truth t.mid new handle e.holds.block t.puts.block (record { same = e.same; chunked = two.under.chunked }) chunk_two t.puts.is.header t.puts.put

  is_new : IsTree (chunks new) inode.tree two.after
  is_new = tree_kept (chunks t.mid) (chunks new) inode.tree two.after two.under.is
      (λ node block page some. put_anew.others node.handle (λ same. not_page (chunks t.mid) root two.after node handle e.holds.block two.under.is page chunk_two e.holds.has.kind (sym same)) ∙ some)

  space : (key : List ℕ) (pages_now : PageTree) → IsTree (chunks old) inode.tree pages_now → HasSpace held pages_now key 544 → HasSpace held two.after key 544
  space key pages_now is s =
      let first = same_space (chunks old) root held pages_now pages.tree key 544 is pages.under.is s in
      let second = space_after areas held hints truth old t.takes.mid root pages.tree pages.under (name_key name) t.takes.named key one.after first one.under.is in
      space_after areas held hints truth t.takes.mid t.mid root one.after one.under (entry_key number) t.takes.numbered key two.after second two.under.is

  -- whatever inode is held then is the one that was put
  inode_then : (other : Inode) → HoldsInode areas (with_draft truth new) handle other → inode_without counts now inode ≡ other
  inode_then other h =
      let same : t.puts.block ≡ h.block = some_same t.puts.block h.block (sym put_anew.here ∙ h.chunk) in
      one_inode (inode_without counts now inode) other h.block.payload (subst (λ (b : Block). SpellsInode (inode_without counts now inode) b.payload) same t.puts.is.has.spells) h.has.spells

  pub rooms_stay : (new_name : List ℕ) → HasRooms areas held truth old inode.tree new_name inode.next → HasRoomFor areas held truth new handle new_name
  rooms_stay new_name rooms other h =
      subst (λ (i : Inode). HasRooms areas held truth new i.tree new_name i.next) (inode_then other h)
      (record {
        pages = two.after;
        is = is_new;
        by_name = space (name_key new_name) rooms.pages rooms.is rooms.by_name;
        by_number = space (entry_key inode.next) rooms.pages rooms.is rooms.by_number;
      })

-- ---- nothing is taken out

pub rooms_there : (areas : ℕ) (held : Held) (truth : Truth) (handle : ℕ) (inode : Inode) (name : List ℕ) → HoldsInode areas truth handle inode → HasRooms areas held truth [] inode.tree name inode.next → HasRoomFor areas held truth [] handle name
rooms_there areas held truth handle inode name holds rooms other h =
    let same : holds.block ≡ h.block = some_same holds.block h.block (sym holds.chunk ∙ h.chunk) in
    subst (λ (i : Inode). HasRooms areas held truth [] i.tree name i.next)
    (one_inode inode other h.block.payload (subst (λ (b : Block). SpellsInode inode b.payload) same holds.has.spells) h.has.spells) rooms
