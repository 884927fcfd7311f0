-- The draft with the file's inode alone, where no piece is written yet.
use Rattle.std.proofs.Common.{◌≡◌, ℕ, ◌-◌, ◌*◌, ◌<◌, arith, List, [], length, Some, sym, ap, ◌∙◌, subst, refl}
use Rattle.std.specs.Prelude.{◌≢◌}
use Rattle.bx_entries.proofs.Spaces.{space_of}
use Rattle.bx_inodes.proofs.Pages.{inode_is, one_block}
use Rattle.bx_inodes.specs.Writing.{PutsInode}
use Rattle.bx_layout.specs.declared.block.Block.{Block}
use Rattle.bx_layout.specs.declared.inode.Inode.{Inode}
use Rattle.bx_leaves.proofs.Written.{draft_elsewhere, own_not_slot}
use Rattle.bx_entries.specs.bx_making.proofs.Puts.{put_chunk}
use Rattle.bx_model.specs.declared.tree.Tree.{Tree}
use Rattle.bx_page.specs.Contents.{value_of}
use Rattle.bx_records.specs.Drafts.{Changed}
use Rattle.bx_sizes.proofs.Cleared.{pages_under}
use Rattle.bx_sizes.proofs.InodePut.{bytes_were, inode_leads, inode_put}
use Rattle.bx_tree_files.specs.declared.file.Body.TheVariants.{Bytes}
use Rattle.bx_tree_files.specs.declared.file.File.{File}
use Rattle.bx_truth.specs.Chunks.{block_at, chunks_of, own_block}
use Rattle.bx_truth.specs.Edits.{ChunkAnew}
use Rattle.bx_truth.specs.Keys.{content_key}
use Rattle.bx_truth.specs.PageTrees.{IsPageOf, IsTree, Node, PageTree, handle_in, map_of}
use Rattle.bx_truth.specs.Stored.{HasBody, HasFields, IsRegular, piece_of}
use Rattle.bx_truth.proofs.Frames.{handle_back, tree_kept}
use Rattle.bx_truth.proofs.Put.{shown}
use Rattle.bx_truth.proofs.Same.{chunk_is}
use Rattle.bx_views.specs.Truths.{Held, Hints, Truth, with_draft}
use Rattle.bx_writes.proofs.On.{free_same, less_space}
use Rattle.bx_writes.proofs.Over.{over_nothing}
use Rattle.bx_writes.specs.Laying.{GrowsTo}
use Rattle.bx_writes.specs.Steps.{IsRegularOf}
use Rattle.bx_writes.specs.Written.{IsWritten}

module _ (volume areas : ℕ) (held : Held) (hints : Hints) (truth : Truth) (tree : Tree) (handle : ℕ) (old inode : Inode) (file : File) (base : List ℕ) (r : IsRegularOf volume areas held hints truth tree handle old)
    (grows : GrowsTo r.at.file old inode file base) (draft : List Changed) (puts : PutsInode [] draft handle inode) where
  abbrev file_now : File
  file_now = record file { body = Bytes base }

  abbrev pages : PageTree
  pages = (r.stands.is.stored handle).tree

  regular : IsRegular (chunks_of areas truth) r.stands.is.owner handle (r.stands.is.stored handle) grows.bytes
  regular = subst (HasBody (chunks_of areas truth) r.stands.is.owner handle (r.stands.is.stored handle)) grows.was_is (shown areas truth tree handle r.at.file r.stands.is r.at.there).body

  at_root : IsTree (chunks_of areas truth) inode.tree (r.stands.is.stored handle).tree
  at_root = subst (λ (n : ℕ). IsTree (chunks_of areas truth) n (r.stands.is.stored handle).tree) (ap (λ (i : Inode). i.tree) (inode_is areas truth tree r.stands.is handle old r.at.holds) ∙ sym grows.tree) regular.tree.is

  anew : ChunkAnew (chunks_of areas truth) (chunks_of areas (with_draft truth draft)) handle puts.block
  anew = put_chunk areas held truth [] draft handle r.at.holds.block puts.block (record { same = r.same; chunked = r.stands.is.chunked }) r.at.holds.chunk puts.is.header puts.put

  -- a page, and a piece, is another chunk
  other_kind : (h : ℕ) (b : Block) → chunks_of areas truth h ≡ Some b → b.kind ≢ 1 → h ≢ handle
  other_kind h b some other e =
      other (ap (λ (x : Block). x.kind) (one_block b r.at.holds.block (sym some ∙ ap (chunks_of areas truth) e ∙ r.at.holds.chunk)) ∙ r.at.holds.has.kind)

  page_apart : (node : Node) → IsPageOf (r.stands.is.stored handle).tree node → node.handle ≢ handle
  page_apart node page =
      let n = (at_root.levels page.level page.within).nodes_are node page.there in
      other_kind node.handle n.block n.chunk (λ one. let two = n.has.kind in absurd (omega (arith, one, two)))

  tree_now : IsTree (chunks_of areas (with_draft truth draft)) inode.tree (r.stands.is.stored handle).tree
  tree_now = tree_kept (chunks_of areas truth) (chunks_of areas (with_draft truth draft)) inode.tree (r.stands.is.stored handle).tree at_root (λ node b page some. anew.others node.handle (page_apart node page) ∙ some)

  block_stays : (value : List ℕ) (index : ℕ) (b : Block) → value_of (map_of (r.stands.is.stored handle).tree) (content_key index) ≡ Some value → chunks_of areas truth (handle_in value) ≡ Some b
      → chunks_of areas (with_draft truth draft) (handle_in value) ≡ Some b
  block_stays value index b is some =
      let c = regular.contents (content_key index) value is in
      let same_block : b ≡ c.block = one_block b c.block (sym some ∙ ap (chunks_of areas truth) (ap handle_in c.value_is ∙ handle_back c.names c.names_fits) ∙ c.chunk) in
      anew.others (handle_in value) (other_kind (handle_in value) b some (λ one. let three = c.kind in let k = ap (λ (x : Block). x.kind) same_block in absurd (omega (arith, one, three, k)))) ∙ some

  own : (area : ℕ) → area < areas → with_draft truth draft (own_block area) ≡ truth (own_block area)
  own area less = subst (λ (d : List Changed). with_draft truth d (own_block area) ≡ truth (own_block area)) (sym puts.put)
      (draft_elsewhere truth [] (block_at handle) (own_block area) puts.block (own_not_slot areas (block_at handle) area (chunk_is areas truth handle r.at.holds.block r.at.holds.chunk).slot))

  pub base_written : (from first taken : ℕ) (written : List ℕ) → length written ≡ 0 → IsWritten areas held truth tree handle file (r.stands.is.stored handle).tree inode base from written first taken draft
  base_written from first taken written nothing = record {
    bytes = base;
    over = over_nothing base written from nothing;
    stands = inode_put areas held truth [] draft tree handle r.at.file (record file { body = Bytes base }) grows.bytes base old inode r.same r.stands.is r.at.there r.at.holds puts grows.was_is refl grows.kind grows.tree
        (grows.grown (piece_of (chunks_of areas truth) (r.stands.is.stored handle).tree)
        (bytes_were areas held truth [] draft tree handle r.at.file (record file { body = Bytes base }) grows.bytes base old inode r.same r.stands.is r.at.there r.at.holds puts grows.was_is refl grows.kind grows.tree))
        (record { kind = f.kind; mode = f.mode; nlink = f.nlink; uid = f.uid; gid = f.gid; atime = f.atime; mtime = f.mtime; ctime = f.ctime }) (grows.handle_is ∙ r.at.handle_is);
    holds = record { block = puts.block; chunk = anew.here; has = puts.is.has };
    leads = λ other all. inode_leads areas held truth [] draft tree handle r.at.file (record file { body = Bytes base }) grows.bytes base old inode r.same r.stands.is r.at.there r.at.holds puts grows.was_is refl grows.kind grows.tree other all;
    after = (r.stands.is.stored handle).tree;
    is = tree_now;
    leaves = record {
      values = λ index less. refl;
      blocks = λ index value b less is some. block_stays value index b is some;
      spaces = λ index less room.
          less_space held (r.stands.is.stored handle).tree (content_key index) 544 (544 - 17 * taken) (omega arith)
          (space_of areas held hints truth old.tree (r.stands.is.stored handle).tree (content_key index)
          (pages_under areas held hints truth tree handle r.at.file grows.bytes old r.few r.same r.stands.is r.fit r.at.holds r.at.there grows.was_is) room);
    };
    free = let stays = free_same areas truth (with_draft truth draft) own in omega (arith, stays);
  }
    where
      f : HasFields inode file
      f = grows.fields
