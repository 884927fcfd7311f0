-- What is read of an inode is what the tree has.
use Rattle.std.proofs.Common.{◌≡◌, ℕ, arith, List, length, sym, ap, ◌∙◌, subst, refl, Option, Some, None}
use Rattle.std.specs.Prelude.{◌≢◌, ◌==◌, if◌then◌else◌, Result, Ok, Err}
use Rattle.bx_base.specs.declared.names.Mode.{Mode}
use Rattle.bx_blink.specs.Hints.{Sees}
use Rattle.bx_blink.specs.Walks.{reads_with}
use Rattle.bx_blink.proofs.Sees.{sees}
use Rattle.bx_layout.specs.declared.block.Block.{Block}
use Rattle.bx_layout.specs.declared.inode.Inode.{Inode}
use Rattle.bx_layout.specs.Areas.{generation_in}
use Rattle.bx_blink.specs.bx_model.specs.declared.tree.Tree.{Tree}
use Rattle.bx_blink.specs.bx_model.specs.Opening.{root_handle}
use Rattle.bx_blink.specs.bx_records.specs.Drafts.{Changed}
use Rattle.bx_blink.specs.bx_tree_files.specs.declared.file.Body.{Body}
use Rattle.bx_blink.specs.bx_tree_files.specs.declared.file.Body.TheVariants.{Bytes, Path, Names}
use Rattle.bx_blink.specs.bx_tree_files.specs.declared.file.File.{File}
use Rattle.bx_blink.specs.bx_tree_files.specs.Files.{file_at, size_of}
use Rattle.bx_blink.specs.bx_truth.specs.Chunks.{IsName, block_at, chunks_of, handle_of, word_at}
use Rattle.bx_blink.specs.bx_truth.specs.PageTrees.{Chunks}
use Rattle.bx_blink.specs.bx_truth.specs.Stands.{StandsFor, IsAnInode, IsOwned}
use Rattle.bx_blink.specs.bx_truth.specs.Stored.{HasBody, HasFields, HasInode, Inodes, IsFileOr, Owner, Stored}
use Rattle.bx_blink.specs.bx_truth.proofs.OneFiles.{itself, one_inode}
use Rattle.bx_blink.specs.bx_truth.proofs.Put.{is_live, some_there}
use Rattle.bx_blink.specs.bx_truth.proofs.Same.{chunk_is}
use Rattle.bx_blink.specs.bx_views.specs.Truths.{Held, Hints, IsTruth, Truth, with_draft}
use Rattle.bx_inodes.specs.declared.stop.Stop.{Stop}
use Rattle.bx_inodes.specs.declared.stop.Stop.TheVariants.{Need, Inner, Status, OutOfMemory}
use Rattle.bx_inodes.specs.Inodes.{FileAt, InodeAt, IsInodeOf, SeesNoInode, shown_size}

-- the size that a file's inode shows is the file's
size_shown : (chunks : Chunks) (owner : ℕ → Owner) (handle : ℕ) (stored : Stored) (body : Body) → HasBody chunks owner handle stored body → size_of body ≡ shown_size stored.inode
size_shown chunks owner handle stored (Bytes bytes) has =
    has.bytes_are.long ∙ sym (λ i. if (has.kind i == 2) then 4096 else (if (has.kind i == 5) then length stored.inode.path else stored.inode.size))
size_shown chunks owner handle stored (Path path) has =
    ap length (sym has.path_is) ∙ sym (λ i. if (has.kind i == 2) then 4096 else (if (has.kind i == 5) then length stored.inode.path else stored.inode.size))
size_shown chunks owner handle stored (Names parent next names) has = sym (λ i. if (has.kind i == 2) then 4096 else (if (has.kind i == 5) then length stored.inode.path else stored.inode.size))

fields_same : (one other : Inode) (file : File) → one ≡ other → HasFields one file → HasFields other file
fields_same one other file same = subst (λ (inode : Inode). HasFields inode file) same

module _ (areas : ℕ) (truth : Truth) (tree : Tree) (is : StandsFor areas truth tree) (handle : ℕ) where
  -- a chunk is its owner's
  owned_as : (block : Block) (owner : Owner) → is.owner handle ≡ owner → chunks_of areas truth handle ≡ Some block → IsOwned (chunks_of areas truth) is.owner is.stored tree.files handle block owner
  owned_as block owner own chunk = subst (IsOwned (chunks_of areas truth) is.owner is.stored tree.files handle block) own (is.are_files.each handle block chunk)

  -- the inode of a chunk, where it is no dead one, is that of a file
  live_file : (block : Block) (inode : Inode) → chunks_of areas truth handle ≡ Some block → HasInode inode block → inode.kind ≢ 0 → IsInodeOf areas truth tree handle inode
  live_file block inode chunk has live = by (file_at tree.files handle) refl
    where
      was : IsAnInode (chunks_of areas truth) is.owner is.stored tree.files handle block
      was = owned_as block Inodes (itself (chunks_of areas truth) is.owner is.stored tree.files handle block (is.owner handle) has.kind (is.are_files.each handle block chunk)) chunk

      same : (is.stored handle).inode ≡ inode
      same = one_inode (is.stored handle).inode inode block.payload was.inode.spells has.spells

      by : (o : Option File) → file_at tree.files handle ≡ o → IsInodeOf areas truth tree handle inode
      by None none =
          let dead = subst (IsFileOr (chunks_of areas truth) is.owner handle (is.stored handle)) none was.file in
          absurd (live (ap (λ (i : Inode). i.kind) (sym same) ∙ dead.kind))
      by (Some file) there =
          let f = subst (IsFileOr (chunks_of areas truth) is.owner handle (is.stored handle)) there was.file in
          record {
            holds = record { block = block; chunk = chunk; has = has };
            file = file;
            there = there;
            handle_is = f.0;
            fields = fields_same (is.stored handle).inode inode file same f.1;
            size = size_shown (chunks_of areas truth) is.owner handle (is.stored handle) file.body f.2 ∙ ap shown_size same;
          }

  -- the chunk of a file has an inode that is no dead one
  file_chunk : (file : File) → file_at tree.files handle ≡ Some file
      → (block : Block) × (chunks_of areas truth handle ≡ Some block) × (((inode : Inode) → HasInode inode block → inode.kind ≡ 0) → ⊥)
  file_chunk file there =
      let all = is.are_files.all handle file there in
      let c = some_there (chunks_of areas truth handle) all.1 in
      let was : IsAnInode (chunks_of areas truth) is.owner is.stored tree.files handle c.0 = owned_as c.0 Inodes all.0 c.1 in
      let body = subst (IsFileOr (chunks_of areas truth) is.owner handle (is.stored handle)) there was.file in
      (c.0, c.1, λ dead. is_live (chunks_of areas truth) is.owner handle (is.stored handle) file.body body.2 (dead (is.stored handle).inode was.inode))

  -- the root has a chunk
  root_chunk : (o : Option File) → file_at tree.files root_handle ≡ o → (block : Block) × (chunks_of areas truth root_handle ≡ Some block)
  root_chunk None none = absurd (is.has_root none)
  root_chunk (Some file) there = some_there (chunks_of areas truth root_handle) (is.are_files.all root_handle file there).1

  -- 0 is the handle of no chunk, since the root's is in its slot
  not_zero : (block : Block) → chunks_of areas truth handle ≡ Some block → handle ≡ 0 → ⊥
  not_zero block chunk zero =
      let c = chunk_is areas truth handle block chunk in
      let d = root_chunk (file_at tree.files root_handle) refl in
      let r = chunk_is areas truth root_handle d.0 d.1 in
      one_zero (sym zero ∙ c.is_handle ∙ ap (λ (h : ℕ). handle_of (block_at h) (generation_in (word_at truth (block_at h)))) zero ∙ sym r.is_handle)
    where
      one_zero : 0 ≡ root_handle → ⊥
      one_zero e = omega (arith, e)

-- what is read, by the tree
module _ (held : Held) (hints : Hints) (areas : ℕ) (truth : Truth) (draft : List Changed) (tree : Tree) (handle : ℕ) (mode : Mode) (same : IsTruth held truth) (is : StandsFor areas (with_draft truth draft) tree) where
  seen : Sees areas (reads_with held hints draft) (chunks_of areas (with_draft truth draft))
  seen = sees areas held hints truth draft (record { same = same; chunked = is.chunked })

  none_read : (IsName areas handle → SeesNoInode (reads_with held hints draft) handle mode) → file_at tree.files handle ≡ None
  none_read never = by (file_at tree.files handle) refl
    where
      by : (o : Option File) → file_at tree.files handle ≡ o → file_at tree.files handle ≡ None
      by None none = none
      by (Some file) there =
          let f = file_chunk areas (with_draft truth draft) tree is handle file there in
          let n = never (record { slot = seen.slot handle f.0 f.1; some = not_zero areas (with_draft truth draft) tree is handle f.0 f.1 }) in
          let one : n.block ≡ f.0 = seen.same handle mode n.block f.0 n.there f.1 in
          absurd (f.2 (λ inode has. n.none (ap (λ (b : Block). b.handle) one ∙ seen.header handle f.0 f.1) inode (subst (HasInode inode) (sym one) has)))

  pub file_read : (result : Result Inode Stop) → InodeAt (reads_with held hints draft) areas handle mode result → FileAt areas (with_draft truth draft) tree handle result
  file_read (Ok inode) l = live_file areas (with_draft truth draft) tree is handle l.block inode (seen.named handle mode l.block l.name l.there l.header) l.has l.live
  file_read (Err (Status status)) n = (n.0, none_read n.1)
  file_read (Err (Need at asked)) n = tt
  file_read (Err (Inner blocks)) never = never
  file_read (Err OutOfMemory) n = tt
