-- A directory's tree is anew, and an inode is.
use Rattle.std.proofs.Common.{◌≡◌, ℕ, ◌⊎◌, inl, inr, arith, false, List, get_or, sym, ap, ◌∙◌, subst, refl, Option, Some, None}
use Rattle.std.specs.Prelude.{◌≢◌, ◌==◌}
use Rattle.bx_views.specs.bx_layout.specs.declared.block.Block.{Block}
use Rattle.bx_views.specs.bx_layout.specs.declared.inode.Inode.{Inode}
use Rattle.bx_views.specs.bx_layout.specs.Areas.{generation_in}
use Rattle.bx_places.specs.Places.{block_area, block_slot}
use Rattle.bx_model.specs.bx_tree_files.specs.declared.file.Body.TheVariants.{Names}
use Rattle.bx_model.specs.bx_tree_files.specs.declared.file.File.{File}
use Rattle.bx_model.specs.bx_tree_files.specs.declared.file.Name.{Name}
use Rattle.bx_model.specs.declared.tree.Tree.{Tree}
use Rattle.bx_model.specs.bx_tree_files.specs.Files.{file_at, with_file}
use Rattle.bx_page.specs.Contents.{value_of}
use Rattle.bx_truth.specs.Chunks.{chunks_of, word_in, dead_in}
use Rattle.bx_truth.specs.Keys.{content_key, content_value}
use Rattle.bx_truth.specs.Stands.{StandsFor, inode_of}
use Rattle.bx_truth.specs.Stored.{Owner, Inodes, PageOf, DataOf, Stored, HasInode, HasFields, HasBody, IsDirectory, AreNames, IsOfName}
use Rattle.bx_truth.specs.PageTrees.{Chunks, Node, PageTree, IsPageOf, map_of}
use Rattle.bx_views.specs.Truths.{Truth}
use Rattle.bx_truth.proofs.Frames.{Keeps, body_kept}
use Rattle.bx_truth.proofs.Cases.{eq_true, found}
use Rattle.bx_truth.specs.Shown.{IsPageIn, IsShown, KeepsSlots, KeepsOthers}
use Rattle.bx_truth.specs.Edits.{SameSlots, TreeAnew, ChunkAnew}
use Rattle.bx_truth.proofs.Put.{shown, put, no_dead}

none_some : (b : Block) → ◌≡◌ {A = Option Block} None (Some b) → ⊥
none_some b e = absurd cc

some_same : {X : Type 0} (x y : X) → Some x ≡ Some y → x ≡ y
some_same x y e = cc

-- ---- slots

pub keeps_slots : (areas : ℕ) (truth now : Truth) → SameSlots areas truth now → KeepsSlots areas truth now
keeps_slots areas truth now same = record {
  chunked = same.chunked;
  given = λ block slot. let e = ap (λ (b : Block). generation_in (word_in b.payload (block_slot block))) (same.own (block_area block) slot.area) in omega (arith, e);
  dead = λ block slot. ap (λ (b : Block). dead_in b.payload (block_slot block)) (same.own (block_area block) slot.area);
}

-- ---- a tree

owner_apart : (owner : ℕ → Owner) (a b inode : ℕ) → owner a ≡ PageOf inode → owner b ≡ Inodes → a ≢ b
owner_apart owner a b inode page itself same = let e : PageOf inode ≡ Inodes = sym page ∙ ap owner same ∙ itself in absurd cc

piece_apart : (owner : ℕ → Owner) (a b inode other index : ℕ) → owner a ≡ PageOf inode → owner b ≡ DataOf other index → a ≢ b
piece_apart owner a b inode other index page piece same = let e : PageOf inode ≡ DataOf other index = sym page ∙ ap owner same ∙ piece in absurd cc

-- a directory's tree names no pieces
no_piece : (stored : Stored) (names : List Name) (index handle : ℕ) → AreNames (map_of stored.tree) names → value_of (map_of stored.tree) (content_key index) ≢ Some (content_value handle)
no_piece stored names index handle are is = by (are.only (content_key index) (content_value handle) is).2
  where
    by : IsOfName (are.only (content_key index) (content_value handle) is).0 (content_key index) (content_value handle) → ⊥
    by (inl (key, value)) = let e : 3 ≡ 2 = ap (λ (l : List ℕ). get_or l 0 0) key in omega (arith, e)
    by (inr (key, value)) = let e : 3 ≡ 1 = ap (λ (l : List ℕ). get_or l 0 0) key in omega (arith, e)

module _ (chunks now : Chunks) (owner : ℕ → Owner) (handle : ℕ) (stored : Stored) (file : File) (parent next : ℕ) (names names_now : List Name)
    (s : IsShown chunks owner handle stored file) (body_is : file.body ≡ Names parent next names) (after : PageTree)
    (anew : TreeAnew chunks now stored.inode.tree stored.tree after) (are : AreNames (map_of after) names_now) where
  directory : IsDirectory chunks owner handle stored parent next names
  directory = subst (HasBody chunks owner handle stored) body_is s.body

  not_page : (h : ℕ) → owner h ≢ PageOf handle → (node : Node) → IsPageOf stored.tree node → node.handle ≢ h
  not_page h other node there same = other (ap owner (sym same) ∙ directory.tree.pages node there)

  -- what isn't a page stays
  pub same_chunk : (h : ℕ) → owner h ≢ PageOf handle → now h ≡ chunks h
  same_chunk h other = anew.others h (not_page h other)

  itself_there : owner handle ≢ PageOf handle
  itself_there page = owner_apart owner handle handle handle page s.itself refl

  abbrev stored_now : Stored
  stored_now = record { inode = stored.inode; tree = after }

  page_there : (h : ℕ) (b : Block) → now h ≡ Some b → owner h ≡ PageOf handle → IsPageIn stored_now h b
  page_there h b some page = by (found (chunks h))
    where
      by : (chunks h ≡ None) ⊎ ((block : Block) × (chunks h ≡ Some block)) → IsPageIn stored_now h b
      by (inl none) = absurd (none_some b (sym none ∙ sym (anew.others h not_there) ∙ some))
        where
          not_there : (node : Node) → IsPageOf stored.tree node → node.handle ≢ h
          not_there node there same =
              let n = (directory.tree.is.levels there.level there.within).nodes_are node there.there in
              none_some n.block (sym none ∙ ap chunks (sym same) ∙ n.chunk)
      by (inr (block, was)) =
          let p = s.pages h block was page in
          let f = anew.forth p.node p.there in
          let n = (anew.is.levels f.1.level f.1.within).nodes_are f.0 f.1.there in
          let b_is : n.block ≡ b = some_same n.block b (sym n.chunk ∙ ap now (f.2 ∙ p.names) ∙ some) in
          record { kind = ap (λ (x : Block). x.kind) (sym b_is) ∙ n.has.kind; has_tree = p.has_tree; node = f.0; there = f.1; names = f.2 ∙ p.names }

  pub directory_anew : IsShown now owner handle stored_now (record file { body = Names parent next names_now })
  directory_anew = record {
    block = s.block;
    chunk = same_chunk handle itself_there ∙ s.chunk;
    itself = s.itself;
    has = s.has;
    handle_is = s.handle_is;
    fields = record { kind = s.fields.kind; mode = s.fields.mode; nlink = s.fields.nlink; uid = s.fields.uid; gid = s.fields.gid; atime = s.fields.atime; mtime = s.fields.mtime; ctime = s.fields.ctime };
    body = record {
      kind = directory.kind;
      tree = record {
        is = anew.is;
        pages = λ node there. let b = anew.back node there in ap owner (sym b.2) ∙ directory.tree.pages b.0 b.1;
      };
      parent_is = directory.parent_is;
      next_is = directory.next_is;
      entries = are;
    };
    pages = page_there;
    pieces = λ h index b some piece.
        let was : chunks h ≡ Some b = sym (same_chunk h (λ page. piece_apart owner h h handle handle index page piece refl)) ∙ some in
        absurd (no_piece stored names index h directory.entries (s.pieces h index b was piece).names);
  }

-- the files around it
module _ (areas : ℕ) (truth now : Truth) (tree : Tree) (handle : ℕ) (is : StandsFor areas truth tree)
    (same : (h : ℕ) → is.owner h ≢ PageOf handle → chunks_of areas now h ≡ chunks_of areas truth h) where
  pub others_kept : KeepsOthers areas truth now tree is is.owner handle
  others_kept = record {
    kept = λ h b some test. (same h (other h test) ∙ some, refl);
    none_new = λ h b some test. (sym (same h (other h test)) ∙ some, refl);
  }
    where
      other : (h : ℕ) → (inode_of h (is.owner h) == handle) ≡ false → is.owner h ≢ PageOf handle
      other h test page = let t = eq_true (inode_of h (is.owner h)) handle (ap (inode_of h) page) in absurd cc

-- A directory's entries become others.
pub entries_anew : (areas : ℕ) (truth now : Truth) (tree : Tree) (handle : ℕ) (file : File) (parent next : ℕ) (names names_now : List Name) (after : PageTree)
    → (is : StandsFor areas truth tree) → file_at tree.files handle ≡ Some file → file.body ≡ Names parent next names
    → SameSlots areas truth now → TreeAnew (chunks_of areas truth) (chunks_of areas now) (is.stored handle).inode.tree (is.stored handle).tree after
    → AreNames (map_of after) names_now
    → StandsFor areas now (record tree { files = with_file tree.files (record file { body = Names parent next names_now }) })
entries_anew areas truth now tree handle file parent next names names_now after is there body_is same anew are =
    let s = shown areas truth tree handle file is there in
    put areas truth now tree handle (record file { body = Names parent next names_now }) is.owner (record { inode = (is.stored handle).inode; tree = after }) is
    (keeps_slots areas truth now same)
    (others_kept areas truth now tree handle is (same_chunk (chunks_of areas truth) (chunks_of areas now) is.owner handle (is.stored handle) file parent next names names_now s body_is after anew are))
    (no_dead areas truth tree handle file is there)
    (directory_anew (chunks_of areas truth) (chunks_of areas now) is.owner handle (is.stored handle) file parent next names names_now s body_is after anew are)

-- ---- an inode

abbrev with_inode : Stored → Inode → Stored
with_inode stored new = record { inode = new; tree = stored.tree }

module _ (chunks now : Chunks) (owner : ℕ → Owner) (handle : ℕ) (stored : Stored) (file file_now : File) (new : Inode) (after : Block)
    (s : IsShown chunks owner handle stored file) (anew : ChunkAnew chunks now handle after) (has : HasInode new after) (same_tree : new.tree ≡ stored.inode.tree)
    (same_handle : file_now.handle ≡ handle) (fields : HasFields new file_now) (body : HasBody chunks owner handle (with_inode stored new) file_now.body) where
  keeps : Keeps chunks now owner owner handle (with_inode stored new)
  keeps = record {
    pages = λ node b page some. (anew.others node.handle (owner_apart owner node.handle handle handle page s.itself) ∙ some, refl);
    pieces = λ names index b piece some. (anew.others names (λ same. let e : DataOf handle index ≡ Inodes = sym piece ∙ ap owner same ∙ s.itself in absurd cc) ∙ some, refl);
  }

  pub inode_anew : IsShown now owner handle (with_inode stored new) file_now
  inode_anew = record {
    block = after;
    chunk = anew.here;
    itself = s.itself;
    has = has;
    handle_is = same_handle;
    fields = fields;
    body = body_kept chunks now owner owner handle (with_inode stored new) keeps file_now.body body;
    pages = λ h b some page.
        let p = s.pages h b (sym (anew.others h (owner_apart owner h handle handle page s.itself)) ∙ some) page in
        record { kind = p.kind; has_tree = λ none. p.has_tree (sym same_tree ∙ none); node = p.node; there = p.there; names = p.names };
    pieces = λ h index b some piece.
        let p = s.pieces h index b (sym (anew.others h (λ same. let e : DataOf handle index ≡ Inodes = sym piece ∙ ap owner same ∙ s.itself in absurd cc)) ∙ some) piece in
        record { kind = p.kind; has_tree = λ none. p.has_tree (sym same_tree ∙ none); names = p.names };
  }

-- A file's inode becomes another one, with the same tree.
pub file_anew : (areas : ℕ) (truth now : Truth) (tree : Tree) (handle : ℕ) (file file_now : File) (new : Inode) (after : Block)
    → (is : StandsFor areas truth tree) → file_at tree.files handle ≡ Some file
    → SameSlots areas truth now → ChunkAnew (chunks_of areas truth) (chunks_of areas now) handle after
    → HasInode new after → new.tree ≡ (is.stored handle).inode.tree → file_now.handle ≡ handle → HasFields new file_now
    → HasBody (chunks_of areas truth) is.owner handle (with_inode (is.stored handle) new) file_now.body
    → StandsFor areas now (record tree { files = with_file tree.files file_now })
file_anew areas truth now tree handle file file_now new after is there same anew has same_tree same_handle fields body =
    let s = shown areas truth tree handle file is there in
    put areas truth now tree handle file_now is.owner (with_inode (is.stored handle) new) is
    (keeps_slots areas truth now same) others_stay (no_dead areas truth tree handle file is there)
    (inode_anew (chunks_of areas truth) (chunks_of areas now) is.owner handle (is.stored handle) file file_now new after s anew has same_tree same_handle fields body)
  where
    other : (h : ℕ) → (inode_of h (is.owner h) == handle) ≡ false → h ≢ handle
    other h test same =
        let s = shown areas truth tree handle file is there in
        let t = eq_true (inode_of h (is.owner h)) handle (ap (inode_of h) (ap is.owner same ∙ s.itself) ∙ same) in absurd cc

    others_stay : KeepsOthers areas truth now tree is is.owner handle
    others_stay = record {
      kept = λ h b some test. (anew.others h (other h test) ∙ some, refl);
      none_new = λ h b some test. (sym (anew.others h (other h test)) ∙ some, refl);
    }
