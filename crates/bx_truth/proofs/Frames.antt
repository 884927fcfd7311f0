-- A file whose own chunks stay is the same file.
use Rattle.std.proofs.Common.{◌≡◌, ℕ, ◌/◌, ◌%◌, ◌^◌, ◌<◌, ◌⊎◌, ⊎_elim, inl, inr, Bool, true, false, List, sym, ap, ◌∙◌, subst, refl, Option, Some, None}
use Rattle.std.specs.Prelude.{◌≢◌, option_and_then}
use Rattle.std.proofs.lemmas.Nat.{from_be_bytes-to_be_bytes_8}
use Rattle.bx_views.specs.bx_layout.specs.declared.block.Block.{Block}
use Rattle.bx_model.specs.bx_tree_files.specs.declared.file.Body.{Body}
use Rattle.bx_model.specs.bx_tree_files.specs.declared.file.Body.TheVariants.{Bytes, Path, Names}
use Rattle.bx_model.specs.bx_tree_files.specs.declared.file.File.{File}
use Rattle.bx_model.specs.bx_tree_files.specs.Files.{file_at}
use Rattle.bx_page.specs.Contents.{value_of}
use Rattle.bx_truth.specs.Keys.{content_key, content_value}
use Rattle.bx_truth.specs.Stored.{AreBytesOf, Owner, Inodes, PageOf, DataOf, Stored, HasTree, IsContent, HasContents, piece_of, byte_in, HasBody, HasInode, IsFileOr}
use Rattle.bx_truth.specs.Stands.{HasOne, IsOwned, AreFiles, StaysBut, inode_of}
use Rattle.bx_truth.specs.PageTrees.{Chunks, Node, PageTree, IsTree, IsPageOf, map_of, handle_in}

-- ---- trees

pub tree_kept : (chunks now : Chunks) (root : ℕ) (tree : PageTree) → IsTree chunks root tree
    → ((node : Node) (block : Block) → IsPageOf tree node → chunks node.handle ≡ Some block → now node.handle ≡ Some block) → IsTree now root tree
tree_kept chunks now root tree is same = record {
  levels = λ level le. let was = is.levels level le in record {
    nodes_are = λ node there. let n = was.nodes_are node there in record {
      block = n.block;
      chunk = same node n.block record { level = level; within = le; there = there } n.chunk;
      has = n.has;
      same_level = n.same_level;
      lowest = n.lowest;
      highest = n.highest;
    };
    chain = was.chain;
  };
  interior = is.interior;
  top = is.top;
  root_alone = is.root_alone;
  root_is = is.root_is;
}

-- ---- pieces

pub handle_back : (names : ℕ) → names < 2 ^ 64 → handle_in (content_value names) ≡ names
handle_back names fits = from_be_bytes-to_be_bytes_8 names fits

-- the bytes of the same pieces
pub bytes_same : (pieces other : ℕ → Option Block) (size tail : ℕ) (bytes : List ℕ) → ((index : ℕ) → other index ≡ pieces index) → AreBytesOf pieces size tail bytes → AreBytesOf other size tail bytes
bytes_same pieces other size tail bytes same are = record {
  long = are.long;
  each = λ place less. are.each place less ∙ sym (ap (λ (o : Option Block). byte_in o (place % 4096)) (same (place / 4096)));
  cleared = λ index place fits less past. ap (λ (o : Option Block). byte_in o place) (same index) ∙ are.cleared index place fits less past;
}

module _ (chunks now : Chunks) (owner owner_now : ℕ → Owner) (handle : ℕ) (stored : Stored) where
  -- the chunks of pages and pieces of this inode stay
  pub record Keeps : Type 0 where
    pub pages : (node : Node) (block : Block) → owner node.handle ≡ PageOf handle → chunks node.handle ≡ Some block
        → (now node.handle ≡ Some block) × (owner_now node.handle ≡ owner node.handle)
    pub pieces : (names index : ℕ) (block : Block) → owner names ≡ DataOf handle index → chunks names ≡ Some block
        → (now names ≡ Some block) × (owner_now names ≡ owner names)

  pub has_tree_kept : Keeps → HasTree chunks owner handle stored → HasTree now owner_now handle stored
  has_tree_kept keeps has = record {
    is = tree_kept chunks now stored.inode.tree stored.tree has.is (λ node block page chunk. (keeps.pages node block (has.pages node page) chunk).0);
    pages = λ node page. let n = (has.is.levels page.level page.within).nodes_are node page.there in
        (keeps.pages node n.block (has.pages node page) n.chunk).1 ∙ has.pages node page;
  }

  pub contents_kept : Keeps → HasContents chunks owner handle stored → HasContents now owner_now handle stored
  contents_kept keeps has key value is = let c = has key value is in let k = keeps.pieces c.names c.index c.block c.own c.chunk in record {
    index = c.index;
    names = c.names;
    block = c.block;
    index_fits = c.index_fits;
    names_fits = c.names_fits;
    key_is = c.key_is;
    value_is = c.value_is;
    chunk = k.0;
    kind = c.kind;
    own = k.1 ∙ c.own;
  }

  found : (o : Option (List ℕ)) → (o ≡ None) ⊎ ((value : List ℕ) × (o ≡ Some value))
  found None = inl refl
  found (Some value) = inr (value, refl)

  pub piece_kept : Keeps → HasContents chunks owner handle stored → (index : ℕ) → piece_of now stored.tree index ≡ piece_of chunks stored.tree index
  piece_kept keeps has index = by (found (value_of (map_of stored.tree) (content_key index)))
    where
      at : (value : List ℕ) → IsContent chunks owner handle (content_key index) value → now (handle_in value) ≡ chunks (handle_in value)
      at value c =
          let e : handle_in value ≡ c.names = ap handle_in c.value_is ∙ handle_back c.names c.names_fits in
          ap now e ∙ (keeps.pieces c.names c.index c.block c.own c.chunk).0 ∙ sym c.chunk ∙ ap chunks (sym e)

      by : (value_of (map_of stored.tree) (content_key index) ≡ None) ⊎ ((value : List ℕ) × (value_of (map_of stored.tree) (content_key index) ≡ Some value))
          → piece_of now stored.tree index ≡ piece_of chunks stored.tree index
      by (inl none) = ap (option_and_then (λ value. now (handle_in value))) none ∙ sym (ap (option_and_then (λ value. chunks (handle_in value))) none)
      by (inr (value, some)) = ap (option_and_then (λ value. now (handle_in value))) some ∙ at value (has (content_key index) value some)
          ∙ sym (ap (option_and_then (λ value. chunks (handle_in value))) some)

  -- ---- bodies

  pub body_kept : Keeps → (body : Body) → HasBody chunks owner handle stored body → HasBody now owner_now handle stored body
  body_kept keeps (Bytes bytes) has = record {
    kind = has.kind;
    tree = has_tree_kept keeps has.tree;
    contents = contents_kept keeps has.contents;
    bytes_are = bytes_same (piece_of chunks stored.tree) (piece_of now stored.tree) stored.inode.size stored.inode.tail bytes (piece_kept keeps has.contents) has.bytes_are;
  }
  body_kept keeps (Path path) has = has
  body_kept keeps (Names parent next names) has = record {
    kind = has.kind;
    tree = has_tree_kept keeps has.tree;
    parent_is = has.parent_is;
    next_is = has.next_is;
    entries = has.entries;
  }

  pub file_kept : Keeps → (file : Option File) → IsFileOr chunks owner handle stored file → IsFileOr now owner_now handle stored file
  file_kept keeps None dead = record {
    kind = dead.kind;
    tree = ⊎_elim (λ none. inl none) (λ has. inr (has_tree_kept keeps has.0, contents_kept keeps has.1)) dead.tree;
  }
  file_kept keeps (Some file) is = (is.0, is.1, body_kept keeps file.body is.2)

-- ---- all but some files

module _ (named : ℕ → Bool) (chunks now : Chunks) (owner owner_now : ℕ → Owner) (stored stored_now : ℕ → Stored) (files files_now : List File) where
  keeps_of : StaysBut named chunks owner now owner_now → (handle : ℕ) → named handle ≡ false → Keeps chunks now owner owner_now handle (stored handle)
  keeps_of stays handle other = record {
    pages = λ node block own chunk. stays.kept node.handle block chunk (ap named (ap (inode_of node.handle) own) ∙ other);
    pieces = λ names index block own chunk. stays.kept names block chunk (ap named (ap (inode_of names) own) ∙ other);
  }

  pub files_kept : AreFiles chunks owner stored files → StaysBut named chunks owner now owner_now
      → ((handle : ℕ) → named handle ≡ false → stored_now handle ≡ stored handle)
      → ((handle : ℕ) → named handle ≡ false → file_at files_now handle ≡ file_at files handle)
      → ((handle : ℕ) (block : Block) → now handle ≡ Some block → named (inode_of handle (owner_now handle)) ≡ true → IsOwned now owner_now stored_now files_now handle block (owner_now handle))
      → ((handle : ℕ) (file : File) → named handle ≡ true → file_at files_now handle ≡ Some file → (owner_now handle ≡ Inodes) × (now handle ≢ None))
      → AreFiles now owner_now stored_now files_now
  files_kept was stays same_stored same_files these these_are = record {
    each = λ handle block chunk. by_test handle block chunk (named (inode_of handle (owner_now handle))) refl;
    all = λ handle file is. all_by handle file is (named handle) refl;
  }
    where
      there : (handle : ℕ) (block : Block) → now handle ≡ Some block → now handle ≢ None
      there handle block some none = absurd cc

      block_there : (handle : ℕ) → chunks handle ≢ None → (o : Option Block) → chunks handle ≡ o → (block : Block) × (chunks handle ≡ Some block)
      block_there handle some None is = absurd (some is)
      block_there handle some (Some block) is = (block, is)

      one : (inode : ℕ) → named inode ≡ false → HasOne chunks owner stored inode → HasOne now owner_now stored_now inode
      one inode other is = let k = stays.kept inode is.block is.chunk (ap named (ap (inode_of inode) is.itself) ∙ other) in record {
        block = is.block;
        chunk = k.0;
        itself = k.1 ∙ is.itself;
        has_tree = subst (λ (s : Stored). s.inode.tree ≢ 0) (sym (same_stored inode other)) is.has_tree;
      }

      owned : (handle : ℕ) (block : Block) (o : Owner) → now handle ≡ Some block → chunks handle ≡ Some block → owner_now handle ≡ o → owner handle ≡ o → named (inode_of handle o) ≡ false
          → IsOwned chunks owner stored files handle block o → IsOwned now owner_now stored_now files_now handle block o
      owned handle block Inodes chunk_now chunk own_now own other is = record {
        inode = subst (λ (s : Stored). HasInode s.inode block) (sym (same_stored handle other)) is.inode;
        file = subst (IsFileOr now owner_now handle (stored_now handle)) (sym (same_files handle other))
            (subst (λ (s : Stored). IsFileOr now owner_now handle s (file_at files handle)) (sym (same_stored handle other))
            (file_kept chunks now owner owner_now handle (stored handle) (keeps_of stays handle other) (file_at files handle) is.file));
      }
      owned handle block (PageOf inode) chunk_now chunk own_now own other is = record {
        kind = is.kind;
        of = one inode other is.of;
        node = is.node;
        there = subst (λ (s : Stored). IsPageOf s.tree is.node) (sym (same_stored inode other)) is.there;
        names = is.names;
      }
      owned handle block (DataOf inode index) chunk_now chunk own_now own other is = record {
        kind = is.kind;
        of = one inode other is.of;
        names = ap (λ (s : Stored). value_of (map_of s.tree) (content_key index)) (same_stored inode other) ∙ is.names;
      }

      by_test : (handle : ℕ) (block : Block) → now handle ≡ Some block → (b : Bool) → named (inode_of handle (owner_now handle)) ≡ b
          → IsOwned now owner_now stored_now files_now handle block (owner_now handle)
      by_test handle block chunk true is = these handle block chunk is
      by_test handle block chunk false is =
          let k = stays.none_new handle block chunk is in
          owned handle block (owner_now handle) chunk k.0 refl (sym k.1) is (subst (IsOwned chunks owner stored files handle block) (sym k.1) (was.each handle block k.0))

      all_by : (handle : ℕ) (file : File) → file_at files_now handle ≡ Some file → (b : Bool) → named handle ≡ b → (owner_now handle ≡ Inodes) × (now handle ≢ None)
      all_by handle file is true test = these_are handle file test is
      all_by handle file is false test =
          let before = was.all handle file (sym (same_files handle test) ∙ is) in
          let b = block_there handle before.1 (chunks handle) refl in
          let k = stays.kept handle b.0 b.1 (ap named (ap (inode_of handle) before.0) ∙ test) in
          (k.1 ∙ before.0, there handle b.0 k.0)
