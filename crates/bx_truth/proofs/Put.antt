-- One file is put.
use Rattle.std.proofs.Common.{◌≡◌, ℕ, ◌⊎◌, inl, inr, arith, Bool, true, false, sym, ap, ◌∙◌, subst, refl, Option, Some, None}
use Rattle.std.specs.Prelude.{◌≢◌, ◌==◌, if◌then◌else◌}
use Rattle.std.proofs.lemmas.Bool.Decides.{nat_tests}
use Rattle.bx_views.specs.bx_layout.specs.declared.block.Block.{Block}
use Rattle.bx_model.specs.bx_tree_files.specs.declared.file.Body.{Body}
use Rattle.bx_model.specs.bx_tree_files.specs.declared.file.Body.TheVariants.{Bytes, Path, Names}
use Rattle.bx_model.specs.bx_tree_files.specs.declared.file.File.{File}
use Rattle.bx_model.specs.declared.tree.Tree.{Tree}
use Rattle.bx_model.specs.bx_tree_files.specs.Files.{file_at, with_file}
use Rattle.bx_model.specs.Opening.{root_handle}
use Rattle.bx_page.specs.Contents.{value_of}
use Rattle.bx_truth.specs.Chunks.{chunks_of, block_at, dead_at}
use Rattle.bx_truth.specs.Keys.{content_key}
use Rattle.bx_truth.specs.Stands.{StandsFor, AreFiles, IsOwned, IsAnInode, IsAPage, IsAPiece, HasOne, WasGiven, inode_of}
use Rattle.bx_truth.specs.Stored.{Owner, Inodes, PageOf, DataOf, Stored, HasInode, HasBody, IsFileOr}
use Rattle.bx_truth.specs.PageTrees.{Chunks, IsPageOf, map_of}
use Rattle.bx_views.specs.Truths.{Truth}
use Rattle.bx_truth.proofs.Frames.{files_kept}
use Rattle.bx_truth.proofs.Cases.{same_or, eq_true, eq_false}
use Rattle.bx_truth.proofs.FilesInOrder.{file_with, rises_with}
use Rattle.bx_truth.proofs.Same.{chunk_is}
use Rattle.bx_truth.specs.Shown.{IsShown, KeepsSlots, IsNoDead, KeepsOthers}

pub equal : (a b : ℕ) → (a == b) ≡ true → a ≡ b
equal a b test = grind (arith, nat_tests, test)

pub some_not : (o : Option Block) (b : Block) → o ≡ Some b → o ≢ None
some_not o b some none = absurd cc

pub some_there : (o : Option Block) → o ≢ None → (b : Block) × (o ≡ Some b)
some_there None is = absurd (is refl)
some_there (Some b) is = (b, refl)

some_same : {X : Type 0} (x y : X) → Some x ≡ Some y → x ≡ y
some_same x y e = cc

-- a live file's inode isn't dead
pub is_live : (chunks : Chunks) (owner : ℕ → Owner) (handle : ℕ) (stored : Stored) (body : Body) → HasBody chunks owner handle stored body → stored.inode.kind ≢ 0
is_live chunks owner handle stored (Bytes bytes) has zero = omega (arith, has.kind, zero)
is_live chunks owner handle stored (Path path) has zero = omega (arith, has.kind, zero)
is_live chunks owner handle stored (Names parent next names) has zero = omega (arith, has.kind, zero)

-- ---- a file is shown

module _ (areas : ℕ) (truth : Truth) (tree : Tree) (handle : ℕ) (file : File) (is : StandsFor areas truth tree) (there : file_at tree.files handle ≡ Some file) where
  pub own : is.owner handle ≡ Inodes
  own = (is.are_files.all handle file there).0

  pub a_chunk : (b : Block) × (chunks_of areas truth handle ≡ Some b)
  a_chunk = some_there (chunks_of areas truth handle) (is.are_files.all handle file there).1

  inode : IsAnInode (chunks_of areas truth) is.owner is.stored tree.files handle a_chunk.0
  inode = subst (IsOwned (chunks_of areas truth) is.owner is.stored tree.files handle a_chunk.0) own (is.are_files.each handle a_chunk.0 a_chunk.1)

  the_file : IsFileOr (chunks_of areas truth) is.owner handle (is.stored handle) (Some file)
  the_file = subst (IsFileOr (chunks_of areas truth) is.owner handle (is.stored handle)) there inode.file

  pub shown : IsShown (chunks_of areas truth) is.owner handle (is.stored handle) file
  shown = record {
    block = a_chunk.0;
    chunk = a_chunk.1;
    itself = own;
    has = inode.inode;
    handle_is = the_file.0;
    fields = the_file.1;
    body = the_file.2;
    pages = λ h b some page.
        let p : IsAPage (chunks_of areas truth) is.owner is.stored h b handle = subst (IsOwned (chunks_of areas truth) is.owner is.stored tree.files h b) page (is.are_files.each h b some) in
        record { kind = p.kind; has_tree = p.of.has_tree; node = p.node; there = p.there; names = p.names };
    pieces = λ h index b some piece.
        let p : IsAPiece (chunks_of areas truth) is.owner is.stored h b handle index = subst (IsOwned (chunks_of areas truth) is.owner is.stored tree.files h b) piece (is.are_files.each h b some) in
        record { kind = p.kind; has_tree = p.of.has_tree; names = p.names };
  }

  pub no_dead : IsNoDead areas truth tree is handle
  no_dead some itself = is_live (chunks_of areas truth) is.owner handle (is.stored handle) file.body the_file.2

-- ---- a file is put

module _ (areas : ℕ) (truth now : Truth) (tree : Tree) (handle : ℕ) (file : File) (owner_now : ℕ → Owner) (stored_now : Stored) (is : StandsFor areas truth tree)
    (slots : KeepsSlots areas truth now) (others : KeepsOthers areas truth now tree is owner_now handle) (none_dead : IsNoDead areas truth tree is handle)
    (s : IsShown (chunks_of areas now) owner_now handle stored_now file) where
  abbrev anew : ℕ → Stored
  anew h = if h == handle then stored_now else is.stored h

  here : (h : ℕ) → h ≡ handle → anew h ≡ stored_now
  here h same = ap (λ (t : Bool). if t then stored_now else is.stored h) (eq_true h handle same)

  elsewhere : (h : ℕ) → (h == handle) ≡ false → anew h ≡ is.stored h
  elsewhere h test = ap (λ (t : Bool). if t then stored_now else is.stored h) test

  file_here : file_at (with_file tree.files file) handle ≡ Some file
  file_here = file_with tree.files file handle ∙ ap (λ (t : Bool). if t then Some file else file_at tree.files handle) (eq_true file.handle handle s.handle_is)

  file_there : (h : ℕ) → (h == handle) ≡ false → file_at (with_file tree.files file) h ≡ file_at tree.files h
  file_there h test = file_with tree.files file h ∙ ap (λ (t : Bool). if t then Some file else file_at tree.files h) (eq_false file.handle h (λ same. let t = eq_true h handle (sym same ∙ s.handle_is) in absurd cc))

  one : stored_now.inode.tree ≢ 0 → (h : ℕ) → h ≡ handle → HasOne (chunks_of areas now) owner_now anew h
  one has_tree h same = subst (HasOne (chunks_of areas now) owner_now anew) (sym same) (record {
    block = s.block;
    chunk = s.chunk;
    itself = s.itself;
    has_tree = λ none. has_tree (ap (λ (x : Stored). x.inode.tree) (sym (here handle refl)) ∙ none);
  })

  these : (h : ℕ) (b : Block) (o : Owner) → chunks_of areas now h ≡ Some b → owner_now h ≡ o → inode_of h o ≡ handle
      → IsOwned (chunks_of areas now) owner_now anew (with_file tree.files file) h b o
  these h b Inodes some owned same = record {
    inode = subst (λ (x : Stored). HasInode x.inode b) (sym (here h same))
        (subst (HasInode stored_now.inode) (some_same s.block b (sym s.chunk ∙ ap (chunks_of areas now) (sym same) ∙ some)) s.has);
    file = subst (λ (x : Stored). IsFileOr (chunks_of areas now) owner_now h x (file_at (with_file tree.files file) h)) (sym (here h same))
        (subst (λ (n : ℕ). IsFileOr (chunks_of areas now) owner_now n stored_now (file_at (with_file tree.files file) n)) (sym same)
        (subst (IsFileOr (chunks_of areas now) owner_now handle stored_now) (sym file_here) (s.handle_is, s.fields, s.body)));
  }
  these h b (PageOf inode) some owned same =
      let p = s.pages h b some (owned ∙ ap PageOf same) in
      record { kind = p.kind; of = one p.has_tree inode same; node = p.node; there = subst (λ (x : Stored). IsPageOf x.tree p.node) (sym (here inode same)) p.there; names = p.names }
  these h b (DataOf inode index) some owned same =
      let p = s.pieces h index b some (owned ∙ ap (λ (n : ℕ). DataOf n index) same) in
      record { kind = p.kind; of = one p.has_tree inode same; names = ap (λ (x : Stored). value_of (map_of x.tree) (content_key index)) (here inode same) ∙ p.names }

  are_files_now : AreFiles (chunks_of areas now) owner_now anew (with_file tree.files file)
  are_files_now = files_kept (λ h. h == handle) (chunks_of areas truth) (chunks_of areas now) is.owner owner_now is.stored anew tree.files (with_file tree.files file)
      is.are_files others elsewhere file_there
      (λ h b some test. these h b (owner_now h) some refl (equal (inode_of h (owner_now h)) handle test))
      (λ h other test found. (ap owner_now (equal h handle test) ∙ s.itself, subst (λ (n : ℕ). chunks_of areas now n ≢ None) (sym (equal h handle test)) (some_not (chunks_of areas now handle) s.block s.chunk)))

  root_there : file_at (with_file tree.files file) root_handle ≢ None
  root_there none = by (same_or root_handle handle)
    where
      by : (root_handle ≡ handle) ⊎ (root_handle ≢ handle) → ⊥
      by (inl same) = let e : Some file ≡ None = sym file_here ∙ ap (file_at (with_file tree.files file)) (sym same) ∙ none in absurd cc
      by (inr other) = is.has_root (sym (file_there root_handle (eq_false root_handle handle other)) ∙ none)

  live_now : stored_now.inode.kind ≢ 0
  live_now = is_live (chunks_of areas now) owner_now handle stored_now file.body s.body

  dead_now : (h : ℕ) (b : Block) → chunks_of areas now h ≡ Some b → owner_now h ≡ Inodes → (anew h).inode.kind ≡ 0 → dead_at now (block_at h) ≡ true
  dead_now h b some itself kind = by (same_or h handle)
    where
      by : (h ≡ handle) ⊎ (h ≢ handle) → dead_at now (block_at h) ≡ true
      by (inl same) = absurd (live_now (ap (λ (x : Stored). x.inode.kind) (sym (here h same)) ∙ kind))
      by (inr other) =
          let before = others.none_new h b some (ap (λ (o : Owner). inode_of h o == handle) itself ∙ eq_false h handle other) in
          slots.dead (block_at h) (chunk_is areas truth h b before.0).slot
          ∙ is.marks.dead h b before.0 (sym before.1 ∙ itself) (ap (λ (x : Stored). x.inode.kind) (sym (elsewhere h (eq_false h handle other))) ∙ kind)

  abbrev Marked : ℕ → Type 0
  Marked block = (h : ℕ) × (block_at h ≡ block) × (chunks_of areas now h ≢ None) × (owner_now h ≡ Inodes) × ((anew h).inode.kind ≡ 0)

  marked_now : (block h : ℕ) → block_at h ≡ block → chunks_of areas truth h ≢ None → is.owner h ≡ Inodes → (is.stored h).inode.kind ≡ 0 → Marked block
  marked_now block h at some itself kind = by (same_or h handle)
    where
      by : (h ≡ handle) ⊎ (h ≢ handle) → Marked block
      by (inl same) = absurd (none_dead (subst (λ (n : ℕ). chunks_of areas truth n ≢ None) same some) (ap is.owner (sym same) ∙ itself) (ap (λ (n : ℕ). (is.stored n).inode.kind) (sym same) ∙ kind))
      by (inr other) =
          let c = some_there (chunks_of areas truth h) some in
          let k = others.kept h c.0 c.1 (ap (λ (o : Owner). inode_of h o == handle) itself ∙ eq_false h handle other) in
          (h, at, some_not (chunks_of areas now h) c.0 k.0, k.1 ∙ itself, ap (λ (x : Stored). x.inode.kind) (elsewhere h (eq_false h handle other)) ∙ kind)

  pub given_now : (h : ℕ) → WasGiven areas truth h → WasGiven areas now h
  given_now h was = record { slot = was.slot; generation = let a = was.generation in let b = slots.given (block_at h) was.slot in omega (arith, a, b) }

  pub put : StandsFor areas now (record tree { files = with_file tree.files file })
  put = record {
    chunked = slots.chunked;
    owner = owner_now;
    stored = anew;
    are_files = are_files_now;
    marks = record {
      dead = dead_now;
      marked = λ block slot marked.
          let m = is.marks.marked block slot (sym (slots.dead block slot) ∙ marked) in
          marked_now block m.0 m.1 m.2 m.3 m.4;
    };
    areas_are = is.areas_are;
    root_is = is.root_is;
    has_root = root_there;
    in_order = rises_with tree.files file is.in_order;
    given = λ h given. given_now h (is.given h given);
  }

  -- whose what is now
  pub put_owner : (h : ℕ) → put.owner h ≡ owner_now h
  unfolding put
  put_owner h = refl

  pub put_stored : (h : ℕ) → put.stored h ≡ (if h == handle then stored_now else is.stored h)
  unfolding put
  put_stored h = refl
