-- A file dies.
use Rattle.std.proofs.Common.{◌≡◌, ℕ, suc, ◌<◌, ◌⊎◌, inl, inr, arith, Bool, true, false, List, [], ◌∷◌, sym, ap, ◌∙◌, subst, refl, Option, Some, None}
use Rattle.std.specs.Prelude.{◌≢◌, ◌==◌, if◌then◌else◌, All, AllPairs}
use Rattle.std.proofs.lemmas.List.Kept.{AllPairs-cons}
use Rattle.std.proofs.lemmas.List.Elements.{All-cons, All-head, All-tail}
use Rattle.bx_views.specs.bx_layout.specs.declared.block.Block.{Block}
use Rattle.bx_views.specs.bx_layout.specs.Areas.{generation_in}
use Rattle.bx_model.specs.bx_tree_files.specs.declared.file.File.{File}
use Rattle.bx_model.specs.declared.tree.Tree.{Tree}
use Rattle.bx_model.specs.bx_tree_files.specs.Files.{file_at}
use Rattle.bx_model.specs.Opening.{root_handle}
use Rattle.bx_page.specs.Contents.{value_of}
use Rattle.bx_truth.specs.Chunks.{IsSlot, chunks_of, block_at, handle_of, word_at, dead_at}
use Rattle.bx_truth.specs.Keys.{content_key}
use Rattle.bx_truth.specs.Stands.{StandsFor, AreFiles, IsOwned, HasOne, inode_of}
use Rattle.bx_truth.specs.Stored.{Owner, Inodes, PageOf, DataOf, Stored, HasInode, IsFileOr}
use Rattle.bx_truth.specs.PageTrees.{IsPageOf, map_of}
use Rattle.bx_views.specs.Truths.{Truth}
use Rattle.bx_truth.proofs.Frames.{files_kept}
use Rattle.bx_truth.proofs.Cases.{same_or, eq_true, eq_false}
use Rattle.bx_truth.proofs.Same.{chunk_is}
use Rattle.bx_truth.specs.Shown.{KeepsOthers}
use Rattle.bx_truth.specs.Dying.{without_file, IsShownDead, MarksSlot}
use Rattle.bx_truth.proofs.Put.{equal, some_not, some_there}

some_same : {X : Type 0} (x y : X) → Some x ≡ Some y → x ≡ y
some_same x y e = cc

-- ---- the files

pub file_without : (files : List File) (handle h : ℕ) → file_at (without_file files handle) h ≡ (if handle == h then None else file_at files h)
file_without [] handle h = by (handle == h)
  where
    by : (t : Bool) → ◌≡◌ {A = Option File} None (if t then None else None)
    by true = refl
    by false = refl
file_without (x ∷ files) handle h = by (same_or x.handle handle) (same_or handle h) (file_without files handle h)
  where
    by : (x.handle ≡ handle) ⊎ (x.handle ≢ handle) → (handle ≡ h) ⊎ (handle ≢ h) → file_at (without_file files handle) h ≡ (if handle == h then None else file_at files h)
        → file_at (without_file (x ∷ files) handle) h ≡ (if handle == h then None else file_at (x ∷ files) h)
    by (inl same) (inl at) rest = rw (eq_true x.handle handle same, eq_true handle h at) (rest ∙ rw (eq_true handle h at) refl)
    by (inl same) (inr other) rest = rw (eq_true x.handle handle same, eq_false handle h other, eq_false x.handle h (λ e. other (sym same ∙ e))) (rest ∙ rw (eq_false handle h other) refl)
    by (inr apart) (inl at) rest = rw (eq_false x.handle handle apart, eq_true handle h at, eq_false x.handle h (λ e. apart (e ∙ sym at))) (rest ∙ rw (eq_true handle h at) refl)
    by (inr apart) (inr other) rest = rw (eq_false x.handle handle apart, eq_false handle h other) (ap (λ (o : Option File). if x.handle == h then Some x else o) (rest ∙ rw (eq_false handle h other) refl))

all_without : (P : File → Type 0) (files : List File) (handle : ℕ) → All P files → All P (without_file files handle)
all_without P [] handle all = all
all_without P (x ∷ files) handle all = by (x.handle == handle) (all_without P files handle (All-tail P x files all))
  where
    by : (t : Bool) → All P (without_file files handle) → All P (if t then without_file files handle else x ∷ without_file files handle)
    by true rest = rest
    by false rest = All-cons P x (without_file files handle) (All-head P x files all) rest

rises_without : (files : List File) (handle : ℕ) → AllPairs (λ a b. a.handle < b.handle) files → AllPairs (λ a b. a.handle < b.handle) (without_file files handle)
rises_without [] handle rises = rises
rises_without (x ∷ files) handle rises = by (x.handle == handle) (rises_without files handle (λ i j d less within. rises (suc i) (suc j) d (omega (arith, less)) (omega (arith, within))))
  where
    above : All (λ (b : File). x.handle < b.handle) files
    above k d less = rises 0 (suc k) d (omega arith) (omega (arith, less))

    by : (t : Bool) → AllPairs (λ a b. a.handle < b.handle) (without_file files handle) → AllPairs (λ a b. a.handle < b.handle) (if t then without_file files handle else x ∷ without_file files handle)
    by true rest = rest
    by false rest = AllPairs-cons (λ (a b : File). a.handle < b.handle) x (without_file files handle) (all_without (λ (b : File). x.handle < b.handle) files handle above) rest

-- ---- the tree

module _ (areas : ℕ) (truth now : Truth) (tree : Tree) (handle : ℕ) (owner_now : ℕ → Owner) (stored_now : Stored) (is : StandsFor areas truth tree)
    (slots : MarksSlot areas truth now handle true) (others : KeepsOthers areas truth now tree is owner_now handle) (not_root : handle ≢ root_handle)
    (s : IsShownDead (chunks_of areas now) owner_now handle stored_now) where
  abbrev anew : ℕ → Stored
  anew h = if h == handle then stored_now else is.stored h

  here : (h : ℕ) → h ≡ handle → anew h ≡ stored_now
  here h same = ap (λ (t : Bool). if t then stored_now else is.stored h) (eq_true h handle same)

  elsewhere : (h : ℕ) → (h == handle) ≡ false → anew h ≡ is.stored h
  elsewhere h test = ap (λ (t : Bool). if t then stored_now else is.stored h) test

  file_here : file_at (without_file tree.files handle) handle ≡ None
  file_here = file_without tree.files handle handle ∙ ap (λ (t : Bool). if t then None else file_at tree.files handle) (eq_true handle handle refl)

  file_there : (h : ℕ) → (h == handle) ≡ false → file_at (without_file tree.files handle) h ≡ file_at tree.files h
  file_there h test = file_without tree.files handle h ∙ ap (λ (t : Bool). if t then None else file_at tree.files h) (eq_false handle h (λ same. let t = eq_true h handle (sym same) in absurd cc))

  one : stored_now.inode.tree ≢ 0 → (h : ℕ) → h ≡ handle → HasOne (chunks_of areas now) owner_now anew h
  one has_tree h same = subst (HasOne (chunks_of areas now) owner_now anew) (sym same) (record {
    block = s.block;
    chunk = s.chunk;
    itself = s.itself;
    has_tree = λ none. has_tree (ap (λ (x : Stored). x.inode.tree) (sym (here handle refl)) ∙ none);
  })

  these : (h : ℕ) (b : Block) (o : Owner) → chunks_of areas now h ≡ Some b → owner_now h ≡ o → inode_of h o ≡ handle
      → IsOwned (chunks_of areas now) owner_now anew (without_file tree.files handle) h b o
  these h b Inodes some owned same = record {
    inode = subst (λ (x : Stored). HasInode x.inode b) (sym (here h same))
        (subst (HasInode stored_now.inode) (some_same s.block b (sym s.chunk ∙ ap (chunks_of areas now) (sym same) ∙ some)) s.has);
    file = subst (λ (x : Stored). IsFileOr (chunks_of areas now) owner_now h x (file_at (without_file tree.files handle) h)) (sym (here h same))
        (subst (λ (n : ℕ). IsFileOr (chunks_of areas now) owner_now n stored_now (file_at (without_file tree.files handle) n)) (sym same)
        (subst (IsFileOr (chunks_of areas now) owner_now handle stored_now) (sym file_here) s.dead));
  }
  these h b (PageOf inode) some owned same =
      let p = s.pages h b some (owned ∙ ap PageOf same) in
      record { kind = p.kind; of = one p.has_tree inode same; node = p.node; there = subst (λ (x : Stored). IsPageOf x.tree p.node) (sym (here inode same)) p.there; names = p.names }
  these h b (DataOf inode index) some owned same =
      let p = s.pieces h index b some (owned ∙ ap (λ (n : ℕ). DataOf n index) same) in
      record { kind = p.kind; of = one p.has_tree inode same; names = ap (λ (x : Stored). value_of (map_of x.tree) (content_key index)) (here inode same) ∙ p.names }

  are_files_now : AreFiles (chunks_of areas now) owner_now anew (without_file tree.files handle)
  are_files_now = files_kept (λ h. h == handle) (chunks_of areas truth) (chunks_of areas now) is.owner owner_now is.stored anew tree.files (without_file tree.files handle)
      is.are_files others elsewhere file_there
      (λ h b some test. these h b (owner_now h) some refl (equal (inode_of h (owner_now h)) handle test))
      (λ h other test found. let e : None ≡ Some other = sym file_here ∙ ap (file_at (without_file tree.files handle)) (sym (equal h handle test)) ∙ found in absurd cc)

  -- two handles in use are not in one block
  one_block : (h : ℕ) (b : Block) → chunks_of areas now h ≡ Some b → block_at h ≡ block_at handle → h ≡ handle
  one_block h b some same =
      let x = chunk_is areas now h b some in
      let y = chunk_is areas now handle s.block s.chunk in
      x.is_handle ∙ ap (λ (n : ℕ). handle_of n (generation_in (word_at now n))) same ∙ sym y.is_handle

  dead_now : (h : ℕ) (b : Block) → chunks_of areas now h ≡ Some b → owner_now h ≡ Inodes → (anew h).inode.kind ≡ 0 → dead_at now (block_at h) ≡ true
  dead_now h b some itself kind = by (same_or h handle)
    where
      by : (h ≡ handle) ⊎ (h ≢ handle) → dead_at now (block_at h) ≡ true
      by (inl same) = ap (λ (n : ℕ). dead_at now (block_at n)) same ∙ slots.here
      by (inr other) =
          let before = others.none_new h b some (ap (λ (o : Owner). inode_of h o == handle) itself ∙ eq_false h handle other) in
          slots.others (block_at h) (chunk_is areas truth h b before.0).slot (λ same. other (one_block h b some same))
          ∙ is.marks.dead h b before.0 (sym before.1 ∙ itself) (ap (λ (x : Stored). x.inode.kind) (sym (elsewhere h (eq_false h handle other))) ∙ kind)

  abbrev Marked : ℕ → Type 0
  Marked block = (h : ℕ) × (block_at h ≡ block) × (chunks_of areas now h ≢ None) × (owner_now h ≡ Inodes) × ((anew h).inode.kind ≡ 0)

  marked_now : (block : ℕ) → IsSlot areas block → dead_at now block ≡ true → (block ≡ block_at handle) ⊎ (block ≢ block_at handle) → Marked block
  marked_now block slot marked (inl same) = (handle, sym same, some_not (chunks_of areas now handle) s.block s.chunk, s.itself, ap (λ (x : Stored). x.inode.kind) (here handle refl) ∙ s.dead.kind)
  marked_now block slot marked (inr other) =
      let m = is.marks.marked block slot (sym (slots.others block slot other) ∙ marked) in
      let apart : m.0 ≢ handle = λ same. other (sym m.1 ∙ ap block_at same) in
      let c = some_there (chunks_of areas truth m.0) m.2 in
      let k = others.kept m.0 c.0 c.1 (ap (λ (o : Owner). inode_of m.0 o == handle) m.3 ∙ eq_false m.0 handle apart) in
      (m.0, m.1, some_not (chunks_of areas now m.0) c.0 k.0, k.1 ∙ m.3, ap (λ (x : Stored). x.inode.kind) (elsewhere m.0 (eq_false m.0 handle apart)) ∙ m.4)

  pub died : StandsFor areas now (record tree { files = without_file tree.files handle })
  died = record {
    chunked = slots.chunked;
    owner = owner_now;
    stored = anew;
    are_files = are_files_now;
    marks = record { dead = dead_now; marked = λ block slot marked. marked_now block slot marked (same_or block (block_at handle)) };
    areas_are = is.areas_are;
    root_is = is.root_is;
    has_root = λ none. is.has_root (sym (file_there root_handle (eq_false root_handle handle (λ same. not_root (sym same)))) ∙ none);
    in_order = rises_without tree.files handle is.in_order;
    given = λ h given. let was = is.given h given in record { slot = was.slot; generation = let a = was.generation in let b = slots.given (block_at h) was.slot in omega (arith, a, b) };
  }
