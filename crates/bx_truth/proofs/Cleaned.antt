-- A dead file is cleaned: its inode stays dead with less, or is gone.
use Rattle.std.proofs.Common.{◌≡◌, ℕ, ◌⊎◌, inl, inr, arith, Bool, true, false, List, [], ◌∷◌, sym, ap, ◌∙◌, subst, refl, Option, Some, None}
use Rattle.std.specs.Prelude.{◌≢◌, ◌==◌, if◌then◌else◌}
use Rattle.bx_views.specs.bx_layout.specs.declared.block.Block.{Block}
use Rattle.bx_views.specs.bx_layout.specs.Areas.{generation_in}
use Rattle.bx_model.specs.bx_tree_files.specs.declared.file.File.{File}
use Rattle.bx_model.specs.declared.tree.Tree.{Tree}
use Rattle.bx_model.specs.bx_tree_files.specs.Files.{file_at}
use Rattle.bx_model.specs.Opening.{root_handle}
use Rattle.bx_truth.specs.Chunks.{IsSlot, chunks_of, block_at, handle_of, word_at, dead_at}
use Rattle.bx_truth.specs.Dying.{IsShownDead, MarksSlot, IsDeadFile, without_file}
use Rattle.bx_truth.specs.Shown.{KeepsSlots, KeepsOthers}
use Rattle.bx_truth.specs.Stands.{StandsFor, AreFiles, IsOwned, IsAnInode, IsAPage, IsAPiece, inode_of}
use Rattle.bx_truth.specs.Stored.{Owner, Inodes, Stored, IsFileOr}
use Rattle.bx_views.specs.Truths.{Truth}
use Rattle.bx_truth.proofs.Cases.{same_or, eq_true, eq_false}
use Rattle.bx_truth.proofs.Died.{died}
use Rattle.bx_truth.proofs.Frames.{files_kept}
use Rattle.bx_truth.proofs.Put.{equal, some_not, some_there, is_live}
use Rattle.bx_truth.proofs.Same.{chunk_is}

-- files without one that isn't there
without_none : (files : List File) (handle : ℕ) → file_at files handle ≡ None → without_file files handle ≡ files
without_none [] handle none = refl
without_none (x ∷ files) handle none = by (same_or x.handle handle) (without_none files handle)
  where
    by : (x.handle ≡ handle) ⊎ (x.handle ≢ handle) → (file_at files handle ≡ None → without_file files handle ≡ files) → without_file (x ∷ files) handle ≡ x ∷ files
    by (inl same) others = let e : Some x ≡ None = sym (ap (λ (t : Bool). if t then Some x else file_at files handle) (eq_true x.handle handle same)) ∙ none in absurd cc
    by (inr other) others =
        let rest : file_at files handle ≡ None = sym (ap (λ (t : Bool). if t then Some x else file_at files handle) (eq_false x.handle handle other)) ∙ none in
        ap (λ (t : Bool). if t then without_file files handle else x ∷ without_file files handle) (eq_false x.handle handle other)
        ∙ ap (λ (fs : List File). x ∷ fs) (others rest)

module _ (areas : ℕ) (truth : Truth) (tree : Tree) (handle : ℕ) (is : StandsFor areas truth tree) (was : IsDeadFile areas truth tree is handle) where
  the_chunk : (b : Block) × (chunks_of areas truth handle ≡ Some b)
  the_chunk = some_there (chunks_of areas truth handle) was.there

  the_inode : IsAnInode (chunks_of areas truth) is.owner is.stored tree.files handle the_chunk.0
  the_inode = subst (IsOwned (chunks_of areas truth) is.owner is.stored tree.files handle the_chunk.0) was.itself (is.are_files.each handle the_chunk.0 the_chunk.1)

  -- no file has its handle
  pub no_file : file_at tree.files handle ≡ None
  no_file = by (file_at tree.files handle) refl
    where
      by : (o : Option File) → file_at tree.files handle ≡ o → file_at tree.files handle ≡ None
      by None none = none
      by (Some file) some =
          let f : IsFileOr (chunks_of areas truth) is.owner handle (is.stored handle) (Some file) = subst (IsFileOr (chunks_of areas truth) is.owner handle (is.stored handle)) some the_inode.file in
          absurd (is_live (chunks_of areas truth) is.owner handle (is.stored handle) file.body f.2 was.kind)

  -- what is shown of it
  pub dead_shown : IsShownDead (chunks_of areas truth) is.owner handle (is.stored handle)
  dead_shown = record {
    block = the_chunk.0;
    chunk = the_chunk.1;
    itself = was.itself;
    has = the_inode.inode;
    dead = subst (IsFileOr (chunks_of areas truth) is.owner handle (is.stored handle)) no_file the_inode.file;
    pages = λ h b some page.
        let p : IsAPage (chunks_of areas truth) is.owner is.stored h b handle = subst (IsOwned (chunks_of areas truth) is.owner is.stored tree.files h b) page (is.are_files.each h b some) in
        record { kind = p.kind; has_tree = p.of.has_tree; node = p.node; there = p.there; names = p.names };
    pieces = λ h index b some piece.
        let p : IsAPiece (chunks_of areas truth) is.owner is.stored h b handle index = subst (IsOwned (chunks_of areas truth) is.owner is.stored tree.files h b) piece (is.are_files.each h b some) in
        record { kind = p.kind; has_tree = p.of.has_tree; names = p.names };
  }

  pub not_root : handle ≢ root_handle
  not_root same = is.has_root (ap (file_at tree.files) (sym same) ∙ no_file)

  pub slot : IsSlot areas (block_at handle)
  slot = (chunk_is areas truth handle the_chunk.0 the_chunk.1).slot

  marked : dead_at truth (block_at handle) ≡ true
  marked = is.marks.dead handle the_chunk.0 the_chunk.1 was.itself was.kind

  -- it is shown anew
  pub dead_anew : (now : Truth) (owner_now : ℕ → Owner) (stored_now : Stored) → KeepsSlots areas truth now → KeepsOthers areas truth now tree is owner_now handle
      → IsShownDead (chunks_of areas now) owner_now handle stored_now → StandsFor areas now tree
  dead_anew now owner_now stored_now slots others s =
      subst (λ (fs : List File). StandsFor areas now (record tree { files = fs })) (without_none tree.files handle no_file)
      (died areas truth now tree handle owner_now stored_now is record { chunked = slots.chunked; given = slots.given; here = slots.dead (block_at handle) slot ∙ marked; others = λ block there other. slots.dead block there } others not_root s)

  -- two handles in use are not in one block
  one_block : (h : ℕ) (b : Block) → chunks_of areas truth h ≡ Some b → block_at h ≡ block_at handle → h ≡ handle
  one_block h b some same =
      let x = chunk_is areas truth h b some in
      let y = chunk_is areas truth handle the_chunk.0 the_chunk.1 in
      x.is_handle ∙ ap (λ (n : ℕ). handle_of n (generation_in (word_at truth n))) same ∙ sym y.is_handle

  -- it is gone
  module _ (now : Truth) (slots : MarksSlot areas truth now handle false) (others : KeepsOthers areas truth now tree is is.owner handle)
      (gone : (h : ℕ) (b : Block) → chunks_of areas now h ≡ Some b → (inode_of h (is.owner h) == handle) ≡ false) where
    before : (h : ℕ) (b : Block) → chunks_of areas now h ≡ Some b → chunks_of areas truth h ≡ Some b
    before h b some = (others.none_new h b some (gone h b some)).0

    not_it : (h : ℕ) (b : Block) → chunks_of areas now h ≡ Some b → h ≢ handle
    not_it h b some same =
        let t = eq_true (inode_of h (is.owner h)) handle (ap (inode_of h) (ap is.owner same ∙ was.itself) ∙ same) in
        let f = gone h b some in
        absurd cc

    are_files_now : AreFiles (chunks_of areas now) is.owner is.stored tree.files
    are_files_now = files_kept (λ h. h == handle) (chunks_of areas truth) (chunks_of areas now) is.owner is.owner is.stored is.stored tree.files tree.files
        is.are_files others (λ h test. refl) (λ h test. refl)
        (λ h b some test. let f = gone h b some in absurd cc)
        (λ h file test found. let e : None ≡ Some file = sym no_file ∙ ap (file_at tree.files) (sym (equal h handle test)) ∙ found in absurd cc)

    abbrev Marked : ℕ → Type 0
    Marked block = (h : ℕ) × (block_at h ≡ block) × (chunks_of areas now h ≢ None) × (is.owner h ≡ Inodes) × ((is.stored h).inode.kind ≡ 0)

    marked_now : (block : ℕ) → IsSlot areas block → dead_at now block ≡ true → (block ≡ block_at handle) ⊎ (block ≢ block_at handle) → Marked block
    marked_now block there mark (inl same) = let e : true ≡ false = sym mark ∙ ap (dead_at now) same ∙ slots.here in absurd cc
    marked_now block there mark (inr other) =
        let m = is.marks.marked block there (sym (slots.others block there other) ∙ mark) in
        let apart : m.0 ≢ handle = λ same. other (sym m.1 ∙ ap block_at same) in
        let c = some_there (chunks_of areas truth m.0) m.2 in
        let k = others.kept m.0 c.0 c.1 (ap (λ (o : Owner). inode_of m.0 o == handle) m.3 ∙ eq_false m.0 handle apart) in
        (m.0, m.1, some_not (chunks_of areas now m.0) c.0 k.0, m.3, m.4)

    pub dead_gone : StandsFor areas now tree
    dead_gone = record {
      chunked = slots.chunked;
      owner = is.owner;
      stored = is.stored;
      are_files = are_files_now;
      marks = record {
        dead = λ h b some itself kind.
            let x = chunk_is areas truth h b (before h b some) in
            slots.others (block_at h) x.slot (λ same. not_it h b some (one_block h b (before h b some) same)) ∙ is.marks.dead h b (before h b some) itself kind;
        marked = λ block there mark. marked_now block there mark (same_or block (block_at handle));
      };
      areas_are = is.areas_are;
      root_is = is.root_is;
      has_root = is.has_root;
      in_order = is.in_order;
      given = λ h given. let w = is.given h given in record { slot = w.slot; generation = let a = w.generation in let b = slots.given (block_at h) w.slot in omega (arith, a, b) };
    }
