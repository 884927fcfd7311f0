-- A link is made.
use Rattle.std.proofs.Common.{◌≡◌, ℕ, ◌⊎◌, inl, inr, Bool, false, List, sym, ap, ◌∙◌, subst, refl, Option, Some, None}
use Rattle.std.specs.Prelude.{◌≢◌, ◌==◌, if◌then◌else◌, Contains}
use Rattle.bx_views.specs.bx_layout.specs.declared.block.Block.{Block}
use Rattle.bx_views.specs.bx_layout.specs.declared.inode.Inode.{Inode}
use Rattle.bx_model.specs.bx_tree_files.specs.declared.file.Body.TheVariants.{Path}
use Rattle.bx_model.specs.bx_tree_files.specs.declared.file.File.{File}
use Rattle.bx_model.specs.declared.tree.Tree.{Tree}
use Rattle.bx_model.specs.bx_tree_files.specs.Files.{with_file}
use Rattle.bx_truth.specs.Chunks.{chunks_of}
use Rattle.bx_truth.specs.Stands.{StandsFor, IsOwned, inode_of}
use Rattle.bx_truth.specs.Stored.{Owner, Inodes, PageOf, DataOf, Stored, HasInode, HasFields, HasBody}
use Rattle.bx_views.specs.Truths.{Truth}
use Rattle.bx_truth.proofs.Cases.{same_or, eq_true, eq_false}
use Rattle.bx_truth.specs.Shown.{IsShown, KeepsSlots, KeepsOthers, IsNoDead}
use Rattle.bx_truth.specs.Making.{MakesOne}
use Rattle.bx_truth.proofs.Made.{empty_tree, chunk_given, more_given}
use Rattle.bx_truth.proofs.Put.{put}

none_some : (b : Block) → ◌≡◌ {A = Option Block} None (Some b) → ⊥
none_some b e = absurd cc

module _ (areas : ℕ) (truth now : Truth) (tree : Tree) (handle : ℕ) (block : Block) (inode : Inode) (file : File) (path : List ℕ) (is : StandsFor areas truth tree)
    (slots : KeepsSlots areas truth now) (makes : MakesOne (chunks_of areas truth) (chunks_of areas now) handle block)
    (has : HasInode inode block) (kind : inode.kind ≡ 5) (no_tree : inode.tree ≡ 0) (path_is : inode.path ≡ path)
    (same_handle : file.handle ≡ handle) (fields : HasFields inode file) (body_is : file.body ≡ Path path) where
  abbrev owner_now : ℕ → Owner
  owner_now h = if h == handle then Inodes else is.owner h

  abbrev stored : Stored
  stored = record { inode = inode; tree = empty_tree 0 }

  own_here : owner_now handle ≡ Inodes
  own_here = ap (λ (t : Bool). if t then Inodes else is.owner handle) (eq_true handle handle refl)

  own_other : (h : ℕ) → h ≢ handle → owner_now h ≡ is.owner h
  own_other h a = ap (λ (t : Bool). if t then Inodes else is.owner h) (eq_false h handle a)

  not_of : (h : ℕ) (b : Block) (o : Owner) → chunks_of areas truth h ≡ Some b → is.owner h ≡ o → inode_of h o ≢ handle
  not_of h b Inodes there owned same = none_some b (sym makes.fresh ∙ ap (chunks_of areas truth) (sym same) ∙ there)
  not_of h b (PageOf inode) there owned same =
      let p = subst (IsOwned (chunks_of areas truth) is.owner is.stored tree.files h b) owned (is.are_files.each h b there) in
      none_some p.of.block (sym makes.fresh ∙ ap (chunks_of areas truth) (sym same) ∙ p.of.chunk)
  not_of h b (DataOf inode index) there owned same =
      let p = subst (IsOwned (chunks_of areas truth) is.owner is.stored tree.files h b) owned (is.are_files.each h b there) in
      none_some p.of.block (sym makes.fresh ∙ ap (chunks_of areas truth) (sym same) ∙ p.of.chunk)

  was_other : (h : ℕ) (b : Block) → chunks_of areas truth h ≡ Some b → h ≢ handle
  was_other h b there same = none_some b (sym makes.fresh ∙ ap (chunks_of areas truth) (sym same) ∙ there)

  now_other : (h : ℕ) → (inode_of h (owner_now h) == handle) ≡ false → h ≢ handle
  now_other h test same = let t = eq_true (inode_of h (owner_now h)) handle (ap (inode_of h) (ap owner_now same ∙ own_here) ∙ same) in absurd cc

  others : KeepsOthers areas truth now tree is owner_now handle
  others = record {
    kept = λ h b there test. let o = was_other h b there in (makes.others h o ∙ there, own_other h o);
    none_new = λ h b there test. let o = now_other h test in (sym (makes.others h o) ∙ there, own_other h o);
  }

  -- nothing else is the new file's
  nothing : (h : ℕ) (b : Block) (o : Owner) → chunks_of areas now h ≡ Some b → owner_now h ≡ o → o ≢ Inodes → inode_of h o ≡ handle → ⊥
  nothing h b o there owned other same = by (same_or h handle)
    where
      by : (h ≡ handle) ⊎ (h ≢ handle) → ⊥
      by (inl e) = other (sym owned ∙ ap owner_now e ∙ own_here)
      by (inr n) = not_of h b o (sym (makes.others h n) ∙ there) (sym (own_other h n) ∙ owned) same

  link_body : HasBody (chunks_of areas now) owner_now handle stored (Path path)
  link_body = record { kind = kind; no_tree = no_tree; path_is = path_is }

  is_shown : IsShown (chunks_of areas now) owner_now handle stored file
  is_shown = record {
    block = block;
    chunk = makes.here;
    itself = own_here;
    has = has;
    handle_is = same_handle;
    fields = fields;
    body = subst (HasBody (chunks_of areas now) owner_now handle stored) (sym body_is) link_body;
    pages = λ h b there owned. absurd (nothing h b (PageOf handle) there owned (λ e. absurd cc) refl);
    pieces = λ h index b there owned. absurd (nothing h b (DataOf handle index) there owned (λ e. absurd cc) refl);
  }

  no_dead_there : IsNoDead areas truth tree is handle
  no_dead_there there itself = absurd (there makes.fresh)

  pub link_made : (given : List ℕ) → ((other : ℕ) → Contains given other → (other ≡ handle) ⊎ Contains tree.given other)
      → StandsFor areas now (record tree { files = with_file tree.files file; given = given })
  link_made given each = more_given areas now (record tree { files = with_file tree.files file }) handle given
      (put areas truth now tree handle file owner_now stored is slots others no_dead_there is_shown)
      (chunk_given areas now handle block makes.here) each
