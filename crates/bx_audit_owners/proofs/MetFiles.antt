-- The files that the walk from the root meets are those of any file tree whose chunks these are.
use Rattle.std.proofs.Common.{◌≡◌, ℕ, zero, suc, ◌<◌, ⊎_elim, arith, true, List, refl, sym, ap, ◌∙◌, subst, Option, Some, None}
use Rattle.std.specs.Prelude.{◌≢◌, AllPairs, Contains}
use Rattle.std.proofs.lemmas.Bool.{eq-eqb}
use Rattle.bx_audit_owners.specs.Found.{IsInode}
use Rattle.bx_audit_owners.specs.Holding.{Holdings}
use Rattle.bx_audit_owners.specs.Walks.{HaveTree, IsWalked}
use Rattle.bx_audit_owners.proofs.Walking.{met_there, stored_of}
use Rattle.bx_model.specs.declared.tree.Tree.{Tree}
use Rattle.bx_tree_files.specs.declared.file.File.{File}
use Rattle.bx_tree_files.specs.Files.{file_at, is_directory, kind_of}
use Rattle.bx_tree_files.specs.Names.{names_of}
use Rattle.bx_tree_laws.proofs.Links.{NamesIt, named_by}
use Rattle.bx_tree_laws.proofs.Members.{entry_nearer, is_file}
use Rattle.bx_tree_laws.proofs.Rises.{at_contained, contains_at}
use Rattle.bx_tree_laws.proofs.Walks.{some_names}
use Rattle.bx_truth.specs.PageTrees.{Chunks}
use Rattle.bx_truth.proofs.Cases.{same_or}
use Rattle.bx_truth.proofs.OneFile.{same_members}

some_same : {X : Type 0} (x y : X) → Some x ≡ Some y → x ≡ y
some_same x y e = cc

file_or : (o : Option File) → o ≢ None → (f : File) × (o ≡ Some f)
file_or None is = absurd (is refl)
file_or (Some f) is = (f, refl)

module _ (chunks : Chunks) (holdings : Holdings) (files : List File) (walked : IsWalked chunks holdings files) (tree : Tree) (have : HaveTree chunks tree) where
  -- a file that was met is one of the tree
  of_tree : (handle : ℕ) (file : File) → file_at files handle ≡ Some file → file_at tree.files handle ≡ Some file
  of_tree handle file is =
      let read = walked.found.inodes handle (subst IsInode (sym (walked.found.is_file handle file is)) tt) in
      let stored = stored_of chunks tree have handle (met_there chunks tree have handle (walked.met handle file is)) in
      (read.only have.owner (have.stored handle) (file_at tree.files handle) stored).same_file ∙ is

  root_here : (handle : ℕ) → handle ≡ tree.root → file_at files handle ≢ None
  root_here handle same none = walked.root (ap (file_at files) (sym (same ∙ have.root_is)) ∙ none)

  -- what a directory names was met, once the directory was
  named_here : (handle : ℕ) (it : NamesIt tree.files handle) → file_at files it.directory.handle ≢ None → file_at files handle ≢ None
  named_here handle it here none =
      let d = file_or (file_at files it.directory.handle) here in
      let same : it.directory ≡ d.0 = some_same it.directory d.0 (sym it.there ∙ of_tree it.directory.handle d.0 d.1) in
      walked.closed it.directory.handle d.0 it.entry d.1 (subst (λ (f : File). Contains (names_of f.body) it.entry) same it.contains) (ap (file_at files) it.names_it ∙ none)

  named_of : (handle : ℕ) (file : File) → file_at tree.files handle ≡ Some file → handle ≢ tree.root → NamesIt tree.files handle
  named_of handle file there other = named_by tree.files handle have.is.rise (have.is.named handle file there other)

  is_directory_of : (handle : ℕ) (it : NamesIt tree.files handle) → is_directory it.directory ≡ true
  is_directory_of handle it =
      let body = some_names it.directory.body it.entry it.contains in
      eq-eqb it.directory.kind 2 ((is_file tree have.is it.directory.handle it.directory it.there).kind ∙ ap kind_of body.3)

  -- so each directory was, the nearer ones first
  directory_here : (n handle : ℕ) (file : File) → file_at tree.files handle ≡ Some file → is_directory file ≡ true → have.is.depth handle < n → file_at files handle ≢ None
  directory_here zero handle file there is less = absurd (omega (arith, less))
  directory_here (suc n) handle file there is less = ⊎_elim (root_here handle) (by (directory_here n)) (same_or handle tree.root)
    where
      by : ((above : ℕ) (f : File) → file_at tree.files above ≡ Some f → is_directory f ≡ true → have.is.depth above < n → file_at files above ≢ None) → handle ≢ tree.root → file_at files handle ≢ None
      by nearer_here other =
          let it = named_of handle file there other in
          let nearer = entry_nearer tree have.is it.directory.handle it.directory it.entry handle file it.there it.contains it.names_it there is in
          named_here handle it (nearer_here it.directory.handle it.directory it.there (is_directory_of handle it) (omega (arith, nearer, less)))

  -- and each file
  file_here : (handle : ℕ) (file : File) → file_at tree.files handle ≡ Some file → file_at files handle ≢ None
  file_here handle file there = ⊎_elim (root_here handle) by (same_or handle tree.root)
    where
      by : handle ≢ tree.root → file_at files handle ≢ None
      by other =
          let it = named_of handle file there other in
          named_here handle it (directory_here (suc (have.is.depth it.directory.handle)) it.directory.handle it.directory it.there (is_directory_of handle it) (omega arith))

  in_walk : (handle : ℕ) (file : File) → file_at tree.files handle ≡ Some file → file_at files handle ≡ Some file
  in_walk handle file there =
      let d = file_or (file_at files handle) (file_here handle file there) in
      d.1 ∙ sym (of_tree handle d.0 d.1) ∙ there

  pub same_files : AllPairs (λ a b. a.handle < b.handle) files → tree.files ≡ files
  same_files rise = same_members (λ (f : File). f.handle) tree.files files have.is.rise rise
      (λ file there. contains_at files file.handle file (in_walk file.handle file (at_contained tree.files file have.is.rise there)))
      (λ file there. contains_at tree.files file.handle file (of_tree file.handle file (at_contained files file rise there)))
