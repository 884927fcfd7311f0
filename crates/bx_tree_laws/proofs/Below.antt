-- No directory is below itself, and every file is below the root.
use Rattle.std.proofs.Common.{◌≡◌, ℕ, zero, suc, ◌<◌, arith, true, List, [], ◌∷◌, ◌++◌, Some, ap, ◌∙◌, subst, inl, inr}
use Rattle.std.specs.Prelude.{◌≢◌, ◌⊎◌, Contains}
use Rattle.std.proofs.lemmas.Bool.{eq-eqb}
use Rattle.bx_model.specs.bx_tree_files.specs.declared.file.File.{File}
use Rattle.bx_model.specs.bx_tree_files.specs.declared.file.Name.{Name}
use Rattle.bx_model.specs.declared.tree.Tree.{Tree}
use Rattle.bx_model.specs.bx_tree_files.specs.Files.{file_at, is_directory, kind_of}
use Rattle.bx_model.specs.FileTrees.{IsFileTree}
use Rattle.bx_model.specs.bx_tree_files.specs.Names.{names_of}
use Rattle.bx_tree_laws.specs.Ways.{IsIn, LeadsDown}
use Rattle.bx_tree_laws.proofs.Links.{NamesIt, named_by}
use Rattle.bx_tree_laws.proofs.Lookups.{SameOr, same_or}
use Rattle.bx_tree_laws.proofs.Members.{entry_nearer, is_file}
use Rattle.bx_tree_laws.proofs.Walks.{some_names}

module _ (tree : Tree) (was : IsFileTree tree) where
  -- what has entries is a directory
  has_kind : (handle : ℕ) (file : File) (entry : Name) → file_at tree.files handle ≡ Some file → Contains (names_of file.body) entry → is_directory file ≡ true
  has_kind handle file entry is within =
      let body = some_names file.body entry within in
      eq-eqb file.kind 2 ((is_file tree was handle file is).kind ∙ ap kind_of body.3)

  deeper : (directory handle : ℕ) (file : File) → IsIn tree.files directory handle → file_at tree.files handle ≡ Some file → is_directory file ≡ true → was.depth directory < was.depth handle
  deeper directory handle file into is one = entry_nearer tree was directory into.file into.entry handle file into.there into.contains into.names_it is one

  first_of_way : (handle : ℕ) (way : List ℕ) (last : ℕ) → LeadsDown tree.files handle way last → (file : File) × (file_at tree.files handle ≡ Some file) × (is_directory file ≡ true)
  first_of_way handle [] last leads = (leads.file, leads.there, has_kind handle leads.file leads.entry leads.there leads.contains)
  first_of_way handle (next ∷ way) last leads = (leads.0.file, leads.0.there, has_kind handle leads.0.file leads.0.entry leads.0.there leads.0.contains)

  way_deeper : (directory : ℕ) (way : List ℕ) (last : ℕ) (file : File) → LeadsDown tree.files directory way last → file_at tree.files last ≡ Some file → is_directory file ≡ true → was.depth directory < was.depth last
  way_deeper directory [] last file leads is one = deeper directory last file leads is one
  way_deeper directory (next ∷ way) last file leads is one =
      let first = first_of_way next way last leads.1 in
      omega (arith, deeper directory next first.0 leads.0 first.1 first.2, way_deeper next way last file leads.1 is one)

  pub not_below_itself : (directory : ℕ) (way : List ℕ) → LeadsDown tree.files directory way directory → ⊥
  not_below_itself directory way leads =
      let first = first_of_way directory way directory leads in
      omega (arith, way_deeper directory way directory first.0 leads first.1 first.2)

  -- ---- from the root

  one_more : (directory : ℕ) (way : List ℕ) (middle last : ℕ) → LeadsDown tree.files directory way middle → IsIn tree.files middle last → LeadsDown tree.files directory (way ++ middle ∷ []) last
  one_more directory [] middle last leads into = (leads, into)
  one_more directory (next ∷ way) middle last leads into = (leads.0, one_more next way middle last leads.1 into)

  into_of : (handle : ℕ) (it : NamesIt tree.files handle) → IsIn tree.files it.directory.handle handle
  into_of handle it = record { file = it.directory; there = it.there; entry = it.entry; contains = it.contains; names_it = it.names_it }

  abbrev Reached : ℕ → Type 0
  Reached handle = (handle ≡ tree.root) ⊎ ((way : List ℕ) × LeadsDown tree.files tree.root way handle)

  -- what is in a file that is reached is reached
  reached_in : (directory handle : ℕ) → Reached directory → IsIn tree.files directory handle → (way : List ℕ) × LeadsDown tree.files tree.root way handle
  reached_in directory handle (inl root) into = ([], subst (λ (d : ℕ). IsIn tree.files d handle) root into)
  reached_in directory handle (inr (way, leads)) into = (way ++ directory ∷ [], one_more tree.root way directory handle leads into)

  way_to : (n directory : ℕ) (file : File) → was.depth directory < n → file_at tree.files directory ≡ Some file → is_directory file ≡ true → Reached directory
  way_to zero directory file less is one = absurd (omega (arith, less))
  way_to (suc n) directory file less is one = by (same_or directory tree.root) (way_to n)
    where
      by : SameOr directory tree.root → ((above : ℕ) (file : File) → was.depth above < n → file_at tree.files above ≡ Some file → is_directory file ≡ true → Reached above) → Reached directory
      by (inl same) later = inl same.1
      by (inr apart) later =
          let it = named_by tree.files directory was.rise (was.named directory file is apart.1) in
          let closer = deeper it.directory.handle directory file (into_of directory it) is one in
          inr (reached_in it.directory.handle directory
          (later it.directory.handle it.directory (omega (arith, closer, less)) it.there (has_kind it.directory.handle it.directory it.entry it.there it.contains))
          (into_of directory it))

  pub below_root : (handle : ℕ) (file : File) → file_at tree.files handle ≡ Some file → handle ≢ tree.root → (way : List ℕ) × LeadsDown tree.files tree.root way handle
  below_root handle file is apart =
      let it = named_by tree.files handle was.rise (was.named handle file is apart) in
      reached_in it.directory.handle handle
      (way_to (suc (was.depth it.directory.handle)) it.directory.handle it.directory (omega arith) it.there (has_kind it.directory.handle it.directory it.entry it.there it.contains))
      (into_of handle it)
