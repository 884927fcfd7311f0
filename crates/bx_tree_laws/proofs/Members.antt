-- What is known of the files of a file tree.
use Rattle.std.proofs.Common.{◌≡◌, ℕ, zero, suc, ◌<◌, arith, true, false, List, [], Some, None, refl, sym, ap, ◌∙◌, subst}
use Rattle.std.specs.Prelude.{◌≢◌, ◌==◌, Contains}
use Rattle.std.proofs.lemmas.Bool.{eqb-true, eq-eqb}
use Rattle.std.proofs.lemmas.Option.{option_and_then_some}
use Rattle.bx_places.specs.Handles.{named}
use Rattle.bx_model.specs.bx_tree_files.specs.declared.file.Body.{Body}
use Rattle.bx_model.specs.bx_tree_files.specs.declared.file.Body.TheVariants.{Bytes, Path, Names}
use Rattle.bx_model.specs.bx_tree_files.specs.declared.file.File.{File}
use Rattle.bx_model.specs.bx_tree_files.specs.declared.file.Name.{Name}
use Rattle.bx_model.specs.declared.tree.Tree.{Tree}
use Rattle.bx_model.specs.bx_tree_files.specs.Files.{IsFile, IsNumbered, file_at, is_directory, kind_of}
use Rattle.bx_model.specs.FileTrees.{HasEntries, HasLinks, IsEntryOf, IsFileTree, is_directory_in, is_directory_at, links_to}
use Rattle.bx_model.specs.bx_tree_files.specs.Names.{names_of, next_of}
use Rattle.bx_model.specs.Reading.{named_file}
use Rattle.bx_tree_laws.proofs.Counts.{none_contained}
use Rattle.bx_tree_laws.proofs.Entries.{Apart}
use Rattle.bx_tree_laws.proofs.Links.{IsNames, NamesIt, named_by, names_count}
use Rattle.bx_tree_laws.proofs.Lookups.{handle_at, some_same}
use Rattle.bx_tree_laws.proofs.Rises.{contains_at}

-- the file that a file handle names is there
pub found_at : (tree : Tree) (at : List ℕ) (file : File) → named_file tree at ≡ Some file → file_at tree.files file.handle ≡ Some file
found_at tree at file e = option_and_then_some (file_at tree.files) (named tree.volume at) file e
    (λ handle names is. ap (file_at tree.files) (handle_at tree.files handle file is) ∙ is)

-- of a body, by the type's number
body_names : (kind : ℕ) (body : Body) → kind ≡ kind_of body → (kind == 2) ≡ true → IsNames body
body_names kind (Bytes bytes) is directory = absurd (omega (arith, is, eqb-true kind 2 directory))
body_names kind (Path path) is directory = absurd (omega (arith, is, eqb-true kind 2 directory))
body_names kind (Names parent next names) is directory = record { parent = parent; next = next; names = names; is = refl }

body_none : (kind : ℕ) (body : Body) → kind ≡ kind_of body → (kind == 2) ≡ false → names_of body ≡ []
body_none kind (Bytes bytes) is other = refl
body_none kind (Path path) is other = refl
body_none kind (Names parent next names) is other = let both : true ≡ false = sym (eq-eqb kind 2 is) ∙ other in absurd cc

body_no_names : (kind : ℕ) (body : Body) → kind ≡ kind_of body → (kind == 2) ≡ false → (parent next : ℕ) (names : List Name) → body ≡ Names parent next names → ⊥
body_no_names kind body is other parent next names e = let both : true ≡ false = sym (eq-eqb kind 2 (is ∙ ap kind_of e)) ∙ other in absurd cc

body_apart : (files : List File) (handle : ℕ) (body : Body) → HasEntries files handle body → Apart (names_of body)
body_apart files handle (Bytes bytes) has = λ i j d less within. absurd (omega (arith, within))
body_apart files handle (Path path) has = λ i j d less within. absurd (omega (arith, within))
body_apart files handle (Names parent next names) has = has.apart

body_entry : (files : List File) (handle : ℕ) (body : Body) (entry : Name) → HasEntries files handle body → Contains (names_of body) entry → IsEntryOf files handle (next_of body) entry
body_entry files handle (Bytes bytes) entry has there = absurd (none_contained entry there)
body_entry files handle (Path path) entry has there = absurd (none_contained entry there)
body_entry files handle (Names parent next names) entry has there = has.each entry there

body_below : (nlink : ℕ) (body : Body) → IsNames body → IsNumbered nlink body → nlink < next_of body
body_below nlink (Bytes bytes) is below = let no : Bytes bytes ≡ Names is.parent is.next is.names = is.is in absurd cc
body_below nlink (Path path) is below = let no : Path path ≡ Names is.parent is.next is.names = is.is in absurd cc
body_below nlink (Names parent next names) is below = below.0

module _ (tree : Tree) (was : IsFileTree tree) where
  module _ (handle : ℕ) (file : File) (there : file_at tree.files handle ≡ Some file) where
    pub is_file : IsFile file
    is_file = was.is_file file (contains_at tree.files handle file there)

    pub is_names : is_directory file ≡ true → IsNames file.body
    is_names directory = body_names file.kind file.body is_file.kind directory

    pub no_entries : is_directory file ≡ false → names_of file.body ≡ []
    no_entries other = body_none file.kind file.body is_file.kind other

    pub not_names : is_directory file ≡ false → (parent next : ℕ) (names : List Name) → file.body ≡ Names parent next names → ⊥
    not_names other = body_no_names file.kind file.body is_file.kind other

    pub names_apart : Apart (names_of file.body)
    names_apart = body_apart tree.files handle file.body (was.entries handle file there)

    pub entry_of : (entry : Name) → Contains (names_of file.body) entry → IsEntryOf tree.files handle (next_of file.body) entry
    entry_of entry is = body_entry tree.files handle file.body entry (was.entries handle file there) is

    pub links_below : is_directory file ≡ true → file.nlink < next_of file.body
    links_below directory = body_below file.nlink file.body (is_names directory) is_file.numbers

    -- a file that an entry names isn't the root
    pub entry_not_root : (entry : Name) → Contains (names_of file.body) entry → entry.handle ≢ tree.root
    entry_not_root entry is root = let some = names_count tree.files handle file entry there is in omega (arith, some, was.root_unnamed, ap (links_to tree.files) root)

  -- the parent of a directory other than the root is there, and names it
  pub parent_names : (handle : ℕ) (file : File) (parent next : ℕ) (names : List Name) → file_at tree.files handle ≡ Some file → file.body ≡ Names parent next names → handle ≢ tree.root
      → (it : NamesIt tree.files handle) × (it.directory.handle ≡ parent)
  parent_names handle file parent next names is body other =
      let it = named_by tree.files handle was.rise (was.named handle file is other) in
      let entry = entry_of it.directory.handle it.directory it.there it.entry it.contains in
      let same : entry.file ≡ file = some_same entry.file file (sym entry.there ∙ ap (file_at tree.files) it.names_it ∙ is) in
      (it, sym (entry.parent parent next names (ap (λ (f : File). f.body) same ∙ body)))

  -- what isn't there isn't named
  pub absent_unnamed : (handle : ℕ) → file_at tree.files handle ≡ None → links_to tree.files handle ≡ 0
  absent_unnamed handle none = by (links_to tree.files handle) refl
    where
      by : (n : ℕ) → links_to tree.files handle ≡ n → links_to tree.files handle ≡ 0
      by zero e = e
      by (suc n) e =
          let it = named_by tree.files handle was.rise (omega (arith, e)) in
          let entry = entry_of it.directory.handle it.directory it.there it.entry it.contains in
          let no : None ≡ Some entry.file = sym none ∙ ap (file_at tree.files) (sym it.names_it) ∙ entry.there in absurd cc

  pub root_directory : (file : File) → file_at tree.files tree.root ≡ Some file → is_directory file ≡ true
  root_directory file is =
      let r = was.root in
      let same : r.0 ≡ file = some_same r.0 file (sym r.3 ∙ is) in
      let kind = (is_file tree.root file is).kind in
      eq-eqb file.kind 2 (kind ∙ ap kind_of (ap (λ (f : File). f.body) (sym same) ∙ r.4))

  pub directory_at : (handle : ℕ) (file : File) → file_at tree.files handle ≡ Some file → is_directory_at tree.files handle ≡ is_directory file
  directory_at handle file is = ap is_directory_in is

-- the two kinds of files are apart
pub kinds_apart : (files : List File) (one other : ℕ) (file directory : File) → file_at files one ≡ Some file → file_at files other ≡ Some directory → is_directory file ≡ false → is_directory directory ≡ true → one ≢ other
kinds_apart files one other file directory is there kind kinds same =
    let e : file ≡ directory = some_same file directory (sym is ∙ ap (file_at files) same ∙ there) in
    let no : false ≡ true = sym kind ∙ ap is_directory e ∙ kinds in absurd cc

links_of_body : (files : List File) (file : File) (kind : ℕ) (body : Body) → kind ≡ kind_of body → (kind == 2) ≡ false → HasLinks files file body → file.nlink ≡ links_to files file.handle
links_of_body files file kind (Bytes bytes) is other has = has
links_of_body files file kind (Path path) is other has = has
links_of_body files file kind (Names parent next names) is other has = let both : true ≡ false = sym (eq-eqb kind 2 is) ∙ other in absurd cc

-- a file that is no directory has as many links as entries name it
pub links_are_names : (tree : Tree) → IsFileTree tree → (handle : ℕ) (file : File) → file_at tree.files handle ≡ Some file → is_directory file ≡ false → file.nlink ≡ links_to tree.files handle
links_are_names tree was handle file is other =
    links_of_body tree.files file file.kind file.body (is_file tree was handle file is).kind other (was.links handle file is) ∙ ap (links_to tree.files) (handle_at tree.files handle file is)

-- a directory that an entry names is deeper than the one that it is in
pub entry_nearer : (tree : Tree) (was : IsFileTree tree) (at : ℕ) (directory : File) (entry : Name) (to : ℕ) (file : File) → file_at tree.files at ≡ Some directory → Contains (names_of directory.body) entry
    → entry.handle ≡ to → file_at tree.files to ≡ Some file → is_directory file ≡ true → was.depth at < was.depth to
entry_nearer tree was at directory entry to file is_there within names_it there is =
    let e = entry_of tree was at directory is_there entry within in
    let same : e.file ≡ file = some_same e.file file (sym e.there ∙ ap (file_at tree.files) names_it ∙ there) in
    let body = is_names tree was to file there is in
    let parent = e.parent body.parent body.next body.names (ap (λ (f : File). f.body) same ∙ body.is) in
    subst (λ (h : ℕ). was.depth h < was.depth to) parent
    (was.nearer to file body.parent body.next body.names there body.is (λ root. entry_not_root tree was at directory is_there entry within (names_it ∙ root)))
