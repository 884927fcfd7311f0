-- A file tree, of files that are right each for itself.
use Rattle.std.proofs.Common.{◌≡◌, ℕ, ◌≤◌, ◌<◌, true, List, Some, sym, ap, ◌∙◌, subst}
use Rattle.std.specs.Prelude.{◌≢◌, All, Contains}
use Rattle.std.proofs.lemmas.Bool.{eq-eqb}
use Rattle.std.proofs.lemmas.List.Elements.{All-contains}
use Rattle.bx_audit_links.specs.InOrder.{IsInOrder}
use Rattle.bx_audit_links.specs.Reached.{AreBelow}
use Rattle.bx_audit_links.specs.Right.{IsOwnParent, IsRight}
use Rattle.bx_model.specs.declared.tree.Tree.{Tree}
use Rattle.bx_model.specs.FileTrees.{HasEntries, IsEntryOf, IsFileTree, is_directory_in, links_to}
use Rattle.bx_tree_files.specs.declared.file.Body.{Body}
use Rattle.bx_tree_files.specs.declared.file.Body.TheVariants.{Bytes, Path, Names}
use Rattle.bx_tree_files.specs.declared.file.File.{File}
use Rattle.bx_tree_files.specs.declared.file.Name.{Name}
use Rattle.bx_tree_files.specs.Files.{IsFile, file_at, is_directory, kind_of}
use Rattle.bx_tree_files.specs.Names.{names_of, next_of}
use Rattle.bx_tree_laws.proofs.Counts.{none_contained}
use Rattle.bx_tree_laws.proofs.Lookups.{handle_at, some_same}
use Rattle.bx_tree_laws.proofs.Rises.{at_contained, contains_at}

pub right_of : (tree : Tree) → IsFileTree tree → (file : File) → Contains tree.files file → IsRight tree.files tree.root file
right_of tree was file there =
    let at = at_contained tree.files file was.rise there in
    record { entries = was.entries file.handle file at; links = was.links file.handle file at; named = was.named file.handle file at; once = was.once file.handle file at }

pub own_parent_of : (tree : Tree) → IsFileTree tree → IsOwnParent tree.files tree.root
own_parent_of tree was = let r = was.root in record { file = r.0; there = r.3; itself = record { next = r.1; names = r.2; is = r.4 } }

-- an entry of a file
entry_in : (files : List File) (handle : ℕ) (body : Body) (entry : Name) → HasEntries files handle body → Contains (names_of body) entry → IsEntryOf files handle (next_of body) entry
entry_in files handle (Bytes bytes) entry has there = absurd (none_contained entry there)
entry_in files handle (Path path) entry has there = absurd (none_contained entry there)
entry_in files handle (Names parent next names) entry has there = has.each entry there

module _ (tree : Tree) (order : IsInOrder tree) (are_files : All IsFile tree.files) (root : IsOwnParent tree.files tree.root) (unnamed : links_to tree.files tree.root ≡ 0)
    (right : (file : File) → Contains tree.files file → IsRight tree.files tree.root file) (below : AreBelow tree.files tree.root) where
  module _ (handle : ℕ) (file : File) (at : file_at tree.files handle ≡ Some file) where
    there : Contains tree.files file
    there = contains_at tree.files handle file at

    its : IsRight tree.files tree.root file
    its = right file there

    handle_is : file.handle ≡ handle
    handle_is = handle_at tree.files handle file at

    is_file : IsFile file
    is_file = All-contains IsFile tree.files file are_files there

    entries_at : HasEntries tree.files handle file.body
    entries_at = subst (λ (h : ℕ). HasEntries tree.files h file.body) handle_is its.entries

    nearer_at : (parent next : ℕ) (names : List Name) → file.body ≡ Names parent next names → handle ≢ tree.root → below.depth parent < below.depth handle
    nearer_at parent next names body other =
        let directory : is_directory file ≡ true = eq-eqb file.kind 2 (is_file.kind ∙ ap kind_of body) in
        let named = below.each handle (ap is_directory_in at ∙ directory) other in
        let entry = entry_in tree.files named.directory named.into.file.body named.into.entry (up named.directory named.into.file named.into.there) named.into.contains in
        let same : entry.file ≡ file = some_same entry.file file (sym entry.there ∙ ap (file_at tree.files) named.into.names_it ∙ at) in
        let parent_is : parent ≡ named.directory = entry.parent parent next names (ap (λ (f : File). f.body) same ∙ body) in
        subst (λ (d : ℕ). below.depth d < below.depth handle) (sym parent_is) named.nearer
      where
        up : (directory : ℕ) (of : File) → file_at tree.files directory ≡ Some of → HasEntries tree.files directory of.body
        up directory of found = subst (λ (h : ℕ). HasEntries tree.files h of.body) (handle_at tree.files directory of found) (right of (contains_at tree.files directory of found)).entries

  pub is_tree : IsFileTree tree
  is_tree = record {
    rise = order.rise;
    is_file = λ file within. All-contains IsFile tree.files file are_files within;
    root = (root.file, root.itself.next, root.itself.names, root.there, root.itself.is);
    entries = entries_at;
    links = λ handle file at. (its handle file at).links;
    named = λ handle file at other. subst (λ (h : ℕ). 1 ≤ links_to tree.files h) (handle_is handle file at) ((its handle file at).named (λ e. other (sym (handle_is handle file at) ∙ e)));
    once = λ handle file at directory. subst (λ (h : ℕ). links_to tree.files h ≤ 1) (handle_is handle file at) ((its handle file at).once directory);
    root_unnamed = unnamed;
    depth = below.depth;
    nearer = λ handle file parent next names at body other. nearer_at handle file at parent next names body other;
    was_given = order.given;
  }
