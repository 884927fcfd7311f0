-- A file tree is a stage of itself, and a stage that counts what is there is a file tree.
use Rattle.std.proofs.Common.{◌≡◌, ℕ, ◌+◌, ◌<◌, ◌≤◌, true, List, [], ◌∷◌, Some, Option, refl, sym, ap, ◌∙◌, subst}
use Rattle.std.specs.Prelude.{◌≢◌, Contains, count_by}
use Rattle.bx_model.specs.bx_tree_files.specs.declared.file.Body.{Body}
use Rattle.bx_model.specs.bx_tree_files.specs.declared.file.Body.TheVariants.{Bytes, Path, Names}
use Rattle.bx_model.specs.bx_tree_files.specs.declared.file.File.{File}
use Rattle.bx_model.specs.bx_tree_files.specs.declared.file.Name.{Name}
use Rattle.bx_model.specs.declared.tree.Tree.{Tree}
use Rattle.bx_model.specs.bx_tree_files.specs.Files.{IsFile, IsNumbered, file_at, is_directory}
use Rattle.bx_model.specs.bx_tree_files.specs.Entries.{AreBelow}
use Rattle.bx_model.specs.FileTrees.{HasEntries, IsFileTree, HasLinks, is_directory_at, links_to}
use Rattle.bx_model.specs.bx_tree_files.specs.Names.{names_of}
use Rattle.bx_tree_laws.specs.Every.{Every}
use Rattle.bx_tree_laws.proofs.Counts.{contains_first, contains_later}
use Rattle.bx_tree_laws.proofs.Halves.{LinksBelowNext}
use Rattle.bx_tree_laws.proofs.Inside.{inside, names_in}
use Rattle.bx_tree_laws.proofs.Lookups.{handle_at, some_same}
use Rattle.bx_tree_laws.proofs.Plans.{Plan, HasCount, IsNearer, IsRootBody, IsStage}
use Rattle.bx_tree_laws.proofs.Rises.{at_contained, contains_at}

abbrev pub plan_of : Tree → (ℕ → ℕ) → (ℕ → ℕ) → (ℕ → ℕ) → Plan
plan_of tree links inner depth = record { root = tree.root; ref = tree.files; links = links; inside = inner; depth = depth; given = tree.given }

inside_is : (files : List File) (handle : ℕ) (file : File) (parent next : ℕ) (names : List Name) → file_at files handle ≡ Some file → file.body ≡ Names parent next names
    → inside files handle ≡ count_by (λ entry. is_directory_at files entry.handle) names
inside_is files handle file parent next names is body =
    ap (λ (found : Option File). count_by (λ (entry : Name). is_directory_at files entry.handle) (names_in found)) is
    ∙ ap (λ (b : Body). count_by (λ (entry : Name). is_directory_at files entry.handle) (names_of b)) body

-- the next number of a directory
pub below_next : (nlink : ℕ) (body : Body) → IsNumbered nlink body → LinksBelowNext nlink body
below_next nlink (Bytes bytes) is = tt
below_next nlink (Path path) is = tt
below_next nlink (Names parent next names) is = is.0

are_below : (next : ℕ) (names : List Name) → ((entry : Name) → Contains names entry → entry.number < next) → AreBelow next names
are_below next [] all = tt
are_below next (x ∷ names) all = (all x (contains_first x names), are_below next names (λ entry there. all entry (contains_later x entry names there)))

numbers_of : (files : List File) (handle nlink : ℕ) (body : Body) → LinksBelowNext nlink body → HasEntries files handle body → IsNumbered nlink body
numbers_of files handle nlink (Bytes bytes) below has = tt
numbers_of files handle nlink (Path path) below has = tt
numbers_of files handle nlink (Names parent next names) below has = (below, are_below next names (λ entry there. (has.each entry there).number))

module _ (tree : Tree) where
  count_from : (handle : ℕ) (file : File) (body : Body) → file_at tree.files handle ≡ Some file → file.body ≡ body → HasLinks tree.files file body
      → HasCount (links_to tree.files handle) (inside tree.files handle) file.nlink body
  count_from handle file (Bytes bytes) is b links = links ∙ ap (links_to tree.files) (handle_at tree.files handle file is)
  count_from handle file (Path path) is b links = links ∙ ap (links_to tree.files) (handle_at tree.files handle file is)
  count_from handle file (Names parent next names) is b links = links ∙ ap (λ (n : ℕ). 2 + n) (sym (inside_is tree.files handle file parent next names is b))

  nearer_from : (was : IsFileTree tree) (handle : ℕ) (file : File) (body : Body) → file_at tree.files handle ≡ Some file → file.body ≡ body → IsNearer was.depth tree.root handle body
  nearer_from was handle file (Bytes bytes) is b = tt
  nearer_from was handle file (Path path) is b = tt
  nearer_from was handle file (Names parent next names) is b = λ other. was.nearer handle file parent next names is b other

  root_from : (was : IsFileTree tree) (handle : ℕ) (file : File) → file_at tree.files handle ≡ Some file → handle ≡ tree.root → IsRootBody tree.root file.body
  root_from was handle file is root =
      let r = was.root in
      let same : r.0 ≡ file = some_same r.0 file (sym r.3 ∙ ap (file_at tree.files) (sym root) ∙ is) in
      subst (IsRootBody tree.root) (sym r.4 ∙ ap (λ (f : File). f.body) same) refl

  pub stage_of : (was : IsFileTree tree) → IsStage (plan_of tree (links_to tree.files) (inside tree.files) was.depth) tree.files
  stage_of was = record {
    rise = was.rise;
    each = λ handle file is.
        let f = was.is_file file (contains_at tree.files handle file is) in
        record {
          kind_is = f.kind;
          mode_fits = f.mode;
          size_fits = f.size;
          below_next = below_next file.nlink file.body f.numbers;
          was_given = was.was_given handle file is;
          entries = was.entries handle file is;
          count = count_from handle file file.body is refl (was.links handle file is);
          nearer = nearer_from was handle file file.body is refl;
          root_is = root_from was handle file is;
        };
    root_file = was.root.0;
    root_there = was.root.3;
  }

  -- ---- back

  module _ (links inner depth : ℕ → ℕ) (stage : IsStage (plan_of tree links inner depth) tree.files)
      (links_are : (handle : ℕ) → links handle ≡ links_to tree.files handle) (inner_are : (handle : ℕ) → inner handle ≡ inside tree.files handle)
      (named : Every (λ handle file. handle ≢ tree.root → 1 ≤ links handle) tree.files)
      (once : Every (λ handle file. is_directory file ≡ true → links handle ≤ 1) tree.files)
      (unnamed : links tree.root ≡ 0) where
    links_back : (handle : ℕ) (file : File) (body : Body) → file_at tree.files handle ≡ Some file → file.body ≡ body → HasCount (links handle) (inner handle) file.nlink body → HasLinks tree.files file body
    links_back handle file (Bytes bytes) is b count = count ∙ links_are handle ∙ ap (links_to tree.files) (sym (handle_at tree.files handle file is))
    links_back handle file (Path path) is b count = count ∙ links_are handle ∙ ap (links_to tree.files) (sym (handle_at tree.files handle file is))
    links_back handle file (Names parent next names) is b count =
        count ∙ ap (λ (n : ℕ). 2 + n) (inner_are handle ∙ inside_is tree.files handle file parent next names is b)

    file_back : (file : File) → Contains tree.files file → IsFile file
    file_back file there =
        let part = stage.each file.handle file (at_contained tree.files file stage.rise there) in
        record { kind = part.kind_is; mode = part.mode_fits; size = part.size_fits; numbers = numbers_of tree.files file.handle file.nlink file.body part.below_next part.entries }

    root_body : (body : Body) → IsRootBody tree.root body → (next : ℕ) × (names : List Name) × (body ≡ Names tree.root next names)
    root_body (Bytes bytes) is = absurd is
    root_body (Path path) is = absurd is
    root_body (Names parent next names) is = (next, names, ap (λ (p : ℕ). Names p next names) is)

    nearer_back : (handle : ℕ) (body : Body) (parent next : ℕ) (names : List Name) → body ≡ Names parent next names → handle ≢ tree.root → IsNearer depth tree.root handle body → depth parent < depth handle
    nearer_back handle body parent next names b other near = (subst (IsNearer depth tree.root handle) b near) other

    pub tree_of : IsFileTree tree
    tree_of = record {
      rise = stage.rise;
      is_file = file_back;
      root =
          let body = root_body stage.root_file.body ((stage.each tree.root stage.root_file stage.root_there).root_is refl) in
          (stage.root_file, body.0, body.1, stage.root_there, body.2);
      entries = λ handle file is. (stage.each handle file is).entries;
      links = λ handle file is. links_back handle file file.body is refl (stage.each handle file is).count;
      named = λ handle file is other. subst (λ (n : ℕ). 1 ≤ n) (links_are handle) (named handle file is other);
      once = λ handle file is directory. subst (λ (n : ℕ). n ≤ 1) (links_are handle) (once handle file is directory);
      root_unnamed = sym (links_are tree.root) ∙ unnamed;
      depth = depth;
      nearer = λ handle file parent next names is body other. nearer_back handle file.body parent next names body other (stage.each handle file is).nearer;
      was_given = λ handle file is. (stage.each handle file is).was_given;
    }
