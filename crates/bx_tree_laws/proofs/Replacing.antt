-- A move onto a free name, or onto another file, keeps a file tree.
use Rattle.std.proofs.Common.{◌≡◌, ℕ, arith, Bool, true, false, List, Some, None, refl, sym, ap, ◌∙◌, subst, inl, inr}
use Rattle.std.specs.Prelude.{◌≢◌, ◌==◌, ◌&&◌, not, Contains}
use Rattle.std.proofs.lemmas.Bool.{eq-eqb}
use Rattle.bx_model.specs.bx_tree_files.specs.declared.file.File.{File}
use Rattle.bx_model.specs.bx_tree_files.specs.declared.file.Name.{Name}
use Rattle.bx_model.specs.declared.tree.Tree.{Tree}
use Rattle.bx_model.specs.bx_tree_files.specs.Files.{file_at, is_directory}
use Rattle.bx_model.specs.FileTrees.{IsFileTree}
use Rattle.bx_model.specs.bx_tree_files.specs.Names.{names_of}
use Rattle.bx_model.specs.Removing.{has_entries}
use Rattle.bx_model.specs.Renaming.{changes_parent, renamed, without_replaced}
use Rattle.bx_model.specs.bx_tree_files.specs.Times.{Time}
use Rattle.bx_tree_laws.proofs.Away.{away_keeps, nothing_in}
use Rattle.bx_tree_laws.proofs.Counts.{none_contained}
use Rattle.bx_tree_laws.proofs.Entries.{entry_found, other_found, other_none}
use Rattle.bx_tree_laws.proofs.Lookups.{SameOr, same_or, handle_at, some_same}
use Rattle.bx_tree_laws.proofs.Members.{entry_nearer, kinds_apart}
use Rattle.bx_tree_laws.proofs.Removings.{stands}
use Rattle.bx_tree_laws.proofs.Replaced.{Left, cut_left, left_is, left_root}
use Rattle.bx_tree_laws.proofs.Walks.{Cut}
use Rattle.bx_model.specs.bx_tree_files.specs.Entries.{entry_named, is_bad}
use Rattle.bx_tree_laws.proofs.Moves.{IsReady, move_keeps}

-- what a call found that meets no error
pub record IsFound (tree : Tree) (source target moved : File) (name new_name : List ℕ) : Type 0 where
  pub source_there : file_at tree.files source.handle ≡ Some source
  pub source_is : is_directory source ≡ true
  pub target_there : file_at tree.files target.handle ≡ Some target
  pub target_is : is_directory target ≡ true
  pub good : is_bad new_name ≡ false
  pub entry : Name
  pub found : entry_named (names_of source.body) name ≡ Some entry
  pub moved_there : file_at tree.files entry.handle ≡ Some moved
  pub cut : changes_parent source target moved ≡ true → Cut tree moved.handle target.handle

module _ (tree : Tree) (was : IsFileTree tree) (source target moved : File) (now : Time) (name new_name : List ℕ) (f : IsFound tree source target moved name new_name) where
  names_it : f.entry.handle ≡ moved.handle
  names_it = sym (handle_at tree.files f.entry.handle moved f.moved_there)

  moved_stands : file_at tree.files moved.handle ≡ Some moved
  moved_stands = stands tree f.entry.handle moved f.moved_there

  -- nothing is replaced
  pub free_keeps : entry_named (names_of target.body) new_name ≡ None → IsFileTree (renamed now tree source name target new_name moved None)
  free_keeps absent = move_keeps tree was source target moved now name new_name f.good record {
    from = source;
    from_there = f.source_there;
    from_is = f.source_is;
    to = target;
    to_there = f.target_there;
    to_is = f.target_is;
    top = moved;
    top_there = moved_stands;
    top_is = refl;
    entry = f.entry;
    found = f.found;
    names_it = names_it;
    absent = absent;
    cut = f.cut;
  }

  source_contains : Contains (names_of source.body) f.entry
  source_contains = (entry_found (names_of source.body) name f.entry f.found).0

  -- the file isn't the directory that it comes to
  moved_not_target : moved.handle ≢ target.handle
  moved_not_target e = by (is_directory moved) refl (same_or source.handle target.handle)
    where
      by : (b : Bool) → is_directory moved ≡ b → SameOr source.handle target.handle → ⊥
      by false is which = kinds_apart tree.files moved.handle target.handle moved target moved_stands f.target_there is f.target_is e
      by true is (inl same) =
          let less = entry_nearer tree was source.handle source f.entry moved.handle moved f.source_there source_contains names_it moved_stands is in
          omega (arith, less, ap was.depth (e ∙ sym same.1))
      by true is (inr apart) =
          let cut = f.cut (ap (λ (b : Bool). b && not (source.handle == target.handle)) is ∙ ap not apart.0) in
          let both : true ≡ false = sym cut.top_is ∙ ap cut.below e ∙ cut.apart_is in absurd cc

  module _ (replaced : File) (entry : Name) (found : entry_named (names_of target.body) new_name ≡ Some entry) (there : file_at tree.files entry.handle ≡ Some replaced)
      (other : (moved.handle == replaced.handle) ≡ false) (empty : has_entries replaced ≡ false) where
    replaced_stands : file_at tree.files replaced.handle ≡ Some replaced
    replaced_stands = stands tree entry.handle replaced there

    -- a file that is replaced isn't a directory with an entry
    not_it : (directory : File) (e : Name) → file_at tree.files directory.handle ≡ Some directory → Contains (names_of directory.body) e → replaced.handle ≢ directory.handle
    not_it directory e is within same =
        let both : replaced ≡ directory = some_same replaced directory (sym replaced_stands ∙ ap (file_at tree.files) same ∙ is) in
        none_contained e (subst (λ (l : List Name). Contains l e) (ap (λ (g : File). names_of g.body) (sym both) ∙ nothing_in replaced empty) within)

    target_contains : Contains (names_of target.body) entry
    target_contains = (entry_found (names_of target.body) new_name entry found).0

    abbrev next : Tree
    next = without_replaced now tree target new_name (Some replaced)

    next_keeps : IsFileTree next
    next_keeps = away_keeps tree was target replaced now new_name entry f.target_there f.target_is found (sym (handle_at tree.files entry.handle replaced there)) replaced_stands (λ is. empty)

    left : Left tree.files next.files target.handle replaced.handle new_name target
    left = left_is tree now new_name target replaced f.target_there (not_it target entry f.target_there target_contains)

    moved_left : file_at next.files moved.handle ≡ Some moved
    moved_left = left.other moved.handle (λ e. moved_not_target (sym e)) (λ e. apart (moved.handle == replaced.handle) other (eq-eqb moved.handle replaced.handle (sym e))) ∙ moved_stands
      where
        apart : (b : Bool) → b ≡ false → b ≡ true → ⊥
        apart b no' yes' = let both : true ≡ false = sym yes' ∙ no' in absurd cc

    -- two names of one directory
    names_apart : source.handle ≡ target.handle → name ≢ new_name
    names_apart same names =
        let directories : source ≡ target = some_same source target (sym f.source_there ∙ ap (file_at tree.files) same ∙ f.target_there) in
        let entries : f.entry ≡ entry = some_same f.entry entry (sym f.found ∙ ap (λ (g : File). entry_named (names_of g.body) name) directories ∙ ap (entry_named (names_of target.body)) names ∙ found) in
        let files : moved ≡ replaced = some_same moved replaced (sym f.moved_there ∙ ap (λ (e : Name). file_at tree.files e.handle) entries ∙ there) in
        let both : true ≡ false = sym (eq-eqb moved.handle replaced.handle (ap (λ (g : File). g.handle) files)) ∙ other in absurd cc

    ready : SameOr source.handle target.handle → IsReady next source target moved name new_name
    ready (inl same) =
        let directories : source ≡ target = some_same source target (sym f.source_there ∙ ap (file_at tree.files) same.1 ∙ f.target_there) in
        record {
          from = left.file;
          from_there = ap (file_at next.files) same.1 ∙ left.here;
          from_is = left.kind ∙ f.target_is;
          to = left.file;
          to_there = left.here;
          to_is = left.kind ∙ f.target_is;
          top = moved;
          top_there = moved_left;
          top_is = refl;
          entry = f.entry;
          found = ap (λ (l : List Name). entry_named l name) left.names ∙ other_found (names_of target.body) new_name name (names_apart same.1)
              ∙ ap (λ (g : File). entry_named (names_of g.body) name) (sym directories) ∙ f.found;
          names_it = names_it;
          absent = ap (λ (l : List Name). entry_named l new_name) left.names ∙ other_none (names_of target.body) new_name;
          cut = λ changes. cut_left tree next moved.handle target.handle (left_root tree now new_name target replaced) left.parents (f.cut changes);
        }
    ready (inr apart) = record {
      from = source;
      from_there = left.other source.handle (λ e. apart.1 (sym e)) (not_it source f.entry f.source_there source_contains) ∙ f.source_there;
      from_is = f.source_is;
      to = left.file;
      to_there = left.here;
      to_is = left.kind ∙ f.target_is;
      top = moved;
      top_there = moved_left;
      top_is = refl;
      entry = f.entry;
      found = f.found;
      names_it = names_it;
      absent = ap (λ (l : List Name). entry_named l new_name) left.names ∙ other_none (names_of target.body) new_name;
      cut = λ changes. cut_left tree next moved.handle target.handle (left_root tree now new_name target replaced) left.parents (f.cut changes);
    }

    pub over_keeps : IsFileTree (renamed now tree source name target new_name moved (Some replaced))
    over_keeps = move_keeps next next_keeps source target moved now name new_name f.good (ready (same_or source.handle target.handle))
