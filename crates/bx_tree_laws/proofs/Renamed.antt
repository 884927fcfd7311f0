-- A move that changes no directory's parent leaves a file tree.
use Rattle.std.proofs.Common.{◌≡◌, ℕ, ◌<◌, true, false, List, Some, None, sym, ap, ◌∙◌, subst, inl, inr}
use Rattle.std.specs.Prelude.{◌≢◌, ◌⊎◌}
use Rattle.bx_model.specs.bx_tree_files.specs.declared.file.Body.TheVariants.{Names}
use Rattle.bx_model.specs.bx_tree_files.specs.declared.file.File.{File}
use Rattle.bx_model.specs.bx_tree_files.specs.declared.file.Name.{Name}
use Rattle.bx_model.specs.declared.tree.Tree.{Tree}
use Rattle.bx_model.specs.bx_tree_files.specs.Files.{with_changed, file_at, is_directory}
use Rattle.bx_model.specs.Edits.{changed}
use Rattle.bx_model.specs.FileTrees.{IsFileTree, links_to}
use Rattle.bx_model.specs.bx_tree_files.specs.Names.{names_of}
use Rattle.bx_model.specs.bx_tree_files.specs.Changes.{moved_to}
use Rattle.bx_model.specs.bx_tree_files.specs.Times.{Time}
use Rattle.bx_tree_laws.proofs.Entries.{entry_found}
use Rattle.bx_tree_laws.proofs.Inside.{inside}
use Rattle.bx_tree_laws.proofs.Links.{IsNames}
use Rattle.bx_tree_laws.proofs.Lookups.{some_same}
use Rattle.bx_tree_laws.proofs.Members.{directory_at, entry_of, is_names}
use Rattle.bx_tree_laws.proofs.Moved.{StillDeeper, moved_stage, ref_stays}
use Rattle.bx_tree_laws.proofs.MovedCounts.{inside_still, moved_links, moved_named, moved_once}
use Rattle.bx_tree_laws.proofs.Stages.{stage_refers}
use Rattle.bx_tree_laws.proofs.Taken.{to_not_root}
use Rattle.bx_tree_laws.proofs.Whole.{plan_of, tree_of}
use Rattle.bx_model.specs.bx_tree_files.specs.Entries.{entry_named, is_bad}
use Rattle.bx_tree_laws.proofs.Halves.{entered, taken_out}

module _ (tree : Tree) (was : IsFileTree tree) (source target moved : File) (from to top : ℕ) (now : Time) (name new_name : List ℕ) (entry : Name)
    (source_there : file_at tree.files from ≡ Some source) (source_is : is_directory source ≡ true)
    (target_there : file_at tree.files to ≡ Some target) (target_is : is_directory target ≡ true) (moved_there : file_at tree.files top ≡ Some moved)
    (found : entry_named (names_of source.body) name ≡ Some entry) (names_it : entry.handle ≡ top)
    (good : is_bad new_name ≡ false) (absent : entry_named (names_of target.body) new_name ≡ None) where
  target_names : IsNames target.body
  target_names = is_names tree was to target target_there target_is

  abbrev pub after_move : Tree
  after_move = changed (changed (changed tree from (taken_out now name)) to (entered now new_name top)) top (moved_to now to)

  not_root : top ≢ tree.root
  not_root = to_not_root tree was source from now name entry top source_there found names_it

  -- a directory that moves was in the one that it leaves
  parent_was : (parent next : ℕ) (names : List Name) → moved.body ≡ Names parent next names → parent ≡ from
  parent_was parent next names body =
      let e = entry_of tree was from source source_there entry (entry_found (names_of source.body) name entry found).0 in
      let same : e.file ≡ moved = some_same e.file moved (sym e.there ∙ ap (file_at tree.files) names_it ∙ moved_there) in
      e.parent parent next names (ap (λ (f : File). f.body) same ∙ body)

  pub from_nearer : is_directory moved ≡ true → was.depth from < was.depth top
  from_nearer is =
      let body = is_names tree was top moved moved_there is in
      subst (λ (h : ℕ). was.depth h < was.depth top) (parent_was body.parent body.next body.names body.is)
      (was.nearer top moved body.parent body.next body.names moved_there body.is not_root)

  -- ---- no directory changes its parent

  pub renamed_keeps : (from ≡ to) ⊎ (is_directory moved ≡ false) → IsFileTree after_move
  renamed_keeps which = tree_of after_move (links_to tree.files) (inside tree.files) was.depth
      (stage_refers (record (plan_of tree (links_to tree.files) (inside tree.files) was.depth) { ref = with_changed tree.files top (moved_to now to) }) after_move.files
      (moved_stage tree was source target moved from to top now name new_name entry was.depth source_there target_there moved_there found names_it target_names good absent deeper)
      after_move.files (λ handle f e is within. ref_stays tree was source target moved from to top now name new_name entry was.depth source_there target_there moved_there found names_it target_names good absent deeper e.handle))
      (moved_links tree was source target moved from to top now name new_name entry was.depth source_there target_there moved_there found names_it target_names good absent deeper)
      (inside_still tree was source target moved from to top now name new_name entry was.depth source_there target_there moved_there found names_it target_names good absent deeper which)
      (moved_named tree was source target moved from to top now name new_name entry was.depth source_there target_there moved_there found names_it target_names good absent deeper)
      (moved_once tree was source target moved from to top now name new_name entry was.depth source_there target_there moved_there found names_it target_names good absent deeper)
      was.root_unnamed
    where
      deeper : StillDeeper tree was.depth top to
      deeper = record {
        nearer = λ handle f parent next names is body other. was.nearer handle f parent next names is body other;
        moves = λ is. by which (sym (directory_at tree was top moved moved_there) ∙ is);
      }
        where
          by : (from ≡ to) ⊎ (is_directory moved ≡ false) → is_directory moved ≡ true → was.depth to < was.depth top
          by (inl same) is = subst (λ (h : ℕ). was.depth h < was.depth top) same (from_nearer is)
          by (inr other) is = let both : true ≡ false = sym is ∙ other in absurd cc
