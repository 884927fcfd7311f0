-- A directory that moves to another one leaves a file tree.
use Rattle.std.proofs.Common.{◌≡◌, ℕ, suc, ◌+◌, ◌<◌, ◌≤◌, arith, Bool, true, false, List, Some, None, refl, sym, ap, ◌∙◌, subst, inl, inr}
use Rattle.std.specs.Prelude.{◌≢◌, ◌==◌, if◌then◌else◌}
use Rattle.bx_model.specs.bx_tree_files.specs.declared.file.Body.{Body}
use Rattle.bx_model.specs.bx_tree_files.specs.declared.file.Body.TheVariants.{Bytes, Path, Names}
use Rattle.bx_model.specs.bx_tree_files.specs.declared.file.File.{File}
use Rattle.bx_model.specs.bx_tree_files.specs.declared.file.Name.{Name}
use Rattle.bx_model.specs.declared.tree.Tree.{Tree}
use Rattle.bx_model.specs.bx_tree_files.specs.Files.{with_changed, file_at, is_directory}
use Rattle.bx_model.specs.Edits.{changed}
use Rattle.bx_model.specs.FileTrees.{IsFileTree, links_to}
use Rattle.bx_model.specs.bx_tree_files.specs.Names.{names_of, next_of, with_entry}
use Rattle.bx_model.specs.bx_tree_files.specs.Changes.{moved_to, entered as entering, taken_out as taking_out}
use Rattle.bx_model.specs.bx_tree_files.specs.Times.{Time}
use Rattle.bx_tree_laws.proofs.Away.{next_without}
use Rattle.bx_tree_laws.proofs.Everys.{every_kept}
use Rattle.bx_tree_laws.proofs.Inside.{inside, inside_kept}
use Rattle.bx_tree_laws.proofs.Links.{IsNames, one_if, links_kept}
use Rattle.bx_tree_laws.proofs.Lookups.{SameOr, same_or, changed_here, changed_other, some_same}
use Rattle.bx_tree_laws.proofs.Members.{is_names, links_below}
use Rattle.bx_tree_laws.proofs.Moved.{StillDeeper, moved_stage, ref_stays}
use Rattle.bx_tree_laws.proofs.MovedCounts.{inside_moves, moved_links, moved_named, moved_once}
use Rattle.bx_tree_laws.proofs.Plans.{IsStage, Plan}
use Rattle.bx_tree_laws.proofs.Stages.{minus, one_elsewhere, one_here, plus, stage_grown, stage_refers, stage_shrunk}
use Rattle.bx_tree_laws.proofs.Stays.{parent_same, stays_changed, stays_then}
use Rattle.bx_tree_laws.proofs.Walks.{Cut}
use Rattle.bx_tree_laws.proofs.Whole.{plan_of, tree_of}
use Rattle.bx_model.specs.bx_tree_files.specs.Entries.{entry_named, is_bad}
use Rattle.bx_tree_laws.proofs.Halves.{changed_apart, changed_twice, entered, taken_out, with_subdirectory, without_subdirectory}
use Rattle.bx_tree_laws.proofs.Renamed.{from_nearer}

module _ (tree : Tree) (was : IsFileTree tree) (source target moved : File) (from to top : ℕ) (now : Time) (name new_name : List ℕ) (entry : Name)
    (source_there : file_at tree.files from ≡ Some source) (source_is : is_directory source ≡ true)
    (target_there : file_at tree.files to ≡ Some target) (target_is : is_directory target ≡ true) (moved_there : file_at tree.files top ≡ Some moved)
    (found : entry_named (names_of source.body) name ≡ Some entry) (names_it : entry.handle ≡ top)
    (good : is_bad new_name ≡ false) (absent : entry_named (names_of target.body) new_name ≡ None) where
  target_names : IsNames target.body
  target_names = is_names tree was to target target_there target_is

  abbrev after_move : Tree
  after_move = changed (changed (changed tree from (taken_out now name)) to (entered now new_name top)) top (moved_to now to)

  nearer : is_directory moved ≡ true → was.depth from < was.depth top
  nearer = from_nearer tree was source target moved from to top now name new_name entry source_there source_is target_there target_is moved_there found names_it good absent

  module _ (apart : from ≢ to) (one : is_directory moved ≡ true) (cut : Cut tree top to) where
    abbrev lift : ℕ
    lift = suc (was.depth to)

    abbrev depth : ℕ → ℕ
    depth handle = if cut.below handle then was.depth handle + lift else was.depth handle

    depth_top : depth top ≡ was.depth top + lift
    depth_top = rw cut.top_is refl

    depth_to : depth to ≡ was.depth to
    depth_to = rw cut.apart_is refl

    deeper : StillDeeper tree depth top to
    deeper = record {
      nearer = λ handle f parent next names is body other. by handle f parent next names is body (same_or handle top) (was.nearer handle f parent next names is body other) other;
      moves = λ is. omega (arith, depth_top, depth_to);
    }
      where
        at_most : (handle : ℕ) → depth handle ≤ was.depth handle + lift
        at_most handle = which (cut.below handle)
          where
            which : (b : Bool) → (if b then was.depth handle + lift else was.depth handle) ≤ was.depth handle + lift
            which true = omega arith
            which false = omega arith

        both : (b : Bool) (n m : ℕ) → n < m → (if b then n + lift else n) < (if b then m + lift else m)
        both true n m less = omega (arith, less)
        both false n m less = less

        by : (handle : ℕ) (f : File) (parent next : ℕ) (names : List Name) → file_at tree.files handle ≡ Some f → f.body ≡ Names parent next names → SameOr handle top
            → was.depth parent < was.depth handle → handle ≢ tree.root → depth parent < depth handle
        by handle f parent next names is body (inl same) less other = omega (arith, less, at_most parent, depth_top, ap depth same.1, ap was.depth same.1)
        by handle f parent next names is body (inr away) less other =
            subst (λ (b : Bool). (if b then was.depth parent + lift else was.depth parent) < depth handle) (cut.closed handle f parent next names is body other away.1)
            (both (cut.below handle) (was.depth parent) (was.depth handle) less)

    abbrev files : List File
    files = after_move.files

    abbrev less : List File
    less = with_changed files from without_subdirectory

    abbrev counted : List File
    counted = with_changed less to with_subdirectory

    abbrev inner : ℕ → ℕ
    inner = plus to (minus from (inside tree.files))

    moves : (inside files from + 1 ≡ inside tree.files from) × (inside files to ≡ inside tree.files to + 1) × ((handle : ℕ) → from ≢ handle → to ≢ handle → inside files handle ≡ inside tree.files handle)
    moves = inside_moves tree was source target moved from to top now name new_name entry depth source_there target_there moved_there found names_it target_names good absent deeper apart one

    top_not_from : top ≢ from
    top_not_from e = omega (arith, nearer one, ap was.depth e)

    top_not_to : top ≢ to
    top_not_to e = let both : true ≡ false = sym cut.top_is ∙ ap cut.below e ∙ cut.apart_is in absurd cc

    from_file : (f : File) → file_at files from ≡ Some f → taken_out now name source ≡ f
    from_file f is = some_same (taken_out now name source) f (sym (
        changed_other (with_changed (with_changed tree.files from (taken_out now name)) to (entered now new_name top)) top (moved_to now to) from (λ g. refl) top_not_from
        ∙ changed_other (with_changed tree.files from (taken_out now name)) to (entered now new_name top) from (λ g. refl) (λ e. apart (sym e))
        ∙ changed_here tree.files from (taken_out now name) source (λ g. refl) source_there) ∙ is)

    to_file : (f : File) → file_at less to ≡ Some f → entered now new_name top target ≡ f
    to_file f is = some_same (entered now new_name top target) f (sym (
        changed_other files from without_subdirectory to (λ g. refl) apart
        ∙ changed_other (with_changed (with_changed tree.files from (taken_out now name)) to (entered now new_name top)) top (moved_to now to) to (λ g. refl) top_not_to
        ∙ changed_here (with_changed tree.files from (taken_out now name)) to (entered now new_name top) target (λ g. refl)
        (changed_other tree.files from (taken_out now name) to (λ g. refl) apart ∙ target_there)) ∙ is)

    from_room : (f : File) → file_at files from ≡ Some f → (is_directory f ≡ true) × (f.nlink < next_of f.body)
    from_room f is = subst (λ (g : File). (is_directory g ≡ true) × (g.nlink < next_of g.body)) (from_file f is)
        (source_is, subst (λ (n : ℕ). source.nlink < n) (sym (next_without name source.body)) (links_below tree was from source source_there source_is))

    to_room : (f : File) → file_at less to ≡ Some f → (is_directory f ≡ true) × (f.nlink + 1 < next_of f.body)
    to_room f is = subst (λ (g : File). (is_directory g ≡ true) × (g.nlink + 1 < next_of g.body)) (to_file f is)
        (target_is, by target.body target_names (links_below tree was to target target_there target_is))
      where
        by : (b : Body) → IsNames b → target.nlink < next_of b → target.nlink + 1 < next_of (with_entry new_name top b)
        by (Bytes bytes) names few = absurd (omega (arith, few))
        by (Path path) names few = absurd (omega (arith, few))
        by (Names parent next names) is few = omega (arith, few)

    abbrev plan : Plan
    plan = plan_of tree (links_to tree.files) (inside tree.files) depth

    abbrev ref : List File
    ref = with_changed tree.files top (moved_to now to)

    counted_stage : IsStage (record plan { ref = ref; inside = inner }) counted
    counted_stage = stage_grown (record plan { ref = ref; inside = minus from (inside tree.files) }) less
        (stage_shrunk (record plan { ref = ref }) files
        (moved_stage tree was source target moved from to top now name new_name entry depth source_there target_there moved_there found names_it target_names good absent deeper)
        from (omega (arith, moves.0)) from_room)
        to to_room

    inner_are : (handle : ℕ) → inner handle ≡ inside counted handle
    inner_are handle = by (same_or from handle) (same_or to handle)
        ∙ sym (inside_kept files from without_subdirectory (λ f. refl) (λ f. refl) (λ f. refl) handle)
        ∙ sym (inside_kept less to with_subdirectory (λ f. refl) (λ f. refl) (λ f. refl) handle)
      where
        by : SameOr from handle → SameOr to handle → inner handle ≡ inside files handle
        by (inl a) (inl b) = absurd (apart (a.1 ∙ sym b.1))
        by (inl a) (inr b) = omega (arith, moves.0, one_elsewhere to handle b.1, ap (inside tree.files) a.1, ap (inside files) a.1, one_here from, ap {B = ℕ} (λ (h : ℕ). one_if (from == h)) a.1)
        by (inr a) (inl b) = omega (arith, moves.1, one_elsewhere from handle a.1, ap (inside tree.files) b.1, ap (inside files) b.1, one_here to, ap {B = ℕ} (λ (h : ℕ). one_if (to == h)) b.1)
        by (inr a) (inr b) = omega (arith, moves.2 handle a.1 b.1, one_elsewhere from handle a.1, one_elsewhere to handle b.1)

    links_are : (handle : ℕ) → links_to tree.files handle ≡ links_to counted handle
    links_are handle =
        moved_links tree was source target moved from to top now name new_name entry depth source_there target_there moved_there found names_it target_names good absent deeper handle
        ∙ sym (links_kept files from without_subdirectory handle (λ f. refl)) ∙ sym (links_kept less to with_subdirectory handle (λ f. refl))

    pub moved_keeps : IsFileTree (changed (changed after_move from without_subdirectory) to with_subdirectory)
    moved_keeps = tree_of (changed (changed after_move from without_subdirectory) to with_subdirectory) (links_to tree.files) inner depth
        (stage_refers (record plan { ref = ref; inside = inner }) counted counted_stage counted
        (λ handle f e is within. stays_then ref files counted e.handle
        (ref_stays tree was source target moved from to top now name new_name entry depth source_there target_there moved_there found names_it target_names good absent deeper e.handle)
        (stays_then files less counted e.handle
        (stays_changed files from without_subdirectory e.handle (λ g. refl) (λ same g g_is. parent_same g.body))
        (stays_changed less to with_subdirectory e.handle (λ g. refl) (λ same g g_is. parent_same g.body)))))
        links_are inner_are
        (every_kept (λ handle f. handle ≢ tree.root → 1 ≤ links_to tree.files handle) less to with_subdirectory (λ f. refl) (λ handle f h. h)
        (every_kept (λ handle f. handle ≢ tree.root → 1 ≤ links_to tree.files handle) files from without_subdirectory (λ f. refl) (λ handle f h. h)
        (moved_named tree was source target moved from to top now name new_name entry depth source_there target_there moved_there found names_it target_names good absent deeper)))
        (every_kept (λ handle f. is_directory f ≡ true → links_to tree.files handle ≤ 1) less to with_subdirectory (λ f. refl) (λ handle f h. h)
        (every_kept (λ handle f. is_directory f ≡ true → links_to tree.files handle ≤ 1) files from without_subdirectory (λ f. refl) (λ handle f h. h)
        (moved_once tree was source target moved from to top now name new_name entry depth source_there target_there moved_there found names_it target_names good absent deeper)))
        was.root_unnamed

    -- the same, as the call does it
    pub moved_at_once : IsFileTree (changed (changed (changed tree from (taking_out now name true)) to (entering now new_name top true)) top (moved_to now to))
    moved_at_once = subst (λ (l : List File). IsFileTree (record tree { files = l })) same moved_keeps
      where
        same : counted ≡ with_changed (with_changed (with_changed tree.files from (taking_out now name true)) to (entering now new_name top true)) top (moved_to now to)
        same =
            ap (λ (l : List File). with_changed l to with_subdirectory)
            (changed_apart (with_changed (with_changed tree.files from (taken_out now name)) to (entered now new_name top)) top from (moved_to now to) without_subdirectory (λ f. refl) (λ f. refl) top_not_from)
            ∙ ap (λ (l : List File). with_changed (with_changed l top (moved_to now to)) to with_subdirectory)
            (changed_apart (with_changed tree.files from (taken_out now name)) to from (entered now new_name top) without_subdirectory (λ f. refl) (λ f. refl) (λ e. apart (sym e)))
            ∙ ap (λ (l : List File). with_changed (with_changed (with_changed l to (entered now new_name top)) top (moved_to now to)) to with_subdirectory)
            (changed_twice tree.files from (taken_out now name) without_subdirectory (λ f. refl))
            ∙ changed_apart (with_changed (with_changed tree.files from (taking_out now name true)) to (entered now new_name top)) top to (moved_to now to) with_subdirectory (λ f. refl) (λ f. refl) top_not_to
            ∙ ap (λ (l : List File). with_changed l top (moved_to now to))
            (changed_twice (with_changed tree.files from (taking_out now name true)) to (entered now new_name top) with_subdirectory (λ f. refl))
