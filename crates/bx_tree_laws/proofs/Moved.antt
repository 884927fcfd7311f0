-- A file that moves from one directory to another, or gets another name: what each file then has.
use Rattle.std.proofs.Common.{◌≡◌, ℕ, ◌+◌, ◌<◌, arith, Bool, true, false, List, Some, None, refl, sym, ap, ◌∙◌, subst, inl, inr}
use Rattle.std.specs.Prelude.{◌≢◌, ◌==◌, Contains}
use Rattle.std.proofs.lemmas.Bool.{eq-eqb}
use Rattle.bx_model.specs.bx_tree_files.specs.declared.file.Body.{Body}
use Rattle.bx_model.specs.bx_tree_files.specs.declared.file.Body.TheVariants.{Bytes, Path, Names}
use Rattle.bx_model.specs.bx_tree_files.specs.declared.file.File.{File}
use Rattle.bx_model.specs.bx_tree_files.specs.declared.file.Name.{Name}
use Rattle.bx_model.specs.declared.tree.Tree.{Tree}
use Rattle.bx_model.specs.bx_tree_files.specs.Files.{with_changed, file_at, is_directory, kind_of}
use Rattle.bx_model.specs.FileTrees.{IsFileTree, is_directory_in, is_directory_at, links_to}
use Rattle.bx_model.specs.bx_tree_files.specs.Names.{names_of, with_parent}
use Rattle.bx_model.specs.bx_tree_files.specs.Changes.{moved_to}
use Rattle.bx_model.specs.bx_tree_files.specs.Times.{Time}
use Rattle.bx_tree_laws.proofs.Entries.{other_absent}
use Rattle.bx_tree_laws.proofs.Inside.{directory_changed, inside}
use Rattle.bx_tree_laws.proofs.Links.{IsNames, one_if, names_count, names_without}
use Rattle.bx_tree_laws.proofs.Lookups.{SameOr, same_or, changed_here, changed_other, some_same}
use Rattle.bx_tree_laws.proofs.Members.{not_names}
use Rattle.bx_tree_laws.proofs.DirectoryParts.{MayEnter, SameParent, Stays}
use Rattle.bx_tree_laws.proofs.Parts.{part_renewed}
use Rattle.bx_tree_laws.proofs.Plans.{IsNearer, IsStage, Plan, stage_as}
use Rattle.bx_tree_laws.proofs.Stages.{one_here, stage_entered, stage_moved, stage_refers, stage_taken}
use Rattle.bx_tree_laws.proofs.Stays.{moved_parent, parent_moved, parent_with, parent_without, stays_changed, stays_moved, stays_then}
use Rattle.bx_tree_laws.proofs.Taken.{taken_links, to_not_root}
use Rattle.bx_tree_laws.proofs.Whole.{plan_of, stage_of}
use Rattle.bx_model.specs.bx_tree_files.specs.Entries.{entry_named, is_bad}
use Rattle.bx_tree_laws.proofs.Halves.{entered, taken_out}

-- a depth that still tells directories from those above them, once one is below another
pub record StillDeeper (tree : Tree) (depth : ℕ → ℕ) (top to : ℕ) : Type 0 where
  pub nearer : (handle : ℕ) (file : File) (parent next : ℕ) (names : List Name) → file_at tree.files handle ≡ Some file → file.body ≡ Names parent next names
      → handle ≢ tree.root → depth parent < depth handle
  pub moves : is_directory_at tree.files top ≡ true → depth to < depth top

module _ (tree : Tree) (was : IsFileTree tree) (source target moved : File) (from to top : ℕ) (now : Time) (name new_name : List ℕ) (entry : Name) (depth : ℕ → ℕ)
    (source_there : file_at tree.files from ≡ Some source) (target_there : file_at tree.files to ≡ Some target) (moved_there : file_at tree.files top ≡ Some moved)
    (found : entry_named (names_of source.body) name ≡ Some entry) (names_it : entry.handle ≡ top)
    (target_names : IsNames target.body) (good : is_bad new_name ≡ false) (absent : entry_named (names_of target.body) new_name ≡ None)
    (deeper : StillDeeper tree depth top to) where
  abbrev first : List File
  first = with_changed tree.files from (taken_out now name)

  abbrev ref : List File
  ref = with_changed tree.files top (moved_to now to)

  abbrev second : List File
  second = with_changed first to (entered now new_name top)

  abbrev pub moved_files : List File
  moved_files = with_changed second top (moved_to now to)

  abbrev plan : Plan
  plan = plan_of tree (links_to tree.files) (inside tree.files) depth

  near : (handle : ℕ) (file : File) (body : Body) → file_at tree.files handle ≡ Some file → file.body ≡ body → IsNearer depth tree.root handle body
  near handle file (Bytes bytes) is b = tt
  near handle file (Path path) is b = tt
  near handle file (Names parent next names) is b = λ other. deeper.nearer handle file parent next names is b other

  begun : IsStage plan tree.files
  begun = stage_as (plan_of tree (links_to tree.files) (inside tree.files) was.depth) plan tree.files refl
      (λ handle f is part. part_renewed (plan_of tree (links_to tree.files) (inside tree.files) was.depth) handle f.kind f.mode f.nlink tree.given depth f.body (λ given. given) (near handle f f.body is refl) part)
      (stage_of tree was)

  less : (handle : ℕ) → links_to first handle + one_if (top == handle) ≡ links_to tree.files handle
  less = taken_links tree was source from now name entry top source_there found names_it

  not_root : top ≢ tree.root
  not_root = to_not_root tree was source from now name entry top source_there found names_it

  -- a directory that moved is named no more
  moved_stays : (b : Bool) → is_directory moved ≡ b → (handle : ℕ) (file : File) (e : Name) → file_at first handle ≡ Some file → Contains (names_of file.body) e → top ≡ e.handle → SameParent moved.body (with_parent to moved.body)
  moved_stays false other handle file e is within same = parent_moved to moved.body (not_names tree was top moved moved_there other)
  moved_stays true one handle file e is within same =
      absurd (omega (arith, names_count first handle file e is within, less top, was.once top moved moved_there one, one_here top, ap (links_to first) same))

  taken_ref : IsStage (record plan { ref = ref }) first
  taken_ref = stage_refers plan first (stage_taken plan tree.files begun from now name) ref
      (λ handle file e is within. stays_changed tree.files top (moved_to now to) e.handle (λ f. refl)
      (λ same f f_is. subst (λ (g : File). SameParent g.body (with_parent to g.body)) (some_same moved f (sym moved_there ∙ f_is)) (moved_stays (is_directory moved) refl handle file e is within same)))

  -- the directory that it moves to, without the entry that it had
  target_first : (goal : File → Type 0) → goal target → ((from ≡ to) → goal (taken_out now name target)) → (f : File) → file_at first to ≡ Some f → goal f
  target_first goal same taken f is = by (same_or from to)
    where
      by : SameOr from to → goal f
      by (inl one) =
          let both : source ≡ target = some_same source target (sym source_there ∙ ap (file_at tree.files) one.1 ∙ target_there) in
          let here = changed_here tree.files from (taken_out now name) source (λ g. refl) source_there in
          subst goal (some_same (taken_out now name target) f (sym (ap (λ (g : File). Some (taken_out now name g)) both) ∙ sym here ∙ ap (file_at first) one.1 ∙ is)) (taken one.1)
      by (inr apart) = subst goal (some_same target f (sym (changed_other tree.files from (taken_out now name) to (λ g. refl) apart.1 ∙ target_there) ∙ is)) same

  may : (f : File) → file_at first to ≡ Some f → MayEnter ref to new_name top f.body
  may = target_first (λ f. MayEnter ref to new_name top f.body) (entering target.body absent)
      (λ one. entering (taken_out now name target).body
      (ap (λ (l : List Name). entry_named l new_name) (names_without name target.body) ∙ other_absent (names_of target.body) name new_name absent))
    where
      entering : (body : Body) → entry_named (names_of body) new_name ≡ None → MayEnter ref to new_name top body
      entering body none = record {
        good = good;
        absent = none;
        file = moved_to now to moved;
        there = changed_here tree.files top (moved_to now to) moved (λ g. refl) moved_there;
        parent = λ parent others names is. moved_parent to moved.body parent others names is;
      }

  same_directories : (handle : ℕ) → is_directory_at second handle ≡ is_directory_at tree.files handle
  same_directories handle = directory_changed first to (entered now new_name top) handle (λ f. refl) (λ f. refl) ∙ directory_changed tree.files from (taken_out now name) handle (λ f. refl) (λ f. refl)

  entered_ref : IsStage (record plan { ref = ref }) second
  entered_ref = stage_entered (record plan { ref = ref }) first taken_ref to now new_name top may

  moved_ref : IsStage (record plan { ref = ref }) moved_files
  moved_ref = stage_moved (record plan { ref = ref }) second entered_ref top now to not_root
      (λ f parent next names is body.
      let kind = (entered_ref.each top f is).kind_is in
      let one : is_directory f ≡ true = eq-eqb f.kind 2 (kind ∙ ap kind_of body) in
      deeper.moves (sym (same_directories top) ∙ ap is_directory_in is ∙ one))

  pub ref_stays : (handle : ℕ) → Stays ref moved_files handle
  ref_stays handle = stays_moved tree.files second top now to handle moved moved_there
      (stays_then tree.files first second handle
      (stays_changed tree.files from (taken_out now name) handle (λ f. refl) (λ same f is. parent_without name f.body))
      (stays_changed first to (entered now new_name top) handle (λ f. refl) (λ same f is. parent_with new_name top f.body)))

  pub moved_stage : IsStage (record plan { ref = ref }) moved_files
  moved_stage = moved_ref
