-- A new file, which a new entry of a directory names: what each file then has.
use Rattle.std.proofs.Common.{◌≡◌, ℕ, suc, ◌+◌, ◌≤◌, arith, true, false, List, [], Some, None, Option, refl, sym, ap, ◌∙◌, subst}
use Rattle.std.specs.Prelude.{◌≢◌, ◌==◌, if◌then◌else◌, Contains, count_by, length}
use Rattle.std.proofs.lemmas.Bool.{eq-eqb, ne_eqb}
use Rattle.bx_model.specs.bx_tree_files.specs.declared.file.Body.{Body}
use Rattle.bx_model.specs.bx_tree_files.specs.declared.file.Body.TheVariants.{Bytes, Path, Names}
use Rattle.bx_model.specs.bx_tree_files.specs.declared.file.File.{File}
use Rattle.bx_model.specs.bx_tree_files.specs.declared.file.Name.{Name}
use Rattle.bx_model.specs.declared.tree.Tree.{Tree}
use Rattle.bx_model.specs.bx_tree_files.specs.Files.{with_changed, IsFile, file_at, is_directory, with_file}
use Rattle.bx_model.specs.FileTrees.{HasEntries, IsFileTree, is_directory_at, is_directory_in, links_to}
use Rattle.bx_model.specs.bx_tree_files.specs.Names.{names_of}
use Rattle.bx_model.specs.bx_tree_files.specs.Times.{Time}
use Rattle.bx_tree_laws.specs.Every.{Every}
use Rattle.bx_tree_laws.proofs.Counts.{none_contained}
use Rattle.bx_tree_laws.proofs.Everys.{every_kept, every_with}
use Rattle.bx_tree_laws.proofs.Inside.{inside, inside_entered, inside_other, names_at, names_in}
use Rattle.bx_tree_laws.proofs.Links.{IsNames, one_if, links_entered, links_with}
use Rattle.bx_tree_laws.proofs.Lookups.{some_same, with_here, with_other}
use Rattle.bx_tree_laws.proofs.Members.{absent_unnamed, entry_of, is_names, parent_names}
use Rattle.bx_tree_laws.proofs.DirectoryParts.{MayEnter}
use Rattle.bx_tree_laws.proofs.Parts.{part_renewed}
use Rattle.bx_tree_laws.proofs.Plans.{HasCount, HasPart, IsNearer, IsStage, Plan, stage_with}
use Rattle.bx_tree_laws.proofs.Put.{handle_given, handle_stays, inside_with}
use Rattle.bx_tree_laws.proofs.Rises.{rise_with}
use Rattle.bx_tree_laws.proofs.Stages.{one_elsewhere, one_here, part_links, plus, stage_entered, stage_refers}
use Rattle.bx_tree_laws.proofs.Stays.{stays_with}
use Rattle.bx_tree_laws.proofs.Whole.{below_next, plan_of, stage_of}
use Rattle.bx_model.specs.bx_tree_files.specs.Entries.{entry_named, is_bad}
use Rattle.bx_model.specs.bx_tree_files.specs.Given.{with_handle}
use Rattle.bx_tree_laws.proofs.Halves.{entered}

-- a new file: it has one link, or it is a directory without entries
pub record IsNew (parent : ℕ) (new : File) : Type 0 where
  pub is_file : IsFile new
  pub none : names_of new.body ≡ []
  pub count : HasCount 1 0 new.nlink new.body
  pub parent_is : (above next : ℕ) (names : List Name) → new.body ≡ Names above next names → above ≡ parent

entries_none : (files : List File) (handle : ℕ) (body : Body) → names_of body ≡ [] → HasEntries files handle body
entries_none files handle (Bytes bytes) none = tt
entries_none files handle (Path path) none = tt
entries_none files handle (Names parent next names) none = record {
  each = λ entry there. absurd (none_contained entry (subst (λ (l : List Name). Contains l entry) none there));
  rise = λ i j d less within. absurd (omega (arith, less, within, ap length none));
  apart = λ i j d less within. absurd (omega (arith, less, within, ap length none));
}

module _ (tree : Tree) (was : IsFileTree tree) (directory : File) (at : ℕ) (now : Time) (name : List ℕ) (new : File)
    (is_there : file_at tree.files at ≡ Some directory) (is_one : is_directory directory ≡ true)
    (good : is_bad name ≡ false) (absent : entry_named (names_of directory.body) name ≡ None)
    (gone : file_at tree.files new.handle ≡ None) (is_new : IsNew at new) where
  abbrev pub made : ℕ
  made = new.handle

  abbrev pub first : List File
  first = with_file tree.files new

  abbrev pub files : List File
  files = with_changed first at (entered now name made)

  abbrev pub links : ℕ → ℕ
  links = plus made (links_to tree.files)

  abbrev pub depth : ℕ → ℕ
  depth handle = if made == handle then suc (was.depth at) else was.depth handle

  -- what is there isn't the new file
  not_made : (handle : ℕ) (file : File) → file_at tree.files handle ≡ Some file → made ≢ handle
  not_made handle file is same = let no : None ≡ Some file = sym gone ∙ ap (file_at tree.files) same ∙ is in absurd cc

  depth_made : depth made ≡ suc (was.depth at)
  depth_made = rw (eq-eqb made made refl) refl

  depth_other : (handle : ℕ) → made ≢ handle → depth handle ≡ was.depth handle
  depth_other handle apart = rw (ne_eqb made handle apart) refl

  nearer : (handle : ℕ) (file : File) (body : Body) → file_at tree.files handle ≡ Some file → file.body ≡ body → IsNearer depth tree.root handle body
  nearer handle file (Bytes bytes) is b = tt
  nearer handle file (Path path) is b = tt
  nearer handle file (Names parent next names) is b = λ other.
      let it = parent_names tree was handle file parent next names is b other in
      let less = was.nearer handle file parent next names is b other in
      let above = depth_other parent (not_made parent it.0.directory (ap (file_at tree.files) (sym it.1) ∙ it.0.there)) in
      let here = depth_other handle (not_made handle file is) in
      omega (arith, less, above, here)

  nearer_new : (body : Body) → new.body ≡ body → IsNearer depth tree.root made body
  nearer_new (Bytes bytes) b = tt
  nearer_new (Path path) b = tt
  nearer_new (Names parent next names) b = λ other.
      let up = is_new.parent_is parent next names b in
      let above = depth_other at (not_made at directory is_there) in
      omega (arith, depth_made, above, ap depth up)

  abbrev pub plan : Plan
  plan = record { root = tree.root; ref = tree.files; links = links; inside = inside tree.files; depth = depth; given = with_handle tree.given made }

  count_new : HasCount (links made) (inside tree.files made) new.nlink new.body
  count_new =
      let one : 1 ≡ links made = omega (arith, absent_unnamed tree was made gone, one_here made) in
      let zero_in : 0 ≡ inside tree.files made = sym (ap (λ (found : Option File). count_by (λ (entry : Name). is_directory_at tree.files entry.handle) (names_in found)) gone) in
      subst (λ (n : ℕ). HasCount n (inside tree.files made) new.nlink new.body) one (subst (λ (n : ℕ). HasCount 1 n new.nlink new.body) zero_in is_new.count)

  not_root : made ≢ tree.root
  not_root = not_made tree.root was.root.0 was.root.3

  part_new : HasPart plan made new
  part_new = record {
    kind_is = is_new.is_file.kind;
    mode_fits = is_new.is_file.mode;
    size_fits = is_new.is_file.size;
    below_next = below_next new.nlink new.body is_new.is_file.numbers;
    was_given = handle_given tree.given made;
    entries = entries_none tree.files made new.body is_new.none;
    count = count_new;
    nearer = nearer_new new.body refl;
    root_is = λ root. absurd (not_root root);
  }

  put_in : IsStage plan first
  put_in = stage_with (plan_of tree (links_to tree.files) (inside tree.files) was.depth) plan tree.files new not_root refl part_new
      (λ handle f apart is part.
      part_renewed (plan_of tree links (inside tree.files) was.depth) handle f.kind f.mode f.nlink (with_handle tree.given made) depth f.body
      (handle_stays tree.given made handle) (nearer handle f f.body is refl)
      (part_links (plan_of tree (links_to tree.files) (inside tree.files) was.depth) handle f.kind f.mode f.nlink links (inside tree.files) f.body
      (omega (arith, one_elsewhere made handle apart)) refl part))
      (stage_of tree was)

  pub still : file_at first at ≡ Some directory
  still = with_other tree.files new at (not_made at directory is_there) ∙ is_there

  pub body : IsNames directory.body
  body = is_names tree was at directory is_there is_one

  may : (f : File) → file_at first at ≡ Some f → MayEnter first at name made f.body
  may f is = subst (λ (g : File). MayEnter first at name made g.body) (some_same directory f (sym still ∙ is)) record {
    good = good;
    absent = absent;
    file = new;
    there = with_here tree.files new;
    parent = is_new.parent_is;
  }

  pub stage : IsStage (record plan { ref = first }) files
  stage = stage_entered (record plan { ref = first }) first
      (stage_refers plan first put_in first (λ handle f entry is within. stays_with tree.files new entry.handle gone))
      at now name made may

  pub links_are : (handle : ℕ) → links handle ≡ links_to files handle
  links_are handle =
      let more = links_entered first at now name made directory handle (rise_with tree.files new was.rise) still body in
      let same = links_with tree.files new handle gone is_new.none in
      omega (arith, more, same)

  inside_first : (handle : ℕ) → inside first handle ≡ inside tree.files handle
  inside_first handle = inside_with tree.files new handle gone is_new.none (λ entry. by (file_at tree.files handle) refl entry)
    where
      by : (found : Option File) → file_at tree.files handle ≡ found → (entry : Name) → Contains (names_at tree.files handle) entry → made ≢ entry.handle
      by None is entry there = absurd (none_contained entry (subst (λ (o : Option File). Contains (names_in o) entry) is there))
      by (Some f) is entry there =
          let e = entry_of tree was handle f is entry (subst (λ (o : Option File). Contains (names_in o) entry) is there) in
          not_made entry.handle e.file e.there

  directory_new : is_directory_at first made ≡ is_directory new
  directory_new = ap is_directory_in (with_here tree.files new)

  pub inside_at : inside files at ≡ inside tree.files at + one_if (is_directory new)
  inside_at =
      let more = inside_entered first at now name made directory still body in
      omega (arith, more, inside_first at, ap {B = ℕ} one_if directory_new)

  pub inside_away : (handle : ℕ) → at ≢ handle → inside files handle ≡ inside tree.files handle
  inside_away handle apart = inside_other first at (entered now name made) (λ f. refl) (λ f. refl) handle apart ∙ inside_first handle

  pub named : Every (λ handle f. handle ≢ tree.root → 1 ≤ links handle) files
  named = every_kept (λ handle f. handle ≢ tree.root → 1 ≤ links handle) first at (entered now name made) (λ f. refl) (λ handle f h. h)
      (every_with (λ handle f. handle ≢ tree.root → 1 ≤ links handle) tree.files new
      (λ other. omega (arith, one_here made))
      (λ handle f apart is other. let one = was.named handle f is other in omega (arith, one)))

  pub once : Every (λ handle f. is_directory f ≡ true → links handle ≤ 1) files
  once = every_kept (λ handle f. is_directory f ≡ true → links handle ≤ 1) first at (entered now name made) (λ f. refl) (λ handle f h. h)
      (every_with (λ handle f. is_directory f ≡ true → links handle ≤ 1) tree.files new
      (λ is. omega (arith, one_here made, absent_unnamed tree was made gone))
      (λ handle f apart is yes'. omega (arith, was.once handle f is yes', one_elsewhere made handle apart)))

  pub unnamed : links tree.root ≡ 0
  unnamed = omega (arith, was.root_unnamed, one_elsewhere made tree.root not_root)
