-- Stages, edit by edit.
use Rattle.std.proofs.Common.{◌≡◌, ℕ, ◌+◌, ◌-◌, ◌<◌, ◌≤◌, arith, true, false, List, Some, refl, sym, ap, ◌∙◌, subst}
use Rattle.std.specs.Prelude.{◌≢◌, ◌==◌, Contains}
use Rattle.std.proofs.lemmas.Bool.{eq-eqb, ne_eqb}
use Rattle.bx_model.specs.bx_tree_files.specs.declared.file.Body.{Body}
use Rattle.bx_model.specs.bx_tree_files.specs.declared.file.Body.TheVariants.{Bytes, Path, Names}
use Rattle.bx_model.specs.bx_tree_files.specs.declared.file.File.{File}
use Rattle.bx_model.specs.bx_tree_files.specs.declared.file.Name.{Name}
use Rattle.bx_model.specs.bx_tree_files.specs.Files.{with_changed, file_at, is_directory}
use Rattle.bx_model.specs.bx_tree_files.specs.Changes.{linked, unlinked, moved_to}
use Rattle.bx_model.specs.bx_tree_files.specs.Names.{names_of, next_of}
use Rattle.bx_model.specs.bx_tree_files.specs.Times.{Time}
use Rattle.bx_tree_laws.proofs.Links.{one_if}
use Rattle.bx_tree_laws.proofs.DirectoryParts.{MayEnter, Stays}
use Rattle.bx_tree_laws.proofs.Parts.{part_counted, part_moved, part_referred, part_with, part_without}
use Rattle.bx_tree_laws.proofs.Plans.{Plan, IsPart, HasCount, IsStage, stage_as, stage_changed}
use Rattle.bx_tree_laws.proofs.Halves.{entered, taken_out, with_subdirectory, without_subdirectory}

-- a count with one more at a handle, and with one less
abbrev pub plus : ℕ → (ℕ → ℕ) → ℕ → ℕ
plus at count handle = count handle + one_if (at == handle)

abbrev pub minus : ℕ → (ℕ → ℕ) → ℕ → ℕ
minus at count handle = count handle - one_if (at == handle)

pub one_here : (at : ℕ) → one_if (at == at) ≡ 1
one_here at = ap {B = ℕ} one_if (eq-eqb at at refl)

pub one_elsewhere : (at handle : ℕ) → at ≢ handle → one_if (at == handle) ≡ 0
one_elsewhere at handle apart = ap {B = ℕ} one_if (ne_eqb at handle apart)

module _ (plan : Plan) (handle kind mode nlink : ℕ) where
  pub part_links : (links inside : ℕ → ℕ) (body : Body) → plan.links handle ≡ links handle → plan.inside handle ≡ inside handle
      → IsPart plan handle kind mode nlink body → IsPart (record plan { links = links; inside = inside }) handle kind mode nlink body
  part_links links inside body same inner part =
      part_counted plan handle kind mode nlink links inside nlink body
      (subst (λ (n : ℕ). HasCount n (inside handle) nlink body) same (subst (λ (n : ℕ). HasCount (plan.links handle) n nlink body) inner part.count)) part.below_next part

  -- another link of a file that is no directory
  link_count : (count : ℕ) (body : Body) (links : ℕ → ℕ) → (kind == 2) ≡ false → (nlink ≡ plan.links handle → count ≡ links handle) → IsPart plan handle kind mode nlink body
      → IsPart (record plan { links = links }) handle kind mode count body
  link_count count (Bytes bytes) links other is part = part_counted plan handle kind mode nlink links plan.inside count (Bytes bytes) (is part.count) tt part
  link_count count (Path path) links other is part = part_counted plan handle kind mode nlink links plan.inside count (Path path) (is part.count) tt part
  link_count count (Names parent next names) links other is part =
      let yes = eq-eqb kind 2 part.kind_is in let no : true ≡ false = sym yes ∙ other in absurd cc

  -- another directory in a directory
  inner_count : (count : ℕ) (body : Body) (inside : ℕ → ℕ) → (kind == 2) ≡ true → (nlink ≡ 2 + plan.inside handle → count ≡ 2 + inside handle) → count < next_of body
      → IsPart plan handle kind mode nlink body → IsPart (record plan { inside = inside }) handle kind mode count body
  inner_count count (Bytes bytes) inside directory is less part = absurd (omega (arith, less))
  inner_count count (Path path) inside directory is less part = absurd (omega (arith, less))
  inner_count count (Names parent next names) inside directory is less part =
      part_counted plan handle kind mode nlink plan.links inside count (Names parent next names) (is part.count) less part

module _ (plan : Plan) (files : List File) (stage : IsStage plan files) where
  -- an entry taken out
  pub stage_taken : (at : ℕ) (now : Time) (name : List ℕ) → IsStage plan (with_changed files at (taken_out now name))
  stage_taken at now name = stage_changed plan plan files at (taken_out now name) (λ f. refl) refl
      (λ f is part. part_without plan at f.kind f.mode f.nlink name f.body part) (λ handle f apart is part. part) stage

  -- an entry put in
  pub stage_entered : (at : ℕ) (now : Time) (name : List ℕ) (to : ℕ) → ((file : File) → file_at files at ≡ Some file → MayEnter plan.ref at name to file.body)
      → IsStage plan (with_changed files at (entered now name to))
  stage_entered at now name to may = stage_changed plan plan files at (entered now name to) (λ f. refl) refl
      (λ f is part. part_with plan at f.kind f.mode f.nlink name to f.body (may f is) part) (λ handle f apart is part. part) stage

  -- one link more, or one less, of a file that is no directory
  pub stage_linked : (at : ℕ) (now : Time) → ((file : File) → file_at files at ≡ Some file → is_directory file ≡ false)
      → IsStage (record plan { links = plus at plan.links }) (with_changed files at (linked now))
  stage_linked at now other = stage_changed plan (record plan { links = plus at plan.links }) files at (linked now) (λ f. refl) refl
      (λ f is part. link_count plan at f.kind f.mode f.nlink (f.nlink + 1) f.body (plus at plan.links) (other f is) (λ e. omega (arith, e, one_here at)) part)
      (λ handle f apart is part. part_links plan handle f.kind f.mode f.nlink (plus at plan.links) plan.inside f.body (omega (arith, one_elsewhere at handle apart)) refl part)
      stage

  pub stage_unlinked : (at : ℕ) (now : Time) → ((file : File) → file_at files at ≡ Some file → is_directory file ≡ false)
      → IsStage (record plan { links = minus at plan.links }) (with_changed files at (unlinked now))
  stage_unlinked at now other = stage_changed plan (record plan { links = minus at plan.links }) files at (unlinked now) (λ f. refl) refl
      (λ f is part. link_count plan at f.kind f.mode f.nlink (f.nlink - 1) f.body (minus at plan.links) (other f is) (λ e. omega (arith, e, one_here at)) part)
      (λ handle f apart is part. part_links plan handle f.kind f.mode f.nlink (minus at plan.links) plan.inside f.body (omega (arith, one_elsewhere at handle apart)) refl part)
      stage

  -- one directory more in a directory, or one less
  pub stage_grown : (at : ℕ) → ((file : File) → file_at files at ≡ Some file → (is_directory file ≡ true) × (file.nlink + 1 < next_of file.body))
      → IsStage (record plan { inside = plus at plan.inside }) (with_changed files at with_subdirectory)
  stage_grown at is_one = stage_changed plan (record plan { inside = plus at plan.inside }) files at with_subdirectory (λ f. refl) refl
      (λ f is part. inner_count plan at f.kind f.mode f.nlink (f.nlink + 1) f.body (plus at plan.inside) (is_one f is).0 (λ e. omega (arith, e, one_here at)) (is_one f is).1 part)
      (λ handle f apart is part. part_links plan handle f.kind f.mode f.nlink plan.links (plus at plan.inside) f.body refl (omega (arith, one_elsewhere at handle apart)) part)
      stage

  pub stage_shrunk : (at : ℕ) → 1 ≤ plan.inside at → ((file : File) → file_at files at ≡ Some file → (is_directory file ≡ true) × (file.nlink < next_of file.body))
      → IsStage (record plan { inside = minus at plan.inside }) (with_changed files at without_subdirectory)
  stage_shrunk at some is_one = stage_changed plan (record plan { inside = minus at plan.inside }) files at without_subdirectory (λ f. refl) refl
      (λ f is part. inner_count plan at f.kind f.mode f.nlink (f.nlink - 1) f.body (minus at plan.inside) (is_one f is).0 (λ e. omega (arith, e, some, one_here at)) (lower f.nlink (next_of f.body) (is_one f is).1) part)
      (λ handle f apart is part. part_links plan handle f.kind f.mode f.nlink plan.links (minus at plan.inside) f.body refl (omega (arith, one_elsewhere at handle apart)) part)
      stage
    where
      lower : (n m : ℕ) → n < m → n - 1 < m
      lower n m less = omega (arith, less)

  -- a file moved
  pub stage_moved : (at : ℕ) (now : Time) (to : ℕ) → at ≢ plan.root
      → ((file : File) (parent next : ℕ) (names : List Name) → file_at files at ≡ Some file → file.body ≡ Names parent next names → plan.depth to < plan.depth at)
      → IsStage plan (with_changed files at (moved_to now to))
  stage_moved at now to apart less = stage_changed plan plan files at (moved_to now to) (λ f. refl) refl
      (λ f is part. part_moved plan at f.kind f.mode f.nlink to f.body apart (λ parent next names body. less f parent next names is body) part) (λ handle f other is part. part) stage

  -- other files referred to
  pub stage_refers : (ref : List File) → ((handle : ℕ) (file : File) (entry : Name) → file_at files handle ≡ Some file → Contains (names_of file.body) entry → Stays plan.ref ref entry.handle)
      → IsStage (record plan { ref = ref }) files
  stage_refers ref stays = stage_as plan (record plan { ref = ref }) files refl
      (λ handle f is part. part_referred plan handle f.kind f.mode f.nlink ref f.body (λ entry there. stays handle f entry is there) part) stage
