-- A file tree in the midst of a step: what each file has, of what its entries name, and of what its links count.
use Rattle.std.proofs.Common.{◌≡◌, ℕ, ◌+◌, ◌<◌, ◌^◌, List, Some, sym, ap, ◌∙◌}
use Rattle.std.specs.Prelude.{◌≢◌, Contains}
use Rattle.std.proofs.Common.{inl, inr}
use Rattle.bx_model.specs.bx_tree_files.specs.declared.file.Body.{Body}
use Rattle.bx_model.specs.bx_tree_files.specs.declared.file.Body.TheVariants.{Bytes, Path, Names}
use Rattle.bx_model.specs.bx_tree_files.specs.declared.file.File.{File}
use Rattle.bx_model.specs.bx_tree_files.specs.Files.{with_changed, without_file, file_at, kind_of, size_of, with_file}
use Rattle.bx_model.specs.FileTrees.{HasEntries}
use Rattle.bx_tree_laws.specs.Every.{Every}
use Rattle.bx_tree_laws.proofs.Everys.{every_changed, every_without, every_with}
use Rattle.bx_tree_laws.proofs.Lookups.{SameOr, same_or, changed_here, changed_other, without_other, with_other}
use Rattle.bx_tree_laws.proofs.Rises.{Rise, rise_changed, rise_without, rise_with}
use Rattle.bx_tree_laws.proofs.Halves.{LinksBelowNext}

-- The root, the files that entries name, how many links files have and how many directories are in one, how deep
-- directories are, and the handles that were given out.
pub record Plan : Type 0 where
  pub root : ℕ
  pub ref : List File
  pub links : ℕ → ℕ
  pub inside : ℕ → ℕ
  pub depth : ℕ → ℕ
  pub given : List ℕ

abbrev pub HasCount : ℕ → ℕ → ℕ → Body → Type 0
HasCount links inside nlink (Bytes bytes) = nlink ≡ links
HasCount links inside nlink (Path path) = nlink ≡ links
HasCount links inside nlink (Names parent next names) = nlink ≡ 2 + inside

abbrev pub IsRootBody : ℕ → Body → Type 0
IsRootBody root (Bytes bytes) = ⊥
IsRootBody root (Path path) = ⊥
IsRootBody root (Names parent next names) = parent ≡ root

abbrev pub IsNearer : (ℕ → ℕ) → ℕ → ℕ → Body → Type 0
IsNearer depth root handle (Bytes bytes) = Unit {0}
IsNearer depth root handle (Path path) = Unit {0}
IsNearer depth root handle (Names parent next names) = handle ≢ root → depth parent < depth handle

pub record IsPart (plan : Plan) (handle kind mode nlink : ℕ) (body : Body) : Type 0 where
  pub kind_is : kind ≡ kind_of body
  pub mode_fits : mode < 2 ^ 12
  pub size_fits : size_of body < 2 ^ 31
  pub below_next : LinksBelowNext nlink body
  pub was_given : Contains plan.given handle
  pub entries : HasEntries plan.ref handle body
  pub count : HasCount (plan.links handle) (plan.inside handle) nlink body
  pub nearer : IsNearer plan.depth plan.root handle body
  pub root_is : handle ≡ plan.root → IsRootBody plan.root body

abbrev pub HasPart : Plan → ℕ → File → Type 0
HasPart plan handle file = IsPart plan handle file.kind file.mode file.nlink file.body

pub record IsStage (plan : Plan) (files : List File) : Type 0 where
  pub rise : Rise files
  pub each : Every (HasPart plan) files
  pub root_file : File
  pub root_there : file_at files plan.root ≡ Some root_file

-- another plan, of the same files
pub stage_as : (plan now : Plan) (files : List File) → now.root ≡ plan.root → ((handle : ℕ) (file : File) → file_at files handle ≡ Some file → HasPart plan handle file → HasPart now handle file)
    → IsStage plan files → IsStage now files
stage_as plan now files root part stage = record {
  rise = stage.rise;
  each = λ handle file is. part handle file is (stage.each handle file is);
  root_file = stage.root_file;
  root_there = ap (file_at files) root ∙ stage.root_there;
}

-- a file changed
pub stage_changed : (plan now : Plan) (files : List File) (at : ℕ) (change : File → File) → ((file : File) → (change file).handle ≡ file.handle) → now.root ≡ plan.root
    → ((file : File) → file_at files at ≡ Some file → HasPart plan at file → HasPart now at (change file))
    → ((handle : ℕ) (file : File) → at ≢ handle → file_at files handle ≡ Some file → HasPart plan handle file → HasPart now handle file)
    → IsStage plan files → IsStage now (with_changed files at change)
stage_changed plan now files at change keeps root here other stage = by (same_or at plan.root)
  where
    each : Every (HasPart now) (with_changed files at change)
    each = every_changed (HasPart now) files at change keeps
        (λ file is. here file is (stage.each at file is))
        (λ handle file apart is. other handle file apart is (stage.each handle file is))

    by : SameOr at plan.root → IsStage now (with_changed files at change)
    by (inl same) = record {
      rise = rise_changed files at change keeps stage.rise;
      each = each;
      root_file = change stage.root_file;
      root_there = ap (file_at (with_changed files at change)) (root ∙ sym same.1) ∙ changed_here files at change stage.root_file keeps (ap (file_at files) same.1 ∙ stage.root_there);
    }
    by (inr apart) = record {
      rise = rise_changed files at change keeps stage.rise;
      each = each;
      root_file = stage.root_file;
      root_there = ap (file_at (with_changed files at change)) root ∙ changed_other files at change plan.root keeps apart.1 ∙ stage.root_there;
    }

-- a file taken out, which isn't the root
pub stage_without : (plan now : Plan) (files : List File) (at : ℕ) → at ≢ plan.root → now.root ≡ plan.root
    → ((handle : ℕ) (file : File) → at ≢ handle → file_at files handle ≡ Some file → HasPart plan handle file → HasPart now handle file)
    → IsStage plan files → IsStage now (without_file files at)
stage_without plan now files at apart root other stage = record {
  rise = rise_without files at stage.rise;
  each = every_without (HasPart now) files at (λ handle file away is. other handle file away is (stage.each handle file is));
  root_file = stage.root_file;
  root_there = ap (file_at (without_file files at)) root ∙ without_other files at plan.root apart ∙ stage.root_there;
}

-- a file put in
pub stage_with : (plan now : Plan) (files : List File) (new : File) → new.handle ≢ plan.root → now.root ≡ plan.root → HasPart now new.handle new
    → ((handle : ℕ) (file : File) → new.handle ≢ handle → file_at files handle ≡ Some file → HasPart plan handle file → HasPart now handle file)
    → IsStage plan files → IsStage now (with_file files new)
stage_with plan now files new apart root part other stage = record {
  rise = rise_with files new stage.rise;
  each = every_with (HasPart now) files new part (λ handle file away is. other handle file away is (stage.each handle file is));
  root_file = stage.root_file;
  root_there = ap (file_at (with_file files new)) root ∙ with_other files new plan.root apart ∙ stage.root_there;
}
