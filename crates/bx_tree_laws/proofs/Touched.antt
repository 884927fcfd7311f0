-- A file whose content or attributes are changed leaves a file tree.
use Rattle.std.proofs.Common.{◌≡◌, ℕ, ◌≤◌, true, List, refl, sym, ap, ◌∙◌, []}
use Rattle.std.specs.Prelude.{◌≢◌, ◌==◌}
use Rattle.bx_model.specs.bx_tree_files.specs.declared.file.File.{File}
use Rattle.bx_model.specs.declared.tree.Tree.{Tree}
use Rattle.bx_model.specs.bx_tree_files.specs.Files.{with_changed, is_directory}
use Rattle.bx_model.specs.Edits.{changed}
use Rattle.bx_model.specs.FileTrees.{IsFileTree, links_to}
use Rattle.bx_model.specs.bx_tree_files.specs.Names.{names_of}
use Rattle.bx_tree_laws.proofs.Everys.{every_changed}
use Rattle.bx_tree_laws.proofs.Grows.{Follows, grows_changed, grows_same}
use Rattle.bx_tree_laws.proofs.Inside.{inside, inside_kept}
use Rattle.bx_tree_laws.proofs.Links.{links_kept}
use Rattle.bx_tree_laws.proofs.DirectoryParts.{SameParent}
use Rattle.bx_tree_laws.proofs.Plans.{Plan, HasPart, stage_changed}
use Rattle.bx_tree_laws.proofs.Stages.{stage_refers}
use Rattle.bx_tree_laws.proofs.Stays.{stays_changed}
use Rattle.bx_tree_laws.proofs.Whole.{plan_of, stage_of, tree_of}

-- a change that keeps what a file is, what it names, and what is known of it
pub record IsTouch (change : File → File) : Type 0 where
  pub handle : (file : File) → (change file).handle ≡ file.handle
  pub kind : (file : File) → (change file).kind ≡ file.kind
  pub names : (file : File) → names_of (change file).body ≡ names_of file.body
  pub parent : (file : File) → SameParent file.body (change file).body
  pub part : (plan : Plan) (handle : ℕ) (file : File) → HasPart plan handle file → HasPart plan handle (change file)

pub touched_keeps : (tree : Tree) (at : ℕ) (change : File → File) → IsTouch change → IsFileTree tree → IsFileTree (changed tree at change)
touched_keeps tree at change touch was = tree_of (changed tree at change) (links_to tree.files) (inside tree.files) was.depth
    (stage_refers plan now
    (stage_changed plan plan tree.files at change touch.handle refl (λ file is part. touch.part plan at file part) (λ handle file apart is part. part) (stage_of tree was))
    now (λ handle file entry is there. stays_changed tree.files at change entry.handle touch.handle (λ same f f_is. touch.parent f)))
    (λ handle. sym (links_kept tree.files at change handle touch.names))
    (λ handle. sym (inside_kept tree.files at change touch.handle touch.kind touch.names handle))
    (every_changed (λ handle file. handle ≢ tree.root → 1 ≤ links_to tree.files handle) tree.files at change touch.handle
    (λ file is. was.named at file is) (λ handle file apart is. was.named handle file is))
    (every_changed (λ handle file. is_directory file ≡ true → links_to tree.files handle ≤ 1) tree.files at change touch.handle
    (λ file is yes. was.once at file is (ap (λ (n : ℕ). n == 2) (sym (touch.kind file)) ∙ yes)) (λ handle file apart is. was.once handle file is))
    was.root_unnamed
  where
    now : List File
    now = with_changed tree.files at change

    plan : Plan
    plan = plan_of tree (links_to tree.files) (inside tree.files) was.depth

pub touched_follows : (tree : Tree) (at : ℕ) (change : File → File) → IsTouch change → IsFileTree tree → Follows [] tree (changed tree at change)
touched_follows tree at change touch was = record { is = touched_keeps tree at change touch was; grows = grows_changed tree tree at change touch.handle (grows_same tree) }
