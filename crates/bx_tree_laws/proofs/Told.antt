-- The attributes that a file handle then has.
use Rattle.std.proofs.Common.{◌≡◌, ℕ, ◌<◌, ◌^◌, List, Some, refl, sym, ap, ◌∙◌}
use Rattle.std.specs.Prelude.{option_and_then, Ok}
use Rattle.std.proofs.lemmas.Option.{option_and_then_some}
use Rattle.bx_places.specs.Handles.{file_text, named}
use Rattle.bx_places.proofs.FileTexts.{text_names}
use Rattle.bx_model.specs.bx_tree_files.specs.declared.file.File.{File}
use Rattle.bx_model.specs.declared.reply.Reply.TheVariants as reply
use Rattle.bx_model.specs.declared.tree.Tree.{Tree}
use Rattle.bx_model.specs.bx_tree_files.specs.Attributes.{attributes_of}
use Rattle.bx_model.specs.bx_tree_files.specs.Files.{with_changed, file_at}
use Rattle.bx_model.specs.Edits.{changed}
use Rattle.bx_model.specs.Reading.{getattr, named_file}
use Rattle.bx_tree_laws.proofs.Lookups.{changed_here, handle_at}

-- the tree has these attributes for a file handle
abbrev pub Has : Tree → List ℕ → List ℕ → Type 0
Has tree at words = getattr tree at ≡ Ok (reply.Attributes words, tree)

pub has_found : (tree : Tree) (at : List ℕ) (file : File) → named_file tree at ≡ Some file → Has tree at (attributes_of tree.volume file)
has_found tree at file found = rw found refl

pub found_changed : (tree : Tree) (at : List ℕ) (file : File) (change : File → File) → ((f : File) → (change f).handle ≡ f.handle) → named_file tree at ≡ Some file
    → named_file (changed tree file.handle change) at ≡ Some (change file)
found_changed tree at file change keeps found = option_and_then_some (file_at tree.files) (named tree.volume at) file found
    (λ handle names is.
    let own = handle_at tree.files handle file is in
    ap (option_and_then (file_at (with_changed tree.files file.handle change))) names
    ∙ ap (file_at (with_changed tree.files file.handle change)) (sym own)
    ∙ changed_here tree.files file.handle change file keeps (ap (file_at tree.files) own ∙ is))

-- the file handle of a file that is there names it
pub text_found : (tree : Tree) (handle : ℕ) (file : File) → handle < 2 ^ 64 → file_at tree.files handle ≡ Some file → named_file tree (file_text tree.volume handle) ≡ Some file
text_found tree handle file fits is =
    ap (option_and_then (file_at tree.files)) (text_names tree.volume handle (file_text tree.volume handle) fits refl) ∙ is
