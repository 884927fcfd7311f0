-- Edits of a tree: a file changed, taken out, or made.
use Rattle.std.specs.Prelude.{ℕ, ◌==◌, Bool, not, ◌&&◌}
use Rattle.std.specs.List.{list_any}
use Rattle.bx_tree_files.specs.declared.file.File.{File}
use Rattle.bx_model.specs.declared.tree.Tree.{Tree}
use Rattle.bx_tree_files.specs.Attributes.{fileid}
use Rattle.bx_tree_files.specs.Files.{with_file, with_changed, without_file}
use Rattle.bx_tree_files.specs.Given.{with_handle, without_handle}

-- the tree, with the file that has the handle changed
abbrev pub changed : Tree → ℕ → (File → File) → Tree
changed tree handle change = record tree { files = with_changed tree.files handle change }

-- the tree without the file that has the handle
abbrev pub without : Tree → ℕ → Tree
without tree handle = record tree { files = without_file tree.files handle }

-- the tree with a new file, whose handle was given out
abbrev pub with_new : Tree → File → Tree
with_new tree file = record tree { files = with_file tree.files file; given = with_handle tree.given file.handle }

-- the tree as if the file had never come
abbrev pub without_new : Tree → ℕ → Tree
without_new tree handle = record tree { files = without_file tree.files handle; given = without_handle tree.given handle }

-- A handle that a file may be made under: it isn't 0, it was never given out, and its fileid is no file's.
abbrev pub is_unused : Tree → ℕ → Bool
is_unused tree made =
    not (made == 0) && not (list_any (λ handle. handle == made) tree.given) && not (list_any (λ file. fileid file.handle == fileid made) tree.files)
