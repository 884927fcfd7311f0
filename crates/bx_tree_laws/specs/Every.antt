-- What holds of every file.
use Rattle.std.specs.Prelude.{◌≡◌, ℕ, List, Some}
use Rattle.bx_model.specs.bx_tree_files.specs.declared.file.File.{File}
use Rattle.bx_model.specs.bx_tree_files.specs.Files.{file_at}

-- P holds of each handle that a file has, with the file
abbrev pub Every : (ℕ → File → Type 0) → List File → Type 0
Every P files = (handle : ℕ) (file : File) → file_at files handle ≡ Some file → P handle file
