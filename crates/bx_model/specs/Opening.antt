-- The tree of a volume that was just made.
use Rattle.std.specs.Prelude.{ℕ, [], ◌∷◌}
use Rattle.bx_tree_files.specs.declared.file.File.{File}
use Rattle.bx_tree_files.specs.declared.file.Body.TheVariants.{Names}
use Rattle.bx_model.specs.declared.tree.Tree.{Tree}

-- area 0, slot 0, generation 1
abbrev pub root_handle : ℕ
root_handle = 1

-- the root: everybody may do everything in it, it is its own parent, and its first entry gets the number 3
abbrev pub opening_root : File
opening_root = record { handle = root_handle; kind = 2; mode = 0o777; nlink = 2; uid = 0; gid = 0; atime = (0, 0); mtime = (0, 0); ctime = (0, 0); body = Names root_handle 3 [] }

abbrev pub opening : ℕ → Tree
opening volume = record { volume = volume; areas = 1; files = opening_root ∷ []; root = root_handle; given = root_handle ∷ [] }
