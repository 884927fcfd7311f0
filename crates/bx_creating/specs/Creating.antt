-- CREATE of a name that isn't there.
use Rattle.std.specs.Prelude.{◌≡◌, ℕ, ◌==◌, ◌&&◌, nat_lt, false, if◌then◌else◌, List, Option, Some, None}
use Rattle.bx_entries.specs.Finding.{IsDirectoryOf}
use Rattle.bx_layout.specs.declared.inode.Inode.{Inode}
use Rattle.bx_model.specs.declared.call.Call.{Call}
use Rattle.bx_model.specs.declared.permissions.Want.TheVariants as want
use Rattle.bx_model.specs.declared.tree.Tree.{Tree}
use Rattle.bx_model.specs.Permissions.{may}
use Rattle.bx_tree_files.specs.Changes.{most_bytes}
use Rattle.bx_tree_files.specs.Entries.{entry_named, is_bad}
use Rattle.bx_tree_files.specs.Names.{names_of}
use Rattle.bx_tree_files.specs.Times.{is_given}
use Rattle.bx_tree_files.specs.declared.file.File.{File}
use Rattle.bx_tree_files.specs.declared.sattr.Sattr.{Sattr}
use Rattle.bx_views.specs.Truths.{Held, Hints, Truth}

-- the error of making a regular file in a directory with a next number, before the one of want of blocks: 13 is ACCES, 27 FBIG, 69 DQUOT
abbrev pub making_error : Call → Sattr → ℕ → File → Option ℕ
making_error call sattr next directory =
    if may call directory want.Change then (if is_given sattr.size && nat_lt most_bytes sattr.size then Some 27 else if next == 4294967295 then Some 69 else None) else Some 13

-- a directory of a file tree, by its inode, in which no entry has a name that isn't bad
pub record IsWithout (volume areas : ℕ) (held : Held) (hints : Hints) (truth : Truth) (tree : Tree) (handle : ℕ) (inode : Inode) (name : List ℕ) : Type 0 where
  pub directory : IsDirectoryOf volume areas held hints truth tree handle inode
  pub good : is_bad name ≡ false
  pub absent : entry_named (names_of directory.at.file.body) name ≡ None
