-- What is done of a move that may be made, in the order of the code.
use Rattle.std.specs.Prelude.{if◌then◌else◌, Option, Some, None}
use Rattle.bx_model.specs.declared.tree.Tree.{Tree}
use Rattle.bx_model.specs.Edits.{changed, without}
use Rattle.bx_model.specs.Removing.{without_link}
use Rattle.bx_tree_files.specs.declared.file.File.{File}
use Rattle.bx_tree_files.specs.Changes.{entered, taken_out, moved_to}
use Rattle.bx_tree_files.specs.FileEdits.{CanEnter, CanReplace, replaced}
use Rattle.bx_tree_files.specs.Files.{is_directory}
use Rattle.bx_tree_files.specs.Times.{Time}
use Rattle.bx_tree_moves.specs.declared.renaming.Displaced.{Displaced}
use Rattle.bx_tree_moves.specs.declared.renaming.Move.{Move}

-- what a move needs of the file whose name is taken
abbrev pub displaced_of : Option File → Option Displaced
displaced_of None = None
displaced_of (Some file) = Some (record { handle = file.handle; nlink = file.nlink; is_directory = is_directory file })

-- the directories that the file may come into
abbrev pub CanMoveIn : Move → Option Displaced → File → Type 0
CanMoveIn move None directory = CanEnter move.new_name.now directory
CanMoveIn move (Some displaced) directory = CanReplace directory

-- the directory that the file comes into, with its new entry
abbrev pub with_moved_in : Move → Option Displaced → File → File
with_moved_in move None directory = entered move.time move.new_name.now move.handle move.counts directory
with_moved_in move (Some displaced) directory = replaced move.time move.new_name.now move.handle displaced.is_directory move.counts directory

-- the tree without a file that another one took the name of
abbrev pub without_displaced : Time → Tree → Option Displaced → Tree
without_displaced now tree None = tree
without_displaced now tree (Some displaced) =
    if displaced.is_directory then without tree displaced.handle else without_link now tree displaced.handle displaced.nlink

-- the tree after a move: the new entry comes first
abbrev pub after_move : Tree → Move → Tree
after_move tree move =
    let come : Tree = changed tree move.target (with_moved_in move move.displaced) in
    let left : Tree = without_displaced move.time come move.displaced in
    let gone : Tree = changed left move.source (taken_out move.time move.name.now move.counts) in
    changed gone move.handle (moved_to move.time move.target)

-- the same where there is a move to make
abbrev pub after_moves : Tree → Option Move → Tree
after_moves tree None = tree
after_moves tree (Some move) = after_move tree move
