-- Calls that make a file: what they ask for, where the file comes, and what is answered.
use Rattle.std.specs.Prelude.{◌≡◌, ℕ, true, List, MatchOption, Option, None, Some, Ok}
use Rattle.bx_model.specs.declared.call.Call.{Call}
use Rattle.bx_model.specs.declared.reply.Reply.{Reply}
use Rattle.bx_model.specs.declared.tree.Tree.{Tree}
use Rattle.bx_model.specs.Edits.{is_unused}
use Rattle.bx_model.specs.Making.{new_place}
use Rattle.bx_model.specs.Steps.{Making, taken, ◌>>=◌}
use Rattle.bx_model.specs.Steps.Step.{Makes}
use Rattle.bx_tree_files.specs.declared.file.File.{File}
use Rattle.bx_tree_files.specs.declared.sattr.Sattr.{Sattr}
use Rattle.bx_tree_files.specs.FileEdits.{CanEnter}
use Rattle.bx_tree_files.specs.Files.{file_at}
use Rattle.bx_tree_files.specs.Times.{Time}
use Rattle.bx_tree_making.specs.declared.creating.Ask.{Ask}

-- what a procedure of the model comes to for what is asked
abbrev pub asked : (Tree → Call → List ℕ → List ℕ → Sattr → Time → ℕ → Making) → Tree → Call → Ask → Making
asked procedure tree call ask = procedure tree call ask.at.now ask.name.now ask.sattr.now ask.time ask.spare

-- An answer and the next tree are those that come of a call; there is no answer exactly where none comes, and the tree stays then.
abbrev pub Answers : Tree → Tree → Option (Reply × Tree) → Option Reply → Type 0
Answers old new outcome answer = MatchOption answer ((outcome ≡ None) × (new ≡ old)) (λ reply. outcome ≡ Some (reply, new))

-- the handle of a directory that a new file may come into, under the handle that it gets
pub record IsPlace (tree : Tree) (call : Call) (ask : Ask) (parent : ℕ) : Type 0 where
  pub directory : File
  pub place : new_place tree call ask.at.now ask.name.now ask.spare ≡ Ok directory
  pub handle : directory.handle ≡ parent
  pub there : file_at tree.files parent ≡ Some directory
  pub can : CanEnter ask.name.now directory
  pub unused : is_unused tree ask.made ≡ true

-- what is answered where no new file may come in so, whatever file that is
abbrev pub IsRefused : Tree → Call → Ask → Option Reply → Type 0
IsRefused tree call ask answer = (files : File → ℕ → Reply × Tree)
    → Answers tree tree (taken tree ask.made (new_place tree call ask.at.now ask.name.now ask.spare >>= λ directory. Ok (Makes (files directory)))) answer
