-- What RENAME has written first, and where nothing is wanted: room for the new name, where that isn't a name of the file already.
use Rattle.std.specs.Prelude.{◌≡◌, ◌≢◌, ℕ, List, Some}
use Rattle.bx_linking.specs.Lacking.{FindsBoth, MakesEither, MakesPlace, ReadyToEnter}
use Rattle.bx_model.specs.declared.tree.Tree.{Tree}
use Rattle.bx_model.specs.Reading.{named_file}
use Rattle.bx_records.specs.Drafts.{Changed}
use Rattle.bx_tree_files.specs.declared.file.File.{File}
use Rattle.bx_tree_files.specs.declared.file.Name.{Name}
use Rattle.bx_tree_files.specs.Entries.{entry_named}
use Rattle.bx_tree_files.specs.Names.{names_of}
use Rattle.bx_views.specs.Truths.{Truth, Held, Hints}

-- entries of two names, in two lists, name no one file
abbrev pub AreTwo : List Name → List ℕ → List Name → List ℕ → Type 0
AreTwo names name others new_name = (entry other : Name) → entry_named names name ≡ Some entry → entry_named others new_name ≡ Some other → other.handle ≢ entry.handle

-- So it is, and a draft makes room in the page tree of a root for the new name, or for the entry's number.
abbrev pub MakesRoomFor : ℕ → Held → Hints → Truth → ℕ → ℕ → List Name → List ℕ → List Name → List ℕ → List Changed → Type 0
MakesRoomFor areas held hints truth root number names name others new_name new = AreTwo names name others new_name × MakesEither areas held hints truth root new_name number new

-- The same of the directories that two file handles name.
pub record PreparesMove (volume areas : ℕ) (held : Held) (hints : Hints) (truth : Truth) (tree : Tree) (from name to new_name : List ℕ) (new : List Changed) : Type 0 where
  pub source : File
  pub target : File
  pub source_is : named_file tree from ≡ Some source
  pub target_is : named_file tree to ≡ Some target
  pub two : AreTwo (names_of source.body) name (names_of target.body) new_name
  pub place : MakesPlace volume areas held hints truth to new_name new

-- Where entries of the two names name no one file, there is room in the page tree of a root for the new name and for the entry's number.
abbrev pub ReadyFor : ℕ → Truth → ℕ → ℕ → List Name → List ℕ → List Name → List ℕ → Type 0
ReadyFor areas truth root number names name others new_name = AreTwo names name others new_name → FindsBoth areas truth root new_name number

-- The same of the directories that two file handles name.
abbrev pub ReadyToMove : ℕ → ℕ → Truth → Tree → List ℕ → List ℕ → List ℕ → List ℕ → Type 0
ReadyToMove volume areas truth tree from name to new_name =
    (source target : File) → named_file tree from ≡ Some source → named_file tree to ≡ Some target → AreTwo (names_of source.body) name (names_of target.body) new_name
    → ReadyToEnter volume areas truth to new_name
