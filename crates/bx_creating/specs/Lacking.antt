-- What CREATE has written first, and where nothing is wanted: room for the entry, or bytes of the file that has the name to be cleared.
use Rattle.std.specs.Prelude.{◌≡◌, ℕ, ◌⊎◌, true, List, Option, None, Some}
use Rattle.bx_entries.specs.Lacking.{FindsBoth, MakesEither}
pub use Rattle.bx_entries.specs.Lacking.{IfFirst, MakesPlace, NoSlotsNear, ReadyToEnter}
use Rattle.bx_model.specs.declared.tree.Tree.{Tree}
use Rattle.bx_model.specs.Reading.{named_file}
use Rattle.bx_records.specs.Drafts.{Changed}
use Rattle.bx_sizes.specs.Cuts.{ClearsFirst, ReadyToGrow}
use Rattle.bx_tree_files.specs.declared.file.File.{File}
use Rattle.bx_tree_files.specs.declared.file.Name.{Name}
use Rattle.bx_tree_files.specs.Entries.{entry_named}
use Rattle.bx_tree_files.specs.Names.{names_of}
use Rattle.bx_tree_files.specs.Times.{is_given}
use Rattle.bx_views.specs.Truths.{Truth, Held, Hints}
use Rattle.bx_creating.specs.Searching.{Names}

-- ---- what is written first

-- a size is given, and a draft clears bytes over which it would grow the file with a handle
pub record ClearsGiven (areas : ℕ) (truth : Truth) (handle size : ℕ) (new : List Changed) : Type 0 where
  pub given : is_given size ≡ true
  pub clears : ClearsFirst areas truth handle size new

-- the same of the file that an entry of a name names
pub record ClearsNamed (areas : ℕ) (truth : Truth) (names : List Name) (name : List ℕ) (size : ℕ) (new : List Changed) : Type 0 where
  pub handle : ℕ
  pub found : Names names name handle
  pub clears : ClearsGiven areas truth handle size new

-- that entry is in the directory that a file handle names
pub record ClearsEntry (areas : ℕ) (truth : Truth) (tree : Tree) (bytes name : List ℕ) (size : ℕ) (new : List Changed) : Type 0 where
  pub directory : File
  pub is_named : named_file tree bytes ≡ Some directory
  pub clears : ClearsNamed areas truth (names_of directory.body) name size new

-- no entry of that directory has the name, and the draft makes room for one
pub record MakesNewPlace (volume areas : ℕ) (held : Held) (hints : Hints) (truth : Truth) (tree : Tree) (bytes name : List ℕ) (new : List Changed) : Type 0 where
  pub directory : File
  pub is_named : named_file tree bytes ≡ Some directory
  pub absent : entry_named (names_of directory.body) name ≡ None
  pub place : MakesPlace volume areas held hints truth bytes name new

-- What CREATE has written first: what makes room for the name's new entry, or clears bytes of the file that has the name.
abbrev pub PreparesCreate : ℕ → ℕ → Held → Hints → Truth → Tree → List ℕ → List ℕ → ℕ → List Changed → Type 0
PreparesCreate volume areas held hints truth tree bytes name size new = MakesNewPlace volume areas held hints truth tree bytes name new ⊎ ClearsEntry areas truth tree bytes name size new

-- The same from the directory on, by its inode's tree and its next number, and by its entries.
abbrev pub PreparesFromDirectory : ℕ → Held → Hints → Truth → ℕ → ℕ → List Name → List ℕ → ℕ → List Changed → Type 0
PreparesFromDirectory areas held hints truth root number names name size new =
    ((entry_named names name ≡ None) × MakesEither areas held hints truth root name number new) ⊎ ClearsNamed areas truth names name size new

-- ---- where nothing is wanted

-- the file with a handle may get the size that is given, if one is
abbrev pub ReadyToResize : ℕ → Truth → ℕ → ℕ → Type 0
ReadyToResize areas truth handle size = is_given size ≡ true → ReadyToGrow areas truth handle size

-- By the entry that has the name, if there is one: the file that it names may get the size, or the directory that a file handle names has room for the new entry.
abbrev pub ReadyByEntry : ℕ → ℕ → Truth → List ℕ → List ℕ → ℕ → Option Name → Type 0
ReadyByEntry volume areas truth bytes name size None = ReadyToEnter volume areas truth bytes name
ReadyByEntry volume areas truth bytes name size (Some entry) = ReadyToResize areas truth entry.handle size

-- So it is of the directory that the file handle names.
abbrev pub ReadyToCreate : ℕ → ℕ → Truth → Tree → List ℕ → List ℕ → ℕ → Type 0
ReadyToCreate volume areas truth tree bytes name size =
    (directory : File) → named_file tree bytes ≡ Some directory → ReadyByEntry volume areas truth bytes name size (entry_named (names_of directory.body) name)

-- The same from the directory on, by its inode's tree and its next number, and by its entry of the name.
abbrev pub ReadyFromDirectory : ℕ → Truth → ℕ → ℕ → List ℕ → ℕ → Option Name → Type 0
ReadyFromDirectory areas truth root number name size None = FindsBoth areas truth root name number
ReadyFromDirectory areas truth root number name size (Some entry) = ReadyToResize areas truth entry.handle size
