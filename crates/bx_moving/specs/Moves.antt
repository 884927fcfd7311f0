-- A move of a file between directories, which may be made: what it rests on, what it leaves, and what it asks for.
use Rattle.std.specs.Prelude.{◌≡◌, ◌≢◌, ℕ, ◌<◌, ◌⊎◌, true, false, List, [], Option, Some, None}
use Rattle.bx_base.specs.declared.names.Mode.{Mode}
use Rattle.bx_entries.specs.Finding.{IsOwnBlock}
use Rattle.bx_entries.specs.Unlinking.{without_name_of}
use Rattle.bx_model.specs.Edits.{changed}
use Rattle.bx_model.specs.Opening.{root_handle}
use Rattle.bx_model.specs.Removing.{has_entries}
use Rattle.bx_model.specs.declared.tree.Tree.{Tree}
use Rattle.bx_moving.specs.declared.moves.Moving.{Moving}
use Rattle.bx_moving.specs.declared.moves.Replaced.{Replaced}
use Rattle.bx_records.specs.Drafts.{Changed}
use Rattle.bx_tree_files.specs.declared.file.Body.TheVariants.{Names}
use Rattle.bx_tree_files.specs.declared.file.File.{File}
use Rattle.bx_tree_files.specs.declared.file.Name.{Name}
use Rattle.bx_tree_files.specs.Changes.{entered, moved_to, taken_out}
use Rattle.bx_tree_files.specs.Entries.{entry_named}
use Rattle.bx_tree_files.specs.Files.{IsNumbered, file_at, is_directory}
use Rattle.bx_tree_files.specs.Times.{Time}
use Rattle.bx_views.specs.Truths.{Truth, Held, Hints}
use Rattle.bx_moving.specs.Edits.{HasRoomFor, IsEdited, OnComing, OnLeaving, OnLosing, Rests}

-- a directory of a tree, with its entries
pub record IsPlace (tree : Tree) (handle : ℕ) : Type 0 where
  pub file : File
  pub there : file_at tree.files handle ≡ Some file
  pub handle_is : file.handle ≡ handle
  pub kind : file.kind ≡ 2
  pub parent : ℕ
  pub next : ℕ
  pub names : List Name
  pub body : file.body ≡ Names parent next names

-- A file whose name another one takes: an entry of the name names it; it has no entries where it is a directory, and is none of the files that
-- take part besides, nor the root.
pub record IsReplaced (tree : Tree) (moving : Moving) (names : List Name) (name : List ℕ) (replaced : Replaced) : Type 0 where
  pub file : File
  pub there : file_at tree.files replaced.handle ≡ Some file
  pub handle_is : file.handle ≡ replaced.handle
  pub found : entry_named names name ≡ Some (record { number = replaced.number; name = name; handle = replaced.handle })
  pub sort : replaced.is_directory ≡ is_directory file
  pub empty : is_directory file ≡ true → has_entries file ≡ false
  pub not_root : replaced.handle ≢ root_handle
  pub not_source : replaced.handle ≢ moving.source
  pub not_target : replaced.handle ≢ moving.target
  pub not_moved : replaced.handle ≢ moving.handle

-- the name is another file's, or nobody's
abbrev pub IsOther : Tree → Moving → List Name → List ℕ → Option Replaced → Type 0
IsOther tree moving names name None = entry_named names name ≡ None
IsOther tree moving names name (Some replaced) = IsReplaced tree moving names name replaced

-- that file
abbrev pub other_of : (tree : Tree) (moving : Moving) (names : List Name) (name : List ℕ) (replaced : Option Replaced) → IsOther tree moving names name replaced → Option File
other_of tree moving names name None is = None
other_of tree moving names name (Some replaced) is = Some is.file

-- A truth that agrees with a view stands for a tree, in which a file may move from one directory to another, or within one, under a new name, for
-- which the tree of the directory that it comes into has room.
pub record IsMoving (areas : ℕ) (held : Held) (hints : Hints) (truth : Truth) (tree : Tree) (moving : Moving) (name new_name : List ℕ) (replaced : Option Replaced) : Type 0 where
  pub rests : Rests areas held hints truth [] tree
  pub source : IsPlace tree moving.source
  pub found : entry_named source.names name ≡ Some (record { number = moving.number; name = name; handle = moving.handle })
  pub target : IsPlace tree moving.target
  pub numbered : IsNumbered target.file.nlink target.file.body
  pub left : target.next < 4294967295
  pub rooms : HasRoomFor areas held truth [] moving.target new_name
  pub moved : File
  pub moved_there : file_at tree.files moving.handle ≡ Some moved
  pub moved_is : moved.handle ≡ moving.handle
  pub not_source : moving.handle ≢ moving.source
  pub not_target : moving.handle ≢ moving.target
  pub other : IsOther tree moving target.names new_name replaced
  pub names : moving.source ≡ moving.target → new_name ≢ name

-- ---- the trees between

-- the name is nobody's
abbrev pub cleared : Time → Tree → ℕ → List ℕ → Option Replaced → Tree
cleared now tree target name None = tree
cleared now tree target name (Some replaced) = changed tree target (taken_out now name replaced.is_directory)

-- the file has the name in the directory that it comes into
abbrev pub brought : Time → Tree → Moving → List ℕ → Option Replaced → Tree
brought now tree moving name replaced = changed (cleared now tree moving.target name replaced) moving.target (entered now name moving.handle moving.counts)

-- it has left the other one
abbrev pub sent : Time → Tree → Moving → List ℕ → List ℕ → Option Replaced → Tree
sent now tree moving name new_name replaced =
    changed (changed (brought now tree moving new_name replaced) moving.source (taken_out now name moving.counts)) moving.handle (moved_to now moving.target)

-- the file that had the name, before it loses it
pub record Dies (tree : Tree) (replaced : Replaced) : Type 0 where
  pub file : File
  pub there : file_at tree.files replaced.handle ≡ Some file
  pub empty : is_directory file ≡ true → has_entries file ≡ false
  pub not_root : replaced.handle ≢ root_handle

abbrev pub IsDying : Tree → Option Replaced → Type 0
IsDying tree None = Unit {0}
IsDying tree (Some replaced) = Dies tree replaced

-- the tree once it has lost it
abbrev pub ended : Time → (tree : Tree) (replaced : Option Replaced) → IsDying tree replaced → Tree
ended now tree None is = tree
ended now tree (Some replaced) is = without_name_of now tree replaced.handle is.file

-- ---- the path

-- what is on a path over a draft that edits made
pub record OnEdited (held : Held) (hints : Hints) (areas : ℕ) (Path : List Changed → ℕ → Mode → Type 0) (at : ℕ) (mode : Mode) : Type 0 where
  pub draft : List Changed
  pub edited : IsEdited held hints areas draft
  pub on : Path draft at mode

-- of the name that is cleared, and of the file that loses it
abbrev pub OnClearingName : Held → Hints → ℕ → ℕ → List ℕ → Option Replaced → List Changed → ℕ → Mode → Type 0
OnClearingName held hints areas target name None draft at mode = ⊥
OnClearingName held hints areas target name (Some replaced) draft at mode = OnLeaving held hints areas draft target replaced.number name at mode

abbrev pub OnDying : Held → Hints → ℕ → Option Replaced → List Changed → ℕ → Mode → Type 0
OnDying held hints areas None draft at mode = ⊥
OnDying held hints areas (Some replaced) draft at mode = OnLosing held hints areas draft replaced.handle at mode

-- of the file that comes in, under its new name
abbrev pub OnBringing : Held → Hints → ℕ → Moving → List ℕ → Option Replaced → List Changed → ℕ → Mode → Type 0
OnBringing held hints areas moving name replaced draft at mode =
    OnClearingName held hints areas moving.target name replaced draft at mode ⊎ OnComing held hints areas draft moving.target name moving.handle at mode

-- of its old name, of itself, and of the file that had the new one
abbrev pub OnSending : Held → Hints → ℕ → Moving → List ℕ → Option Replaced → List Changed → ℕ → Mode → Type 0
OnSending held hints areas moving name replaced draft at mode =
    OnLeaving held hints areas draft moving.source moving.number name at mode ⊎ (IsOwnBlock moving.handle at mode ⊎ OnDying held hints areas replaced draft at mode)

-- The path of a move: of each step, over what the steps before changed.
abbrev pub OnMoving : Held → Hints → ℕ → Moving → List ℕ → List ℕ → Option Replaced → ℕ → Mode → Type 0
OnMoving held hints areas moving name new_name replaced at mode =
    OnEdited held hints areas (OnBringing held hints areas moving new_name replaced) at mode ⊎ OnEdited held hints areas (OnSending held hints areas moving name replaced) at mode
