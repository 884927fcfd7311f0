-- Directories that a way from the root leads to.
use Rattle.std.specs.Prelude.{◌≡◌, ◌≢◌, ℕ, ◌<◌, ◌⊎◌, ◌++◌, Bool, true, false, List, Contains}
use Rattle.std.specs.BTreeSet.{BTreeSet, contains}
use Rattle.std.specs.Ordering.{nat_cmp}
use Rattle.bx_model.specs.FileTrees.{is_directory_at}
use Rattle.bx_tree_files.specs.declared.file.File.{File}
use Rattle.bx_tree_files.specs.declared.file.Name.{Name}
use Rattle.bx_tree_laws.specs.Ways.{IsIn, LeadsDown}

abbrev pub has : BTreeSet ℕ → ℕ → Bool
has set handle = contains nat_cmp set handle

-- the set is that of the directories but the root
pub record AreDirectories (files : List File) (root : ℕ) (set : BTreeSet ℕ) : Type 0 where
  pub each : (handle : ℕ) → has set handle ≡ true → (is_directory_at files handle ≡ true) × (handle ≢ root)
  pub all : (handle : ℕ) → is_directory_at files handle ≡ true → handle ≢ root → has set handle ≡ true

-- a file has an entry that names the handle, and is nearer
pub record IsNamedFrom (files : List File) (depth : ℕ → ℕ) (handle : ℕ) : Type 0 where
  pub directory : ℕ
  pub into : IsIn files directory handle
  pub nearer : depth directory < depth handle

-- every directory but the root is named by one that is nearer to it
pub record AreBelow (files : List File) (root : ℕ) : Type 0 where
  pub depth : ℕ → ℕ
  pub each : (handle : ℕ) → is_directory_at files handle ≡ true → handle ≢ root → IsNamedFrom files depth handle

-- a way from the root leads to the handle
abbrev pub IsLedTo : List File → ℕ → ℕ → Type 0
IsLedTo files root handle = (way : List ℕ) × LeadsDown files root way handle

-- The handle is that of a directory to which no way from the root leads, and is the least such handle.
pub record IsFirstLost (files : List File) (root handle : ℕ) : Type 0 where
  pub directory : is_directory_at files handle ≡ true
  pub other : handle ≢ root
  pub lost : IsLedTo files root handle → ⊥
  pub first : (earlier : ℕ) → is_directory_at files earlier ≡ true → earlier ≢ root → earlier < handle → IsLedTo files root earlier

-- an entry of some names a handle
abbrev pub IsNamed : List Name → ℕ → Type 0
IsNamed names handle = (entry : Name) × Contains names entry × (entry.handle ≡ handle)

-- Those that are named, and that weren't reached, are behind those that were.
pub record Reaches (Named : ℕ → Type 0) (before : BTreeSet ℕ) (reached : List ℕ) (now : BTreeSet ℕ) (reached_now : List ℕ) : Type 0 where
  pub more : List ℕ
  pub behind : reached_now ≡ reached ++ more
  pub each : (handle : ℕ) → Contains more handle → Named handle × (has before handle ≡ true) × (has now handle ≡ false)
  pub left : (handle : ℕ) → has now handle ≡ true → has before handle ≡ true
  pub gone : (handle : ℕ) → has before handle ≡ true → (has now handle ≡ true) ⊎ Contains more handle
  pub all : (handle : ℕ) → Named handle → has now handle ≡ false
