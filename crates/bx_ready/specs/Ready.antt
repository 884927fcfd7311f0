-- What is to be written first before an entry is put under a key: a missing separator, or a full leaf's halves.
use Rattle.std.specs.Prelude.{◌≡◌, ◌≢◌, ℕ, ◌≤◌, ◌⊎◌, List, Option, Some, None, Result, Ok, Err}
use Rattle.bx_base.specs.declared.names.Mode.{Mode}
use Rattle.bx_blink.specs.declared.error.BlinkError.{BlinkError}
use Rattle.bx_blink.specs.declared.error.BlinkError.TheVariants.{Need, Stale, Full, NoRoom, Absent, Present, OutOfMemory, Crowded}
use Rattle.bx_inodes.specs.Fitting.{HintsFitAll}
use Rattle.bx_inodes.specs.Inodes.{HoldsInode}
use Rattle.bx_layout.specs.declared.inode.Inode.{Inode}
use Rattle.bx_model.specs.declared.tree.Tree.{Tree}
use Rattle.bx_records.specs.Drafts.{Changed}
use Rattle.bx_tree_files.specs.declared.file.File.{File}
use Rattle.bx_tree_files.specs.Files.{file_at}
use Rattle.bx_truth.specs.PageTrees.{PageTree}
use Rattle.bx_truth.specs.Stands.{StandsFor}
use Rattle.bx_views.specs.Truths.{Truth, Held, Hints, IsTruth}
use Rattle.bx_ready.specs.Rooms.{LeafHasRoom, OnSplitPath, SplitsLeaf}
use Rattle.bx_ready.specs.Separators.{HasSeparators, OnPostForPath, PostsMissing}
use Rattle.bx_ready.specs.Spare.{TellsFew}

-- an entry under a key finds room in its leaf, below no missing separator
pub record IsReady (tree : PageTree) (key : List ℕ) : Type 0 where
  pub posted : HasSeparators tree key
  pub room : LeafHasRoom tree key

-- a draft splits a full leaf below no missing separator
pub record SplitsReady (areas : ℕ) (held : Held) (hints : Hints) (truth : Truth) (new : List Changed) (root : ℕ) (tree : PageTree) (key : List ℕ) : Type 0 where
  pub posted : HasSeparators tree key
  pub splits : SplitsLeaf areas held hints truth new root tree key

-- What is answered, by the tree: what is to be written first, a missing separator before a full leaf. It is never Stale there, nor Crowded, and where
-- it is Full it tells fewer than 8, and the entry finds no room.
abbrev pub ReadiesIn : ℕ → Held → Hints → Truth → ℕ → PageTree → List ℕ → Result (Option (List Changed)) BlinkError → Type 0
ReadiesIn areas held hints truth root tree key (Ok (Some new)) = PostsMissing areas held hints truth new root tree key ⊎ SplitsReady areas held hints truth new root tree key
ReadiesIn areas held hints truth root tree key (Ok None) = IsReady tree key
ReadiesIn areas held hints truth root tree key (Err (Full spare)) = TellsFew areas truth spare × (IsReady tree key → ⊥)
ReadiesIn areas held hints truth root tree key (Err (Need at mode)) = Unit {0}
ReadiesIn areas held hints truth root tree key (Err Crowded) = ⊥
ReadiesIn areas held hints truth root tree key (Err OutOfMemory) = Unit {0}
ReadiesIn areas held hints truth root tree key (Err Stale) = ⊥
ReadiesIn areas held hints truth root tree key (Err (NoRoom leaf)) = ⊥
ReadiesIn areas held hints truth root tree key (Err Absent) = ⊥
ReadiesIn areas held hints truth root tree key (Err Present) = ⊥

-- A truth that agrees with the view stands for a tree of files, whose page trees all hints fit, and one of its files, which is no link, has
-- this root.
pub record IsFileUnder (areas : ℕ) (held : Held) (hints : Hints) (truth : Truth) (root : ℕ) (tree : Tree) : Type 0 where
  pub few : areas ≤ 64
  pub same : IsTruth held truth
  pub is : StandsFor areas truth tree
  pub fit : HintsFitAll areas hints truth
  pub handle : ℕ
  pub inode : Inode
  pub holds : HoldsInode areas truth handle inode
  pub root_is : inode.tree ≡ root
  pub no_link : inode.kind ≢ 5
  pub file : File
  pub there : file_at tree.files handle ≡ Some file

-- The path, near an area: that of posting, and that of splitting.
abbrev pub OnReadyPath : ℕ → ℕ → Held → Hints → ℕ → List ℕ → ℕ → Mode → Type 0
OnReadyPath near areas held hints root key at mode = OnPostForPath near areas held hints root key at mode ⊎ OnSplitPath near areas held hints root key at mode
