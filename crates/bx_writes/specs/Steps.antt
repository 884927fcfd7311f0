-- The steps of writing one piece: what is read first, and what it is written on.
use Rattle.std.specs.Prelude.{◌≡◌, ℕ, ◌+◌, ◌*◌, ◌^◌, ◌<◌, ◌≤◌, List, length, Option, None, Some, IsSome, Result, Ok, Err}
use Rattle.bx_base.specs.declared.names.Mode.TheVariants.{Exclusive}
use Rattle.bx_changes.specs.Growing.{IsNearlyFull, LeavesTrees}
use Rattle.bx_changes.specs.declared.error.ChangeError.{ChangeError}
use Rattle.bx_changes.specs.declared.error.ChangeError.TheVariants.{Stopped, Full}
use Rattle.bx_inodes.specs.Fitting.{HintsFitAll}
use Rattle.bx_inodes.specs.declared.stop.Stop.TheVariants.{Need, Inner, Status, OutOfMemory}
use Rattle.bx_inodes.specs.Inodes.{IsInodeOf}
use Rattle.bx_inodes.specs.Stands.{Stands}
use Rattle.bx_layout.specs.declared.block.Block.{Block}
use Rattle.bx_layout.specs.declared.inode.Inode.{Inode}
use Rattle.bx_model.specs.declared.tree.Tree.{Tree}
use Rattle.bx_page.specs.Contents.{value_of}
use Rattle.bx_entries.specs.bx_ready.specs.Ready.{IsReady}
use Rattle.bx_layout.specs.Blocks.{HasParts}
use Rattle.bx_records.specs.Drafts.{Changed, with_block}
use Rattle.bx_tree_files.specs.declared.file.File.{File}
use Rattle.bx_sizes.specs.Steps.{HoldsPiece, LacksPiece, WantsPiece}
use Rattle.bx_truth.specs.Chunks.{IsChunked, block_at, chunks_of}
use Rattle.bx_truth.specs.Keys.{content_key}
use Rattle.bx_truth.specs.PageTrees.{IsTree, PageTree, handle_in, map_of}
use Rattle.bx_views.specs.Truths.{Truth, Held, Hints, IsTruth}
use Rattle.bx_writes.specs.Bytes.{IsPayload}
use Rattle.bx_writes.specs.Written.{IsWritten}

-- a regular file of a file tree, by its inode
pub record IsRegularOf (volume areas : ℕ) (held : Held) (hints : Hints) (truth : Truth) (tree : Tree) (handle : ℕ) (inode : Inode) : Type 0 where
  pub few : areas ≤ 64
  pub same : IsTruth held truth
  pub stands : Stands volume areas truth tree
  pub fit : HintsFitAll areas hints truth
  pub at : IsInodeOf areas truth tree handle inode
  pub kind : inode.kind ≡ 1

-- ---- what is read

-- The piece with an index is there, and its block has this handle; its payload with bytes written over it.
pub record IsFound (areas : ℕ) (truth : Truth) (pages : PageTree) (index place : ℕ) (part : List ℕ) (names : ℕ) (payload : List ℕ) : Type 0 where
  pub value : List ℕ
  pub is : value_of (map_of pages) (content_key index) ≡ Some value
  pub names_is : names ≡ handle_in value
  pub was : Block
  pub there : chunks_of areas truth names ≡ Some was
  pub payload_is : IsPayload (Some was) place part payload

-- It isn't, and its entry finds room below no missing separator; the bytes over zeros.
pub record IsMissing (pages : PageTree) (index place : ℕ) (part payload : List ℕ) : Type 0 where
  pub none : value_of (map_of pages) (content_key index) ≡ None
  pub ready : IsReady pages (content_key index)
  pub payload_is : IsPayload None place part payload

abbrev pub IsPrepared : ℕ → Truth → PageTree → ℕ → ℕ → List ℕ → Option ℕ → List ℕ → Type 0
IsPrepared areas truth pages index place part (Some names) payload = IsFound areas truth pages index place part names payload
IsPrepared areas truth pages index place part None payload = IsMissing pages index place part payload

-- what preparing a piece answers, under the root of the file's tree
abbrev pub PreparesIn : ℕ → Truth → ℕ → ℕ → ℕ → List ℕ → Result (Option ℕ × List ℕ) ChangeError → Type 0
PreparesIn areas truth root index place part (Ok made) = (pages : PageTree) → IsTree (chunks_of areas truth) root pages → IsPrepared areas truth pages index place part made.0 made.1
PreparesIn areas truth root index place part (Err (Stopped (Inner blocks))) = LeavesTrees areas truth blocks
PreparesIn areas truth root index place part (Err (Full spare)) = IsNearlyFull areas truth spare
PreparesIn areas truth root index place part (Err (Stopped (Need at mode))) = Unit {0}
PreparesIn areas truth root index place part (Err (Stopped OutOfMemory)) = Unit {0}
PreparesIn areas truth root index place part (Err (Stopped (Status status))) = ⊥

-- the same where it isn't there
abbrev pub MissesIn : ℕ → Truth → ℕ → ℕ → ℕ → List ℕ → Result (Option ℕ × List ℕ) ChangeError → Type 0
MissesIn areas truth root index place part (Ok made) = ((pages : PageTree) → IsTree (chunks_of areas truth) root pages → IsReady pages (content_key index)) × IsPayload None place part made.1
MissesIn areas truth root index place part (Err (Stopped (Inner blocks))) = LeavesTrees areas truth blocks
MissesIn areas truth root index place part (Err (Full spare)) = IsNearlyFull areas truth spare
MissesIn areas truth root index place part (Err (Stopped (Need at mode))) = Unit {0}
MissesIn areas truth root index place part (Err (Stopped OutOfMemory)) = Unit {0}
MissesIn areas truth root index place part (Err (Stopped (Status status))) = ⊥

-- where it is, by what is held; 70 is STALE
pub record FindsBlock (held : Held) (names place : ℕ) (part : List ℕ) (found : Option ℕ) (payload : List ℕ) : Type 0 where
  pub found_is : found ≡ Some names
  pub block : Block
  pub holds : HoldsPiece held names block
  pub payload_is : IsPayload (Some block) place part payload

abbrev pub FoundAt : ℕ → Held → ℕ → ℕ → List ℕ → Result (Option ℕ × List ℕ) ChangeError → Type 0
FoundAt areas held names place part (Ok made) = FindsBlock held names place part made.0 made.1
FoundAt areas held names place part (Err (Stopped (Need at mode))) = WantsPiece areas held names at × (mode ≡ Exclusive)
FoundAt areas held names place part (Err (Stopped (Status status))) = (status ≡ 70) × LacksPiece areas held names
FoundAt areas held names place part (Err (Stopped (Inner blocks))) = ⊥
FoundAt areas held names place part (Err (Stopped OutOfMemory)) = Unit {0}
FoundAt areas held names place part (Err (Full spare)) = ⊥

-- the block of a piece that is there is held exclusively
abbrev pub HoldsPrepared : Held → Option ℕ → Type 0
HoldsPrepared held (Some names) = IsSome (held (block_at names) Exclusive)
HoldsPrepared held None = Unit {0}

-- ---- what is written

-- A piece that is prepared may be written on a draft that has all pieces behind it.
pub record MayPut (areas : ℕ) (held : Held) (hints : Hints) (truth : Truth) (tree : Tree) (handle : ℕ) (file : File) (pages : PageTree) (inode : Inode) (base : List ℕ) (index place : ℕ) (part rest : List ℕ) (taken : ℕ)
    (draft : List Changed) (names : Option ℕ) (payload : List ℕ) : Type 0 where
  pub few : areas ≤ 64
  pub same : IsTruth held truth
  pub chunked : IsChunked areas truth
  pub fit : HintsFitAll areas hints truth
  pub handle_is : file.handle ≡ handle
  pub small : inode.size < 2 ^ 31
  pub low : inode.size ≤ inode.tail
  pub long : length base ≡ inode.size
  pub short : place + length part ≤ 4096
  pub fits : 4096 * index + place + length part ≤ inode.size
  pub next : ℕ
  pub next_is : next ≡ 4096 * index + place + length part
  pub some_left : taken ≤ 3
  pub written : IsWritten areas held truth tree handle file pages inode base next rest (index + 1) taken draft
  pub prepared : IsPrepared areas truth pages index place part names payload

-- what writing it answers
abbrev pub PutsOn : ℕ → Held → Truth → Tree → ℕ → File → PageTree → Inode → List ℕ → ℕ → List ℕ → ℕ → ℕ → Result (List Changed) ChangeError → Type 0
PutsOn areas held truth tree handle file pages inode base from written first taken (Ok new) = IsWritten areas held truth tree handle file pages inode base from written first taken new
PutsOn areas held truth tree handle file pages inode base from written first taken (Err (Full spare)) = IsNearlyFull areas truth spare
PutsOn areas held truth tree handle file pages inode base from written first taken (Err (Stopped (Inner blocks))) = LeavesTrees areas truth blocks
PutsOn areas held truth tree handle file pages inode base from written first taken (Err (Stopped (Need at mode))) = Unit {0}
PutsOn areas held truth tree handle file pages inode base from written first taken (Err (Stopped OutOfMemory)) = Unit {0}
PutsOn areas held truth tree handle file pages inode base from written first taken (Err (Stopped (Status status))) = ⊥

-- a block of a piece is put under a handle
pub record PutsBlock (old : List Changed) (names : ℕ) (payload : List ℕ) (new : List Changed) : Type 0 where
  pub block : Block
  pub header : block.handle ≡ names
  pub kind : block.kind ≡ 3
  pub payload_is : block.payload ≡ payload
  pub parts : HasParts block
  pub put : new ≡ with_block old (block_at names) block
