-- What the walk from the root meets, and what is wrong with it.
use Rattle.std.specs.Prelude.{◌≡◌, ◌≢◌, ◌⊎◌, ◌++◌, ℕ, List, Contains, map, Some, None}
use Rattle.bx_audit_bodies.specs.declared.claims.Claim.{Claim}
use Rattle.bx_audit_bodies.specs.Faults.{HasFault}
use Rattle.bx_audit_bodies.specs.Parts.{IsPartOf}
use Rattle.bx_audit_bodies.specs.Reading.{IsReadAs, IsStored}
use Rattle.bx_audit_owners.specs.declared.holders.Holder.TheVariants.{File as OfFile, Dead as OfDead}
use Rattle.bx_audit_owners.specs.declared.walks.Walked.{Walked}
use Rattle.bx_audit_owners.specs.Found.{AreOrdered, HaveFiles, IsFound}
use Rattle.bx_audit_owners.specs.Holding.{Clashes, Holdings, holdings_of}
use Rattle.bx_audit_pages.specs.Shown.{Shows}
use Rattle.bx_layout.specs.declared.block.Block.{Block}
use Rattle.bx_model.specs.declared.tree.Tree.{Tree}
use Rattle.bx_model.specs.FileTrees.{IsFileTree}
use Rattle.bx_model.specs.Opening.{root_handle}
use Rattle.bx_tree_files.specs.declared.file.File.{File}
use Rattle.bx_tree_files.specs.declared.file.Name.{Name}
use Rattle.bx_tree_files.specs.Files.{file_at, with_file}
use Rattle.bx_tree_files.specs.Names.{names_of}
use Rattle.bx_truth.specs.PageTrees.{Chunks}
use Rattle.bx_truth.specs.Stored.{Owner, Stored}

-- the handle names the inode of this file
pub record IsFileAt (chunks : Chunks) (handle : ℕ) (file : File) : Type 0 where
  pub claims : List Claim
  pub is : IsReadAs chunks handle (Some file) claims
  pub handle_is : file.handle ≡ handle

-- What the walk from the root meets: the root, and what an entry names of a directory that it meets.
pub data IsMet (chunks : Chunks) : ℕ → Type 0 where
  Root : IsMet chunks root_handle
  Named : (directory : ℕ) (file : File) (entry : Name) → IsMet chunks directory → IsFileAt chunks directory file → Contains (names_of file.body) entry → IsMet chunks entry.handle

-- the chunks are those of a file tree
pub record HaveTree (chunks : Chunks) (tree : Tree) : Type 0 where
  pub owner : ℕ → Owner
  pub stored : ℕ → Stored
  pub have : HaveFiles chunks owner stored tree.files
  pub is : IsFileTree tree
  pub root_is : tree.root ≡ root_handle

-- they are those of none
abbrev pub HaveNoTree : Chunks → Type 0
HaveNoTree chunks = (tree : Tree) → HaveTree chunks tree → ⊥

-- where a file should be a dead inode is: its handle is wanted
pub record IsDeadMet (chunks : Chunks) (handle wanted : ℕ) : Type 0 where
  pub claims : List Claim
  pub read : IsReadAs chunks handle None claims
  pub wanted_is : wanted ≡ handle

-- No file is stored where the walk meets one, whoever may have which chunks; and what is wanted is a chunk that is met there and that is wrong.
pub record IsUnread (chunks : Chunks) (wanted : ℕ) : Type 0 where
  pub handle : ℕ
  pub met : IsMet chunks handle
  pub none : (owner : ℕ → Owner) (stored : Stored) (file : File) → IsStored chunks owner handle stored (Some file) → ⊥
  pub part : IsPartOf chunks handle wanted
  pub fault : HasFault chunks handle wanted ⊎ IsDeadMet chunks handle wanted

-- The walk meets a file with a chunk that another owner has, of those that were found before, or as another part of this file.
pub record IsTaken (chunks : Chunks) (wanted : ℕ) : Type 0 where
  pub handle : ℕ
  pub met : IsMet chunks handle
  pub file : File
  pub claims : List Claim
  pub read : IsReadAs chunks handle (Some file) claims
  pub holdings : Holdings
  pub files : List File
  pub found : IsFound chunks holdings files
  pub clash : Clashes holdings handle OfFile claims
  pub wanted_is : wanted ≡ clash.claim.handle

-- A file claims a chunk that has another holder, of those that were found before, or as another part of this file: that is wanted.
pub record IsTakenFile (chunks : Chunks) (holdings : Holdings) (handle wanted : ℕ) : Type 0 where
  pub file : File
  pub claims : List Claim
  pub read : IsReadAs chunks handle (Some file) claims
  pub clash : Clashes holdings handle OfFile claims
  pub wanted_is : wanted ≡ clash.claim.handle

-- something that the walk meets is wrong
abbrev pub IsWrongMet : Chunks → ℕ → Type 0
IsWrongMet chunks wanted = IsUnread chunks wanted ⊎ IsTaken chunks wanted

-- All that the walk meets is as it should be: the root is there, and what entries of files name; all these files are met, and chunks have
-- no other holders.
pub record IsWalked (chunks : Chunks) (holdings : Holdings) (files : List File) : Type 0 where
  pub found : IsFound chunks holdings files
  pub root : file_at files root_handle ≢ None
  pub closed : (handle : ℕ) (file : File) (entry : Name) → file_at files handle ≡ Some file → Contains (names_of file.body) entry → file_at files entry.handle ≢ None
  pub met : (handle : ℕ) (file : File) → file_at files handle ≡ Some file → IsMet chunks handle
  pub live : (handle : ℕ) → holdings handle ≡ Some OfDead → ⊥

-- A tree of a volume, whose root is that of every volume: its files are in order, the entries of each directory are apart, and the handles
-- given out are those of the files.
pub record IsTreeOf (areas volume : ℕ) (tree : Tree) : Type 0 where
  pub volume_is : tree.volume ≡ volume
  pub areas_are : tree.areas ≡ areas
  pub root_is : tree.root ≡ root_handle
  pub ordered : AreOrdered tree.files tree.given

-- all that the walk meets is as it should be by any chunks that are shown
abbrev pub IsWalkedOn : Type 0 → ℕ → (ℕ → Block → Type 0) → Walked → Type 0
IsWalkedOn is_told areas stands walked = (chunks : Chunks) → Shows is_told areas stands chunks → IsWalked chunks (holdings_of walked.holders) walked.tree.files

-- one step of the walk: the file under a handle was met before; or it is put beside the others, and what its entries name is to be met
pub data Meets (Is : File → Type 0) (before : Holdings) (files : List File) (met : List ℕ) (handle : ℕ) (now : Holdings) (files_now : List File) (met_now : List ℕ) : Type 0 where
  Again : before handle ≡ Some OfFile → now ≡ before → files_now ≡ files → met_now ≡ met → Meets Is before files met handle now files_now met_now
  New : (file : File) → Is file → files_now ≡ with_file files file → met_now ≡ met ++ map (λ entry. entry.handle) (names_of file.body) → now handle ≡ Some OfFile
      → ((at : ℕ) → before at ≡ Some OfFile → now at ≡ Some OfFile) → ((at : ℕ) → now at ≡ Some OfDead → before at ≡ Some OfDead) → Meets Is before files met handle now files_now met_now
