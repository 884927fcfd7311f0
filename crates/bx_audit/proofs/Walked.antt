-- The walk from the root over blocks that are read.
use Rattle.std.proofs.Common.{◌≡◌, ℕ, ◌≤◌, List, Some, sym, ap, ◌∙◌, subst, Result, Ok, Err}
use Rattle.std.specs.Prelude.{Contains}
use Rattle.bx_audit.specs.Blocks.{StandForNoTree}
use Rattle.bx_audit.specs.Walked.{AreHeaded, IsWrongSlot, TellsSlot}
use Rattle.bx_audit_owners.specs.declared.walks.Walked.{Walked}
use Rattle.bx_audit_owners.specs.Holding.{holdings_of}
use Rattle.bx_audit_owners.specs.Walks.{IsTreeOf, IsWalkedOn, IsWrongMet}
use Rattle.bx_audit_owners.specs.Words.{IsFirstWrongAt}
use Rattle.bx_model.specs.declared.tree.Tree.{Tree}
use Rattle.bx_model.specs.FileTrees.{IsFileTree}
use Rattle.bx_tree_files.specs.declared.file.File.{File}
use Rattle.bx_tree_files.specs.Files.{file_at}
use Rattle.bx_audit_owners.proofs.MetFiles.{same_files}
use Rattle.bx_audit_owners.proofs.Walking.{wrong_met}
use Rattle.bx_audit_owners.proofs.Wholes.{have_tree, tree_shows}
use Rattle.bx_audit_owners.proofs.Worded.{met_chunk, worded}
use Rattle.bx_audit_pages.specs.declared.error.AuditError.{AuditError as TreeError}
use Rattle.bx_audit_pages.specs.declared.error.AuditError.TheVariants.{Torn as TornTree, Fault as TreeFault, OutOfMemory as OutOfTreeMemory}
use Rattle.bx_audit_pages.specs.Errors.{IfTorn, IfTornError}
use Rattle.bx_audit_pages.specs.Shown.{Shows}
use Rattle.bx_homes.specs.Slots.{StaysSo}
use Rattle.bx_layout.specs.declared.block.Block.{Block}
use Rattle.bx_overlay.specs.declared.error.AuditError.{AuditError}
use Rattle.bx_truth.specs.Chunks.{block_at, chunks_of}
use Rattle.bx_truth.specs.PageTrees.{Chunks}

-- chunks by their headers are shown by what tells
pub shown : (told : Type 0) (areas : ℕ) (stands : ℕ → Block → Type 0) (chunks : Chunks) → told → AreHeaded areas stands chunks → Shows told areas stands chunks
shown told areas stands chunks tells headed = record { told = tells; each = headed.each; all = headed.all; none = headed.none }

-- what was met is so by chunks that are shown, whatever tells, and for blocks that stay
pub still_walked : (told now_told : Type 0) (areas : ℕ) (before now : ℕ → Block → Type 0) (walked : Walked) → told → StaysSo before now → IsWalkedOn told areas before walked → IsWalkedOn now_told areas now walked
still_walked told now_told areas before now walked tells stays is = λ chunks shows. is chunks record {
  told = tells;
  each = λ handle block is.
      let x = shows.each handle block is in record { slot = x.slot; some = x.some; there = (stays (block_at handle) block).1 x.there; header = x.header };
  all = λ handle block is. shows.all handle block record { slot = is.slot; some = is.some; there = (stays (block_at handle) block).0 is.there; header = is.header };
  none = shows.none;
}

pub unit_walked : (told : Type 0) (areas : ℕ) (stands : ℕ → Block → Type 0) (walked : Walked) → IsWalkedOn (Unit {0}) areas stands walked → IsWalkedOn told areas stands walked
unit_walked told areas stands walked is = λ chunks shows. is chunks record { told = tt; each = shows.each; all = shows.all; none = shows.none }

-- where the walk meets what is wrong, no file tree stands
pub none_met : {A : Type 0} (told : Type 0) (areas : ℕ) (stands : ℕ → Block → Type 0) (few : areas ≤ 64) (result : Result A TreeError) → told → ((at : ℕ) (a b : Block) → told → stands at a → stands at b → a ≡ b)
    → ((chunks : Chunks) → Shows told areas stands chunks → IfTorn result (λ at found wanted. IsWrongMet chunks wanted)) → IfTorn result (λ at found wanted. StandForNoTree areas stands)
none_met told areas stands few (Ok value) tells one torn = tt
none_met told areas stands few (Err (TornTree at found wanted)) tells one torn = λ truth are tree stand is.
    wrong_met (chunks_of areas truth) wanted (torn (chunks_of areas truth) (tree_shows areas truth few tree stand is told stands tells are one)) tree (have_tree areas truth few tree stand is)
none_met told areas stands few (Err TreeFault) tells one torn = tt
none_met told areas stands few (Err OutOfTreeMemory) tells one torn = tt

-- nor does one where the slot of a chunk that it met isn't as that asks
pub none_worded : (areas : ℕ) (stands : ℕ → Block → Type 0) (walked : Walked) → areas ≤ 64 → ((at : ℕ) (a b : Block) → stands at a → stands at b → a ≡ b) → IsWalkedOn (Unit {0}) areas stands walked
    → (at found wanted : ℕ) → IsFirstWrongAt areas stands (holdings_of walked.holders) at found wanted → StandForNoTree areas stands
none_worded areas stands walked few one is_walked at found wanted torn = λ truth are tree stand is.
    let chunks = chunks_of areas truth in
    let shows = tree_shows areas truth few tree stand is (Unit {0}) stands tt are (λ at a b told. one at a b) in
    torn.wrong.wrong (worded areas truth few tree stand is (holdings_of walked.holders) walked.tree.files (is_walked chunks shows) stands are torn.handle torn.held)

-- which is told of a chunk that the walk met
pub wrong_slot : (areas : ℕ) (stands : ℕ → Block → Type 0) (walked : Walked) (error : AuditError) → IsWalkedOn (Unit {0}) areas stands walked → TellsSlot areas stands (holdings_of walked.holders) error
    → IsWrongSlot areas stands error
wrong_slot areas stands walked error is_walked tells = record {
  tree = walked.tree;
  met = record { holdings = holdings_of walked.holders; walked = is_walked };
  tells = tells;
  is_met = λ chunks headed. met_chunk chunks (holdings_of walked.holders) walked.tree.files (is_walked chunks headed) tells.torn.handle tells.torn.held;
}

-- a tree with the files and the root of a file tree is one, once their handles were given out
file_tree_of : (a b : Tree) → IsFileTree a → a.files ≡ b.files → a.root ≡ b.root → ((handle : ℕ) (file : File) → file_at b.files handle ≡ Some file → Contains b.given handle) → IsFileTree b
file_tree_of a b is files root given = subst IsFileTree same record {
  rise = is.rise;
  is_file = is.is_file;
  root = is.root;
  entries = is.entries;
  links = is.links;
  named = is.named;
  once = is.once;
  root_unnamed = is.root_unnamed;
  depth = is.depth;
  nearer = is.nearer;
  was_given = λ handle file there. given handle file (ap (λ (l : List File). file_at l handle) (sym files) ∙ there);
}
  where
    same : record { volume = b.volume; areas = b.areas; files = a.files; root = a.root; given = b.given } ≡ b
    same = λ i. record { volume = b.volume; areas = b.areas; files = files i; root = root i; given = b.given }

-- where the files that the walk met are no file tree, none stands
pub none_linked : (areas volume : ℕ) (stands : ℕ → Block → Type 0) (walked : Walked) → areas ≤ 64 → ((at : ℕ) (a b : Block) → stands at a → stands at b → a ≡ b) → IsWalkedOn (Unit {0}) areas stands walked
    → IsTreeOf areas volume walked.tree → (IsFileTree walked.tree → ⊥) → StandForNoTree areas stands
none_linked areas volume stands walked few one is_walked of refuted = λ truth are tree stand is.
    let chunks = chunks_of areas truth in
    let shows = tree_shows areas truth few tree stand is (Unit {0}) stands tt are (λ at a b told. one at a b) in
    let have = have_tree areas truth few tree stand is in
    let same = same_files chunks (holdings_of walked.holders) walked.tree.files (is_walked chunks shows) tree have of.ordered.rise in
    refuted (file_tree_of tree walked.tree is same (stand.root_is ∙ sym of.root_is) of.ordered.all_given)

-- what holds of an error that is a torn block
pub of_torn : (P : ℕ → ℕ → ℕ → Type 0) (error : TreeError) (at found wanted : ℕ) → error ≡ TornTree at found wanted → IfTornError error P → P at found wanted
of_torn P error at found wanted is holds = subst (λ (e : TreeError). IfTornError e P) is holds
