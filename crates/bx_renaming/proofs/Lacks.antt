-- Room is wanted only for a name that isn't the file's already.
use Rattle.std.proofs.Common.{◌≡◌, ℕ, List, Some, None, sym, ap, ◌∙◌}
use Rattle.std.specs.Prelude.{◌≢◌}
use Rattle.bx_linking.proofs.Lacks.{enters}
use Rattle.bx_linking.specs.bx_entries.specs.declared.taking.Known.{Known}
use Rattle.bx_inodes.specs.Inodes.{IsInodeOf}
use Rattle.bx_model.specs.declared.tree.Tree.{Tree}
use Rattle.bx_model.specs.Reading.{named_file}
use Rattle.bx_changes.specs.bx_reads.proofs.Told.{named_as}
use Rattle.bx_records.specs.Drafts.{Changed}
use Rattle.bx_tree_files.specs.declared.file.File.{File}
use Rattle.bx_tree_files.specs.declared.file.Name.{Name}
use Rattle.bx_tree_files.specs.Entries.{entry_named}
use Rattle.bx_tree_files.specs.Names.{names_of}
use Rattle.bx_views.specs.Truths.{Held, Hints, Truth}
use Rattle.bx_renaming.specs.declared.places.Places.{Places}
use Rattle.bx_renaming.specs.Found.{IsMoved}
use Rattle.bx_renaming.specs.Lacking.{AreTwo, MakesRoomFor, PreparesMove, ReadyFor, ReadyToMove}
use Rattle.bx_renaming.specs.Path.{AreHeld}

some_same : (a b : Name) → Some a ≡ Some b → a ≡ b
some_same a b is = cc

some_file : (a b : File) → Some a ≡ Some b → a ≡ b
some_file a b is = cc

-- where nobody has the new name
pub nobody : (names others : List Name) (name new_name : List ℕ) → entry_named others new_name ≡ None → AreTwo names name others new_name
nobody names others name new_name none entry other is there = let both : Some other ≡ None = sym there ∙ none in absurd cc

-- where another file has it
pub another : (areas : ℕ) (truth : Truth) (tree : Tree) (names others : List Name) (name new_name : List ℕ) (number second : ℕ) (moved known : Known) → IsMoved areas truth tree names name number moved
    → IsMoved areas truth tree others new_name second known → known.handle ≢ moved.handle → AreTwo names name others new_name
another areas truth tree names others name new_name number second moved known is had apart entry other first second_is same =
    let one = some_same (record { number = number; name = name; handle = moved.handle }) entry (sym is.found ∙ first) in
    let two = some_same (record { number = second; name = new_name; handle = known.handle }) other (sym had.found ∙ second_is) in
    apart (ap (λ (n : Name). n.handle) two ∙ same ∙ sym (ap (λ (n : Name). n.handle) one))

-- where the file has it itself
pub one_file : (areas : ℕ) (truth : Truth) (tree : Tree) (names others : List Name) (name new_name : List ℕ) (number second : ℕ) (moved known : Known) → IsMoved areas truth tree names name number moved
    → IsMoved areas truth tree others new_name second known → known.handle ≡ moved.handle → AreTwo names name others new_name → ⊥
one_file areas truth tree names others name new_name number second moved known is had same two =
    two (record { number = number; name = name; handle = moved.handle }) (record { number = second; name = new_name; handle = known.handle }) is.found had.found same

-- of the directories that two file handles name
module _ (volume areas : ℕ) (held : Held) (hints : Hints) (truth : Truth) (tree : Tree) (from name to new_name : List ℕ) (places : Places) (same : tree.volume ≡ volume)
    (h : AreHeld held hints volume areas from to places.source.handle places.target.handle places.source.inode places.target.inode) (source : IsInodeOf areas truth tree places.source.handle places.source.inode)
    (target : IsInodeOf areas truth tree places.target.handle places.target.inode) where
  source_is : named_file tree from ≡ Some source.file
  source_is = named_as tree volume from (Some places.source.handle) same (sym h.source_named) ∙ source.there

  target_is : named_file tree to ≡ Some target.file
  target_is = named_as tree volume to (Some places.target.handle) same (sym h.target_named) ∙ target.there

  pub prepares_move : (blocks : List Changed) → MakesRoomFor areas held hints truth places.target.inode.tree places.target.inode.next (names_of source.file.body) name (names_of target.file.body) new_name blocks
      → PreparesMove volume areas held hints truth tree from name to new_name blocks
  prepares_move blocks makes = record {
    source = source.file;
    target = target.file;
    source_is = source_is;
    target_is = target_is;
    two = makes.0;
    place = record { handle = places.target.handle; inode = places.target.inode; is_named = h.target_named; holds = target.holds; makes = makes.1 };
  }

  pub ready_move : ReadyFor areas truth places.target.inode.tree places.target.inode.next (names_of source.file.body) name (names_of target.file.body) new_name → ReadyToMove volume areas truth tree from name to new_name
  ready_move ready one other one_is other_is two =
      let first : one ≡ source.file = some_file one source.file (sym one_is ∙ source_is) in
      let second : other ≡ target.file = some_file other target.file (sym other_is ∙ target_is) in
      enters volume areas truth to new_name places.target.handle places.target.inode (sym h.target_named) target.holds
      (ready (λ entry another found found_too. two entry another (ap (λ (f : File). entry_named (names_of f.body) name) first ∙ found) (ap (λ (f : File). entry_named (names_of f.body) new_name) second ∙ found_too)))

  -- where room is ready for it, the target has it
  pub move_ready : ReadyToMove volume areas truth tree from name to new_name → ReadyFor areas truth places.target.inode.tree places.target.inode.next (names_of source.file.body) name (names_of target.file.body) new_name
  move_ready ready two = ready source.file target.file source_is target_is two places.target.handle places.target.inode h.target_named target.holds
