-- What the blocks of a volume stand for, once all is found.
use Rattle.std.proofs.Common.{◌≡◌, ℕ, ◌+◌, ◌*◌, ◌<◌, ◌≤◌, ◌^◌, ◌%◌, ◌/◌, arith, Bool, true, false, List, sym, ap, ◌∙◌, subst, refl, Option, Some, None}
use Rattle.std.specs.Prelude.{◌↔◌, ◌≢◌, ◌&&◌, ◌==◌, if◌then◌else◌, Contains}
use Rattle.std.proofs.lemmas.Bool.Decides.{nat_tests}
use Rattle.bx_audit_owners.specs.declared.holders.Holder.{Holder}
use Rattle.bx_audit_owners.specs.declared.holders.Holder.TheVariants.{File as OfFile, Dead as OfDead, Page as OfPage, Piece as OfPiece}
use Rattle.bx_audit_slots.specs.declared.slots.UsedSlot.{UsedSlot}
use Rattle.bx_audit_bodies.specs.Reading.{IsStored}
use Rattle.bx_audit_owners.specs.Dead.{IsNoDead, Held, Live, Taken, Unread}
use Rattle.bx_audit_owners.specs.Found.{IsInode, IsFound, AreAllRead, AreOrdered, HaveFiles}
use Rattle.bx_audit_owners.specs.Holding.{Holdings, IsHeld, owner_of}
use Rattle.bx_audit_slots.specs.Told.{IsTold}
use Rattle.bx_audit_slots.specs.UsedSlots.{IsUsedSlot, AreUsed, IsFreeMarked}
use Rattle.bx_audit_owners.specs.Walks.{HaveTree, IsTreeOf, IsWalked}
use Rattle.bx_audit_slots.proofs.InUse.{in_block, small}
use Rattle.bx_audit_slots.proofs.Numbers.{slot_of}
use Rattle.bx_audit_owners.proofs.Steps.{clash_has_none}
use Rattle.bx_audit_owners.proofs.Walking.{live_has_no_dead, other_has_no_dead}
use Rattle.bx_audit_owners.proofs.Owners.{owner_in, owns_itself, found_owner, found_stored, no_file, stored_here, only_here, agrees, unowned}
use Rattle.bx_audit_pages.specs.Shown.{IsOfSlot, NamesBlock, Shows}
use Rattle.bx_homes.specs.Slots.{AreBlocks}
use Rattle.bx_layout.specs.declared.block.Block.{Block}
use Rattle.bx_layout.specs.Areas.{in_use, generation_in}
use Rattle.bx_model.specs.declared.tree.Tree.{Tree}
use Rattle.bx_model.specs.FileTrees.{IsFileTree}
use Rattle.bx_model.specs.Opening.{root_handle}
use Rattle.bx_tree_files.specs.declared.file.File.{File}
use Rattle.bx_tree_files.specs.Files.{file_at}
use Rattle.bx_tree_laws.proofs.Rises.{contains_at}
use Rattle.bx_truth.specs.Chunks.{IsSlot, is_slot, block_at, handle_of, chunks_of, word_at, dead_at}
use Rattle.bx_truth.specs.PageTrees.{Chunks}
use Rattle.bx_truth.specs.Stands.{AreFiles, IsOwned, MarksTheDead, StandsFor, WasGiven}
use Rattle.bx_truth.specs.Stored.{Owner, Inodes, PageOf, DataOf, Stored, HasInode, IsFileOr}
use Rattle.bx_truth.proofs.Cases.{eq_true}
use Rattle.bx_truth.proofs.Made.{chunk_given}
use Rattle.bx_truth.proofs.PieceKeys.{chunk_fits}
use Rattle.bx_truth.proofs.Put.{is_live, some_there}
use Rattle.bx_truth.proofs.Same.{chunk_is, slot_block}
use Rattle.bx_views.specs.Truths.{Truth}

some_same : {X : Type 0} (x y : X) → Some x ≡ Some y → x ≡ y
some_same x y e = cc

none_some : {X : Type 0} (o : Option X) (x : X) → o ≡ None → o ≡ Some x → ⊥
none_some o x none some = absurd cc

file_or : (o : Option File) → o ≢ None → (f : File) × (o ≡ Some f)
file_or None is = absurd (is refl)
file_or (Some f) is = (f, refl)

-- an inode with a file isn't dead
not_dead : (chunks : Chunks) (owner : ℕ → Owner) (handle : ℕ) (stored : Stored) (file : Option File) → file ≢ None → IsFileOr chunks owner handle stored file → stored.inode.kind ≡ 0 → ⊥
not_dead chunks owner handle stored None some is zero = some refl
not_dead chunks owner handle stored (Some f) some is zero = is_live chunks owner handle stored f.body is.2 zero

is_dead : (chunks : Chunks) (owner : ℕ → Owner) (handle : ℕ) (stored : Stored) (file : Option File) → file ≡ None → IsFileOr chunks owner handle stored file → stored.inode.kind ≡ 0
is_dead chunks owner handle stored None none is = is.kind
is_dead chunks owner handle stored (Some f) none is = absurd cc

-- ---- slots in use, and chunks

module _ (areas : ℕ) (truth : Truth) (few : areas ≤ 64) where
  all_true : (t u e : Bool) (b : Block) → t ≡ true → u ≡ true → e ≡ true → (if (t && (u && e)) then Some b else None) ≡ Some b
  all_true true true true b is_t is_u is_e = refl
  all_true true true false b is_t is_u is_e = absurd cc
  all_true true false e b is_t is_u is_e = absurd cc
  all_true false u e b is_t is_u is_e = absurd cc

  slot_true : (block : ℕ) → IsSlot areas block → is_slot areas block ≡ true
  slot_true block is = by is.area is.slot
    where
      by : block / 1024 < areas → block % 1024 < 960 → is_slot areas block ≡ true
      by area slot = grind (arith, nat_tests, area, slot)

  module _ (block : ℕ) (slot : UsedSlot) (is : IsUsedSlot areas truth block slot) where
    -- the handle of a slot names its block
    pub names_block : chunks_of areas truth slot.handle ≡ Some (truth block)
    names_block =
        subst (λ (n : ℕ). (if (is_slot areas n && (in_use (word_at truth n) && (slot.handle == handle_of n (generation_in (word_at truth n))))) then Some (truth n) else None) ≡ Some (truth block)) (sym (in_block areas truth few block slot is))
        (all_true (is_slot areas block) (in_use (word_at truth block)) (slot.handle == handle_of block (generation_in (word_at truth block))) (truth block) (slot_true block is.there) is.used
        (eq_true slot.handle (handle_of block (generation_in (word_at truth block))) is.handle_is))

    -- so does each handle in use of the block
    pub one_handle_of : (handle : ℕ) (b : Block) → chunks_of areas truth handle ≡ Some b → block_at handle ≡ block → handle ≡ slot.handle
    one_handle_of handle b chunk at = (chunk_is areas truth handle b chunk).is_handle ∙ ap (λ (n : ℕ). handle_of n (generation_in (word_at truth n))) at ∙ sym is.handle_is

  -- a chunk's slot is among those in use
  pub slot_for : (slots : List UsedSlot) → AreUsed areas truth slots → (handle : ℕ) (b : Block) → chunks_of areas truth handle ≡ Some b
      → (slot : UsedSlot) × Contains slots slot × IsUsedSlot areas truth (block_at handle) slot × (slot.handle ≡ handle)
  slot_for slots are handle b chunk =
      let c = chunk_is areas truth handle b chunk in
      let s = are.all (block_at handle) c.slot c.used in
      (s.0, s.1, s.2, s.2.handle_is ∙ sym c.is_handle)

  -- each slot in use names a chunk
  pub all_named : (slots : List UsedSlot) → AreUsed areas truth slots → (slot : UsedSlot) → Contains slots slot → chunks_of areas truth slot.handle ≢ None
  all_named slots are slot there none =
      let s = are.each slot there in
      none_some (chunks_of areas truth slot.handle) (truth s.0) none (names_block s.0 slot s.1)

  -- the handle of a slot's block is of that slot
  pub of_slot : (handle : ℕ) → IsSlot areas (block_at handle) → handle ≡ handle_of (block_at handle) (generation_in (word_at truth (block_at handle))) → IsOfSlot areas handle
  of_slot handle is same = by (block_at handle / 1024) (block_at handle % 1024) (generation_in (word_at truth (block_at handle))) is.area is.slot (small (word_at truth (block_at handle))) same
    where
      by : (area slot generation : ℕ) → area < areas → slot < 960 → generation < 2 ^ 32 → handle ≡ area * 2 ^ 48 + slot * 2 ^ 32 + generation → IsOfSlot areas handle
      by area slot generation is_area is_slot fits e = (omega (arith, is_area, is_slot, fits, e), omega (arith, is_area, is_slot, fits, e))

  -- where slots are right, a block is the chunk of the handle in its header
  pub named_chunk : (is_told : Type 0) (stands : ℕ → Block → Type 0) → IsTold is_told areas stands truth → ((at : ℕ) (x y : Block) → is_told → stands at x → stands at y → x ≡ y)
      → (handle : ℕ) (block : Block) → NamesBlock areas stands handle block → chunks_of areas truth handle ≡ Some block
  named_chunk is_told stands told one handle block names =
      let at_slot = slot_of areas handle names.slot in
      let same = one (block_at handle) (truth (block_at handle)) block told.told (told.blocks (block_at handle) (slot_block areas (block_at handle) at_slot)) names.there in
      by at_slot (ap (λ (b : Block). b.handle) same ∙ names.header) (in_use (word_at truth (block_at handle))) refl ∙ ap Some same
    where
      by : IsSlot areas (block_at handle) → (truth (block_at handle)).handle ≡ handle → (t : Bool) → in_use (word_at truth (block_at handle)) ≡ t → chunks_of areas truth handle ≡ Some (truth (block_at handle))
      by at_slot header true used =
          all_true (is_slot areas (block_at handle)) (in_use (word_at truth (block_at handle))) (handle == handle_of (block_at handle) (generation_in (word_at truth (block_at handle)))) (truth (block_at handle))
          (slot_true (block_at handle) at_slot) used
          (eq_true handle (handle_of (block_at handle) (generation_in (word_at truth (block_at handle)))) (sym header ∙ told.chunked.used (block_at handle) at_slot used))
      by at_slot header false unused = absurd (names.some (sym header ∙ told.chunked.unused (block_at handle) at_slot unused))

  -- where slots are right, and the root is in use, chunks are those by the headers of blocks
  pub shows_at : (is_told : Type 0) (stands : ℕ → Block → Type 0) (b : Block) → IsTold is_told areas stands truth → ((at : ℕ) (x y : Block) → is_told → stands at x → stands at y → x ≡ y)
      → chunks_of areas truth root_handle ≡ Some b → Shows is_told areas stands (chunks_of areas truth)
  shows_at is_told stands b told one root = record { told = told.told; each = each; all = named_chunk is_told stands told one; none = zero }
    where
      zero : chunks_of areas truth 0 ≡ None
      zero = by (chunks_of areas truth 0) refl
        where
          by : (o : Option Block) → chunks_of areas truth 0 ≡ o → chunks_of areas truth 0 ≡ None
          by None none = none
          by (Some x) some =
              let e : 0 ≡ 1 = (chunk_is areas truth 0 x some).is_handle ∙ sym (chunk_is areas truth root_handle b root).is_handle in
              absurd (omega (arith, e))

      each : (handle : ℕ) (block : Block) → chunks_of areas truth handle ≡ Some block → NamesBlock areas stands handle block
      each handle block some =
          let c = chunk_is areas truth handle block some in
          record {
            slot = of_slot handle c.slot c.is_handle;
            some = λ is_zero. none_some (chunks_of areas truth 0) block zero (ap (chunks_of areas truth) (sym is_zero) ∙ some);
            there = subst (stands (block_at handle)) c.is_block (told.blocks (block_at handle) (slot_block areas (block_at handle) c.slot));
            header = ap (λ (b : Block). b.handle) (sym c.is_block) ∙ told.chunked.used (block_at handle) c.slot c.used ∙ sym c.is_handle;
          }

  -- the root of what is found is in use
  pub root_chunk : (chunks : Chunks) (holdings : Holdings) (files : List File) → IsWalked chunks holdings files → (b : Block) × (chunks root_handle ≡ Some b)
  root_chunk chunks holdings files walked =
      let f = file_or (file_at files root_handle) walked.root in
      let s = found_stored chunks holdings files walked.found root_handle (subst IsInode (sym (walked.found.is_file root_handle f.0 f.1)) tt) in
      (s.block, s.chunk)

  -- so chunks are those by the headers of blocks, where the walk found what it met
  pub walked_shows : (is_told : Type 0) (stands : ℕ → Block → Type 0) (holdings : Holdings) (files : List File) → IsTold is_told areas stands truth → ((at : ℕ) (x y : Block) → is_told → stands at x → stands at y → x ≡ y)
      → IsWalked (chunks_of areas truth) holdings files → Shows is_told areas stands (chunks_of areas truth)
  walked_shows is_told stands holdings files told one walked =
      let root = root_chunk (chunks_of areas truth) holdings files walked in
      shows_at is_told stands root.0 told one root.1

-- ---- where files stand

module _ (areas : ℕ) (truth : Truth) (few : areas ≤ 64) (tree : Tree) (stands : StandsFor areas truth tree) (is_tree : IsFileTree tree) where
  -- their chunks are theirs
  pub have_files : HaveFiles (chunks_of areas truth) stands.owner stands.stored tree.files
  have_files = record { are = stands.are_files; is_file = λ handle file there. is_tree.is_file file (contains_at tree.files handle file there) }

  -- and the chunks are those of a file tree
  pub have_tree : HaveTree (chunks_of areas truth) tree
  have_tree = record { owner = stands.owner; stored = stands.stored; have = have_files; is = is_tree; root_is = stands.root_is }

  -- no free slot is marked
  pub none_marked : (block found wanted : ℕ) → IsFreeMarked areas truth block found wanted → ⊥
  none_marked block found wanted free =
      let m = stands.marks.marked block free.there free.marked in
      let b = some_there (chunks_of areas truth m.0) m.2 in
      let c = chunk_is areas truth m.0 b.0 b.1 in
      let e : true ≡ false = sym c.used ∙ ap (λ (n : ℕ). in_use (word_at truth n)) m.1 ∙ free.unused in
      absurd cc

  root_file : (f : File) × (file_at tree.files root_handle ≡ Some f)
  root_file = file_or (file_at tree.files root_handle) stands.has_root

  root_block : (b : Block) × (chunks_of areas truth root_handle ≡ Some b)
  root_block = some_there (chunks_of areas truth root_handle) (stands.are_files.all root_handle root_file.0 root_file.1).1

  -- so chunks are those by the headers of blocks
  pub tree_shows : (is_told : Type 0) (at_stand : ℕ → Block → Type 0) → is_told → AreBlocks areas at_stand truth → ((at : ℕ) (a b : Block) → is_told → at_stand at a → at_stand at b → a ≡ b)
      → Shows is_told areas at_stand (chunks_of areas truth)
  tree_shows is_told at_stand told are one = shows_at areas truth few is_told at_stand root_block.0 record { told = told; blocks = are; chunked = stands.chunked } one root_block.1

  -- what is marked is a dead inode
  dead_stored : (block : ℕ) (slot : UsedSlot) → IsUsedSlot areas truth block slot → slot.dead ≡ true → IsStored (chunks_of areas truth) stands.owner slot.handle (stands.stored slot.handle) None
  dead_stored block slot is marked =
      let chunks = chunks_of areas truth in
      let m = stands.marks.marked block is.there (sym is.dead_is ∙ marked) in
      let b = some_there (chunks m.0) m.2 in
      let s = stored_here chunks stands.owner stands.stored tree.files have_files m.0 b.0 b.1 m.3 in
      let same = one_handle_of areas truth few block slot is m.0 b.0 b.1 m.1 in
      subst (λ (n : ℕ). IsStored chunks stands.owner n (stands.stored n) None) same
      (subst (IsStored chunks stands.owner m.0 (stands.stored m.0)) (no_file_at m.0 (file_at tree.files m.0) s.file m.4) s)
    where
      no_file_at : (handle : ℕ) (o : Option File) → IsFileOr (chunks_of areas truth) stands.owner handle (stands.stored handle) o → (stands.stored handle).inode.kind ≡ 0 → o ≡ None
      no_file_at handle None file zero = refl
      no_file_at handle (Some f) file zero = absurd (not_dead (chunks_of areas truth) stands.owner handle (stands.stored handle) (Some f) (λ e. none_some None f refl (sym e)) file zero)

  pub no_dead_not : (holdings : Holdings) (files : List File) (block : ℕ) (slot : UsedSlot) (wanted : ℕ) → IsFound (chunks_of areas truth) holdings files → IsUsedSlot areas truth block slot → slot.dead ≡ true
      → IsNoDead (chunks_of areas truth) holdings slot.handle wanted → ⊥
  no_dead_not holdings files block slot wanted found is marked (Held other there apart same) =
      other_has_no_dead (chunks_of areas truth) holdings files found slot.handle other there apart stands.owner (stands.stored slot.handle) (dead_stored block slot is marked)
  no_dead_not holdings files block slot wanted found is marked (Live file claims read same) =
      live_has_no_dead (chunks_of areas truth) slot.handle (Some file) claims refl read stands.owner (stands.stored slot.handle) (dead_stored block slot is marked)
  no_dead_not holdings files block slot wanted found is marked (Unread unread) = unread.none stands.owner (stands.stored slot.handle) (dead_stored block slot is marked)
  no_dead_not holdings files block slot wanted found is marked (Taken taken) =
      let s = dead_stored block slot is marked in
      clash_has_none (chunks_of areas truth) holdings files slot.handle taken.claims found None s.block taken.read s.chunk s.inode.kind taken.clash stands.owner stands.stored tree.files have_files

  -- all inodes are found, once the files of the tree and those of the marked slots are
  pub all_read_by : (slots : List UsedSlot) (before now : Holdings) (files : List File) → AreUsed areas truth slots → IsFound (chunks_of areas truth) before files → tree.files ≡ files
      → ((at : ℕ) (held : Holder) → before at ≡ Some held → now at ≡ Some held) → ((slot : UsedSlot) → Contains slots slot → slot.dead ≡ true → now slot.handle ≡ Some OfDead) → AreAllRead (chunks_of areas truth) now
  all_read_by slots before now files used found same still marked handle block chunk kind none = by (file_at tree.files handle) refl
    where
      own : stands.owner handle ≡ Inodes
      own = owns_itself (chunks_of areas truth) stands.owner stands.stored tree.files have_files handle block chunk kind

      by : (o : Option File) → file_at tree.files handle ≡ o → ⊥
      by (Some f) is = none_some (now handle) OfFile none (still handle OfFile (found.is_file handle f (ap (λ (l : List File). file_at l handle) (sym same) ∙ is)))
      by None is =
          let s = slot_for areas truth few slots used handle block chunk in
          let here = stored_here (chunks_of areas truth) stands.owner stands.stored tree.files have_files handle block chunk own in
          let dead = stands.marks.dead handle block chunk own (is_dead (chunks_of areas truth) stands.owner handle (stands.stored handle) (file_at tree.files handle) is here.file) in
          none_some (now s.0.handle) OfDead (ap now s.3 ∙ none) (marked s.0 s.1 (s.2.dead_is ∙ dead))

  module _ (holdings : Holdings) (found_files : List File) (found : IsFound (chunks_of areas truth) holdings found_files) where
    -- a slot that has a holder is marked where it is a dead inode
    module _ (block : ℕ) (slot : UsedSlot) (is : IsUsedSlot areas truth block slot) where
      chunk : chunks_of areas truth slot.handle ≡ Some (truth block)
      chunk = names_block areas truth few block slot is

      of_files : (x : Holder) → holdings slot.handle ≡ Some x → stands.owner slot.handle ≡ owner_of x
      of_files x there = agrees (chunks_of areas truth) stands.owner stands.stored tree.files have_files holdings found_files found slot.handle x there

      same_file : IsInode (holdings slot.handle) → file_at tree.files slot.handle ≡ file_at found_files slot.handle
      same_file here = (only_here (chunks_of areas truth) stands.owner stands.stored tree.files have_files holdings found_files found slot.handle here).same_file

      is_file_or : stands.owner slot.handle ≡ Inodes → IsFileOr (chunks_of areas truth) stands.owner slot.handle (stands.stored slot.handle) (file_at tree.files slot.handle)
      is_file_or own = (stored_here (chunks_of areas truth) stands.owner stands.stored tree.files have_files slot.handle (truth block) chunk own).file

      -- a marked slot is a dead inode's
      dead_inode : slot.dead ≡ true → (stands.owner slot.handle ≡ Inodes) × ((stands.stored slot.handle).inode.kind ≡ 0)
      dead_inode marked =
          let m = stands.marks.marked block is.there (sym is.dead_is ∙ marked) in
          let b = some_there (chunks_of areas truth m.0) m.2 in
          let same : m.0 ≡ slot.handle = one_handle_of areas truth few block slot is m.0 b.0 b.1 m.1 in
          (ap stands.owner (sym same) ∙ m.3, ap (λ (n : ℕ). (stands.stored n).inode.kind) (sym same) ∙ m.4)

      to : (x : Holder) → holdings slot.handle ≡ Some x → slot.dead ≡ true → x ≡ OfDead
      to OfDead there marked = refl
      to OfFile there marked =
          let d = dead_inode marked in
          let some = found.has_file slot.handle there in
          absurd (not_dead (chunks_of areas truth) stands.owner slot.handle (stands.stored slot.handle) (file_at tree.files slot.handle)
          (λ none. some (sym (same_file (subst IsInode (sym there) tt)) ∙ none)) (is_file_or d.0) d.1)
      to (OfPage inode) there marked = let e : PageOf inode ≡ Inodes = sym (of_files (OfPage inode) there) ∙ (dead_inode marked).0 in absurd cc
      to (OfPiece inode index) there marked = let e : DataOf inode index ≡ Inodes = sym (of_files (OfPiece inode index) there) ∙ (dead_inode marked).0 in absurd cc

      from : (x : Holder) → holdings slot.handle ≡ Some x → x ≡ OfDead → slot.dead ≡ true
      from x there dead =
          let held_dead : holdings slot.handle ≡ Some OfDead = there ∙ ap Some dead in
          let own = of_files OfDead held_dead in
          let none = same_file (subst IsInode (sym held_dead) tt) ∙ no_file (chunks_of areas truth) holdings found_files found slot.handle held_dead in
          is.dead_is ∙ ap (dead_at truth) (sym (in_block areas truth few block slot is))
          ∙ stands.marks.dead slot.handle (truth block) chunk own (is_dead (chunks_of areas truth) stands.owner slot.handle (stands.stored slot.handle) (file_at tree.files slot.handle) none (is_file_or own))

      pub mark_of : (x : Holder) → holdings slot.handle ≡ Some x → (slot.dead ≡ true) ↔ (x ≡ OfDead)
      mark_of x there = (to x there, from x there)

    -- each slot in use has a holder, and is marked where it is a dead inode
    pub held : AreAllRead (chunks_of areas truth) holdings → (block : ℕ) (slot : UsedSlot) → IsUsedSlot areas truth block slot → IsHeld holdings slot
    held all_read block slot is = by (holdings slot.handle) refl
      where
        by : (o : Option Holder) → holdings slot.handle ≡ o → IsHeld holdings slot
        by None none = absurd (unowned (chunks_of areas truth) stands.owner stands.stored tree.files have_files holdings found_files found all_read
            (λ handle b some. chunk_fits areas truth handle b few some) slot.handle (truth block) (names_block areas truth few block slot is) none)
        by (Some x) there = record { holder = x; there = there; marked = mark_of block slot is x there }

-- ---- what is found stands

module _ (areas : ℕ) (truth : Truth) (few : areas ≤ 64) (slots : List UsedSlot) (used : AreUsed areas truth slots) (holdings : Holdings) (files : List File)
    (found : IsFound (chunks_of areas truth) holdings files) (all_held : (slot : UsedSlot) → Contains slots slot → IsHeld holdings slot) where
  abbrev chunks : Chunks
  chunks = chunks_of areas truth

  abbrev owner : ℕ → Owner
  owner = found_owner holdings

  abbrev stored : ℕ → Stored
  stored handle = (found.readings handle).stored

  -- each chunk's slot is held
  held_at : (handle : ℕ) (b : Block) → chunks handle ≡ Some b → (x : Holder) × (holdings handle ≡ Some x)
  held_at handle b chunk =
      let s = slot_for areas truth few slots used handle b chunk in
      let h = all_held s.0 s.1 in
      (h.holder, ap holdings (sym s.3) ∙ h.there)

  one_block : (handle : ℕ) (a b : Block) → chunks handle ≡ Some a → chunks handle ≡ Some b → a ≡ b
  one_block handle a b is other = some_same a b (sym is ∙ other)

  an_inode : (handle : ℕ) (b : Block) → chunks handle ≡ Some b → IsInode (holdings handle) → IsOwned chunks owner stored files handle b Inodes
  an_inode handle b chunk is =
      let s = found_stored chunks holdings files found handle is in
      record { inode = subst (HasInode (stored handle).inode) (one_block handle s.block b s.chunk chunk) s.inode; file = s.file }

  owns : (handle : ℕ) → IsInode (holdings handle) → owner handle ≡ Inodes
  owns handle is = by (holdings handle) refl is
    where
      by : (o : Option Holder) → holdings handle ≡ o → IsInode o → owner handle ≡ Inodes
      by None e here = absurd here
      by (Some OfFile) e here = ap owner_in e
      by (Some OfDead) e here = ap owner_in e
      by (Some (OfPage inode)) e here = absurd here
      by (Some (OfPiece inode index)) e here = absurd here

  owned : (handle : ℕ) (b : Block) → chunks handle ≡ Some b → (x : Holder) → holdings handle ≡ Some x → IsOwned chunks owner stored files handle b (owner_of x)
  owned handle b chunk OfFile held = an_inode handle b chunk (subst IsInode (sym held) tt)
  owned handle b chunk OfDead held = an_inode handle b chunk (subst IsInode (sym held) tt)
  owned handle b chunk (OfPage inode) held =
      let c = found.claimed handle inode None held in
      let claim = (found.inodes inode c.0).are_claims.each (record { handle = handle; piece = None }) c.1 in
      let s = found_stored chunks holdings files found inode c.0 in
      record {
        kind = ap (λ (x : Block). x.kind) (one_block handle b claim.block chunk claim.chunk) ∙ claim.kind;
        of = record { block = s.block; chunk = s.chunk; itself = owns inode c.0; has_tree = claim.has_tree };
        node = claim.named.node;
        there = claim.named.there;
        names = claim.named.names;
      }
  owned handle b chunk (OfPiece inode index) held =
      let c = found.claimed handle inode (Some index) held in
      let claim = (found.inodes inode c.0).are_claims.each (record { handle = handle; piece = Some index }) c.1 in
      let s = found_stored chunks holdings files found inode c.0 in
      record {
        kind = ap (λ (x : Block). x.kind) (one_block handle b claim.block chunk claim.chunk) ∙ claim.kind;
        of = record { block = s.block; chunk = s.chunk; itself = owns inode c.0; has_tree = claim.has_tree };
        names = claim.named.names;
      }

  are_files : AreFiles chunks owner stored files
  are_files = record {
    each = λ handle b chunk.
        let x = held_at handle b chunk in
        subst (IsOwned chunks owner stored files handle b) (sym (ap owner_in x.1)) (owned handle b chunk x.0 x.1);
    all = λ handle file there.
        let here = subst IsInode (sym (found.is_file handle file there)) tt in
        let s = found_stored chunks holdings files found handle here in
        (owns handle here, λ none. none_some (chunks handle) s.block none s.chunk);
  }

  marks : MarksTheDead areas truth owner stored
  marks = record {
    dead = λ handle b chunk own zero.
        let s = slot_for areas truth few slots used handle b chunk in
        let h = all_held s.0 s.1 in
        let there : holdings handle ≡ Some h.holder = ap holdings (sym s.3) ∙ h.there in
        sym s.2.dead_is ∙ h.marked.1 (dead_holder handle h.holder there own zero);
    marked = λ block is marked. by block is marked (in_use (word_at truth block)) refl;
  }
    where
      dead_holder : (handle : ℕ) (x : Holder) → holdings handle ≡ Some x → owner handle ≡ Inodes → (stored handle).inode.kind ≡ 0 → x ≡ OfDead
      dead_holder handle OfDead there own zero = refl
      dead_holder handle OfFile there own zero =
          absurd (not_dead chunks owner handle (stored handle) (file_at files handle) (found.has_file handle there) (found_stored chunks holdings files found handle (subst IsInode (sym there) tt)).file zero)
      dead_holder handle (OfPage inode) there own zero = let e : PageOf inode ≡ Inodes = sym (ap owner_in there) ∙ own in absurd cc
      dead_holder handle (OfPiece inode index) there own zero = let e : DataOf inode index ≡ Inodes = sym (ap owner_in there) ∙ own in absurd cc

      by : (block : ℕ) → IsSlot areas block → dead_at truth block ≡ true → (t : Bool) → in_use (word_at truth block) ≡ t
          → (handle : ℕ) × (block_at handle ≡ block) × (chunks handle ≢ None) × (owner handle ≡ Inodes) × ((stored handle).inode.kind ≡ 0)
      by block is marked false unused = let e : true ≡ false = sym marked ∙ used.unmarked block is unused in absurd cc
      by block is marked true used_here =
          let s = used.all block is used_here in
          let h = all_held s.0 s.1 in
          let there : holdings s.0.handle ≡ Some OfDead = h.there ∙ ap Some (h.marked.0 (s.2.dead_is ∙ marked)) in
          let here = subst IsInode (sym there) tt in
          let st = found_stored chunks holdings files found s.0.handle here in (
            s.0.handle,
            in_block areas truth few block s.0 s.2,
            λ none. none_some (chunks s.0.handle) st.block none st.chunk,
            owns s.0.handle here,
            is_dead chunks owner s.0.handle (stored s.0.handle) (file_at files s.0.handle) (no_file chunks holdings files found s.0.handle there) st.file,
          )

  given_of : (given : List ℕ) → AreOrdered files given → (handle : ℕ) → Contains given handle → WasGiven areas truth handle
  given_of given ordered handle there =
      let f = file_or (file_at files handle) (ordered.given_is handle there) in
      let here = subst IsInode (sym (found.is_file handle f.0 f.1)) tt in
      let s = found_stored chunks holdings files found handle here in
      chunk_given areas truth handle s.block s.chunk

pub stands : (areas : ℕ) (truth : Truth) (few : areas ≤ 64) (slots : List UsedSlot) (used : AreUsed areas truth slots) (holdings : Holdings) (tree : Tree) (found : IsFound (chunks_of areas truth) holdings tree.files)
    → ((slot : UsedSlot) → Contains slots slot → IsHeld holdings slot) → (volume : ℕ) (is_told : Type 0) (standing : ℕ → Block → Type 0) → IsTold is_told areas standing truth → IsTreeOf areas volume tree
    → file_at tree.files root_handle ≢ None → StandsFor areas truth tree
stands areas truth few slots used holdings tree found all_held volume is_told standing told of has_root = record {
  chunked = told.chunked;
  owner = found_owner holdings;
  stored = λ handle. (found.readings handle).stored;
  are_files = are_files areas truth few slots used holdings tree.files found all_held;
  marks = marks areas truth few slots used holdings tree.files found all_held;
  areas_are = of.areas_are;
  root_is = of.root_is;
  has_root = has_root;
  in_order = of.ordered.rise;
  given = given_of areas truth few slots used holdings tree.files found all_held tree.given of.ordered;
}
