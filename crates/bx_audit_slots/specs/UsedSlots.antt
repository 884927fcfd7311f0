-- The slots of a volume that are in use, and their marks.
use Rattle.std.specs.Prelude.{◌≡◌, ◌≢◌, ◌⊎◌, ℕ, ◌<◌, true, false, List, AllPairs, Contains}
use Rattle.bx_audit_slots.specs.declared.slots.UsedSlot.{UsedSlot}
use Rattle.bx_layout.specs.Areas.{in_use, generation_in}
use Rattle.bx_truth.specs.Chunks.{IsSlot, block_at, handle_of, word_at, dead_at}
use Rattle.bx_views.specs.Truths.{Truth}

-- the slot of this block is in use, under this handle, and marked so
pub record IsUsedSlot (areas : ℕ) (truth : Truth) (block : ℕ) (slot : UsedSlot) : Type 0 where
  pub there : IsSlot areas block
  pub used : in_use (word_at truth block) ≡ true
  pub handle_is : slot.handle ≡ handle_of block (generation_in (word_at truth block))
  pub dead_is : slot.dead ≡ dead_at truth block

-- slots in the order of their blocks
abbrev pub AreInOrder : List UsedSlot → Type 0
AreInOrder slots = AllPairs (λ a b. block_at a.handle < block_at b.handle) slots

-- of the slots whose blocks have numbers below a bound: those in use are listed, in the order of their blocks, and no other one is marked
pub record AreUsedBelow (areas : ℕ) (truth : Truth) (bound : ℕ) (slots : List UsedSlot) : Type 0 where
  pub below : (slot : UsedSlot) → Contains slots slot → block_at slot.handle < bound
  pub rise : AreInOrder slots
  pub each : (slot : UsedSlot) → Contains slots slot → (block : ℕ) × IsUsedSlot areas truth block slot
  pub all : (block : ℕ) → block < bound → IsSlot areas block → in_use (word_at truth block) ≡ true → (slot : UsedSlot) × Contains slots slot × IsUsedSlot areas truth block slot
  pub unmarked : (block : ℕ) → block < bound → IsSlot areas block → in_use (word_at truth block) ≡ false → dead_at truth block ≡ false

-- the slots of a volume in use are these, in the order of their blocks, and no other one is marked
pub record AreUsed (areas : ℕ) (truth : Truth) (slots : List UsedSlot) : Type 0 where
  pub rise : AreInOrder slots
  pub each : (slot : UsedSlot) → Contains slots slot → (block : ℕ) × IsUsedSlot areas truth block slot
  pub all : (block : ℕ) → IsSlot areas block → in_use (word_at truth block) ≡ true → (slot : UsedSlot) × Contains slots slot × IsUsedSlot areas truth block slot
  pub unmarked : (block : ℕ) → IsSlot areas block → in_use (word_at truth block) ≡ false → dead_at truth block ≡ false

-- the handle of the slot of a block among those in use, 0 where it isn't one of them
abbrev pub IsHandleOf : List UsedSlot → ℕ → ℕ → Type 0
IsHandleOf slots block handle =
    ((slot : UsedSlot) × Contains slots slot × (block_at slot.handle ≡ block) × (slot.handle ≡ handle))
    ⊎ (((slot : UsedSlot) → Contains slots slot → block_at slot.handle ≢ block) × (handle ≡ 0))

-- The slot of a block isn't in use, and is marked: its header names no handle, and that of the slot's last generation is wanted.
pub record IsFreeMarked (areas : ℕ) (truth : Truth) (block found wanted : ℕ) : Type 0 where
  pub there : IsSlot areas block
  pub unused : in_use (word_at truth block) ≡ false
  pub marked : dead_at truth block ≡ true
  pub found_is : found ≡ 0
  pub wanted_is : wanted ≡ handle_of block (generation_in (word_at truth block))
