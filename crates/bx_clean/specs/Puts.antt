-- Drafts of a page that is put, and a slot that is freed.
use Rattle.std.specs.Prelude.{◌≡◌, ℕ, List, [], Result, Ok, Err}
use Rattle.bx_chunks.specs.Freeing.{FreesAt}
use Rattle.bx_chunks.specs.declared.error.ChunkError.{ChunkError}
use Rattle.bx_chunks.specs.declared.error.ChunkError.TheVariants.{OutOfMemory, Stale}
use Rattle.bx_leaves.specs.Leaves.{PutsPage}
use Rattle.bx_page.specs.Contents.{Contents}
use Rattle.bx_records.specs.Drafts.{Changed}
use Rattle.bx_truth.specs.Chunks.{IsSlot, block_at}
use Rattle.bx_views.specs.Truths.{Held}

-- the draft, once the slot of a handle is freed; or why it isn't
abbrev pub FreesTo : Held → List Changed → ℕ → Result (List Changed) ChunkError → Type 0
FreesTo held old handle (Ok new) = FreesAt held old new handle (Ok tt)
FreesTo held old handle (Err error) = FreesAt held old old handle (Err error)

-- the slot of a handle of the volume is freed; a handle that is none of the volume's is refused
pub data FreesSlotOf (held : Held) (areas : ℕ) (old : List Changed) (handle : ℕ) (result : Result (List Changed) ChunkError) : Type 0 where
  outside : (IsSlot areas (block_at handle) → ⊥) → result ≡ Err Stale → FreesSlotOf held areas old handle result
  frees : IsSlot areas (block_at handle) → FreesTo held old handle result → FreesSlotOf held areas old handle result

-- A page is put under its handle, and the slot of another handle is freed.
pub data PutsAndFrees (held : Held) (areas handle : ℕ) (page : Contents) (gone : ℕ) (result : Result (List Changed) ChunkError) : Type 0 where
  memory : result ≡ Err OutOfMemory → PutsAndFrees held areas handle page gone result
  puts : (mid : List Changed) → PutsPage [] mid handle page → FreesSlotOf held areas mid gone result → PutsAndFrees held areas handle page gone result
