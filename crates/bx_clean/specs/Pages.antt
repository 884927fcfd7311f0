-- What becomes of one page of a dead file's tree: it loses its first entry, or all others; or it takes the place of its right neighbour.
use Rattle.std.specs.Prelude.{◌≡◌, ℕ, ◌<◌, List, [], ◌∷◌, Option, Some, None, IfSome, Result, Ok, Err, slice_get}
use Rattle.bx_chunks.specs.declared.error.ChunkError.{ChunkError}
use Rattle.bx_chunks.specs.declared.error.ChunkError.TheVariants.{OutOfMemory, Stale}
use Rattle.bx_leaves.specs.Leaves.{PutsPage}
use Rattle.bx_page.specs.Contents.{Contents, size, with_value, without_key}
use Rattle.bx_page.specs.Keys.{IsBelow}
use Rattle.bx_page.specs.declared.entry.Entry.{Entry}
use Rattle.bx_records.specs.Drafts.{Changed}
use Rattle.bx_truth.specs.PageTrees.{handle_in}
use Rattle.bx_views.specs.Truths.{Held}
use Rattle.bx_clean.specs.Held.{PageAt, HoldsPage}
use Rattle.bx_clean.specs.Puts.{PutsAndFrees}

-- the first entry is taken out, and its value is this handle; there is none
abbrev pub TakesFirst : Contents → Contents → Option ℕ → Type 0
TakesFirst old new (Some handle) = (first : Entry) × (slice_get old.entries 0 ≡ Some first) × (handle ≡ handle_in first.value) × (new ≡ without_key old first.key)
TakesFirst old new None = slice_get old.entries 0 ≡ None

-- a page is put with its first entry alone
pub data StripsPage (handle : ℕ) (page : Contents) (result : Result (List Changed) ChunkError) : Type 0 where
  strip_memory : result ≡ Err OutOfMemory → StripsPage handle page result
  strip_empty : slice_get page.entries 0 ≡ None → result ≡ Err Stale → StripsPage handle page result
  strips : (first : Entry) (new : List Changed) → slice_get page.entries 0 ≡ Some first → PutsPage [] new handle (record { level = page.level; right = 0; high = None; entries = first ∷ [] }) → result ≡ Ok new → StripsPage handle page result

-- a leaf is put without its first entry, and the slot of the handle that this named is freed
pub data CutsFirst (held : Held) (areas handle : ℕ) (page : Contents) (result : Result (List Changed) ChunkError) : Type 0 where
  cut_memory : result ≡ Err OutOfMemory → CutsFirst held areas handle page result
  cut_empty : slice_get page.entries 0 ≡ None → result ≡ Err Stale → CutsFirst held areas handle page result
  cuts : (first : Entry) → slice_get page.entries 0 ≡ Some first → PutsAndFrees held areas handle (without_key page first.key) (handle_in first.value) result → CutsFirst held areas handle page result

-- a page in which the first entry of another stands in place of its own first one
abbrev pub led_by : Contents → Entry → Entry → Contents
led_by page own first = with_value (without_key page own.key) first.key first.value

-- the page that has the first entry of another in place of its own; or why there is none
pub data LedBy (page other : Contents) (result : Result Contents ChunkError) : Type 0 where
  lead_memory : result ≡ Err OutOfMemory → LedBy page other result
  lead_empty : slice_get page.entries 0 ≡ None → result ≡ Err Stale → LedBy page other result
  lead_none : slice_get other.entries 0 ≡ None → result ≡ Err Stale → LedBy page other result
  lead_high : (own first : Entry) → slice_get page.entries 0 ≡ Some own → slice_get other.entries 0 ≡ Some first → (IfSome page.high (IsBelow first.key) → ⊥) → result ≡ Err Stale → LedBy page other result
  lead_long : (own first : Entry) → slice_get page.entries 0 ≡ Some own → slice_get other.entries 0 ≡ Some first → 4096 < size (led_by page own first) → result ≡ Err Stale → LedBy page other result
  leads : (own first : Entry) → slice_get page.entries 0 ≡ Some own → slice_get other.entries 0 ≡ Some first → result ≡ Ok (led_by page own first) → LedBy page other result

-- A page takes the place of its right neighbour: as a leaf the neighbour's bytes, and above the leaves those with its own first entry.
pub data AbsorbsNext (held : Held) (areas handle : ℕ) (page : Contents) (result : Result (List Changed) ChunkError) : Type 0 where
  stops : (error : ChunkError) → PageAt held areas page.right (Err error) → result ≡ Err error → AbsorbsNext held areas handle page result
  leaf : (next : Contents) → HoldsPage held areas page.right next → page.level ≡ 0 → PutsAndFrees held areas handle next page.right result → AbsorbsNext held areas handle page result
  fails : (next : Contents) (error : ChunkError) → HoldsPage held areas page.right next → 0 < page.level → LedBy next page (Err error) → result ≡ Err error → AbsorbsNext held areas handle page result
  inner : (next led : Contents) → HoldsPage held areas page.right next → 0 < page.level → LedBy next page (Ok led) → PutsAndFrees held areas handle led page.right result → AbsorbsNext held areas handle page result

-- an entry is put into a page, in which it fits
pub data PutsFirst (old new : Contents) (first : Entry) (result : Result Unit ChunkError) : Type 0 where
  no_memory : result ≡ Err OutOfMemory → PutsFirst old new first result
  too_high : (IfSome old.high (IsBelow first.key) → ⊥) → result ≡ Err Stale → PutsFirst old new first result
  too_long : 4096 < size (with_value old first.key first.value) → result ≡ Err Stale → PutsFirst old new first result
  put : new ≡ with_value old first.key first.value → result ≡ Ok tt → PutsFirst old new first result
