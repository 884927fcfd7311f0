-- A page with less than 544 bytes left can be halved, and its middle key isn't empty.
use Rattle.std.proofs.Common.{◌≡◌, ℕ, ◌+◌, ◌<◌, ◌≤◌, List, [], length, Some, sym, subst, ◌∙◌, arith}
use Rattle.bx_page.specs.declared.entry.Entry.{Entry}
use Rattle.bx_page.specs.Keys.{IsBelow}
use Rattle.bx_page.specs.Contents.{Contents, IsPage, size, first_half}
use Rattle.bx_page.proofs.Room.{size-le}
use Rattle.bx_truth.specs.PageTrees.{Node}
use Rattle.bx_blink.proofs.Handles.{not_below_empty}
use Rattle.bx_blink.specs.Walks.{Reads}
use Rattle.bx_splits.specs.Cutting.{IsOwnPage}
use Rattle.bx_splits.proofs.Middles.{middle as middle_of, is_middle}

pub enough : (reads : Reads) (handle : ℕ) (page : Contents) → IsOwnPage reads handle page → 4096 < size page + 544 → 2 ≤ length page.entries
enough reads handle page owned full = let le = size-le page ((owned.has).spells).is in omega (arith, full, le)

some_same : (a b : List ℕ) → Some a ≡ Some b → a ≡ b
some_same a b e = cc

pub middle_above : (page : Contents) (right : ℕ) (middle : List ℕ) → IsPage page → 2 ≤ length page.entries → (first_half page right).high ≡ Some middle → IsBelow [] middle
middle_above page right middle is two high =
    let node : Node = record { handle = 0; begins = []; page = page } in
    let none : Entry = record { key = []; value = [] } in
    let m = is_middle node right is two (λ k d less. not_below_empty _) none in
    subst (λ (k : List ℕ). IsBelow [] k) (some_same (middle_of node right is two (λ k d less. not_below_empty _) none) middle (sym m.high ∙ high)) m.above
