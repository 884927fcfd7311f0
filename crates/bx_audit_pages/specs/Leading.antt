-- Where the pages of a tree lead.
use Rattle.std.specs.Prelude.{◌≡◌, ◌≢◌, ℕ, List, All, Contains, length}
use Rattle.std.specs.Int.{w64, from_be_bytes}
use Rattle.bx_page.specs.declared.entry.Entry.{Entry}
use Rattle.bx_page.specs.Contents.{Contents}
use Rattle.bx_truth.specs.PageTrees.{Chunks, Node}
use Rattle.bx_audit_pages.specs.Pages.{IsPageAt}

-- What a root leads to: itself; what the right link of a page names that it leads to, and what an entry of such a page names, whose
-- value has eight bytes.
pub data IsLedTo (chunks : Chunks) (root : ℕ) : ℕ → Type 0 where
  Itself : IsLedTo chunks root root
  Right : (handle : ℕ) (page : Contents) → IsLedTo chunks root handle → IsPageAt chunks handle page → page.right ≢ 0 → IsLedTo chunks root page.right
  Below : (handle : ℕ) (page : Contents) (entry : Entry) → IsLedTo chunks root handle → IsPageAt chunks handle page → Contains page.entries entry → length entry.value ≡ 8
      → IsLedTo chunks root (from_be_bytes w64 entry.value)

-- it leads to each of some pages
abbrev pub AreLedTo : Chunks → ℕ → List Node → Type 0
AreLedTo chunks root nodes = All (λ node. IsLedTo chunks root node.handle) nodes
