-- How a page that stands in bytes is seen.
use Rattle.std.specs.Prelude.{◌≡◌, ◌+◌, ℕ, List, ◌∷◌, ◌++◌, Option, length}
use Rattle.std.specs.Int.{w16, w64, to_be_bytes}
use Rattle.std.specs.Option.{option_copied}
use Rattle.bx_page.specs.Contents.{Contents, high_bytes, size}
use Rattle.bx_page.specs.Spelling.{Spells, high_len}
use Rattle.bx_page_bytes.specs.declared.page.PageBytes.TheInside.{Inside}
use Rattle.bx_page_bytes.specs.Entries.{entries_in}

abbrev pub contents_of : Inside → Contents
contents_of page = record { level = page.level; right = page.right; high = option_copied page.high; entries = entries_in page.count page.entries.now }

-- the bytes are the page that is seen, all its entries are there, and so much is left of its bytes
pub record HoldsPage (page : Inside) : Type 0 where
  pub spells : Spells (contents_of page) page.payload.now
  pub there : length (entries_in page.count page.entries.now) ≡ page.count
  pub room : page.room + size (contents_of page) ≡ 4096

-- what stands before the entries of a page
abbrev pub head_bytes : ℕ → ℕ → ℕ → Option (List ℕ) → List ℕ
head_bytes level count right high =
    to_be_bytes w16 level ++ (to_be_bytes w16 count ++ (to_be_bytes w64 right ++ (to_be_bytes w16 (high_len high) ++ (0 ∷ 0 ∷ high_bytes high))))
