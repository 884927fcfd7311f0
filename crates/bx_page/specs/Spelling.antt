-- The 4096 bytes of a page. Of each number the highest byte comes first.
use Rattle.std.specs.Prelude.{◌≡◌, ℕ, ◌-◌, List, [], ◌∷◌, ◌++◌, length, replicate, Option, Some, None}
use Rattle.std.specs.List.{flat_map}
use Rattle.std.specs.Int.{w16, w64, to_be_bytes}
use Rattle.bx_page.specs.declared.entry.Entry.{Entry}
use Rattle.bx_page.specs.Contents.{Contents, high_bytes, size, IsPage}

-- how many bytes the high key has, and 65535 where there is none
abbrev pub high_len : Option (List ℕ) → ℕ
high_len None = 65535
high_len (Some high) = length high

-- the level, how many entries there are, the right link, the length of the high key, and two zeros
abbrev pub numbers : Contents → List ℕ
numbers page =
    to_be_bytes w16 page.level ++ (to_be_bytes w16 (length page.entries) ++ (to_be_bytes w64 page.right ++ (to_be_bytes w16 (high_len page.high) ++ 0 ∷ 0 ∷ [])))

-- the lengths of a key and of its value, and the two
abbrev pub entry_bytes : Entry → List ℕ
entry_bytes entry = to_be_bytes w16 (length entry.key) ++ (to_be_bytes w16 (length entry.value) ++ (entry.key ++ entry.value))

-- the numbers, the high key, the entries, and zeros
abbrev pub page_bytes : Contents → List ℕ
page_bytes page = numbers page ++ (high_bytes page.high ++ (flat_map entry_bytes page.entries ++ replicate (4096 - size page) 0))

-- the bytes are these contents, which are a page's
pub record Spells (page : Contents) (bytes : List ℕ) : Type 0 where
  pub is : IsPage page
  pub parts : bytes ≡ page_bytes page
