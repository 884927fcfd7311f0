-- What a page of a B-link tree holds, and how much of its 4096 bytes that takes.
use Rattle.std.specs.Prelude.{◌≡◌, ℕ, ◌+◌, ◌/◌, ◌^◌, ◌<◌, ◌≤◌, bytes_eq, not, List, [], ◌∷◌, ◌++◌, length, take, drop, reverse, filter, sum_by, All, AllPairs, Option, Some, None, IfSome, slice_get}
use Rattle.std.specs.List.{find}
use Rattle.std.specs.Option.{option_map}
use Rattle.bx_page.specs.declared.entry.Entry.{Entry}
use Rattle.bx_page.specs.Keys.{is_below, IsBelow}

-- A level, the page to the right or 0 for none, the key that all keys are below where there is one, and the
-- entries in the order of their keys.
pub record Contents : Type 0 where
  pub level : ℕ
  pub right : ℕ
  pub high : Option (List ℕ)
  pub entries : List Entry

-- An entry takes two lengths of two bytes, its key and its value.
abbrev pub entry_size : Entry → ℕ
entry_size entry = 4 + (length entry.key + length entry.value)

-- the bytes of a high key, none where there is none
abbrev pub high_bytes : Option (List ℕ) → List ℕ
high_bytes None = []
high_bytes (Some high) = high

-- the sum of sizes: 16 bytes of numbers, the high key and the entries
abbrev pub size : Contents → ℕ
size page = 16 + length (high_bytes page.high) + sum_by entry_size page.entries

-- a key has at most 256 bytes, and with its value at most 268
pub record IsEntry (entry : Entry) : Type 0 where
  pub key : length entry.key ≤ 256
  pub both : length entry.key + length entry.value ≤ 268

-- each key is below all later ones
abbrev pub Rises : List Entry → Type 0
Rises entries = AllPairs (λ a b. IsBelow a.key b.key) entries

-- Above the leaves each value is the handle of a child, which has eight bytes.
abbrev pub HasChildren : Contents → Type 0
HasChildren page = 0 < page.level → All (λ entry. length entry.value ≡ 8) page.entries

-- what every page's contents are
pub record IsPage (page : Contents) : Type 0 where
  pub level : page.level < 2 ^ 16
  pub right : page.right < 2 ^ 64
  pub high : IfSome page.high (λ high. length high ≤ 256)
  pub entries : All IsEntry page.entries
  pub rises : Rises page.entries
  pub below : IfSome page.high (λ high. All (λ entry. IsBelow entry.key high) page.entries)
  pub children : HasChildren page
  pub room : size page ≤ 4096

-- the keys rise, and are below the high key
pub record IsInOrder (page : Contents) : Type 0 where
  pub rises : Rises page.entries
  pub below : IfSome page.high (λ high. All (λ entry. IsBelow entry.key high) page.entries)

-- the entries with keys below a key, and those with keys above it
abbrev pub below : List Entry → List ℕ → List Entry
below entries key = filter (λ entry. is_below entry.key key) entries

abbrev pub above : List Entry → List ℕ → List Entry
above entries key = filter (λ entry. is_below key entry.key) entries

-- the entries with keys not above a key, and those with keys not below it
abbrev pub up_to : List Entry → List ℕ → List Entry
up_to entries key = filter (λ entry. not (is_below key entry.key)) entries

abbrev pub from : List Entry → List ℕ → List Entry
from entries key = filter (λ entry. not (is_below entry.key key)) entries

-- the value of a key, where it is there
abbrev pub value_of : List Entry → List ℕ → Option (List ℕ)
value_of entries key = option_map (λ entry. entry.value) (find (λ entry. bytes_eq entry.key key) entries)

abbrev pub first : List Entry → Option Entry
first entries = slice_get entries 0

abbrev pub last : List Entry → Option Entry
last entries = slice_get (reverse entries) 0

-- entries and pages with a value for a key, in place of the value that the key had
abbrev pub with_entry : List Entry → List ℕ → List ℕ → List Entry
with_entry entries key value = below entries key ++ record { key = key; value = value } ∷ above entries key

abbrev pub with_value : Contents → List ℕ → List ℕ → Contents
with_value page key value = record page { entries = with_entry page.entries key value }

-- the page with all entries but that of a key
abbrev pub without_key : Contents → List ℕ → Contents
without_key page key = record page { entries = below page.entries key ++ above page.entries key }

-- how many entries stay in a page that is halved
abbrev pub half : Contents → ℕ
half page = length page.entries / 2

-- The page with the first half of the entries. Its high key is the first key of the other half, and on its right is
-- the page that gets that half.
abbrev pub first_half : Contents → ℕ → Contents
first_half page right = record page {
  right = right;
  high = option_map (λ entry. entry.key) (slice_get page.entries (half page));
  entries = take (half page) page.entries;
}

-- the page with the other half, the high key and the right link
abbrev pub other_half : Contents → Contents
other_half page = record page { entries = drop (half page) page.entries }
