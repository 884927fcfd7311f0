-- Reading the parts of a page from left to right.
use Rattle.std.specs.Prelude.{ℕ, ◌+◌, List, Option, Some, None, nat_lt, ◌==◌, ◌||◌, if◌then◌else◌}
use Rattle.std.specs.Int.{w16, w64}
use Rattle.bx_page.specs.declared.entry.Entry.{Entry}
use Rattle.bx_base.specs.Reading.{◌>>=◌, number_at, bytes_at, list_at}
use Rattle.bx_page.specs.Contents.{Contents}

-- the lengths of a key and its value, within their limits
unfoldable pub lengths_at : List ℕ → Option ((ℕ × ℕ) × List ℕ)
lengths_at bytes = do
  key ← number_at w16 bytes
  value ← number_at w16 key.1
  if nat_lt 256 key.0 || nat_lt 268 (key.0 + value.0) then None else Some ((key.0, value.0), value.1)

unfoldable pub entry_at : List ℕ → Option (Entry × List ℕ)
entry_at bytes = do
  lengths ← lengths_at bytes
  key ← bytes_at lengths.0.0 lengths.1
  value ← bytes_at lengths.0.1 key.1
  Some (record { key = key.0; value = value.0 }, value.1)

-- a high key of a length, within its limit
unfoldable pub high_of : ℕ → List ℕ → Option (Option (List ℕ) × List ℕ)
high_of n bytes =
    if n == 65535 then Some (None, bytes) else if nat_lt 256 n then None else bytes_at n bytes >>= λ high. Some (Some high.0, high.1)

unfoldable pub high_at : List ℕ → Option (Option (List ℕ) × List ℕ)
high_at bytes = do
  n ← number_at w16 bytes
  zeros ← number_at w16 n.1
  if zeros.0 == 0 then high_of n.0 zeros.1 else None

-- the level, how many entries there are, and the right link
unfoldable pub numbers_at : List ℕ → Option ((ℕ × ℕ × ℕ) × List ℕ)
numbers_at bytes = do
  level ← number_at w16 bytes
  count ← number_at w16 level.1
  right ← number_at w64 count.1
  Some ((level.0, count.0, right.0), right.1)

-- all but the zeros
unfoldable pub contents_at : List ℕ → Option (Contents × List ℕ)
contents_at bytes = do
  numbers ← numbers_at bytes
  high ← high_at numbers.1
  entries ← list_at numbers.0.1 entry_at high.1
  Some (record { level = numbers.0.0; right = numbers.0.2; high = high.0; entries = entries.0 }, entries.1)
