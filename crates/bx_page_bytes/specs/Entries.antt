-- The entries that stand in bytes, one behind the other.
use Rattle.std.specs.Prelude.{◌≡◌, ℕ, zero, suc, List, [], ◌∷◌, length, Option, Some, None}
use Rattle.bx_page.specs.declared.entry.Entry.{Entry}
use Rattle.bx_page.specs.Reading.{entry_at}
use Rattle.bx_page_bytes.specs.declared.entries.EntryBytes.TheInside as entry_bytes
use Rattle.bx_page_bytes.specs.declared.entries.Entries.TheInside as entries

abbrev pub entry_seen : entry_bytes.Inside → Entry
entry_seen entry = record { key = entry.key.now; value = entry.value.now }

-- an entry and those behind it, where it is there
abbrev pub with_others : (List ℕ → List Entry) → Option (Entry × List ℕ) → List Entry
with_others others None = []
with_others others (Some x) = x.0 ∷ others x.1

-- as many entries as are wanted, from the front on, up to the first that isn't there
unfoldable pub entries_in : ℕ → List ℕ → List Entry
entries_in zero bytes = []
entries_in (suc n) bytes = with_others (λ rest. entries_in n rest) (entry_at bytes)

abbrev pub list_seen : entries.Inside → List Entry
list_seen entries = entries_in entries.left entries.bytes.now

-- as many as are wanted are there
abbrev pub AreThere : entries.Inside → Type 0
AreThere entries = length (list_seen entries) ≡ entries.left
