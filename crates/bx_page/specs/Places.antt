-- Where a key stands among entries, or would stand.
use Rattle.std.specs.Prelude.{◌≡◌, ℕ, ◌+◌, ◌<◌, ◌≤◌, List, length, take, drop, None, slice_get, Result, Ok, Err}
use Rattle.std.specs.List.{HoldsAt}
use Rattle.std.specs.Option.{option_map}
use Rattle.bx_page.specs.declared.entry.Entry.{Entry}
use Rattle.bx_page.specs.Contents.{below, above, up_to, from, value_of}

-- the entry at this place has the key, lesser ones are before it and greater ones behind it
pub record StandsAt (entries : List Entry) (key : List ℕ) (place : ℕ) : Type 0 where
  pub within : place < length entries
  pub here : HoldsAt (λ entry. entry.key ≡ key) entries place
  pub before : below entries key ≡ take place entries
  pub behind : above entries key ≡ drop (place + 1) entries
  pub up_to : up_to entries key ≡ take (place + 1) entries
  pub from : from entries key ≡ drop place entries
  pub value : value_of entries key ≡ option_map (λ entry. entry.value) (slice_get entries place)

-- no entry has the key, lesser ones are before this place and greater ones from it on
pub record WouldStandAt (entries : List Entry) (key : List ℕ) (place : ℕ) : Type 0 where
  pub within : place ≤ length entries
  pub before : below entries key ≡ take place entries
  pub behind : above entries key ≡ drop place entries
  pub up_to : up_to entries key ≡ take place entries
  pub from : from entries key ≡ drop place entries
  pub value : value_of entries key ≡ None

-- what a search for a key among entries gives
abbrev pub IsPlace : List Entry → List ℕ → Result ℕ ℕ → Type 0
IsPlace entries key (Ok place) = StandsAt entries key place
IsPlace entries key (Err place) = WouldStandAt entries key place
