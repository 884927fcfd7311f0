-- The last sequence of each session that a member took.
use Rattle.std.specs.Prelude.{◌≡◌, ℕ, ◌<◌, ◌==◌, Bool, true, false, List, [], ◌∷◌, ◌++◌, length, find, position, slice_index_or, slice_set, Option, Some, None, if◌then◌else◌}
use Rattle.bx_mirror_tables.specs.declared.lasts.Last.{Last}

abbrev pub is_of : ℕ → Last → Bool
is_of session last = last.session == session

abbrev pub sequence_of : Option Last → ℕ
sequence_of None = 0
sequence_of (Some last) = last.sequence

-- 0 where nothing of the session was taken
abbrev pub last_in : List Last → ℕ → ℕ
last_in lasts session = sequence_of (find (is_of session) lasts)

-- a session's entry is put in the place of the one that it has, or at the end
abbrev pub entry : ℕ → ℕ → Last
entry session sequence = record { session = session; sequence = sequence }

abbrev pub put_at : Option ℕ → List Last → Last → List Last
put_at None lasts last = lasts ++ last ∷ []
put_at (Some at) lasts last = slice_set lasts at last

abbrev pub noted : List Last → ℕ → ℕ → List Last
noted lasts session sequence = put_at (position (is_of session) lasts) lasts (entry session sequence)

-- one session has another last sequence
abbrev pub with_last : (ℕ → ℕ) → ℕ → ℕ → ℕ → ℕ
with_last lasts of sequence session = if of == session then sequence else lasts session

-- A session's entry stands at a place, and none before it.
pub record IsFirst (session at : ℕ) (lasts : List Last) : Type 0 where
  pub within : at < length lasts
  pub here : (d : Last) → is_of session (slice_index_or lasts at d) ≡ true
  pub before : (k : ℕ) (d : Last) → k < at → is_of session (slice_index_or lasts k d) ≡ false
