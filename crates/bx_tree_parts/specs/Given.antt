-- Handles in rising order.
use Rattle.std.specs.Prelude.{ℕ, ◌==◌, nat_lt, if◌then◌else◌, List, [], ◌∷◌}

-- the handles with one more
abbrev pub with_handle : List ℕ → ℕ → List ℕ
with_handle [] new = new ∷ []
with_handle (handle ∷ handles) new =
    if handle == new then handle ∷ handles
    else if nat_lt new handle then new ∷ handle ∷ handles
    else handle ∷ with_handle handles new

-- the handles with one less
abbrev pub without_handle : List ℕ → ℕ → List ℕ
without_handle [] gone = []
without_handle (handle ∷ handles) gone = if handle == gone then handles else handle ∷ without_handle handles gone
