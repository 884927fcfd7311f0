-- What the definitions come to.
use Rattle.std.specs.Prelude.{◌≡◌, ℕ, List, [], ◌∷◌, ◌++◌}
use Rattle.bx_base.specs.declared.names.Point.{Point}
use Rattle.bx_script.specs.declared.trace_line.TraceLine.{TraceLine}
use Rattle.bx_script.specs.declared.trace_line.TraceLine.TheVariants.{Took, Acted, Reply, Again}
use Rattle.bx_history.specs.Trace.{Entry, FitsNewest}

-- the points of a trace
abbrev pub points : List TraceLine → List Point
points [] = []
points (Took call node client bytes ∷ older) = points older
points (Acted point ∷ older) = point ∷ points older
points (Reply call reply ∷ older) = points older
points (Again node client reply ∷ older) = points older

-- the point of an entry
abbrev pub point_of : Entry → Point
point_of entry = record { call = entry.call; moment = entry.moment; spare = entry.spare; made = entry.made }

-- an entry but for its reply
pub record Asked : Type 0 where
  pub point : Point
  pub client : ℕ
  pub bytes : List ℕ

abbrev pub asked : Entry → Asked
asked entry = record { point = point_of entry; client = entry.client; bytes = entry.bytes }

-- of a history with its newest entry first, the earlier entries are those that the older lines of its trace fit
pub record FrontFits (kept : ℕ) (older : List TraceLine) (history : List Entry) : Type 0 where
  pub later : List Entry
  pub earlier : List Entry
  pub whole : history ≡ later ++ earlier
  pub fits : FitsNewest kept older earlier
