-- Records in bodies, piece by piece.
use Rattle.std.specs.Prelude.{◌≡◌, ◌≢◌, ℕ, ◌+◌, List, [], ◌∷◌, map}
use Rattle.std.specs.List.{AllByRecursion}
use Rattle.bx_base.specs.declared.names.Point.{Point}
use Rattle.bx_disk.specs.Disks.{Image}
use Rattle.bx_calls.specs.Regions.{ReadsAs}
use Rattle.bx_places.specs.Places.{IsBlock}
use Rattle.bx_records.specs.Drafts.{Changed}
use Rattle.bx_homes.specs.bx_volume.specs.Records.{Logged, IsLogged, logged_text}
use Rattle.bx_homes.specs.Standing.{BlockStandsAt}

-- numbers of blocks of a volume with so many areas, each once
abbrev pub AreNumbers : ℕ → List ℕ → Type 0
AreNumbers areas [] = Unit {0}
AreNumbers areas (number ∷ others) = IsBlock areas number × AllByRecursion (λ other. other ≢ number) others × AreNumbers areas others

-- blocks stand on a disk one behind the other, nine sectors each, the first from this sector on
abbrev pub StandOn : Image → ℕ → ℕ → List Changed → Type 0
StandOn image disk sector [] = Unit {0}
StandOn image disk sector (change ∷ behind) = BlockStandsAt image disk sector change.1 × StandOn image disk (sector + 9) behind

-- the record of a volume with so many areas stands on a disk from this sector on
pub record IsRecordAt (image : Image) (disk sector areas : ℕ) (logged : Logged) : Type 0 where
  pub is : IsLogged areas logged
  pub reads : ReadsAs image disk sector (logged_text logged)

-- the point of the call that a record is of
abbrev pub point_of : Logged → Point
point_of logged = record { call = logged.head.call; moment = logged.head.moment; spare = logged.head.spare; made = logged.head.made }

-- no blocks with these numbers stand there
abbrev pub IsGap : Image → ℕ → ℕ → List ℕ → Type 0
IsGap image disk sector numbers = (changed : List Changed) → map (λ change. change.0) changed ≡ numbers → StandOn image disk sector changed → ⊥
