-- What a reader of lines shows of itself.
use Rattle.std.specs.Prelude.{◌≡◌, ℕ, ◌<◌, ◌≤◌, List, [], ◌∷◌, ◌++◌, length}
use Rattle.bx_base.specs.Text.{LacksFeed, BeginsWith}

-- the bytes that were read and belong to later lines, the line, and how long a line may be
pub record LinesAhead : Type 0 where
  pub ahead : List ℕ
  pub line : List ℕ
  pub most : ℕ

-- The text began with the line, and the rest is what comes behind it.
pub record TakesLine (text : List ℕ) (after : LinesAhead) (left : List ℕ) : Type 0 where
  pub begins : BeginsWith text after.line (after.ahead ++ left)
  pub short : length after.line ≤ after.most

-- The first line of the text is longer than a line may be.
pub record IsTooLong (text : List ℕ) (most : ℕ) : Type 0 where
  pub front : List ℕ
  pub rest : List ℕ
  pub parts : text ≡ front ++ rest
  pub lacks : LacksFeed front
  pub longer : most < length front

-- What was read is a part of one line, and the rest is still in the source.
pub record IsPartial (text : List ℕ) (after : LinesAhead) (left : List ℕ) : Type 0 where
  pub parts : text ≡ after.line ++ left
  pub lacks : LacksFeed after.line
  pub short : length after.line ≤ after.most

-- The bytes up to the first line feed went to the line, and the line feed went away.
pub record MeetsFeed (before after : LinesAhead) : Type 0 where
  pub front : List ℕ
  pub parts : before.ahead ≡ front ++ 10 ∷ after.ahead
  pub lacks : LacksFeed front
  pub line : after.line ≡ before.line ++ front

-- All bytes that were read went to the line, and none is a line feed.
pub record MeetsNoFeed (before after : LinesAhead) : Type 0 where
  pub lacks : LacksFeed before.ahead
  pub line : after.line ≡ before.line ++ before.ahead
  pub none : after.ahead ≡ []
