-- Why a line is refused where it is read.
use Rattle.std.proofs.Common.{◌≡◌, ℕ, ◌<◌, ◌==◌, List, ◌∷◌, length, ap, ◌∙◌, arith, inl, inr}
use Rattle.std.specs.Prelude.{◌≢◌, ◌⊎◌}
use Rattle.bx_base.specs.Text.{BeginsWith, lines_of}
use Rattle.bx_base.proofs.Lines.{lines_of-begins, lines_of-too_long}
use Rattle.bx_outside.specs.LineReader.{IsTooLong}
use Rattle.bx_script.specs.declared.line.Line.{Line}
use Rattle.bx_script.specs.ScheduleLine.{spelling}
use Rattle.bx_script.proofs.Spelled.{short_spelling}
use Rattle.bx_script.specs.Schedule.{HasPlace}

-- the first line of a text is refused at this number
abbrev pub IsRefusedHere : List ℕ → ℕ → Type 0
IsRefusedHere text number =
    (first : List ℕ) × (others : List (List ℕ)) × (lines_of text ≡ first ∷ others)
    × ((4294967295 < number) ⊎ ((value : Line) → HasPlace (number == 1) value → first ≢ spelling value))

pub refused_too_long : (text : List ℕ) (most number : ℕ) → most ≡ 18600 → IsTooLong text most → IsRefusedHere text number
refused_too_long text most number e long =
    let found = lines_of-too_long long.front long.rest long.lacks (let l = long.longer in omega arith) in (
      found.0,
      found.1,
      ap lines_of long.parts ∙ found.2,
      inr (λ value place same.
          let short = short_spelling value place.0 in
          let len : length found.0 ≡ length (spelling value) = ap length same in
          let longer = long.longer in
          omega (arith, found.3)),
    )

pub refused_count : (text line rest : List ℕ) (number : ℕ) → 4294967295 < number → BeginsWith text line rest → IsRefusedHere text number
refused_count text line rest number many begins = (line, lines_of rest, lines_of-begins text line rest begins, inl many)

pub refused_line : (text line rest : List ℕ) (number : ℕ) → ((value : Line) → HasPlace (number == 1) value → line ≢ spelling value) → BeginsWith text line rest → IsRefusedHere text number
refused_line text line rest number none begins = (line, lines_of rest, lines_of-begins text line rest begins, inr none)
