-- Reading an area: its words, and its bits.
use Rattle.std.specs.Prelude.{ℕ, List}
use Rattle.std.specs.Int.{w32}
use Rattle.bx_base.specs.Reading.{Reader, number_at, bytes_at, then_at, as_at, list_at}
use Rattle.bx_layout.specs.declared.area.AreaBlock.{AreaBlock}

abbrev pub area_with : List ℕ × List ℕ → AreaBlock
area_with parts = record { words = parts.0; dead = parts.1 }

abbrev pub area_parts : AreaBlock → List ℕ × List ℕ
area_parts area = (area.words, area.dead)

unfoldable pub area_at : Reader AreaBlock
area_at bytes = as_at area_with (then_at (list_at 960 (number_at w32)) (bytes_at 120)) bytes
