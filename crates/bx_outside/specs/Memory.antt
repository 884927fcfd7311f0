-- What the forms in memory show of themselves.
use Rattle.std.specs.Prelude.{ℕ, ◌==◌, Bool, if◌then◌else◌, List, ◌++◌, length, min, drop}
use Rattle.std.specs.List.{list_any}
use Rattle.bx_base.specs.Faults.{count_up}

-- A source: the bytes left, the calls so far, the numbers of the calls that fail, and the faults so far.
pub record Reading : Type 0 where
  pub left : List ℕ
  pub calls : ℕ
  pub failing : List ℕ
  pub faults : ℕ

-- A sink: the bytes written, and the rest as for a source.
pub record Writing : Type 0 where
  pub written : List ℕ
  pub calls : ℕ
  pub failing : List ℕ
  pub faults : ℕ

-- whether the call with this number fails
abbrev pub fails : List ℕ → ℕ → Bool
fails failing call = list_any (λ n. n == call) failing

-- how many bytes the next read into so much room gives
abbrev pub read_count : Reading → ℕ → ℕ
read_count source room = min room (length source.left)

-- the source after a read into so much room
abbrev pub after_read : Reading → ℕ → Reading
after_read source room =
    let call = count_up source.calls in
    if fails source.failing call then record { left = source.left; calls = call; failing = source.failing; faults = count_up source.faults }
    else record { left = drop (read_count source room) source.left; calls = call; failing = source.failing; faults = source.faults }

-- the sink after a write that it took whole
abbrev pub after_write : Writing → List ℕ → Writing
after_write sink piece = record { written = sink.written ++ piece; calls = count_up sink.calls; failing = sink.failing; faults = sink.faults }

-- the sink after a write that failed
abbrev pub after_fault : Writing → Writing
after_fault sink = record { written = sink.written; calls = count_up sink.calls; failing = sink.failing; faults = count_up sink.faults }
