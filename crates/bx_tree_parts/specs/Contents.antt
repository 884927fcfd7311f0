-- Contents of files, as lists of bytes.
use Rattle.std.specs.Prelude.{ℕ, ◌+◌, ◌-◌, List, ◌++◌, length, take, drop, replicate}

-- bytes cut at a size, or with zeros up to it
abbrev pub sized : ℕ → List ℕ → List ℕ
sized size bytes = take size bytes ++ replicate (size - length bytes) 0

-- bytes with zeros up to a size, where they are fewer
abbrev pub reaching : ℕ → List ℕ → List ℕ
reaching size bytes = bytes ++ replicate (size - length bytes) 0

-- bytes with others written over them from an offset on; a gap before it is zeros
abbrev pub written_over : ℕ → List ℕ → List ℕ → List ℕ
written_over offset written bytes = sized offset bytes ++ written ++ drop (offset + length written) bytes
