-- Numbers at the front of bytes.
use Rattle.std.proofs.Common.{◌≡◌, ℕ, List, ◌++◌, Some}
use Rattle.std.specs.Int.{w32, w64, to_be_bytes}
use Rattle.bx_base.specs.Bytes.{IsBytes}
use Rattle.bx_base.specs.Reading.{number_at}
use Rattle.bx_base.proofs.Fields.{field32, field64}

pub number_there : (bytes : List ℕ) (n : ℕ) (rest : List ℕ) → IsBytes bytes → number_at w32 bytes ≡ Some (n, rest) → bytes ≡ to_be_bytes w32 n ++ rest
number_there bytes n rest fits is = (field32.takes bytes (n, rest) fits is).0.parts

pub handle_there : (bytes : List ℕ) (n : ℕ) (rest : List ℕ) → IsBytes bytes → number_at w64 bytes ≡ Some (n, rest) → bytes ≡ to_be_bytes w64 n ++ rest
handle_there bytes n rest fits is = (field64.takes bytes (n, rest) fits is).0.parts
