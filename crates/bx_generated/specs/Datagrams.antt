-- The datagrams of a generated schedule's calls (RFC 5531, section 9; RFC 1094, section 2.2).
use Rattle.std.specs.Prelude.{ℕ, ◌+◌, ◌*◌, ◌^◌, List, [], ◌∷◌, ◌++◌, codes, decimal, replicate}
use Rattle.bx_base.specs.Bytes.{words}
use Rattle.bx_places.specs.Handles.{file_text}
use Rattle.bx_xdr.specs.Items.{fixed_text, opaque_text}
use Rattle.bx_generated.specs.declared.draws.Draw.{Draw}
use Rattle.bx_generated.specs.declared.draws.Procedure.{Procedure}
use Rattle.bx_generated.specs.declared.draws.Procedure.TheVariants.{Create, Lookup, Remove, Mkdir, Rmdir, Rename, Readdir, Write, Statfs, Symlink}

-- the number of a procedure of NFS
abbrev pub number_of : Procedure → ℕ
number_of Create = 9
number_of Lookup = 4
number_of Remove = 10
number_of Mkdir = 14
number_of Rmdir = 15
number_of Rename = 11
number_of Readdir = 16
number_of Write = 8
number_of Statfs = 17
number_of Symlink = 13

-- the call's number, CALL (0), version 2 of RPC, NFS (100003) in version 2, the procedure, and an empty credential and verifier of flavor AUTH_NONE (0)
unfoldable pub header : ℕ → Procedure → List ℕ
header number procedure = words (number ∷ 0 ∷ 2 ∷ 100003 ∷ 2 ∷ number_of procedure ∷ 0 ∷ 0 ∷ 0 ∷ 0 ∷ [])

-- the name with a number: the letter f, and the number
abbrev pub name_of : ℕ → List ℕ
name_of number = codes "f" ++ decimal number

-- the file handle of the root, which is the first that a volume gives: slot 0 of area 0 in generation 1
unfoldable pub root_text : ℕ → List ℕ
root_text volume = fixed_text (file_text volume 1)

-- the name with a number in the root
unfoldable pub place_text : ℕ → ℕ → List ℕ
place_text volume number = root_text volume ++ opaque_text (name_of number)

-- attributes to set: the mode, or none where it is 2^32 - 1; no others
unfoldable pub attributes_text : ℕ → List ℕ
attributes_text mode = words (mode ∷ 4294967295 ∷ 4294967295 ∷ 4294967295 ∷ 4294967295 ∷ 4294967295 ∷ 4294967295 ∷ 4294967295 ∷ [])

-- The file that is written to: slot 2 + 2 * first of area 0, in generation 1. In an order of calls without others that is what the first file of so many that are made gets.
abbrev pub written_handle : ℕ → ℕ
written_handle first = (2 + 2 * first) * 2 ^ 32 + 1

-- the arguments of a procedure: modes 0644 and 0755, all of the root's first page of entries, 100 bytes of the letter x, a link to `f`
unfoldable pub arguments : ℕ → Procedure → ℕ → ℕ → List ℕ
arguments volume Create first second = place_text volume first ++ attributes_text 420
arguments volume Lookup first second = place_text volume first
arguments volume Remove first second = place_text volume first
arguments volume Mkdir first second = place_text volume first ++ attributes_text 493
arguments volume Rmdir first second = place_text volume first
arguments volume Rename first second = place_text volume first ++ place_text volume second
arguments volume Readdir first second = root_text volume ++ words (0 ∷ 4096 ∷ [])
arguments volume Write first second = fixed_text (file_text volume (written_handle first)) ++ (words (0 ∷ 97 * second ∷ 0 ∷ []) ++ opaque_text (replicate 100 120))
arguments volume Statfs first second = root_text volume
arguments volume Symlink first second = place_text volume first ++ (opaque_text (codes "f") ++ attributes_text 4294967295)

-- the datagram of the call with a number, from 1 on
unfoldable pub datagram : ℕ → ℕ → Draw → List ℕ
datagram volume number draw = header number draw.procedure ++ arguments volume draw.procedure draw.first draw.second
