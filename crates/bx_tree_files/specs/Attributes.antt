-- A file's attributes.
use Rattle.std.specs.Prelude.{ℕ, ◌+◌, ◌/◌, ◌%◌, ◌^◌, ◌==◌, if◌then◌else◌, List, [], ◌∷◌, bit_or}
use Rattle.bx_places.specs.Handles as handles
use Rattle.bx_places.specs.Handles.{parts_of}
use Rattle.bx_tree_files.specs.declared.file.File.{File}
use Rattle.bx_tree_files.specs.Files.{size_of}

-- the bits of a file's type in its mode: a directory's, a symbolic link's, a regular file's
abbrev pub type_bits : ℕ → ℕ
type_bits kind = if kind == 2 then 0o040000 else if kind == 5 then 0o120000 else 0o100000

-- the mode with the type's bits
abbrev pub mode_word : File → ℕ
mode_word file = bit_or (type_bits file.kind) file.mode

-- the number of the file with a handle
abbrev pub fileid : ℕ → ℕ
fileid handle = handles.fileid (parts_of handle)

-- The 17 words of a file's attributes (RFC 1094, section 2.3.5): type, mode, nlink, uid, gid, size, blocksize,
-- rdev, blocks, fsid, fileid, and the three times.
abbrev pub attributes_of : ℕ → File → List ℕ
attributes_of volume file =
    file.kind ∷ mode_word file ∷ file.nlink ∷ file.uid ∷ file.gid ∷ size_of file.body ∷ 4096 ∷ 0 ∷ (size_of file.body + 511) / 512
    ∷ volume % 2 ^ 32 ∷ fileid file.handle ∷ file.atime.0 ∷ file.atime.1 ∷ file.mtime.0 ∷ file.mtime.1 ∷ file.ctime.0 ∷ file.ctime.1 ∷ []
