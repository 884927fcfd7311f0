-- The listing of a tree.
use Rattle.std.specs.Prelude.{ℕ, zero, suc, ◌+◌, ◌-◌, ◌/◌, nat_lt, false, if◌then◌else◌, List, [], ◌∷◌, ◌++◌, length, take, drop, map, replicate, codes}
use Rattle.std.specs.Fmt.{decimal, digits}
use Rattle.std.specs.List.{list_any}
use Rattle.hex.specs.Hex.{encode_lower}
use Rattle.bx_tree_files.specs.bx_base.specs.Text.{spaced, sixteen_digits, text_of}
use Rattle.bx_tree_files.specs.declared.file.File.{File}
use Rattle.bx_tree_files.specs.declared.file.Name.{Name}
use Rattle.bx_tree_files.specs.declared.file.Body.{Body}
use Rattle.bx_tree_files.specs.declared.file.Body.TheVariants.{Bytes, Path, Names}
use Rattle.bx_model.specs.declared.tree.Tree.{Tree}
use Rattle.bx_tree_files.specs.Files.{size_of}
use Rattle.bx_tree_files.specs.Attributes.{mode_word}

-- seconds, a dot and six digits of microseconds
abbrev pub six_digits : ℕ → List ℕ
six_digits n = replicate (6 - length (decimal n)) 48 ++ decimal n

abbrev pub time_text : ℕ × ℕ → List ℕ
time_text time = decimal time.0 ++ codes "." ++ six_digits time.1

abbrev pub file_line : File → List ℕ
file_line file = spaced (
    codes "file" ∷ sixteen_digits file.handle ∷ decimal file.kind ∷ digits 8 false (mode_word file) ∷ decimal file.nlink ∷ decimal file.uid ∷ decimal file.gid
    ∷ decimal (size_of file.body) ∷ time_text file.atime ∷ time_text file.mtime ∷ time_text file.ctime ∷ [])

abbrev pub name_line : Name → List ℕ
name_line name = spaced (codes "name" ∷ decimal name.number ∷ sixteen_digits name.handle ∷ encode_lower name.name ∷ [])

-- the pieces of 4096 bytes with a byte that isn't 0, the last piece cut at the end
abbrev pub data_lines : ℕ → ℕ → List ℕ → List (List ℕ)
data_lines zero offset bytes = []
data_lines (suc pieces) offset bytes =
    (if list_any (nat_lt 0) (take 4096 bytes) then spaced (codes "data" ∷ decimal offset ∷ encode_lower (take 4096 bytes) ∷ []) ∷ [] else [])
    ++ data_lines pieces (offset + 4096) (drop 4096 bytes)

abbrev pub dir_line : ℕ → ℕ → List ℕ
dir_line parent next = spaced (codes "dir" ∷ sixteen_digits parent ∷ decimal next ∷ [])

abbrev pub body_lines : Body → List (List ℕ)
body_lines (Bytes bytes) = data_lines ((length bytes + 4095) / 4096) 0 bytes
body_lines (Path path) = spaced (codes "path" ∷ encode_lower path ∷ []) ∷ []
body_lines (Names parent next names) = dir_line parent next ∷ map name_line names

-- each file's line and those of what it contains, in the order of the handles
abbrev pub listing_lines : List File → List (List ℕ)
listing_lines [] = []
listing_lines (file ∷ files) = file_line file ∷ body_lines file.body ++ listing_lines files

abbrev pub listing : Tree → List ℕ
listing tree = text_of (listing_lines tree.files)
