-- READDIR: a directory's entries, page by page.
use Rattle.std.specs.Prelude.{ℕ, ◌+◌, ◌-◌, ◌*◌, ◌/◌, ◌==◌, nat_lt, nat_le, not, min, if◌then◌else◌, List, [], ◌∷◌, filter, map, length, codes, Ok}
use Rattle.bx_model.specs.declared.call.Call.{Call}
use Rattle.bx_tree_files.specs.declared.file.File.{File}
use Rattle.bx_tree_files.specs.declared.file.Name.{Name}
use Rattle.bx_model.specs.declared.permissions.Want.TheVariants as want
use Rattle.bx_model.specs.declared.reply.Listed.{Listed}
use Rattle.bx_model.specs.declared.reply.Reply.TheVariants as reply
use Rattle.bx_model.specs.declared.status.TheConstants.{ACCES, NOTDIR, STALE}
use Rattle.bx_model.specs.declared.tree.Tree.{Tree}
use Rattle.bx_tree_files.specs.Attributes.{fileid}
use Rattle.bx_tree_files.specs.Files.{is_directory}
use Rattle.bx_tree_files.specs.Names.{names_of, parent_of}
use Rattle.bx_model.specs.Permissions.{may}
use Rattle.bx_model.specs.Reading.{named_file, most_data}
use Rattle.bx_model.specs.Steps.{Outcome, must, refuse, ◌>>=◌, ◌>>◌}

-- all that a directory lists: itself as number 1, its parent as number 2, and its entries
abbrev pub numbered : File → List Name
numbered directory =
    record { number = 1; name = codes "."; handle = directory.handle }
    ∷ record { number = 2; name = codes ".."; handle = parent_of directory.body }
    ∷ names_of directory.body

-- those with a number above the cookie
abbrev pub behind : ℕ → List Name → List Name
behind cookie entries = filter (λ entry. nat_lt cookie entry.number) entries

-- the bytes that an entry takes: 16, and its name in words of four bytes
abbrev pub cost : Name → ℕ
cost entry = 16 + 4 * ((length entry.name + 3) / 4)

-- the longest run of entries, from the first on, that fits into so many bytes
abbrev pub that_fit : ℕ → List Name → List Name
that_fit room [] = []
that_fit room (entry ∷ entries) = if nat_le (cost entry) room then entry ∷ that_fit (room - cost entry) entries else []

-- an entry as it is listed; its number is the cookie from which the next one is listed
abbrev pub listed : Name → Listed
listed entry = record { fileid = fileid entry.handle; name = entry.name; cookie = entry.number }

-- the page: the entries that fit beside 8 bytes more, and 1 where no entry is left, else 0
abbrev pub page : List Name → ℕ → List Name
page entries count = that_fit (min count most_data - 8) entries

abbrev pub end_of : List Name → List Name → ℕ
end_of entries given = if length given == length entries then 1 else 0

-- READDIR (RFC 1094, section 2.2.17): the entries behind a cookie that fit into so many bytes.
abbrev pub readdir : Tree → Call → List ℕ → ℕ → ℕ → Outcome
readdir tree call at cookie count = do
  directory ← must (named_file tree at) STALE
  refuse (not (is_directory directory)) NOTDIR
  refuse (not (may call directory want.List)) ACCES
  let entries = behind cookie (numbered directory)
  Ok (reply.List (map listed (page entries count)) (end_of entries (page entries count)), tree)
