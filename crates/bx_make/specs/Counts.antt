-- How many lines of each kind a trace has, with what comes behind it.
use Rattle.std.specs.Prelude.{ℕ, ◌+◌, ◌==◌, ◌&&◌, nat_eq, Bool, true, false, if◌then◌else◌, List, [], ◌∷◌, ◌++◌, codes, decimal, take, drop}
use Rattle.std.specs.List.{count_by, starts_with}
use Rattle.bx_base.specs.Text.{ended, spaced, text_of}
use Rattle.bx_model.specs.Listing.{listing}
use Rattle.bx_model.specs.declared.tree.Tree.{Tree}
use Rattle.bx_script.specs.declared.trace_line.TraceLine.{TraceLine}
use Rattle.bx_script.specs.declared.trace_line.TraceLine.TheVariants.{Took, Acted, Reply, Again}

-- whether a line of a trace tells that a call was taken, where it acted, its reply, or a kept reply once more
abbrev pub is_taken : TraceLine → Bool
is_taken (Took call node client datagram) = true
is_taken line = false

abbrev pub is_point : TraceLine → Bool
is_point (Acted point) = true
is_point line = false

abbrev pub is_reply : TraceLine → Bool
is_reply (Reply call reply) = true
is_reply line = false

abbrev pub is_again : TraceLine → Bool
is_again (Again node client reply) = true
is_again line = false

-- whether a text begins with these bytes
abbrev pub begins_with : List ℕ → List ℕ → Bool
begins_with word text = starts_with nat_eq text word

-- how many lines of a text begin with a word; the first byte begins one, where it is said so
unfoldable pub count_lines : List ℕ → Bool → List ℕ → ℕ
count_lines word start [] = 0
count_lines word start (c ∷ text) = (if start && begins_with word (c ∷ text) then 1 else 0) + count_lines word (c == 10) text

-- how many bytes of a text come before its first line that begins with a word
unfoldable pub bytes_before : List ℕ → Bool → List ℕ → ℕ
bytes_before word start [] = 0
bytes_before word start (c ∷ text) = if start && begins_with word (c ∷ text) then 0 else 1 + bytes_before word (c == 10) text

-- How many files a listing has: each has a line that begins with the word `file`.
abbrev pub files_in : Tree → ℕ
files_in tree = count_lines (codes "file ") true (listing tree)

-- a line of a word and a number
abbrev pub count_line : List ℕ → ℕ → List ℕ
count_line word number = spaced (word ∷ decimal number ∷ [])

-- The six lines that tell of a replay: how many calls its schedule has; how many lines of the trace, with the points behind `end`, tell of calls that were taken, of points, of replies and of kept
-- replies; and how many files there are in the end.
abbrev pub count_text : ℕ → List TraceLine → Tree → List ℕ
count_text calls told tree =
    text_of (
    count_line (codes "calls") calls ∷ count_line (codes "taken") (count_by is_taken told) ∷ count_line (codes "points") (count_by is_point told)
    ∷ count_line (codes "replies") (count_by is_reply told) ∷ count_line (codes "again") (count_by is_again told) ∷ count_line (codes "files") (files_in tree) ∷ [])

-- The six lines, by how many calls there are and by what the replay wrote: lines of the trace come before the first line of a file, and the listing begins with that.
abbrev pub seen_text : ℕ → List ℕ → List ℕ
seen_text calls output =
    let at = bytes_before (codes "file ") true output in
    text_of (
    count_line (codes "calls") calls ∷ count_line (codes "taken") (count_lines (codes "took ") true (take at output)) ∷ count_line (codes "points") (count_lines (codes "point ") true (take at output))
    ∷ count_line (codes "replies") (count_lines (codes "reply ") true (take at output)) ∷ count_line (codes "again") (count_lines (codes "again ") true (take at output))
    ∷ count_line (codes "files") (count_lines (codes "file ") true (drop at output)) ∷ [])
