-- Who may do what.
use Rattle.std.specs.Prelude.{ℕ, ◌/◌, ◌==◌, Bool, not, ◌&&◌, ◌||◌, if◌then◌else◌, bit_and}
use Rattle.std.specs.List.{list_any}
use Rattle.bx_model.specs.declared.call.Call.{Call}
use Rattle.bx_tree_files.specs.declared.file.File.{File}
use Rattle.bx_model.specs.declared.permissions.Want.{Want}
use Rattle.bx_model.specs.declared.permissions.Want.TheVariants.{Read, Write, Search, List as Listing, Change, Times, Uid, Gid}

abbrev pub is_owner : Call → File → Bool
is_owner call file = call.uid == file.uid

-- whether a group is the caller's, or one of the caller's further groups
abbrev pub is_in_group : Call → ℕ → Bool
is_in_group call gid = (call.gid == gid) || list_any (λ other. other == gid) call.gids

-- The three bits of the caller's class: the owner's, else the group's, else those of all others. 4 is to read, 2 to
-- write, and 1 to execute, or to search a directory.
abbrev pub class_bits : Call → File → ℕ
class_bits call file = if is_owner call file then file.mode / 64 else if is_in_group call file.gid then file.mode / 8 else file.mode

abbrev pub has_bit : Call → File → ℕ → Bool
has_bit call file bit = not (bit_and (class_bits call file) bit == 0)

-- what a caller other than the superuser may
abbrev pub is_allowed : Call → File → Want → Bool
is_allowed call file Read = is_owner call file || has_bit call file 4 || has_bit call file 1
is_allowed call file Write = is_owner call file || has_bit call file 2
is_allowed call file Search = has_bit call file 1
is_allowed call file Listing = has_bit call file 4
is_allowed call file Change = has_bit call file 2 && has_bit call file 1
is_allowed call file Times = is_owner call file
is_allowed call file (Uid uid) = is_owner call file && (uid == file.uid)
is_allowed call file (Gid gid) = is_owner call file && ((gid == file.gid) || is_in_group call gid)

-- The table of permissions. The user 0 may do everything.
abbrev pub may : Call → File → Want → Bool
may call file want = (call.uid == 0) || is_allowed call file want
