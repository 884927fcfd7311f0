-- The arguments of each procedure as bytes.
use Rattle.std.specs.Prelude.{◌≡◌, ℕ, List, [], slice_index}
use Rattle.bx_xdr.specs.Items.{SpellsWords, Both, Made}
use Rattle.bx_model.specs.declared.call.Args.{Args}
use Rattle.bx_model.specs.declared.call.Args.TheVariants.{Nothing, Handle, Set, Name, Read, Write, Make, Rename, Link, Symlink, List as Listing, Path}
use Rattle.bx_tree_files.specs.declared.sattr.Sattr.{Sattr}
use Rattle.bx_nfs.specs.Items.{SpellsHandle, SpellsPath, SpellsData, SpellsPlace, SpellsSattr}

-- NULL (RFC 1094, section 2.2.1), ROOT (2.2.4), WRITECACHE (2.2.8); of MOUNT NULL, DUMP, UMNTALL and EXPORT (appendix A,
-- sections 5.1, 5.3, 5.5 and 5.6): no arguments.
abbrev pub NoArguments : Args → List ℕ → Type 0
NoArguments args bytes = (args ≡ Nothing) × (bytes ≡ [])

-- GETATTR (RFC 1094, section 2.2.2), READLINK (2.2.6), STATFS (2.2.18): a file handle.
abbrev pub HandleArguments : Args → List ℕ → Type 0
HandleArguments = Made (λ (handle : List ℕ). Handle handle) SpellsHandle

abbrev pub set_of : List ℕ × Sattr → Args
set_of parts = Set parts.0 parts.1

-- SETATTR (RFC 1094, section 2.2.3): a file handle and the attributes to set.
abbrev pub SetArguments : Args → List ℕ → Type 0
SetArguments = Made set_of (Both SpellsHandle SpellsSattr)

abbrev pub name_of : List ℕ × List ℕ → Args
name_of parts = Name parts.0 parts.1

-- LOOKUP (RFC 1094, section 2.2.5), REMOVE (2.2.11), RMDIR (2.2.16): a directory and a name in it.
abbrev pub NameArguments : Args → List ℕ → Type 0
NameArguments = Made name_of SpellsPlace

abbrev pub read_of : List ℕ × List ℕ → Args
read_of parts = Read parts.0 (slice_index parts.1 0) (slice_index parts.1 1) (slice_index parts.1 2)

-- READ (RFC 1094, section 2.2.7): a file handle, and three words, the offset, the count and a total count.
abbrev pub ReadArguments : Args → List ℕ → Type 0
ReadArguments = Made read_of (Both SpellsHandle (SpellsWords 3))

abbrev pub write_of : List ℕ × (List ℕ × List ℕ) → Args
write_of parts = Write parts.0 (slice_index parts.1.0 0) (slice_index parts.1.0 1) (slice_index parts.1.0 2) parts.1.1

-- WRITE (RFC 1094, section 2.2.9): a file handle, three words, the offset where the write begins, the offset and a total
-- count, and the data.
abbrev pub WriteArguments : Args → List ℕ → Type 0
WriteArguments = Made write_of (Both SpellsHandle (Both (SpellsWords 3) SpellsData))

abbrev pub make_of : (List ℕ × List ℕ) × Sattr → Args
make_of parts = Make parts.0.0 parts.0.1 parts.1

-- CREATE (RFC 1094, section 2.2.10), MKDIR (2.2.15): a directory and a name in it, and the attributes of what is made.
abbrev pub MakeArguments : Args → List ℕ → Type 0
MakeArguments = Made make_of (Both SpellsPlace SpellsSattr)

abbrev pub rename_of : (List ℕ × List ℕ) × (List ℕ × List ℕ) → Args
rename_of parts = Rename parts.0.0 parts.0.1 parts.1.0 parts.1.1

-- RENAME (RFC 1094, section 2.2.12): a directory and a name in it, from and to.
abbrev pub RenameArguments : Args → List ℕ → Type 0
RenameArguments = Made rename_of (Both SpellsPlace SpellsPlace)

abbrev pub link_of : List ℕ × (List ℕ × List ℕ) → Args
link_of parts = Link parts.0 parts.1.0 parts.1.1

-- LINK (RFC 1094, section 2.2.13): a file handle, and a directory and a name in it.
abbrev pub LinkArguments : Args → List ℕ → Type 0
LinkArguments = Made link_of (Both SpellsHandle SpellsPlace)

abbrev pub symlink_of : (List ℕ × List ℕ) × (List ℕ × Sattr) → Args
symlink_of parts = Symlink parts.0.0 parts.0.1 parts.1.0 parts.1.1

-- SYMLINK (RFC 1094, section 2.2.14): a directory and a name in it, the path, and the attributes of the link.
abbrev pub SymlinkArguments : Args → List ℕ → Type 0
SymlinkArguments = Made symlink_of (Both SpellsPlace (Both SpellsPath SpellsSattr))

abbrev pub list_of : List ℕ × List ℕ → Args
list_of parts = Listing parts.0 (slice_index parts.1 0) (slice_index parts.1 1)

-- READDIR (RFC 1094, section 2.2.17): a directory, and two words, the cookie and the count.
abbrev pub ListArguments : Args → List ℕ → Type 0
ListArguments = Made list_of (Both SpellsHandle (SpellsWords 2))

-- MNT and UMNT (RFC 1094, appendix A, sections 5.2 and 5.4): a path.
abbrev pub PathArguments : Args → List ℕ → Type 0
PathArguments = Made (λ (path : List ℕ). Path path) SpellsPath
