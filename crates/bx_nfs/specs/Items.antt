-- Items of NFS version 2 (RFC 1094, section 2.3).
use Rattle.std.specs.Prelude.{ℕ, List, slice_index}
use Rattle.bx_xdr.specs.Items.{SpellsWords, SpellsFixed, SpellsOpaque, Both, Made}
use Rattle.bx_tree_files.specs.declared.sattr.Sattr.{Sattr}

-- A file handle is 32 bytes (RFC 1094, section 2.3.3).
abbrev pub SpellsHandle : List ℕ → List ℕ → Type 0
SpellsHandle = SpellsFixed 32

-- A name has at most 255 bytes (RFC 1094, sections 2.3.7 and 2.1).
abbrev pub SpellsName : List ℕ → List ℕ → Type 0
SpellsName = SpellsOpaque 255

-- A path has at most 1024 bytes (RFC 1094, sections 2.3.8 and 2.1).
abbrev pub SpellsPath : List ℕ → List ℕ → Type 0
SpellsPath = SpellsOpaque 1024

-- The data of a file, of which at most 8192 bytes go with one call (RFC 1094, section 2.1).
abbrev pub SpellsData : List ℕ → List ℕ → Type 0
SpellsData = SpellsOpaque 8192

-- A directory's file handle and a name in it (RFC 1094, section 2.3.10).
abbrev pub SpellsPlace : List ℕ × List ℕ → List ℕ → Type 0
SpellsPlace = Both SpellsHandle SpellsName

-- attributes to set, of their eight words: mode, uid, gid, size, and two times in seconds and microseconds
abbrev pub sattr_of : List ℕ → Sattr
sattr_of words = record {
  mode = slice_index words 0;
  uid = slice_index words 1;
  gid = slice_index words 2;
  size = slice_index words 3;
  atime = (slice_index words 4, slice_index words 5);
  mtime = (slice_index words 6, slice_index words 7);
}

-- Attributes to set are eight words (RFC 1094, sections 2.3.6 and 2.3.4).
abbrev pub SpellsSattr : Sattr → List ℕ → Type 0
SpellsSattr = Made sattr_of (SpellsWords 8)
