-- How a page of a directory is filled by its leaves.
use Rattle.std.specs.Prelude.{◌≡◌, Bool, true, false, List, Result, Ok, Err}
use Rattle.bx_call_parts.specs.declared.pages.Page.{Page}
use Rattle.bx_call_parts.specs.Pages.{filled}
use Rattle.bx_directory_reads.specs.declared.filling.Put.{Put}
use Rattle.bx_directory_reads.specs.declared.filling.Put.TheVariants.{All, Part, Stray}
use Rattle.bx_reads.specs.bx_inodes.specs.declared.stop.Stop.{Stop}
use Rattle.bx_reads.specs.bx_inodes.specs.declared.stop.Stop.TheVariants.{Need, Inner, Status, OutOfMemory}
use Rattle.bx_tree_files.specs.declared.file.Name.{Name}

-- The page was filled so by all entries of a leaf, or by those that fit; these are entries of a directory.
abbrev pub PutsSo : Page → List Name → Page → Put → Type 0
PutsSo page entries next All = (true, next) ≡ filled page entries
PutsSo page entries next Part = (false, next) ≡ filled page entries
PutsSo page entries next Stray = ⊥

-- The page was filled so, and whether all fit is told, unless a block is needed first or memory ran out. No status comes.
abbrev pub Fills : Page → List Name → Page → Result Bool Stop → Type 0
Fills page entries next (Ok all) = (all, next) ≡ filled page entries
Fills page entries next (Err (Need at mode)) = Unit {0}
Fills page entries next (Err (Inner blocks)) = ⊥
Fills page entries next (Err (Status status)) = ⊥
Fills page entries next (Err OutOfMemory) = Unit {0}
