-- A page of a directory that is being filled.
use Rattle.std.specs.Prelude.{ℕ, ◌+◌, ◌-◌, ◌*◌, ◌/◌, nat_le, Bool, true, false, if◌then◌else◌, List, [], ◌∷◌, ◌++◌, codes, length}
use Rattle.bx_call_parts.specs.declared.pages.Page.{Page}
use Rattle.bx_model.specs.bx_tree_files.specs.declared.file.Name.{Name}
use Rattle.bx_model.specs.Directories.{cost, listed}

-- what a directory lists first: itself as number 1, and its parent as number 2
abbrev pub dots : ℕ → ℕ → List Name
dots directory parent = record { number = 1; name = codes "."; handle = directory } ∷ record { number = 2; name = codes ".."; handle = parent } ∷ []

-- the bytes that an entry of a name takes
abbrev pub spent : List ℕ → ℕ
spent name = 16 + 4 * ((length name + 3) / 4)

-- a page with one more entry
abbrev pub with_listed : Page → Name → Page
with_listed page entry = record { entries = page.entries ++ listed entry ∷ []; room = page.room - cost entry }

-- whether all entries fit on a page, and the page with those, from the first on, that fit
abbrev pub filled : Page → List Name → Bool × Page
filled page [] = (true, page)
filled page (entry ∷ entries) = if nat_le (cost entry) page.room then filled (with_listed page entry) entries else (false, page)
