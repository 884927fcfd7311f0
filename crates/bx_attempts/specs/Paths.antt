-- The path of a call that changes a file tree, over what is held and hinted.
use Rattle.std.specs.Prelude.{◌≡◌, ◌⊎◌, ℕ}
use Rattle.bx_base.specs.declared.names.Mode.{Mode}
use Rattle.bx_creating.specs.Paths.{OnCreate}
use Rattle.bx_creating.specs.Making.{OnMaking}
use Rattle.bx_creating.specs.bx_entries.specs.Finding.{OnRemoval}
use Rattle.bx_creating.specs.bx_entries.specs.declared.finding.Removable.TheVariants as removable
use Rattle.bx_renaming.specs.Linking.{OnLink}
use Rattle.bx_model.specs.declared.call.Args.{Args}
use Rattle.bx_model.specs.declared.call.Args.TheVariants.{Link, Make, Name, Rename, Set, Symlink, Write}
use Rattle.bx_renaming.specs.Path.{OnRename}
use Rattle.bx_creating.specs.bx_sizes.specs.Setting.{OnSetting}
use Rattle.bx_writes.specs.Paths.{OnWriting}
use Rattle.bx_views.specs.Truths.{Held, Hints}

-- By the call's procedure and arguments, that of its procedure: of SETATTR, WRITE, REMOVE (10) and RMDIR (15), RENAME, LINK, SYMLINK, MKDIR (14) and CREATE (9).
abbrev pub ChangePathOf : Held → Hints → ℕ → ℕ → ℕ → Args → ℕ → Mode → Type 0
ChangePathOf held hints volume areas procedure (Set handle sattr) at mode = OnSetting held hints volume areas handle sattr.size at mode
ChangePathOf held hints volume areas procedure (Name handle name) at mode =
    ((procedure ≡ 10) × OnRemoval removable.Plain held hints volume areas handle name at mode) ⊎ ((procedure ≡ 15) × OnRemoval removable.Directory held hints volume areas handle name at mode)
ChangePathOf held hints volume areas procedure (Link from handle name) at mode = OnLink held hints volume areas from handle name at mode
ChangePathOf held hints volume areas procedure (Symlink handle name path sattr) at mode = OnMaking held hints volume areas handle name at mode
ChangePathOf held hints volume areas procedure (Make handle name sattr) at mode =
    ((procedure ≡ 14) × OnMaking held hints volume areas handle name at mode) ⊎ ((procedure ≡ 9) × OnCreate held hints volume areas handle name sattr.size at mode)
ChangePathOf held hints volume areas procedure (Write handle begin offset total written) at mode = OnWriting held hints volume areas handle offset written at mode
ChangePathOf held hints volume areas procedure (Rename from name to new_name) at mode = OnRename held hints volume areas from name to new_name at mode
ChangePathOf held hints volume areas procedure _ at mode = ⊥
