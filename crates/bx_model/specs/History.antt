-- A step of a legal history.
use Rattle.std.specs.Prelude.{◌≡◌, ◌^◌, ◌<◌, ◌≤◌, ◌==◌, Bool, true, false, Some}
use Rattle.bx_model.specs.declared.entry.Entry.{Entry}
use Rattle.bx_model.specs.declared.reply.Reply.{Reply}
use Rattle.bx_model.specs.declared.reply.Reply.TheVariants.{Status, Space}
use Rattle.bx_model.specs.declared.tree.Tree.{Tree}
use Rattle.bx_model.specs.Act.{act}

-- whether a reply tells how many blocks are free: NOSPC does, and STATFS
abbrev pub tells_spare : Reply → Bool
tells_spare (Status status) = status == 28
tells_spare (Space words) = true
tells_spare _ = false

-- The entry's reply is what the tree answers, and its step leads from the one tree to the other.
pub record IsStep (tree : Tree) (entry : Entry) (next : Tree) : Type 0 where
  pub acts : act tree entry.what entry.moment entry.spare entry.made ≡ Some (entry.reply, next)
  pub moment_fits : entry.moment ≤ 4294967295999
  pub spare_fits : entry.spare ≤ 4294967295
  pub made_fits : entry.made < 2 ^ 64
  pub enough : tells_spare entry.reply ≡ false → entry.spare ≡ 8
