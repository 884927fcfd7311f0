-- What stands for a file tree, and one step of it.
use Rattle.std.specs.Prelude.{◌≡◌, ℕ, ◌^◌, ◌<◌, ◌≤◌, false, Some}
use Rattle.bx_inodes.specs.Fitting.{HintsFitAll}
use Rattle.bx_inodes.specs.Stands.{Stands}
use Rattle.bx_model.specs.declared.call.Call.{Call}
use Rattle.bx_model.specs.declared.entry.Entry.{Entry}
use Rattle.bx_model.specs.declared.reply.Reply.{Reply}
use Rattle.bx_model.specs.declared.tree.Tree.{Tree}
use Rattle.bx_model.specs.Act.{act}
use Rattle.bx_model.specs.History.{IsStep, tells_spare}
use Rattle.bx_nfs.specs.Wire.{ReadsAs, reply_text}
use Rattle.bx_views.specs.Attempts.{Deed}
use Rattle.bx_views.specs.Truths.{Hints, Truth}

-- The truth of a volume with this number and so many areas stands for the tree, and the hints fit all page trees.
pub record StandsWith (volume areas : ℕ) (truth : Truth) (hints : Hints) (tree : Tree) : Type 0 where
  pub stands : Stands volume areas truth tree
  pub fit : HintsFitAll areas hints truth

-- One step of the tree by a deed: its bytes read as a call, which the tree takes at its moment, with so many blocks free and the handle
-- that it made, and the reply's bytes are the text of what the tree answers. Whose call it is doesn't matter.
pub record StepOfTree (tree : Tree) (deed : Deed) (next : Tree) : Type 0 where
  pub xid : ℕ
  pub call : Call
  pub reply : Reply
  pub reads : ReadsAs deed.call xid call
  pub acts : act tree call deed.moment deed.spare deed.made ≡ Some (reply, next)
  pub replies : deed.reply ≡ reply_text xid reply
  pub moment_fits : deed.moment ≤ 4294967295999
  pub spare_fits : deed.spare ≤ 4294967295
  pub made_fits : deed.made < 2 ^ 64
  pub enough : tells_spare reply ≡ false → deed.spare ≡ 8

-- The deed is this entry of a history, which is a step from the tree to the next: its call is what the bytes read as, and the bytes of
-- the deed's reply are the text of the entry's.
pub record Enters (tree : Tree) (deed : Deed) (entry : Entry) (next : Tree) : Type 0 where
  pub xid : ℕ
  pub reads : ReadsAs deed.call xid entry.what
  pub moment : deed.moment ≡ entry.moment
  pub spare : deed.spare ≡ entry.spare
  pub made : deed.made ≡ entry.made
  pub replies : deed.reply ≡ reply_text xid entry.reply
  pub step : IsStep tree entry next
