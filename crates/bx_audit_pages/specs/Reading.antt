-- What every read of chunks keeps and counts.
use Rattle.std.specs.Prelude.{◌≡◌, ℕ, Result}
use Rattle.bx_audit_pages.specs.declared.error.AuditError.{AuditError}
use Rattle.bx_audit_pages.specs.Errors.{Counts}
use Rattle.bx_audit_pages.specs.Shown.{Shows}
use Rattle.bx_homes.specs.declared.blocks.Blocks as givers
use Rattle.bx_truth.specs.PageTrees.{Chunks}

-- A fault is counted, and nothing else. The volume has as many areas as before, it can be read on, and what tells the blocks goes on to tell them.
pub record ReadsChunks {B A : Type 0} (blocks : givers.Ghosts B) (old new : B) (result : Result A AuditError) : Type 0 where
  pub counts : Counts result (blocks.faults old) (blocks.faults new)
  pub keeps_areas : blocks.areas new ≡ blocks.areas old
  pub keeps_lender : blocks.lender new ≡ blocks.lender old
  pub keeps_ready : blocks.ready new
  pub keeps_telling : blocks.tells old → blocks.tells new

-- the chunks that were shown are shown still
abbrev pub StillShows : {B : Type 0} → givers.Ghosts B → ℕ → B → B → Type 0
StillShows blocks areas old new = (chunks : Chunks) → Shows (blocks.tells old) areas (blocks.stands old) chunks → Shows (blocks.tells new) areas (blocks.stands new) chunks
