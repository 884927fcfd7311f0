-- Where an attempt tells of fewer than 8 blocks.
use Rattle.std.specs.Prelude.{◌≢◌, ℕ}
use Rattle.bx_creating.specs.Lacking.{NoSlotsNear}
use Rattle.bx_model.specs.declared.call.Args.{Args}
use Rattle.bx_model.specs.declared.call.Args.TheVariants.{Link, Make, Rename, Symlink, Write}
use Rattle.bx_views.specs.Attempts.{IfActed}
use Rattle.bx_views.specs.Truths.{Held, Hints}
use Rattle.bx_views.specs.declared.attempt.Attempt.{Attempt}
use Rattle.bx_writes.specs.Paths.{IsFullWriting}

-- No slot is left where a call takes one, by its arguments: near the file that is written, where one of its pieces isn't there, or near the directory that an entry
-- comes into. SETATTR, REMOVE and RMDIR take none.
abbrev pub IsFullFor : Held → Hints → ℕ → ℕ → Args → ℕ → Type 0
IsFullFor held hints volume areas (Write handle begin offset total written) spare = IsFullWriting held hints volume areas handle offset written spare
IsFullFor held hints volume areas (Link from handle name) spare = NoSlotsNear volume areas held handle spare
IsFullFor held hints volume areas (Symlink handle name path sattr) spare = NoSlotsNear volume areas held handle spare
IsFullFor held hints volume areas (Make handle name sattr) spare = NoSlotsNear volume areas held handle spare
IsFullFor held hints volume areas (Rename from name to new_name) spare = NoSlotsNear volume areas held to spare
IsFullFor held hints volume areas _ spare = ⊥

-- So it is wherever another number of blocks is told than 8.
abbrev pub TellsFull : Held → Hints → ℕ → ℕ → Args → Attempt → Type 0
TellsFull held hints volume areas args = IfActed (λ done. done.spare ≢ 8 → IsFullFor held hints volume areas args done.spare)
