-- What is under way in a log slot.
use Rattle.std.proofs.Common.{◌≡◌, true, refl}
use Rattle.bx_redo.specs.declared.work.Work.TheVariants as works
use Rattle.bx_world_logs.specs.Logs.{Activity, Found, OfLog, begins, opens}

-- where a gate is being opened, a record is under way
pub opens_begins : (activity : Activity) → opens activity ≡ true → begins activity ≡ true
opens_begins (OfLog works.Idle) is = absurd cc
opens_begins (OfLog (works.Body text point)) is = refl
opens_begins (OfLog (works.Opens point)) is = refl
opens_begins (OfLog works.Closes) is = absurd cc
opens_begins (OfLog works.Shuts) is = absurd cc
opens_begins Found is = absurd cc
