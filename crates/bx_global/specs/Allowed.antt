-- The conditions on a state.
use Rattle.std.specs.Prelude.{◌<◌, ◌≤◌, length}
use Rattle.std.specs.List.{AllByRecursion}
use Rattle.bx_global.specs.declared.change.Change.{Change}
use Rattle.bx_global.specs.declared.change.Change.TheVariants.{Renew, Take, Open, Expire, Claim, Close, Shift}
use Rattle.bx_global.specs.declared.state.GlobalState.{GlobalState}
pub use Rattle.bx_rows.specs.Conditions.{AreRising, Fits, HaveOwnSlots, IsDevice, IsSession}

-- the conditions on a state
pub record IsAllowed (s : GlobalState) : Type 0 where
  pub index : Fits s.index
  pub master : s.master < 2
  pub master_boot : Fits s.master_boot
  pub term : Fits s.term
  pub term_end : Fits s.term_end
  pub next_session : Fits s.next_session
  pub session_count : length s.sessions ≤ 8
  pub each_session : AllByRecursion (IsSession s.term_end) s.sessions
  pub rising : AreRising s.sessions s.next_session
  pub own_slots : HaveOwnSlots s.sessions
  pub least_devices : 1 ≤ length s.devices
  pub most_devices : length s.devices ≤ 4
  pub each_device : AllByRecursion IsDevice s.devices

-- the numbers of a change have 64 bits, where they become a state's
abbrev pub IsChange : Change → Type 0
IsChange (Renew by boot reading) = Fits boot × Fits reading
IsChange (Take by boot reading) = Fits boot × Fits reading
IsChange (Open node boot reading) = Fits boot × Fits reading
IsChange (Expire session term reading) = Fits session × Fits term × Fits reading
IsChange (Claim gone by) = Fits gone × Fits by
IsChange (Close gone by) = Fits gone × Fits by
IsChange (Shift device epoch mode second boot) = Fits epoch × Fits boot
