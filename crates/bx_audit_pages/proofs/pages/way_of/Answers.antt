use Rattle.std.proofs.Common.{refl, ℕ, ◌<◌, ◌≤◌, List, length, sym, subst}
use Rattle.bx_homes.proofs.Sectors.{of_some}
use Rattle.bx_audit_pages.specs.Room.{room_above}
use Rattle.bx_audit_pages.proofs.RoomAbove.{room_falls}
use Rattle.bx_audit_pages.proofs.pages.way_of.Goals as goal

pub returns-in_ok-of-in-Some-clause-less : goal.returns-in_ok-of-in-Some-clause-less
returns-in_ok-of-in-Some-clause-less c =
    let short = of_some (λ (key : List ℕ). length key ≤ 256) c.args.page.now.high c.in-Some.high.now (sym c.in-Some.ensures) c.requires.page.high in
    subst (λ (key : List ℕ). room_above key < room_above c.args.begins.now) (sym c.in_ok-of-in-Some.ensures)
    (room_falls c.args.begins.now c.in-Some.high.now c.requires.short short c.if-comes_behind.ensures.key c.if-comes_behind.ensures.high (c.if-comes_behind.ensures.above.0 refl))
