use Rattle.std.proofs.Common.{◌≡◌, ◌≤◌, List, sym, subst, arith, ◌⊎◌, refl, None}
use Rattle.bx_base.specs.declared.names.Mode.TheVariants.{Exclusive}
use Rattle.bx_facts.specs.Holds.{KeepsOthers}
use Rattle.bx_plain.specs.declared.rows.Row.{Row}
use Rattle.bx_plain.specs.Fits.{RowsStand}
use Rattle.bx_plain.specs.Rows.{hold_in, floor_in}
use Rattle.bx_plain.proofs.Stands.{is_held_row, mode_of_hold, go_stands, go_keeps, go_rises, go_has}
use Rattle.bx_plain.specs.Asks.{AlikeBut}
use Rattle.bx_plain.specs.Grants.{IsAlike}
use Rattle.bx_plain.specs.Rows.{want_in}
use Rattle.bx_plain.proofs.Granting.{alike_beside}
use Rattle.bx_plain.proofs.Wants.{alike_its, hold_of_new, want_of_new, wants_go}
use Rattle.bx_plain.proofs.owners.PlainOwners.let_go.Goals as goal

pub returns-clause-stand : goal.returns-clause-stand
returns-clause-stand c = λ stand.
    let w = c.args.self.now.rows in
    let held = is_held_row w c.args.session c.args.block c.row_of-row.result c.row_of-row.ensures c.requires in
    subst RowsStand (sym c.in_ok-put.ensures.put)
    (go_stands w c.args.session c.args.block c.given_after-given.result c.row_of-row.result c.row_of-row.ensures held c.given_after-given.ensures.more c.given_after-given.ensures.shared stand)

pub returns-clause-holds : goal.returns-clause-holds
returns-clause-holds c =
    let w = c.args.self.now.rows in
    let held = is_held_row w c.args.session c.args.block c.row_of-row.result c.row_of-row.ensures c.requires in
    subst (λ (rows : List Row). KeepsOthers c.args.session c.args.block (hold_in w) (hold_in rows)) (sym c.in_ok-put.ensures.put)
    (go_keeps w c.args.session c.args.block c.given_after-given.result c.row_of-row.result c.row_of-row.ensures held c.given_after-given.ensures.more c.given_after-given.ensures.shared)

pub returns-clause-floor : goal.returns-clause-floor
returns-clause-floor c = λ at.
    let w = c.args.self.now.rows in
    let held = is_held_row w c.args.session c.args.block c.row_of-row.result c.row_of-row.ensures c.requires in
    subst (λ (rows : List Row). floor_in w at ≤ floor_in rows at) (sym c.in_ok-put.ensures.put)
    (go_rises w c.args.session c.args.block c.given_after-given.result c.row_of-row.result c.row_of-row.ensures held c.given_after-given.ensures.more c.given_after-given.ensures.shared at)

pub returns-clause-given : goal.returns-clause-given
returns-clause-given c = λ at exclusive.
    let w = c.args.self.now.rows in
    let held = is_held_row w c.args.session c.args.block c.row_of-row.result c.row_of-row.ensures c.requires in
    let more = c.given_after-given.ensures.exclusive (mode_of_hold w c.args.session c.args.block at Exclusive c.row_of-row.result c.row_of-row.ensures exclusive) in
    let has = go_has w c.args.session c.args.block c.given_after-given.result c.row_of-row.result c.row_of-row.ensures held c.given_after-given.ensures.more c.given_after-given.ensures.shared in
    subst (λ (rows : List Row). c.args.index ≤ floor_in rows c.args.block) (sym c.in_ok-put.ensures.put) (omega (arith, more, has))

pub returns-clause-here : goal.returns-clause-here
returns-clause-here c =
    subst (λ (rows : List Row). (want_in rows c.args.session c.args.block ≡ None) × (hold_in rows c.args.session c.args.block ≡ None)) (sym c.in_ok-put.ensures.put) (
      want_of_new c.args.self.now.rows c.args.session c.args.block c.row_of-row.result c.row_of-row.ensures _ refl refl,
      hold_of_new c.args.self.now.rows c.args.session c.args.block c.row_of-row.result c.row_of-row.ensures _ refl refl,
    )

pub returns-clause-wants : goal.returns-clause-wants
returns-clause-wants c = λ other at.
    subst (λ (rows : List Row). (want_in rows other at ≡ None) ⊎ (want_in rows other at ≡ want_in c.args.self.now.rows other at)) (sym c.in_ok-put.ensures.put)
    (wants_go c.args.self.now.rows _ refl other at)

pub returns-clause-alike : goal.returns-clause-alike
returns-clause-alike c =
    subst (λ (rows : List Row). AlikeBut c.args.block c.args.self.now.rows rows) (sym c.in_ok-put.ensures.put)
    (alike_its c.args.self.now.rows c.args.session c.args.block c.row_of-row.result c.row_of-row.ensures _ refl)

pub returns-clause-others : goal.returns-clause-others
returns-clause-others c = λ other at apart.
    subst (λ (rows : List Row). IsAlike c.args.self.now.rows rows other at) (sym c.in_ok-put.ensures.put)
    (alike_beside c.args.self.now.rows c.args.session c.args.block c.row_of-row.result c.row_of-row.ensures _ refl refl other at apart)
