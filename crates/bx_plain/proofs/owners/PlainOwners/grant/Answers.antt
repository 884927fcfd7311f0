use Rattle.std.proofs.Common.{◌≡◌, ℕ, List, refl, sym, subst, ◌⊎◌, None}
use Rattle.bx_facts.specs.Holds.{KeepsHolds}
use Rattle.bx_plain.specs.declared.rows.Row.{Row}
use Rattle.bx_plain.specs.Fits.{RowsStand}
use Rattle.bx_plain.specs.Rows.{hold_in, floor_in}
use Rattle.bx_plain.proofs.Stands.{grant_stands, grant_keeps, grant_floors}
use Rattle.bx_plain.specs.Asks.{AlikeBut}
use Rattle.bx_plain.specs.Rows.{want_in}
use Rattle.bx_plain.specs.Grants.{IsLeft, Passes}
use Rattle.bx_plain.proofs.Granting.{grant_none_left, grant_passes, none_free, none_unheld, none_wanted, passes_none, was_false}
use Rattle.std.specs.Prelude.{IsSome}
use Rattle.bx_plain.specs.Rows.{place_in, sessions_at}
use Rattle.bx_plain.proofs.Wants.{alike_its, its_block, its_session, left_alone, wanted_place, wants_go, was_true}
use Rattle.bx_plain.proofs.owners.PlainOwners.grant.Goals as goal

pub returns-clause-stand : goal.returns-clause-stand
returns-clause-stand c = λ stand.
    subst RowsStand (sym c.in_ok-put.ensures.put)
    (grant_stands c.args.self.now.rows c.args.session c.args.block c.floor_of-index.result c.row_of-row.result c.row_of-row.ensures (c.if-not-is_free.ensures.0 refl) c.if-row.false c.floor_of-index.ensures stand)

pub returns-clause-holds : goal.returns-clause-holds
returns-clause-holds c =
    subst (λ (rows : List Row). KeepsHolds (hold_in c.args.self.now.rows) (hold_in rows)) (sym c.in_ok-put.ensures.put)
    (grant_keeps c.args.self.now.rows c.args.session c.args.block c.floor_of-index.result c.row_of-row.result c.row_of-row.ensures (c.if-not-is_free.ensures.0 refl) c.if-row.false c.floor_of-index.ensures)

pub returns-clause-floor : goal.returns-clause-floor
returns-clause-floor c = λ at.
    subst (λ (rows : List Row). floor_in rows at ≡ floor_in c.args.self.now.rows at) (sym c.in_ok-put.ensures.put)
    (grant_floors c.args.self.now.rows c.args.session c.args.block c.floor_of-index.result c.row_of-row.result c.row_of-row.ensures (c.if-not-is_free.ensures.0 refl) c.if-row.false c.floor_of-index.ensures at)

pub returns-then-not-row-clause-alike : goal.returns-then-not-row-clause-alike
returns-then-not-row-clause-alike c = refl

pub returns-then-not-is_free-clause-alike : goal.returns-then-not-is_free-clause-alike
returns-then-not-is_free-clause-alike c = refl

pub returns-clause-wants : goal.returns-clause-wants
returns-clause-wants c = λ other at.
    subst (λ (rows : List Row). (want_in rows other at ≡ None) ⊎ (want_in rows other at ≡ want_in c.args.self.now.rows other at)) (sym c.in_ok-put.ensures.put)
    (wants_go c.args.self.now.rows _ refl other at)

pub returns-clause-quiet : goal.returns-clause-quiet
returns-clause-quiet c = λ other none.
    subst (λ (rows : List Row). (want_in rows other c.args.block ≡ None) × (hold_in rows other c.args.block ≡ hold_in c.args.self.now.rows other c.args.block)) (sym c.in_ok-put.ensures.put)
    (left_alone c.args.self.now.rows c.args.session c.args.block c.row_of-row.result c.row_of-row.ensures _ refl refl (was_true c.row_of-row.result.is_wanted c.if-not-row.false) other none)

pub returns-clause-alike : goal.returns-clause-alike
returns-clause-alike c =
    subst (λ (rows : List Row). AlikeBut c.args.block c.args.self.now.rows rows) (sym c.in_ok-put.ensures.put)
    (alike_its c.args.self.now.rows c.args.session c.args.block c.row_of-row.result c.row_of-row.ensures _ refl)

pub returns-then-not-row-clause-passes : goal.returns-then-not-row-clause-passes
returns-then-not-row-clause-passes c = passes_none c.args.block c.args.self.now.rows

pub returns-then-not-row-clause-none_left : goal.returns-then-not-row-clause-none_left
returns-then-not-row-clause-none_left c = none_wanted c.args.self.now.rows c.args.session c.args.block c.row_of-row.result c.row_of-row.ensures (was_false c.row_of-row.result.is_wanted c.if-not-row.true)

pub returns-then-row-clause-alike : goal.returns-then-row-clause-alike
returns-then-row-clause-alike c = refl

pub returns-then-row-clause-passes : goal.returns-then-row-clause-passes
returns-then-row-clause-passes c = passes_none c.args.block c.args.self.now.rows

pub returns-then-row-clause-none_left : goal.returns-then-row-clause-none_left
returns-then-row-clause-none_left c = none_unheld c.args.self.now.rows c.args.session c.args.block c.row_of-row.result c.row_of-row.ensures c.if-row.true

pub returns-then-not-is_free-clause-passes : goal.returns-then-not-is_free-clause-passes
returns-then-not-is_free-clause-passes c = passes_none c.args.block c.args.self.now.rows

pub returns-then-not-is_free-clause-none_left : goal.returns-then-not-is_free-clause-none_left
returns-then-not-is_free-clause-none_left c = none_free c.args.self.now.rows c.args.session c.args.block c.row_of-row.result c.row_of-row.ensures c.if-not-row.false (λ lets. let h = c.if-not-is_free.ensures.1 lets in absurd cc)

pub returns-clause-passes : goal.returns-clause-passes
returns-clause-passes c =
    subst (λ (rows : List Row). Passes c.args.block c.args.self.now.rows rows) (sym c.in_ok-put.ensures.put)
    (grant_passes c.args.self.now.rows c.args.session c.args.block c.floor_of-index.result c.row_of-row.result c.row_of-row.ensures (c.if-not-is_free.ensures.0 refl) c.if-row.false c.floor_of-index.ensures (was_true c.row_of-row.result.is_wanted c.if-not-row.false))

pub returns-clause-none_left : goal.returns-clause-none_left
returns-clause-none_left c = λ left.
    grant_none_left c.args.self.now.rows c.args.session c.args.block c.floor_of-index.result c.row_of-row.result c.row_of-row.ensures (c.if-not-is_free.ensures.0 refl) c.if-row.false c.floor_of-index.ensures (was_true c.row_of-row.result.is_wanted c.if-not-row.false)
    (subst (λ (rows : List Row). IsLeft rows c.args.session c.args.block) c.in_ok-put.ensures.put left)

pub returns-clause-sessions : goal.returns-clause-sessions
returns-clause-sessions c =
    let rows = c.args.self.now.rows in
    let row = c.row_of-row.result in
    let wanted = was_true row.is_wanted c.if-not-row.false in
    let session = its_session rows c.args.session c.args.block row c.row_of-row.ensures in
    let block = its_block rows c.args.session c.args.block row c.row_of-row.ensures in
    let there = subst (λ (n : ℕ). IsSome (place_in rows n row.block)) (sym session) (subst (λ (n : ℕ). IsSome (place_in rows c.args.session n)) (sym block) (wanted_place rows c.args.session c.args.block row c.row_of-row.ensures wanted)) in
    subst (λ (n : ℕ). sessions_at n c.put.new.self ≡ sessions_at n rows) block (c.in_ok-put.ensures.sessions there)
