use Rattle.std.proofs.Common.{◌≡◌, List, sym, subst, ◌⊎◌, ◌∙◌, inl, inr, ⊎_elim, refl, Some}
use Rattle.bx_facts.specs.Holds.{KeepsOthers}
use Rattle.bx_plain.specs.declared.rows.Row.{Row}
use Rattle.bx_plain.specs.Fits.{RowsStand}
use Rattle.bx_plain.specs.Rows.{hold_in, floor_in}
use Rattle.bx_plain.proofs.Stands.{want_stands, want_keeps, want_floors}
use Rattle.std.specs.Prelude.{IsSomeAnd}
use Rattle.bx_plain.specs.Asks.{AlikeBut}
use Rattle.bx_plain.specs.Grants.{IsAlike, IsAnswered}
use Rattle.bx_plain.specs.Rows.{AllLet, want_in}
use Rattle.bx_plain.proofs.Granting.{alike_beside, answered, lets_put}
use Rattle.bx_plain.proofs.Puts.{keys_of_row}
use Rattle.bx_plain.proofs.Wants.{alike_its, asked_or_granted, its_block, its_session, put_beside}
use Rattle.bx_plain.proofs.owners.PlainOwners.ask.Goals as goal

pub returns-clause-stand : goal.returns-clause-stand
returns-clause-stand c = λ stand. subst RowsStand (sym c.in_ok-put.ensures.put)
    (want_stands c.args.self.now.rows c.args.session c.args.block c.floor_of-index.result c.args.mode c.row_of-row.result c.is_free-free.result _ c.row_of-row.ensures c.floor_of-index.ensures c.is_free-free.ensures.0 stand)

pub returns-clause-holds : goal.returns-clause-holds
returns-clause-holds c =
    subst (λ (rows : List Row). KeepsOthers c.args.session c.args.block (hold_in c.args.self.now.rows) (hold_in rows)) (sym c.in_ok-put.ensures.put)
    (want_keeps c.args.self.now.rows c.args.session c.args.block c.floor_of-index.result c.args.mode c.row_of-row.result c.is_free-free.result _ c.row_of-row.ensures c.floor_of-index.ensures c.is_free-free.ensures.0)

pub returns-clause-floor : goal.returns-clause-floor
returns-clause-floor c = λ at.
    subst (λ (rows : List Row). floor_in rows at ≡ floor_in c.args.self.now.rows at) (sym c.in_ok-put.ensures.put)
    (want_floors c.args.self.now.rows c.args.session c.args.block c.floor_of-index.result c.args.mode c.row_of-row.result c.is_free-free.result _ c.row_of-row.ensures c.floor_of-index.ensures c.is_free-free.ensures.0 at)

pub returns-clause-here : goal.returns-clause-here
returns-clause-here c =
    subst (λ (rows : List Row). (want_in rows c.args.session c.args.block ≡ Some c.args.mode) ⊎ IsSomeAnd (hold_in rows c.args.session c.args.block) (λ held. held.0 ≡ c.args.mode)) (sym c.in_ok-put.ensures.put)
    (asked_or_granted c.args.self.now.rows c.args.session c.args.block c.row_of-row.result c.row_of-row.ensures _ c.args.mode c.is_free-free.result refl refl refl refl refl)

pub returns-clause-wants : goal.returns-clause-wants
returns-clause-wants c = λ other at apart.
    let session = its_session c.args.self.now.rows c.args.session c.args.block c.row_of-row.result c.row_of-row.ensures in
    let block = its_block c.args.self.now.rows c.args.session c.args.block c.row_of-row.result c.row_of-row.ensures in
    subst (λ (rows : List Row). want_in rows other at ≡ want_in c.args.self.now.rows other at) (sym c.in_ok-put.ensures.put)
    (put_beside c.args.self.now.rows _ other at (⊎_elim (λ one. inl (λ same. one (same ∙ session))) (λ one. inr (λ same. one (same ∙ block))) apart))

pub returns-clause-alike : goal.returns-clause-alike
returns-clause-alike c =
    subst (λ (rows : List Row). AlikeBut c.args.block c.args.self.now.rows rows) (sym c.in_ok-put.ensures.put)
    (alike_its c.args.self.now.rows c.args.session c.args.block c.row_of-row.result c.row_of-row.ensures _ refl)

pub returns-clause-answered : goal.returns-clause-answered
returns-clause-answered c =
    subst (λ (rows : List Row). IsAnswered c.args.session c.args.block c.args.mode c.args.self.now.rows rows) (sym c.in_ok-put.ensures.put)
    (answered c.args.self.now.rows c.args.session c.args.block c.floor_of-index.result c.args.mode c.row_of-row.result c.is_free-free.result c.row_of-row.ensures c.floor_of-index.ensures c.is_free-free.ensures.0 c.is_free-free.ensures.1)

pub returns-clause-others : goal.returns-clause-others
returns-clause-others c = λ other at apart.
    subst (λ (rows : List Row). IsAlike c.args.self.now.rows rows other at) (sym c.in_ok-put.ensures.put)
    (alike_beside c.args.self.now.rows c.args.session c.args.block c.row_of-row.result c.row_of-row.ensures _ refl refl other at apart)

pub returns-clause-lets : goal.returns-clause-lets
returns-clause-lets c = λ other lets.
    let its = its_session c.args.self.now.rows c.args.session c.args.block c.row_of-row.result c.row_of-row.ensures in
    lets_put c.args.self.now.rows _ c.args.session c.args.block other (λ own. inr (inl ((keys_of_row c.args.self.now.rows _ _).0 ∙ its)))
    (subst (λ (rows : List Row). AllLet c.args.session c.args.block other rows) c.in_ok-put.ensures.put lets)
