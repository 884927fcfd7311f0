use Rattle.std.proofs.Common.{◌≡◌, ℕ, List, sym, ap, subst, ◌∙◌}
use Rattle.bx_global.specs.Allowed.{IsAllowed}
use Rattle.bx_global.specs.Opening.{opening_state}
use Rattle.bx_global.specs.declared.state.GlobalState.{GlobalState}
use Rattle.bx_rows.specs.declared.session.SessionRow.{SessionRow}
use Rattle.bx_facts.specs.Chains.{IsAboveBoots}
use Rattle.bx_plain.specs.Begin.{plain_rows, plain_state}
use Rattle.bx_plain.specs.Fits.{IsPlainState}
use Rattle.bx_plain.proofs.Beginning.{plain_allowed, plain_boots, plain_is}
use Rattle.bx_plain.proofs.begin.endless.Goals as goal

made : (first : GlobalState) (rows : List SessionRow) (nodes devices : ℕ) → first ≡ opening_state nodes devices → rows ≡ plain_rows nodes → record first { term_end = 4294967295999; sessions = rows } ≡ plain_state nodes devices
made first rows nodes devices is are = ap (λ (f : GlobalState). record f { term_end = 4294967295999; sessions = rows }) is ∙ ap (λ (r : List SessionRow). record (opening_state nodes devices) { term_end = 4294967295999; sessions = r }) are

pub returns-clause-plain : goal.returns-clause-plain
returns-clause-plain c = subst (IsPlainState c.args.nodes) (sym (made c.in_ok-first.first c.in_ok-sessions_until.field-0 c.args.nodes c.args.devices c.in_ok-first.ensures c.in_ok-sessions_until.ensures)) (plain_is c.args.nodes c.args.devices)

pub returns-clause-allowed : goal.returns-clause-allowed
returns-clause-allowed c =
    let allowed = plain_allowed c.args.nodes c.args.devices c.requires.few c.requires.least c.requires.most in
    subst IsAllowed (sym (made c.in_ok-first.first c.in_ok-sessions_until.field-0 c.args.nodes c.args.devices c.in_ok-first.ensures c.in_ok-sessions_until.ensures)) allowed

pub returns-clause-boots : goal.returns-clause-boots
returns-clause-boots c =
    subst (λ (s : GlobalState). IsAboveBoots s 1) (sym (made c.in_ok-first.first c.in_ok-sessions_until.field-0 c.args.nodes c.args.devices c.in_ok-first.ensures c.in_ok-sessions_until.ensures)) (plain_boots c.args.nodes c.args.devices)
