use Rattle.std.proofs.Common.{◌≡◌, ◌+◌, ◌≤◌, ◌∙◌, ℕ, None, Some, sym, subst, arith}
use Rattle.bx_base.specs.declared.names.Mode.TheVariants.{Exclusive}
use Rattle.bx_facts.specs.Holds.{Holding, KeepsOthers, given, hold_of, owners_with, without_block}
use Rattle.bx_plain.specs.Asks.{asks_of}
use Rattle.bx_plain.specs.Fits.{Fits, own_in}
use Rattle.bx_plain.specs.Grants.{Grants, IsGone}
use Rattle.bx_plain.specs.Laws.{own_is}
use Rattle.bx_plain.specs.Rows.{floor_in, hold_in}
use Rattle.bx_plain.proofs.Granting.{gone_then, grants}
use Rattle.bx_plain.proofs.Keeping.{asks_given, fits_given}
use Rattle.bx_plain.proofs.Stands.{others_then}
use Rattle.bx_plain.proofs.owners.PlainOwnersOwners.give_up.Goals as goal

pub returns-clause-keeps : goal.returns-clause-keeps
returns-clause-keeps c = λ past session s fits up own place is live.
    let rows = c.args.self.now.rows in
    let new = c.grant_waiting.new.self.rows in
    let o = own_is c.args.self.now.nodes c.args.node session own in
    let same : c.from.result + 1 ≡ session = omega (arith, o.1, c.from.ensures) in
    let K : ℕ → Type 0 = λ n. KeepsOthers n c.args.block (hold_in c.args.self.now.rows) (hold_in c.let_go.new.self.rows) in
    let keeps = others_then (hold_in rows) (hold_in c.let_go.new.self.rows) (hold_in new) session c.args.block (subst K same c.in_ok-let_go.ensures.holds) c.in_ok-grant_waiting.ensures.holds in
    let rise : (at : ℕ) → floor_in c.args.self.now.rows at ≤ floor_in c.grant_waiting.new.self.rows at = λ at. let low = c.in_ok-let_go.ensures.floor at in let e = c.in_ok-grant_waiting.ensures.floor at in omega (arith, low, e) in
    let H : ℕ → Type 0 = λ n. (from : ℕ) → hold_in c.args.self.now.rows n c.args.block ≡ Some (Exclusive, from) → c.args.index ≤ floor_in c.let_go.new.self.rows c.args.block in
    let goes = subst H same c.in_ok-let_go.ensures.given in
    let reach : (from : ℕ) → hold_in c.args.self.now.rows session c.args.block ≡ Some (Exclusive, from) → c.args.index ≤ floor_in c.grant_waiting.new.self.rows c.args.block = λ from held. let low = goes from held in let e = c.in_ok-grant_waiting.ensures.floor c.args.block in omega (arith, low, e) in
    let P : ℕ → Type 0 = λ n. Holding (KeepsOthers session c.args.block past.holding) (Fits n c.grant_waiting.new.self.rows)
    (owners_with (given past (hold_of (own_in c.args.self.now.nodes c.args.node) (hold_in c.args.self.now.rows) c.args.block) c.args.block c.args.index) c.args._out.now) in
    subst P (sym (c.grant_waiting.ensures.nodes ∙ c.let_go.ensures.nodes))
    (fits_given c.args.self.now.nodes rows new past c.args._out.now c.args._out.now session c.args.block c.args.index (own_in c.args.self.now.nodes c.args.node) own fits
    (c.in_ok-grant_waiting.ensures.stand (c.in_ok-let_go.ensures.stand fits.stand)) keeps rise reach)

pub returns-clause-asks : goal.returns-clause-asks
returns-clause-asks c =
    let rows = c.args.self.now.rows in
    let new = c.grant_waiting.new.self.rows in
    let alike = c.in_ok-grant_waiting.ensures.alike ∙ c.in_ok-let_go.ensures.alike in
    let none : (session : ℕ) → own_in c.args.self.now.nodes c.args.node ≡ Some session → hold_in c.grant_waiting.new.self.rows session c.args.block ≡ None = λ session own.
    let o = own_is c.args.self.now.nodes c.args.node session own in
    let same : c.from.result + 1 ≡ session = omega (arith, o.1, c.from.ensures) in
    let quiet = c.in_ok-grant_waiting.ensures.quiet (c.from.result + 1) c.in_ok-let_go.ensures.here.0 in
    let H : ℕ → Type 0 = λ n. hold_in c.grant_waiting.new.self.rows n c.args.block ≡ None in
    subst H same (quiet.1 ∙ c.in_ok-let_go.ensures.here.1) in
    let P : ℕ → Type 0 = λ n. asks_of (own_in n c.args.node) c.grant_waiting.new.self.rows n ≡ without_block c.args.block (asks_of (own_in c.args.self.now.nodes c.args.node) c.args.self.now.rows c.args.self.now.nodes) in
    subst P (sym (c.grant_waiting.ensures.nodes ∙ c.let_go.ensures.nodes))
    (asks_given (own_in c.args.self.now.nodes c.args.node) rows new c.args.block c.args.self.now.nodes alike none)

pub returns-clause-passes_on : goal.returns-clause-passes_on
returns-clause-passes_on c =
    let rows = c.args.self.now.rows in
    let new = c.grant_waiting.new.self.rows in
    let same : c.from.result + 1 ≡ c.args.node + 1 = omega (arith, c.from.ensures) in
    let all = grants (c.from.result + 1) c.args.block rows c.let_go.new.self.rows new c.in_ok-let_go.ensures.others c.in_ok-grant_waiting.ensures.passes c.in_ok-grant_waiting.ensures.none_left in
    let gone = gone_then (c.from.result + 1) c.args.block rows c.let_go.new.self.rows new c.in_ok-let_go.ensures.others c.in_ok-grant_waiting.ensures.passes c.in_ok-grant_waiting.ensures.none_left c.in_ok-let_go.ensures.here in
    let G : ℕ → Type 0 = λ n. Grants n c.args.block c.args.self.now.rows c.grant_waiting.new.self.rows in
    let I : ℕ → Type 0 = λ n. IsGone c.grant_waiting.new.self.rows n c.args.block in
    (subst G same all, subst I same gone)
