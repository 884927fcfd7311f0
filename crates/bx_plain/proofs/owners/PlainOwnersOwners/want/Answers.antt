use Rattle.std.proofs.Common.{◌≡◌, ◌⊎◌, inl, inr, ⊎_elim, ◌+◌, ◌∙◌, ℕ, Option, Some, IsSome, sym, subst, arith}
use Rattle.std.specs.Prelude.{IsSomeAnd}
use Rattle.bx_facts.specs.Holds.{Hold, Holding, KeepsOthers, hold_of, owners_with, without_block}
use Rattle.bx_plain.specs.Asks.{asks_of}
use Rattle.bx_plain.specs.Fits.{Fits, own_in}
use Rattle.bx_plain.specs.Grants.{Grants, IsAnswered}
use Rattle.bx_plain.specs.Laws.{own_is}
use Rattle.bx_plain.specs.Rows.{hold_in, want_in}
use Rattle.bx_plain.proofs.Granting.{answered_then, grants, held_by_own, same_of, wants_then}
use Rattle.bx_plain.proofs.Keeping.{asks_wanted, fits_wanted}
use Rattle.bx_plain.proofs.Stands.{others_then}
use Rattle.bx_plain.proofs.owners.PlainOwnersOwners.want.Goals as goal

pub returns-clause-keeps : goal.returns-clause-keeps
returns-clause-keeps c = λ past session fits up own.
    let rows = c.args.self.now.rows in
    let new = c.grant_waiting.new.self.rows in
    let o = own_is c.args.self.now.nodes c.args.node session own in
    let same : c.from.result + 1 ≡ session = omega (arith, o.1, c.from.ensures) in
    let K : ℕ → Type 0 = λ n. KeepsOthers n c.args.block (hold_in c.args.self.now.rows) (hold_in c.ask.new.self.rows) in
    let keeps = others_then (hold_in rows) (hold_in c.ask.new.self.rows) (hold_in new) session c.args.block (subst K same c.in_ok-ask.ensures.holds) c.in_ok-grant_waiting.ensures.holds in
    let P : ℕ → Type 0 = λ n. Holding (KeepsOthers session c.args.block past.holding) (Fits n c.grant_waiting.new.self.rows) (owners_with past c.args._out.now) in
    subst P (sym (c.grant_waiting.ensures.nodes ∙ c.ask.ensures.nodes))
    (fits_wanted c.args.self.now.nodes rows new past c.args._out.now c.args._out.now session c.args.block fits
    (λ stand. c.in_ok-grant_waiting.ensures.stand (c.in_ok-ask.ensures.stand stand)) keeps (λ at. c.in_ok-grant_waiting.ensures.floor at ∙ c.in_ok-ask.ensures.floor at))

pub returns-clause-asks : goal.returns-clause-asks
returns-clause-asks c =
    let rows = c.args.self.now.rows in
    let new = c.grant_waiting.new.self.rows in
    let alike = c.in_ok-grant_waiting.ensures.alike ∙ c.in_ok-ask.ensures.alike in
    let P : ℕ → Type 0 = λ n. without_block c.args.block (asks_of (own_in n c.args.node) c.grant_waiting.new.self.rows n) ≡ without_block c.args.block (asks_of (own_in c.args.self.now.nodes c.args.node) c.args.self.now.rows c.args.self.now.nodes) in
    subst P (sym (c.grant_waiting.ensures.nodes ∙ c.ask.ensures.nodes)) (asks_wanted (own_in c.args.self.now.nodes c.args.node) rows new c.args.block c.args.self.now.nodes alike)

pub returns-clause-requests : goal.returns-clause-requests
returns-clause-requests c = λ other apart.
    let was = c.in_ok-ask.ensures.wants (other + 1) c.args.block (inl (λ (same : other + 1 ≡ c.from.result + 1). apart (omega (arith, same, c.from.ensures)))) in
    ⊎_elim (λ none. inl none) (λ same. inr (same ∙ was)) (c.in_ok-grant_waiting.ensures.wants (other + 1) c.args.block)

pub returns-clause-other_blocks : goal.returns-clause-other_blocks
returns-clause-other_blocks c = λ other at apart.
    let rows = c.args.self.now.rows in
    let new = c.grant_waiting.new.self.rows in
    let all = grants (c.from.result + 1) c.args.block rows c.ask.new.self.rows new c.in_ok-ask.ensures.others c.in_ok-grant_waiting.ensures.passes c.in_ok-grant_waiting.ensures.none_left in
    let alike = λ (session : ℕ). all.elsewhere session at apart in
    let H : ℕ → Type 0 = λ n. hold_of (own_in n other) (hold_in new) at ≡ hold_of (own_in c.args.self.now.nodes other) (hold_in rows) at in
    let holds = λ (session : ℕ). (alike session).hold in
    ((alike (other + 1)).want, subst H (sym (c.grant_waiting.ensures.nodes ∙ c.ask.ensures.nodes)) (same_of (own_in c.args.self.now.nodes other) (hold_in new) (hold_in rows) at holds))

pub returns-clause-wants : goal.returns-clause-wants
returns-clause-wants c =
    let rows = c.args.self.now.rows in
    let new = c.grant_waiting.new.self.rows in
    let same : c.from.result + 1 ≡ c.args.node + 1 = omega (arith, c.from.ensures) in
    let here = wants_then (c.from.result + 1) c.args.block rows c.ask.new.self.rows new c.in_ok-ask.ensures.others c.in_ok-grant_waiting.ensures.passes c.in_ok-grant_waiting.ensures.none_left c.args.mode c.in_ok-ask.ensures.here in
    let W : ℕ → Type 0 = λ n. (want_in c.grant_waiting.new.self.rows n c.args.block ≡ Some c.args.mode) ⊎ IsSomeAnd (hold_in c.grant_waiting.new.self.rows n c.args.block) (λ held. held.0 ≡ c.args.mode) in
    let O : ℕ → Type 0 = λ n. IsSome (own_in n c.args.node) in
    let own = subst O (sym (c.grant_waiting.ensures.nodes ∙ c.ask.ensures.nodes)) c.requires.session in
    let H : Option Hold → Type 0 = λ h. (want_in c.grant_waiting.new.self.rows (c.args.node + 1) c.args.block ≡ Some c.args.mode) ⊎ IsSomeAnd h (λ held. held.0 ≡ c.args.mode) in
    inl (subst H (sym (held_by_own c.grant_waiting.new.self.nodes c.args.node c.args.block new own)) (subst W same here))

pub returns-clause-grants : goal.returns-clause-grants
returns-clause-grants c =
    let rows = c.args.self.now.rows in
    let new = c.grant_waiting.new.self.rows in
    let same : c.from.result + 1 ≡ c.args.node + 1 = omega (arith, c.from.ensures) in
    let all = grants (c.from.result + 1) c.args.block rows c.ask.new.self.rows new c.in_ok-ask.ensures.others c.in_ok-grant_waiting.ensures.passes c.in_ok-grant_waiting.ensures.none_left in
    let is = answered_then (c.from.result + 1) c.args.block rows c.ask.new.self.rows new c.in_ok-ask.ensures.others c.in_ok-grant_waiting.ensures.passes c.in_ok-grant_waiting.ensures.none_left c.args.mode (c.in_ok-ask.ensures.lets c.args.mode) c.in_ok-ask.ensures.answered in
    let G : ℕ → Type 0 = λ n. Grants n c.args.block c.args.self.now.rows c.grant_waiting.new.self.rows in
    let A : ℕ → Type 0 = λ n. IsAnswered n c.args.block c.args.mode c.args.self.now.rows c.grant_waiting.new.self.rows in
    (subst G same all, subst A same is)
