use Rattle.std.proofs.Common.{◌≡◌, ◌+◌, ℕ, None, sym, subst, ◌∙◌}
use Rattle.bx_facts.specs.Holds.{first_of}
use Rattle.bx_plain.specs.Asks.{asked_of}
use Rattle.bx_plain.specs.Rows.{hold_in}
use Rattle.bx_plain.proofs.Asking.{asks_later, is_none}
use Rattle.bx_plain.proofs.asks.first_asked.Goals as goal

pub loop-node-preserved : goal.loop-node-preserved
loop-node-preserved c =
    let P : ℕ → Type 0 = λ n. first_of (asked_of (hold_in c.args.rows.now c.args.session) c.args.session (n + 1) c.args.rows.now) ≡ None in
    let none = subst P c.from.ensures (sym c.first_of_other-asked.ensures ∙ is_none c.first_of_other-asked.result (sym c.if-is_some.ensures)) in
    asks_later (hold_in c.args.rows.now c.args.session) c.args.session c.args.rows.now c.loop-node.node c.args.nodes c.loop-node-test.true none ∙ c.loop-node.invariant
