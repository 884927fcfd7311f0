use Rattle.std.proofs.Common.{◌≡◌, ◌∙◌, ℕ, List, sym, ap, subst}
use Rattle.bx_facts.specs.Holds.{first_of}
use Rattle.bx_plain.specs.Asks.{asked_by}
use Rattle.bx_plain.specs.Rows.{hold_in}
use Rattle.bx_plain.specs.Tables.{gather, wanted}
use Rattle.bx_plain.proofs.Asking.{asked_gathered, asked_later, asked_now, is_none}
use Rattle.bx_plain.proofs.asks.first_by.Goals as goal

pub loop-block-init : goal.loop-block-init
loop-block-init c =
    let rows = c.args.rows.now in
    let keys = c.into_iter-block-iterator.ensures.into_iter_gives.0 in
    ap first_of (asked_gathered (hold_in rows c.args.session) c.args.by c.into_iter-block-iterator.result rows (subst (λ (blocks : List ℕ). wanted (gather blocks rows) ≡ wanted rows) (sym keys) c.waiting-block-items.ensures))

pub returns-then-is_some : goal.returns-then-is_some
returns-then-is_some c =
    let rows = c.args.rows.now in
    let held = hold_in rows c.args.session in
    asked_now held c.args.by c.in-Some.block.now c.next.new.self rows c.first_at-asked.result (sym c.if-is_some.ensures) c.first_at-asked.ensures
    ∙ ap (λ (blocks : List ℕ). first_of (asked_by held c.args.by (gather blocks rows))) (sym c.in-Some.ensures.steps)
    ∙ c.loop-block.invariant

pub loop-block-preserved : goal.loop-block-preserved
loop-block-preserved c =
    let rows = c.args.rows.now in
    let held = hold_in rows c.args.session in
    let none = sym c.first_at-asked.ensures ∙ is_none c.first_at-asked.result (sym c.if-is_some.ensures) in
    sym (asked_later held c.args.by c.in-Some.block.now c.next.new.self rows none)
    ∙ ap (λ (blocks : List ℕ). first_of (asked_by held c.args.by (gather blocks rows))) (sym c.in-Some.ensures.steps)
    ∙ c.loop-block.invariant
