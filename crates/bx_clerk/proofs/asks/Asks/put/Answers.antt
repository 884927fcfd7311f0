use Rattle.std.proofs.Common.{◌≡◌, ◌+◌, ◌∙◌, ℕ, List, ap, false, rules, sym}
use Rattle.bx_clerk.specs.Requests.{is_asked, with_ask}
use Rattle.bx_clerk.specs.Places.{asks_of, places_at}
use Rattle.bx_clerk.proofs.Placing.{Puts, back_kept, put_asks, put_kept, same_entries}
use Rattle.bx_clerk.proofs.asks.Asks.put.Goals as goal

pub invariant_of-self-then-is_err : goal.invariant_of-self-then-is_err
invariant_of-self-then-is_err c =
    let stays : (b : ℕ) → places_at c.put_at.new.blocks b ≡ places_at c.self.inside.blocks b = search rules in
    back_kept c.self.inside.next c.self.inside.line c.self.inside.blocks c.self.invariant c.args.block c.args.asking c.insert.new.self c.in_ok-insert.ensures.entries c.remove.new.self c.remove.ensures.entries c.remove.ensures.ordered c.put_at.new.blocks stays

pub returns-then-is_err-clause-err : goal.returns-then-is_err-clause-err
returns-then-is_err-clause-err c = ap asks_of (same_entries c.self.inside.next c.self.inside.line c.self.inside.blocks c.self.invariant c.args.block c.args.asking c.insert.new.self c.in_ok-insert.ensures.entries c.remove.new.self c.remove.ensures.entries) ∙ c.self.view_is

pub invariant_of-self-2 : goal.invariant_of-self-2
invariant_of-self-2 c =
    let puts : Puts c.self.inside.blocks c.args.block (c.args.asking, c.self.inside.next) c.put_at.new.blocks = search rules in
    let bound : c.in-Some.next ≡ c.self.inside.next + 1 = search rules in
    put_kept c.self.inside.next c.self.inside.line c.self.inside.blocks c.self.invariant c.args.block c.args.asking c.insert.new.self c.in_ok-insert.ensures.entries c.insert.ensures.ordered c.put_at.new.blocks puts c.in-Some.next bound

pub returns-clause-ok : goal.returns-clause-ok
returns-clause-ok c =
    let none : is_asked (c.args.block, c.args.asking) (asks_of c.self.inside.line.entries) ≡ false = ap (λ (asks : List (ℕ × ℕ)). is_asked (c.args.block, c.args.asking) asks) c.self.view_is ∙ sym c.is_asked.ensures ∙ c.if-is_asked.false in
    put_asks c.self.inside.next c.self.inside.line c.self.inside.blocks c.self.invariant c.args.block c.args.asking c.insert.new.self c.in_ok-insert.ensures.entries none ∙ ap (λ (asks : List (ℕ × ℕ)). with_ask (c.args.block, c.args.asking) asks) c.self.view_is
